-- The nodes of rows one after another.
use mathlib.Core.Path.{◌≡◌, ap, ◌∙◌}
use mathlib.Core.List.{[], ◌∷◌}
use Prim.Native.Nat.{ℕ, suc, ◌+◌}
use native.Mathlib.Omega.{arith}
use Rattle.definition.specs.Basics.{total, from}
use Rattle.definition.specs.Sheet.{Sheet, rows}
use Rattle.definition.proofs.Lists.Members.{total_append}
use Rattle.definition.proofs.Format.Passes.{from_suc}
use Rattle.machine.specs.Space.{nodes_of, nodes_for}

-- one row more
pub nodes_more : (s : Sheet) (r : ℕ) {n k : ℕ} → n ≡ total (nodes_of s) (from 0 r) → k ≡ nodes_of s r → n + k ≡ total (nodes_of s) (from 0 (r + 1))
nodes_more s r {n} {k} e f =
    let q : r + 1 ≡ suc r = omega arith in
    omega (
      arith,
      e,
      f,
      ap (λ (j : ℕ). total (nodes_of s) (from 0 j)) q,
      ap (total (nodes_of s)) (from_suc r),
      total_append (nodes_of s) (from 0 r) (r ∷ []),
    )

pub nodes_all : (s : Sheet) (r : ℕ) {n : ℕ} → n ≡ total (nodes_of s) (from 0 r) → r ≡ rows s → n ≡ nodes_for s
unfolding nodes_for
nodes_all s r e f = e ∙ ap (λ (j : ℕ). total (nodes_of s) (from 0 j)) f
