-- Class rows, and parents of classes.
use mathlib.Core.Path.{◌≡◌, sym, ap, ◌∙◌}
use mathlib.Core.Bool.{Bool, true, false, not, ◌&&◌}
use Prim.Native.Nat.{ℕ, ◌-◌}
use lib.Dec.{leb}
use borrow.Author.Tests.{eq-eqb, ne_eqb, eqb-true}
use Rattle.definition.specs.Basics.{when◌then◌else◌}
use Rattle.definition.specs.Sheet.{Sheet, kind, is}
use Rattle.definition.specs.Outside.{Outside}
use Rattle.definition.specs.Classes.{of_sheet, has_record}
use Rattle.definition.proofs.Lists.Tests.{and_right, T_true, true_of}
use Rattle.machine.specs.Machine.{Store, cell}
use Rattle.after.specs.Inherited.{parent_in}
use Rattle.inherit.specs.Answered.{lacks_record}

module _ (s : Sheet) (c : ℕ) where
  pub row_kind : of_sheet s c ≡ true → kind s (c - 256) ≡ 4
  row_kind h = eqb-true (kind s (c - 256)) 4 (true_of (is s 4 (c - 256)) (and_right (leb 256 c) (is s 4 (c - 256)) (T_true (of_sheet s c) h)))

module _ (s : Sheet) (o : Store) (c : ℕ) where
  pub parent_stored : {w : ℕ} → w ≡ cell o.table (c - 256) 1 → of_sheet s c ≡ true → w ≡ parent_in s o c
  unfolding parent_in
  parent_stored e h = e ∙ sym (ap (λ (t : Bool). when t then cell o.table (c - 256) 1 else 0) h)

  pub parent_none : of_sheet s c ≡ false → 0 ≡ parent_in s o c
  unfolding parent_in
  parent_none h = sym (ap (λ (t : Bool). when t then cell o.table (c - 256) 1 else 0) h)

-- parents without a record
pub lacks_some : (O : Outside) (s : Sheet) (c : ℕ) {h : Bool} → h ≡ has_record O s c → (c ≡ 0 → ⊥) → not h ≡ lacks_record O s c
lacks_some O s c e f = ap not e ∙ sym (ap (λ (t : Bool). not t && not (has_record O s c)) (ne_eqb c 0 f))

pub lacks_none : (O : Outside) (s : Sheet) (c : ℕ) → c ≡ 0 → false ≡ lacks_record O s c
lacks_none O s c e = sym (ap (λ (t : Bool). not t && not (has_record O s c)) (eq-eqb c 0 e))
