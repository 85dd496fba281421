-- The buffer of an accepted entry holds its answer rows.
use mathlib.Core.Path.{◌≡◌, refl, ap, ◌∙◌}
use mathlib.Core.Bool.{Bool, true, false}
use mathlib.Core.List.{List}
use Prim.Native.Nat.{ℕ, ◌-◌, ◌*◌, ◌≤◌}
use native.Mathlib.Omega.{arith}
use lib.Dec.{eqb, leb}
use lib.ListN.{length, replicate, length-append}
use borrow.Author.Tests.{eqb-false}
use Rattle.definition.specs.Basics.{when◌then◌else◌, concat_map}
use Rattle.definition.specs.Sheet.{Sheet}
use Rattle.definition.specs.Outside.{Outside, based}
use Rattle.definition.specs.Scope.{history}
use Rattle.definition.specs.Slots.{final_globals}
use Rattle.definition.specs.Question.{Refusal, refusal}
use Rattle.definition.specs.Answer.{answers, raised}
use Rattle.definition.specs.Outcome.{Outcome, refused_at, refused, asked, buffer, rows_of_words}
use Rattle.definition.proofs.Format.Accepted.{Eights, good_asked, rows_back, flat_length}

-- the rows of an outcome without a refusal
accepted_rows : (O : Outside) (lent : ℕ) (s : Sheet) → (asked O lent s).number ≡ 0 → (asked O lent s).rows ≡ raised O.base (answers O s (history O s))
accepted_rows O lent s = go (eqb x.number 0) refl (leb (8 * length out) lent)
  where
    x : Refusal
    x = refusal O s (history O s)

    out : List (List ℕ)
    out = raised O.base (answers O s (history O s))

    came : Bool → Bool → Outcome
    came t u =
        when t then (when u then record { number = 0; file = 0; line = 0; column = 0; name = 0; rows = out; globals = final_globals s (history O s) } else refused 22)
        else refused_at x.number s x.at x.name

    go : (t : Bool) → eqb x.number 0 ≡ t → (u : Bool) → (came t u).number ≡ 0 → (came t u).rows ≡ out
    go true e true z = refl
    go true e false z = absurd (omega (arith, z))
    go false e u z = absurd (eqb-false x.number 0 e z)

-- its k rows in the words of its buffer
pub held_rows : (O : Outside) (n lent : ℕ) (s : Sheet) {k : ℕ} {w : List ℕ} → (asked (based O n) lent s).number ≡ 0
    → k ≡ length (asked (based O n) lent s).rows → w ≡ buffer lent (asked (based O n) lent s)
    → (8 * k ≤ length w) × (rows_of_words k w ≡ raised n (answers O s (history O s)))
held_rows O n lent s {k} {w} z counted held = (
  omega (arith, counted, ap length held, length-append (concat_map (λ r. r) rs) zeros, flat_length eights),
  ap (λ (i : ℕ). rows_of_words i w) counted ∙ ap (rows_of_words (length rs)) held ∙ rows_back rs zeros eights ∙ accepted_rows (based O n) lent s z,
)
  where
    rs : List (List ℕ)
    rs = (asked (based O n) lent s).rows

    zeros : List ℕ
    zeros = replicate (lent - 8 * length rs) 0

    eights : Eights rs
    eights = (good_asked lent (based O n) s).0
