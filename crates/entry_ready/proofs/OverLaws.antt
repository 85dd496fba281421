-- The outcome of an entry from that of its sheet with the session's name numbers.
use mathlib.Core.Path.{◌≡◌, refl, sym, ap, ◌∙◌}
use mathlib.Core.Bool.{Bool, true, false, not}
use mathlib.Core.List.{List}
use Prim.Native.Nat.{ℕ, ◌*◌}
use lib.Dec.{eqb, leb}
use lib.ListN.{length}
use borrow.Author.Tests.{eqb-true, eqb-false}
use Rattle.definition.specs.Basics.{when◌then◌else◌}
use Rattle.definition.specs.Sheet.{Sheet}
use Rattle.definition.specs.Scope.{history}
use Rattle.definition.specs.Slots.{final_globals}
use Rattle.definition.specs.Question.{Refusal, refusal}
use Rattle.definition.specs.Answer.{answers, raised}
use Rattle.definition.specs.Outside.{Outside}
use Rattle.definition.specs.Outcome.{Outcome, refused, refused_at, asked}
use Rattle.session.specs.Session.{Session, outside_of, within}
use Rattle.session.specs.Entry.{new_names, to_entry, entry_sheet}
use Rattle.session.specs.Enter.{renamed, accepting, asked_in}
use Rattle.entry_ready.specs.Over.{asked_over}

-- an accepted outcome asks about no name
no_name : (O : Outside) (lent : ℕ) (t : Sheet) → (asked O lent t).number ≡ 0 → (asked O lent t).name ≡ 0
no_name O lent t = by (eqb r.number 0) refl (leb (8 * length out) lent)
  where
    r : Refusal
    r = refusal O t (history O t)

    out : List (List ℕ)
    out = raised O.base (answers O t (history O t))

    by : (u : Bool) → eqb r.number 0 ≡ u → (v : Bool)
        → (when u then (when v then record { number = 0; file = 0; line = 0; column = 0; name = 0; rows = out; globals = final_globals t (history O t) } else refused 22)
        else refused_at r.number t r.at r.name).number ≡ 0
        → (when u then (when v then record { number = 0; file = 0; line = 0; column = 0; name = 0; rows = out; globals = final_globals t (history O t) } else refused 22)
        else refused_at r.number t r.at r.name).name ≡ 0
    by true e true h = refl
    by true e false h = refl
    by false e v h = absurd (eqb-false r.number 0 e h)

-- the entry's own number of the name is the only difference
pub asked_in_lem : (S : Session) (s : Sheet) (ns : List ℕ) (lent : ℕ)
    → asked_in S s ns lent ≡ renamed (to_entry S ns) (asked_over S (entry_sheet S ns s) (new_names S ns) lent)
asked_in_lem S s ns lent = by (eqb x.number 0) refl (within (accepting S s ns lent x))
  where
    x : Outcome
    x = asked (outside_of S) lent (entry_sheet S ns s)

    to : ℕ → ℕ
    to = to_entry S ns

    same : x.number ≡ 0 → x ≡ renamed to x
    same e = let z = no_name (outside_of S) lent (entry_sheet S ns s) e in ap (λ (k : ℕ). renamed (λ m. k) x) (z ∙ sym (ap to z))

    by : (u : Bool) → eqb x.number 0 ≡ u → (v : Bool)
        → (when not u then renamed to x else when v then x else refused 24) ≡ renamed to (when not u then x else when v then x else refused 24)
    by true e true = same (eqb-true x.number 0 e)
    by true e false = refl
    by false e v = refl
