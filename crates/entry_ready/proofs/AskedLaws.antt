-- The outcome of an entry by the first no before the walk.
use mathlib.Core.Path.{◌≡◌, refl, sym, ◌∙◌}
use mathlib.Core.Bool.{Bool, true, false, not}
use mathlib.Core.List.{List}
use Prim.Native.Nat.{ℕ}
use lib.Dec.{eqb}
use borrow.Author.Tests.{eq-eqb, ne_eqb}
use Rattle.definition.specs.Basics.{when◌then◌else◌}
use Rattle.definition.specs.Names.{names_fit, name_count}
use Rattle.definition.specs.Sheet.{Sheet}
use Rattle.definition.specs.Format.{sheet_fits, depths_fit}
use Rattle.definition.specs.Outcome.{Outcome, refused, rows_fit}
use Rattle.first_four.specs.Questions.{first_four}
use Rattle.session.specs.Session.{Session}
use Rattle.session.specs.Enter.{entry_fits, asked_in, entered}
use Rattle.entry_ready.specs.Asked.{fits_over, entry_no}

-- the first no, as it is asked
module _ (g : ℕ) (s : Sheet) (ns : List ℕ) {n : ℕ} (e : n ≡ first_four s ns) where
  pub no_four : (n ≡ 0 → ⊥) → n ≡ entry_no g s ns
  no_four f = e ∙ sym (rw (ne_eqb (first_four s ns) 0 (λ z. f (e ∙ z))))

  pub no_session : n ≡ 0 → {x : Bool} → x ≡ fits_over g s → x ≡ false → 23 ≡ entry_no g s ns
  no_session z h d = rw (eq-eqb (first_four s ns) 0 (sym e ∙ z), ← h, d)

  pub no_none : n ≡ 0 → {x : Bool} → x ≡ fits_over g s → x ≡ true → 0 ≡ entry_no g s ns
  no_none z h d = rw (eq-eqb (first_four s ns) 0 (sym e ∙ z), ← h, d)

-- the outcome by it
pub entered_by : (S : Session) (s : Sheet) (ns : List ℕ) (lent : ℕ)
    → entered S s ns lent ≡ (when eqb (entry_no S.globals s ns) 0 then asked_in S s ns lent else refused (entry_no S.globals s ns))
entered_by S s ns lent = go (rows_fit s) (names_fit ns) (sheet_fits (name_count ns) s) (depths_fit s) (entry_fits S s)
  where
    q : Outcome
    q = asked_in S s ns lent

    go : (x y z w t : Bool)
        → (when not x then refused 1 else when not y then refused 2 else when not z then refused 3 else when not w then refused 4 else when not t then refused 23 else q)
        ≡ (when eqb (when eqb (when not x then 1 else when not y then 2 else when not z then 3 else when not w then 4 else 0) 0 then (when t then 0 else 23)
        else (when not x then 1 else when not y then 2 else when not z then 3 else when not w then 4 else 0)) 0 then q
        else refused (when eqb (when not x then 1 else when not y then 2 else when not z then 3 else when not w then 4 else 0) 0 then (when t then 0 else 23)
        else (when not x then 1 else when not y then 2 else when not z then 3 else when not w then 4 else 0)))
    go false y z w t = refl
    go true false z w t = refl
    go true true false w t = refl
    go true true true false t = refl
    go true true true true false = refl
    go true true true true true = refl
