-- What callers cite of the contracts, and what ties the exported routines to those they call. Assumes nothing.
use mathlib.Core.Path.{◌≡◌, refl, sym, ap, subst, ◌∙◌}
use mathlib.Core.Bool.{Bool, true, false, ◌&&◌}
use mathlib.Core.List.{List, [], ◌∷◌}
use Prim.Native.Nat.{ℕ, ◌-◌, ◌<◌}
use native.Mathlib.Omega.{arith}
use lib.ListN.{length, get_or}
use lib.Dec.{eqb, leb}
use borrow.Author.Tests.{eqb-true}
use Rattle.definition.specs.Basics.{when◌then◌else◌}
use Rattle.definition.specs.Sheet.{Sheet}
use Rattle.definition.specs.Outcome.{outcome, report, rows_of_words}
use Rattle.definition.specs.Claims.{Demand3}
use Rattle.definition.specs.Outside.{core}
use Rattle.definition.proofs.Format.Accepted.{good_outcome}
use Rattle.answer.specs.declared.Answer.{Answer}
use Rattle.report.specs.Report.{fitted, report_line, told_by}
use Rattle.report.proofs.Laws.{told_line, line_first}
use Rattle.resolver.specs.Answered.{Answered}
use Rattle.name_index.specs.Index.{find}
use Rattle.session.specs.Session.{outside_of}
use Rattle.session.specs.Entry.{entry_sheet}
use Rattle.session.specs.Words.{whole, name_text, session_in, enter_outcome}
use Rattle.prompt.specs.Entered.{Entered}
use Rattle.preview.specs.Previewed.{Previewed}
use Rattle.session.specs.Withdraw.{withdraw_outcome}
use Rattle.withdrawal.specs.Withdrawn.{Withdrawn}
use Rattle.name_place.specs.declared.Place.{Place}
use Rattle.name_place.specs.Place.{bytes_before, nowhere, place_of, text_at, NamePlaced}
use Rattle.plush.specs.Resolved.{Resolved}
use Rattle.plush.specs.SessionEntered.{SessionEntered}
use Rattle.plush.specs.SessionPreviewed.{SessionPreviewed}
use Rattle.plush.specs.SessionWithdrawn.{SessionWithdrawn}
use Rattle.unit_order.specs.Order.{order_outcome}
use Rattle.order_units.specs.Ordered.{Ordered}
use Rattle.plush.specs.UnitsOrdered.{UnitsOrdered}
use Rattle.plush.specs.Found.{NameFound}
use Rattle.plush.specs.Named.{place_words, NameTold}

-- With fewer than 2^35 lent words the report's line is the first that the program prints.
pub line_exact : (s : Sheet) (ns : List ℕ) (lent : ℕ) → lent < 34359738368
    → report_line (outcome s ns lent) ≡ get_or (report (outcome s ns lent)) 0 []
line_exact s ns lent l = line_first (outcome s ns lent) (omega (arith, (good_outcome lent s ns).1))

-- what `resolve` answers, with its line in the report words
pub resolved : (s : Sheet) (ns : List ℕ) (lent room : ℕ) (x : Answer) (w line r : List ℕ)
    → Answered s ns lent x w → line ≡ told_by x → r ≡ fitted room line → Resolved s ns lent room x.number w r
resolved s ns lent room x w line r a e f = record {
  number = a.tells.number;
  words = a.words;
  report = f ∙ ap (fitted room) (e ∙ told_line (outcome s ns lent) x a.tells);
  closures = λ z. subst (λ (k : ℕ). Demand3 core s (rows_of_words k w)) a.tells.rows (a.closures z);
}

-- what `enter` answers, with its line in the report words
pub session_entered : (w n : List ℕ) (s : Sheet) (ns : List ℕ) (lent room : ℕ) (x : Answer) (out line r w' n' : List ℕ)
    → Entered w n s ns lent x out w' n' → line ≡ told_by x → r ≡ fitted room line → SessionEntered w n s ns lent room x.number out r w' n'
session_entered w n s ns lent room x out line r w' n' a e f = record {
  number = a.tells.number;
  words = a.words;
  report = f ∙ ap (fitted room) (e ∙ told_line (enter_outcome whole w n s ns lent) x a.tells);
  session = a.session;
  bytes = a.bytes;
  fits = a.fits;
  held = a.held;
  shown = a.shown;
  closures =
      λ z.
      subst (λ (k : ℕ). Demand3 (outside_of (session_in whole w n)) (entry_sheet (session_in whole w n) ns s) (rows_of_words k out)) a.tells.rows (a.closures z);
}

-- what `preview` answers, with its line in the report words
pub session_previewed : (w n : List ℕ) (s : Sheet) (ns : List ℕ) (lent room : ℕ) (x : Answer) (out line r : List ℕ)
    → Previewed w n s ns lent x out → line ≡ told_by x → r ≡ fitted room line → SessionPreviewed w n s ns lent room x.number out r
session_previewed w n s ns lent room x out line r a e f = record {
  number = a.tells.number;
  words = a.words;
  report = f ∙ ap (fitted room) (e ∙ told_line (enter_outcome whole w n s ns lent) x a.tells);
  shown = a.shown;
  closures =
      λ z.
      subst (λ (k : ℕ). Demand3 (outside_of (session_in whole w n)) (entry_sheet (session_in whole w n) ns s) (rows_of_words k out)) a.tells.rows (a.closures z);
}

-- what `withdraw` answers, with its line in the report words
pub session_withdrawn : (w n : List ℕ) (room : ℕ) (x : Answer) (line r w' : List ℕ) → Withdrawn w n x w' → line ≡ told_by x → r ≡ fitted room line
    → SessionWithdrawn w n room x.number r w'
session_withdrawn w n room x line r w' a e f = record {
  number = a.tells.number;
  report = f ∙ ap (fitted room) (e ∙ told_line (withdraw_outcome whole w n) x a.tells);
  session = a.session;
  fits = a.fits;
  held = a.held;
  shown = a.shown;
}

-- what `order_units` answers, with its line in the report words
pub units_ordered : (s : Sheet) (ns : List ℕ) (lent room : ℕ) (x : Answer) (w line r : List ℕ)
    → Ordered s ns lent x w → line ≡ told_by x → r ≡ fitted room line → UnitsOrdered s ns lent room x.number w r
units_ordered s ns lent room x w line r a e f = record {
  number = a.tells.number;
  words = a.words;
  report = f ∙ ap (fitted room) (e ∙ told_line (order_outcome s ns lent) x a.tells);
  claims = a.claims;
}

-- what `find_name` answers, in the lent words
pub found_told : (ns b : List ℕ) (room n p : ℕ) (w : List ℕ) → (n ≡ (find ns b).0) × (p ≡ (find ns b).1) → w ≡ fitted room (n ∷ p ∷ [])
    → NameFound ns b room n w
found_told ns b room n p w e f = record {
  number = e.0;
  words =
      f
      ∙ ap (λ (k : ℕ). fitted room (k ∷ p ∷ [])) e.0
      ∙ ap (λ (k : ℕ). fitted room ((find ns b).0 ∷ k ∷ [])) e.1;
}

-- a place tells how many bytes stand there
place_size : (n ns : List ℕ) (o : Bool) (k size : ℕ) → (place_of n ns o k size).length ≡ size
place_size n ns o k size = by (eqb size 0) (o && leb 25 k) refl
  where
    by : (z t : Bool) → eqb size 0 ≡ z
        → (when z then nowhere else when t then record { list = 1; start = bytes_before (k - 25) ns; length = size }
        else record { list = 0; start = bytes_before (k - 1) n; length = size }).length ≡ size
    by true t e = sym (eqb-true size 0 e)
    by false true e = refl
    by false false e = refl

-- where the text of a name stands, in the lent words
pub name_told : (w n ns : List ℕ) (o : Bool) (k room : ℕ) (x : Place) (v : List ℕ) → NamePlaced w n ns o k x → v ≡ fitted room (place_words x)
    → NameTold w n ns o k room x.length v
name_told w n ns o k room x v h e =
    let size : x.length ≡ length (name_text whole w n ns o k) = ap (λ (p : Place). p.length) h.place ∙ place_size n ns o k _ in
    let same : x ≡ place_of n ns o k x.length = h.place ∙ ap (place_of n ns o k) (sym size) in
    record { size = size; words = e ∙ ap (λ (p : Place). fitted room (place_words p)) same; text = ap (text_at n ns) (sym same) ∙ h.text }
