-- What a preview comes to: refused before the walk, or asked on.
-- a session past question 23 has at most 1,000 entries
use mathlib.Core.Path.{◌≡◌, sym, ap, ◌∙◌, subst}
use mathlib.Core.List.{List}
use Prim.Native.Nat.{ℕ}
use Prim.Native.Nat.{◌≤◌}
use lib.Dec.{leb→le}
use lib.ListN.{get_or, replicate}
use Rattle.definition.specs.Names.{Name}
use Rattle.definition.specs.Sheet.{Sheet}
use Rattle.definition.specs.Outcome.{Outcome, refused}
use Rattle.answer.specs.declared.Answer.{Answer}
use Rattle.answer.specs.Tells.{Tells}
use Rattle.finish.proofs.SettledLaws.{zeros_words}
use Rattle.session.specs.Entry.{new_names, to_entry}
use Rattle.session.specs.Words.{whole, session_in, enter_outcome}
use Rattle.session.proofs.SessionLaws.{runs_of, shown_is}
use Rattle.session.proofs.CountLaws.{limits}
use Rattle.entry_ready.specs.Over.{AskedOver}
use Rattle.try_entry.specs.declared.Tried.{Tried}
use Rattle.try_entry.specs.Tried.{Over, TriedOver}
use Rattle.prepare_entry.specs.Told.{Told, Written}
use Rattle.prepare_entry.proofs.SpaceLaws.{held}
use Rattle.prepare_entry.proofs.OutcomeLaws.{no_before, refused_before, entry_tells, entry_words, entry_closures}
use Rattle.preview.specs.Previewed.{Previewed, AskedTold}

pub few_entries : {w : List ℕ} {s : Sheet} {numbers : List ℕ} {new bytes : ℕ} {n ns : List ℕ} → Told w s numbers new bytes n ns → get_or w 1 0 ≤ 1000
few_entries {w} {n = n} h = leb→le (get_or w 1 0) 1000 (limits whole w n (runs_of whole w n h.fits) 1)

-- what is tried over the words that are written is asked over the session
pub asked_told : {w : List ℕ} {s : Sheet} {numbers : List ℕ} {new bytes lent : ℕ} {o c : List ℕ} {x : Tried} {out : List ℕ}
    → Written w s numbers o c → TriedOver w o c new bytes lent x out → AskedTold w s numbers new bytes lent x.answer out
asked_told {w} {s} {new = new} {bytes} {lent} {o} {x = x} {out} m r n ns h =
    let ms : List Name = new_names (session_in whole w n) ns in
    let k : Over w o new bytes n ms = record { fits = h.fits; outside = held h m; names = h.counted; sized = h.sized } in
    subst (λ (t : Sheet). AskedOver (session_in whole w n) t ms lent x.answer out) (m.copied n ns h.told) (r.asked n ms k)

module _ (w n : List ℕ) (s : Sheet) (ns : List ℕ) (lent : ℕ) where
  pub previewed_no : {k : ℕ} → k ≡ no_before w n s ns → (k ≡ 0 → ⊥) → {x : Answer} {out : List ℕ} → Tells (refused k) x → out ≡ replicate lent 0
      → Previewed w n s ns lent x out
  previewed_no {k} is f {x} {out} t z =
      let e : enter_outcome whole w n s ns lent ≡ refused k = refused_before w n s ns lent is f in
      record {
        tells = subst (λ (o : Outcome). Tells o x) (sym e) t;
        words = zeros_words lent (enter_outcome whole w n s ns lent) out (ap (λ (o : Outcome). o.rows) e) z;
        shown = shown_is whole w n;
        closures = λ h. absurd (f (sym t.number ∙ h));
      }

  pub previewed_on : {numbers : List ℕ} {new bytes : ℕ} → (told : Told w s numbers new bytes n ns) → {y x : Answer} {out : List ℕ}
      → AskedTold w s numbers new bytes lent y out
      → x ≡ record { number = y.number; pos = y.pos; name = x.name; rows = y.rows; globals = y.globals }
      → x.name ≡ to_entry (session_in whole w n) ns y.name → Previewed w n s ns lent x out
  previewed_on told asked same named =
      record {
        tells = entry_tells w n s ns lent told.fits told.none (asked n ns told) same named;
        words = entry_words w n s ns lent told.fits told.none (asked n ns told) same named;
        shown = shown_is whole w n;
        closures = entry_closures w n s ns lent told.fits told.none (asked n ns told) same named;
      }
