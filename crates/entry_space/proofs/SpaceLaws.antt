-- What entering over the words that are written says of the session.
use mathlib.Core.Path.{subst}
use mathlib.Core.List.{List}
use Prim.Native.Nat.{ℕ}
use lib.Dec.{leb→le}
use lib.ListN.{get_or}
use Rattle.definition.specs.Names.{Name}
use Rattle.definition.specs.Sheet.{Sheet}
use Rattle.answer.specs.declared.Answer.{Answer}
use Rattle.session.specs.Entry.{new_names}
use Rattle.session.specs.Words.{whole, session_in}
use Rattle.session.proofs.SessionLaws.{runs_of}
use Rattle.session.proofs.CountLaws.{limits}
use Rattle.try_entry.specs.Tried.{Over}
use Rattle.enter_entry.specs.EnteredOver.{Enterable, EnteredOver}
use Rattle.prepare_entry.specs.Told.{Told, Written}
use Rattle.prepare_entry.proofs.SpaceLaws.{held, past, one, few}
use Rattle.entry_space.specs.Space.{EnteredIn, EnteredTold}

pub enterable : {w : List ℕ} {s : Sheet} {numbers : List ℕ} {new bytes : ℕ} {n ns : List ℕ} → Told w s numbers new bytes n ns
    → {o c : List ℕ} → Written w s numbers o c → Enterable w o c
enterable {w} {n = n} h m =
    record {
      past = past h m;
      one = one h m;
      few = few h m;
      entries = leb→le (get_or w 1 0) 1000 (limits whole w n (runs_of whole w n h.fits) 1);
      laid = leb→le (get_or w 5 0) 4096 (limits whole w n (runs_of whole w n h.fits) 4);
      classes = leb→le (get_or w 6 0) 1024 (limits whole w n (runs_of whole w n h.fits) 5);
      members = leb→le (get_or w 7 0) 8192 (limits whole w n (runs_of whole w n h.fits) 6);
    }

pub entered_told : {w : List ℕ} {s : Sheet} {numbers : List ℕ} {new bytes lent : ℕ} {o c : List ℕ} {x : Answer} {out w' : List ℕ}
    → Written w s numbers o c → EnteredOver w o c new bytes lent x out w' → EnteredTold w s numbers new bytes lent x out w'
entered_told {w} {s} {new = new} {bytes} {lent} {o} {x = x} {out} {w'} m r n ns h =
    let ms : List Name = new_names (session_in whole w n) ns in
    let k : Over w o new bytes n ms = record { fits = h.fits; outside = held h m; names = h.counted; sized = h.sized } in
    subst (λ (t : Sheet). EnteredIn w t lent x out w' n ms) (m.copied n ns h.told) (record { asked = r.asked n ms k; words = r.words n ms k })
