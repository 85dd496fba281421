-- A session with another global count, above its own, is as good.
use mathlib.Core.Path.{◌≡◌, sym, ap, ◌∙◌}
use mathlib.Core.Bool.{true, ◌&&◌}
use mathlib.Core.List.{List, [], map, append-nil}
use Prim.Native.Nat.{ℕ, ◌+◌, ◌<◌, ◌≤◌}
use native.Mathlib.Omega.{arith}
use lib.ListN.{length, get_or, set, take, drop, length-set}
use lib.Seq.{get_or-set_same, get_or-set_other}
use lib.Dec.{eqb, leb, T, leb→le}
use borrow.Author.Tests.{le-leb}
use Rattle.definition.specs.Basics.{all, from}
use Rattle.definition.specs.Names.{listed}
use Rattle.definition.proofs.Lists.Tests.{and_both, and_right, T_true, true_of, pick, eqb_of}
use Rattle.definition.proofs.Lists.Members.{from_mem, map_same}
use Rattle.session.specs.Words.{Room, fixed_bytes, entry_place, laid_place, class_place, member_place, session_size, count_after, name_bytes, entry_in, session_in}
use Rattle.session.specs.Words.{counts_fit, session_names_fit, entry_numbers_fit, numbers_fit, runs_fit}
use Rattle.session.proofs.SessionLaws.{clauses, limits, last_are}
use Rattle.session.proofs.Renaming.{all_from}
use Rattle.session.proofs.Extended.{Extends, entry_same, entry_fits_lem, count_same}

module _ (R : Room) (w n : List ℕ) (fit : runs_fit R w n ≡ true) (g : ℕ) (up : get_or w 0 0 ≤ g) where
  fits : T (runs_fit R w n)
  fits = T_true (runs_fit R w n) fit

  abbrev w' : List ℕ
  w' = set w 0 g

  other : (i : ℕ) → 0 < i → get_or w' i 0 ≡ get_or w i 0
  other i l = get_or-set_other w 0 i g 0 (λ e. omega arith)

  changed : get_or w' 0 0 ≡ g
  changed = get_or-set_same w 0 g 0 (omega (arith, leb→le (session_size R) (length w) (pick (limits R w n fits) (clauses R w n fits 0) 7)))

  bytes_same : name_bytes R w' n ≡ name_bytes R w n
  bytes_same = ap (λ (k : ℕ). take k (drop (length fixed_bytes) n)) (other 4 (omega arith))

  extends : Extends R w n w' n
  extends =
      record {
        globals = omega (arith, changed, up);
        counts = λ c l. omega (arith, other (3 + c) (omega arith));
        entry_rows = λ i k l h. other (entry_place R i + k) (omega arith);
        laid_rows = λ i k l h. other (laid_place R i + k) (omega arith);
        class_rows_lem = λ i k l h. other (class_place R i + k) (omega arith);
        member_rows = λ i k l h. other (member_place R i + k) (omega arith);
        more = [];
        listed_more = ap listed bytes_same ∙ sym (append-nil (listed (name_bytes R w n)));
      }

  pub global_held : session_in R w' n ≡ record { globals = g; entries = (session_in R w n).entries }
  global_held = rw (changed, other 1 (omega arith), entries)
    where
      entries : map (entry_in R w' n) (from 0 (get_or w 1 0)) ≡ map (entry_in R w n) (from 0 (get_or w 1 0))
      entries = map_same (entry_in R w' n) (entry_in R w n) (from 0 (get_or w 1 0)) (λ e m. entry_same R w n w' n fit extends e (omega (arith, from_mem e 0 (get_or w 1 0) m)))

  pub global_fits : g ≤ 1002048 → runs_fit R w' n ≡ true
  global_fits few = rw (counts_fit_lem, names_fit_lem, numbers_fit_lem)
    where
      counts_fit_lem : counts_fit R w' n ≡ true
      counts_fit_lem =
          rw (
            changed,
            other 1 (omega arith),
            other 3 (omega arith),
            other 4 (omega arith),
            other 5 (omega arith),
            other 6 (omega arith),
            other 7 (omega arith),
            length-set w 0 g,
            le-leb g 1002048 few,
          )
          (true_of _ (and_right (leb (get_or w 0 0) 1002048) _ (clauses R w n fits 0)))

      names_fit_lem : session_names_fit R w' n ≡ true
      names_fit_lem = rw (bytes_same, other 3 (omega arith)) (true_of (session_names_fit R w n) (clauses R w n fits 1))

      E : ℕ
      E = get_or w 1 0

      numbers_fit_lem : numbers_fit R w' n ≡ true
      numbers_fit_lem =
          rw (other 1 (omega arith))
          (true_of (all (entry_numbers_fit R w' n) (from 0 E) && all (λ c. eqb (count_after R w' n E c) (get_or w' (3 + c) 0)) (from 0 5))
          (and_both (all (entry_numbers_fit R w' n) (from 0 E)) (all (λ c. eqb (count_after R w' n E c) (get_or w' (3 + c) 0)) (from 0 5))
          (all_from (entry_numbers_fit R w' n) 0 E (λ e l. entry_fits_lem R w n w' n fit extends e (omega (arith, l))))
          (all_from (λ c. eqb (count_after R w' n E c) (get_or w' (3 + c) 0)) 0 5 (λ c l.
          eqb_of (count_after R w' n E c) (get_or w' (3 + c) 0)
          (count_same R w n w' n fit extends E c (omega arith) (omega (arith, l)) ∙ last_are R w n fits c (omega (arith, l)) ∙ sym (other (3 + c) (omega arith)))))))
