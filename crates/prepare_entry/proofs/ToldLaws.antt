-- The numbers that an entry's names are told by, in a session past question 23: how many there are, and that names lie in the lent bytes.
use mathlib.Core.Path.{◌≡◌, sym, ap, ◌∙◌, subst}
use mathlib.Core.Bool.{true, false, not}
use mathlib.Core.List.{List}
use Prim.Native.Nat.{ℕ, suc, ◌+◌, ◌-◌, ◌≤◌}
use native.Mathlib.Omega.{arith}
use lib.Dec.{leb→le}
use lib.ListN.{length, get_or, take, length-append, length-map}
use Rattle.definition.specs.Basics.{any, unlike, from}
use Rattle.definition.specs.Names.{Name, fixed, listed, same_name, names_fit}
use Rattle.definition.specs.Sheet.{Sheet}
use Rattle.session.proofs.SessionLaws.{from_length, runs_of}
use Rattle.names.specs.Listed.{numbered}
use Rattle.names.proofs.Question.{fit_small}
use Rattle.session.specs.Session.{Session, all_names}
use Rattle.session.specs.Entry.{new_names, names_with, to_session}
use Rattle.session.specs.Words.{whole, name_bytes, session_in, runs_fit, session_fits}
use Rattle.session.proofs.NameLaws.{names_apart_lem}
use Rattle.session.proofs.HeldRuns.{held_names}
use Rattle.session.proofs.CountLaws.{list_fits, limits}
use Rattle.entry_names.specs.Told.{NamesTold}
use Rattle.entry_ready.specs.Asked.{entry_no}
use Rattle.entry_ready.proofs.PastLaws.{passed, shorter}
use Rattle.prepare_entry.specs.declared.Prepared.{Prepared}
use Rattle.ast.specs.declared.question.Question.{Question}
use Rattle.ast.specs.declared.question.Question.TheVariants.{Session as QSession}
use Rattle.ast.specs.Question.{question_number}
use Rattle.std.proofs.Common.{Result, Ok, Err, refl}
use Rattle.std.specs.Result.{IsErrAnd}
use Rattle.prepare_entry.specs.Told.{Told, PreparedFor}

module _ (w n : List ℕ) (fit : session_fits whole w n ≡ true) where
  abbrev S : Session
  S = session_in whole w n

  abbrev l : List ℕ
  l = name_bytes whole w n

  runs : runs_fit whole w n ≡ true
  runs = runs_of whole w n fit

  -- the session's names are those of its list, and no two the same
  pub listed_all : all_names (session_in whole w n) ≡ numbered (name_bytes whole w n)
  listed_all = held_names whole w n runs

  pub all_apart : unlike same_name (all_names (session_in whole w n)) ≡ true
  all_apart = subst (λ (k : List Name). unlike same_name k ≡ true) (sym listed_all) (names_apart_lem l (list_fits whole w n runs))

  -- the listed names lie in the bytes
  pub list_inside : 168 + get_or w 4 0 ≤ length n
  list_inside = omega (arith, leb→le (get_or w 4 0) 32768 (limits whole w n runs 3), leb→le (168 + 32768) (length n) (limits whole w n runs 8))

  pub list_all : {k : List ℕ} → k ≡ name_bytes whole w n → all_names (session_in whole w n) ≡ numbered k
  list_all e = listed_all ∙ ap numbered (sym e)

  module _ {k : ℕ} {ns : List ℕ} (same : ns ≡ name_bytes whole w n) (counted : k ≡ length (listed ns) + 1) where
    many : length (listed ns) ≡ length (listed (name_bytes whole w n))
    many = ap (λ (l : List ℕ). length (listed l)) same

    pub starts_few : k ≤ 1025
    starts_few = omega (arith, counted, many, (fit_small l (list_fits whole w n runs)).0)

    -- the first new number
    pub first_is : 24 + k ≡ suc (length (all_names (session_in whole w n)))
    first_is = omega (arith, counted, many, ap length listed_all, length-append fixed (listed l))

  pub first_few : {k : ℕ} → k ≡ suc (length (all_names (session_in whole w n))) → k ≤ 1049
  first_few e = omega (arith, e, ap length listed_all, length-append fixed (listed l), (fit_small l (list_fits whole w n runs)).0)

-- of an entry's names
module _ {w : List ℕ} {s : Sheet} {numbers : List ℕ} {new size : ℕ} {n ns : List ℕ} (h : Told w s numbers new size n ns) where
  pub names_good : names_fit ns ≡ true
  names_good = (passed (get_or w 0 0) s ns h.none).names_fit_lem

  pub new_few : new ≤ 1024
  new_few =
      omega (arith, h.counted, shorter (λ x. not (any (same_name x) (all_names (session_in whole w n)))) (listed ns), (fit_small ns names_good).0)

  pub numbers_few : length numbers ≤ 1024
  numbers_few =
      omega (
        arith,
        ap length h.told,
        length-map (from 25 (length (listed ns))) (to_session (session_in whole w n) ns),
        from_length 25 (length (listed ns)),
        (fit_small ns names_good).0,
      )

  -- the last number of the session's and the new names
  pub last_is : {k : ℕ} → k ≡ suc (length (all_names (session_in whole w n))) → k - 1 + new ≡ length (names_with (session_in whole w n) ns)
  last_is {k} e =
      omega (arith, e, h.counted, length-append (all_names (session_in whole w n)) (new_names (session_in whole w n) ns))

-- of numbers as they are told, in words that may be more
module _ (w : List ℕ) (s : Sheet) (n ns : List ℕ) {count new size : ℕ} {numbers : List ℕ} (fit : session_fits whole w n ≡ true)
    (none : entry_no (get_or w 0 0) s ns ≡ 0) (t : NamesTold (session_in whole w n) ns count new size numbers) where
  pub all_told : Told w s (take count numbers) new size n ns
  all_told = record { fits = fit; none = none; told = t.told; counted = t.new_counted; sized = t.bytes_counted }

  pub count_few : count ≤ 1024
  count_few = omega (arith, t.counted, (fit_small ns (passed (get_or w 0 0) s ns none).names_fit_lem).0)

-- what preparing comes to: a session that is refused, an entry that is refused, and one whose names are told
module _ (w n : List ℕ) (s : Sheet) (ns : List ℕ) {numbers : List ℕ} where
  pub prepared_unfit : session_fits whole w n ≡ false → PreparedFor w n s ns (Err QSession) numbers
  prepared_unfit e = record { no = rw e refl; told = tt }

  pub prepared_refused : session_fits whole w n ≡ true → (x : Result Prepared Question) (q : Question) → IsErrAnd x (λ e. e ≡ q)
      → question_number q ≡ entry_no (get_or w 0 0) s ns → PreparedFor w n s ns x numbers
  prepared_refused fit (Ok p) q h e = absurd h
  prepared_refused fit (Err d) q h e = record { no = ap question_number h ∙ e ∙ sym (rw fit refl); told = tt }

  pub prepared_told : (fit : session_fits whole w n ≡ true) → entry_no (get_or w 0 0) s ns ≡ 0 → (x : Prepared)
      → NamesTold (session_in whole w n) ns x.names x.new x.bytes numbers
      → {k : ℕ} {l : List ℕ} → l ≡ name_bytes whole w n → k ≡ length (listed l) + 1 → x.first ≡ 24 + k → PreparedFor w n s ns (Ok x) numbers
  prepared_told fit none x told e h first =
      record {
        no = sym (rw fit none);
        told = record { told = all_told w s n ns fit none told; few = count_few w s n ns fit none told; first = first ∙ first_is w n fit e h };
      }
