-- What a withdrawal does to the words of a good session, and what two good sessions with the same entries share.
use mathlib.Core.Path.{◌≡◌, refl, sym, ap, ◌∙◌}
use mathlib.Core.Logic.{inl, inr}
use mathlib.Core.Bool.{Bool, true, false, not, ◌&&◌, ◌||◌}
use mathlib.Core.List.{List, [], ◌∷◌, ◌++◌, map}
use Prim.Native.Nat.{ℕ, zero, suc, ◌+◌, ◌-◌, ◌<◌, ◌≤◌}
use native.Mathlib.Omega.{arith}
use lib.ListN.{length, get_or, set, take, length-append, length-set}
use lib.Seq.{length-sets, get_or-set_same, get_or-set_other, take_at}
use lib.Dec.{eqb, leb, leb→le}
use borrow.Author.Tests.{eqb-true}
use Rattle.definition.specs.Basics.{when◌then◌else◌, from, concat_map, total}
use Rattle.definition.specs.Names.{Name, fixed, listed, names_fit}
use Rattle.definition.proofs.Lists.Tests.{T_true, true_of, pick}
use Rattle.machine.proofs.Words.{sets_out, sets_in}
use Rattle.session.specs.Session.{Accepted, names_shown, member_count}
use Rattle.session.specs.Words.{Room, ended, session_size, count_after, name_bytes, session_in, session_names_fit, runs_fit, session_fits, showing}
use Rattle.session.specs.Words.{name_text}
use Rattle.session.specs.Withdraw.{withdrawn, words_without, withdraw_no, withdraw_words}
use Rattle.session.proofs.SessionLaws.{clauses, limits, runs_of}
use Rattle.session.proofs.HeldRuns.{held_listed}
use Rattle.session.proofs.CountLaws.{names_count, names_end, ended_back, bytes_count, laid_count, class_count, members_count, entry_count}
use Rattle.session.proofs.Cut.{Cut, cut_fits, cut_held}
use Rattle.session.proofs.Shown.{Holds, Runs, showing_holds}

-- five words by place
five : (f : ℕ → ℕ) (c : ℕ) → c < 5 → get_or (map f (from 0 5)) c 0 ≡ f c
five f zero l = refl
five f (suc zero) l = refl
five f (suc (suc zero)) l = refl
five f (suc (suc (suc zero))) l = refl
five f (suc (suc (suc (suc zero)))) l = refl
five f (suc (suc (suc (suc (suc c))))) l = absurd (omega arith)

-- all elements but the one that was put at the end
pub but_last : {A : Type 0} (xs : List A) (x : A) → take (length (xs ++ x ∷ []) - 1) (xs ++ x ∷ []) ≡ xs
but_last xs x = take_at xs (x ∷ []) (length (xs ++ x ∷ []) - 1) (omega (arith, length-append xs (x ∷ [])))

module _ (R : Room) (w n : List ℕ) (fit : session_fits R w n ≡ true) where
  runs : runs_fit R w n ≡ true
  runs = runs_of R w n fit

  -- the words without the latest entry are those cut to the entries before it
  without_cut : Cut R w n (words_without R w n) (get_or w 1 0 - 1)
  without_cut =
      record {
        fewer = omega arith;
        long = length-sets (set w 1 e) 3 cs ∙ length-set w 1 e;
        globals = sets_out cs (set w 1 e) 3 0 (inl (omega arith)) ∙ get_or-set_other w 1 0 e 0 (λ q. omega (arith, q));
        entries = sets_out cs (set w 1 e) 3 1 (inl (omega arith)) ∙ get_or-set_same w 1 e 0 (omega (arith, room));
        counts = λ c l. sets_in cs (set w 1 e) 3 c l (omega (arith, length-set w 1 e, room)) ∙ five (count_after R w n e) c l;
        rows = λ p l. sets_out cs (set w 1 e) 3 p (inr (omega (arith, l))) ∙ get_or-set_other w 1 p e 0 (λ q. omega (arith, q, l));
      }
    where
      e : ℕ
      e = get_or w 1 0 - 1

      cs : List ℕ
      cs = map (count_after R w n (get_or w 1 0 - 1)) (from 0 5)

      room : session_size R ≤ length w
      room = leb→le (session_size R) (length w) (pick (limits R w n (T_true (runs_fit R w n) runs)) (clauses R w n (T_true (runs_fit R w n) runs) 0) 7)

  -- so they hold the session without it, before its names on show are counted
  pub without_runs : Runs R (words_without R w n) n (withdrawn (session_in R w n))
  without_runs =
      record {
        fits = cut_fits R w n runs (words_without R w n) (get_or w 1 0 - 1) without_cut;
        held =
            cut_held R w n runs (words_without R w n) (get_or w 1 0 - 1) without_cut
            ∙ ap (λ (k : ℕ). record { globals = get_or w 0 0; entries = take (k - 1) (session_in R w n).entries }) (sym (entry_count R w n runs));
      }

  -- by whether an entry is left
  by_entries : (t : Bool) → eqb (get_or w 1 0) 0 ≡ t
      → Holds R (when eqb (when t then 25 else 0) 0 then showing (withdrawn (session_in R w n)) (words_without R w n) else w) n (withdrawn (session_in R w n))
  by_entries true q = record { fits = fit; held = sym (rw (eqb-true (get_or w 1 0) 0 q)) }
  by_entries false q = showing_holds R (words_without R w n) n without_runs

  pub withdraw_holds : Holds R (withdraw_words R w n) n (withdrawn (session_in R w n))
  withdraw_holds = rw fit (by_entries (eqb (get_or w 1 0) 0) refl)

-- a withdrawal changes counts alone
pub withdraw_other : (R : Room) (w n : List ℕ) (p : ℕ) → 8 ≤ p → get_or (withdraw_words R w n) p 0 ≡ get_or w p 0
withdraw_other R w n p h = go (eqb (withdraw_no R w n) 0)
  where
    e : ℕ
    e = get_or w 1 0 - 1

    cs : List ℕ
    cs = map (count_after R w n (get_or w 1 0 - 1)) (from 0 5)

    go : (t : Bool) → get_or (when t then showing (withdrawn (session_in R w n)) (words_without R w n) else w) p 0 ≡ get_or w p 0
    go true =
        get_or-set_other (words_without R w n) 2 p (names_shown (withdrawn (session_in R w n))) 0 (λ q. omega (arith, q))
        ∙ sets_out cs (set w 1 e) 3 p (inr (omega arith)) ∙ get_or-set_other w 1 p e 0 (λ q. omega (arith, q))
    go false = refl

-- Two good sessions with the same entries have the same counts but for the globals, and the same names.
module _ (R : Room) (w n v m : List ℕ) (fit : runs_fit R w n ≡ true) (fit' : runs_fit R v m ≡ true) (same : (session_in R v m).entries ≡ (session_in R w n).entries) where
  count_again : (f : List Accepted → ℕ) {i j : ℕ} → f (session_in R v m).entries ≡ i → f (session_in R w n).entries ≡ j → i ≡ j
  count_again f p q = sym p ∙ ap f same ∙ q

  pub entries_again : get_or v 1 0 ≡ get_or w 1 0
  entries_again = count_again length (entry_count R v m fit') (entry_count R w n fit)

  pub counts_again : (c : ℕ) → c < 5 → get_or v (3 + c) 0 ≡ get_or w (3 + c) 0
  counts_again zero l = count_again (total (λ e. length e.names)) (names_count R v m fit') (names_count R w n fit)
  counts_again (suc zero) l = count_again (total (λ e. total (λ x. suc (length x)) e.names)) (bytes_count R v m fit') (bytes_count R w n fit)
  counts_again (suc (suc zero)) l = count_again (λ es. length (concat_map (λ e. e.laid) es)) (laid_count R v m fit') (laid_count R w n fit)
  counts_again (suc (suc (suc zero))) l = count_again (λ es. length (concat_map (λ e. e.classes) es)) (class_count R v m fit') (class_count R w n fit)
  counts_again (suc (suc (suc (suc zero)))) l = count_again (λ es. total member_count (concat_map (λ e. e.classes) es)) (members_count R v m fit') (members_count R w n fit)
  counts_again (suc (suc (suc (suc (suc c))))) l = absurd (omega arith)

  pub names_again : name_bytes R v m ≡ name_bytes R w n
  names_again =
      sym (ended_back (name_bytes R v m) (names_end R v m fit'))
      ∙ ap (concat_map ended) (sym (held_listed R v m fit') ∙ ap (concat_map (λ e. e.names)) same ∙ held_listed R w n fit)
      ∙ ended_back (name_bytes R w n) (names_end R w n fit)

  pub texts_again : (ns : List ℕ) (own : Bool) (k : ℕ) → name_text R v m ns own k ≡ name_text R w n ns own k
  texts_again ns own k =
      let yes = true_of (session_names_fit R v m) (clauses R v m (T_true (runs_fit R v m) fit') 1) in
      let yes' = true_of (session_names_fit R w n) (clauses R w n (T_true (runs_fit R w n) fit) 1) in
      ap (λ (t : Bool). told t (name_bytes R v m)) (yes ∙ sym yes') ∙ ap (told (session_names_fit R w n)) names_again
    where
      -- by whether the session's names fit, and their bytes
      told : Bool → List ℕ → Name
      told t b =
          when own && leb 25 k then (when names_fit ns then get_or (listed ns) (k - 25) [] else [])
          else when eqb k 0 || not t then []
          else get_or (fixed ++ listed b) (k - 1) []
