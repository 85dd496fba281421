-- The runs of the entries, one after another, are the whole runs: of words and bytes past question 23 the session's names are those listed, its
-- declarations and classes those of all rows.
use mathlib.Core.Path.{◌≡◌, refl, sym, ap, ◌∙◌}
use mathlib.Core.Bool.{true, ◌&&◌}
use mathlib.Core.List.{List, [], ◌∷◌, ◌++◌, map}
use Prim.Native.Nat.{ℕ, zero, suc, ◌+◌, ◌-◌, ◌<◌, ◌≤◌}
use native.Mathlib.Omega.{arith}
use lib.ListN.{length, get_or, take}
use lib.Dec.{eqb, T, eqb→eq}
use Rattle.definition.specs.Basics.{from, concat_map}
use Rattle.definition.specs.Names.{Name, fixed, listed, same_name, names_fit}
use Rattle.definition.proofs.Lists.Tests.{T_true, and_right}
use Rattle.definition.proofs.Lists.Members.{map_append}
use Rattle.session.specs.Session.{all_names, all_laid, all_classes}
use Rattle.session.specs.Words.{Room, fixed_bytes, count_after, name_bytes, laid_in, class_in, entry_in, session_in, runs_fit}
use Rattle.session.proofs.SessionLaws.{joined_map, clauses, last_are, rises}

-- numbers from a place on, and those after them
pub from_split : (i j k : ℕ) → from i (j + k) ≡ from i j ++ from (i + j) k
from_split i zero k =
    let p : 0 + k ≡ k = omega arith in
    let q : i ≡ i + 0 = omega arith in
    ap (from i) p ∙ ap (λ (x : ℕ). from x k) q
from_split i (suc j) k =
    let q : suc j + k ≡ suc (j + k) = omega arith in
    let p : suc i + j ≡ i + suc j = omega arith in
    ap (from i) q ∙ ap (λ (l : List ℕ). i ∷ l) (from_split (suc i) j k ∙ ap (λ (x : ℕ). from (suc i) j ++ from x k) p)

module _ {A : Type 0} where
  -- runs between counts that do not fall, joined
  runs_joined : (f : ℕ → A) (c : ℕ → ℕ) (i k : ℕ) → ((e : ℕ) → e < i + k → c e ≤ c (suc e))
      → (concat_map (λ e. map f (from (c e) (c (suc e) - c e))) (from i k) ≡ map f (from (c i) (c (i + k) - c i))) × (c i ≤ c (i + k))
  runs_joined f c i zero up =
      let q : i + 0 ≡ i = omega arith in
      let z : 0 ≡ c (i + 0) - c i = omega (arith, ap c q) in
      (ap (λ (m : ℕ). map f (from (c i) m)) z, omega (arith, ap c q))
  runs_joined f c i (suc k) up =
      let q : suc i + k ≡ i + suc k = omega arith in
      let on = runs_joined f c (suc i) k (λ e l. up e (omega arith)) in
      let here = up i (omega arith) in
      let m : ℕ = c (suc i) - c i in
      let d : ℕ = c (suc i + k) - c (suc i) in
      let a : c i + m ≡ c (suc i) = omega (arith, here) in
      let b : m + d ≡ c (i + suc k) - c i = omega (arith, here, on.1, ap c q) in (
        ap (λ (l : List A). map f (from (c i) m) ++ l) (on.0 ∙ ap (λ (x : ℕ). map f (from x d)) (sym a))
            ∙ sym (map_append f (from (c i) m) (from (c i + m) d))
            ∙ sym (ap (map f) (from_split (c i) m d)) ∙ ap (λ (x : ℕ). map f (from (c i) x)) b,
        omega (arith, here, on.1, ap c q),
      )

  -- a list by its places
  by_places : (d : A) (l : List A) → map (λ i. get_or l i d) (from 0 (length l)) ≡ l
  by_places d [] = refl
  by_places d (x ∷ l) = ap (λ (r : List A). x ∷ r) (go 0 (length l) ∙ by_places d l)
    where
      go : (i k : ℕ) → map (λ j. get_or (x ∷ l) j d) (from (suc i) k) ≡ map (λ j. get_or l j d) (from i k)
      go i zero = refl
      go i (suc k) = ap (λ (r : List A). get_or l i d ∷ r) (go (suc i) k)

module _ (R : Room) (w n : List ℕ) (fit : runs_fit R w n ≡ true) where
  fits : T (runs_fit R w n)
  fits = T_true (runs_fit R w n) fit

  -- the run of column c that f reads, for all entries
  held : {A : Type 0} (f : ℕ → A) (c : ℕ) → c < 5
      → concat_map (λ e. map f (from (count_after R w n e c) (count_after R w n (suc e) c - count_after R w n e c))) (from 0 (get_or w 1 0))
      ≡ map f (from 0 (get_or w (3 + c) 0))
  held f c h =
      let E : ℕ = get_or w 1 0 in
      let q : 0 + E ≡ E = omega arith in
      let d : count_after R w n (0 + E) c - 0 ≡ get_or w (3 + c) 0 = omega (arith, ap (λ (e : ℕ). count_after R w n e c) q, last_are R w n fits c h) in
      (runs_joined f (λ e. count_after R w n e c) 0 E (λ e l. (rises R w n fits e c (omega (arith, l)) h).0)).0 ∙ ap (λ (m : ℕ). map f (from 0 m)) d

  -- all declarations
  pub held_laid : all_laid (session_in R w n) ≡ map (laid_in R w n) (from 0 (get_or w 5 0))
  held_laid = joined_map (λ x. x.laid) (entry_in R w n) (from 0 (get_or w 1 0)) ∙ held (laid_in R w n) 2 (omega arith)

  -- all classes
  pub held_classes : all_classes (session_in R w n) ≡ map (class_in R w n) (from 0 (get_or w 6 0))
  held_classes = joined_map (λ x. x.classes) (entry_in R w n) (from 0 (get_or w 1 0)) ∙ held (class_in R w n) 3 (omega arith)

  -- as many names are listed as the words say
  pub names_listed : length (listed (name_bytes R w n)) ≡ get_or w 3 0
  names_listed =
      let l : List Name = listed (name_bytes R w n) in
      eqb→eq (length l) (get_or w 3 0)
      (and_right (same_name (take (length fixed_bytes) n) fixed_bytes && names_fit (name_bytes R w n)) (eqb (length l) (get_or w 3 0)) (clauses R w n fits 1))

  -- the names of all entries
  pub held_listed : concat_map (λ x. x.names) (session_in R w n).entries ≡ listed (name_bytes R w n)
  held_listed =
      let l : List Name = listed (name_bytes R w n) in
      joined_map (λ x. x.names) (entry_in R w n) (from 0 (get_or w 1 0)) ∙ held (λ i. get_or l i []) 0 (omega arith)
      ∙ ap (λ (m : ℕ). map (λ i. get_or l i []) (from 0 m)) (sym names_listed) ∙ by_places [] l

  -- all names
  pub held_names : all_names (session_in R w n) ≡ fixed ++ listed (name_bytes R w n)
  held_names = ap (λ (r : List Name). fixed ++ r) held_listed
