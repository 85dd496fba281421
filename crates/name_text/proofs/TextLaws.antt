-- Texts of names: the fixed and the listed names of a session as one list.
use mathlib.Core.Path.{◌≡◌, refl, sym, ap, ◌∙◌}
use mathlib.Core.Bool.{Bool, true, false, not, ◌&&◌, ◌||◌}
use mathlib.Core.Logic.{◌⊎◌, inl, inr, ⊎_elim}
use mathlib.Core.List.{List, [], ◌∷◌, ◌++◌}
use Prim.Native.Nat.{ℕ, zero, suc, ◌+◌, ◌-◌, ◌<◌, ◌≤◌}
use native.Mathlib.Omega.{arith}
use native.Mathlib.Numerals.{sub-one}
use lib.ListN.{length, get_or, take, drop, length-append, length-take, length-drop, get_or-eq_default}
use lib.Seq.{take_all, take-nil}
use lib.Dec.{eqb, leb, T, leb→le}
use borrow.Author.Tests.{ne_eqb, eqb-true, eqb-false, le-leb}
use Rattle.definition.specs.Basics.{when◌then◌else◌, all}
use Rattle.definition.specs.Names.{Name, fixed, lead, listed, same_name, names_few, names_short, names_sized, names_ended, names_unlike, names_fit}
use Rattle.definition.proofs.Lists.Tests.{T_true, true_of, and_left, and_right}
use Rattle.names.proofs.Question.{fit_small}
use Rattle.session.proofs.EntryLaws.{same_is}
use Rattle.std.specs.Prelude.{min}
use Rattle.names.proofs.Laws.{side}
use Rattle.names.specs.Listed.{name_of}
use Rattle.session.specs.Words.{whole, fixed_bytes, name_bytes, session_names_fit, name_text}
use Rattle.name_text.specs.Text.{list_text, session_text}

-- what is listed after an end is a list of its own
pub listed_after : (a b : List ℕ) → names_ended a ≡ true → listed (a ++ b) ≡ listed a ++ listed b
listed_after [] b h = refl
listed_after (x ∷ []) b h = go (eqb x 10) refl
  where
    go : (t : Bool) → eqb x 10 ≡ t → (when t then [] ∷ listed b else lead x (listed b)) ≡ (when t then [] ∷ [] else lead x []) ++ listed b
    go true e = refl
    go false e = absurd (eqb-false x 10 e (eqb-true x 10 h))
listed_after (x ∷ y ∷ ys) b h = go (eqb x 10) (listed_after (y ∷ ys) b (rw sub-one (rw sub-one at h))) (some y ys)
  where
    some : (y : ℕ) (ys : List ℕ) → listed (y ∷ ys) ≡ [] → ⊥
    some y ys = by (eqb y 10) (listed ys)
      where
        by : (t : Bool) (l : List Name) → (when t then [] ∷ l else lead y l) ≡ [] → ⊥
        by true l e = omega (arith, ap length e)
        by false [] e = omega (arith, ap length e)
        by false (n ∷ l) e = omega (arith, ap length e)

    lead_after : (l m : List Name) → (l ≡ [] → ⊥) → lead x (l ++ m) ≡ lead x l ++ m
    lead_after [] m f = absurd (f refl)
    lead_after (n ∷ l) m f = refl

    go : (t : Bool) → listed (y ∷ ys ++ b) ≡ listed (y ∷ ys) ++ listed b → (listed (y ∷ ys) ≡ [] → ⊥)
        → (when t then [] ∷ listed (y ∷ ys ++ b) else lead x (listed (y ∷ ys ++ b))) ≡ (when t then [] ∷ listed (y ∷ ys) else lead x (listed (y ∷ ys))) ++ listed b
    go true e f = ap (λ (l : List Name). [] ∷ l) e
    go false e f = ap (lead x) e ∙ lead_after (listed (y ∷ ys)) (listed b) f

-- the listed names of a session end where its bytes do, or before
end_short : (n : List ℕ) (k : ℕ) → 168 ≤ length n → length n < 168 + k → take (length n - 168) (drop 168 n) ≡ take k (drop 168 n)
end_short n k l h =
    take_all (length n - 168) (drop 168 n) (omega (arith, length-drop 168 n)) ∙ sym (take_all k (drop 168 n) (omega (arith, length-drop 168 n)))

end_long : (n : List ℕ) (k : ℕ) → take (168 + k - 168) (drop 168 n) ≡ take k (drop 168 n)
end_long n k = let e : 168 + k - 168 ≡ k = omega arith in ap (λ (i : ℕ). take i (drop 168 n)) e

-- where the listed names end
pub list_until : (n : List ℕ) (s e : ℕ) → 168 ≤ length n → e ≡ min (168 + s) (length n) → (168 ≤ e) × (e ≤ length n) × (take (e - 168) (drop 168 n) ≡ take s (drop 168 n))
list_until n s e h m = go (side (length n) (168 + s))
  where
    go : (length n < 168 + s) ⊎ (168 + s ≤ length n) → (168 ≤ e) × (e ≤ length n) × (take (e - 168) (drop 168 n) ≡ take s (drop 168 n))
    go (inl l) = let z : e ≡ length n = omega arith in (omega arith, omega arith, ap (λ (k : ℕ). take (k - 168) (drop 168 n)) z ∙ end_short n s h l)
    go (inr l) = let z : e ≡ 168 + s = omega arith in (omega arith, omega arith, ap (λ (k : ℕ). take (k - 168) (drop 168 n)) z ∙ end_long n s)

module _ (w n : List ℕ) where
  abbrev list : List ℕ
  list = name_bytes whole w n

  pub begins : session_names_fit whole w n ≡ true → take 168 n ≡ fixed_bytes
  begins e =
      let a : Bool = same_name (take 168 n) fixed_bytes in
      let b : Bool = names_fit list in
      let c : Bool = eqb (length (listed list)) (get_or w 3 0) in
      same_is (take 168 n) fixed_bytes (true_of a (and_left a b (and_left (a && b) c (T_true (a && b && c) e))))

  few : session_names_fit whole w n ≡ true → length (listed list) ≤ 1024
  few e =
      let a : Bool = same_name (take 168 n) fixed_bytes in
      let b : Bool = names_fit list in
      let c : Bool = eqb (length (listed list)) (get_or w 3 0) in
      (fit_small list (true_of b (and_right a b (and_left (a && b) c (T_true (a && b && c) e))))).0

  -- a number that names nothing
  none_zero : (k : ℕ) → k ≡ 0 → [] ≡ session_text w n k
  none_zero k e = rw e

  none_past : (k : ℕ) → 1048 < k → [] ≡ session_text w n k
  none_past k h = by (session_names_fit whole w n) refl
    where
      by : (t : Bool) → session_names_fit whole w n ≡ t → [] ≡ (when eqb k 0 || not t then [] else get_or (fixed ++ listed list) (k - 1) [])
      by true e =
          let past : length (fixed ++ listed list) ≤ k - 1 = omega (arith, length-append fixed (listed list), few e) in
          rw (ne_eqb k 0 (λ z. omega arith)) (sym (get_or-eq_default (fixed ++ listed list) [] past))
      by false e = rw (ne_eqb k 0 (λ z. omega arith))

  pub none_out : (k : ℕ) → (1 ≤ k → 1048 < k) → [] ≡ session_text w n k
  none_out k f = ⊎_elim (λ (l : k < 1). none_zero k (omega arith)) (λ (l : 1 ≤ k). none_past k (f l)) (side k 1)

  pub none_short : (k : ℕ) → length n < 168 → [] ≡ session_text w n k
  none_short k h = by (session_names_fit whole w n) refl
    where
      by : (t : Bool) → session_names_fit whole w n ≡ t → [] ≡ (when eqb k 0 || not t then [] else get_or (fixed ++ listed list) (k - 1) [])
      by true e = absurd (omega (arith, ap length (sym (begins e)), length-take 168 n))
      by false e = go (eqb k 0)
        where
          go : (u : Bool) → [] ≡ (when u || true then [] else get_or (fixed ++ listed list) (k - 1) [])
          go true = refl
          go false = refl

  pub none_unfit : (k : ℕ) → session_names_fit whole w n ≡ false → [] ≡ session_text w n k
  none_unfit k e = rw e (go (eqb k 0))
    where
      go : (u : Bool) → [] ≡ (when u || true then [] else get_or (fixed ++ listed list) (k - 1) [])
      go true = refl
      go false = refl

  -- the name of a number
  pub text_found : (k e : ℕ) {x : List ℕ} → (k ≡ 0 → ⊥) → 168 ≤ e → e ≤ length n → take (e - 168) (drop 168 n) ≡ list → session_names_fit whole w n ≡ true
      → x ≡ name_of (take e n) (k + 24) → x ≡ session_text w n k
  text_found k e {x} z l h d f g =
      g ∙ found ∙ ap (λ (i : ℕ). get_or (listed (take e n)) i []) place ∙ ap (λ (l : List Name). get_or l (k - 1) []) names ∙ told
    where
      found : name_of (take e n) (k + 24) ≡ get_or (listed (take e n)) (k + 24 - 25) []
      found = rw (le-leb 25 (k + 24) (omega arith))

      told : get_or (fixed ++ listed list) (k - 1) [] ≡ session_text w n k
      told = rw (ne_eqb k 0 z, f)

      place : k + 24 - 25 ≡ k - 1
      place = omega arith

      names : listed (take e n) ≡ fixed ++ listed list
      names =
          ap listed (ap (λ (i : ℕ). take i n) split ∙ take_split 168 (e - 168) n ∙ ap (λ (l : List ℕ). l ++ take (e - 168) (drop 168 n)) (begins f) ∙ ap (λ (l : List ℕ). fixed_bytes ++ l) d)
          ∙ listed_after fixed_bytes list refl
        where
          split : e ≡ 168 + (e - 168)
          split = omega arith

          take_split : (i j : ℕ) (l : List ℕ) → take (i + j) l ≡ take i l ++ take j (drop i l)
          take_split zero j l = let q : 0 + j ≡ j = omega arith in ap (λ (m : ℕ). take m l) q
          take_split (suc i) j [] = take-nil (suc i + j) ∙ sym (take-nil j)
          take_split (suc i) j (y ∷ l) = let q : suc i + j ≡ suc (i + j) = omega arith in ap (λ (m : ℕ). take m (y ∷ l)) q ∙ ap (λ (r : List ℕ). y ∷ r) (take_split i j l)

-- the whole: a number of the session's bytes, or of the entry's list
module _ (w n ns : List ℕ) (o : Bool) (k : ℕ) {x : List ℕ} where
  pub of_session : (o && leb 25 k) ≡ false → x ≡ session_text w n k → x ≡ name_text whole w n ns o k
  of_session e h = h ∙ sym (ap (λ (t : Bool). when t then (when names_fit ns then get_or (listed ns) (k - 25) [] else []) else session_text w n k) e)

  pub of_entry_lem : (o && leb 25 k) ≡ true → x ≡ list_text ns k → x ≡ name_text whole w n ns o k
  of_entry_lem e h =
      h ∙ ap (λ (t : Bool). when names_fit ns then (when t then get_or (listed ns) (k - 25) [] else []) else []) (true_of (leb 25 k) (and_right o (leb 25 k) (T_true (o && leb 25 k) e)))
      ∙ sym (ap (λ (t : Bool). when t then (when names_fit ns then get_or (listed ns) (k - 25) [] else []) else session_text w n k) e)

-- the three tests of a session's names, of which the second asks the list l
module _ (w n : List ℕ) {l : List ℕ} (e : l ≡ name_bytes whole w n) {x y : Bool} (ex : x ≡ same_name (take 168 n) fixed_bytes) (ey : y ≡ names_fit l) where
  pub names_first : x ≡ false → false ≡ session_names_fit whole w n
  names_first h = rw (← ex, h)

  pub names_second : x ≡ true → y ≡ false → false ≡ session_names_fit whole w n
  names_second h g = rw (← ex, h, ← e, ← ey, g)

  pub names_third : x ≡ true → y ≡ true → {c k : ℕ} → c ≡ length (listed l) → k ≡ get_or w 3 0 → eqb c k ≡ session_names_fit whole w n
  names_third h g ec ek = rw (← ex, h, ← e, ← ey, g, ec, ek)

-- no name of a list is longer than 255 bytes
abbrev Short : List Name → Type 0
Short l = (i : ℕ) → length (get_or l i []) ≤ 255

sized_short : (l : List Name) → T (all (λ n. leb 1 (length n) && leb (length n) 255) l) → Short l
sized_short [] h i = omega arith
sized_short (x ∷ xs) h zero =
    leb→le (length x) 255
    (and_right (leb 1 (length x)) (leb (length x) 255) (and_left (leb 1 (length x) && leb (length x) 255) (all (λ n. leb 1 (length n) && leb (length n) 255) xs) h))
sized_short (x ∷ xs) h (suc i) =
    sized_short xs (and_right (leb 1 (length x) && leb (length x) 255) (all (λ n. leb 1 (length n) && leb (length n) 255) xs) h) i

both_short : (a b : List Name) → Short a → Short b → Short (a ++ b)
both_short [] b f g i = g i
both_short (x ∷ a) b f g zero = f 0
both_short (x ∷ a) b f g (suc i) = both_short a b (λ j. f (suc j)) g i

fit_short : (ns : List ℕ) → T (names_fit ns) → Short (listed ns)
fit_short ns h =
    sized_short (listed ns)
    (and_right (names_few ns && names_short ns) (names_sized ns)
    (and_left (names_few ns && names_short ns && names_sized ns) (names_ended ns)
    (and_left (names_few ns && names_short ns && names_sized ns && names_ended ns) (names_unlike ns) h)))

-- nor is any text of a name
pub name_short : (w n ns : List ℕ) (b : Bool) (k : ℕ) → length (name_text whole w n ns b k) ≤ 255
name_short w n ns b k =
    by (b && leb 25 k) (names_fit ns) (eqb k 0) (session_names_fit whole w n) _ _ (λ h. fit_short ns h (k - 25))
    (λ h. both_short fixed (listed (name_bytes whole w n)) (sized_short fixed tt) (fit_short (name_bytes whole w n) (fits h)) (k - 1))
  where
    fits : T (session_names_fit whole w n) → T (names_fit (name_bytes whole w n))
    fits h =
        let a : Bool = same_name (take 168 n) fixed_bytes in
        let b : Bool = names_fit (name_bytes whole w n) in
        and_right a b (and_left (a && b) (eqb (length (listed (name_bytes whole w n))) (get_or w 3 0)) h)

    by : (t u z v : Bool) (x y : Name) → (T u → length x ≤ 255) → (T v → length y ≤ 255)
        → length (when t then (when u then x else []) else when z || not v then [] else y) ≤ 255
    by true true z v x y f g = f tt
    by true false z v x y f g = omega arith
    by false u true v x y f g = omega arith
    by false u false true x y f g = g tt
    by false u false false x y f g = omega arith
