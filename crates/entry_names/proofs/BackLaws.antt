-- The way back: the entry's number of a name of the session, by the numbers of the entry's listed names.
use mathlib.Core.Path.{◌≡◌, refl, sym, ap, ◌∙◌}
use mathlib.Core.Bool.{Bool, true, false, not, ◌&&◌, ◌||◌, true≢false}
use mathlib.Core.List.{List, [], ◌∷◌, ◌++◌}
use Prim.Native.Nat.{ℕ, zero, suc, ◌+◌, ◌-◌, ◌<◌, ◌≤◌}
use native.Mathlib.Omega.{arith}
use lib.ListN.{length, get_or, length-append}
use lib.Dec.{eqb}
use borrow.Author.Tests.{eq-eqb, ne_eqb, not-true}
use Rattle.definition.specs.Basics.{when◌then◌else◌, filter, any, unlike, place, concat_map}
use Rattle.definition.specs.Names.{Name, fixed, listed, same_name, names_fit}
use Rattle.session.specs.Session.{Session, all_names}
use Rattle.session.specs.Entry.{own_names, new_names, names_with, to_entry}
use Rattle.session.proofs.NameLaws.{same_turned, none_here, none_in, apart_here, place_own, names_apart_lem}
use Rattle.session.proofs.EntryLaws.{same_is, place_below as name_below, get_or_right, own_there}
use Rattle.entry_names.specs.Told.{is_new, session_numbers}
use Rattle.entry_names.proofs.PlaceLaws.{place_right, none_kept}
use Rattle.entry_names.proofs.NumberLaws.{apart_right, listed_number}
use Rattle.entry_names.proofs.SheetLaws.{renumbered_is, renumbered_past, fixed_stays, numbers_length, numbers_at}

-- Lists without repeats: one of names that the other has not, beside it.
none_each : (p : Name → Bool) (xs : List Name) → ((i : ℕ) → i < length xs → p (get_or xs i []) ≡ false) → any p xs ≡ false
none_each p [] h = refl
none_each p (x ∷ xs) h = ap (λ (t : Bool). t || any p xs) (h 0 (omega arith)) ∙ none_each p xs (λ i l. h (suc i) (omega arith))

none_both : (p : Name → Bool) (xs ys : List Name) → any p xs ≡ false → any p ys ≡ false → any p (xs ++ ys) ≡ false
none_both p [] ys e f = f
none_both p (x ∷ xs) ys e f = let h = none_here p x xs e in ap (λ (t : Bool). t || any p (xs ++ ys)) h.0 ∙ none_both p xs ys h.1 f

apart_from : (x : Name) (xs : List Name) → any (same_name x) xs ≡ false → unlike same_name xs ≡ true → unlike same_name (x ∷ xs) ≡ true
apart_from x xs e u = ap (λ (t : Bool). not t && unlike same_name xs) e ∙ u

apart_joined : (k l : List Name) → unlike same_name k ≡ true → unlike same_name l ≡ true → ((i : ℕ) → i < length l → any (same_name (get_or l i [])) k ≡ false)
    → unlike same_name (k ++ l) ≡ true
apart_joined [] l u v h = v
apart_joined (x ∷ k) l u v h =
    let a = apart_here x k u in
    let away : any (same_name x) l ≡ false = none_each (same_name x) l (λ i g. same_turned x (get_or l i []) ∙ (none_here (same_name (get_or l i [])) x k (h i g)).0) in
    apart_from x (k ++ l) (none_both (same_name x) k l a.0 away) (apart_joined k l a.1 v (λ i g. (none_here (same_name (get_or l i [])) x k (h i g)).1))

apart_kept : (q : Name → Bool) (xs : List Name) → unlike same_name xs ≡ true → unlike same_name (filter q xs) ≡ true
apart_kept q [] u = refl
apart_kept q (x ∷ xs) u = let a = apart_here x xs u in go (q x) (none_kept (same_name x) q xs a.0) (apart_kept q xs a.1)
  where
    go : (t : Bool) → any (same_name x) (filter q xs) ≡ false → unlike same_name (filter q xs) ≡ true → unlike same_name (when t then x ∷ filter q xs else filter q xs) ≡ true
    go true e v = apart_from x (filter q xs) e v
    go false e v = v

kept_pass : (q : Name → Bool) (xs : List Name) (i : ℕ) → i < length (filter q xs) → q (get_or (filter q xs) i []) ≡ true
kept_pass q [] i h = absurd (omega arith)
kept_pass q (x ∷ xs) i h = go (kept_pass q xs) (q x) refl i h
  where
    go : ((j : ℕ) → j < length (filter q xs) → q (get_or (filter q xs) j []) ≡ true) → (t : Bool) → q x ≡ t → (j : ℕ)
        → j < length (when t then x ∷ filter q xs else filter q xs) → q (get_or (when t then x ∷ filter q xs else filter q xs) j []) ≡ true
    go on true e zero l = e
    go on true e (suc j) l = on j (omega arith)
    go on false e j l = on j l

-- the place of what passes a test, by what a list of numbers has instead
place_told : (p : Name → Bool) (q : ℕ → Bool) (xs : List Name) (ws : List ℕ) → length ws ≡ length xs
    → ((k : ℕ) → k < length xs → p (get_or xs k []) ≡ q (get_or ws k 0)) → place p xs ≡ place q ws
place_told p q [] [] e h = refl
place_told p q [] (w ∷ ws) e h = absurd (omega arith)
place_told p q (x ∷ xs) [] e h = absurd (omega arith)
place_told p q (x ∷ xs) (w ∷ ws) e h =
    ap (λ (t : Bool). when t then 0 else suc (place p xs)) (h 0 (omega arith))
    ∙ ap (λ (m : ℕ). when q w then 0 else suc m) (place_told p q xs ws (omega arith) (λ k l. h (suc k) (omega arith)))

module _ (S : Session) (ns : List ℕ) where
  -- the names of the session and the entry, and those of them that are not fixed
  abbrev both : List Name
  both = names_with S ns

  abbrev past : List Name
  past = concat_map (λ e. e.names) S.entries ++ new_names S ns

  -- Back to the entry's number: a fixed one, one past all,
  pub back_low : (n : ℕ) → n < 25 → n ≡ to_entry S ns n
  back_low n h = sym (fixed_stays past (listed ns) n h)

  pub back_past : (n last : ℕ) → last ≡ length both → last < n → n ≡ to_entry S ns n
  back_past n last e h = sym (renumbered_past both (own_names ns) n (omega (arith, e, h)))

  -- and any other, if no two names of the session are the same, nor of the entry.
  module _ (apart : unlike same_name (all_names S) ≡ true) (fit : names_fit ns ≡ true) where
    -- no two names of the session and the entry are the same
    both_apart : unlike same_name both ≡ true
    both_apart =
        apart_joined (all_names S) (new_names S ns) apart (apart_kept (is_new (all_names S)) (listed ns) (apart_right fixed (listed ns) (names_apart_lem ns fit)))
        (λ i h. not-true (any (same_name (get_or (new_names S ns) i [])) (all_names S)) (kept_pass (is_new (all_names S)) (listed ns) i h))

    -- a listed name is the session's name n exactly if n is its number
    same_number : (n k : ℕ) → 1 ≤ n → n ≤ length both → k < length (listed ns)
        → same_name (get_or both (n - 1) []) (get_or (listed ns) k []) ≡ eqb (suc (place (same_name (get_or (listed ns) k [])) both)) n
    same_number n k h g l = go (same_name y x) refl
      where
        x : Name
        x = get_or (listed ns) k []

        y : Name
        y = get_or both (n - 1) []

        there : any (same_name x) both ≡ true
        there =
            let i : 24 + k - length fixed ≡ k = omega arith in
            let e : get_or (own_names ns) (24 + k) [] ≡ x = get_or_right fixed (listed ns) (24 + k) (omega arith) ∙ ap (λ (m : ℕ). get_or (listed ns) m []) i in
            ap (λ (z : Name). any (same_name z) both) (sym e) ∙ own_there S ns (24 + k) (omega (arith, l, length-append fixed (listed ns)))

        go : (t : Bool) → same_name y x ≡ t → t ≡ eqb (suc (place (same_name x) both)) n
        go true e =
            let q : place (same_name x) both ≡ n - 1 = ap (λ (z : Name). place (same_name z) both) (sym (same_is y x e)) ∙ place_own both both_apart (n - 1) (omega arith) in
            sym (eq-eqb (suc (place (same_name x) both)) n (omega (arith, q)))
        go false e =
            sym (ne_eqb (suc (place (same_name x) both)) n (λ f.
            let j : place (same_name x) both ≡ n - 1 = omega (arith, f) in
            let same : same_name x y ≡ true = ap (λ (i : ℕ). same_name x (get_or both i [])) (sym j) ∙ (name_below (same_name x) both there).1 in
            absurd (true≢false (sym same ∙ same_turned x y ∙ e))))

    pub back_listed : (n last : ℕ) (numbers : List ℕ) (r : ℕ) → last ≡ length both → numbers ≡ session_numbers S ns → 25 ≤ n → n ≤ last
        → r ≡ 25 + place (λ x. eqb x n) numbers → r ≡ to_entry S ns n
    back_listed n last numbers r e told h g q =
        let y : Name = get_or both (n - 1) [] in
        let z : get_or past (n - 1 - length fixed) [] ≡ y = sym (get_or_right fixed past (n - 1) (omega arith)) in
        let away : any (same_name y) fixed ≡ false =
        ap (λ (x : Name). any (same_name x) fixed) (sym z) ∙ none_in fixed past both_apart (n - 1 - length fixed) (omega (arith, e, g, h, length-append fixed past)) in
        let at : place (same_name y) (listed ns) ≡ place (λ x. eqb x n) numbers =
        place_told (same_name y) (λ x. eqb x n) (listed ns) numbers (numbers_length S ns numbers told)
        (λ k l. same_number n k (omega arith) (omega (arith, e, g)) l
        ∙ ap (λ (m : ℕ). eqb m n) (sym (numbers_at S ns numbers told k l ∙ listed_number S ns k l))) in
        omega (arith, q, at, place_right (same_name y) fixed (listed ns) away, renumbered_is both (own_names ns) n (omega arith) (omega (arith, e, g)))
