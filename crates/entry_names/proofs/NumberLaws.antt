-- The numbers of an entry's names, one after another, are those of the session.
use mathlib.Core.Path.{◌≡◌, refl, sym, ap, ◌∙◌}
use mathlib.Core.Bool.{Bool, true, false, not, true≢false}
use mathlib.Core.List.{List, [], ◌∷◌, ◌++◌, map, append_assoc, append-nil}
use Prim.Native.Nat.{ℕ, suc, ◌+◌, ◌-◌, ◌<◌, ◌≤◌}
use native.Mathlib.Omega.{arith}
use lib.ListN.{length, get_or, take, set, length-append}
use lib.Dec.{eqb}
use borrow.Author.Tests.{eqb-true, eqb-false, ne_eqb}
use Rattle.std.specs.Prelude.{Option, Some, None}
use Rattle.std.specs.Option.{unwrap_or, is_some}
use Rattle.definition.specs.Basics.{when◌then◌else◌, bit, filter, any, unlike, total, place, from, concat_map}
use Rattle.definition.specs.Names.{Name, fixed, listed, same_name, names_fit}
use Rattle.definition.proofs.Lists.Tests.{T_true}
use Rattle.names.specs.Listed.{starts, numbered}
use Rattle.names.proofs.Laws.{store_next, listed_short, table_size}
use Rattle.names.proofs.Question.{fit_small}
use Rattle.name_index.specs.Index.{index_of, searched, find, found_number}
use Rattle.name_index.proofs.FindLaws.{search_has, search_each}
use Rattle.session.specs.Session.{Session, all_names}
use Rattle.session.specs.Entry.{own_names, new_names, names_with, to_session}
use Rattle.session.specs.Words.{ended}
use Rattle.session.proofs.NameLaws.{same_itself, apart_here, none_in, names_apart_lem}
use Rattle.session.proofs.EntryLaws.{same_is, some_at, place_below, get_or_right, number_is}
use Rattle.entry_names.specs.Told.{is_new, number_in, found_or, numbers_from, session_numbers, NamesTold}
use Rattle.entry_names.proofs.PlaceLaws.{place_left, place_right, none_kept, filter_append}

-- the index finds a name's number, or 0
number_found : (l : List Name) → length l ≤ 2048 → unlike same_name l ≡ true → (x : Name) → (searched l (index_of l) x).0 ≡ number_in l x
number_found l room u x = go (any (same_name x) l) refl
  where
    n : ℕ
    n = (searched l (index_of l) x).0

    go : (t : Bool) → any (same_name x) l ≡ t → n ≡ (when t then suc (place (same_name x) l) else 0)
    go true e =
        let i : ℕ = place (same_name x) l in
        let h = place_below (same_name x) l e in
        ap (λ (y : Name). (searched l (index_of l) y).0) (same_is x (get_or l i []) h.1) ∙ search_each l room u i h.0
    go false e = by (eqb n 0) refl
      where
        by : (t : Bool) → eqb n 0 ≡ t → n ≡ 0
        by true f = eqb-true n 0 f
        by false f =
            let z = eqb-false n 0 f in
            let has = search_has l room x z in
            let some = some_at (same_name x) l (n - 1) (omega (arith, has.0, z)) (ap (same_name x) has.1 ∙ same_itself x) in
            absurd (true≢false (sym some ∙ e))

-- the session's names, by its list
numbered_few : (ns : List ℕ) → names_fit ns ≡ true → length (numbered ns) ≤ 2048
numbered_few ns fit = omega (arith, (fit_small ns fit).0, length-append fixed (listed ns))

-- what is found in a list that passes question 2
pub find_number : (ns : List ℕ) (x : Name) → names_fit ns ≡ true → (find ns x).0 ≡ number_in (numbered ns) x
find_number ns x fit =
    ap (λ (u : Bool). (when u then searched (numbered ns) (index_of (numbered ns)) x else (0, 0)).0) fit
    ∙ number_found (numbered ns) (numbered_few ns fit) (names_apart_lem ns fit) x

-- a number that was found, or the next one; and whether none was
pub found_next : (n next : ℕ) (o : Option ℕ) → o ≡ found_number n → unwrap_or o next ≡ found_or next n
found_next n next o e = ap (λ (p : Option ℕ). unwrap_or p next) e ∙ go (eqb n 0)
  where
    go : (t : Bool) → unwrap_or (when t then None else Some n) next ≡ (when t then next else n)
    go true = refl
    go false = refl

pub found_none : (n : ℕ) (o : Option ℕ) (t : Bool) → o ≡ found_number n → is_some o ≡ not t → t ≡ eqb n 0
found_none n o t e f = go (eqb n 0) t (sym f ∙ ap is_some e)
  where
    go : (u t : Bool) → not t ≡ is_some (when u then None else Some n) → t ≡ u
    go true true h = refl
    go true false h = absurd (T_true false (sym h))
    go false true h = absurd (T_true false h)
    go false false h = refl

-- the first new number, by the starts t of the session's names
pub first_new : (ns t : List ℕ) → t ≡ starts ns → 24 + length t ≡ suc (length (numbered ns))
first_new ns t e = omega (arith, table_size ns e, length-append fixed (listed ns))

module _ (l : List Name) where
  -- the number is 0 exactly of a new name
  pub new_none : (x : Name) → eqb (number_in l x) 0 ≡ is_new l x
  new_none x = go (any (same_name x) l)
    where
      go : (t : Bool) → eqb (when t then suc (place (same_name x) l) else 0) 0 ≡ not t
      go true = ne_eqb (suc (place (same_name x) l)) 0 (λ e. absurd (omega arith))
      go false = refl

  -- a name more before others: how many are new, and in how many bytes
  pub new_more : (x : Name) (xs : List Name) → length (filter (is_new l) (x ∷ xs)) ≡ bit (eqb (number_in l x) 0) + length (filter (is_new l) xs)
  new_more x xs = go (is_new l x) ∙ ap (λ (t : Bool). bit t + length (filter (is_new l) xs)) (sym (new_none x))
    where
      go : (t : Bool) → length (when t then x ∷ filter (is_new l) xs else filter (is_new l) xs) ≡ bit t + length (filter (is_new l) xs)
      go true = omega arith
      go false = omega arith

  pub bytes_more : (x : Name) (xs : List Name)
      → length (concat_map ended (filter (is_new l) (x ∷ xs))) ≡ (when eqb (number_in l x) 0 then length x + 1 else 0) + length (concat_map ended (filter (is_new l) xs))
  bytes_more x xs = go (is_new l x) ∙ ap (λ (t : Bool). (when t then length x + 1 else 0) + length (concat_map ended (filter (is_new l) xs))) (sym (new_none x))
    where
      go : (t : Bool) → length (concat_map ended (when t then x ∷ filter (is_new l) xs else filter (is_new l) xs))
          ≡ (when t then length x + 1 else 0) + length (concat_map ended (filter (is_new l) xs))
      go true = omega (arith, length-append (ended x) (concat_map ended (filter (is_new l) xs)), length-append x (10 ∷ []))
      go false = omega arith

  -- the names d are passed, and xs are left
  numbers_are : (d xs : List Name) → unlike same_name (d ++ xs) ≡ true
      → numbers_from l (suc (length l + length (filter (is_new l) d))) xs ≡ map (λ x. suc (place (same_name x) (l ++ filter (is_new l) (d ++ xs)))) xs
  numbers_are d [] u = refl
  numbers_are d (x ∷ xs) u =
      let q : (d ++ x ∷ []) ++ xs ≡ d ++ x ∷ xs = append_assoc d (x ∷ []) xs in
      let n : suc (length l + length (filter (is_new l) (d ++ x ∷ []))) ≡ suc (length l + length (filter (is_new l) d)) + bit (eqb (number_in l x) 0) = more in
      ap (λ (k : ℕ). k ∷ numbers_from l (suc (length l + length (filter (is_new l) d)) + bit (eqb (number_in l x) 0)) xs) (here (any (same_name x) l) refl)
      ∙ ap (λ (r : List ℕ). suc (place (same_name x) (l ++ filter (is_new l) (d ++ x ∷ xs))) ∷ r)
      (ap (λ (k : ℕ). numbers_from l k xs) (sym n) ∙ numbers_are (d ++ x ∷ []) xs (ap (unlike same_name) q ∙ u)
      ∙ ap (λ (r : List Name). map (λ y. suc (place (same_name y) (l ++ filter (is_new l) r))) xs) q)
    where
      more : suc (length l + length (filter (is_new l) (d ++ x ∷ []))) ≡ suc (length l + length (filter (is_new l) d)) + bit (eqb (number_in l x) 0)
      more = omega (arith, ap length (filter_append (is_new l) d (x ∷ [])), length-append (filter (is_new l) d) (filter (is_new l) (x ∷ [])), new_more x [])

      here : (t : Bool) → any (same_name x) l ≡ t → found_or (suc (length l + length (filter (is_new l) d))) (number_in l x) ≡ suc (place (same_name x) (l ++ filter (is_new l) (d ++ x ∷ xs)))
      here true e =
          ap (λ (t : Bool). found_or (suc (length l + length (filter (is_new l) d))) (when t then suc (place (same_name x) l) else 0)) e
          ∙ ap (λ (t : Bool). when t then suc (length l + length (filter (is_new l) d)) else suc (place (same_name x) l)) (ne_eqb (suc (place (same_name x) l)) 0 (λ z. absurd (omega arith)))
          ∙ ap suc (sym (place_left (same_name x) l (filter (is_new l) (d ++ x ∷ xs)) e))
      here false e =
          let f : any (same_name x) d ≡ false = none_in d (x ∷ xs) u 0 (omega arith) in
          let k : filter (is_new l) (x ∷ xs) ≡ x ∷ filter (is_new l) xs = ap (λ (t : Bool). when not t then x ∷ filter (is_new l) xs else filter (is_new l) xs) e in
          let z : place (same_name x) (x ∷ filter (is_new l) xs) ≡ 0 = ap (λ (t : Bool). when t then 0 else suc (place (same_name x) (filter (is_new l) xs))) (same_itself x) in
          ap (λ (t : Bool). found_or (suc (length l + length (filter (is_new l) d))) (when t then suc (place (same_name x) l) else 0)) e
          ∙ omega (
            arith,
            place_right (same_name x) l (filter (is_new l) (d ++ x ∷ xs)) e,
            ap (place (same_name x)) (filter_append (is_new l) d (x ∷ xs)),
            place_right (same_name x) (filter (is_new l) d) (filter (is_new l) (x ∷ xs)) (none_kept (same_name x) (is_new l) d f),
            ap (place (same_name x)) k,
            z,
          )

-- the second of two joined lists is without repeats if both together are
pub apart_right : (xs ys : List Name) → unlike same_name (xs ++ ys) ≡ true → unlike same_name ys ≡ true
apart_right [] ys e = e
apart_right (x ∷ xs) ys e = apart_right xs ys (apart_here x (xs ++ ys) e).1

-- what a list gives by its elements, and by numbers from i on
by_number : (f : Name → ℕ) (g : ℕ → ℕ) (xs : List Name) (i : ℕ) → ((k : ℕ) → k < length xs → f (get_or xs k []) ≡ g (i + k)) → map f xs ≡ map g (from i (length xs))
by_number f g [] i h = refl
by_number f g (x ∷ xs) i h =
    let z : i + 0 ≡ i = omega arith in
    ap (λ (n : ℕ). n ∷ map f xs) (h 0 (omega arith) ∙ ap g z)
    ∙ ap (λ (r : List ℕ). g i ∷ r) (by_number f g xs (suc i) (λ k l. let q : i + suc k ≡ suc i + k = omega arith in h (suc k) (omega arith) ∙ ap g q))

module _ (S : Session) (ns : List ℕ) where
  -- the session's number of listed name k
  pub listed_number : (k : ℕ) → k < length (listed ns) → to_session S ns (25 + k) ≡ suc (place (same_name (get_or (listed ns) k [])) (names_with S ns))
  listed_number k h =
      let i : 24 + k - length fixed ≡ k = omega arith in
      let j : 25 + k - 1 ≡ 24 + k = omega arith in
      number_is S ns (25 + k) (omega arith) (omega (arith, h, length-append fixed (listed ns)))
      ∙ ap (λ (x : Name). suc (place (same_name x) (names_with S ns)))
      (ap (λ (m : ℕ). get_or (own_names ns) m []) j ∙ get_or_right fixed (listed ns) (24 + k) (omega arith) ∙ ap (λ (m : ℕ). get_or (listed ns) m []) i)

  pub session_numbers_lem : names_fit ns ≡ true → numbers_from (all_names S) (suc (length (all_names S))) (listed ns) ≡ session_numbers S ns
  session_numbers_lem fit =
      let l : List Name = all_names S in
      let z : length l ≡ length l + 0 = omega arith in
      let u : unlike same_name (listed ns) ≡ true = apart_right fixed (listed ns) (names_apart_lem ns fit) in
      ap (λ (m : ℕ). numbers_from l (suc m) (listed ns)) z ∙ numbers_are l [] (listed ns) u
      ∙ by_number (λ x. suc (place (same_name x) (names_with S ns))) (to_session S ns) (listed ns) 25 (λ k h. sym (listed_number k h))

-- Of the listed names of ns some are numbered and counted; xs are left.
pub record Passed (l : List Name) (ns : List ℕ) (xs : List Name) (numbers : List ℕ) (count new bytes : ℕ) : Type 0 where
  pub few : new ≤ count
  pub small : bytes + total (λ n. length n + 1) xs ≤ length ns + 1
  pub counted : count + length xs ≡ length (listed ns)
  pub new_counted : new + length (filter (is_new l) xs) ≡ length (filter (is_new l) (listed ns))
  pub bytes_counted : bytes + length (concat_map ended (filter (is_new l) xs)) ≡ length (concat_map ended (filter (is_new l) (listed ns)))
  pub told : take count numbers ++ numbers_from l (suc (length l) + new) xs ≡ numbers_from l (suc (length l)) (listed ns)

pub passed_none : (l : List Name) (ns : List ℕ) (xs : List Name) (numbers : List ℕ) → xs ≡ listed ns → Passed l ns xs numbers 0 0 0
passed_none l ns xs numbers e =
    let z : suc (length l) + 0 ≡ suc (length l) = omega arith in
    rw e (record {
      few = omega arith;
      small = omega (arith, listed_short ns);
      counted = omega arith;
      new_counted = omega arith;
      bytes_counted = omega arith;
      told = ap (λ (n : ℕ). numbers_from l n (listed ns)) z;
    })

-- a name x is left, before others
module _ {l : List Name} {ns : List ℕ} {ys : List Name} {numbers : List ℕ} {count new bytes : ℕ} (p : Passed l ns ys numbers count new bytes) (x : Name) (xs : List Name) (next : ys ≡ x ∷ xs) where
  -- so there is room,
  pub passed_few : names_fit ns ≡ true → (count < 1024) × (new ≤ 1024) × (bytes ≤ 32768) × (length x ≤ 32768)
  passed_few fit =
      let few = fit_small ns fit in
      let all = ap (total (λ n. length n + 1)) next in (
        omega (arith, p.counted, ap length next, few.0),
        omega (arith, p.counted, ap length next, few.0, p.few),
        omega (arith, p.small, all, few.1),
        omega (arith, p.small, all, few.1),
      )

  -- and it is numbered, whether its number was found or not
  pub passed_next : {number count' new' bytes' : ℕ} {t : Bool} → t ≡ eqb (number_in l x) 0 → number ≡ found_or (suc (length l) + new) (number_in l x) → count < length numbers
      → count' ≡ count + 1 → new' ≡ new + bit t → bytes' ≡ bytes + (when t then length x + 1 else 0) → Passed l ns xs (set numbers count number) count' new' bytes'
  passed_next {number} {count'} {new'} {bytes'} {t} f g room c a b =
      record {
        few = omega (arith, p.few, c, a, small_bit t);
        small = omega (arith, p.small, b, small_part t, ap (total (λ n. length n + 1)) next);
        counted = omega (arith, p.counted, c, ap length next);
        new_counted = omega (arith, p.new_counted, a, ap (λ (r : List Name). length (filter (is_new l) r)) next, new_more l x xs, ap bit f);
        bytes_counted = omega (
          arith,
          p.bytes_counted,
          b,
          ap (λ (r : List Name). length (concat_map ended (filter (is_new l) r))) next,
          bytes_more l x xs,
          ap (λ (u : Bool). when u then length x + 1 else 0) f,
        );
        told =
            ap (λ (k : ℕ). take k (set numbers count number) ++ numbers_from l (suc (length l) + new') xs) c
            ∙ store_next numbers count number (numbers_from l (suc (length l) + new') xs) room
            ∙ ap (λ (r : List ℕ). take count numbers ++ r) here ∙ p.told;
      }
    where
      small_bit : (t : Bool) → bit t ≤ 1
      small_bit true = omega arith
      small_bit false = omega arith

      small_part : (t : Bool) → (when t then length x + 1 else 0) ≤ length x + 1
      small_part true = omega arith
      small_part false = omega arith

      here : number ∷ numbers_from l (suc (length l) + new') xs ≡ numbers_from l (suc (length l) + new) ys
      here =
          let q : suc (length l) + new' ≡ suc (length l) + new + bit (eqb (number_in l x) 0) = omega (arith, a, ap bit f) in
          ap (λ (k : ℕ). k ∷ numbers_from l (suc (length l) + new') xs) g
          ∙ ap (λ (k : ℕ). found_or (suc (length l) + new) (number_in l x) ∷ numbers_from l k xs) q
          ∙ ap (numbers_from l (suc (length l) + new)) (sym next)

-- no name is left
pub passed_all : {l : List Name} {ns : List ℕ} {xs : List Name} {numbers : List ℕ} {count new bytes : ℕ} → Passed l ns xs numbers count new bytes → xs ≡ [] → names_fit ns ≡ true
    → (S : Session) → all_names S ≡ l → NamesTold S ns count new bytes numbers
passed_all {l} {ns} {xs} {numbers} {count} {new} {bytes} p none fit S held =
    let c : count ≡ length (listed ns) = omega (arith, p.counted, ap length none) in
    let k : filter (is_new l) (listed ns) ≡ new_names S ns = ap (λ (m : List Name). filter (is_new m) (listed ns)) (sym held) in
    record {
      counted = c;
      new_counted = omega (arith, p.new_counted, ap (λ (r : List Name). length (filter (is_new l) r)) none, ap length k);
      bytes_counted = omega (
        arith,
        p.bytes_counted,
        ap (λ (r : List Name). length (concat_map ended (filter (is_new l) r))) none,
        ap (λ (r : List Name). length (concat_map ended r)) k,
      );
      told =
          sym (append-nil (take count numbers)) ∙ ap (λ (r : List Name). take count numbers ++ numbers_from l (suc (length l) + new) r) (sym none) ∙ p.told
          ∙ ap (λ (m : List Name). numbers_from m (suc (length m)) (listed ns)) (sym held) ∙ session_numbers_lem S ns fit;
    }
