-- The names of a session: the starts of the listed ones, and what reading them answers.
use mathlib.Core.Path.{◌≡◌, refl, sym, ap, ◌∙◌}
use mathlib.Core.Bool.{Bool, true, false, not, ◌&&◌}
use mathlib.Core.List.{List, [], ◌∷◌}
use Prim.Native.Nat.{ℕ, zero, suc, ◌+◌, ◌-◌, ◌≤◌}
use native.Mathlib.Omega.{arith}
use lib.Dec.{eqb}
use lib.ListN.{length, get_or, take, drop, length-append}
use borrow.Author.Tests.{eq-eqb, ne_eqb, eqb-true, not-true, not-false}
use Rattle.std.specs.Prelude.{Option, Some, None}
use Rattle.std.specs.Option.{is_some}
use Rattle.name_index.specs.declared.NameIndex.{NameIndex}
use Rattle.session_names.specs.Listing.{Listing}
use Rattle.definition.specs.Basics.{concat_map}
use Rattle.definition.specs.Names.{Name, listed, same_name, names_fit}
use Rattle.definition.proofs.Lists.Tests.{T_true}
use Rattle.names.specs.Listed.{starts_from, starts}
use Rattle.session.specs.Words.{whole, ended, fixed_bytes, name_bytes, session_names_fit, bytes_of}

start_at : (l : List Name) (at k : ℕ) → k ≤ length l → get_or (starts_from at l) k 0 ≡ at + length (concat_map ended (take k l))
start_at [] at zero h = omega arith
start_at [] at (suc k) h = absurd (omega arith)
start_at (n ∷ l) at zero h = omega arith
start_at (n ∷ l) at (suc k) h =
    omega (arith, start_at l (at + length n + 1) k (omega arith), length-append (ended n) (concat_map ended (take k l)), length-append n (10 ∷ []))

-- nothing is promised of refused names
pub listing_no : {fits : Bool} (ns : List ℕ) (r : Option NameIndex) → r ≡ None → fits ≡ false → Listing fits ns r
listing_no ns None e f = f
listing_no ns (Some x) e f = absurd (T_true false (ap is_some (sym e)))

-- they are there exactly if the test is passed
pub listing_fits : {fits : Bool} (ns : List ℕ) (r : Option NameIndex) → Listing fits ns r → is_some r ≡ fits
listing_fits ns None h = sym h
listing_fits ns (Some x) h = sym h.0

module _ (w n : List ℕ) where
  abbrev ns : List ℕ
  ns = name_bytes whole w n

  abbrev same : Bool
  same = same_name (take 168 n) fixed_bytes

  pub fixed_no : {x : Bool} → x ≡ same → not x ≡ true → session_names_fit whole w n ≡ false
  fixed_no {x} e m = ap (λ (u : Bool). u && names_fit ns && eqb (length (listed ns)) (get_or w 3 0)) (sym e ∙ not-true x m)

  rest_of : {x : Bool} → x ≡ same → not x ≡ false → session_names_fit whole w n ≡ (names_fit ns && eqb (length (listed ns)) (get_or w 3 0))
  rest_of {x} e m = ap (λ (u : Bool). u && names_fit ns && eqb (length (listed ns)) (get_or w 3 0)) (sym e ∙ not-false x m)

  -- the list is the session's,
  part_is : {s : ℕ} {l : List ℕ} → s ≡ get_or w 4 0 → l ≡ take (168 + s - 168) (drop 168 n) → l ≡ ns
  part_is {s} e f = let m : 168 + s - 168 ≡ get_or w 4 0 = omega (arith, e) in f ∙ ap (λ (j : ℕ). take j (drop 168 n)) m

  -- refused as 2,
  pub list_no : {x : Bool} {s : ℕ} → x ≡ same → not x ≡ false → s ≡ get_or w 4 0 → names_fit (take (168 + s - 168) (drop 168 n)) ≡ false → session_names_fit whole w n ≡ false
  list_no e y a f = rest_of e y ∙ ap (λ (u : Bool). u && eqb (length (listed ns)) (get_or w 3 0)) (ap names_fit (sym (part_is a refl)) ∙ f)

  module _ {x : Bool} {s : ℕ} {l : List ℕ} (e : x ≡ same) (y : not x ≡ false) (a : s ≡ get_or w 4 0) (p : l ≡ take (168 + s - 168) (drop 168 n)) (fit : names_fit l ≡ true)
      (m k : ℕ) (count : k ≡ length (listed l)) (b : m ≡ get_or w 3 0) where
    counted : session_names_fit whole w n ≡ eqb (length (listed ns)) (get_or w 3 0)
    counted = rest_of e y ∙ ap (λ (u : Bool). u && eqb (length (listed ns)) (get_or w 3 0)) (ap names_fit (sym (part_is a p)) ∙ fit)

    size : length (listed ns) ≡ k
    size = sym (count ∙ ap (λ (v : List ℕ). length (listed v)) (part_is a p))

    -- of another number of names,
    pub names_no : (k ≡ m → ⊥) → session_names_fit whole w n ≡ false
    names_no f = counted ∙ ne_eqb (length (listed ns)) (get_or w 3 0) (λ z. f (omega (arith, size, b, z)))

    -- or of as many as the session says
    pub names_yes : k ≡ m → (session_names_fit whole w n ≡ true) × (l ≡ ns)
    names_yes f = (counted ∙ eq-eqb (length (listed ns)) (get_or w 3 0) (omega (arith, size, b, f)), part_is a p)

  -- the table has the bytes before each name
  pub start_bytes : {l t : List ℕ} → l ≡ ns → t ≡ starts l → session_names_fit whole w n ≡ true → (j : ℕ) → j ≤ get_or w 3 0 → get_or t j 0 ≡ bytes_of whole w n j
  start_bytes e f y j h =
      let z : length (listed ns) ≡ get_or w 3 0 = eqb-true (length (listed ns)) (get_or w 3 0) (right (same && names_fit ns) (eqb (length (listed ns)) (get_or w 3 0)) y) in
      ap (λ (u : List ℕ). get_or u j 0) (f ∙ ap starts e) ∙ start_at (listed ns) 0 j (omega (arith, z, h)) ∙ zero_add (bytes_of whole w n j)
    where
      right : (a b : Bool) → (a && b) ≡ true → b ≡ true
      right true b e = e
      right false b e = absurd (T_true false e)

      zero_add : (m : ℕ) → 0 + m ≡ m
      zero_add m = omega arith
