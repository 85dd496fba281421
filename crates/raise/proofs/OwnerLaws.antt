-- In the answer rows of a walk, the function of a local or an argument is a row of the sheet.
use mathlib.Core.Path.{◌≡◌, refl, sym, subst}
use mathlib.Core.List.Memᴰ.{head as here}
use mathlib.Core.List.Memᴰ.{tail as there}
use mathlib.Core.List.{List, [], ◌∷◌, map, Memᴰ as Mem}
use mathlib.Core.Bool.{Bool, true, false, not, ◌&&◌}
use Prim.Native.Nat.{ℕ, zero, suc, ◌+◌, ◌*◌, ◌<◌, ◌≤◌}
use native.Mathlib.Omega.{arith}
use lib.ListN.{length, take, get_or-eq_default}
use lib.Dec.{eqb, leb, ltb, T, eqb→eq, leb→le}
use borrow.Author.Tests.{lt-ltb, ltb-true, ltb-false}
use Rattle.definition.specs.Basics.{when◌then◌else◌, filter, final, all, concat_map, from, bit, head, place}
use Rattle.definition.specs.Sheet.{Sheet, kind, child, a, b, rows, is, kids_of}
use Rattle.definition.specs.Outside.{Outside, OutsideFits, Method}
use Rattle.definition.specs.Meaning.{Meaning, nothing, function, class, global, toplevel, variable, is_variable, is_class, owner_of, row_of}
use Rattle.definition.specs.Scope.{Stack, scope, looping, bound, find, top, around, inside, declared}
use Rattle.definition.specs.Scope.{Moment, within, declaration, declares, visited, history, visits, visit_of, declaring_of}
use Rattle.definition.specs.Slots.{is_mutable, open_locals, code}
use Rattle.definition.specs.Capture.{Use, use_at, uses, captures, seen_from, sources, escaping, distance, same}
use Rattle.definition.specs.Classes.{fields, methods}
use Rattle.definition.specs.Answer.{eight, with_fourth, numbered, is_callee_base, class_calls}
use Rattle.definition.specs.Answer.{let_row, identifier_row, host_row, instance_row, member_row, literal_rows, function_rows, class_rows, rows_of, answers}
use Rattle.definition.specs.Outcome.{rows_fit}
use Rattle.definition.proofs.Lists.Tests.{T_true, and_both, and_left, and_right}
use Rattle.definition.proofs.Lists.Members.{Every, every_none, every_one, every_append, every_mem, filter_mem, map_mem, from_mem}
use Rattle.definition.proofs.Closure.Captured.{captured_use}
use Rattle.definition.proofs.Closure.Declared.{earlier, declared_variable}
use Rattle.definition.proofs.Closure.Variables.{find_open}
use Rattle.raise.specs.RaisedWords.{owner_fits}

-- lists made of others
module _ {A B : Type 0} {P : B → Type 0} where
  pub every_map : (f : A → B) (xs : List A) → ((x : A) → Mem x xs → P (f x)) → Every P (map f xs)
  every_map f [] h = every_none
  every_map f (x ∷ xs) h = every_one (h x (here refl)) (every_map f xs (λ y m. h y (there m)))

  pub every_concat : (f : A → List B) (xs : List A) → ((x : A) → Mem x xs → Every P (f x)) → Every P (concat_map f xs)
  every_concat f [] h = every_none
  every_concat f (x ∷ xs) h = every_append (h x (here refl)) (every_concat f xs (λ y m. h y (there m)))

module _ {A : Type 0} where
  every_if : {P : A → Type 0} (t : Bool) {xs ys : List A} → Every P xs → Every P ys → Every P (when t then xs else ys)
  every_if true p q = p
  every_if false p q = q

  pub every_take : {P : A → Type 0} (n : ℕ) {xs : List A} → Every P xs → Every P (take n xs)
  every_take zero p = every_none
  every_take (suc n) every_none = every_none
  every_take (suc n) (every_one h p) = every_one h (every_take n p)

  final_mem : (x : A) (xs : List A) → Mem x (final xs) → Mem x xs
  final_mem x [] m = m
  final_mem x (y ∷ []) m = m
  final_mem x (y ∷ z ∷ zs) m = there (final_mem x (z ∷ zs) m)

  all_every : (p : A → Bool) {xs : List A} → Every (λ x. T (p x)) xs → T (all p xs)
  all_every p every_none = tt
  all_every p (every_one {x = x} {xs = xs} h q) = and_both (p x) (all p xs) h (all_every p q)

-- what is a local or an argument is one of a function below 2,048
abbrev Owned : Meaning → Type 0
Owned d = T (is_variable d) → owner_of d < 2048

-- answer row r with these code and values fits
abbrev Fit : ℕ → List ℕ → Type 0
Fit r vs = T (owner_fits (eight (r ∷ vs)))

below : (f : ℕ) → f < 2048 → T (ltb f 2048)
below f l = T_true (ltb f 2048) (lt-ltb f 2048 l)

fourth_fits : (r n : ℕ) (vs : List ℕ) → Fit r vs → Fit r (with_fourth n vs)
unfolding owner_fits
fourth_fits r n [] h = tt
fourth_fits r n (c ∷ []) h = h
fourth_fits r n (c ∷ x ∷ []) h = h
fourth_fits r n (c ∷ x ∷ y ∷ vs) h = h

numbered_fits : (r i : ℕ) (ns : List ℕ) → Every (Fit r) (numbered i ns)
unfolding owner_fits
numbered_fits r i [] = every_none
numbered_fits r i (n ∷ ns) = every_one tt (numbered_fits r (suc i) ns)

truth_fits : (r : ℕ) (t : Bool) → Fit r ((when t then 7 else 8) ∷ [])
unfolding owner_fits
truth_fits r true = tt
truth_fits r false = tt

function_told : (r : ℕ) (f : Moment → ℕ) (ms : List Moment) → Every (Fit r) (map (λ m. 1 ∷ f m ∷ []) ms)
unfolding owner_fits
function_told r f ms = every_map (λ m. 1 ∷ f m ∷ []) ms (λ m q. tt)

class_told : (r : ℕ) (f : Moment → ℕ) (ms : List Moment) → Every (Fit r) (map (λ m. 2 ∷ f m ∷ []) ms)
unfolding owner_fits
class_told r f ms = every_map (λ m. 2 ∷ f m ∷ []) ms (λ m q. tt)

-- Sheets of at most 2,048 rows.
module _ (s : Sheet) (whole : T (rows_fit s)) where
  few_rows : rows s ≤ 2048
  few_rows = leb→le (rows s) 2048 (and_right (eqb (8 * rows s) (length s) && leb 1 (rows s)) (leb (rows s) 2048) whole)

  whole_rows : 8 * rows s ≡ length s
  whole_rows =
      eqb→eq (8 * rows s) (length s)
      (and_left (eqb (8 * rows s) (length s)) (leb 1 (rows s)) (and_left (eqb (8 * rows s) (length s) && leb 1 (rows s)) (leb (rows s) 2048) whole))

  -- a row past the end is of kind 0
  kind_below : (f : ℕ) → T (is s 6 f) → f < 2048
  kind_below f t = go (ltb f (rows s)) refl
    where
      go : (u : Bool) → ltb f (rows s) ≡ u → f < 2048
      go true e = omega (arith, ltb-true f (rows s) e, few_rows)
      go false e =
          let past : length s ≤ 8 * f + 0 = omega (arith, ltb-false f (rows s) e, whole_rows) in
          let six : kind s f ≡ 6 = eqb→eq (kind s f) 6 t in
          absurd (omega (arith, six, get_or-eq_default s 0 past))

  inside_below : (st : Stack) → inside s st < 2048
  inside_below [] = omega arith
  inside_below (scope r ∷ st) = go (is s 6 r) (kind_below r) (inside_below st)
    where
      go : (t : Bool) → (T t → r < 2048) → inside s st < 2048 → head (when t then r ∷ around s st else around s st) < 2048
      go true h up = h tt
      go false h up = up
  inside_below (looping ∷ st) = inside_below st
  inside_below (bound n d ∷ st) = inside_below st

  declared_owned : (r : ℕ) (st : Stack) → Owned (declared s r (inside s st))
  declared_owned r st v = subst (λ (d : Meaning). owner_of d < 2048) (sym (declared_variable s r (inside s st) v).0) (inside_below st)

  module _ (h : List Moment) where
    code_fits : (r : ℕ) (d : Meaning) (k : ℕ) → Owned d → Fit r (code s h d k)
    unfolding owner_fits
    code_fits r nothing k o = tt
    code_fits r (function f) k o = tt
    code_fits r (class c) k o = tt
    code_fits r (global g m) k o = tt
    code_fits r (toplevel x) k o = tt
    code_fits r (variable x f) k o = go (is s 11 x)
      where
        go : (t : Bool) → Fit r (when t then 4 ∷ place (eqb x) (kids_of s 11 f) ∷ f ∷ [] else 5 ∷ k ∷ f ∷ bit (eqb (b s x) 1) ∷ [])
        go true = below f (o tt)
        go false = below f (o tt)

    seen_fits : (r f : ℕ) (u : Use) → Owned u.means → Fit r (seen_from s h f u)
    unfolding owner_fits
    seen_fits r f u o = go (is_variable u.means && not (eqb (owner_of u.means) f))
      where
        go : (t : Bool) → Fit r (when t then 6 ∷ place (same u) (captures s h f) ∷ 0 ∷ bit (is_mutable s u.means) ∷ [] else code s h u.means u.slot)
        go true = tt
        go false = code_fits r u.means u.slot o

  module _ {O : Outside} (known : OutsideFits O) where
    -- what an identifier means was declared in a function of the sheet
    use_owned : (m : Moment) → Mem m (history O s) → Owned (use_at s m).means
    use_owned m q v =
        let n : ℕ = a s (visited m.event) in
        let d : Meaning = top (find n m.stack) in
        let o = find_open s n m.stack v in
        let w = earlier known s m q o.at n d o.before o.is_open v in
        let e = w.decl_is in
        subst (λ (x : Meaning). owner_of x < 2048) e (declared_owned (row_of d) w.moment.stack (subst (λ (x : Meaning). T (is_variable x)) (sym e) v))

    uses_owned : (u : Use) → Mem u (uses s (history O s)) → Owned u.means
    uses_owned u q =
        let m = map_mem (use_at s) u (visits s (history O s) 50) q in
        subst (λ (x : Use). Owned x.means) (sym m.2) (use_owned m.0 (filter_mem (λ x. is s 50 (visited x.event)) m.0 (history O s) m.1).0)

    captured_owned : (f : ℕ) (u : Use) → Mem u (captures s (history O s) f) → Owned u.means
    captured_owned f u q = uses_owned u (captured_use s (history O s) f u q).0

    abbrev h : List Moment
    h = history O s

    let_fits : (r : ℕ) → Every (Fit r) (let_row s h r)
    unfolding owner_fits
    let_fits r =
        every_take 1 (every_append
        (every_map (λ m. code s h (declaration s m) (open_locals s m.stack)) (declaring_of h r)
        (λ m q. code_fits h r (declaration s m) (open_locals s m.stack) (declared_owned (declares m.event) m.stack)))
        (every_one tt every_none))

    identifier_fits : (r : ℕ) → Every (Fit r) (identifier_row s h r)
    identifier_fits r =
        every_map (λ m. with_fourth (distance (use_at s m)) (seen_from s h (within s m) (use_at s m))) (filter shown (visit_of h r))
        (λ m q. fourth_fits r (distance (use_at s m)) (seen_from s h (within s m) (use_at s m)) (seen_fits h r (within s m) (use_at s m) (use_owned m (among m q))))
      where
        shown : Moment → Bool
        shown m = not (is_callee_base s r && is_class (use_at s m).means)

        among : (m : Moment) → Mem m (filter shown (visit_of h r)) → Mem m h
        among m q =
            (filter_mem (λ (x : Moment). eqb (visited x.event) r) m h
            (final_mem m (filter (λ (x : Moment). eqb (visited x.event) r) h) (filter_mem shown m (visit_of h r) q).0)).0

    literal_fits : (r : ℕ) → Every (Fit r) (literal_rows s h r)
    literal_fits r =
        every_concat (λ m. sources s h (within s m) (child s r)) (visit_of h r) (λ m q. every_map (seen_from s h (within s m)) (captures s h (child s r))
        (λ u k. seen_fits h r (within s m) u (captured_owned (child s r) u k)))

    function_fits : (r : ℕ) → r < rows s → Every (Fit r) (function_rows s h r)
    unfolding owner_fits
    function_fits r l =
        every_one tt (every_append
        (every_map (λ u. code s h u.means u.slot) (captures s h r) (λ u k. code_fits h r u.means u.slot (captured_owned r u k)))
        (every_map (λ k. 5 ∷ k ∷ r ∷ 1 ∷ []) (escaping s h r) (λ k q. below r (omega (arith, few_rows)))))

    class_fits_lem : (r : ℕ) → Every (Fit r) (class_rows O s h r)
    unfolding owner_fits
    class_fits_lem r =
        every_one tt
        (every_append (numbered_fits r 0 (fields O s h (rows s) (256 + r)))
        (every_map (λ (m : Method). 24 ∷ m.name ∷ m.fun ∷ []) (methods O s h (rows s) (256 + r)) (λ m q. tt)))

    host_fits : (r : ℕ) → Every (Fit r) (host_row s h r)
    host_fits r = every_map _ (visit_of h r) (λ m q. truth_fits r (eqb (within s m) (b s 0)))

    instance_fits : (r : ℕ) → Every (Fit r) (instance_row s h r)
    instance_fits r = class_told r _ (visit_of h r)

    member_fits : (r : ℕ) → Every (Fit r) (member_row O s h r)
    member_fits r = function_told r _ (filter (λ m. eqb (child s (visited m.event)) r) (class_calls s h))

    rows_fit_lem : (r : ℕ) → r < rows s → Every (Fit r) (rows_of O s h r)
    rows_fit_lem r l =
        every_if (is s 29 r) (let_fits r)
        (every_if (is s 50 r) (identifier_fits r)
        (every_if (is s 51 r) (host_fits r)
        (every_if (is s 55 r) (instance_fits r)
        (every_if (is s 54 r) (member_fits r)
        (every_if (is s 52 r) (literal_fits r) (every_if (is s 6 r) (function_fits r l) (every_if (is s 4 r) (class_fits_lem r) every_none)))))))

    pub owners_fit : T (all owner_fits (answers O s (history O s)))
    owners_fit = all_every owner_fits (every_concat (λ r. map (λ vs. eight (r ∷ vs)) (rows_of O s h r)) (from 0 (rows s)) row)
      where
        row : (r : ℕ) → Mem r (from 0 (rows s)) → Every (λ x. T (owner_fits x)) (map (λ vs. eight (r ∷ vs)) (rows_of O s h r))
        row r q =
            let l : r < rows s = omega (arith, from_mem r 0 (rows s) q) in
            every_map (λ vs. eight (r ∷ vs)) (rows_of O s h r) (λ vs k. every_mem (rows_fit_lem r l) k)
