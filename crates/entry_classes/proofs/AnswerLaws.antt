-- What the answer rows of a sheet tell of classes and members is what its class rows tell, in row order.
use mathlib.Core.Path.{◌≡◌, refl, sym, ap, ◌∙◌, subst}
use mathlib.Core.List.Memᴰ.{head as here}
use mathlib.Core.List.Memᴰ.{tail as there}
use mathlib.Core.List.{List, [], ◌∷◌, ◌++◌, map, Memᴰ as Mem}
use mathlib.Core.Bool.{Bool, true, false, not, ◌&&◌, ◌||◌}
use Prim.Native.Nat.{ℕ, zero, suc, ◌+◌, ◌<◌, ◌≤◌}
use native.Mathlib.Omega.{arith}
use lib.ListN.{get_or, set}
use lib.Seq.{get_or-set_other}
use lib.Dec.{eqb, ltb, T}
use borrow.Author.Tests.{lt-ltb}
use Rattle.definition.specs.Basics.{when◌then◌else◌, filter, all, concat_map, from, bit, place}
use Rattle.definition.specs.Sheet.{Sheet, kind, child, b, rows, is, kids_of}
use Rattle.definition.specs.Meaning.{Meaning, nothing, function, class, global, toplevel, variable, is_variable, is_class, owner_of}
use Rattle.definition.specs.Outside.{Outside}
use Rattle.definition.specs.Scope.{Moment, visited, within, declaration, visit_of, declaring_of}
use Rattle.definition.specs.Slots.{code, open_locals, is_mutable}
use Rattle.definition.specs.Capture.{Use, use_at, captures, seen_from, sources, escaping, distance, same}
use Rattle.definition.specs.Answer.{is_callee_base, class_calls, eight, with_fourth, let_row, identifier_row, host_row, instance_row, member_row}
use Rattle.definition.specs.Answer.{literal_rows, function_rows, class_rows, rows_of, answers, raised_function, raised_class, raised_row, raised}
use Rattle.definition.proofs.Lists.Tests.{and_both, T_true, kind_apart}
use Rattle.definition.proofs.Lists.Members.{Every, every_none, every_one, every_append, from_mem, map_append}
use Rattle.text.proofs.Lists.{concat_append, concat_map_lem}
use Rattle.raise.proofs.OwnerLaws.{every_map, every_concat, every_take}
use Rattle.entry_classes.specs.Told.{row_fits}

-- an answer row over base n; over base 0 as it is
abbrev pub raised_by : ℕ → List ℕ → List ℕ
raised_by zero x = x
raised_by (suc n) x = raised_row (suc n) x

raised_each : (n : ℕ) (xs : List (List ℕ)) → raised n xs ≡ map (raised_by n) xs
raised_each zero [] = refl
raised_each zero (x ∷ xs) = ap (λ (ys : List (List ℕ)). x ∷ ys) (raised_each zero xs)
raised_each (suc n) xs = refl

-- its sheet row and code stay
raised_keeps : (n : ℕ) (x : List ℕ) (j : ℕ) → j < 2 → get_or (raised_by n x) j 0 ≡ get_or x j 0
raised_keeps zero x j l = refl
raised_keeps (suc n) x j l = go (eqb c 1) (eqb c 2 || eqb c 22) (eqb c 4 || eqb c 5) (eqb c 24)
  where
    c : ℕ
    c = get_or x 1 0

    two : (v : ℕ) → get_or (set x 2 v) j 0 ≡ get_or x j 0
    two v = get_or-set_other x 2 j v 0 (λ e. omega arith)

    three : (v : ℕ) → get_or (set x 3 v) j 0 ≡ get_or x j 0
    three v = get_or-set_other x 3 j v 0 (λ e. omega arith)

    go : (t u v w : Bool)
        → get_or (when t then set x 2 (raised_function (suc n) (get_or x 2 0)) else when u then set x 2 (raised_class (suc n) (get_or x 2 0))
        else when v then set x 3 (get_or x 3 0 + suc n) else when w then set x 3 (raised_function (suc n) (get_or x 3 0)) else x) j 0
        ≡ get_or x j 0
    go true u v w = two (raised_function (suc n) (get_or x 2 0))
    go false true v w = two (raised_class (suc n) (get_or x 2 0))
    go false false true w = three (get_or x 3 0 + suc n)
    go false false false true = three (raised_function (suc n) (get_or x 3 0))
    go false false false false = refl

-- the answer row of sheet row r with code and values vs, over base n
abbrev pub answer_over : ℕ → ℕ → List ℕ → List ℕ
answer_over n r vs = raised_by n (eight (r ∷ vs))

pub answer_code : (n r c : ℕ) (vs : List ℕ) → get_or (answer_over n r (c ∷ vs)) 1 0 ≡ c
answer_code n r c vs = raised_keeps n (eight (r ∷ c ∷ vs)) 1 (omega arith)

-- code and values that tell no class and no member
abbrev Low : ℕ → List ℕ → Type 0
Low r vs = T (ltb (get_or (eight (r ∷ vs)) 1 0) 22)

fourth_low : (r n : ℕ) (vs : List ℕ) → Low r vs → Low r (with_fourth n vs)
fourth_low r n [] h = tt
fourth_low r n (c ∷ vs) h = h

truth_low : (r : ℕ) (t : Bool) → Low r ((when t then 7 else 8) ∷ [])
truth_low r true = tt
truth_low r false = tt

module _ (s : Sheet) (h : List Moment) where
  code_low : (r : ℕ) (d : Meaning) (k : ℕ) → Low r (code s h d k)
  code_low r nothing k = tt
  code_low r (function f) k = tt
  code_low r (class c) k = tt
  code_low r (global g m) k = tt
  code_low r (toplevel x) k = tt
  code_low r (variable x f) k = go (is s 11 x)
    where
      go : (t : Bool) → Low r (when t then 4 ∷ place (eqb x) (kids_of s 11 f) ∷ f ∷ [] else 5 ∷ k ∷ f ∷ bit (eqb (b s x) 1) ∷ [])
      go true = tt
      go false = tt

  seen_low : (r f : ℕ) (u : Use) → Low r (seen_from s h f u)
  seen_low r f u = go (is_variable u.means && not (eqb (owner_of u.means) f))
    where
      go : (t : Bool) → Low r (when t then 6 ∷ place (same u) (captures s h f) ∷ 0 ∷ bit (is_mutable s u.means) ∷ [] else code s h u.means u.slot)
      go true = tt
      go false = code_low r u.means u.slot

  let_low : (r : ℕ) → Every (Low r) (let_row s h r)
  let_low r =
      every_take 1 (every_append
      (every_map (λ m. code s h (declaration s m) (open_locals s m.stack)) (declaring_of h r) (λ m q. code_low r (declaration s m) (open_locals s m.stack)))
      (every_one tt every_none))

  identifier_low : (r : ℕ) → Every (Low r) (identifier_row s h r)
  identifier_low r =
      every_map (λ m. with_fourth (distance (use_at s m)) (seen_from s h (within s m) (use_at s m)))
      (filter (λ m. not (is_callee_base s r && is_class (use_at s m).means)) (visit_of h r))
      (λ m q. fourth_low r (distance (use_at s m)) (seen_from s h (within s m) (use_at s m)) (seen_low r (within s m) (use_at s m)))

  host_low : (r : ℕ) → Every (Low r) (host_row s h r)
  host_low r = every_map _ (visit_of h r) (λ m q. truth_low r (eqb (within s m) (b s 0)))

  instance_low : (r : ℕ) → Every (Low r) (instance_row s h r)
  instance_low r = every_map _ (visit_of h r) (λ m q. tt)

  literal_low : (r : ℕ) → Every (Low r) (literal_rows s h r)
  literal_low r =
      every_concat (λ m. sources s h (within s m) (child s r)) (visit_of h r)
      (λ m q. every_map (seen_from s h (within s m)) (captures s h (child s r)) (λ u k. seen_low r (within s m) u))

  function_low : (r : ℕ) → Every (Low r) (function_rows s h r)
  function_low r =
      every_one tt (every_append
      (every_map (λ u. code s h u.means u.slot) (captures s h r) (λ u k. code_low r u.means u.slot))
      (every_map (λ k. 5 ∷ k ∷ r ∷ 1 ∷ []) (escaping s h r) (λ k q. tt)))

  member_low : (O : Outside) (r : ℕ) → Every (Low r) (member_row O s h r)
  member_low O r = every_map _ (filter (λ m. eqb (child s (visited m.event)) r) (class_calls s h)) (λ m q. tt)

-- What is picked of answer rows, if of those with low codes nothing is.
module _ {B : Type 0} (pick : List ℕ → List B) (none : (x : List ℕ) → T (ltb (get_or x 1 0) 22) → pick x ≡ []) (n : ℕ) where
  -- of the rows of sheet row r
  abbrev pub picked_of : ℕ → List (List ℕ) → List B
  picked_of r vss = concat_map (λ vs. pick (answer_over n r vs)) vss

  low_none : (r : ℕ) {vss : List (List ℕ)} → Every (Low r) vss → picked_of r vss ≡ []
  low_none r every_none = refl
  low_none r (every_one {x = vs} {xs = vss} l p) =
      ap (λ (ys : List B). ys ++ picked_of r vss) (none (answer_over n r vs) (subst (λ (c : ℕ). T (ltb c 22)) (sym (raised_keeps n (eight (r ∷ vs)) 1 (omega arith))) l))
      ∙ low_none r p

  choose : (r : ℕ) (t u : Bool) {xs : List (List ℕ)} (ys : List (List ℕ)) (z : List B) → (T t → T u → ⊥) → Every (Low r) xs → picked_of r ys ≡ (when u then z else [])
      → picked_of r (when t then xs else ys) ≡ (when u then z else [])
  choose r true true ys z x p e = absurd (x tt tt)
  choose r true false ys z x p e = low_none r p
  choose r false u ys z x p e = e

  last : (r : ℕ) (u : Bool) (xs : List (List ℕ)) → picked_of r (when u then xs else []) ≡ (when u then picked_of r xs else [])
  last r true xs = refl
  last r false xs = refl

  module _ (O : Outside) (s : Sheet) (h : List Moment) where
    abbrev pub picked_class : ℕ → List B
    picked_class r = picked_of r (class_rows O s h r)

    row_picked : (r : ℕ) → picked_of r (rows_of O s h r) ≡ (when is s 4 r then picked_class r else [])
    row_picked r =
        choose r (is s 29 r) (is s 4 r) _ _ (kind_apart (kind s r) 29 4 tt) (let_low s h r)
        (choose r (is s 50 r) (is s 4 r) _ _ (kind_apart (kind s r) 50 4 tt) (identifier_low s h r)
        (choose r (is s 51 r) (is s 4 r) _ _ (kind_apart (kind s r) 51 4 tt) (host_low s h r)
        (choose r (is s 55 r) (is s 4 r) _ _ (kind_apart (kind s r) 55 4 tt) (instance_low s h r)
        (choose r (is s 54 r) (is s 4 r) _ _ (kind_apart (kind s r) 54 4 tt) (member_low s h O r)
        (choose r (is s 52 r) (is s 4 r) _ _ (kind_apart (kind s r) 52 4 tt) (literal_low s h r)
        (choose r (is s 6 r) (is s 4 r) _ _ (kind_apart (kind s r) 6 4 tt) (function_low s h r) (last r (is s 4 r) (class_rows O s h r))))))))

    rows_picked : (rs : List ℕ) → concat_map pick (map (raised_by n) (concat_map (λ r. map (λ vs. eight (r ∷ vs)) (rows_of O s h r)) rs)) ≡ concat_map picked_class (filter (is s 4) rs)
    rows_picked [] = refl
    rows_picked (r ∷ rs) =
        ap (concat_map pick) (map_append (raised_by n) own rest)
        ∙ concat_append pick (map (raised_by n) own) (map (raised_by n) rest)
        ∙ ap (λ (ys : List B). ys ++ concat_map pick (map (raised_by n) rest))
        (concat_map_lem pick (raised_by n) own ∙ concat_map_lem (λ x. pick (raised_by n x)) (λ vs. eight (r ∷ vs)) (rows_of O s h r) ∙ row_picked r)
        ∙ ap (λ (ys : List B). (when is s 4 r then picked_class r else []) ++ ys) (rows_picked rs)
        ∙ join (is s 4 r)
      where
        own : List (List ℕ)
        own = map (λ vs. eight (r ∷ vs)) (rows_of O s h r)

        rest : List (List ℕ)
        rest = concat_map (λ r. map (λ vs. eight (r ∷ vs)) (rows_of O s h r)) rs

        join : (t : Bool) → (when t then picked_class r else []) ++ concat_map picked_class (filter (is s 4) rs) ≡ concat_map picked_class (when t then r ∷ filter (is s 4) rs else filter (is s 4) rs)
        join true = refl
        join false = refl

    -- of all answer rows: what is picked of the class rows
    pub picked : concat_map pick (raised n (answers O s h)) ≡ concat_map picked_class (filter (is s 4) (from 0 (rows s)))
    picked = ap (concat_map pick) (raised_each n (answers O s h)) ∙ rows_picked (from 0 (rows s))

-- every answer row is of a row of the sheet
pub answers_fit : (O : Outside) (s : Sheet) (h : List Moment) (n : ℕ) → rows s ≤ 2048 → T (all row_fits (raised n (answers O s h)))
unfolding row_fits
answers_fit O s h n few = subst (λ (xs : List (List ℕ)). T (all row_fits xs)) (sym (raised_each n (answers O s h))) (go (from 0 (rows s)) (λ r q. omega (arith, from_mem r 0 (rows s) q)))
  where
    of_row : (r : ℕ) → r < 2048 → (vss : List (List ℕ)) (xs : List (List ℕ)) → T (all row_fits xs) → T (all row_fits (map (raised_by n) (map (λ vs. eight (r ∷ vs)) vss) ++ xs))
    of_row r l [] xs p = p
    of_row r l (vs ∷ vss) xs p =
        and_both (row_fits (answer_over n r vs)) (all row_fits (map (raised_by n) (map (λ vs. eight (r ∷ vs)) vss) ++ xs))
        (T_true (row_fits (answer_over n r vs)) (ap (λ (k : ℕ). ltb k 2048) (raised_keeps n (eight (r ∷ vs)) 0 (omega arith)) ∙ lt-ltb r 2048 l))
        (of_row r l vss xs p)

    go : (rs : List ℕ) → ((r : ℕ) → Mem r rs → r < 2048) → T (all row_fits (map (raised_by n) (concat_map (λ r. map (λ vs. eight (r ∷ vs)) (rows_of O s h r)) rs)))
    go [] l = tt
    go (r ∷ rs) l =
        subst (λ (xs : List (List ℕ)). T (all row_fits xs))
        (sym (map_append (raised_by n) (map (λ vs. eight (r ∷ vs)) (rows_of O s h r)) (concat_map (λ r. map (λ vs. eight (r ∷ vs)) (rows_of O s h r)) rs)))
        (of_row r (l r (here refl)) (rows_of O s h r) (map (raised_by n) (concat_map (λ r. map (λ vs. eight (r ∷ vs)) (rows_of O s h r)) rs)) (go rs (λ x q. l x (there q))))
