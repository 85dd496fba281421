-- What an outcome without a refusal says, and how long the buffer is.
use mathlib.Core.Path.{◌≡◌, refl, sym, ap, ◌∙◌, subst}
use mathlib.Core.List.{List, [], ◌∷◌, ◌++◌, map, append_assoc}
use mathlib.Core.Bool.{Bool, true, false, not, ◌&&◌, ◌||◌}
use Prim.Native.Nat.{ℕ, suc, ◌*◌, ◌<◌, ◌≤◌, zero, ◌+◌}
use native.Mathlib.Omega.{arith}
use lib.ListN.{length, length-append, length-take, length-replicate, get_or, set, take, drop, length-set}
use lib.Seq.{take_at, drop_at}
use lib.Dec.{eqb, leb, T, T_not, eqb→eq, leb→le}
use Rattle.definition.specs.Basics.{when◌then◌else◌, concat_map, from}
use Rattle.definition.specs.Sheet.{Sheet, rows}
use Rattle.definition.specs.Outside.{Outside, core}
use Rattle.definition.specs.Names.{names_fit, name_count}
use Rattle.definition.specs.Format.{sheet_fits, depths_fit}
use Rattle.definition.specs.Scope.{Moment, history}
use Rattle.definition.specs.Slots.{final_globals}
use Rattle.definition.specs.Question.{Refusal, refusal}
use Rattle.definition.specs.Answer.{raised, eight, rows_of, answers, raised_function, raised_class, raised_row}
use Rattle.definition.specs.Outcome.{Outcome, refused, refused_at, rows_fit, answered, asked, outcome, rows_of_words}
use Rattle.definition.proofs.Lists.Tests.{and_left, and_right}

-- A sheet that no question refuses, with its names and a buffer.
pub record Accepted (s : Sheet) (ns : List ℕ) (lent : ℕ) : Type 0 where
  pub whole : T (rows_fit s)
  pub named : T (names_fit ns)
  pub fitting : T (sheet_fits (name_count ns) s)
  pub shallow : T (depths_fit s)
  pub agreed : (refusal core s (history core s)).number ≡ 0
  pub room : 8 * length (answers core s (history core s)) ≤ lent
  pub rows : (outcome s ns lent).rows ≡ answers core s (history core s)
  pub globals : (outcome s ns lent).globals ≡ final_globals s (history core s)

-- a choice that is no refusal is the other one
chosen : (t : Bool) (x y : Outcome) → (x.number ≡ 0 → ⊥) → (when t then x else y).number ≡ 0 → T (not t) × ((when t then x else y) ≡ y)
chosen true x y f e = absurd (f e)
chosen false x y f e = (tt, refl)

not_not : (t : Bool) → T (not (not t)) → T t
not_not true h = tt
not_not false h = h

never : (q : ℕ) → (refused (suc q)).number ≡ 0 → ⊥
never q e = omega arith

pub asked_accepted : (O : Outside) (lent : ℕ) (s : Sheet) → (asked O lent s).number ≡ 0
    → ((refusal O s (history O s)).number ≡ 0) × (8 * length (raised O.base (answers O s (history O s))) ≤ lent)
    × ((asked O lent s).rows ≡ raised O.base (answers O s (history O s))) × ((asked O lent s).globals ≡ final_globals s (history O s))
asked_accepted O lent s e = go (eqb (refusal O s (history O s)).number 0) refl e
  where
    x : Refusal
    x = refusal O s (history O s)

    out : List (List ℕ)
    out = raised O.base (answers O s (history O s))

    answer : Bool → Outcome
    answer u =
        when u then record { number = 0; file = 0; line = 0; column = 0; name = 0; rows = out; globals = final_globals s (history O s) }
        else refused 22

    fit : (u : Bool) → leb (8 * length out) lent ≡ u → (answer u).number ≡ 0
        → (8 * length out ≤ lent) × ((answer u).rows ≡ out) × ((answer u).globals ≡ final_globals s (history O s))
    fit true w e = (leb→le (8 * length out) lent (subst T (sym w) tt), refl, refl)
    fit false w e = absurd (never 21 e)

    go : (t : Bool) → eqb x.number 0 ≡ t
        → (when t then answered lent out (final_globals s (history O s)) else refused_at x.number s x.at x.name).number ≡ 0
        → (x.number ≡ 0) × (8 * length out ≤ lent)
        × ((when t then answered lent out (final_globals s (history O s)) else refused_at x.number s x.at x.name).rows ≡ out)
        × ((when t then answered lent out (final_globals s (history O s)) else refused_at x.number s x.at x.name).globals ≡ final_globals s (history O s))
    go true w e =
        let f = fit (leb (8 * length out) lent) refl e in
        (eqb→eq x.number 0 (subst T (sym w) tt), f.0, f.1, f.2)
    go false w e = absurd (T_not (eqb x.number 0) (subst (λ (t : Bool). T (not t)) (sym w) tt) (subst (λ (k : ℕ). T (eqb k 0)) (sym e) tt))

pub accepted : (s : Sheet) (ns : List ℕ) (lent : ℕ) → (outcome s ns lent).number ≡ 0 → Accepted s ns lent
accepted s ns lent e =
    let o4 : Outcome = when not (depths_fit s) then refused 4 else asked core lent s in
    let o3 : Outcome = when not (sheet_fits (name_count ns) s) then refused 3 else o4 in
    let o2 : Outcome = when not (names_fit ns) then refused 2 else o3 in
    let c1 = chosen (not (rows_fit s)) (refused 1) o2 (never 0) e in
    let c2 = chosen (not (names_fit ns)) (refused 2) o3 (never 1) (ap (λ (o : Outcome). o.number) (sym c1.1) ∙ e) in
    let c3 = chosen (not (sheet_fits (name_count ns) s)) (refused 3) o4 (never 2) (ap (λ (o : Outcome). o.number) (sym (c1.1 ∙ c2.1)) ∙ e) in
    let c4 = chosen (not (depths_fit s)) (refused 4) (asked core lent s) (never 3) (ap (λ (o : Outcome). o.number) (sym (c1.1 ∙ c2.1 ∙ c3.1)) ∙ e) in
    let same : outcome s ns lent ≡ asked core lent s = c1.1 ∙ c2.1 ∙ c3.1 ∙ c4.1 in
    let w = asked_accepted core lent s (ap (λ (o : Outcome). o.number) (sym same) ∙ e) in
    record {
      whole = not_not (rows_fit s) c1.0;
      named = not_not (names_fit ns) c2.0;
      fitting = not_not (sheet_fits (name_count ns) s) c3.0;
      shallow = not_not (depths_fit s) c4.0;
      agreed = w.0;
      room = w.1;
      rows = ap (λ (o : Outcome). o.rows) same ∙ w.2;
      globals = ap (λ (o : Outcome). o.globals) same ∙ w.3;
    }

-- it has a row
pub some_row : (s : Sheet) → T (rows_fit s) → 0 < rows s
some_row s h =
    leb→le 1 (rows s)
    (and_right (eqb (8 * rows s) (length s)) (leb 1 (rows s)) (and_left (eqb (8 * rows s) (length s) && leb 1 (rows s)) (leb (rows s) 2048) h))

-- Rows of eight numbers.
pub data Eights : List (List ℕ) → Type 0 where
  none : Eights []
  more : {r : List ℕ} {rs : List (List ℕ)} → length r ≡ 8 → Eights rs → Eights (r ∷ rs)

eight_length : (vs : List ℕ) → length (eight vs) ≡ 8
eight_length vs = simp (length-take, length-append, length-replicate) (omega arith)

eights_append : {xs ys : List (List ℕ)} → Eights xs → Eights ys → Eights (xs ++ ys)
eights_append none q = q
eights_append (more e p) q = more e (eights_append p q)

eights_map : (r : ℕ) (xs : List (List ℕ)) → Eights (map (λ vs. eight (r ∷ vs)) xs)
eights_map r [] = none
eights_map r (x ∷ xs) = more (eight_length (r ∷ x)) (eights_map r xs)

eights_rows : (O : Outside) (s : Sheet) (h : List Moment) (rs : List ℕ) → Eights (concat_map (λ r. map (λ vs. eight (r ∷ vs)) (rows_of O s h r)) rs)
eights_rows O s h [] = none
eights_rows O s h (r ∷ rs) = eights_append (eights_map r (rows_of O s h r)) (eights_rows O s h rs)

pub eights_answers : (O : Outside) (s : Sheet) (h : List Moment) → Eights (answers O s h)
eights_answers O s h = eights_rows O s h (from 0 (rows s))

raised_length : (n : ℕ) (x : List ℕ) → length (raised_row n x) ≡ length x
raised_length n x = go (eqb c 1) (eqb c 2 || eqb c 22) (eqb c 4 || eqb c 5) (eqb c 24) (raised_function n (get_or x 2 0))
    (raised_class n (get_or x 2 0)) (get_or x 3 0 + n) (raised_function n (get_or x 3 0))
  where
    c : ℕ
    c = get_or x 1 0

    go : (t u v w : Bool) (k l p q : ℕ) → length (when t then set x 2 k else when u then set x 2 l else when v then set x 3 p else when w then set x 3 q else x) ≡ length x
    go true u v w k l p q = length-set x 2 k
    go false true v w k l p q = length-set x 2 l
    go false false true w k l p q = length-set x 3 p
    go false false false true k l p q = length-set x 3 q
    go false false false false k l p q = refl

raised_eights : (n : ℕ) {rs : List (List ℕ)} → Eights rs → Eights (map (raised_row n) rs)
raised_eights n none = none
raised_eights n (more {r = r} e p) = more (raised_length n r ∙ e) (raised_eights n p)

eights_raised : (n : ℕ) {rs : List (List ℕ)} → Eights rs → Eights (raised n rs)
eights_raised zero p = p
eights_raised (suc n) p = raised_eights (suc n) p

-- their words are as many as eight to a row, and read back they are these rows
pub flat_length : {rs : List (List ℕ)} → Eights rs → length (concat_map (λ r. r) rs) ≡ 8 * length rs
flat_length none = refl
flat_length (more {r = r} {rs = rs} e p) = length-append r (concat_map (λ r. r) rs) ∙ omega (arith, e, flat_length p)

pub rows_back : (rs : List (List ℕ)) (w : List ℕ) → Eights rs → rows_of_words (length rs) (concat_map (λ r. r) rs ++ w) ≡ rs
unfolding rows_of_words
rows_back [] w e = refl
rows_back (r ∷ rs) w (more e p) =
    let u : List ℕ = concat_map (λ r. r) rs ++ w in
    ap (λ (l : List ℕ). take 8 l ∷ rows_of_words (length rs) (drop 8 l)) (append_assoc r (concat_map (λ r. r) rs) w)
    ∙ ap (λ (l : List ℕ). l ∷ rows_of_words (length rs) (drop 8 (r ++ u))) (take_at r u 8 e)
    ∙ ap (λ (l : List ℕ). r ∷ rows_of_words (length rs) l) (drop_at r u 8 e)
    ∙ ap (λ (l : List (List ℕ)). r ∷ l) (rows_back rs w p)

-- The rows of an outcome fit.
module _ (lent : ℕ) where
  abbrev Good : Outcome → Type 0
  Good o = Eights o.rows × (8 * length o.rows ≤ lent)

  good_refused : (q : ℕ) → Good (refused q)
  good_refused q = (none, omega arith)

  good_if : (t : Bool) (x y : Outcome) → Good x → Good y → Good (when t then x else y)
  good_if true x y p q = p
  good_if false x y p q = q

  good_answered : (out : List (List ℕ)) (g : ℕ) → Eights out → Good (answered lent out g)
  good_answered out g p = go (leb (8 * length out) lent) refl
    where
      go : (t : Bool) → leb (8 * length out) lent ≡ t
          → Good (when t then record { number = 0; file = 0; line = 0; column = 0; name = 0; rows = out; globals = g } else refused 22)
      go true e = (p, leb→le (8 * length out) lent (subst T (sym e) tt))
      go false e = good_refused 22

  pub good_asked : (O : Outside) (s : Sheet) → Good (asked O lent s)
  good_asked O s =
      good_if (eqb (refusal O s (history O s)).number 0) (answered lent (raised O.base (answers O s (history O s))) (final_globals s (history O s))) _
      (good_answered (raised O.base (answers O s (history O s))) (final_globals s (history O s)) (eights_raised O.base (eights_answers O s (history O s)))) (none, omega arith)

  pub good_outcome : (s : Sheet) (ns : List ℕ) → Good (outcome s ns lent)
  good_outcome s ns =
      good_if (not (rows_fit s)) (refused 1) _ (good_refused 1)
      (good_if (not (names_fit ns)) (refused 2) _ (good_refused 2)
      (good_if (not (sheet_fits (name_count ns) s)) (refused 3) _ (good_refused 3)
      (good_if (not (depths_fit s)) (refused 4) (asked core lent s) (good_refused 4) (good_asked core s))))
