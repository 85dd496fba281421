-- The closure claim holds of answer rows whose functions and classes are raised by a base, if it holds of the rows of the walk.
use mathlib.Core.Path.{◌≡◌, refl, sym, ap, ◌∙◌, subst}
use mathlib.Core.Logic.{◌⊎◌, inl, inr}
use mathlib.Core.List.Memᴰ.{head as here}
use mathlib.Core.List.Memᴰ.{tail as there}
use mathlib.Core.List.{List, [], ◌∷◌, map, Memᴰ as Mem}
use mathlib.Core.Bool.{Bool, true, false, not, ◌||◌}
use Prim.Native.Nat.{ℕ, zero, suc, ◌+◌, ◌<◌}
use native.Mathlib.Omega.{arith}
use lib.ListN.{length, get_or, set, take, drop, length-map}
use lib.Seq.{get_or-set_other}
use lib.Dec.{eqb, T, eqb→eq}
use Rattle.definition.specs.Basics.{when◌then◌else◌, count, bit, place}
use Rattle.definition.specs.Sheet.{Sheet, b, rows, is, kids_of, holder, function_of}
use Rattle.definition.specs.Outside.{Outside, based}
use Rattle.definition.specs.Scope.{Moment, history, visited}
use Rattle.definition.specs.Answer.{eight, answers, raised_function, raised_class, raised_row, raised}
use Rattle.definition.specs.Claims.{Row, rows_for, first_for, told, declared_as, open_rows, between, Follows, ends, steps, Followed, Captures, Demand3}
use Rattle.definition.proofs.Lists.Tests.{decide, if_true, if_false}
use Rattle.definition.proofs.Lists.Members.{filter_mem, map_map}
use Rattle.definition.proofs.Walk.Fits.{Fits}
use Rattle.definition.proofs.Closure.Following.{not_kind}
use Rattle.definition.proofs.Closure.Demand.{demand_3, follows_same, own_function}

-- words other than 2 and 3 are kept
kept_word : (n : ℕ) (x : Row) (j : ℕ) → (j ≡ 2 → ⊥) → (j ≡ 3 → ⊥) → get_or (raised_row n x) j 0 ≡ get_or x j 0
kept_word n x j f g = go (eqb c 1) (eqb c 2 || eqb c 22) (eqb c 4 || eqb c 5) (eqb c 24) (raised_function n (get_or x 2 0))
    (raised_class n (get_or x 2 0)) (get_or x 3 0 + n) (raised_function n (get_or x 3 0))
  where
    c : ℕ
    c = get_or x 1 0

    go : (t u v w : Bool) (k l p q : ℕ) → get_or (when t then set x 2 k else when u then set x 2 l else when v then set x 3 p else when w then set x 3 q else x) j 0 ≡ get_or x j 0
    go true u v w k l p q = get_or-set_other x 2 j k 0 f
    go false true v w k l p q = get_or-set_other x 2 j l 0 f
    go false false true w k l p q = get_or-set_other x 3 j p 0 g
    go false false false true k l p q = get_or-set_other x 3 j q 0 g
    go false false false false k l p q = refl

-- a captured row is kept
kept_row : (n : ℕ) (x : Row) → get_or x 1 0 ≡ 6 → raised_row n x ≡ x
kept_row n x e = rw e

-- code and values of a raised row
abbrev raised_values : ℕ → List ℕ → List ℕ
raised_values n c = drop 1 (raised_row n (0 ∷ c))

raised_cons : (n a : ℕ) (c : List ℕ) → raised_row n (a ∷ c) ≡ a ∷ raised_values n c
raised_cons n a c = go (eqb k 1) (eqb k 2 || eqb k 22) (eqb k 4 || eqb k 5) (eqb k 24) (raised_function n (get_or c 1 0))
    (raised_class n (get_or c 1 0)) (get_or c 2 0 + n) (raised_function n (get_or c 2 0))
  where
    k : ℕ
    k = get_or c 0 0

    go : (t u v w : Bool) (i l p q : ℕ)
        → (when t then set (a ∷ c) 2 i else when u then set (a ∷ c) 2 l else when v then set (a ∷ c) 3 p else when w then set (a ∷ c) 3 q else a ∷ c)
        ≡ a ∷ drop 1 (when t then set (0 ∷ c) 2 i else when u then set (0 ∷ c) 2 l else when v then set (0 ∷ c) 3 p else when w then set (0 ∷ c) 3 q else 0 ∷ c)
    go true u v w i l p q = refl
    go false true v w i l p q = refl
    go false false true w i l p q = refl
    go false false false true i l p q = refl
    go false false false false i l p q = refl

told_raised : (n : ℕ) (x : Row) → told (raised_row n x) ≡ raised_values n (told x)
told_raised n [] = refl
told_raised n (a ∷ c) = ap (drop 1) (raised_cons n a c)

get_or_map : (f : Row → Row) (d : Row) (xs : List Row) (i : ℕ) → get_or (map f xs) i (f d) ≡ f (get_or xs i d)
get_or_map f d [] i = refl
get_or_map f d (x ∷ xs) zero = refl
get_or_map f d (x ∷ xs) (suc i) = get_or_map f d xs i

take_map : (f : Row → Row) (k : ℕ) (xs : List Row) → take k (map f xs) ≡ map f (take k xs)
take_map f zero xs = refl
take_map f (suc k) [] = refl
take_map f (suc k) (x ∷ xs) = ap (λ (l : List Row). f x ∷ l) (take_map f k xs)

rest_map : (f : Row → Row) (xs : List Row) → drop 1 (map f xs) ≡ map f (drop 1 xs)
rest_map f [] = refl
rest_map f (x ∷ xs) = refl

map_by : (f g : ℕ → Row) (xs : List ℕ) → ((x : ℕ) → f x ≡ g x) → map f xs ≡ map g xs
map_by f g [] h = refl
map_by f g (x ∷ xs) h = ap (λ (r : Row). r ∷ map f xs) (h x) ∙ ap (λ (l : List Row). g x ∷ l) (map_by f g xs h)

rows_raised : (n : ℕ) (out : List Row) (r : ℕ) → rows_for (map (raised_row n) out) r ≡ map (raised_row n) (rows_for out r)
rows_raised n [] r = refl
rows_raised n (x ∷ xs) r =
    ap (λ (w : ℕ). when eqb w r then raised_row n x ∷ rows_for (map (raised_row n) xs) r else rows_for (map (raised_row n) xs) r) (kept_word n x 0 (λ e. omega arith) (λ e. omega arith))
    ∙ go (eqb (get_or x 0 0) r) (rows_raised n xs r)
  where
    go : (t : Bool) → rows_for (map (raised_row n) xs) r ≡ map (raised_row n) (rows_for xs r)
        → (when t then raised_row n x ∷ rows_for (map (raised_row n) xs) r else rows_for (map (raised_row n) xs) r) ≡ map (raised_row n) (when t then x ∷ rows_for xs r else rows_for xs r)
    go true e = ap (λ (l : List Row). raised_row n x ∷ l) e
    go false e = e

first_raised : (n : ℕ) (out : List Row) (r : ℕ) → first_for (map (raised_row n) out) r ≡ raised_row n (first_for out r)
first_raised n out r = ap (λ (rs : List Row). get_or rs 0 []) (rows_raised n out r) ∙ get_or_map (raised_row n) [] (rows_for out r) 0

-- Code and values of a local or argument.
record Shape (c : List ℕ) : Type 0 where
  code : ℕ
  at : ℕ
  fun : ℕ
  rest : List ℕ
  is_shape : c ≡ code ∷ at ∷ fun ∷ rest
  is_code : (code ≡ 4) ⊎ (code ≡ 5)

raised_shape : (n : ℕ) {c : List ℕ} (h : Shape c) → raised_values n c ≡ h.code ∷ h.at ∷ (h.fun + n) ∷ h.rest
raised_shape n h = ap (raised_values n) h.is_shape ∙ go h.is_code
  where
    go : (h.code ≡ 4) ⊎ (h.code ≡ 5) → raised_values n (h.code ∷ h.at ∷ h.fun ∷ h.rest) ≡ h.code ∷ h.at ∷ (h.fun + n) ∷ h.rest
    go (inl e) = ap (λ (k : ℕ). raised_values n (k ∷ h.at ∷ h.fun ∷ h.rest)) e ∙ sym (ap (λ (k : ℕ). k ∷ h.at ∷ (h.fun + n) ∷ h.rest) e)
    go (inr e) = ap (λ (k : ℕ). raised_values n (k ∷ h.at ∷ h.fun ∷ h.rest)) e ∙ sym (ap (λ (k : ℕ). k ∷ h.at ∷ (h.fun + n) ∷ h.rest) e)

three_same : (n : ℕ) {c d : List ℕ} → Shape c → Shape d → take 3 (raised_values n c) ≡ take 3 (raised_values n d) → take 3 c ≡ take 3 d
three_same n h i e =
    let w : h.code ∷ h.at ∷ (h.fun + n) ∷ [] ≡ i.code ∷ i.at ∷ (i.fun + n) ∷ [] = ap (take 3) (sym (raised_shape n h)) ∙ e ∙ ap (take 3) (raised_shape n i) in
    let f : h.fun ≡ i.fun = omega (arith, ap (λ (l : List ℕ). get_or l 2 0) w) in
    ap (take 3) h.is_shape
    ∙ ap (λ (k : ℕ). k ∷ h.at ∷ h.fun ∷ []) (ap (λ (l : List ℕ). get_or l 0 0) w)
    ∙ ap (λ (k : ℕ). i.code ∷ k ∷ h.fun ∷ []) (ap (λ (l : List ℕ). get_or l 1 0) w)
    ∙ ap (λ (k : ℕ). i.code ∷ i.at ∷ k ∷ []) f
    ∙ sym (ap (take 3) i.is_shape)

-- what is counted is there
count_mem : (d : ℕ) (xs : List ℕ) → (count (eqb d) xs ≡ 0 → ⊥) → Mem d xs
count_mem d [] f = absurd (f refl)
count_mem d (x ∷ xs) f = go (eqb d x) refl f (count_mem d xs)
  where
    go : (t : Bool) → eqb d x ≡ t → (bit t + count (eqb d) xs ≡ 0 → ⊥) → ((count (eqb d) xs ≡ 0 → ⊥) → Mem d xs) → Mem d (x ∷ xs)
    go true e g i = here (eqb→eq d x (subst T (sym e) tt))
    go false e g i = there (i (λ z. g (omega arith)))

module _ (s : Sheet) (out : List Row) (n : ℕ) where
  abbrev up : List Row
  up = map (raised_row n) out

  next_raised : (x : Row) → get_or x 1 0 ≡ 6
      → get_or (rows_for up (holder s (function_of s (get_or (raised_row n x) 0 0)))) (get_or (raised_row n x) 2 0) []
      ≡ raised_row n (get_or (rows_for out (holder s (function_of s (get_or x 0 0)))) (get_or x 2 0) [])
  next_raised x e =
      ap (λ (z : Row). get_or (rows_for up (holder s (function_of s (get_or z 0 0)))) (get_or z 2 0) []) (kept_row n x e)
      ∙ ap (λ (rs : List Row). get_or rs (get_or x 2 0) []) (rows_raised n out (holder s (function_of s (get_or x 0 0))))
      ∙ get_or_map (raised_row n) [] (rows_for out (holder s (function_of s (get_or x 0 0)))) (get_or x 2 0)

  code_kept : (x : Row) → get_or (raised_row n x) 1 0 ≡ get_or x 1 0
  code_kept x = kept_word n x 1 (λ e. omega arith) (λ e. omega arith)

  follows_raised : {x y : Row} {k : ℕ} → Follows s out x k y → Follows s up (raised_row n x) k (raised_row n y)
  follows_raised (ends {x} (inl e)) = ends (inl (code_kept x ∙ e))
  follows_raised (ends {x} (inr e)) = ends (inr (code_kept x ∙ e))
  follows_raised (steps {x} {y} {n = k} e t f) =
      steps (code_kept x ∙ e)
      (subst (λ (j : ℕ). T (is s 52 (holder s (function_of s j)))) (sym (kept_word n x 0 (λ z. omega arith) (λ z. omega arith))) t)
      (subst (λ (z : Row). Follows s up z k (raised_row n y)) (sym (next_raised x e)) (follows_raised f))

  declared_raised : (O : Outside) (d : ℕ) → declared_as (based O n) s up d ≡ raised_values n (declared_as (based O 0) s out d)
  declared_raised O d = go (decide (is s 11 d))
    where
      p : ℕ
      p = place (eqb d) (kids_of s 11 (function_of s d))

      argument : told (eight (d ∷ 4 ∷ p ∷ (function_of s d + n) ∷ [])) ≡ raised_values n (told (eight (d ∷ 4 ∷ p ∷ (function_of s d + 0) ∷ [])))
      argument = ap (λ (g : ℕ). 4 ∷ p ∷ g ∷ 0 ∷ 0 ∷ 0 ∷ 0 ∷ []) (omega arith)

      go : T (is s 11 d) ⊎ T (not (is s 11 d)) → declared_as (based O n) s up d ≡ raised_values n (declared_as (based O 0) s out d)
      go (inl t) = if_true (is s 11 d) _ (told (first_for up d)) t ∙ argument ∙ sym (ap (raised_values n) (if_true (is s 11 d) _ (told (first_for out d)) t))
      go (inr t) =
          if_false (is s 11 d) _ (told (first_for up d)) t ∙ ap told (first_raised n out d) ∙ told_raised n (first_for out d)
          ∙ sym (ap (raised_values n) (if_false (is s 11 d) _ (told (first_for out d)) t))

module _ {O : Outside} {s : Sheet} (ok : Fits O s) {out : List Row} (claim : Demand3 (based O 0) s out) (n : ℕ) where
  abbrev higher : List Row
  higher = map (raised_row n) out

  -- the local count in a function's first row
  function_kept : (f : ℕ) → f < rows s → T (is s 6 f) → get_or (first_for higher f) 2 0 ≡ get_or (first_for out f) 2 0
  function_kept f l t =
      let c = (claim.functions f l t).counted in
      ap (λ (x : Row). get_or x 2 0) (first_raised n out f) ∙ ap (λ (x : Row). get_or (raised_row n x) 2 0) c.2 ∙ sym (ap (λ (x : Row). get_or x 2 0) c.2)

  -- what is open at a moment
  module _ (m : Moment) (q : Mem m (history O s)) (d : ℕ) (i : Mem d (open_rows m.stack)) where
    shape : Shape (declared_as (based O 0) s out d)
    shape = go (claim.opened m q d i).0
      where
        go : T (is s 11 d) ⊎ T (is s 29 d) → Shape (declared_as (based O 0) s out d)
        go (inl t) =
            record {
              code = 4;
              at = place (eqb d) (kids_of s 11 (function_of s d));
              fun = function_of s d + 0;
              rest = 0 ∷ 0 ∷ 0 ∷ 0 ∷ [];
              is_shape = if_true (is s 11 d) _ _ t;
              is_code = inl refl;
            }
        go (inr t) =
            let l = claim.locals m q d i t in
            record {
              code = 5;
              at = l.0;
              fun = function_of s d + 0;
              rest = b s d ∷ 0 ∷ 0 ∷ 0 ∷ [];
              is_shape = if_false (is s 11 d) _ _ (not_kind s 29 11 d tt t) ∙ ap (λ (rs : List Row). told (get_or rs 0 [])) l.1;
              is_code = inr refl;
            }

    slot_kept : T (is s 29 d) → get_or (first_for higher d) 2 0 ≡ get_or (first_for out d) 2 0
    slot_kept t =
        let l = claim.locals m q d i t in
        ap (λ (x : Row). get_or x 2 0) (first_raised n out d) ∙ ap (λ (rs : List Row). get_or (raised_row n (get_or rs 0 [])) 2 0) l.1 ∙ sym (ap (λ (rs : List Row). get_or (get_or rs 0 []) 2 0) l.1)

    count_kept : T (is s 29 d) → get_or (first_for higher (function_of s d)) 2 0 ≡ get_or (first_for out (function_of s d)) 2 0
    count_kept t = let g = own_function ok m q d i t in function_kept (function_of s d) g.0 g.1

    local_raised : T (is s 29 d)
        → (k : ℕ) × (rows_for higher d ≡ eight (d ∷ 5 ∷ k ∷ (function_of s d + n) ∷ b s d ∷ []) ∷ []) × (k < get_or (first_for higher (function_of s d)) 2 0)
    local_raised t =
        let l = claim.locals m q d i t in (
          l.0,
          rows_raised n out d ∙ ap (map (raised_row n)) l.1 ∙ ap (λ (g : ℕ). eight (d ∷ 5 ∷ l.0 ∷ g ∷ b s d ∷ []) ∷ []) (omega arith),
          subst (λ (k : ℕ). l.0 < k) (sym (count_kept t)) l.2,
        )

  followed_raised : (m : Moment) → Mem m (history O s) → (r d : ℕ) → Followed (based O 0) s out m.stack r d → Followed (based O n) s higher m.stack r d
  followed_raised m q r d f =
      record {
        row = raised_row n f.row;
        only_row = rows_raised n out r ∙ ap (map (raised_row n)) f.only_row;
        end = raised_row n f.end;
        own_around = f.own_around;
        follows = follows_raised s out n f.follows;
        tells = told_raised n f.end ∙ ap (raised_values n) f.tells ∙ sym (declared_raised s out n O d);
        far = kept_word n f.row 5 (λ e. omega arith) (λ e. omega arith) ∙ f.far;
        is_open = f.is_open;
        alone = λ e i c. f.alone e i (three_same n (shape m q e i) (shape m q d mine) (ap (take 3) (sym (declared_raised s out n O e)) ∙ c ∙ ap (take 3) (declared_raised s out n O d)));
      }
    where
      mine : Mem d (open_rows m.stack)
      mine = count_mem d (open_rows m.stack) (λ z. omega (arith, f.is_open))

  captures_raised : (f : ℕ) → Captures (based O 0) s out f → Captures (based O n) s higher f
  captures_raised f c =
      record {
        captured = c.captured;
        given = c.given;
        once = c.once;
        ordered = c.ordered;
        counted = (c.counted.0, c.counted.1, first_raised n out f ∙ ap (raised_row n) c.counted.2);
        listed =
            ap (λ (rs : List Row). take (length c.captured) (drop 1 rs)) (rows_raised n out f)
            ∙ ap (take (length c.captured)) (rest_map (raised_row n) (rows_for out f))
            ∙ take_map (raised_row n) (length c.captured) (drop 1 (rows_for out f))
            ∙ ap (map (raised_row n)) c.listed
            ∙ map_map (raised_row n) (λ d. f ∷ declared_as (based O 0) s out d) c.captured
            ∙ map_by (λ d. raised_row n (f ∷ declared_as (based O 0) s out d)) (λ d. f ∷ declared_as (based O n) s higher d) c.captured
            (λ d. raised_cons n f (declared_as (based O 0) s out d) ∙ ap (λ (l : List ℕ). f ∷ l) (sym (declared_raised s out n O d)));
        sources = λ t. ap length (rows_raised n out (holder s f)) ∙ length-map (rows_for out (holder s f)) (raised_row n) ∙ c.sources t;
        followed = λ t i l. let y = c.followed t i l in (
          raised_row n y.0,
          subst (λ (x : Row). Follows s higher x (between s (holder s f) (get_or c.captured i 0)) (raised_row n y.0))
              (sym (ap (λ (rs : List Row). get_or rs i []) (rows_raised n out (holder s f)) ∙ get_or_map (raised_row n) [] (rows_for out (holder s f)) i)) (follows_raised s out n y.1),
          told_raised n y.0 ∙ ap (raised_values n) y.2 ∙ sym (declared_raised s out n O (get_or c.captured i 0)),
        );
        no_literal = c.no_literal;
      }

  pub raised_demand : Demand3 (based O n) s higher
  raised_demand =
      record {
        identifiers = λ r l t. let x = claim.identifiers r l t in (
          x.0,
          x.1,
          λ v. followed_raised x.0 (filter_mem (λ k. eqb (visited k.event) r) x.0 (history O s) (subst (λ (ms : List Moment). Mem x.0 ms) (sym x.1) (here refl))).0 r _ (x.2 v),
        );
        one_end = λ x y z k l f g. follows_same f g;
        functions = λ f l t. captures_raised f (claim.functions f l t);
        opened = claim.opened;
        locals = λ m q d i t. local_raised m q d i t;
        slots_apart = λ m q d e i j t u w. claim.slots_apart m q d e i j t u (sym (slot_kept m q d i t) ∙ w ∙ slot_kept m q e j u);
        slots = λ m q d i t. let x = claim.slots m q d i t in (x.0, x.1, slot_kept m q d i t ∙ x.2);
        counts = λ f l t. function_kept f l t ∙ claim.counts f l t;
      }

-- Demand 3 of every sheet that fits, over what stands outside, with its functions and classes raised by the base.
pub demand_3_raised : {O : Outside} {s : Sheet} → Fits O s → Demand3 O s (raised O.base (answers O s (history O s)))
demand_3_raised {O} {s} ok = go O.base
  where
    go : (n : ℕ) → Demand3 (based O n) s (raised n (answers O s (history O s)))
    go zero = demand_3 ok
    go (suc n) = raised_demand ok (demand_3 ok) (suc n)
