-- Demand 3 of the definitions: what `Claims` states, of every sheet that fits and its answer rows.
use mathlib.Core.Path.{◌≡◌, refl, sym, ap, ◌∙◌, subst, fun_ext}
use mathlib.Core.Logic.{◌⊎◌, inl, inr}
use mathlib.Core.List.Memᴰ
use mathlib.Core.List.{List, [], ◌∷◌, ◌++◌, map, Memᴰ as Mem}
use mathlib.Core.Bool.{Bool, true, false, ◌&&◌}
use Prim.Native.Nat.{ℕ, suc, ◌<◌}
use native.Mathlib.Omega.{arith}
use lib.ListN.{length, get_or, take, drop, length-map}
use lib.Dec.{eqb, T, eqb→eq}
use Rattle.definition.specs.Basics.{when◌then◌else◌, filter, place, count, bit, largest, ◌∈?◌}
use Rattle.definition.specs.Sheet.{Sheet, a, child, rows, is, kids, holder, functions_of, function_of}
use Rattle.definition.specs.Outside.{Outside}
use Rattle.definition.specs.Meaning.{row_of, owner_of, is_variable}
use Rattle.definition.specs.Scope.{Moment, Stack, scope, looping, bound, find, lookup, around, history, declares, declarings, declaration, within, visited, visits}
use Rattle.definition.specs.Slots.{top_slot, is_local, open_locals, local_count, code}
use Rattle.definition.specs.Capture.{Use, use_at, uses, captures, escaping, is_outer, same, beyond}
use Rattle.definition.specs.Answer.{eight, answers}
use Rattle.definition.specs.Claims.{Row, rows_for, first_for, told, declared_as, open_rows, open_lets, slots_used, between, used_in, Follows, ends, steps, Followed, Captures, Demand3}
use Rattle.definition.proofs.Lists.Tests.{and_left, and_right, and_both, eqb_of}
use Rattle.definition.proofs.Lists.Members.{drop_mem, get_or_drop_is, mem_map, map_mem, mem_filter, filter_mem}
use Rattle.definition.proofs.Lists.Members.{mem_test, test_mem, nodup_apart, distinct_nodup, drop_some, drop_map}
use Rattle.definition.proofs.Lists.Members.{count_filter, take_front, map_same, map_map, place_order}
use Rattle.definition.proofs.Format.Links.{held}
use Rattle.definition.proofs.Walk.Fits.{Fits}
use Rattle.definition.proofs.Walk.Rows.{kind_not_zero}
use Rattle.definition.proofs.Walk.Whole.{statement_walked}
use Rattle.definition.proofs.Walk.Around.{Walks, around_walks, only_child}
use Rattle.definition.proofs.Walk.Once.{visits_of}
use Rattle.definition.proofs.Closure.Open.{OpenRow, open_row, row_open, count_open, same_open}
use Rattle.definition.proofs.Closure.SlotsApart.{apart}
use Rattle.definition.proofs.Closure.Declared.{slots_counted}
use Rattle.definition.proofs.Closure.Variables.{Variable, KindOf, parameter, local, open_variable, head_mem, Opened, find_open}
use Rattle.definition.proofs.Closure.Captured.{row_meant, captured_use, captures_ordered}
use Rattle.definition.proofs.Closure.OpenApart.{told_apart}
use Rattle.definition.proofs.Closure.Sources.{owner_function, identifiers, source, source_count, no_literal, captures_of, of_captures}
use Rattle.definition.proofs.Closure.Declarations.{relative, function_rows_lem, three, declared_once_lem, open_told, use_told, one_place, local_row}
use Rattle.definition.proofs.Closure.Following.{Tells, walks_range, walked_visited, after_identifier, Located, located, outer_around, around_outer}

-- the code tells whether following ends
pub follows_same : {s : Sheet} {out : List Row} {x y y' : Row} {n n' : ℕ} → Follows s out x n y → Follows s out x n' y' → (n ≡ n') × (y ≡ y')
follows_same (ends p) (ends q) = (refl, refl)
follows_same (ends (inl p)) (steps q i g) = absurd (omega arith)
follows_same (ends (inr p)) (steps q i g) = absurd (omega arith)
follows_same (steps p h f) (ends (inl q)) = absurd (omega arith)
follows_same (steps p h f) (ends (inr q)) = absurd (omega arith)
follows_same (steps p h f) (steps q i g) = let e = follows_same f g in (ap suc e.0, e.1)

-- the open locals are the open lets
lets_open : (s : Sheet) (st : Stack) → open_locals s st ≡ open_lets s st
lets_open s [] = refl
lets_open s (scope r ∷ st) = lets_open s st
lets_open s (looping ∷ st) = lets_open s st
lets_open s (bound n d ∷ st) = go (is_variable d) (is s 29 (row_of d)) refl (lets_open s st)
  where
    go : (t u : Bool) → is s 29 (row_of d) ≡ u → open_locals s st ≡ open_lets s st
        → (when t && u then suc (open_locals s st) else open_locals s st) ≡ count (is s 29) (when t then row_of d ∷ open_rows st else open_rows st)
    go true true h e = omega (arith, e, ap bit h)
    go true false h e = omega (arith, e, ap bit h)
    go false u h e = e

-- so a function's count is its largest slot plus 1
slots_used_lem : (s : Sheet) (h : List Moment) (f : ℕ) → local_count s h f ≡ slots_used s h f
slots_used_lem s h f =
    ap (λ (g : Moment → ℕ). largest (map g (filter (λ m. is_local s (declaration s m) && eqb (within s m) f) (declarings s h 29)))) (fun_ext (λ m. ap suc (lets_open s m.stack)))

module _ {O : Outside} {s : Sheet} (ok : Fits O s) where
  -- an identifier at its visit
  identifier_followed : (r : ℕ) (m : Moment) → Mem m (history O s) → visited m.event ≡ r → T (is s 50 r) → T (is_variable (lookup (a s r) m.stack))
      → Followed (relative O) s (answers O s (history O s)) m.stack r (row_of (lookup (a s r) m.stack))
  identifier_followed r m q e t v =
      record {
        row = f.0;
        only_row = f.1;
        end = f.3;
        own_around = f.2;
        follows = f.4;
        tells = ap told f.5 ∙ sym (use_told ok u is_use v);
        far = f.6;
        is_open = count_open m.stack d (one_place ok m q d) (row_open m.stack o.at (a s r) (lookup (a s r) m.stack) o.before o.is_open v);
        alone = alone;
      }
    where
      d : ℕ
      d = row_of (lookup (a s r) m.stack)

      o : Opened s (a s r) m.stack (find (a s r) m.stack)
      o = find_open s (a s r) m.stack v

      u : Use
      u = record { row = r; means = lookup (a s r) m.stack; slot = top_slot s (find (a s r) m.stack); funs = around s m.stack }

      use_is : use_at s m ≡ u
      use_is = ap (λ (x : ℕ). record { row = x; means = lookup (a s x) m.stack; slot = top_slot s (find (a s x) m.stack); funs = around s m.stack }) e

      is_use : Mem u (uses s (history O s))
      is_use =
          Memᴰ.cast (sym use_is) (mem_map (use_at s) m (visits s (history O s) 50) (mem_filter (λ k. is s 50 (visited k.event)) m (history O s) (subst (λ (x : ℕ). T (is s 50 x)) (sym e) t) q))

      f : (x : Row) × (rows_for (answers O s (history O s)) r ≡ x ∷ []) × Mem (function_of s d) (functions_of s r)
          × (y : Row) × Follows s (answers O s (history O s)) x (between s r d) y × Tells O s y u × (get_or x 5 0 ≡ between s r d)
      f = identifiers ok u is_use v

      mine : OpenRow m.stack d
      mine = record { at = o.at; name = a s r; means = lookup (a s r) m.stack; before = o.before; is_open = o.is_open; is_variable_lem = v; row_is_lem = refl }

      -- the first three values of an open declaration
      values : (k : ℕ) (x : OpenRow m.stack k) → take 3 (declared_as (relative O) s (answers O s (history O s)) k) ≡ take 3 (code s (history O s) x.means (open_locals s x.before))
      values k x = ap (take 3) (open_told ok m q k x) ∙ three O s x.means k (open_locals s x.before) x.is_variable_lem

      alone : (k : ℕ) → Mem k (open_rows m.stack) → take 3 (declared_as (relative O) s (answers O s (history O s)) k) ≡ take 3 (declared_as (relative O) s (answers O s (history O s)) d) → k ≡ d
      alone k i c =
          let x : OpenRow m.stack k = open_row m.stack k i in
          let p : o.at ≡ x.at =
          told_apart ok m q o.at x.at (a s r) x.name (lookup (a s r) m.stack) x.means o.before x.before o.is_open x.is_open v
          (sym (values d mine) ∙ sym c ∙ values k x) in
          sym x.row_is_lem ∙ ap row_of (sym (same_open m.stack o.at x.at (a s r) x.name (lookup (a s r) m.stack) x.means o.before x.before o.is_open x.is_open p))

  identifier_visited : (r : ℕ) → r < rows s → T (is s 50 r)
      → (m : Moment) × (filter (λ k. eqb (visited k.event) r) (history O s) ≡ m ∷ [])
      × (T (is_variable (lookup (a s r) m.stack)) → Followed (relative O) s (answers O s (history O s)) m.stack r (row_of (lookup (a s r) m.stack)))
  identifier_visited r h t =
      let v = walked_visited ok r (statement_walked ok 50 r h tt t) (after_identifier s r t) in
      let z : r ≡ 0 → ⊥ = kind_not_zero ok 50 r tt t in (
        v.0,
        subst (λ (x : ℕ). filter (λ k. eqb (visited k.event) x) (history O s) ≡ v.0 ∷ []) v.2 (visits_of ok v.0 v.1 (λ e. z (sym v.2 ∙ e))),
        identifier_followed r v.0 v.1 v.2 t,
      )

  -- what a function captures
  module _ (f : ℕ) (range : f < rows s) (kind : T (is s 6 f)) where
    abbrev caps : List Use
    caps = captures s (history O s) f

    abbrev captured : List ℕ
    captured = map row_meant caps

    use_of : (m : Moment) → Mem m (history O s) → T (is s 50 (visited m.event)) → Mem (use_at s m) (uses s (history O s))
    use_of m q t = mem_map (use_at s) m (visits s (history O s) 50) (mem_filter (λ k. is s 50 (visited k.event)) m (history O s) t q)

    -- the parts of the test `used_in`
    used : (d : ℕ) (m : Moment) → T (is s 50 (visited m.event)) → Mem f (functions_of s (visited m.event)) → T (is_variable (use_at s m).means) → row_of (use_at s m).means ≡ d
        → T (used_in s f d m)
    used d m t i v e =
        let r : ℕ = visited m.event in
        and_both (is s 50 r && f ∈? functions_of s r && is_variable (use_at s m).means) (eqb (row_of (use_at s m).means) d)
        (and_both (is s 50 r && f ∈? functions_of s r) (is_variable (use_at s m).means) (and_both (is s 50 r) (f ∈? functions_of s r) t (mem_test f (functions_of s r) i)) v)
        (eqb_of (row_of (use_at s m).means) d e)

    used_parts : (d : ℕ) (m : Moment) → T (used_in s f d m)
        → T (is s 50 (visited m.event)) × Mem f (functions_of s (visited m.event)) × T (is_variable (use_at s m).means) × (row_of (use_at s m).means ≡ d)
    used_parts d m h =
        let r : ℕ = visited m.event in
        let three_of : T (is s 50 r && f ∈? functions_of s r && is_variable (use_at s m).means) =
        and_left (is s 50 r && f ∈? functions_of s r && is_variable (use_at s m).means) (eqb (row_of (use_at s m).means) d) h in
        let two_of : T (is s 50 r && f ∈? functions_of s r) = and_left (is s 50 r && f ∈? functions_of s r) (is_variable (use_at s m).means) three_of in (
          and_left (is s 50 r) (f ∈? functions_of s r) two_of,
          test_mem f (functions_of s r) (and_right (is s 50 r) (f ∈? functions_of s r) two_of),
          and_right (is s 50 r && f ∈? functions_of s r) (is_variable (use_at s m).means) three_of,
          eqb→eq (row_of (use_at s m).means) d (and_right (is s 50 r && f ∈? functions_of s r && is_variable (use_at s m).means) (eqb (row_of (use_at s m).means) d) h),
        )

    given : (d : ℕ) → Mem d captured → ((m : Moment) × Mem m (history O s) × T (used_in s f d m)) × Mem (function_of s d) (functions_of s f)
    given d i =
        let k = map_mem row_meant d caps i in
        let c = captures_of ok f d (k.0, k.1, sym k.2) in
        let x = map_mem (use_at s) c.0 (visits s (history O s) 50) c.1 in
        let y = filter_mem (λ m. is s 50 (visited m.event)) x.0 (history O s) x.1 in (
          (
            x.0,
            y.0,
            used d x.0 y.1 (subst (λ (w : Use). Mem f (functions_of s w.row)) x.2 c.4) (subst (λ (w : Use). T (is_variable w.means)) x.2 c.2)
                (ap row_meant (sym x.2) ∙ c.3),
          ),
          c.5,
        )

    taken : (d : ℕ) → ((m : Moment) × Mem m (history O s) × T (used_in s f d m)) × Mem (function_of s d) (functions_of s f) → Mem d captured
    taken d x =
        let m : Moment = x.0.0 in
        let p = used_parts d m x.0.2 in
        let c = of_captures ok f d (use_at s m, use_of m x.0.1 p.0, p.2, p.3, p.1, x.1) in
        Memᴰ.cast (sym c.2) (mem_map row_meant c.0 caps c.1)

    -- an identifier in f that means what u means is one that f captures
    outer_of : (u : Use) → Mem u caps → (m : Moment) → Mem m (history O s) → T (used_in s f (row_meant u) m)
        → T (is s 50 (visited m.event) && is_outer f (use_at s m) && same u (use_at s m))
    outer_of u i m q t =
        let p = used_parts (row_meant u) m t in
        let x : Located O s (use_at s m) = located ok (use_at s m) (use_of m q p.0) p.2 in
        let o : Mem (function_of s (row_meant u)) (functions_of s f) = (captures_of ok f (row_meant u) (u, i, refl)).5 in
        let w : T (is_outer f (use_at s m)) =
        around_outer ok f (use_at s m) x p.2 (subst (λ (l : List ℕ). Mem f l) (sym x.funs_is) p.1)
        (Memᴰ.cast (owner_function ok (use_at s m) x ∙ ap (function_of s) p.3) o) in
        and_both (is s 50 (visited m.event) && is_outer f (use_at s m)) (same u (use_at s m)) (and_both (is s 50 (visited m.event)) (is_outer f (use_at s m)) p.0 w)
        (eqb_of (row_meant u) (row_meant (use_at s m)) (sym p.3))

    of_outer : (u : Use) (m : Moment) → Mem m (history O s) → T (is s 50 (visited m.event) && is_outer f (use_at s m) && same u (use_at s m)) → T (used_in s f (row_meant u) m)
    of_outer u m q h =
        let two_of : T (is s 50 (visited m.event) && is_outer f (use_at s m)) = and_left (is s 50 (visited m.event) && is_outer f (use_at s m)) (same u (use_at s m)) h in
        let t : T (is s 50 (visited m.event)) = and_left (is s 50 (visited m.event)) (is_outer f (use_at s m)) two_of in
        let o : T (is_outer f (use_at s m)) = and_right (is s 50 (visited m.event)) (is_outer f (use_at s m)) two_of in
        let v : T (is_variable (use_at s m).means) = and_left (is_variable (use_at s m).means) (owner_of (use_at s m).means ∈? beyond f (use_at s m).funs) o in
        let x : Located O s (use_at s m) = located ok (use_at s m) (use_of m q t) v in
        used (row_meant u) m t (subst (λ (l : List ℕ). Mem f l) x.funs_is (outer_around ok f (use_at s m) x o).0) v
        (sym (eqb→eq (row_meant u) (row_meant (use_at s m)) (and_right (is s 50 (visited m.event) && is_outer f (use_at s m)) (same u (use_at s m)) h)))

    -- the use that is captured as i
    captured_at : (i : ℕ) → i < length captured → (u : Use) × (us : List Use) × (drop i caps ≡ u ∷ us) × (get_or captured i 0 ≡ row_meant u) × Mem u caps
    captured_at i h =
        let x = drop_some i caps (omega (arith, length-map caps row_meant)) in
        (x.0, x.1, x.2, get_or_drop_is i captured (row_meant x.0) 0 (map row_meant x.1) (drop_map row_meant i caps x.0 x.1 x.2), drop_mem i caps x.0 x.1 x.2)

    ordered : (i j : ℕ) → i < j → j < length captured → place (used_in s f (get_or captured i 0)) (history O s) < place (used_in s f (get_or captured j 0)) (history O s)
    ordered i j l h =
        let x = captured_at i (omega arith) in
        let y = captured_at j h in
        subst (λ (d : ℕ). place (used_in s f d) (history O s) < place (used_in s f (get_or captured j 0)) (history O s)) (sym x.3)
        (subst (λ (d : ℕ). place (used_in s f (row_meant x.0)) (history O s) < place (used_in s f d) (history O s)) (sym y.3)
        (place_order (λ m. is s 50 (visited m.event)) (use_at s) (is_outer f) (same x.0) (same y.0) (used_in s f (row_meant x.0)) (used_in s f (row_meant y.0)) (history O s)
        (outer_of x.0 x.4) (outer_of y.0 y.4) (of_outer x.0) (captures_ordered O s f i j x.0 y.0 x.1 y.1 x.2 y.2 l)))

    told_as : (u : Use) → Mem u caps → declared_as (relative O) s (answers O s (history O s)) (row_meant u) ≡ told (eight (0 ∷ code s (history O s) u.means u.slot))
    told_as u i =
        let c = captured_use s (history O s) f u i in
        use_told ok u c.0 (and_left (is_variable u.means) (owner_of u.means ∈? beyond f u.funs) c.1)

    listed : take (length captured) (drop 1 (rows_for (answers O s (history O s)) f)) ≡ map (λ d. f ∷ declared_as (relative O) s (answers O s (history O s)) d) captured
    listed =
        let g : Use → Row = λ u. eight (f ∷ code s (history O s) u.means u.slot) in
        let rest : List Row = map (λ k. eight (f ∷ 5 ∷ k ∷ f ∷ 1 ∷ [])) (escaping s (history O s) f) in
        ap (λ (rs : List Row). take (length captured) (drop 1 rs)) (function_rows_lem O s (history O s) f range kind)
        ∙ ap (λ (n : ℕ). take n (map g caps ++ rest)) (length-map caps row_meant ∙ sym (length-map caps g))
        ∙ take_front (map g caps) rest
        ∙ map_same g (λ u. f ∷ declared_as (relative O) s (answers O s (history O s)) (row_meant u)) caps (λ u i. ap (λ (l : List ℕ). f ∷ l) (sym (told_as u i)))
        ∙ sym (map_map (λ d. f ∷ declared_as (relative O) s (answers O s (history O s)) d) row_meant caps)

    -- the literal of f
    literal_range : T (is s 52 (holder s f)) → holder s f < rows s
    literal_range t = let h = held s ok.links f (omega (arith, kind_not_zero ok 6 f tt kind)) range in omega (arith, h.1)

    literal_child : T (is s 52 (holder s f)) → f ≡ child s (holder s f)
    literal_child t =
        let h = held s ok.links f (omega (arith, kind_not_zero ok 6 f tt kind)) range in
        only_child ok (rows s) (child s (holder s f)) f (ok.one_function (holder s f) (literal_range t) t) (test_mem f (kids s (holder s f)) h.0)

    followed : T (is s 52 (holder s f)) → (i : ℕ) → i < length captured
        → (y : Row) × Follows s (answers O s (history O s)) (get_or (rows_for (answers O s (history O s)) (holder s f)) i []) (between s (holder s f) (get_or captured i 0)) y
        × (told y ≡ declared_as (relative O) s (answers O s (history O s)) (get_or captured i 0))
    followed t i h =
        let x = captured_at i h in
        let z = source ok (holder s f) (literal_range t) t i x.0 x.1 (subst (λ (g : ℕ). drop i (captures s (history O s) g) ≡ x.0 ∷ x.1) (literal_child t) x.2) in (
          z.0,
          subst (λ (d : ℕ). Follows s (answers O s (history O s)) (get_or (rows_for (answers O s (history O s)) (holder s f)) i []) (between s (holder s f) d) z.0) (sym x.3) z.1,
          ap told z.2 ∙ sym (told_as x.0 x.4) ∙ ap (declared_as (relative O) s (answers O s (history O s))) (sym x.3),
        )

    holds : Captures (relative O) s (answers O s (history O s)) f
    holds =
        record {
          captured = captured;
          given = λ d. (given d, taken d);
          once = nodup_apart (distinct_nodup row_meant (filter (is_outer f) (uses s (history O s))));
          ordered = ordered;
          counted = (
            local_count s (history O s) f,
            length (escaping s (history O s) f),
            ap (λ (rs : List Row). get_or rs 0 []) (function_rows_lem O s (history O s) f range kind)
                ∙ ap (λ (n : ℕ). eight (f ∷ 20 ∷ local_count s (history O s) f ∷ n ∷ length (escaping s (history O s) f) ∷ [])) (sym (length-map caps row_meant)),
          );
          listed = listed;
          sources = λ t. source_count ok (holder s f) (literal_range t) t ∙ ap (λ (g : ℕ). length (captures s (history O s) g)) (sym (literal_child t)) ∙ sym (length-map caps row_meant);
          followed = followed;
          no_literal = λ n. ap (map row_meant) (no_literal ok f n);
        }

  -- what is open at a moment
  module _ (m : Moment) (q : Mem m (history O s)) (d : ℕ) (i : Mem d (open_rows m.stack)) where
    abbrev o : OpenRow m.stack d
    o = open_row m.stack d i

    v : Variable O s o.means o.before
    v = open_variable ok m q o.at o.name o.means o.before o.is_open o.is_variable_lem

    opened : (T (is s 11 d) ⊎ T (is s 29 d)) × (count (λ k. eqb (declares k.event) d) (history O s) ≡ 1)
    opened = (
      subst (λ (r : ℕ). T (is s 11 r) ⊎ T (is s 29 r)) o.row_is_lem (go v.kind_of),
      subst (λ (r : ℕ). count (λ k. eqb (declares k.event) r) (history O s) ≡ 1) o.row_is_lem
          (count_filter (λ k. eqb (declares k.event) (row_of o.means)) (history O s)
          ∙ ap length (declared_once_lem ok m q o.at o.name o.means o.before o.is_open o.is_variable_lem).1),
    )
      where
        go : KindOf s (row_of o.means) (owner_of o.means) → T (is s 11 (row_of o.means)) ⊎ T (is s 29 (row_of o.means))
        go (parameter t k) = inl t
        go (local t) = inr t

    is_let : T (is s 29 d) → T (is_local s o.means)
    is_let t = and_both (is_variable o.means) (is s 29 (row_of o.means)) o.is_variable_lem (subst (λ (r : ℕ). T (is s 29 r)) (sym o.row_is_lem) t)

    slot_word : T (is s 29 d) → get_or (first_for (answers O s (history O s)) d) 2 0 ≡ open_locals s o.before
    slot_word t = ap (λ (rs : List Row). get_or (get_or rs 0 []) 2 0) (local_row ok m q d o t)

    -- its function has answer rows
    pub own_function : T (is s 29 d) → (function_of s d < rows s) × T (is s 6 (function_of s d))
    own_function t =
        let w : Walks s d = statement_walked ok 29 d (subst (λ (r : ℕ). r < rows s) o.row_is_lem v.in_range) tt t in
        let e : functions_of s d ≡ around s o.before = ap (functions_of s) (sym o.row_is_lem) ∙ v.around_is in
        let g = around_walks ok d (function_of s d) w (head_mem (functions_of s d) (λ z. v.some_around (sym e ∙ z))) in
        (walks_range ok (function_of s d) g.0, g.1)

    counted : (t : T (is s 29 d)) → open_locals s o.before < get_or (first_for (answers O s (history O s)) (function_of s d)) 2 0
    counted t =
        let g = own_function t in
        let e : get_or (first_for (answers O s (history O s)) (function_of s d)) 2 0 ≡ local_count s (history O s) (function_of s d) =
        ap (λ (rs : List Row). get_or (get_or rs 0 []) 2 0) (function_rows_lem O s (history O s) (function_of s d) g.0 g.1) in
        let c : owner_of o.means ≡ function_of s d =
        (declared_once_lem ok m q o.at o.name o.means o.before o.is_open o.is_variable_lem).4 ∙ ap (function_of s) o.row_is_lem in
        subst (λ (n : ℕ). open_locals s o.before < n) (sym e)
        (subst (λ (f : ℕ). open_locals s o.before < local_count s (history O s) f) c (slots_counted ok.outside s m q o.at o.name o.means o.before o.is_open (is_let t)))

  slots : (m : Moment) → Mem m (history O s) → (d e : ℕ) → Mem d (open_rows m.stack) → Mem e (open_rows m.stack) → T (is s 29 d) → T (is s 29 e)
      → get_or (first_for (answers O s (history O s)) d) 2 0 ≡ get_or (first_for (answers O s (history O s)) e) 2 0 → d ≡ e
  slots m q d e i j t u w =
      let x : OpenRow m.stack d = open_row m.stack d i in
      let y : OpenRow m.stack e = open_row m.stack e j in
      let p : x.at ≡ y.at =
      apart s m.stack x.at y.at x.name y.name x.means y.means x.before y.before x.is_open y.is_open (is_let m q d i t) (is_let m q e j u)
      (sym (slot_word m q d i t) ∙ w ∙ slot_word m q e j u) in
      sym x.row_is_lem ∙ ap row_of (same_open m.stack x.at y.at x.name y.name x.means y.means x.before y.before x.is_open y.is_open p) ∙ y.row_is_lem

  -- the slot of an open let is the next one where it was declared: as many as lets are open
  slot_there : (m : Moment) → Mem m (history O s) → (d : ℕ) → Mem d (open_rows m.stack) → T (is s 29 d)
      → (k : Moment) × (filter (λ y. eqb (declares y.event) d) (history O s) ≡ k ∷ []) × (get_or (first_for (answers O s (history O s)) d) 2 0 ≡ open_lets s k.stack)
  slot_there m q d i t =
      let o : OpenRow m.stack d = open_row m.stack d i in
      let c = declared_once_lem ok m q o.at o.name o.means o.before o.is_open o.is_variable_lem in (
        c.0,
        subst (λ (r : ℕ). filter (λ y. eqb (declares y.event) r) (history O s) ≡ c.0 ∷ []) o.row_is_lem c.1,
        slot_word m q d i t ∙ sym (ap (open_locals s) c.2) ∙ lets_open s c.0.stack,
      )

  -- the local count in a function's first row
  count_there : (f : ℕ) → f < rows s → T (is s 6 f) → get_or (first_for (answers O s (history O s)) f) 2 0 ≡ slots_used s (history O s) f
  count_there f l t = ap (λ (rs : List Row). get_or (get_or rs 0 []) 2 0) (function_rows_lem O s (history O s) f l t) ∙ slots_used_lem s (history O s) f

-- Demand 3 of every sheet that fits.
pub demand_3 : {O : Outside} {s : Sheet} → Fits O s → Demand3 (relative O) s (answers O s (history O s))
demand_3 {s = s} ok =
    record {
      identifiers = identifier_visited ok;
      one_end = λ x y z n k f g. follows_same f g;
      functions = λ f l t. holds ok f l t;
      opened = λ m q d i. opened ok m q d i;
      locals = λ m q d i t. (open_locals s (open_row m.stack d i).before, local_row ok m q d (open_row m.stack d i) t, counted ok m q d i t);
      slots_apart = slots ok;
      slots = slot_there ok;
      counts = count_there ok;
    }
