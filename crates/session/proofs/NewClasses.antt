-- The classes of an accepted entry are good: their numbers rise, and their parents are known and others than themselves.
use mathlib.Core.Path.{◌≡◌, refl, sym, ap, ◌∙◌, subst}
use mathlib.Core.Logic.{◌⊎◌, inl, inr}
use mathlib.Core.Bool.{Bool, true, false, not, ◌&&◌, ◌||◌}
use mathlib.Core.List.Memᴰ
use mathlib.Core.List.Memᴰ.{head as here}
use mathlib.Core.List.Memᴰ.{tail as there}
use mathlib.Core.List.{List, [], ◌∷◌, ◌++◌, map, Memᴰ as Mem}
use Prim.Native.Nat.{ℕ, zero, suc, ◌+◌, ◌-◌, ◌*◌, ◌/◌, ◌<◌, ◌≤◌}
use native.Mathlib.Omega.{arith}
use lib.ListN.{length, get_or, length-map}
use lib.Dec.{eqb, leb, ltb, T, eqb→eq, leb→le, ltb→lt}
use borrow.Author.Tests.{eq-eqb, ne_eqb, lt-ltb, le-ltb, eqb-true, eqb-false}
use Rattle.definition.specs.Basics.{when◌then◌else◌, all, any, unlike, filter, from}
use Rattle.definition.specs.Kind.{CALL}
use Rattle.definition.specs.Sheet.{Sheet, a, rows, is}
use Rattle.definition.specs.Outside.{Outside, Method, ClassRecord, is_recorded, core}
use Rattle.definition.specs.Scope.{Moment, history, visits}
use Rattle.definition.specs.Classes.{of_sheet, has_record, lacks_record, parent_of, methods}
use Rattle.definition.specs.Question.{Refusal, none, ask, first_no, ask_climb, first_of_classes, ask_constructor, ask_event, open_on, refusal}
use Rattle.definition.specs.Answer.{raised_function, raised_class}
use Rattle.definition.proofs.Lists.Tests.{and_both, and_left, and_right, or_cases, or_left, or_right, T_true, true_of, eqb_of}
use Rattle.definition.proofs.Lists.Members.{filter_mem, mem_filter, map_mem, mem_map, mem_any, any_mem, mem_from}
use Rattle.definition.proofs.Classes.{of_sheet_lem}
use Rattle.definition.proofs.Format.Facts.{SheetFacts}
use Rattle.definition.proofs.Format.Tree.{not_header}
use Rattle.session.specs.Session.{Class, Session, all_classes, earlier_record, base_of, outside_of}
use Rattle.session.specs.Enter.{class_by, classes_by}
use Rattle.session.proofs.OutsideLaws.{all_map}
use Rattle.session.proofs.SessionLaws.{all_mem}
use Rattle.session.proofs.Renaming.{AllPass, all_none, all_some, every_passes}
use Rattle.session.proofs.Extended.{class_list}
use Rattle.session.proofs.NewWords.{no_class}
use Rattle.session.proofs.Follows.{is_name, is_function, class_good, known_in, any_append}
use Rattle.session.proofs.NewMembers.{good_method, good_record, names_of, in_range, raised_row_lem, own_function, class_name_lem, fields_good, methods_good, all_by}

-- no question of a list got a no, so none of its members did
no_no : (rs : List Refusal) → (first_no rs).number ≡ 0 → (x : Refusal) → Mem x rs → x.number ≡ 0
no_no [] e x m = absurd (Memᴰ.not-nil m)
no_no (r ∷ rs) e x m = go (eqb r.number 0) refl e m (no_no rs)
  where
    go : (t : Bool) → eqb r.number 0 ≡ t → (when not t then r else first_no rs).number ≡ 0 → Mem x (r ∷ rs)
        → ((first_no rs).number ≡ 0 → (x : Refusal) → Mem x rs → x.number ≡ 0) → x.number ≡ 0
    go false q e m f = absurd (eqb-false r.number 0 q e)
    go true q e (here p) f = ap (λ (y : Refusal). y.number) p ∙ eqb-true r.number 0 q
    go true q e (there m) f = f e x m

-- rows picked in order rise
module _ (p : ℕ → Bool) where
  above : (i k j : ℕ) → j < length (filter p (from i k)) → i ≤ get_or (filter p (from i k)) j 0
  above i zero j l = absurd (omega arith)
  above i (suc k) j l = go (p i) j l (above (suc i) k)
    where
      go : (t : Bool) (j : ℕ) → j < length (when t then i ∷ filter p (from (suc i) k) else filter p (from (suc i) k))
          → ((j : ℕ) → j < length (filter p (from (suc i) k)) → suc i ≤ get_or (filter p (from (suc i) k)) j 0)
          → i ≤ get_or (when t then i ∷ filter p (from (suc i) k) else filter p (from (suc i) k)) j 0
      go true zero l f = omega arith
      go true (suc j) l f = omega (arith, f j (omega arith))
      go false j l f = omega (arith, f j l)

  picked_rise : (i k j : ℕ) → suc j < length (filter p (from i k)) → get_or (filter p (from i k)) j 0 < get_or (filter p (from i k)) (suc j) 0
  picked_rise i zero j l = absurd (omega arith)
  picked_rise i (suc k) j l = go (p i) j l (picked_rise (suc i) k)
    where
      go : (t : Bool) (j : ℕ) → suc j < length (when t then i ∷ filter p (from (suc i) k) else filter p (from (suc i) k))
          → ((j : ℕ) → suc j < length (filter p (from (suc i) k)) → get_or (filter p (from (suc i) k)) j 0 < get_or (filter p (from (suc i) k)) (suc j) 0)
          → get_or (when t then i ∷ filter p (from (suc i) k) else filter p (from (suc i) k)) j 0
          < get_or (when t then i ∷ filter p (from (suc i) k) else filter p (from (suc i) k)) (suc j) 0
      go true zero l f = above (suc i) k 0 (omega arith)
      go true (suc j) l f = f j (omega arith)
      go false j l f = f j l

-- a place of a mapped list, and a member at a place
map_at : {A B : Type 0} (f : A → B) (d : A) (c : B) (xs : List A) (j : ℕ) → j < length xs → get_or (map f xs) j c ≡ f (get_or xs j d)
map_at f d c [] j l = absurd (omega arith)
map_at f d c (x ∷ xs) zero l = refl
map_at f d c (x ∷ xs) (suc j) l = map_at f d c xs j (omega arith)

mem_at : {A : Type 0} (d : A) (xs : List A) (j : ℕ) → j < length xs → Mem (get_or xs j d) xs
mem_at d [] j l = absurd (omega arith)
mem_at d (x ∷ xs) zero l = here refl
mem_at d (x ∷ xs) (suc j) l = there (mem_at d xs j (omega arith))

-- the climb from a class of the sheet: its parent has a record, and is not itself
climbed : (O : Outside) (s : Sheet) (parent : ℕ → ℕ) (n c : ℕ) → of_sheet s c ≡ true → (ask_climb O s parent (suc (suc n)) [] c).number ≡ 0
    → T (not (lacks_record O s (parent c))) × (parent c ≡ c → ⊥)
climbed O s parent n c q e =
    let r = asked (of_sheet s c) (lacks_record O s (parent c)) (ask_climb O s parent (suc n) (c ∷ []) (parent c)) (c - 256) (a s (c - 256)) q e in (
      r.0,
      λ same.
          met (of_sheet s c) (eqb c c || false) (when lacks_record O s (parent c) then ask 19 (c - 256) (a s (c - 256)) false else ask_climb O s parent n
          (c ∷ c ∷ []) (parent c)) (c - 256) (a s (c - 256))
          q (ap (λ (t : Bool). t || false) (eq-eqb c c refl)) (ap (λ (k : ℕ). (ask_climb O s parent (suc n) (c ∷ []) k).number) (sym same) ∙ r.1),
    )
  where
    asked : (t l : Bool) (up : Refusal) (r m : ℕ) → t ≡ true → (when not t then none else when l then ask 19 r m false else up).number ≡ 0 → T (not l) × (up.number ≡ 0)
    asked true true up r m p e = absurd (omega arith)
    asked true false up r m p e = (tt, e)
    asked false l up r m p e = absurd (subst T (sym p) tt)

    met : (t u : Bool) (x : Refusal) (r m : ℕ) → t ≡ true → u ≡ true → (when not t then none else when u then ask 18 r m false else x).number ≡ 0 → ⊥
    met true true x r m p v e = omega arith
    met true false x r m p v e = subst T (sym v) tt
    met false u x r m p v e = subst T (sym p) tt

-- An accepted entry of N names into session S as entry E.
module _ (E N : ℕ) (S : Session) (s : Sheet) (facts : SheetFacts (24 + N) s) (whole : length s ≡ 8 * rows s) (some : 0 < rows s) (few : rows s ≤ 2048) (base : base_of S ≡ 2048 * E)
    (agreed : (refusal (outside_of S) s (history (outside_of S) s)).number ≡ 0)
    (records : T (all (good_record E N (base_of S)) (outside_of S).records))
    (below : T (all (λ c. ltb 256 c.number && ltb ((c.number - 256) / 2048) E) (all_classes S))) where
  abbrev O : Outside
  O = outside_of S

  abbrev h : List Moment
  h = history O s

  abbrev parent : ℕ → ℕ
  parent = parent_of s h

  row_above : (r : ℕ) → T (is s 4 r) → (0 < r) × (r < rows s)
  row_above r t = (not_header (24 + N) s facts 3 r t, in_range E N O s facts whole few base 3 r t)

  -- the number of a class
  pub number_is : (r : ℕ) → T (is s 4 r) → raised_class (base_of S) (256 + r) ≡ 256 + (r + 2048 * E)
  number_is r t =
      let b = row_above r t in
      let q : 256 + r - 256 ≡ r = omega arith in
      ap (λ (u : Bool). when u then 256 + r else 256 + raised_function (base_of S) (256 + r - 256)) (le-ltb (256 + r) 256 (omega arith))
      ∙ ap (λ (k : ℕ). 256 + raised_function (base_of S) k) q ∙ ap (λ (k : ℕ). 256 + k) (raised_row_lem E N O s facts whole few base r b.0 b.1)

  pub class_there : (r : ℕ) → T (is s 4 r) → Mem (class_by O s r) (classes_by O s)
  class_there r t = mem_map (class_by O s) r (filter (is s 4) (from 0 (rows s))) (mem_filter (is s 4) r (from 0 (rows s)) t (mem_from r 0 (rows s) (omega arith) (omega (arith, (row_above r t).1))))

  -- no class was refused
  climbs : (r : ℕ) → T (is s 4 r) → T (not (lacks_record O s (parent (256 + r)))) × (parent (256 + r) ≡ 256 + r → ⊥)
  climbs r t =
      let q : suc (rows s) ≡ suc (suc (rows s - 1)) = omega arith in
      climbed O s parent (rows s - 1) (256 + r) (of_sheet_lem s r (true_of (is s 4 r) t))
      (ap (λ (k : ℕ). (ask_climb O s parent k [] (256 + r)).number) (sym q)
      ∙ no_no (map (λ r. ask_climb O s parent (suc (rows s)) [] (256 + r)) (filter (is s 4) (from 0 (rows s)))) of_classes (ask_climb O s parent (suc (rows s)) [] (256 + r))
      (mem_map (λ r. ask_climb O s parent (suc (rows s)) [] (256 + r)) r (filter (is s 4) (from 0 (rows s)))
      (mem_filter (is s 4) r (from 0 (rows s)) t (mem_from r 0 (rows s) (omega arith) (omega (arith, (row_above r t).1))))))
    where
      of_classes : (first_of_classes s (ask_climb O s parent (suc (rows s)) [])).number ≡ 0
      of_classes =
          no_no (first_no (map (λ m. ask_event O s m.event (open_on s m.stack)) h) ∷ first_of_classes s (ask_climb O s parent (suc (rows s)) [])
          ∷ first_no (map (ask_constructor O s h) (visits s h CALL)) ∷ []) agreed (first_of_classes s (ask_climb O s parent (suc (rows s)) [])) (there (here refl))

  abbrev Known : ℕ → ℕ → Type 0
  Known r p = T (known_in (all_classes S ++ classes_by O s) (raised_class (base_of S) p)) × (raised_class (base_of S) p ≡ 256 + (r + 2048 * E) → ⊥)

  abbrev numbered : ℕ → Class → Bool
  numbered c k = eqb k.number c

  known_by : (c : ℕ) (k : Class) → Mem k (all_classes S ++ classes_by O s) → k.number ≡ c → T (known_in (all_classes S ++ classes_by O s) c)
  known_by c k m e =
      or_left (any (numbered c) (all_classes S ++ classes_by O s)) (is_recorded core c) (mem_any (numbered c) k (all_classes S ++ classes_by O s) (eqb_of k.number c e) m)

  -- a parent of the sheet
  known_own : (r p : ℕ) → (p ≡ 256 + r → ⊥) → T (of_sheet s p) → Known r p
  known_own r p other t =
      let l : 256 ≤ p = leb→le 256 p (and_left (leb 256 p) (is s 4 (p - 256)) t) in
      let k : T (is s 4 (p - 256)) = and_right (leb 256 p) (is s 4 (p - 256)) t in
      let q : p ≡ 256 + (p - 256) = omega arith in
      let v : raised_class (base_of S) p ≡ 256 + ((p - 256) + 2048 * E) = ap (raised_class (base_of S)) q ∙ number_is (p - 256) k in (
        known_by (raised_class (base_of S) p) (class_by O s (p - 256)) (Memᴰ.append_right (all_classes S) (class_there (p - 256) k)) (number_is (p - 256) k ∙ sym v),
        λ e. other (omega (arith, v, e)),
      )

  -- one of an earlier entry, or of the core
  known_earlier : (r p : ℕ) (k : Class) → Mem k (all_classes S) → k.number + 2048 ≡ p → Known r p
  known_earlier r p k m e =
      let u : T (ltb 256 k.number && ltb ((k.number - 256) / 2048) E) = all_mem (λ c. ltb 256 c.number && ltb ((c.number - 256) / 2048) E) (all_classes S) k below m in
      let l : 256 < k.number = ltb→lt 256 k.number (and_left (ltb 256 k.number) (ltb ((k.number - 256) / 2048) E) u) in
      let g : (k.number - 256) / 2048 < E = ltb→lt ((k.number - 256) / 2048) E (and_right (ltb 256 k.number) (ltb ((k.number - 256) / 2048) E) u) in
      let v : raised_class (base_of S) p ≡ k.number =
      ap (λ (t : Bool). when t then p else 256 + raised_function (base_of S) (p - 256)) (le-ltb p 256 (omega arith))
      ∙ ap (λ (t : Bool). 256 + (when t then p - 256 + base_of S else p - 256 - 2048)) (le-ltb (p - 256) 2048 (omega arith)) ∙ omega arith in
      (known_by (raised_class (base_of S) p) k (Memᴰ.append_left (classes_by O s) m) (sym v), λ x. omega (arith, v, x, g, l))

  known_core : (r p : ℕ) → T (is_recorded core p) → Known r p
  known_core r p t =
      let l : p < 256 = small t in
      let v : raised_class (base_of S) p ≡ p = ap (λ (t : Bool). when t then p else 256 + raised_function (base_of S) (p - 256)) (lt-ltb p 256 l) in (
        or_right (any (numbered (raised_class (base_of S) p)) (all_classes S ++ classes_by O s)) (is_recorded core (raised_class (base_of S) p)) (subst (λ (k : ℕ). T (is_recorded core k)) (sym v) t),
        λ x. omega (arith, v, x),
      )
    where
      last : T (eqb 102 p) ⊎ ⊥ → p < 256
      last (inl h) = omega (arith, eqb→eq 102 p h)
      last (inr h) = absurd h

      later : T (eqb 101 p) ⊎ T (eqb 102 p || false) → p < 256
      later (inl h) = omega (arith, eqb→eq 101 p h)
      later (inr h) = last (or_cases (eqb 102 p) false h)

      first_one : T (eqb 100 p) ⊎ T (eqb 101 p || (eqb 102 p || false)) → p < 256
      first_one (inl h) = omega (arith, eqb→eq 100 p h)
      first_one (inr h) = later (or_cases (eqb 101 p) (eqb 102 p || false) h)

      small : T (is_recorded core p) → p < 256
      small h = first_one (or_cases (eqb 100 p) (eqb 101 p || (eqb 102 p || false)) h)

  known_outside : (r p : ℕ) → T (is_recorded O p) → Known r p
  known_outside r p t = go (any_append (λ x. eqb x.number p) (map earlier_record (all_classes S)) core.records t)
    where
      go : T (any (λ x. eqb x.number p) (map earlier_record (all_classes S))) ⊎ T (is_recorded core p) → Known r p
      go (inl h) =
          let x = any_mem (λ (x : ClassRecord). eqb x.number p) (map earlier_record (all_classes S)) h in
          let k = map_mem earlier_record x.0 (all_classes S) x.1 in
          known_earlier r p k.0 k.1 (ap (λ (y : ClassRecord). y.number) (sym k.2) ∙ eqb→eq x.0.number p x.2)
      go (inr h) = known_core r p h

  -- a parent, or none
  parent_by : (r p : ℕ) → T (is s 4 r) → T (not (lacks_record O s p)) → (p ≡ 256 + r → ⊥)
      → T (eqb (raised_class (base_of S) p) 0 || known_in (all_classes S ++ classes_by O s) (raised_class (base_of S) p) && not (eqb (raised_class (base_of S) p) (raised_class (base_of S) (256 + r))))
  parent_by r p t lacks other = go (eqb p 0) refl lacks
    where
      x : ℕ
      x = raised_class (base_of S) p

      y : ℕ
      y = raised_class (base_of S) (256 + r)

      known : Bool
      known = known_in (all_classes S ++ classes_by O s) x

      from_known : Known r p → T (eqb x 0 || known && not (eqb x y))
      from_known k = or_right (eqb x 0) (known && not (eqb x y)) (and_both known (not (eqb x y)) k.0 (T_true (not (eqb x y)) (ap not (ne_eqb x y (λ e. k.1 (e ∙ number_is r t))))))

      by_record : T (of_sheet s p) ⊎ T (is_recorded O p) → T (eqb x 0 || known && not (eqb x y))
      by_record (inl k) = from_known (known_own r p other k)
      by_record (inr k) = from_known (known_outside r p k)

      some_record : (u : Bool) → T (not (true && not u)) → T u
      some_record true k = tt
      some_record false k = k

      go : (u : Bool) → eqb p 0 ≡ u → T (not (not u && not (has_record O s p))) → T (eqb x 0 || known && not (eqb x y))
      go true q k = or_left (eqb x 0) (known && not (eqb x y)) (eqb_of x 0 (ap (raised_class (base_of S)) (eqb-true p 0 q)))
      go false q k = by_record (or_cases (of_sheet s p) (is_recorded O p) (some_record (has_record O s p) k))

  abbrev raised_method : Method → Method
  raised_method m = record { name = m.name; fun = raised_function (base_of S) m.fun; params = m.params }

  raised_names : (ms : List Method) → names_of (map raised_method ms) ≡ names_of ms
  raised_names [] = refl
  raised_names (m ∷ ms) = ap (λ (l : List ℕ). m.name ∷ l) (raised_names ms)

  -- the tests of a class, by its number
  number_tests : (r c : ℕ) → T (is s 4 r) → c ≡ 256 + (r + 2048 * E) → T (is_function E (c - 256)) × T (eqb ((c - 256) / 2048) E)
  number_tests r c t e =
      let b = row_above r t in
      let q : c - 256 ≡ r + 2048 * E = omega arith in
      (subst (λ (k : ℕ). T (is_function E k)) (sym q) (own_function E N O s facts whole few base r b.0 b.1), eqb_of ((c - 256) / 2048) E (omega (arith, b.1)))

  class_good_lem : (r : ℕ) → T (is s 4 r) → T (class_good E N (known_in (all_classes S ++ classes_by O s)) (class_by O s r))
  class_good_lem r t =
      let k = number_tests r (class_by O s r).number t (number_is r t) in
      let p = climbs r t in
      let f = fields_good E N O s facts whole few base records h (rows s) (256 + r) in
      let m = methods_good E N O s facts whole few base records h (rows s) (256 + r) in
      let passes : AllPass (class_list E N true 0 (known_in (all_classes S ++ classes_by O s) (class_by O s r).parent) (class_by O s r)) =
      all_some _ k.0 (all_some _ k.1 (all_some _ tt (all_some _ (class_name_lem E N O s facts whole few base r t)
      (all_some _ (parent_by r (parent (256 + r)) t p.0 p.1)
      (all_some _ f.0 (all_some _ f.1
      (all_some _ (all_map raised_method (λ x. is_name N x.name && is_function E x.fun && leb x.params 2047) (good_method E N (base_of S)) (λ x g. g) (methods O s h (rows s) (256 + r)) m.0)
      (all_some _ (subst (λ (l : List ℕ). T (unlike eqb l)) (sym (raised_names (methods O s h (rows s) (256 + r)))) m.1) all_none)))))))) in
      every_passes passes

  pub classes_good : T (all (class_good E N (known_in (all_classes S ++ classes_by O s))) (classes_by O s))
  classes_good = all_by (class_good E N (known_in (all_classes S ++ classes_by O s))) (classes_by O s) (λ c m.
      let q = map_mem (class_by O s) c (filter (is s 4) (from 0 (rows s))) m in
      subst (λ (x : Class). T (class_good E N (known_in (all_classes S ++ classes_by O s)) x)) (sym q.2) (class_good_lem q.0 (filter_mem (is s 4) q.0 (from 0 (rows s)) q.1).1))

  pub classes_rise : (j : ℕ) → suc j < length (classes_by O s) → (get_or (classes_by O s) j no_class).number < (get_or (classes_by O s) (suc j) no_class).number
  classes_rise j l =
      let xs : List ℕ = filter (is s 4) (from 0 (rows s)) in
      let n : length (classes_by O s) ≡ length xs = length-map xs (class_by O s) in
      let i : suc j < length xs = omega (arith, l, n) in
      let at : (j : ℕ) → j < length xs → (get_or (classes_by O s) j no_class).number ≡ 256 + (get_or xs j 0 + 2048 * E) =
      λ j l. ap (λ (c : Class). c.number) (map_at (class_by O s) 0 no_class xs j l) ∙ number_is (get_or xs j 0) (filter_mem (is s 4) (get_or xs j 0) (from 0 (rows s)) (mem_at 0 xs j l)).1 in
      omega (arith, at j (omega arith), at (suc j) i, picked_rise (is s 4) 0 (rows s) j i)
