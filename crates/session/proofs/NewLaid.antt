-- The declarations of an accepted entry are good: classes of its unit, functions and globals of its body.
use mathlib.Core.Path.{◌≡◌, refl, sym, ap, ◌∙◌, subst}
use mathlib.Core.Logic.{◌⊎◌, inl, inr}
use mathlib.Core.Bool.{Bool, true, false, not, ◌&&◌, ◌||◌}
use mathlib.Core.List.Memᴰ
use mathlib.Core.List.Memᴰ.{head as here}
use mathlib.Core.List.Memᴰ.{tail as there}
use mathlib.Core.List.{List, [], ◌∷◌, ◌++◌, Memᴰ as Mem}
use Prim.Native.Nat.{ℕ, zero, suc, ◌+◌, ◌-◌, ◌*◌, ◌/◌, ◌<◌, ◌≤◌}
use native.Mathlib.Omega.{arith}
use lib.ListN.{length}
use lib.Dec.{eqb, leb, ltb, T, T_not, eqb→eq, leb→le, ltb→lt, le→leb}
use borrow.Author.Tests.{eq-eqb, lt-ltb, leb-false}
use Rattle.definition.specs.Basics.{when◌then◌else◌, all, any, filter, place, head, bit, ◌∈?◌}
use Rattle.definition.specs.Sheet.{Sheet, kind, child, a, b, rows, chain, kids, is, kids_of}
use Rattle.definition.specs.Shape.{holds, shape_of, only}
use Rattle.definition.specs.Meaning.{Meaning, Named, named, function, class, global, toplevel, variable, is_toplevel}
use Rattle.definition.specs.Outside.{Outside}
use Rattle.definition.specs.Walk.{Event, declare, literal_let, is_part, parts}
use Rattle.definition.specs.Scope.{Stack, Moment, scope, around, inside, new_global, declared, declares, declaration, declarings, start, within, moments, history}
use Rattle.definition.specs.Slots.{global_lets, global_of, final_globals}
use Rattle.definition.specs.Answer.{raised_function, raised_class}
use Rattle.definition.proofs.Lists.Tests.{and_both, and_left, and_right, or_cases, or_left, T_true, eqb_of, bit_le, T_and, if_true}
use Rattle.definition.proofs.Lists.Members.{mem_filter, filter_mem, mem_map, mem_any, mem_test, test_mem}
use Rattle.definition.proofs.Format.Facts.{SheetFacts, link_facts}
use Rattle.definition.proofs.Format.Links.{Rises, LinkFacts, held, holder_of}
use Rattle.definition.proofs.Format.Shapes.{one_child}
use Rattle.definition.proofs.Format.Tree.{children_of, marked, unit_holder, not_header}
use Rattle.definition.proofs.Walk.Fits.{Fits}
use Rattle.definition.proofs.Walk.Rows.{is_not_zero}
use Rattle.definition.proofs.Walk.Moments.{around_names}
use Rattle.definition.proofs.Walk.Balance.{around_grown}
use Rattle.definition.proofs.Walk.Told.{Declarer, a_class, a_parameter, a_let, Told, t_declare, told}
use Rattle.session.specs.Enter.{scope_row, scope_of, unit_row, body_row, left, laid_by, class_by, classes_by}
use Rattle.session.proofs.OutsideLaws.{all_append, all_map}
use Rattle.session.proofs.Follows.{is_name, is_function, laid_good}
use Rattle.session.proofs.NewMembers.{in_range, raised_row_lem, own_function, class_name_lem, let_name}
use Rattle.session.proofs.UnitRows.{UnitRows}
use Rattle.session.proofs.UnitEvents.{body_events}
use Rattle.session.proofs.UnitStack.{BodyStack, z, stack, at, history_is, holds_unit, holds_body, grown_row}
use Rattle.session.proofs.Pushed.{Pushed, from_outside, declared_at, brought_at, scope_all, sound_at, no_bring}

-- a member's place is below the length
place_below : (r : ℕ) (xs : List ℕ) → Mem r xs → place (eqb r) xs < length xs
place_below r [] m = absurd (Memᴰ.not-nil m)
place_below r (x ∷ xs) m = go (eqb r x) refl m (place_below r xs)
  where
    go : (t : Bool) → eqb r x ≡ t → Mem r (x ∷ xs) → (Mem r xs → place (eqb r) xs < length xs) → (when t then 0 else suc (place (eqb r) xs)) < suc (length xs)
    go true q m f = omega arith
    go false q (here e) f = absurd (subst T (sym (eq-eqb r x e) ∙ q) tt)
    go false q (there m) f = omega (arith, f m)

-- the first of a list of rows
head_in : (l : List ℕ) → (head l ≡ 0 → ⊥) → Mem (head l) l
head_in [] f = absurd (f refl)
head_in (x ∷ l) f = here refl

module _ (E N g : ℕ) (O : Outside) (s : Sheet) (facts : SheetFacts (24 + N) s) (ok : Fits O s) (whole : length s ≡ 8 * rows s) (few : rows s ≤ 2048) (base : O.base ≡ 2048 * E)
    (count : g ≡ final_globals s (history O s)) (there_is : (r : ℕ) → T (is s 4 r) → Mem (class_by O s r) (classes_by O s)) where
  lf : LinkFacts s
  lf = link_facts (24 + N) s facts

  abbrev h : List Moment
  h = history O s

  abbrev good : ℕ → Meaning → Bool
  good n d = laid_good E N g (classes_by O s) (named n (left O s d))

  -- a class
  good_class : (r : ℕ) → T (is s 4 r) → T (good (a s r) (class (256 + r)))
  good_class r t =
      and_both (is_name N (a s r)) (any (λ k. eqb k.number (raised_class O.base (256 + r))) (classes_by O s)) (class_name_lem E N O s facts whole few base r t)
      (mem_any (λ k. eqb k.number (raised_class O.base (256 + r))) (class_by O s r) (classes_by O s) (eqb_of (class_by O s r).number (raised_class O.base (256 + r)) refl) (there_is r t))

  -- a constant's global is below the starting count
  good_constant : (r : ℕ) → T (is s 29 r) → T (leb 2 (b s r)) → T (good (a s r) (global (b s r - 2) 0))
  good_constant r t k =
      and_both (is_name N (a s r)) (ltb (b s r - 2) g && true) (let_name E N O s facts whole few base r t)
      (and_both (ltb (b s r - 2) g) true (T_true (ltb (b s r - 2) g) (lt-ltb (b s r - 2) g (omega (arith, count, below (or_cases (leb (b s r) 1) (ltb (b s r - 2) (a s 0)) mode))))) tt)
    where
      l : r < rows s
      l = in_range E N O s facts whole few base 28 r t

      mode : T (leb (b s r) 1 || ltb (b s r - 2) (a s 0))
      mode = subst (λ (j : ℕ). T (holds s (24 + N) (shape_of j).b (b s r))) (eqb→eq (kind s r) 29 t)
          (T_and (holds s (24 + N) (shape_of (kind s r)).a (a s r)) (holds s (24 + N) (shape_of (kind s r)).b (b s r)) (facts.row r l).columns).1

      below : T (leb (b s r) 1) ⊎ T (ltb (b s r - 2) (a s 0)) → b s r - 2 < a s 0
      below (inl v) = absurd (omega (arith, leb→le (b s r) 1 v, leb→le 2 (b s r) k))
      below (inr v) = ltb→lt (b s r - 2) (a s 0) v

  -- a let's own global is below the final count
  good_global : (r : ℕ) → T (is s 29 r) → Mem r (global_lets s h) → T (good (a s r) (toplevel r))
  good_global r t m =
      and_both (is_name N (a s r)) (ltb (global_of s h r) g && leb (bit (eqb (b s r) 1)) 1) (let_name E N O s facts whole few base r t)
      (and_both (ltb (global_of s h r) g) (leb (bit (eqb (b s r) 1)) 1)
      (T_true (ltb (global_of s h r) g) (lt-ltb (global_of s h r) g (omega (arith, count, place_below r (global_lets s h) m)))) (le→leb (bit (eqb (b s r) 1)) 1 (bit_le (eqb (b s r) 1))))

  -- a hoisted function's row
  literal_function : (r : ℕ) → T (is s 29 r) → T (is s 52 (child s r)) → (0 < child s (child s r)) × (child s (child s r) < rows s)
  literal_function r t k = go (lf.children (child s r) l)
    where
      l : child s r < rows s
      l = in_range E N O s facts whole few base 51 (child s r) k

      some : length (kids s (child s r)) ≡ 0 → ⊥
      some e = let o = one_child (kind s) (only 6) [] (kids s (child s r)) (children_of (24 + N) s facts 52 (child s r) k l) in omega (arith, e, ap length o.2)

      none : (n : ℕ) → length (chain n s 0) ≡ 0
      none zero = refl
      none (suc n) = refl

      go : Rises s (child s r) (child s (child s r)) → (0 < child s (child s r)) × (child s (child s r) < rows s)
      go (inl e) = absurd (some (ap (λ (k : ℕ). length (chain (rows s) s k)) e ∙ none (rows s)))
      go (inr q) = (omega (arith, q.0), q.1)

  good_function : (r : ℕ) → T (is s 29 r) → T (is s 52 (child s r)) → T (good (a s r) (function (child s (child s r))))
  good_function r t k =
      let f : ℕ = child s (child s r) in
      let q = literal_function r t k in
      let v : raised_function O.base f ≡ f + 2048 * E = raised_row_lem E N O s facts whole few base f q.0 q.1 in
      and_both (is_name N (a s r)) (is_function E (raised_function O.base f) && eqb (raised_function O.base f / 2048) E) (let_name E N O s facts whole few base r t)
      (and_both (is_function E (raised_function O.base f)) (eqb (raised_function O.base f / 2048) E)
      (subst (λ (x : ℕ). T (is_function E x)) (sym v) (own_function E N O s facts whole few base f q.0 q.1))
      (eqb_of (raised_function O.base f / 2048) E (omega (arith, v, q.1))))

  -- what a let of the unit function f declares
  good_let : (r f : ℕ) → T (is s 29 r) → b s f ≡ 1 → (T (is_toplevel (declared s r f)) → Mem r (global_lets s h)) → T (good (a s r) (declared s r f))
  good_let r f t one m =
      by_cases (good (a s r)) (is s 4 r) (is s 29 r && leb 2 (b s r)) (new_global s r f) (is s 29 r && eqb (b s f) 1)
      (class (256 + r)) (global (b s r - 2) 0) (toplevel r) (function (child s (child s r))) (variable r f)
      (good_class r) (λ k. good_constant r t (and_right (is s 29 r) (leb 2 (b s r)) k))
      (λ c k w. good_global r t (m (subst (λ (d : Meaning). T (is_toplevel d)) (sym (third (is s 4 r) (is s 29 r && leb 2 (b s r)) (new_global s r f)
      (class (256 + r)) (global (b s r - 2) 0) (toplevel r) (when is s 29 r && eqb (b s f) 1 then function (child s (child s r)) else variable r f) c k w)) tt)))
      (λ k w. good_function r t (and_right (is s 29 r) (is s 52 (child s r)) (and_left (literal_let s r) (eqb (b s r) 0)
      (hoisted (is s 29 r) (leb (b s r) 1) (eqb (b s f) 1) (literal_let s r && eqb (b s r) 0) t (low k) (eqb_of (b s f) 1 one) w))))
      (and_both (is s 29 r) (eqb (b s f) 1) t (eqb_of (b s f) 1 one))
    where
      by_cases : (p : Meaning → Bool) (c k w l : Bool) (d₁ d₂ d₃ d₄ d₅ : Meaning) → (T c → T (p d₁)) → (T k → T (p d₂)) → (T (not c) → T (not k) → T w → T (p d₃))
          → (T (not k) → T (not w) → T (p d₄)) → T l → T (p (when c then d₁ else when k then d₂ else when w then d₃ else when l then d₄ else d₅))
      by_cases p true k w l d₁ d₂ d₃ d₄ d₅ f₁ f₂ f₃ f₄ x = f₁ tt
      by_cases p false true w l d₁ d₂ d₃ d₄ d₅ f₁ f₂ f₃ f₄ x = f₂ tt
      by_cases p false false true l d₁ d₂ d₃ d₄ d₅ f₁ f₂ f₃ f₄ x = f₃ tt tt tt
      by_cases p false false false true d₁ d₂ d₃ d₄ d₅ f₁ f₂ f₃ f₄ x = f₄ tt tt
      by_cases p false false false false d₁ d₂ d₃ d₄ d₅ f₁ f₂ f₃ f₄ x = absurd x

      third : (c k w : Bool) (d₁ d₂ d₃ d₄ : Meaning) → T (not c) → T (not k) → T w → (when c then d₁ else when k then d₂ else when w then d₃ else d₄) ≡ d₃
      third true k w d₁ d₂ d₃ d₄ x y v = absurd x
      third false true w d₁ d₂ d₃ d₄ x y v = absurd y
      third false false true d₁ d₂ d₃ d₄ x y v = refl
      third false false false d₁ d₂ d₃ d₄ x y v = absurd v

      hoisted : (i j k v : Bool) → T i → T j → T k → T (not (i && j && k && not v)) → T v
      hoisted true true true true x y w n = tt
      hoisted true true true false x y w n = n
      hoisted false j k v x y w n = absurd x
      hoisted true false k v x y w n = absurd y
      hoisted true true false v x y w n = absurd w

      low : T (not (is s 29 r && leb 2 (b s r))) → T (leb (b s r) 1)
      low k = T_true (leb (b s r) 1) (go (leb (b s r) 1) refl)
        where
          go : (u : Bool) → leb (b s r) 1 ≡ u → leb (b s r) 1 ≡ true
          go true q = q
          go false q = absurd (T_not (is s 29 r && leb 2 (b s r)) k (and_both (is s 29 r) (leb 2 (b s r)) t (le→leb 2 (b s r) (leb-false (b s r) 1 q))))

  good_declared : (r f : ℕ) → T (is s 4 r) ⊎ (T (is s 29 r) × (b s f ≡ 1)) → (T (is s 29 r) → T (is_toplevel (declared s r f)) → Mem r (global_lets s h)) → T (good (a s r) (declared s r f))
  good_declared r f (inl t) m =
      subst (λ (d : Meaning). T (good (a s r) d)) (sym (if_true (is s 4 r) (class (256 + r))
      (when is s 29 r && leb 2 (b s r) then global (b s r - 2) 0 else when new_global s r f then toplevel r
      else when is s 29 r && eqb (b s f) 1 then function (child s (child s r)) else variable r f) t))
      (good_class r t)
  good_declared r f (inr x) m = good_let r f x.0 x.1 (m x.0)

  -- what stands on a stack of the walk, where units have no imports and fs are the functions around
  good_pushed : ((r : ℕ) → T (is s 2 r) → kids_of s 3 r ≡ []) → (st : Stack) (fs : List ℕ) → around s st ≡ fs → (scope_row st ≡ 0 → ⊥)
      → ((r : ℕ) → Declarer s fs r → T (is s 4 r) ⊎ (T (is s 29 r) × (b s (head fs) ≡ 1))) → (n : ℕ) (d : Meaning) → Pushed s h st n d → T (good n d)
  good_pushed alone st fs e inner sorts n d (from_outside q) = absurd (inner q)
  good_pushed alone st fs e inner sorts n d (brought_at m r q v) = absurd (no_bring s alone O m q r n d v)
  good_pushed alone st fs e inner sorts n d (declared_at m r q w v n_is d_is) =
      subst (λ (x : ℕ). T (good x d)) (sym n_is) (subst (λ (x : Meaning). T (good (a s r) x)) (sym d_is)
      (good_declared r (inside s st) (sort (sorts r (declarer (subst (λ (k : Event). Told s fs k) v (subst (λ (l : List ℕ). Told s l m.event) (ap (around s) w ∙ e) (told ok m q)))))) among))
    where
      declarer : Told s fs (declare r) → Declarer s fs r
      declarer (t_declare p l x) = x

      sort : T (is s 4 r) ⊎ (T (is s 29 r) × (b s (head fs) ≡ 1)) → T (is s 4 r) ⊎ (T (is s 29 r) × (b s (inside s st) ≡ 1))
      sort (inl x) = inl x
      sort (inr x) = inr (x.0, ap (λ (l : List ℕ). b s (head l)) e ∙ x.1)

      row_is_lem : declares m.event ≡ r
      row_is_lem = ap declares v

      among : T (is s 29 r) → T (is_toplevel (declared s r (inside s st))) → Mem r (global_lets s h)
      among t k =
          Memᴰ.cast (sym row_is_lem)
          (mem_map (λ (x : Moment). declares x.event) m (filter (λ x. is_toplevel (declaration s x)) (declarings s h 29))
          (mem_filter (λ x. is_toplevel (declaration s x)) m (declarings s h 29)
          (subst (λ (x : Meaning). T (is_toplevel x)) (sym (ap (λ (j : ℕ). declared s j (within s m)) row_is_lem ∙ ap (λ (z : Stack). declared s r (inside s z)) w)) k)
          (mem_filter (λ x. is s 29 (declares x.event)) m h (subst (λ (j : ℕ). T (is s 29 j)) (sym row_is_lem) t) q)))

  module _ (u f c : ℕ) (rows_are : UnitRows s u f c) where
    header : kind s 0 ≡ 0
    header = ok.header

    up : (0 < u) × (u < f) × (f < c) × (c < rows s)
    up = rows_are.rising

    -- the only unit has no imports
    alone : (r : ℕ) → T (is s 2 r) → kids_of s 3 r ≡ []
    alone r t = ap (kids_of s 3) (only_one (subst (λ (l : List ℕ). Mem r l) rows_are.in_header in_parts_lem)) ∙ rows_are.no_imports
      where
        l : r < rows s
        l = in_range E N O s facts whole few base 1 r t

        in_kids : Mem r (kids s 0)
        in_kids =
            test_mem r (kids s 0) (subst (λ (p : ℕ). T (r ∈? kids s p)) (unit_holder (24 + N) s facts r l t) (held s lf r (not_header (24 + N) s facts 1 r t) l).0)

        in_parts_lem : Mem r (parts s 0)
        in_parts_lem =
            subst (λ (k : ℕ). Mem r (filter (is_part s) (kids s (when eqb k 30 then a s 0 else 0)))) (sym header)
            (mem_filter (is_part s) r (kids s 0) (or_left (is s 2 r || is s 6 r) (leb 20 (kind s r)) (or_left (is s 2 r) (is s 6 r) t)) in_kids)

        only_one : Mem r (u ∷ []) → r ≡ u
        only_one (here e) = e
        only_one (there m) = absurd (Memᴰ.not-nil m)

    is_function_lem : T (is s 6 f)
    is_function_lem = eqb_of (kind s f) 6 rows_are.function_kind

    -- the unit's function is marked
    one : b s f ≡ 1
    one =
        marked (24 + N) s facts f (omega (arith, up.2, up.3)) is_function_lem
        ∙ ap (λ (p : ℕ). bit (is s 2 p)) (holder_of s lf f u (omega (arith, up.1, up.2, up.3)) (mem_test f (kids s u) in_kids))
        ∙ ap (λ (k : ℕ). bit (eqb k 2)) rows_are.unit_kind
      where
        in_kids : Mem f (kids s u)
        in_kids =
            (filter_mem (is s 6) f (kids s u) (Memᴰ.cast rows_are.function_is (head_in (kids_of s 6 u) (λ e. omega (arith, rows_are.function_is, e, up.0, up.1))))).0

    in_unit : (r : ℕ) → Declarer s [] r → T (is s 4 r) ⊎ (T (is s 29 r) × (b s 0 ≡ 1))
    in_unit r (a_class t) = inl t
    in_unit r (a_parameter t k l m) = absurd (is_not_zero ok 6 tt k)
    in_unit r (a_let t some) = absurd (some refl)

    in_body : (r : ℕ) → Declarer s (f ∷ []) r → T (is s 4 r) ⊎ (T (is s 29 r) × (b s f ≡ 1))
    in_body r (a_class t) = inl t
    in_body r (a_parameter t k l m) = absurd (Memᴰ.not-nil (subst (λ (x : List ℕ). Mem r x) rows_are.no_parameters (mem_filter (is s 11) r (kids s f) t m)))
    in_body r (a_let t some) = inr (t, one)

    abbrev x : BodyStack O u f c (z O s u f c rows_are header)
    x = stack O s u f c rows_are header

    moment_in : (m : Moment) → Mem m (at O s u f c rows_are header (z O s u f c rows_are header) ∷ at O s u f c rows_are header (scope f ∷ x.outer) ∷ at O s u f c rows_are header x.outer ∷ [])
        → Mem m h
    moment_in m q = subst (λ (l : List Moment). Mem m l) (sym (history_is O s u f c rows_are header)) (Memᴰ.append_right (moments s (start O) (body_events (rows s - 4) s u f c)) q)

    around_unit : around s (scope u ∷ start O) ≡ []
    around_unit =
        ap (λ (k : ℕ). when eqb k 6 then u ∷ around s (start O) else around s (start O)) rows_are.unit_kind ∙ around_names s O.names

    around_body : around s (scope c ∷ scope f ∷ x.outer) ≡ f ∷ []
    around_body =
        ap (λ (k : ℕ). when eqb k 6 then c ∷ around s (scope f ∷ x.outer) else around s (scope f ∷ x.outer)) rows_are.body_kind
        ∙ ap (λ (k : ℕ). when eqb k 6 then f ∷ around s x.outer else around s x.outer) rows_are.function_kind
        ∙ ap (λ (l : List ℕ). f ∷ l) (around_grown s (scope u ∷ start O) x.opened ∙ around_unit)

    abbrev fine : Named → Bool
    fine d = good d.name d.means

    unit_names : T (all fine (scope_of O s u))
    unit_names =
        subst (λ (l : List Named). T (all fine l)) (sym (holds_unit O s u f c rows_are header))
        (scope_all s h fine u (start O) (λ st gr n d p. good_pushed alone st [] (around_grown s (scope u ∷ start O) gr ∙ around_unit)
        (λ e. omega (arith, grown_row u (start O) gr, e, up.0)) in_unit n d p) x.opened
        (sound_at O s (at O s u f c rows_are header x.outer) (moment_in (at O s u f c rows_are header x.outer) (there (there (here refl))))))

    body_names : T (all fine (scope_of O s c))
    body_names =
        subst (λ (l : List Named). T (all fine l)) (sym (holds_body O s u f c rows_are header))
        (scope_all s h fine c (scope f ∷ x.outer) (λ st gr n d p. good_pushed alone st (f ∷ []) (around_grown s (scope c ∷ scope f ∷ x.outer) gr ∙ around_body)
        (λ e. omega (arith, grown_row c (scope f ∷ x.outer) gr, e, up.1, up.2)) in_body n d p) x.inner
        (sound_at O s (at O s u f c rows_are header (z O s u f c rows_are header)) (moment_in (at O s u f c rows_are header (z O s u f c rows_are header)) (here refl))))

    pub laid_good_lem : T (all (laid_good E N g (classes_by O s)) (laid_by O s))
    laid_good_lem =
        all_map (λ d. named d.name (left O s d.means)) (laid_good E N g (classes_by O s)) fine (λ d k. k) (scope_of O s (unit_row O s) ++ scope_of O s (body_row O s))
        (subst (λ (r : ℕ). T (all fine (scope_of O s r ++ scope_of O s (body_row O s)))) rows_are.unit_is
        (all_append fine (scope_of O s u) (scope_of O s (body_row O s)) unit_names
        (subst (λ (r : ℕ). T (all fine (scope_of O s r))) (rows_are.body_is ∙ ap (child s) (rows_are.function_is ∙ ap (λ (k : ℕ). head (kids_of s 6 k)) rows_are.unit_is)) body_names)))
