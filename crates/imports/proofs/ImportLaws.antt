-- Imports: export rows as declarations, the names that an import brings, and the order in which it brings them.
use mathlib.Core.Path.{◌≡◌, refl, sym, ap, ◌∙◌}
use mathlib.Core.Bool.{Bool, true, false}
use mathlib.Core.List.{List, [], ◌∷◌, ◌++◌, map}
use Prim.Native.Nat.{ℕ, zero, suc, ◌+◌}
use native.Mathlib.Omega.{arith}
use lib.Dec.{eqb}
use borrow.Author.Tests.{eq-eqb, ne_eqb, eqb-true}
use Rattle.definition.specs.Basics.{when◌then◌else◌, filter, first, concat_map}
use Rattle.definition.specs.Sheet.{Sheet, kind, next, child, a, b, rows, chain, is, kids, kids_of}
use Rattle.definition.specs.Outside.{Outside}
use Rattle.definition.specs.Meaning.{Meaning, Named, named, nothing, function, class, global, is_declared}
use Rattle.definition.specs.Walk.{Event, bring, exports, seen, imports}
use Rattle.machine.specs.Machine.{State, Scopes, taken_in, push_name, step_scopes, check_event, step_state, run_state}
use Rattle.machine.proofs.ByKind.{store_bring}
use Rattle.sheet.specs.Exports.{export_of}
use Rattle.walk.specs.WalkState.{refused_by}
use Rattle.walk.proofs.StepLaws.{stepped, refused}
use Rattle.walk.proofs.RunLaws.{run_one, run_both, map_filter, concat_filter}

-- Export row x by its kind.
module _ (s : Sheet) (x : ℕ) where
  export_none : x ≡ 0 → export_of s x ≡ nothing
  export_none e = rw e

  module _ (f : x ≡ 0 → ⊥) where
    export_function : kind s x ≡ 7 → export_of s x ≡ function (b s x)
    export_function e = rw (ne_eqb x 0 f, e)

    export_class : kind s x ≡ 4 → export_of s x ≡ class (256 + x)
    export_class e = rw (ne_eqb x 0 f, e)

    export_constant : kind s x ≡ 8 → export_of s x ≡ global (b s x) 0
    export_constant e = rw (ne_eqb x 0 f, e)

    export_other : (kind s x ≡ 7 → ⊥) → (kind s x ≡ 4 → ⊥) → (kind s x ≡ 8 → ⊥) → export_of s x ≡ nothing
    export_other g h i = rw (ne_eqb x 0 f, ne_eqb (kind s x) 7 g, ne_eqb (kind s x) 4 h, ne_eqb (kind s x) 8 i)

-- A name m that import row i brings as d.
module _ (O : Outside) (s : Sheet) (i m : ℕ) (d : Meaning) (x : State) (z : x.refusal.number ≡ 0) where
  pub bring_none : {y : State} → is_declared d ≡ false → y ≡ refused_by 15 i m x → y ≡ step_state O s (bring i m d) x
  unfolding check_event
  bring_none e h = refused O s (bring i m d) x 15 i m z (rw e) (λ u. omega arith) h

  module _ (e : is_declared d ≡ true) where
    pub bring_taken : {y : State} → taken_in x.scopes.env m x.scopes.count ≡ true → y ≡ refused_by 16 i m x → y ≡ step_state O s (bring i m d) x
    unfolding check_event
    bring_taken t h = refused O s (bring i m d) x 16 i m z (rw (e, t)) (λ u. omega arith) h

    pub bring_new : {p : Scopes} → taken_in x.scopes.env m x.scopes.count ≡ false → p ≡ push_name s m d x.scopes
        → record { scopes = p; store = x.store; refusal = x.refusal } ≡ step_state O s (bring i m d) x
    unfolding check_event step_scopes
    bring_new t h = stepped O s (bring i m d) x z (rw (e, t)) h (sym (store_bring O s x.scopes x.store i m d))

-- What import i brings: a name with its meaning; row k as an export under its own name; the name that row k lists, as unit u sees it.
abbrev pub brought : ℕ → Named → Event
brought i y = bring i y.name y.means

abbrev pub brought_row : Sheet → ℕ → ℕ → Event
brought_row s i k = bring i (a s k) (export_of s k)

abbrev pub brought_listed : Sheet → ℕ → ℕ → ℕ → Event
brought_listed s u i k = bring i (a s k) (first (λ y. eqb y.name (a s k)) (named 0 nothing) (seen s u i)).means

-- The events of row k of a child list: as an export of kind j, as a listed name, as an import.
abbrev pub of_kind : Sheet → ℕ → ℕ → ℕ → List Event
of_kind s j i k = when is s j k then brought_row s i k ∷ [] else []

abbrev pub of_listed : Sheet → ℕ → ℕ → ℕ → List Event
of_listed s u i k = brought_listed s u i k ∷ []

abbrev pub of_import : Sheet → ℕ → ℕ → List Event
of_import s u k = when is s 3 k then imports s u k else []

-- the row by its kind h
module _ (O : Outside) (s : Sheet) (k : ℕ) (x : State) {h : ℕ} (e : h ≡ kind s k) where
  module _ (j i : ℕ) where
    pub kind_no : (h ≡ j → ⊥) → x ≡ run_state O s (of_kind s j i k) x
    unfolding run_state
    kind_no f = rw (← e, ne_eqb h j f)

    pub kind_yes : {m : ℕ} {y : State} → h ≡ j → m ≡ a s k → y ≡ step_state O s (bring i m (export_of s k)) x → y ≡ run_state O s (of_kind s j i k) x
    kind_yes f g l =
        run_one O s (brought_row s i k) x (l ∙ ap (λ (n : ℕ). step_state O s (bring i n (export_of s k)) x) g)
        ∙ ap (λ (t : Bool). run_state O s (when t then brought_row s i k ∷ [] else []) x) (sym (eq-eqb (kind s k) j (sym e ∙ f)))

  module _ (u : ℕ) where
    pub import_no : (h ≡ 3 → ⊥) → x ≡ run_state O s (of_import s u k) x
    unfolding run_state
    import_no f = rw (← e, ne_eqb h 3 f)

    pub import_yes : {y : State} → h ≡ 3 → y ≡ run_state O s (imports s u k) x → y ≡ run_state O s (of_import s u k) x
    import_yes f g = rw (← e, eq-eqb h 3 f) g

-- the row as a listed name m that is found to mean d
pub listed_as : (O : Outside) (s : Sheet) (u i k : ℕ) (x : State) (m : ℕ) (d : Meaning) {y : State} → m ≡ a s k → d ≡ (first (λ y. eqb y.name m) (named 0 nothing) (seen s u i)).means
    → y ≡ step_state O s (bring i m d) x → y ≡ run_state O s (of_listed s u i k) x
listed_as O s u i k x m d e f h =
    run_one O s (brought_listed s u i k) x
    (h ∙ ap (λ (d : Meaning). step_state O s (bring i m d) x) f ∙ ap (λ (n : ℕ). step_state O s (bring i n (first (λ y. eqb y.name n) (named 0 nothing) (seen s u i)).means) x) e)

map_each : {A : Type 0} (g : ℕ → A) (xs : List ℕ) → map g xs ≡ concat_map (λ k. g k ∷ []) xs
map_each g [] = refl
map_each {A} g (x ∷ xs) = ap (λ (l : List A). g x ∷ l) (map_each g xs)

-- the events of all rows of a child list, from its first row k on
module _ (O : Outside) (s : Sheet) (k : ℕ) (x : State) where
  pub kind_start : (j i u : ℕ) → k ≡ child s u → run_state O s (concat_map (of_kind s j i) (chain (rows s) s k)) x ≡ run_state O s (map (brought_row s i) (kids_of s j u)) x
  kind_start j i u e =
      ap (λ (k : ℕ). run_state O s (concat_map (of_kind s j i) (chain (rows s) s k)) x) e
      ∙ ap (λ (es : List Event). run_state O s es x) (sym (map_filter (brought_row s i) (is s j) (kids s u)))

  pub listed_start : (u i : ℕ) → k ≡ child s i → run_state O s (concat_map (of_listed s u i) (chain (rows s) s k)) x ≡ run_state O s (map (brought_listed s u i) (kids s i)) x
  listed_start u i e =
      ap (λ (k : ℕ). run_state O s (concat_map (of_listed s u i) (chain (rows s) s k)) x) e
      ∙ ap (λ (es : List Event). run_state O s es x) (sym (map_each (brought_listed s u i) (kids s i)))

  pub imports_start : (u : ℕ) → k ≡ child s u → run_state O s (concat_map (of_import s u) (chain (rows s) s k)) x ≡ run_state O s (concat_map (imports s u) (kids_of s 3 u)) x
  imports_start u e =
      ap (λ (k : ℕ). run_state O s (concat_map (of_import s u) (chain (rows s) s k)) x) e
      ∙ ap (λ (es : List Event). run_state O s es x) (sym (concat_filter (imports s u) (is s 3) (kids s u)))

-- All exports of a unit.
module _ (O : Outside) (s : Sheet) (i : ℕ) where
  -- exports of kind j, where g says what a row of that kind is exported as
  module _ (j : ℕ) (g : ℕ → Meaning) (same : (k : ℕ) → (k ≡ 0 → ⊥) → kind s k ≡ j → export_of s k ≡ g k) where
    kind_chain : (n k : ℕ) → map (brought_row s i) (filter (is s j) (chain n s k)) ≡ map (brought i) (map (λ r. named (a s r) (g r)) (filter (is s j) (chain n s k)))
    kind_chain zero k = refl
    kind_chain (suc n) zero = refl
    kind_chain (suc n) (suc k) = go (is s j (suc k)) refl (filter (is s j) (chain n s (next s (suc k)))) (kind_chain n (next s (suc k)))
      where
        go : (t : Bool) → is s j (suc k) ≡ t → (ks : List ℕ) → map (brought_row s i) ks ≡ map (brought i) (map (λ r. named (a s r) (g r)) ks)
            → map (brought_row s i) (when t then suc k ∷ ks else ks) ≡ map (brought i) (map (λ r. named (a s r) (g r)) (when t then suc k ∷ ks else ks))
        go true e ks h = rw (same (suc k) (λ z. omega arith) (eqb-true (kind s (suc k)) j e), h)
        go false e ks h = h

    kind_exports : (u : ℕ) → map (brought_row s i) (kids_of s j u) ≡ map (brought i) (map (λ r. named (a s r) (g r)) (kids_of s j u))
    kind_exports u = kind_chain (rows s) (child s u)

  map_append : (xs ys : List Named) → map (brought i) (xs ++ ys) ≡ map (brought i) xs ++ map (brought i) ys
  map_append [] ys = refl
  map_append (x ∷ xs) ys = rw (map_append xs ys)

  module _ (u : ℕ) where
    abbrev functions : List Named
    functions = map (λ r. named (a s r) (function (b s r))) (kids_of s 7 u)

    abbrev classes : List Named
    classes = map (λ r. named (a s r) (class (256 + r))) (kids_of s 4 u)

    abbrev constants : List Named
    constants = map (λ r. named (a s r) (global (b s r) 0)) (kids_of s 8 u)

    pub all_brought : (x : State) {y z w : State} → y ≡ run_state O s (map (brought_row s i) (kids_of s 7 u)) x → z ≡ run_state O s (map (brought_row s i) (kids_of s 4 u)) y
        → w ≡ run_state O s (map (brought_row s i) (kids_of s 8 u)) z → w ≡ run_state O s (map (brought i) (exports s u)) x
    all_brought x {y} {z} e f g =
        run_both O s (map (brought i) functions ++ map (brought i) classes) (map (brought i) constants) x
        (run_both O s (map (brought i) functions) (map (brought i) classes) x
        (e ∙ ap (λ (es : List Event). run_state O s es x) (kind_exports 7 (λ k. function (b s k)) (export_function s) u))
        (f ∙ ap (λ (es : List Event). run_state O s es y) (kind_exports 4 (λ k. class (256 + k)) (export_class s) u)))
        (g ∙ ap (λ (es : List Event). run_state O s es z) (kind_exports 8 (λ k. global (b s k) 0) (export_constant s) u))
        ∙ ap (λ (es : List Event). run_state O s es x) (sym (map_append (functions ++ classes) constants ∙ ap (λ (es : List Event). es ++ map (brought i) constants) (map_append functions classes)))

-- An import of unit u: what it sees, if it says so, then what it lists.
abbrev pub of_seen : Sheet → ℕ → ℕ → List Event
of_seen s u i = when eqb (b s i) 1 then map (brought i) (seen s u i) else []

pub seen_listed : (O : Outside) (s : Sheet) (u i : ℕ) (x : State) {y z : State} → y ≡ run_state O s (of_seen s u i) x
    → z ≡ run_state O s (map (brought_listed s u i) (kids s i)) y → z ≡ run_state O s (imports s u i) x
seen_listed O s u i x e f = run_both O s (of_seen s u i) (map (brought_listed s u i) (kids s i)) x e f

-- what it sees; m is its column b, n the unit that it names
module _ (O : Outside) (s : Sheet) (u i : ℕ) (x : State) (m : ℕ) (e : m ≡ b s i) where
  pub seen_unasked : (m ≡ 1 → ⊥) → x ≡ run_state O s (of_seen s u i) x
  unfolding run_state
  seen_unasked f = rw (ne_eqb (b s i) 1 (λ h. f (e ∙ h)))

  module _ (f : m ≡ 1) (n : ℕ) (g : n ≡ a s i) where
    pub seen_itself : n ≡ u → x ≡ run_state O s (of_seen s u i) x
    unfolding run_state
    seen_itself h = rw (← e, f, ← g, eq-eqb n u h)

    pub seen_unit : {y : State} → (n ≡ u → ⊥) → y ≡ run_state O s (map (brought i) (exports s n)) x → y ≡ run_state O s (of_seen s u i) x
    seen_unit h k = rw (← e, f, ← g, ne_eqb n u h) k

-- A step of a loop over the rows of sheet s, made over the same sheet t.
module _ (O : Outside) {s t : Sheet} (same : t ≡ s) (k : ℕ) (x : State) {y : State} where
  pub row_brought : (i : ℕ) {m : ℕ} → m ≡ a t k → y ≡ step_state O t (bring i m (export_of t k)) x → y ≡ run_state O s (brought_row s i k ∷ []) x
  row_brought i e h =
      run_one O s (brought_row s i k) x
      (h ∙ ap (λ (n : ℕ). step_state O t (bring i n (export_of t k)) x) e ∙ ap (λ (v : Sheet). step_state O v (brought_row v i k) x) same)

  pub listed_brought : (u i : ℕ) {m : ℕ} {d : Meaning} → m ≡ a t k → d ≡ (first (λ n. eqb n.name m) (named 0 nothing) (seen t u i)).means → y ≡ step_state O t (bring i m d) x
      → y ≡ run_state O s (brought_listed s u i k ∷ []) x
  listed_brought u i {m} {d} e g h = listed_as O t u i k x m d e g h ∙ ap (λ (v : Sheet). run_state O v (brought_listed v u i k ∷ []) x) same

  pub import_brought : (u : ℕ) → y ≡ run_state O t (imports t u k) x → y ≡ run_state O s (imports s u k) x
  import_brought u h = h ∙ ap (λ (v : Sheet). run_state O v (imports v u k) x) same
