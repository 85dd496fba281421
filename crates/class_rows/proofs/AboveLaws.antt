-- What stands above a class: the rows of its parent, as the table of places tells.
use Rattle.ast.specs.Kind.{kind_number}
use mathlib.Core.Path.{◌≡◌, refl, sym, ap, subst, ◌∙◌}
use mathlib.Core.Bool.{Bool, true, false, not, ◌&&◌, ◌||◌}
use mathlib.Core.List.{List, map}
use Prim.Native.Nat.{ℕ, zero, suc, ◌+◌, ◌-◌, ◌/◌, ◌<◌, ◌≤◌}
use native.Mathlib.Omega.{arith}
use lib.Dec.{T, eqb, leb, ltb}
use lib.ListN.{length, get_or}
use borrow.Author.Tests.{ne_eqb, ltb-true, le-leb, leb-true}
use Rattle.definition.specs.Basics.{when◌then◌else◌}
use Rattle.definition.specs.Sheet.{Sheet, rows}
use Rattle.definition.specs.Outside.{Outside, Method}
use Rattle.definition.specs.Classes.{of_sheet, method_named}
use Rattle.machine.specs.Machine.{Store as Stored}
use Rattle.after.specs.Inherited.{parent_in, methods_in}
use Rattle.sink.specs.Sink.{sink, emit_all}
use Rattle.store.specs.declared.nodes.Store.{Store}
use Rattle.class_names.specs.Names.{names_in}
use Rattle.name_rows.specs.Put.{Wants}
use Rattle.class_names.specs.Read.{outside_in, store_in}
use Rattle.class_names.specs.declared.tables.Tables.{Tables}
use Rattle.class_rows.specs.Places.{function_in, name_column, Stands, Placed, place_of, above_of, Shows, Shown, Counted}
use Rattle.class_rows.specs.declared.places.Above.{Above}
use Rattle.name_rows.specs.declared.put.Wanted.{Wanted}
use Rattle.name_rows.proofs.KeptLaws.{Kept, all_kept}
use Rattle.class_rows.proofs.ColumnLaws.{column_length, column_kept}
use Rattle.class_rows.proofs.StableLaws.{Steady, names_outside, methods_outside, names_below_lem, methods_below}

-- The entry of class c in the table, and where the names of a class of entry `at` stand.
module _ (places : List ℕ) (c : ℕ) where
  pub place_here : 256 ≤ c → get_or places (c - 256) 0 ≡ place_of places c
  unfolding place_of
  place_here l = rw (le-leb 256 c l)

-- The parent p of the class of row r, and its entry.
module _ {tables : Tables} {places w : List ℕ} {r k : ℕ} (h : Placed tables places w r k)
    (l : r < rows tables.sheet.now) {p at : ℕ} (e : (o : Store) → p ≡ parent_in tables.sheet.now (store_in tables o) (256 + r))
    (f : at ≡ place_of places p) where
  abbrev O : Outside
  O = outside_in tables

  abbrev s : Sheet
  s = tables.sheet.now

  found : (i : ℕ) → at ≡ suc i → (256 ≤ p) × (get_or places (p - 256) 0 ≡ suc i)
  unfolding place_of
  found i z = go (leb 256 p) refl (sym f ∙ z)
    where
      go : (u : Bool) → leb 256 p ≡ u → (when u then get_or places (p - 256) 0 else 0) ≡ suc i → (256 ≤ p) × (get_or places (p - 256) 0 ≡ suc i)
      go true b g = (leb-true 256 p b, g)
      go false b g = absurd (omega arith)

  parent_stands : (i : ℕ) → at ≡ suc i → (o : Store) → Stands O s (store_in tables o) w k (p - 256) i
  parent_stands i z o = (h.told (p - 256) i (found i z).1).1 o

  -- the names of the parent, with one class less to climb
  parent_names : (i : ℕ) → at ≡ suc i → (o : Store) (j : ℕ)
      → names_in O s (store_in tables o) j (rows s) (256 + (p - 256))
      ≡ names_in O s (store_in tables o) j (rows s - 1) (parent_in s (store_in tables o) (256 + r))
  parent_names i z o j =
      let b : 256 + (p - 256) ≡ p = omega (arith, (found i z).0) in
      sym ((parent_stands i z o).stable j (rows s - 1) (omega (arith, (h.told (p - 256) i (found i z).1).0)))
      ∙ ap (names_in O s (store_in tables o) j (rows s - 1)) (b ∙ e o)

  parent_functions : (i : ℕ) → at ≡ suc i → (o : Store)
      → map (function_in O s (store_in tables o) (rows s) (256 + (p - 256))) (names_in O s (store_in tables o) 6 (rows s) (256 + (p - 256)))
      ≡ map (function_in O s (store_in tables o) (rows s - 1) (parent_in s (store_in tables o) (256 + r))) (names_in O s (store_in tables o) 6 (rows s - 1) (parent_in s (store_in tables o) (256 + r)))
  parent_functions i z o =
      let b : 256 + (p - 256) ≡ p = omega (arith, (found i z).0) in
      ap (λ (ms : List Method). map (λ (m : ℕ). method_named m ms) (names_in O s (store_in tables o) 6 (rows s) (256 + (p - 256))))
      (sym ((parent_stands i z o).stable_methods (rows s - 1) (omega (arith, (h.told (p - 256) i (found i z).1).0))) ∙ ap (methods_in O s (store_in tables o) (rows s - 1)) (b ∙ e o))
      ∙ ap (map (function_in O s (store_in tables o) (rows s - 1) (parent_in s (store_in tables o) (256 + r)))) (parent_names i z o 6)

  pub entry_fits_lem : at ≤ length w / 8
  entry_fits_lem = go at refl
    where
      go : (x : ℕ) → at ≡ x → x ≤ length w / 8
      go zero z = omega arith
      go (suc i) z = omega (arith, (parent_stands i z (record { used = 0; calls = 0 })).within)

  fields_above : (i : ℕ) → at ≡ suc i → (o : Store) → Shows O s (store_in tables o) 10 (256 + r) w k (above_of w (suc i) 10)
  unfolding above_of
  fields_above i z o =
      let st = parent_stands i z o in
      let b : suc i - 1 ≡ i = omega arith in
      rw (ne_eqb (suc i) 0 (λ g. omega arith), b, st.fields) record {
        below = omega (arith, st.below);
        within = omega (arith, st.within);
        parent = λ g. omega (arith, (found i z).0, e o);
        names = st.field_names ∙ parent_names i z o 10;
        functions = λ g. absurd (g refl);
      }

  methods_above : (i : ℕ) → at ≡ suc i → (o : Store) → Shows O s (store_in tables o) 6 (256 + r) w k (above_of w (suc i) 6)
  unfolding above_of
  methods_above i z o =
      let st = parent_stands i z o in
      let b : suc i - 1 ≡ i = omega arith in
      rw (ne_eqb (suc i) 0 (λ g. omega arith), b, st.fields, st.methods) record {
        below = omega (arith, st.below);
        within = omega (arith, st.within);
        parent = λ g. omega (arith, (found i z).0, e o);
        names = st.method_names ∙ parent_names i z o 6;
        functions = λ g. st.functions ∙ parent_functions i z o;
      }

  shown_by : (j : ℕ) → ((i : ℕ) → at ≡ suc i → (o : Store) → Shows O s (store_in tables o) j (256 + r) w k (above_of w (suc i) j)) → Shown tables j (256 + r) w k (above_of w at j)
  unfolding above_of
  shown_by j g n o = go at refl n
    where
      go : (x : ℕ) → at ≡ x → ((above_of w x j).row ≡ 0 → ⊥) → Shows O s (store_in tables o) j (256 + r) w k (above_of w x j)
      go zero z m = absurd (m refl)
      go (suc i) z m = g i z o

  pub fields_shown : {a : Above} → a ≡ above_of w at 10 → Shown tables 10 (256 + r) w k a
  fields_shown g = subst (Shown tables 10 (256 + r) w k) (sym g) (shown_by 10 fields_above)

  pub methods_shown : {a : Above} → a ≡ above_of w at 6 → Shown tables 6 (256 + r) w k a
  methods_shown g = subst (Shown tables 6 (256 + r) w k) (sym g) (shown_by 6 methods_above)

  -- the line of parents ends
  parent_below : (i : ℕ) → at ≡ suc i → (p - 256 < r) × ((o : Store) → parent_in s (store_in tables o) (256 + r) ≡ 256 + (p - 256))
  parent_below i z = ((h.told (p - 256) i (found i z).1).0, λ o. omega (arith, e o, (found i z).0))

  pub line_steady : true ≡ (not (eqb at 0) || (not (of_sheet s p) && ltb 0 r)) → (o : Store)
      → ((j : ℕ) → Steady O s (store_in tables o) (names_in O s (store_in tables o) j) r) × Steady O s (store_in tables o) (methods_in O s (store_in tables o)) r
  line_steady g o = go at refl g
    where
      st : Stored
      st = store_in tables o

      outside : (u v : Bool) → of_sheet s p ≡ u → ltb 0 r ≡ v → true ≡ (not u && v) → ((j : ℕ) → Steady O s st (names_in O s st j) r) × Steady O s st (methods_in O s st) r
      outside false true b c d =
          let none : of_sheet s (parent_in s st (256 + r)) ≡ false = ap (of_sheet s) (sym (e o)) ∙ b in
          (names_outside O s st r l (ltb-true 0 r c) none, methods_outside O s st r l (ltb-true 0 r c) none)
      outside false false b c d = absurd (subst T d tt)
      outside true v b c d = absurd (subst T d tt)

      go : (x : ℕ) → at ≡ x → true ≡ (not (eqb x 0) || (not (of_sheet s p) && ltb 0 r)) → ((j : ℕ) → Steady O s st (names_in O s st j) r) × Steady O s st (methods_in O s st) r
      go zero z d = outside (of_sheet s p) (ltb 0 r) refl refl d
      go (suc i) z d = (
        λ j. names_below_lem O s st r l (p - 256) (parent_below i z).0 ((parent_below i z).1 o) j ((parent_stands i z o).stable j),
        methods_below O s st r l (p - 256) (parent_below i z).0 ((parent_below i z).1 o) (parent_stands i z o).stable_methods,
      )

-- The names above stay, and are as many as told.
pub shown_kept : (tables : Tables) {j c : ℕ} {w y : List ℕ} {k n : ℕ} {a : Above} (rs : List (List ℕ))
    → sink n y ≡ emit_all rs (sink k w) → Shown tables j c w k a → Shown tables j c y n a
shown_kept tables {j = j} {w = w} {y = y} {k = k} {n = n} {a = a} rs e h f o =
    record {
      below = m.below;
      within = omega (arith, (h f o).within, m.lengths);
      parent = (h f o).parent;
      names = column_kept (name_column j) a.row a.count m (narrow (eqb j 10)) (omega arith) ∙ (h f o).names;
      functions = λ g. column_kept 3 a.row a.count m (omega arith) (omega arith) ∙ (h f o).functions g;
    }
  where
    narrow : (t : Bool) → (when t then 3 else 2) < 8
    narrow true = omega arith
    narrow false = omega arith

    m : Kept (a.row + a.count) (sink k w) (sink n y)
    m = subst (Kept (a.row + a.count) (sink k w)) (sym e) (all_kept (a.row + a.count) rs (sink k w) (h f o).below (h f o).within)

pub shown_counted : (tables : Tables) {j c : ℕ} {w : List ℕ} {k : ℕ} {a : Above} → Shown tables j c w k a → Counted tables j c a
shown_counted tables {j = j} {w = w} {a = a} h f o = ((h f o).parent, sym (column_length w (name_column j) a.row a.count) ∙ ap length (h f o).names)

-- The same of what is wanted of the class of row r.
module _ (tables : Tables) {r j : ℕ} {u : Wanted} (h : Wants r j u) where
  pub shown_wanted : {w : List ℕ} {k : ℕ} {a : Above} → Shown tables j (256 + r) w k a → Shown tables (kind_number u.kind) u.class.0 w k a
  shown_wanted g = rw (h.kind_is, h.class_is) g

  pub counted_wanted : {a : Above} → Counted tables j (256 + r) a → Counted tables (kind_number u.kind) u.class.0 a
  counted_wanted g = rw (h.kind_is, h.class_is) g
