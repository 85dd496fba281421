-- What the answer rows need to know of the store, from the walk.
use mathlib.Core.Path.{◌≡◌, refl, sym, ap, ◌∙◌}
use mathlib.Core.List.{List, [], ◌∷◌, ◌++◌, map}
use Prim.Native.Nat.{ℕ, zero, suc, ◌+◌}
use native.Mathlib.Omega.{arith}
use lib.ListN.{length, length-map}
use Rattle.definition.specs.Basics.{bit}
use Rattle.definition.specs.Sheet.{Sheet, rows}
use Rattle.definition.specs.Outside.{Outside, Method}
use Rattle.definition.specs.Scope.{history}
use Rattle.definition.specs.Classes.{method_named, fields}
use Rattle.definition.specs.Answer.{numbered}
use Rattle.machine.specs.Machine.{Store as Stored, list_at}
use Rattle.machine.specs.Reads.{PastFour, StoreReads}
use Rattle.after.specs.Inherited.{parent_in, own_fields_in, fields_in, methods_in, method_names_in, has_children_in}
use Rattle.after.specs.Rows.{class_rows_in, class_rows_named}
use Rattle.after.proofs.Fields.{fields_same}
use Rattle.after.proofs.Names.{methods_by_name, method_by}
use Rattle.after.proofs.Sizes.{fields_few, methods_few}
use Rattle.store.specs.declared.nodes.Store.{Store}
use Rattle.fun_rows.specs.Literals.{LiteralChains}
use Rattle.class_names.specs.Names.{ParentMarks}
use Rattle.class_names.specs.Read.{outside_in, store_in}
use Rattle.class_names.specs.declared.tables.Tables.{Tables}
use Rattle.answer_rows.specs.declared.Links.{Links}
use Rattle.answer_rows.specs.Ready.{FewFields, RowsReady}
use Rattle.answer_rows.proofs.ScratchLaws.{small_sheet}

-- fields do not depend on the counters
same_fields : (O : Outside) (s : Sheet) (u c u' c' : ℕ) (t q : List ℕ) (n d : ℕ)
    → fields_in O s (record { used = u; calls = c; table = t; nodes = q }) n d ≡ fields_in O s (record { used = u'; calls = c'; table = t; nodes = q }) n d
unfolding fields_in own_fields_in parent_in list_at
same_fields O s u c u' c' t q zero d = refl
same_fields O s u c u' c' t q (suc n) d = rw (same_fields O s u c u' c' t q n (parent_in s (record { used = u; calls = c; table = t; nodes = q }) d))

-- rows of methods by name
rows_by_name : (ms : List Method) (ns : List ℕ) → map {A = Method} (λ m. 24 ∷ m.name ∷ m.fun ∷ []) (map (method_by ms) ns) ≡ map (λ n. 24 ∷ n ∷ method_named n ms ∷ []) ns
rows_by_name ms [] = refl
rows_by_name ms (n ∷ ns) = ap (λ (l : List (List ℕ)). (24 ∷ n ∷ method_named n ms ∷ []) ∷ l) (rows_by_name ms ns)

module _ {O : Outside} {s : Sheet} (ok : PastFour O s) where
  classes_named : (o : Stored) (r : ℕ) → class_rows_named O s o r ≡ class_rows_in O s o r
  unfolding class_rows_named class_rows_in
  classes_named o r = ap (λ (l : ℕ). rows_with l (map named ns)) count ∙ ap (rows_with (length ms)) listed
    where
      ns : List ℕ
      ns = method_names_in O s o (rows s) (256 + r)

      ms : List Method
      ms = methods_in O s o (rows s) (256 + r)

      named : ℕ → List ℕ
      named n = 24 ∷ n ∷ method_named n ms ∷ []

      e : ms ≡ map (method_by ms) ns
      e = methods_by_name ok o (rows s) (256 + r)

      count : length ns ≡ length ms
      count = sym (ap length e ∙ length-map ns (method_by ms))

      listed : map named ns ≡ map (λ m. 24 ∷ m.name ∷ m.fun ∷ []) ms
      listed = sym (ap (map (λ m. 24 ∷ m.name ∷ m.fun ∷ [])) e ∙ rows_by_name ms ns)

      rows_with : ℕ → List (List ℕ) → List (List ℕ)
      rows_with l rs =
          (22 ∷ parent_in s o (256 + r) ∷ bit (has_children_in s o (256 + r)) ∷ length (fields_in O s o (rows s) (256 + r)) ∷ l ∷ []) ∷ numbered 0 (fields_in O s o (rows s) (256 + r)) ++ rs

-- Of tables past the first four questions, whose store the walk left, with counters o.
module _ (tables : Tables) (ok : PastFour (outside_in tables) tables.sheet.now) where
  pub few_fields : (o : Store) → StoreReads (outside_in tables) tables.sheet.now (store_in tables o) → FewFields tables
  few_fields o k r t x =
      let O = outside_in tables in
      let s : Sheet = tables.sheet.now in
      let e : fields_in O s (store_in tables x) (rows s) (256 + r) ≡ fields O s (history O s) (rows s) (256 + r) =
      same_fields O s x.used x.calls o.used o.calls tables.results.now tables.nodes.now (rows s) (256 + r) ∙ sym (fields_same ok k (rows s) (256 + r)) in
      omega (arith, ap length e, fields_few ok (256 + r))

  pub rows_ready : {links : Links} → FewFields tables → LiteralChains tables.sheet.now tables.results.now links.literals.first.now links.literals.after.now
      → ParentMarks tables.sheet.now tables.results.now links.subclassed.now → RowsReady tables links
  rows_ready f c p =
      record {
        small = small_sheet ok;
        chains = c;
        marked = p;
        named = λ r x. classes_named ok (store_in tables x) r;
        fields = f;
        methods = λ r i x. omega (arith, methods_few ok (store_in tables x) (256 + r));
      }
