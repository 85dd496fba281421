-- What the answer rows rest on.
use Rattle.std.specs.Prelude.{◌≡◌, List, ℕ, ◌+◌, ◌≤◌, length, T}
use Rattle.definition.specs.Sheet.{Sheet, rows, is}
use Rattle.classes.specs.Table.{Clear}
use Rattle.after.specs.Inherited.{fields_in, method_names_in}
use Rattle.after.specs.Rows.{class_rows_in, class_rows_named}
use Rattle.store.specs.declared.nodes.Store.{Store}
use Rattle.fun_rows.specs.Literals.{LiteralChains}
use Rattle.class_names.specs.Names.{ParentMarks}
use Rattle.class_names.specs.Read.{outside_in, store_in}
use Rattle.class_names.specs.declared.tables.Tables.{Tables}
use Rattle.answer_rows.specs.declared.Links.{Links}

-- Scratch space with a word for each row: chains of literals, marks of parents. The chains' second part need not be clear.
pub record Scratch (s : Sheet) (hs ns ps : List ℕ) : Type 0 where
  pub for_first : rows s ≤ length hs
  pub for_next : rows s ≤ length ns
  pub for_children : rows s ≤ length ps
  pub clear_first : Clear hs
  pub clear_children : Clear ps

-- Classes have few enough fields, whatever the counters of the store say.
abbrev pub FewFields : Tables → Type 0
FewFields t = (r : ℕ) → T (is t.sheet.now 4 r) → (x : Store) → length (fields_in (outside_in t) t.sheet.now (store_in t x) (rows t.sheet.now) (256 + r)) ≤ 4294967295

-- Tables with the chains of the literals and the marks of the parents of their sheet: classes told by method names are told as the
-- definition tells them, and have few enough fields and methods.
pub record RowsReady (t : Tables) (links : Links) : Type 0 where
  pub small : length t.sheet.now ≤ 16384
  pub chains : LiteralChains t.sheet.now t.results.now links.literals.first.now links.literals.after.now
  pub marked : ParentMarks t.sheet.now t.results.now links.subclassed.now
  pub named : (r : ℕ) → (x : Store) → class_rows_named (outside_in t) t.sheet.now (store_in t x) r ≡ class_rows_in (outside_in t) t.sheet.now (store_in t x) r
  pub fields : FewFields t
  pub methods : (r : ℕ) → T (is t.sheet.now 4 r) → (x : Store) → length (method_names_in (outside_in t) t.sheet.now (store_in t x) (rows t.sheet.now) (256 + r)) ≤ 4294967295
