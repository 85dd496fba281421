-- What question 3 says of a sheet that fits, as facts.
use mathlib.Core.Path.{◌≡◌}
use mathlib.Core.Logic.{◌⊎◌, inl, inr}
use mathlib.Core.List.{List}
use mathlib.Core.Bool.{Bool, true, ◌&&◌}
use Prim.Native.Nat.{ℕ, ◌<◌}
use native.Mathlib.Omega.{arith}
use lib.ListN.{get_or}
use lib.Dec.{eqb, ltb, T, eqb→eq, ltb→lt}
use Rattle.definition.specs.Basics.{every, all, count, from}
use Rattle.definition.specs.Sheet.{Sheet, kind, next, child, rows, is}
use Rattle.definition.specs.Format.{Tables, tables, links, header_first, main_marked, links_rise, link_rises}
use Rattle.definition.specs.Format.{linked_once, children_fit, columns_fit, file_fits, constant_fits, unit_apart}
use Rattle.definition.specs.Format.{class_apart, unit_marked, unit_body, method_named, literal_class, declared_once}
use Rattle.definition.specs.Format.{declared_in_unit, declared_after, row_clauses, sheet_fits}
use Rattle.definition.proofs.Lists.Tests.{T_and, or_cases, T_true, pick}
use Rattle.definition.proofs.Lists.Counts.{all_below}
use Rattle.definition.proofs.Format.Links.{Rises, LinkFacts}

-- The clauses of row r.
pub record RowFacts (s : Sheet) (t : Tables) (ls : List ℕ) (n r : ℕ) : Type 0 where
  pub rise : T (links_rise s r)
  pub once : T (linked_once ls r)
  pub children : T (children_fit s r)
  pub columns : T (columns_fit s n r)
  pub files : T (file_fits s r)
  pub constant : T (constant_fits s r)
  pub unit_apart_lem : T (unit_apart s r)
  pub class_apart_lem : T (class_apart s r)
  pub marked : T (unit_marked s t r)
  pub body : T (unit_body s t r)
  pub named : T (method_named s t r)
  pub literal : T (literal_class s t r)
  pub declared : T (declared_once s r)
  pub in_unit : T (declared_in_unit s t r)
  pub after : T (declared_after s t r)

row_facts : (s : Sheet) (t : Tables) (ls : List ℕ) (n r : ℕ) → T (every (row_clauses s t ls n r)) → RowFacts s t ls n r
row_facts s t ls n r h =
    let fact : (i : ℕ) → T (get_or (row_clauses s t ls n r) i true) = pick (row_clauses s t ls n r) h in
    record {
      rise = fact 0;
      once = fact 1;
      children = fact 2;
      columns = fact 3;
      files = fact 4;
      constant = fact 5;
      unit_apart_lem = fact 6;
      class_apart_lem = fact 7;
      marked = fact 8;
      body = fact 9;
      named = fact 10;
      literal = fact 11;
      declared = fact 12;
      in_unit = fact 13;
      after = fact 14;
    }

-- A sheet that fits.
pub record SheetFacts (n : ℕ) (s : Sheet) : Type 0 where
  pub header : T (header_first s)
  pub main : T (main_marked s)
  pub row : (r : ℕ) → r < rows s → RowFacts s (tables s) (links s) n r

pub sheet_facts : (n : ℕ) (s : Sheet) → T (sheet_fits n s) → SheetFacts n s
sheet_facts n s h =
    let test : ℕ → Bool = λ r. every (row_clauses s (tables s) (links s) n r) in
    let h1 = T_and (header_first s && main_marked s) (all test (from 0 (rows s))) h in
    let h0 = T_and (header_first s) (main_marked s) h1.0 in
    record {
      header = h0.0;
      main = h0.1;
      row = λ r l. row_facts s (tables s) (links s) n r (all_below test (rows s) h1.1 r l);
    }

pub facts : (n : ℕ) (s : Sheet) → sheet_fits n s ≡ true → SheetFacts n s
facts n s e = sheet_facts n s (T_true (sheet_fits n s) e)

pub link_rises_lem : (s : Sheet) (r l : ℕ) → T (link_rises s r l) → Rises s r l
link_rises_lem s r l h = go (or_cases (eqb l 0) (ltb r l && ltb l (rows s)) h)
  where
    go : T (eqb l 0) ⊎ T (ltb r l && ltb l (rows s)) → Rises s r l
    go (inl t) = inl (eqb→eq l 0 t)
    go (inr t) =
        let q = T_and (ltb r l) (ltb l (rows s)) t in
        inr (ltb→lt r l q.0, ltb→lt l (rows s) q.1)

module _ (n : ℕ) (s : Sheet) (ok : SheetFacts n s) where
  pub header_next : next s 0 ≡ 0
  header_next = eqb→eq (next s 0) 0 (T_and (is s 0 0) (eqb (next s 0) 0) ok.header).1

  pub header_kind : kind s 0 ≡ 0
  header_kind = eqb→eq (kind s 0) 0 (T_and (is s 0 0) (eqb (next s 0) 0) ok.header).0

  -- links go to higher rows
  pub next_rises : (r : ℕ) → r < rows s → Rises s r (next s r)
  next_rises r l = link_rises_lem s r (next s r) (T_and (link_rises s r (next s r)) (link_rises s r (child s r)) (ok.row r l).rise).0

  pub child_rises : (r : ℕ) → r < rows s → Rises s r (child s r)
  child_rises r l = link_rises_lem s r (child s r) (T_and (link_rises s r (next s r)) (link_rises s r (child s r)) (ok.row r l).rise).1

  -- every row but 0 is linked exactly once
  pub linked_once_lem : (r : ℕ) → 0 < r → r < rows s → count (eqb r) (links s) ≡ 1
  linked_once_lem r p l = go (or_cases (eqb r 0) (eqb (count (eqb r) (links s)) 1) (ok.row r l).once)
    where
      go : T (eqb r 0) ⊎ T (eqb (count (eqb r) (links s)) 1) → count (eqb r) (links s) ≡ 1
      go (inl t) = absurd (omega (arith, eqb→eq r 0 t))
      go (inr t) = eqb→eq (count (eqb r) (links s)) 1 t

  pub link_facts : LinkFacts s
  link_facts = record { header_next = header_next; nexts = next_rises; children = child_rises; once = linked_once_lem }
