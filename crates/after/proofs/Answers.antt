-- The answer rows, read off what is stored.
use mathlib.Core.Path.{◌≡◌, refl, ap, ◌∙◌}
use mathlib.Core.List.Memᴰ.{head as here}
use mathlib.Core.List.Memᴰ.{tail as there}
use mathlib.Core.List.{List, [], ◌∷◌, ◌++◌, map, Memᴰ as Mem}
use mathlib.Core.Bool.{Bool, true, false, ◌||◌}
use Prim.Native.Nat.{ℕ, ◌+◌, ◌<◌}
use native.Mathlib.Omega.{arith}
use lib.ListN.{length}
use lib.Dec.{eqb, T}
use Rattle.definition.specs.Basics.{when◌then◌else◌, bit, concat_map, from}
use Rattle.definition.specs.Sheet.{Sheet, kind, rows, is}
use Rattle.definition.specs.Outside.{Outside, Method}
use Rattle.definition.specs.Scope.{Moment, history}
use Rattle.definition.specs.Classes.{fields, methods, has_children}
use Rattle.definition.specs.Answer.{eight, let_row, identifier_row, host_row, instance_row, member_row, literal_rows, function_rows, numbered, class_rows, rows_of, answers}
use Rattle.definition.proofs.Lists.Tests.{kind_apart}
use Rattle.definition.proofs.Lists.Members.{from_mem}
use Rattle.machine.specs.Machine.{Store, cell}
use Rattle.machine.specs.Reads.{StoreReads, PastFour, answer_row, identifier_answer, row_words}
use Rattle.after.specs.Inherited.{parent_in, fields_in, has_children_in}
use Rattle.after.specs.Rows.{literal_rows_in, function_rows_in, class_rows_in, rows_in, answers_in}
use Rattle.after.proofs.Parents.{parents}
use Rattle.after.proofs.Climbs.{methods_same}
use Rattle.after.proofs.Fields.{fields_same, children_same}

-- rows by kind, in the definition's order and in the program's
by_kind : (t29 t50 t51 t55 t54 t52 t6 t4 : Bool) (e : List ℕ → List ℕ) (lets ids hosts insts mems lits funs cls lits' funs' cls' words ids' mems' : List (List ℕ))
    → (T t50 → T t51 → ⊥) → (T t50 → T t55 → ⊥)
    → (T t29 → map e lets ≡ words) → (T t51 → map e hosts ≡ words) → (T t55 → map e insts ≡ words) → (T t50 → map e ids ≡ ids') → (T t54 → map e mems ≡ mems')
    → (T t52 → lits ≡ lits') → (T t6 → funs ≡ funs') → (T t4 → cls ≡ cls')
    → map e (when t29 then lets else when t50 then ids else when t51 then hosts else when t55 then insts else when t54 then mems
    else when t52 then lits else when t6 then funs else when t4 then cls else [])
    ≡ (when t29 || t51 || t55 then words else when t50 then ids' else when t54 then mems' else map e (when t52 then lits' else when t6 then funs' else when t4 then cls' else []))
by_kind true t50 t51 t55 t54 t52 t6 t4 e l i h n m li f c li' f' c' w i' m' x y p29 p51 p55 p50 p54 p52 p6 p4 = p29 tt
by_kind false true true t55 t54 t52 t6 t4 e l i h n m li f c li' f' c' w i' m' x y p29 p51 p55 p50 p54 p52 p6 p4 = absurd (x tt tt)
by_kind false true false true t54 t52 t6 t4 e l i h n m li f c li' f' c' w i' m' x y p29 p51 p55 p50 p54 p52 p6 p4 = absurd (y tt tt)
by_kind false true false false t54 t52 t6 t4 e l i h n m li f c li' f' c' w i' m' x y p29 p51 p55 p50 p54 p52 p6 p4 = p50 tt
by_kind false false true t55 t54 t52 t6 t4 e l i h n m li f c li' f' c' w i' m' x y p29 p51 p55 p50 p54 p52 p6 p4 = p51 tt
by_kind false false false true t54 t52 t6 t4 e l i h n m li f c li' f' c' w i' m' x y p29 p51 p55 p50 p54 p52 p6 p4 = p55 tt
by_kind false false false false true t52 t6 t4 e l i h n m li f c li' f' c' w i' m' x y p29 p51 p55 p50 p54 p52 p6 p4 = p54 tt
by_kind false false false false false true t6 t4 e l i h n m li f c li' f' c' w i' m' x y p29 p51 p55 p50 p54 p52 p6 p4 = ap (map e) (p52 tt)
by_kind false false false false false false true t4 e l i h n m li f c li' f' c' w i' m' x y p29 p51 p55 p50 p54 p52 p6 p4 = ap (map e) (p6 tt)
by_kind false false false false false false false true e l i h n m li f c li' f' c' w i' m' x y p29 p51 p55 p50 p54 p52 p6 p4 = ap (map e) (p4 tt)
by_kind false false false false false false false false e l i h n m li f c li' f' c' w i' m' x y p29 p51 p55 p50 p54 p52 p6 p4 = refl

concat_same : (f g : ℕ → List (List ℕ)) (xs : List ℕ) → ((x : ℕ) → Mem x xs → f x ≡ g x) → concat_map f xs ≡ concat_map g xs
concat_same f g [] h = refl
concat_same f g (x ∷ xs) h = ap (λ (l : List (List ℕ)). l ++ concat_map f xs) (h x (here refl)) ∙ ap (λ (l : List (List ℕ)). g x ++ l) (concat_same f g xs (λ y m. h y (there m)))

module _ {O : Outside} {s : Sheet} (ok : PastFour O s) {o : Store} (k : StoreReads O s o) where
  pub literal_rows_lem : (r : ℕ) → r < rows s → T (is s 52 r) → literal_rows s (history O s) r ≡ literal_rows_in s o r
  unfolding literal_rows_in
  literal_rows_lem r l t = k.literals r l t

  pub function_rows_lem : (r : ℕ) → r < rows s → T (is s 6 r) → function_rows s (history O s) r ≡ function_rows_in s o r
  unfolding function_rows_in
  function_rows_lem r l t = k.functions r l t

  pub class_rows_lem : (r : ℕ) → T (is s 4 r) → class_rows O s (history O s) r ≡ class_rows_in O s o r
  unfolding class_rows_in
  class_rows_lem r t =
      ap (λ (p : ℕ). of p (has_children s h c) (fields O s h (rows s) c) (methods O s h (rows s) c)) (parents ok k c)
      ∙ ap (λ (p : Bool). of (parent_in s o c) p (fields O s h (rows s) c) (methods O s h (rows s) c)) (children_same ok k c)
      ∙ ap (λ (fs : List ℕ). of (parent_in s o c) (has_children_in s o c) fs (methods O s h (rows s) c)) (fields_same ok k (rows s) c)
      ∙ ap (of (parent_in s o c) (has_children_in s o c) (fields_in O s o (rows s) c)) (methods_same ok k (rows s) c)
    where
      h : List Moment
      h = history O s

      c : ℕ
      c = 256 + r

      of : ℕ → Bool → List ℕ → List Method → List (List ℕ)
      of p d fs ms = (22 ∷ p ∷ bit d ∷ length fs ∷ length ms ∷ []) ∷ numbered 0 fs ++ map (λ m. 24 ∷ m.name ∷ m.fun ∷ []) ms

  -- the rows of one sheet row
  pub rows_same : (r : ℕ) → r < rows s → map (λ vs. eight (r ∷ vs)) (rows_of O s (history O s) r) ≡ rows_in O s o r
  unfolding rows_in
  rows_same r l =
      by_kind (is s 29 r) (is s 50 r) (is s 51 r) (is s 55 r) (is s 54 r) (is s 52 r) (is s 6 r) (is s 4 r) (λ vs. eight (r ∷ vs))
      (let_row s h r) (identifier_row s h r) (host_row s h r) (instance_row s h r) (member_row O s h r) (literal_rows s h r) (function_rows s h r) (class_rows O s h r)
      (literal_rows_in s o r) (function_rows_in s o r) (class_rows_in O s o r) words
      (when eqb (cell o.table r 4) 0 then identifier_answer r (row_words o.table r) ∷ [] else []) (when eqb (cell o.table r 0) 0 then [] else words)
      (kind_apart (kind s r) 50 51 tt) (kind_apart (kind s r) 50 55 tt)
      (k.lets r l) (k.hosts r l) (k.instances r l) (k.identifiers r l) (k.members r l) (literal_rows_lem r l) (function_rows_lem r l) (class_rows_lem r)
    where
      h : List Moment
      h = history O s

      words : List (List ℕ)
      words = answer_row r (row_words o.table r) ∷ []

  pub answers_same : answers O s (history O s) ≡ answers_in O s o
  answers_same = concat_same (λ r. map (λ vs. eight (r ∷ vs)) (rows_of O s (history O s) r)) (rows_in O s o) (from 0 (rows s)) (λ r m. rows_same r (omega (arith, from_mem r 0 (rows s) m)))
