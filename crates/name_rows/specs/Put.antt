-- The rows that tell names, written one after another.
use Rattle.ast.specs.Kind.{kind_number}
use Rattle.std.specs.Prelude.{◌≡◌, List, [], ◌∷◌, ℕ, ◌+◌, ◌*◌, eqb, get_or}
use Rattle.definition.specs.Basics.{when◌then◌else◌}
use Rattle.definition.specs.Sheet.{Sheet, rows}
use Rattle.definition.specs.Outside.{Outside}
use Rattle.definition.specs.Classes.{method_named, own_methods}
use Rattle.machine.specs.Machine.{Store as Stored, one_more}
use Rattle.after.specs.Inherited.{methods_in}
use Rattle.sink.specs.Sink.{Sink, emit}
use Rattle.sink.specs.declared.Rows.{Rows}
use Rattle.sink.specs.Written.{written}
use Rattle.class_names.specs.Names.{inherited, new_of}
use Rattle.name_rows.specs.declared.put.Passed.{Passed}
use Rattle.name_rows.specs.declared.put.Wanted.{Wanted}

-- The names of kind j of the class of row r are wanted.
pub record Wants (r j : ℕ) (w : Wanted) : Type 0 where
  pub kind_is : kind_number w.kind ≡ j
  pub row_is : w.row ≡ r
  pub class_is : w.class.0 ≡ 256 + r

-- The rows written, and the next slot.
pub record Filled : Type 0 where
  pub done : Sink
  pub slot : ℕ

abbrev pub filled : ℕ → Rows → Filled
filled slot rows = record { done = written rows; slot = slot }

-- the row that tells name m: a field by its slot, a method by its function
unfoldable pub name_row : Outside → Sheet → Stored → Wanted → ℕ → ℕ → List ℕ
name_row O s o w m i =
    when eqb (kind_number w.kind) 10 then w.row ∷ 23 ∷ i ∷ m ∷ 0 ∷ 0 ∷ 0 ∷ 0 ∷ []
    else w.row ∷ 24 ∷ m ∷ method_named m (methods_in O s o (rows s) w.class.0) ∷ 0 ∷ 0 ∷ 0 ∷ 0 ∷ []

-- one name more, and the names of a list, by the row f that tells a name at a slot
unfoldable pub put : (ℕ → ℕ → List ℕ) → ℕ → Filled → Filled
put f m k = record { done = emit (f m k.slot) k.done; slot = one_more k.slot }

unfoldable pub put_all : (ℕ → ℕ → List ℕ) → List ℕ → Filled → Filled
put_all f [] k = k
put_all f (m ∷ ms) k = put_all f ms (put f m k)

-- the names of a list that are not inherited from the parent p
abbrev pub put_new : Outside → Sheet → Stored → Wanted → Passed → List ℕ → Filled → Filled
put_new O s o w p ms k = put_all (name_row O s o w) (new_of (inherited O s o (kind_number w.kind) p.left p.class.0) ms) k

-- the row that tells the name of row i of the words v, at slot k: a method by the own function of that name, else by that of row i
unfoldable pub copied_row : Outside → Sheet → Wanted → List ℕ → ℕ → ℕ → List ℕ
copied_row O s w v i k =
    let m : ℕ = get_or v (8 * i + 2) 0 in
    let f : ℕ = get_or v (8 * i + 3) 0 in
    let own : ℕ = method_named m (own_methods O s w.class.0) in
    when eqb (kind_number w.kind) 10 then w.row ∷ 23 ∷ k ∷ f ∷ 0 ∷ 0 ∷ 0 ∷ 0 ∷ [] else w.row ∷ 24 ∷ m ∷ (when eqb own 0 then f else own) ∷ 0 ∷ 0 ∷ 0 ∷ 0 ∷ []
