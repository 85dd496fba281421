-- Captures: which locals and arguments of functions around a function its identifiers mean, and how literals hand them on.
use Rattle.std.specs.Prelude.{Bool, not, ◌&&◌, List, [], ◌∷◌, map, ℕ, eqb}
use Rattle.definition.specs.Basics.{when◌then◌else◌, filter, any, distinct, place, from, bit, concat_map, ◌∈?◌}
use Rattle.definition.specs.Kind.{IDENTIFIER, LITERAL}
use Rattle.definition.specs.Sheet.{Sheet, rows, child, a, is}
use Rattle.definition.specs.Meaning.{Meaning, row_of, owner_of, is_variable}
use Rattle.definition.specs.Scope.{Moment, find, top, around, visited, visits, visit_of, within}
use Rattle.definition.specs.Slots.{is_mutable, top_slot, local_count, code}

-- An identifier: its row, what it means, the slot of that if it is a local, the functions around it, innermost first.
pub record Use : Type 0 where
  pub row : ℕ
  pub means : Meaning
  pub slot : ℕ
  pub funs : List ℕ

-- the identifier that is visited at a moment
abbrev pub use_at : Sheet → Moment → Use
use_at s m =
    let r : ℕ = visited m.event in
    record { row = r; means = top (find (a s r) m.stack); slot = top_slot s (find (a s r) m.stack); funs = around s m.stack }

-- what stands after f in the list
abbrev pub beyond : ℕ → List ℕ → List ℕ
beyond f [] = []
beyond f (g ∷ gs) = when eqb g f then gs else beyond f gs

-- does an identifier stand in f and mean a local or argument of a function around f?
abbrev pub is_outer : ℕ → Use → Bool
is_outer f u = is_variable u.means && owner_of u.means ∈? beyond f u.funs

-- F-6: how many function boundaries lie between an identifier and what it means: the functions around it inside the one that declares
-- the local or argument; none where it means a global, function or class
abbrev pub distance : Use → ℕ
distance u = when is_variable u.means then place (eqb (owner_of u.means)) u.funs else 0

-- do two identifiers mean one local or argument?
abbrev pub same : Use → Use → Bool
same u v = eqb (row_of u.means) (row_of v.means)

module _ (s : Sheet) (h : List Moment) where
  -- the identifiers in the walk's order
  abbrev pub uses : List Use
  uses = map (use_at s) (visits s h IDENTIFIER)

  -- what function f captures, once each, by index in the order of first use, each told by that use
  abbrev pub captures : ℕ → List Use
  captures f = distinct same (filter (is_outer f) uses)

  -- code and values of what an identifier means, as function f sees it: its own or global, or captured
  abbrev pub seen_from : ℕ → Use → List ℕ
  seen_from f u =
      when is_variable u.means && not (eqb (owner_of u.means) f)
      then 6 ∷ place (same u) (captures f) ∷ 0 ∷ bit (is_mutable s u.means) ∷ []
      else code s h u.means u.slot

  -- what a literal in function f hands on to its function g, in index order: from f, or captured by f in turn
  abbrev pub sources : ℕ → ℕ → List (List ℕ)
  sources f g = map (seen_from f) (captures g)

  -- the functions of the literals that stand in function f
  abbrev pub inner : ℕ → List ℕ
  inner f = map (child s) (filter (λ l. is s LITERAL l && any (λ m. eqb (within s m) f) (visit_of h l)) (from 0 (rows s)))

  -- the slots of f whose mutable locals are handed to a literal in f, rising
  abbrev pub escaping : ℕ → List ℕ
  escaping f =
      filter (λ k. any (λ u. is_mutable s u.means && eqb (owner_of u.means) f && eqb u.slot k) (concat_map captures (inner f)))
      (from 0 (local_count s h f))
