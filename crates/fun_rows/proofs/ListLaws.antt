-- Rows written for the nodes of a list, and the words of one row.
use mathlib.Core.Path.{◌≡◌, refl, sym, ap, ◌∙◌}
use mathlib.Core.Bool.{Bool, true, false, not, ◌&&◌}
use mathlib.Core.List.{List, [], ◌∷◌, ◌++◌, map}
use Prim.Native.Nat.{ℕ, zero, suc, ◌-◌, ◌≤◌}
use native.Mathlib.Omega.{arith}
use native.Mathlib.Numerals.{sub-one}
use lib.Dec.{eqb}
use lib.ListN.{length}
use Rattle.definition.specs.Basics.{when◌then◌else◌}
use Rattle.definition.specs.Sheet.{Sheet, is, b, child}
use Rattle.definition.specs.Meaning.{Meaning, nothing, function, class, global, toplevel, variable, is_variable, is_declared, owner_of}
use Rattle.definition.specs.Answer.{eight}
use Rattle.machine.specs.Machine.{Store, Node, cell, node_word, node_at, previous, chain_to, four_words, code_of, seen_in, list_at}
use Rattle.machine.specs.Reads.{answer_row, meaning_of_node}
use Rattle.machine.proofs.ByKind.{list_none, list_more}
use Rattle.symbols.specs.declared.decl.OpenDecl.{OpenDecl}
use Rattle.symbols.specs.OpenDecls.{means, slot_or, number_or}
use Rattle.after.specs.Rows.{literal_rows_in}
use Rattle.sink.specs.Sink.{Sink, emit, emit_all}
use Rattle.sink.proofs.SinkLaws.{emit_none, emit_last}

-- a row of at most five numbers
eight_four : (r : ℕ) (vs : List ℕ) → length vs ≤ 4 → answer_row r (four_words vs) ≡ eight (r ∷ vs)
eight_four r [] l = refl
eight_four r (a ∷ []) l = refl
eight_four r (a ∷ b ∷ []) l = refl
eight_four r (a ∷ b ∷ c ∷ []) l = refl
eight_four r (a ∷ b ∷ c ∷ d ∷ []) l = refl
eight_four r (a ∷ b ∷ c ∷ d ∷ e ∷ vs) l = absurd (omega arith)

-- codes and values are at most four numbers
code_short : (s : Sheet) (d : Meaning) (k g : ℕ) → length (code_of s d k g) ≤ 4
unfolding code_of
code_short s nothing k g = omega arith
code_short s (function f) k g = omega arith
code_short s (class c) k g = omega arith
code_short s (global n m) k g = omega arith
code_short s (toplevel r) k g = omega arith
code_short s (variable r f) k g = go (is s 11 r) _ _
  where
    go : (t : Bool) (i j : ℕ) → length (when t then 4 ∷ i ∷ f ∷ [] else 5 ∷ k ∷ f ∷ j ∷ []) ≤ 4
    go true i j = omega arith
    go false i j = omega arith

seen_short : (s : Sheet) (d : Meaning) (k g f : ℕ) (o : Store) → length (seen_in s d k g f o) ≤ 4
unfolding seen_in
seen_short s d k g f o = go (is_variable d && not (eqb (owner_of d) f)) _ _
  where
    go : (t : Bool) (i j : ℕ) → length (when t then 6 ∷ i ∷ 0 ∷ j ∷ [] else code_of s d k g) ≤ 4
    go true i j = omega arith
    go false i j = code_short s d k g

-- The row of node i of a capture list, which the declaration d stands for: in its own function, and seen from function f. A local or argument has no
-- global number.
module _ (s : Sheet) (r : ℕ) (q : List ℕ) (i : ℕ) (d : OpenDecl) (ws : List ℕ) (e : (means d ≡ meaning_of_node (node_at q i)) × (slot_or 0 d ≡ (node_at q i).two) × (number_or 0 d ≡ 0)) where
  pub captured_row_lem : ws ≡ four_words (code_of s (means d) (slot_or 0 d) (number_or 0 d)) → answer_row r ws ≡ eight (r ∷ code_of s (meaning_of_node (node_at q i)) (node_at q i).two 0)
  captured_row_lem h =
      ap (answer_row r) (rw (e.0, e.1, e.2) at h) ∙ eight_four r (code_of s (meaning_of_node (node_at q i)) (node_at q i).two 0) (code_short s (meaning_of_node (node_at q i)) (node_at q i).two 0)

  pub source_row : (f : ℕ) (o : Store) → ws ≡ four_words (seen_in s (means d) (slot_or 0 d) (number_or 0 d) f o)
      → answer_row r ws ≡ eight (r ∷ seen_in s (meaning_of_node (node_at q i)) (node_at q i).two 0 f o)
  source_row f o h =
      ap (answer_row r) (rw (e.0, e.1, e.2) at h)
      ∙ eight_four r (seen_in s (meaning_of_node (node_at q i)) (node_at q i).two 0 f o) (seen_short s (meaning_of_node (node_at q i)) (node_at q i).two 0 f o)

map_last : {A B : Type 0} (f : A → B) (xs : List A) (x : A) → map f (xs ++ x ∷ []) ≡ map f xs ++ f x ∷ []
map_last f [] x = refl
map_last {A} {B} f (y ∷ ys) x = ap (λ (l : List B). f y ∷ l) (map_last f ys x)

pub map_map : {A B C : Type 0} (f : B → C) (g : A → B) (xs : List A) → map f (map g xs) ≡ map (λ x. f (g x)) xs
map_map f g [] = refl
map_map {A} {B} {C} f g (x ∷ xs) = ap (λ (l : List C). f (g x) ∷ l) (map_map f g xs)

-- Rows for the nodes of a list, in the order in which they were appended.
module _ (row : Node → List ℕ) (q : List ℕ) where
  pub nodes_none : (p : ℕ) (k : Sink) → p ≡ 0 → k ≡ emit_all (map row (chain_to q p)) k
  nodes_none p k e = emit_none k ∙ ap (λ (l : List Node). emit_all (map row l) k) (sym (list_none q p e))

  pub nodes_last : (p j : ℕ) (ws : List ℕ) (k : Sink) {x y : Sink} → (p ≡ 0 → ⊥) → j ≡ previous q (p - 1) → x ≡ emit_all (map row (chain_to q j)) k → ws ≡ row (node_at q (p - 1)) → y ≡ emit ws x
      → y ≡ emit_all (map row (chain_to q p)) k
  nodes_last zero j ws k f i e h g = absurd (f refl)
  nodes_last (suc n) j ws k {x} {y} f i e h g =
      let i' : j ≡ previous q n = rw sub-one at i in
      let h' : ws ≡ row (node_at q n) = rw sub-one at h in
      emit_last (map row (chain_to q (previous q n))) (row (node_at q n)) k (e ∙ ap (λ (m : ℕ). emit_all (map row (chain_to q m)) k) i') (g ∙ ap (λ (l : List ℕ). emit l x) h')
      ∙ ap (λ (l : List (List ℕ)). emit_all l k) (sym (ap (map row) (list_more q n) ∙ map_last row (chain_to q (previous q n)) (node_at q n)))

-- the sources of a literal, as rows
pub literal_rows_lem : (s : Sheet) (o : Store) (r f g l : ℕ) (k : Sink) {x : Sink} → f ≡ cell o.table r 1 → g ≡ child s r → l ≡ cell o.table g 6
    → x ≡ emit_all (map (λ y. eight (r ∷ seen_in s (meaning_of_node y) y.two 0 f o)) (chain_to o.nodes l)) k → x ≡ emit_all (map (λ vs. eight (r ∷ vs)) (literal_rows_in s o r)) k
unfolding literal_rows_in list_at
literal_rows_lem s o r f g l k e h i j =
    j
    ∙ rw (i, h, e) (ap (λ (z : List (List ℕ)). emit_all z k) (sym
    (map_map (λ vs. eight (r ∷ vs)) (λ y. seen_in s (meaning_of_node y) y.two 0 (cell o.table r 1) o)
    (chain_to o.nodes (cell o.table (child s r) 6)))))
