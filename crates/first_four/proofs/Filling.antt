-- The pass that fills the table, over a sheet whose links are right: after the rows below r, the entries of the rows that they
-- link to say what the definition's tables say.
use mathlib.Core.Path.{◌≡◌, refl, sym, ap, ◌∙◌, subst}
use mathlib.Core.Logic.{◌⊎◌, inl, inr}
use mathlib.Core.Bool.{Bool, true, false, ◌&&◌}
use mathlib.Core.List.{List, [], map}
use Prim.Native.Nat.{ℕ, zero, suc, ◌+◌, ◌*◌, ◌<◌, ◌≤◌, min}
use native.Mathlib.Omega.{arith}
use lib.Dec.{eqb}
use lib.ListN.{length}
use Rattle.definition.specs.Basics.{when◌then◌else◌}
use Rattle.definition.specs.Sheet.{Sheet, word, kind, next, child, rows, chain, is, holder}
use Rattle.definition.specs.Shape.{Part, fits}
use Rattle.definition.specs.Format.{tables, at, parent_table, unit_entry, function_entry, class_entry, unit, function, class, children_fit}
use Rattle.definition.proofs.Lists.Tests.{ℕ-trichotomy}
use Rattle.definition.proofs.Format.Links.{Rises, LinkFacts, next_one, child_one, next_not_child, linker, held}
use Rattle.definition.proofs.Format.Links.{header_held, parent_is, depth_header, depth_step, unit_step, function_step}
use Rattle.definition.proofs.Format.Links.{class_step, child_held, next_held}
use Rattle.definition.proofs.Format.Tables.{table_at}
use Rattle.definition.proofs.Format.Passes.{chain_on}
use Rattle.shapes.specs.States.{entry_of, kind_table, state_at}
use Rattle.row_fits.specs.Pass.{state_after, note_row, unit_here, class_here, entry_in}
use Rattle.first_four.proofs.StateLaws.{kind_is_lem, after_is}
use Rattle.first_four.proofs.Noting.{NotLinked, length_noted, stays_row, stays_column, own_unit, own_class}
use Rattle.first_four.proofs.Noting.{child_parent, child_depth, child_unit, child_fun, child_class, child_state}
use Rattle.first_four.proofs.Noting.{next_parent, next_depth, next_unit, next_fun, next_class, next_state}

-- what is left of row k's child list from k on, in state q, fits
abbrev pub left_fits : Sheet → ℕ → ℕ → Bool
left_fits s q k = fits (state_at q) (map (kind s) (chain (rows s) s k))

-- The entry of row k: its parent, depth and function;
pub record Entered (s : Sheet) (t : List ℕ) (k : ℕ) : Type 0 where
  pub parent : word t k 0 ≡ holder s k
  pub depth : word t k 1 ≡ at (tables s).depths k
  pub fun : word t k 3 ≡ function (tables s) k

-- the state of its list;
pub record Listed (s : Sheet) (t : List ℕ) (k : ℕ) : Type 0 where
  pub low : word t k 5 < 26
  pub left : left_fits s (word t k 5) k ≡ children_fit s (holder s k)

-- until it is reached, unit and class of its parent,
pub record Waiting (s : Sheet) (t : List ℕ) (k : ℕ) : Type 0 where
  pub of_unit_lem : word t k 2 ≡ unit (tables s) (holder s k)
  pub of_class_lem : word t k 4 ≡ class (tables s) (holder s k)

-- and then its own.
pub record Reached (s : Sheet) (t : List ℕ) (k : ℕ) : Type 0 where
  pub of_unit_lem : word t k 2 ≡ unit (tables s) k
  pub of_class_lem : word t k 4 ≡ class (tables s) k

-- row k is linked from a row below r
abbrev pub Below : Sheet → ℕ → ℕ → Type 0
Below s r k = (p : ℕ) × (p < r) × ((next s p ≡ k) ⊎ (child s p ≡ k))

pub record Filled (s : Sheet) (r : ℕ) (t : List ℕ) : Type 0 where
  pub long : 8 * rows s ≤ length t
  pub entered : (k : ℕ) → k < rows s → (k ≡ 0) ⊎ Below s r k → Entered s t k
  pub listed : (k : ℕ) → 0 < k → k < rows s → Below s r k → Listed s t k
  pub waiting : (k : ℕ) → k < rows s → r ≤ k → (k ≡ 0) ⊎ Below s r k → Waiting s t k
  pub reached : (k : ℕ) → k < r → k < rows s → Reached s t k

module _ (s : Sheet) (ok : LinkFacts s) (some : 0 < rows s) (few : rows s ≤ 2048) where
  -- the entries of row 0
  either : (b : Bool) (x y : ℕ) → x ≡ 0 → y ≡ 0 → (when b then x else y) ≡ 0
  either true x y p q = p
  either false x y p q = q

  none_before : (k : ℕ) → at [] k ≡ 0
  none_before zero = refl
  none_before (suc k) = refl

  top_parent : at (parent_table s) 0 ≡ 0
  top_parent = parent_is s ok 0 some ∙ header_held s ok

  pub unit_top : unit (tables s) 0 ≡ 0
  unit_top = table_at (unit_entry s (parent_table s)) (rows s) 0 some ∙ either (is s 2 0) 0 (at [] (at (parent_table s) 0)) refl (none_before (at (parent_table s) 0))

  pub function_top : function (tables s) 0 ≡ 0
  function_top =
      table_at (function_entry s (parent_table s)) (rows s) 0 some
      ∙ either (is s 6 (at (parent_table s) 0)) (at (parent_table s) 0) (at [] (at (parent_table s) 0)) top_parent (none_before (at (parent_table s) 0))

  pub class_top : class (tables s) 0 ≡ 0
  class_top =
      table_at (class_entry s (parent_table s)) (rows s) 0 some
      ∙ either (is s 6 0 && is s 4 (at (parent_table s) 0)) (at (parent_table s) 0) (at [] (at (parent_table s) 0)) top_parent (none_before (at (parent_table s) 0))

  -- a row is no deeper than its number
  pub depth_low : (n k : ℕ) → k < n → k < rows s → at (tables s).depths k ≤ k
  depth_low zero k h l = absurd (omega arith)
  depth_low (suc n) k h l = go (ℕ-trichotomy 0 k) (depth_low n)
    where
      go : (0 < k) ⊎ ((0 ≡ k) ⊎ (k < 0)) → ((j : ℕ) → j < n → j < rows s → at (tables s).depths j ≤ j) → at (tables s).depths k ≤ k
      go (inl z) up =
          let q = held s ok k z l in
          omega (arith, depth_step s ok k z l, up (holder s k) (omega (arith, q.1)) (omega (arith, q.1)), q.1)
      go (inr (inl e)) up = omega (arith, ap (at (tables s).depths) (sym e) ∙ depth_header s ok some)
      go (inr (inr e)) up = absurd (omega arith)

  -- before the first row
  pub filled_none : (t : List ℕ) → 8 * rows s ≤ length t → ((c : ℕ) → word t 0 c ≡ 0) → Filled s 0 t
  filled_none t long z =
      record {
        long = long;
        entered = λ k l q. subst (Entered s t) (sym (only k q)) (record { parent = z 0 ∙ sym (header_held s ok); depth = z 1 ∙ sym (depth_header s ok some); fun = z 3 ∙ sym function_top });
        listed = λ k p l q. absurd (omega (arith, q.1));
        waiting = λ k l h q. subst (Waiting s t) (sym (only k q)) (record {
          of_unit_lem = z 2 ∙ sym (ap (unit (tables s)) (header_held s ok) ∙ unit_top);
          of_class_lem = z 4 ∙ sym (ap (class (tables s)) (header_held s ok) ∙ class_top);
        });
        reached = λ k h l. absurd (omega arith);
      }
    where
      only : (k : ℕ) → (k ≡ 0) ⊎ Below s 0 k → k ≡ 0
      only k (inl e) = e
      only k (inr q) = absurd (omega (arith, q.1))

  -- a row is linked from a lower one
  pub linked_below : (r : ℕ) → r < rows s → (r ≡ 0) ⊎ Below s r r
  linked_below r l = go (ℕ-trichotomy 0 r)
    where
      lower : (p x : ℕ) → x ≡ r → 0 < r → Rises s p x → p < r
      lower p x e z (inl w) = absurd (omega arith)
      lower p x e z (inr q) = omega (arith, q.0)

      side : (p : ℕ) → p < rows s → 0 < r → (next s p ≡ r) ⊎ (child s p ≡ r) → p < r
      side p h z (inl e) = lower p (next s p) e z (ok.nexts p h)
      side p h z (inr e) = lower p (child s p) e z (ok.children p h)

      go : (0 < r) ⊎ ((0 ≡ r) ⊎ (r < 0)) → (r ≡ 0) ⊎ Below s r r
      go (inl z) = let p = linker s ok r z l in inr (p.0, side p.0 p.1 z p.2, p.2)
      go (inr (inl e)) = inl (sym e)
      go (inr (inr e)) = absurd (omega arith)

  positive : (x : ℕ) → (x ≡ 0 → ⊥) → 0 < x
  positive zero f = absurd (f refl)
  positive (suc x) f = omega arith

  higher : (p x : ℕ) → Rises s p x → (x ≡ 0 → ⊥) → (p < x) × (x < rows s)
  higher p x (inl e) z = absurd (z e)
  higher p x (inr q) z = q

  -- One row more.
  module _ (r : ℕ) (t : List ℕ) (f : Filled s r t) (l : r < rows s) where
    abbrev u : List ℕ
    u = note_row s r t

    pub here_entered : Entered s t r
    here_entered = f.entered r l (linked_below r l)

    here_waiting : Waiting s t r
    here_waiting = f.waiting r l (omega arith) (linked_below r l)

    -- what links to k from below r does not link to it from r
    not_linked : (k : ℕ) → Below s r k → k < rows s → 0 < k → NotLinked s r t k
    not_linked k q h z = (by_next, by_child)
      where
        p : ℕ
        p = q.0

        low : p < rows s
        low = omega (arith, q.1)

        by_next : (next s r ≡ 0 → ⊥) → k ≡ next s r → ⊥
        by_next y e = go q.2
          where
            go : (next s p ≡ k) ⊎ (child s p ≡ k) → ⊥
            go (inl w) = let x : p ≡ r = next_one s ok p r low l (omega arith) (omega arith) (w ∙ e) in omega (arith, q.1)
            go (inr w) = next_not_child s ok r p l low (positive (next s r) y) (higher r (next s r) (ok.nexts r l) y).1 (sym e ∙ sym w)

        by_child : (child s r ≡ 0 → ⊥) → k ≡ child s r → ⊥
        by_child y e = go q.2
          where
            go : (next s p ≡ k) ⊎ (child s p ≡ k) → ⊥
            go (inl w) = next_not_child s ok p r low l (omega arith) (omega arith) (w ∙ e)
            go (inr w) = let x : p ≡ r = child_one s ok p r low l (omega arith) (omega arith) (w ∙ e) in omega (arith, q.1)

    -- r does not link to a row that is not higher
    not_higher : (k : ℕ) → k ≤ r → NotLinked s r t k
    not_higher k h = (λ y e. omega (arith, (higher r (next s r) (ok.nexts r l) y).0), λ y e. omega (arith, (higher r (child s r) (ok.children r l) y).0))

    room : (x : ℕ) → x < rows s → 8 * x + 8 ≤ length t
    room x h = omega (arith, f.long)

    -- what is known stays
    entered_stays : (k : ℕ) → NotLinked s r t k → Entered s t k → Entered s u k
    entered_stays k n e =
        record {
          parent = stays_column s r t k 0 (omega arith) n (λ w. omega arith) (λ w. omega arith) ∙ e.parent;
          depth = stays_column s r t k 1 (omega arith) n (λ w. omega arith) (λ w. omega arith) ∙ e.depth;
          fun = stays_column s r t k 3 (omega arith) n (λ w. omega arith) (λ w. omega arith) ∙ e.fun;
        }

    listed_stays : (k : ℕ) → NotLinked s r t k → Listed s t k → Listed s u k
    listed_stays k n e =
        let w : word u k 5 ≡ word t k 5 = stays_column s r t k 5 (omega arith) n (λ w. omega arith) (λ w. omega arith) in
        record { low = subst (λ (x : ℕ). x < 26) (sym w) e.low; left = ap (λ (q : ℕ). left_fits s q k) w ∙ e.left }

    waiting_stays : (k : ℕ) → NotLinked s r t k → (k ≡ r → ⊥) → Waiting s t k → Waiting s u k
    waiting_stays k n g e = record { of_unit_lem = stays_row s r t k 2 (omega arith) n g ∙ e.of_unit_lem; of_class_lem = stays_row s r t k 4 (omega arith) n g ∙ e.of_class_lem }

    reached_stays : (k : ℕ) → NotLinked s r t k → (k ≡ r → ⊥) → Reached s t k → Reached s u k
    reached_stays k n g e = record { of_unit_lem = stays_row s r t k 2 (omega arith) n g ∙ e.of_unit_lem; of_class_lem = stays_row s r t k 4 (omega arith) n g ∙ e.of_class_lem }

    -- the row's own unit and class
    if_unit : (b : Bool) (x y z : ℕ) → y ≡ z → (when b then x else y) ≡ (when b then x else z)
    if_unit b x y z e = ap (λ (v : ℕ). when b then x else v) e

    pub unit_here_lem : unit_here r (kind s r) (entry_in t r) ≡ unit (tables s) r
    unit_here_lem = go (ℕ-trichotomy 0 r)
      where
        go : (0 < r) ⊎ ((0 ≡ r) ⊎ (r < 0)) → unit_here r (kind s r) (entry_in t r) ≡ unit (tables s) r
        go (inl z) = if_unit (is s 2 r) r (word t r 2) (unit (tables s) (holder s r)) here_waiting.of_unit_lem ∙ sym (unit_step s ok r z l)
        go (inr (inl e)) =
            either (eqb (kind s r) 2) r (word t r 2) (sym e) (here_waiting.of_unit_lem ∙ ap (λ (k : ℕ). unit (tables s) (holder s k)) (sym e) ∙ ap (unit (tables s)) (header_held s ok) ∙ unit_top)
            ∙ sym unit_top ∙ ap (unit (tables s)) e
        go (inr (inr e)) = absurd (omega arith)

    pub class_here_lem : class_here s (kind s r) (entry_in t r) ≡ class (tables s) r
    class_here_lem = go (ℕ-trichotomy 0 r)
      where
        top_holder : 0 ≡ r → holder s r ≡ 0
        top_holder e = ap (holder s) (sym e) ∙ header_held s ok

        go : (0 < r) ⊎ ((0 ≡ r) ⊎ (r < 0)) → class_here s (kind s r) (entry_in t r) ≡ class (tables s) r
        go (inl z) =
            ap (λ (p : ℕ). when is s 6 r && is s 4 p then p else word t r 4) here_entered.parent
            ∙ if_unit (is s 6 r && is s 4 (holder s r)) (holder s r) (word t r 4) (class (tables s) (holder s r)) here_waiting.of_class_lem ∙ sym (class_step s ok r z l)
        go (inr (inl e)) =
            either (is s 6 r && is s 4 (word t r 0)) (word t r 0) (word t r 4) (here_entered.parent ∙ top_holder e) (here_waiting.of_class_lem ∙ ap (class (tables s)) (top_holder e) ∙ class_top)
            ∙ sym class_top ∙ ap (class (tables s)) e
        go (inr (inr e)) = absurd (omega arith)

    own_reached : Reached s u r
    own_reached = record { of_unit_lem = own_unit s r t (room r l) ∙ unit_here_lem; of_class_lem = own_class s r t (room r l) ∙ class_here_lem }

    -- the first child
    module _ (z : child s r ≡ 0 → ⊥) where
      c_up : (r < child s r) × (child s r < rows s)
      c_up = higher r (child s r) (ok.children r l) z

      c_other : child s r ≡ r → ⊥
      c_other e = omega (arith, c_up.0)

      c_room : 8 * child s r + 8 ≤ length t
      c_room = room (child s r) c_up.1

      c_held : holder s (child s r) ≡ r
      c_held = child_held s ok r l (positive (child s r) z)

      child_entered : Entered s u (child s r)
      child_entered =
          record {
            parent = child_parent s r t z c_other c_room ∙ sym c_held;
            depth =
                child_depth s r t z c_other c_room ∙ ap (λ (d : ℕ). min (d + 1) 4294967295) here_entered.depth
                ∙ omega (arith, depth_low (suc r) r (omega arith) l, depth_step s ok (child s r) (omega (arith, c_up.0)) c_up.1, ap (at (tables s).depths) c_held);
            fun =
                child_fun s r t z c_other c_room ∙ ap (λ (v : ℕ). when is s 6 r then r else v) here_entered.fun
                ∙ ap (λ (p : ℕ). when is s 6 p then p else function (tables s) p) (sym c_held) ∙ sym (function_step s ok (child s r) (omega (arith, c_up.0)) c_up.1);
          }

      child_listed : Listed s u (child s r)
      child_listed =
          let e : word u (child s r) 5 ≡ entry_of kind_table (kind s r) 1 = child_state s r t z c_other c_room in
          record {
            low = subst (λ (x : ℕ). x < 26) (sym e) (kind_is_lem (kind s r)).low;
            left =
                ap (λ (q : ℕ). left_fits s q (child s r)) e
                ∙ ap (λ (ps : List Part). fits ps (map (kind s) (chain (rows s) s (child s r)))) (kind_is_lem (kind s r)).children ∙ ap (children_fit s) (sym c_held);
          }

      child_waiting : Waiting s u (child s r)
      child_waiting =
          record {
            of_unit_lem = child_unit s r t z c_other c_room ∙ unit_here_lem ∙ ap (unit (tables s)) (sym c_held);
            of_class_lem = child_class s r t z c_other c_room ∙ class_here_lem ∙ ap (class (tables s)) (sym c_held);
          }

    -- the next row
    module _ (z : next s r ≡ 0 → ⊥) where
      n_up : (r < next s r) × (next s r < rows s)
      n_up = higher r (next s r) (ok.nexts r l) z

      n_other : next s r ≡ r → ⊥
      n_other e = omega (arith, n_up.0)

      n_room : 8 * next s r + 8 ≤ length t
      n_room = room (next s r) n_up.1

      n_apart : (child s r ≡ 0 → ⊥) → next s r ≡ child s r → ⊥
      n_apart y e = next_not_child s ok r r l l (positive (next s r) z) n_up.1 e

      -- the header has none
      not_top : 0 < r
      not_top = go (ℕ-trichotomy 0 r)
        where
          go : (0 < r) ⊎ ((0 ≡ r) ⊎ (r < 0)) → 0 < r
          go (inl h) = h
          go (inr (inl e)) = absurd (z (ap (next s) (sym e) ∙ ok.header_next))
          go (inr (inr h)) = absurd (omega arith)

      n_held : holder s (next s r) ≡ holder s r
      n_held = next_held s ok r not_top l (positive (next s r) z)

      below_self : Below s r r
      below_self = go (linked_below r l)
        where
          go : (r ≡ 0) ⊎ Below s r r → Below s r r
          go (inl e) = absurd (omega (arith, not_top))
          go (inr q) = q

      next_entered : Entered s u (next s r)
      next_entered =
          record {
            parent = next_parent s r t z n_other n_apart n_room ∙ here_entered.parent ∙ sym n_held;
            depth =
                next_depth s r t z n_other n_apart n_room ∙ here_entered.depth ∙ depth_step s ok r not_top l
                ∙ ap (λ (p : ℕ). suc (at (tables s).depths p)) (sym n_held) ∙ sym (depth_step s ok (next s r) (omega (arith, n_up.0)) n_up.1);
            fun =
                next_fun s r t z n_other n_apart n_room ∙ here_entered.fun ∙ function_step s ok r not_top l
                ∙ ap (λ (p : ℕ). when is s 6 p then p else function (tables s) p) (sym n_held) ∙ sym (function_step s ok (next s r) (omega (arith, n_up.0)) n_up.1);
          }

      next_listed : Listed s u (next s r)
      next_listed =
          let q : ℕ = word t r 5 in
          let g : Listed s t r = f.listed r not_top l below_self in
          let e : word u (next s r) 5 ≡ state_after q (kind s r) = next_state s r t z n_other n_apart n_room in
          let w = after_is q (kind s r) g.low in
          record {
            low = subst (λ (x : ℕ). x < 26) (sym e) w.low;
            left =
                ap (λ (x : ℕ). left_fits s x (next s r)) e
                ∙ ap (λ (ps : List Part). fits ps (map (kind s) (chain (rows s) s (next s r)))) w.state
                ∙ sym (ap (λ (xs : List ℕ). fits (state_at q) (map (kind s) xs)) (chain_on s ok.nexts r not_top l)) ∙ g.left ∙ ap (children_fit s) (sym n_held);
          }

      next_waiting : Waiting s u (next s r)
      next_waiting =
          record {
            of_unit_lem = next_unit s r t z n_other n_apart n_room ∙ here_waiting.of_unit_lem ∙ ap (unit (tables s)) (sym n_held);
            of_class_lem = next_class s r t z n_other n_apart n_room ∙ here_waiting.of_class_lem ∙ ap (class (tables s)) (sym n_held);
          }

    -- all together
    pub filled_more : Filled s (suc r) u
    filled_more =
        record {
          long = omega (arith, length_noted s r t, f.long);
          entered = λ k h q. by_link (Entered s u) k q (λ e. entered_stays k (not_higher k (omega arith)) (f.entered k h (inl e)))
              (λ b p. entered_stays k (not_linked k b h p) (f.entered k h (inr b))) (λ e w. subst (Entered s u) e (next_entered w)) (λ e w. subst (Entered s u) e (child_entered w));
          listed = λ k p h q. by_link (Listed s u) k (inr q) (λ e. absurd (omega arith))
              (λ b y. listed_stays k (not_linked k b h p) (f.listed k p h b)) (λ e w. subst (Listed s u) e (next_listed w)) (λ e w. subst (Listed s u) e (child_listed w));
          waiting = λ k h g q. by_link (Waiting s u) k q (λ e. absurd (omega arith))
              (λ b p. waiting_stays k (not_linked k b h p) (λ e. omega arith) (f.waiting k h (omega arith) (inr b)))
              (λ e w. subst (Waiting s u) e (next_waiting w)) (λ e w. subst (Waiting s u) e (child_waiting w));
          reached = λ k h g. by_order k h g (ℕ-trichotomy k r);
        }
      where
        by_link : (P : ℕ → Type 0) (k : ℕ) → (k ≡ 0) ⊎ Below s (suc r) k → (k ≡ 0 → P k) → (Below s r k → 0 < k → P k)
            → (next s r ≡ k → (next s r ≡ 0 → ⊥) → P k) → (child s r ≡ k → (child s r ≡ 0 → ⊥) → P k) → P k
        by_link P k (inl e) z old nx ch = z e
        by_link P k (inr q) z old nx ch = go (ℕ-trichotomy 0 k)
          where
            last : 0 < k → (q.0 < r) ⊎ ((q.0 ≡ r) ⊎ (r < q.0)) → (next s q.0 ≡ k) ⊎ (child s q.0 ≡ k) → P k
            last p (inl h) w = old (q.0, h, w) p
            last p (inr (inl e)) (inl w) = let g : next s r ≡ k = ap (next s) (sym e) ∙ w in nx g (λ y. omega arith)
            last p (inr (inl e)) (inr w) = let g : child s r ≡ k = ap (child s) (sym e) ∙ w in ch g (λ y. omega arith)
            last p (inr (inr h)) w = absurd (omega (arith, q.1))

            go : (0 < k) ⊎ ((0 ≡ k) ⊎ (k < 0)) → P k
            go (inl p) = last p (ℕ-trichotomy q.0 r) q.2
            go (inr (inl e)) = z (sym e)
            go (inr (inr h)) = absurd (omega arith)

        by_order : (k : ℕ) → k < suc r → k < rows s → (k < r) ⊎ ((k ≡ r) ⊎ (r < k)) → Reached s u k
        by_order k h g (inl y) = reached_stays k (not_higher k (omega arith)) (λ e. omega arith) (f.reached k y g)
        by_order k h g (inr (inl e)) = subst (Reached s u) (sym e) own_reached
        by_order k h g (inr (inr y)) = absurd (omega arith)
