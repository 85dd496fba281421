-- The slots of a function that literals in it capture.
use mathlib.Core.Path.{◌≡◌, refl, sym, ap, ◌∙◌}
use mathlib.Core.Bool.{Bool, true, false, ◌&&◌, ◌||◌}
use mathlib.Core.List.{List, [], ◌∷◌, ◌++◌, map, map-append}
use Prim.Native.Nat.{ℕ, zero, suc, ◌+◌, ◌-◌, ◌*◌, ◌<◌}
use native.Mathlib.Omega.{arith}
use lib.Dec.{eqb}
use Rattle.std.specs.List.{list_any}
use lib.ListN.{length, get_or}
use borrow.Author.Tests.{eqb-true, ne_eqb}
use Rattle.definition.specs.Basics.{when◌then◌else◌, filter, from, concat_map}
use Rattle.definition.specs.Sheet.{Sheet, rows, child}
use Rattle.definition.specs.Slots.{is_mutable}
use Rattle.machine.specs.Machine.{Store, Node, cell, chain_to, list_at, code_of}
use Rattle.machine.specs.Reads.{answer_row, meaning_of_node, hands_on, literals_in, escaping_slots}
use Rattle.machine.proofs.Lists.{any_append}
use Rattle.definition.specs.Answer.{eight}
use Rattle.after.specs.Rows.{function_rows_in}
use Rattle.sink.specs.Sink.{Sink, emit, emit_all}
use Rattle.sink.proofs.SinkLaws.{emit_none, emit_first, emit_both}
use Rattle.fun_rows.proofs.ListLaws.{map_map}
use Rattle.fun_rows.specs.Literals.{stands_in, literal_chain, LiteralChains, captured_by, escapes, slots_asked}

-- is a capture node the mutable local of function f in slot j?
abbrev pub is_slot : Sheet → ℕ → ℕ → Node → Bool
is_slot s f j y = is_mutable s (meaning_of_node y) && eqb y.one f && eqb y.two j

-- an index above 0 is one more than the index below it
below : (i : ℕ) → 0 < i → i ≡ suc (i - 1)
below i l = omega arith

-- A chain of literals: its end, and its first.
pub chain_end : (n : ℕ) (ns : List ℕ) (l : ℕ) → l ≡ 0 → literal_chain n ns l ≡ []
unfolding literal_chain
chain_end zero ns l e = refl
chain_end (suc n) ns l e = rw e

pub chain_none : (n : ℕ) (ns : List ℕ) (l : ℕ) → n ≡ 0 → literal_chain n ns l ≡ []
unfolding literal_chain
chain_none zero ns l e = refl
chain_none (suc n) ns l e = absurd (omega arith)

pub chain_one : (n : ℕ) (ns : List ℕ) (l : ℕ) → 0 < n → (l ≡ 0 → ⊥) → literal_chain n ns l ≡ l ∷ literal_chain (n - 1) ns (get_or ns l 0)
unfolding literal_chain
chain_one n ns l g f = ap (λ (m : ℕ). literal_chain m ns l) (below n g) ∙ ap (λ (t : Bool). when t then [] else l ∷ literal_chain (n - 1) ns (get_or ns l 0)) (ne_eqb l 0 f)

module _ (s : Sheet) (t q : List ℕ) (f j : ℕ) where
  pub captured_start : (hs ns : List ℕ) → f < rows s → LiteralChains s t hs ns → captured_by s t q f j (literal_chain (rows s) ns (get_or hs f 0)) ≡ escapes s t q f j
  unfolding escapes
  captured_start hs ns g h = ap (captured_by s t q f j) (h.chained f g)

  captured_nil : captured_by s t q f j [] ≡ false
  unfolding captured_by
  captured_nil = refl

  -- the same as a test of each literal
  pub captured_any : (ls : List ℕ) → list_any (λ l. hands_on s f j (chain_to q (cell t (child s l) 6))) ls ≡ captured_by s t q f j ls
  unfolding captured_by
  captured_any [] = refl
  captured_any (l ∷ ls) = ap (λ (b : Bool). hands_on s f j (chain_to q (cell t (child s l) 6)) || b) (captured_any ls)

-- The escaping slots, by that test.
filter_same : (p r : ℕ → Bool) → ((x : ℕ) → p x ≡ r x) → (xs : List ℕ) → filter p xs ≡ filter r xs
filter_same p r h [] = refl
filter_same p r h (x ∷ xs) = ap (λ (t : Bool). when t then x ∷ filter p xs else filter p xs) (h x) ∙ ap (λ (l : List ℕ). when r x then x ∷ l else l) (filter_same p r h xs)

filter_false : (p : ℕ → Bool) → ((x : ℕ) → p x ≡ false) → (xs : List ℕ) → filter p xs ≡ []
filter_false p h [] = refl
filter_false p h (x ∷ xs) = ap (λ (t : Bool). when t then x ∷ filter p xs else filter p xs) (h x) ∙ filter_false p h xs

captured_all : (s : Sheet) (o : Store) (f j : ℕ) (ls : List ℕ) → captured_by s o.table o.nodes f j ls ≡ hands_on s f j (concat_map (λ g. list_at o (8 * g + 6)) (map (child s) ls))
unfolding captured_by list_at
captured_all s o f j [] = refl
captured_all s o f j (l ∷ ls) =
    ap (λ (b : Bool). hands_on s f j (chain_to o.nodes (cell o.table (child s l) 6)) || b) (captured_all s o f j ls)
    ∙ sym (any_append (is_slot s f j) (chain_to o.nodes (cell o.table (child s l) 6)) (concat_map (λ g. list_at o (8 * g + 6)) (map (child s) ls)))

escaping_slots_lem : (s : Sheet) (o : Store) (f : ℕ) → escaping_slots s o f ≡ filter (escapes s o.table o.nodes f) (from 0 (cell o.table f 5))
unfolding escapes
escaping_slots_lem s o f =
    filter_same (λ j. hands_on s f j (concat_map (λ g. list_at o (8 * g + 6)) (literals_in s o.table f))) (escapes s o.table o.nodes f)
    (λ j. sym (captured_all s o f j (filter (stands_in s o.table f) (from 0 (rows s))))) (from 0 (cell o.table f 5))

-- no slot escapes where no literal stands in the function
asked_slots : (s : Sheet) (t q hs ns : List ℕ) (f : ℕ) → f < rows s → LiteralChains s t hs ns → filter (escapes s t q f) (from 0 (slots_asked t hs f)) ≡ filter (escapes s t q f) (from 0 (cell t f 5))
asked_slots s t q hs ns f g h = go (eqb (get_or hs f 0) 0) refl
  where
    never : get_or hs f 0 ≡ 0 → (j : ℕ) → escapes s t q f j ≡ false
    never e j = sym (captured_start s t q f j hs ns g h) ∙ ap (captured_by s t q f j) (chain_end (rows s) ns (get_or hs f 0) e) ∙ captured_nil s t q f j

    go : (b : Bool) → eqb (get_or hs f 0) 0 ≡ b → filter (escapes s t q f) (from 0 (when b then 0 else cell t f 5)) ≡ filter (escapes s t q f) (from 0 (cell t f 5))
    go true e = sym (filter_false (escapes s t q f) (never (eqb-true (get_or hs f 0) 0 e)) (from 0 (cell t f 5)))
    go false e = refl

pub slots_found : (s : Sheet) (o : Store) (hs ns : List ℕ) (f n : ℕ) → f < rows s → LiteralChains s o.table hs ns → n ≡ slots_asked o.table hs f
    → filter (escapes s o.table o.nodes f) (from 0 (n - 0)) ≡ escaping_slots s o f
slots_found s o hs ns f n g h e =
    let z : n - 0 ≡ n = omega arith in
    ap (λ (i : ℕ). filter (escapes s o.table o.nodes f) (from 0 i)) (z ∙ e) ∙ asked_slots s o.table o.nodes hs ns f g h ∙ sym (escaping_slots_lem s o f)

-- Rows for the numbers of a list: for one number more, and at its end.
module _ (row : ℕ → List ℕ) where
  pub rows_rest : {m : ℕ} {ms all : List ℕ} (k : Sink) {x : Sink} → all ≡ m ∷ ms → x ≡ emit (row m) k → emit_all (map row ms) x ≡ emit_all (map row all) k
  unfolding emit_all
  rows_rest {m} {ms} k e h = ap (emit_all (map row ms)) h ∙ ap (λ (l : List ℕ). emit_all (map row l) k) (sym e)

  pub rows_end : {ms : List ℕ} (k : Sink) → ms ≡ [] → k ≡ emit_all (map row ms) k
  rows_end k e = emit_none k ∙ ap (λ (l : List ℕ). emit_all (map row l) k) (sym e)

-- the row of a capture, and of an escaping slot
abbrev captured_row : Sheet → ℕ → Node → List ℕ
captured_row s f u = eight (f ∷ code_of s (meaning_of_node u) u.two 0)

abbrev pub slot_row : ℕ → ℕ → List ℕ
slot_row f j = eight (f ∷ 5 ∷ j ∷ f ∷ 1 ∷ [])

rows_split : (w : List ℕ → List ℕ) (g : Node → List ℕ) (h : ℕ → List ℕ) (r : List ℕ) (xs : List Node) (ys : List ℕ)
    → map w (r ∷ map g xs ++ map h ys) ≡ w r ∷ map (λ x. w (g x)) xs ++ map (λ y. w (h y)) ys
rows_split w g h r xs ys =
    ap (λ (l : List (List ℕ)). w r ∷ l)
    (map-append w (map g xs) (map h ys) ∙ ap (λ (l : List (List ℕ)). l ++ map w (map h ys)) (map_map w g xs) ∙ ap (λ (l : List (List ℕ)). map (λ x. w (g x)) xs ++ l) (map_map w h ys))

-- the rows of a function: its counts, what it captures, its escaping slots
pub function_rows_lem : (s : Sheet) (o : Store) (f a b e l : ℕ) (k : Sink) {x y z : Sink} → l ≡ cell o.table f 6 → a ≡ cell o.table f 5 → b ≡ length (chain_to o.nodes l)
    → e ≡ length (escaping_slots s o f) → x ≡ emit (answer_row f (20 ∷ a ∷ b ∷ e ∷ [])) k
    → y ≡ emit_all (map (captured_row s f) (chain_to o.nodes l)) x
    → z ≡ emit_all (map (slot_row f) (escaping_slots s o f)) y
    → z ≡ emit_all (map (λ vs. eight (f ∷ vs)) (function_rows_in s o f)) k
unfolding function_rows_in list_at
function_rows_lem s o f a b e l k {x} hl ha hb he hx hy hz =
    emit_first (answer_row f (20 ∷ a ∷ b ∷ e ∷ [])) (map (captured_row s f) (chain_to o.nodes l) ++ map (slot_row f) (escaping_slots s o f)) k hx
    (emit_both (map (captured_row s f) (chain_to o.nodes l)) (map (slot_row f) (escaping_slots s o f)) x hy hz)
    ∙ ap (λ (v : List (List ℕ)). emit_all v k) (counts
    ∙ sym (rows_split (λ vs. eight (f ∷ vs)) (λ u. code_of s (meaning_of_node u) u.two 0) (λ j. 5 ∷ j ∷ f ∷ 1 ∷ [])
    whole (chain_to o.nodes (cell o.table f 6)) (escaping_slots s o f)))
  where
    whole : List ℕ
    whole = 20 ∷ cell o.table f 5 ∷ length (chain_to o.nodes (cell o.table f 6)) ∷ length (escaping_slots s o f) ∷ []

    counts : answer_row f (20 ∷ a ∷ b ∷ e ∷ []) ∷ map (captured_row s f) (chain_to o.nodes l) ++ map (slot_row f) (escaping_slots s o f)
        ≡ answer_row f whole ∷ map (captured_row s f) (chain_to o.nodes (cell o.table f 6)) ++ map (slot_row f) (escaping_slots s o f)
    counts = rw (he, hb, ha, hl)
