-- The answer rows that are written from the program's store are the definition's.
use mathlib.Core.Path.{◌≡◌, refl, sym, ap, ◌∙◌, subst}
use mathlib.Core.List.{List, [], ◌∷◌, ◌++◌, map, append-nil}
use mathlib.Core.Bool.{Bool, true, false, not, ◌&&◌, true≢false}
use Prim.Native.Nat.{ℕ, suc, ◌+◌, ◌*◌, ◌/◌, ◌<◌, ◌≤◌}
use native.Mathlib.Omega.{arith}
use lib.ListN.{length, get_or, take}
use lib.Dec.{eqb, leb}
use borrow.Author.Tests.{leb-true}
use Rattle.definition.specs.Basics.{when◌then◌else◌, filter, place, concat_map, from, bit, head}
use Rattle.definition.specs.Sheet.{Sheet, kind, is, a, b, child, kids_of, rows}
use Rattle.definition.specs.Outside.{Outside}
use Rattle.definition.specs.Meaning.{Meaning, nothing, function, class, global, toplevel, variable, is_variable, owner_of, class_number, is_class}
use Rattle.definition.specs.Scope.{Moment, within, lookup, visit_of, declaring_of, declaration}
use Rattle.definition.specs.Slots.{is_mutable, code, open_locals, local_count}
use Rattle.definition.specs.Capture.{Use, use_at, distance, same, captures, seen_from, sources, escaping}
use Rattle.definition.specs.Answer.{eight, with_fourth, is_callee_base, let_row, identifier_row, host_row, instance_row, literal_rows, function_rows}
use Rattle.definition.proofs.Lists.Members.{map_map}
use Rattle.definition.proofs.Closure.Values.{short, code_short, no_fourth}
use Rattle.machine.specs.Machine.{cell, Store, list_at, seen_in, code_of, four_words, with_distance}
use Rattle.machine.specs.Reads.{answer_row, identifier_answer, hands_on, literals_in, meaning_of_node, row_words}
use Rattle.machine.proofs.StoreParts.{is_hidden}
use Rattle.machine.proofs.StoreAgrees.{StoreAgrees}
use Rattle.machine.proofs.AfterRows.{All, al_none, al_one, identifier_words, host_words, instance_words, literal_words, let_words}
use Rattle.machine.proofs.AfterLists.{map_all, captured_nodes, captures_count, sources_nodes, escaping_nodes}

pub eight_full : (r : ℕ) (vs : List ℕ) → leb (length vs) 4 ≡ true → eight (r ∷ vs) ≡ answer_row r (four_words vs)
eight_full r [] h = refl
eight_full r (x ∷ []) h = refl
eight_full r (x ∷ y ∷ []) h = refl
eight_full r (x ∷ y ∷ z ∷ []) h = refl
eight_full r (x ∷ y ∷ z ∷ w ∷ []) h = refl
eight_full r (x ∷ y ∷ z ∷ w ∷ v ∷ vs) h = let l : length (x ∷ y ∷ z ∷ w ∷ v ∷ vs) ≤ 4 = leb-true (length (x ∷ y ∷ z ∷ w ∷ v ∷ vs)) 4 h in absurd (omega arith)

-- an identifier that is not captured has no distance
own_distance : (u : Use) → (is_variable u.means && not (eqb (owner_of u.means) (head u.funs))) ≡ false → distance u ≡ 0
own_distance u = go (is_variable u.means) u.funs
  where
    go : (v : Bool) (fs : List ℕ) → (v && not (eqb (owner_of u.means) (head fs))) ≡ false → (when v then place (eqb (owner_of u.means)) fs else 0) ≡ 0
    go true [] q = refl
    go true (f ∷ fs) q = here (eqb (owner_of u.means) f) q
      where
        here : (t : Bool) → not t ≡ false → (when t then 0 else suc (place (eqb (owner_of u.means)) fs)) ≡ 0
        here true q = refl
        here false q = absurd (true≢false q)
    go false fs q = refl

-- the code of what is not captured
code_own : (s : Sheet) (h : List Moment) (d : Meaning) (k : ℕ) → (eqb (get_or (code s h d k) 0 0) 6 ≡ false) × (eqb (get_or (four_words (code s h d k)) 0 0) 6 ≡ false)
code_own s h nothing k = (refl, refl)
code_own s h (function f) k = (refl, refl)
code_own s h (class c) k = (refl, refl)
code_own s h (global g m) k = (refl, refl)
code_own s h (toplevel r) k = (refl, refl)
code_own s h (variable r f) k = go (is s 11 r)
  where
    own_code : Bool → List ℕ
    own_code t = when t then 4 ∷ place (eqb r) (kids_of s 11 f) ∷ f ∷ [] else 5 ∷ k ∷ f ∷ bit (eqb (b s r) 1) ∷ []

    go : (t : Bool) → (eqb (get_or (own_code t) 0 0) 6 ≡ false) × (eqb (get_or (four_words (own_code t)) 0 0) 6 ≡ false)
    go true = (refl, refl)
    go false = (refl, refl)

-- the answer row of an identifier, from what is stored of it
identifier_full : (s : Sheet) (h : List Moment) (r : ℕ) (u : Use)
    → eight (r ∷ with_fourth (distance u) (seen_from s h (head u.funs) u)) ≡ identifier_answer r (four_words (with_distance (distance u) (seen_from s h (head u.funs) u)))
unfolding with_distance
identifier_full s h r u = go (is_variable u.means && not (eqb (owner_of u.means) (head u.funs))) (own_distance u)
  where
    own : List ℕ
    own = code s h u.means u.slot

    seen : Bool → List ℕ
    seen t = when t then 6 ∷ place (same u) (captures s h (head u.funs)) ∷ 0 ∷ bit (is_mutable s u.means) ∷ [] else own

    go : (t : Bool) → (t ≡ false → distance u ≡ 0) → eight (r ∷ with_fourth (distance u) (seen t)) ≡ identifier_answer r (four_words (with_distance (distance u) (seen t)))
    go true z = refl
    go false z =
        let c = code_own s h u.means u.slot in
        ap (λ (n : ℕ). eight (r ∷ with_fourth n own)) (z refl) ∙ no_fourth r own (code_short s h u.means u.slot) ∙ eight_full r own (code_short s h u.means u.slot)
        ∙ sym (rw (c.0, c.1))

all_map : {A : Type 0} (f : A → List ℕ) → ((x : A) → short (f x) ≡ true) → (xs : List A) → All short (map f xs)
all_map f h [] = al_none
all_map f h (x ∷ xs) = al_one (h x) (all_map f h xs)

-- answer rows of at most four values
whole : (r : ℕ) {vss : List (List ℕ)} → All short vss → map (λ vs. eight (r ∷ vs)) vss ≡ map (answer_row r) (map four_words vss)
whole r {vss} al = map_all short (λ vs. eight (r ∷ vs)) (λ vs. answer_row r (four_words vs)) (λ vs q. eight_full r vs q) al ∙ sym (map_map (answer_row r) four_words vss)

-- a row with one moment
once : (f : Moment → List ℕ) (ws : List ℕ) (ms : List Moment) (m : Moment) → ms ≡ m ∷ [] → map (λ m. four_words (f m)) ms ≡ map (λ m. ws) ms → map four_words (map f ms) ≡ ws ∷ []
once f ws ms m e q = map_map four_words f ms ∙ q ∙ ap (map (λ m. ws)) e

module _ (O : Outside) (s : Sheet) (h : List Moment) (o : Store) (k : StoreAgrees O s h o) (r : ℕ) (nz : r ≡ 0 → ⊥) (l : r < length o.table / 8) where
  pub let_written : is s 29 r ≡ true → map (λ vs. eight (r ∷ vs)) (let_row s h r) ≡ answer_row r (row_words o.table r) ∷ []
  let_written hr = whole r (lets (declaring_of h r)) ∙ ap (map (answer_row r)) (let_words O s h o k r nz l hr)
    where
      lets : (ms : List Moment) → All short (take 1 (map (λ m. code s h (declaration s m) (open_locals s m.stack)) ms ++ ((0 ∷ []) ∷ [])))
      lets [] = al_one refl al_none
      lets (m ∷ ms) = al_one (code_short s h (declaration s m) (open_locals s m.stack)) al_none

  -- an identifier, if the machine hides it where the definition does
  pub identifier_written : is s 50 r ≡ true → (m : Moment) → visit_of h r ≡ m ∷ [] → is_hidden s h r ≡ (is_callee_base s r && is_class (use_at s m).means)
      → map (λ vs. eight (r ∷ vs)) (identifier_row s h r) ≡ (when eqb (cell o.table r 4) 0 then identifier_answer r (row_words o.table r) ∷ [] else [])
  identifier_written hr m e eh =
      ap (λ (ms : List Moment). map (λ vs. eight (r ∷ vs)) (map seen (filter (λ m. not (is_callee_base s r && is_class (use_at s m).means)) ms))) e
      ∙ go (is_callee_base s r && is_class (use_at s m).means) (k.hidden_is r l ∙ ap bit eh)
    where
      seen : Moment → List ℕ
      seen m = with_fourth (distance (use_at s m)) (seen_from s h (within s m) (use_at s m))

      stored : Moment → List ℕ
      stored m = with_distance (distance (use_at s m)) (seen_from s h (within s m) (use_at s m))

      words : four_words (stored m) ∷ [] ≡ row_words o.table r ∷ []
      words = subst (λ (ms : List Moment). map (λ m. four_words (stored m)) ms ≡ map (λ m. row_words o.table r) ms) e (identifier_words O s h o k r nz l hr)

      one : eight (r ∷ seen m) ∷ [] ≡ identifier_answer r (row_words o.table r) ∷ []
      one = ap (λ (x : List ℕ). x ∷ []) (identifier_full s h r (use_at s m)) ∙ ap (map (identifier_answer r)) words

      go : (t : Bool) → cell o.table r 4 ≡ bit t
          → map (λ vs. eight (r ∷ vs)) (map seen (when not t then m ∷ [] else []))
          ≡ (when eqb (cell o.table r 4) 0 then identifier_answer r (row_words o.table r) ∷ [] else [])
      go true c = rw c
      go false c = rw c one

  pub host_written : is s 51 r ≡ true → (m : Moment) → visit_of h r ≡ m ∷ [] → map (λ vs. eight (r ∷ vs)) (host_row s h r) ≡ answer_row r (row_words o.table r) ∷ []
  host_written hr m e =
      whole r (all_map (λ m. (when eqb (within s m) (b s 0) then 7 else 8) ∷ []) (λ m. refl) (visit_of h r))
      ∙ ap (map (answer_row r)) (once (λ m. (when eqb (within s m) (b s 0) then 7 else 8) ∷ []) (row_words o.table r) (visit_of h r) m e (host_words O s h o k r nz l hr))

  pub instance_written : is s 55 r ≡ true → (m : Moment) → visit_of h r ≡ m ∷ [] → map (λ vs. eight (r ∷ vs)) (instance_row s h r) ≡ answer_row r (row_words o.table r) ∷ []
  instance_written hr m e =
      whole r (all_map (λ m. 2 ∷ class_number (lookup (a s r) m.stack) ∷ []) (λ m. refl) (visit_of h r))
      ∙ ap (map (answer_row r)) (once (λ m. 2 ∷ class_number (lookup (a s r) m.stack) ∷ []) (row_words o.table r) (visit_of h r) m e (instance_words O s h o k r nz l hr))

  -- a literal: a row for each source, from the function in which it stands
  pub literal_written : is s 52 r ≡ true → (m : Moment) → visit_of h r ≡ m ∷ [] → cell o.table r 1 < length o.table / 8 → child s r < length o.table / 8
      → literal_rows s h r ≡ map (λ y. seen_in s (meaning_of_node y) y.two 0 (cell o.table r 1) o) (list_at o (8 * child s r + 6))
  unfolding row_words
  literal_written hr m e lf lg =
      let t : four_words (1 ∷ within s m ∷ []) ∷ [] ≡ row_words o.table r ∷ [] =
      subst (λ (ms : List Moment). map (λ m. four_words (1 ∷ within s m ∷ [])) ms ≡ map (λ m. row_words o.table r) ms) e (literal_words O s h o k r nz l hr) in
      let c : within s m ≡ cell o.table r 1 = ap (λ (x : List (List ℕ)). get_or (get_or x 0 []) 1 0) t in
      ap (concat_map (λ m. sources s h (within s m) (child s r))) e ∙ append-nil (sources s h (within s m) (child s r))
      ∙ ap (λ (f : ℕ). sources s h f (child s r)) c ∙ sources_nodes O s h o k (cell o.table r 1) (child s r) lf lg

  -- a function: counts, captures, escapes
  pub function_written : kind s 0 ≡ 0 → rows s ≤ length o.table / 8 → All (λ g. leb (suc g) (length o.table / 8)) (literals_in s o.table r)
      → (ks : List ℕ) → ks ≡ filter (λ j. hands_on s r j (concat_map (λ g. list_at o (8 * g + 6)) (literals_in s o.table r))) (from 0 (cell o.table r 5))
      → function_rows s h r
      ≡ (20 ∷ cell o.table r 5 ∷ length (list_at o (8 * r + 6)) ∷ length ks ∷ []) ∷ map (λ y. code_of s (meaning_of_node y) y.two 0) (list_at o (8 * r + 6)) ++ map (λ j. 5 ∷ j ∷ r ∷ 1 ∷ []) ks
  function_written hd en al ks ek =
      let es : escaping s h r ≡ ks = escaping_nodes O s hd h o k en r l al ∙ sym ek in
      let lc : local_count s h r ≡ cell o.table r 5 = sym (k.locals_is r l) in
      rw (es, lc, captures_count O s h o k r l, captured_nodes O s h o k r l)
