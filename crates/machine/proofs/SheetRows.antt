-- The answer rows of every sheet that fits, read off the program's store after the walk.
use mathlib.Core.Path.{◌≡◌, refl, sym, ap, ◌∙◌, subst}
use mathlib.Core.Logic.{inl, inr}
use mathlib.Core.List.Memᴰ.{head as here}
use mathlib.Core.List.Memᴰ.{tail as there}
use mathlib.Core.List.{List, [], ◌∷◌, ◌++◌, map, Memᴰ as Mem}
use mathlib.Core.Bool.{Bool, true, false, not, ◌&&◌}
use Prim.Native.Nat.{ℕ, suc, ◌+◌, ◌*◌, ◌/◌, ◌<◌, ◌≤◌}
use native.Mathlib.Omega.{arith}
use lib.ListN.{length, get_or}
use lib.Dec.{eqb, leb, T, eqb→eq}
use borrow.Author.Tests.{le-leb, eqb-true, eqb-false}
use Rattle.definition.specs.Basics.{when◌then◌else◌, filter, final, count, from, head, concat_map}
use Rattle.definition.specs.Sheet.{Sheet, kind, rows, is, child, holder}
use Rattle.definition.specs.Outside.{Outside}
use Rattle.definition.specs.Walk.{Event, visit, after, walk}
use Rattle.definition.specs.Scope.{Moment, start, history, visit_of, visited, within, around}
use Rattle.definition.specs.Question.{open_on, receiver}
use Rattle.definition.specs.Answer.{eight, let_row, identifier_row, host_row, instance_row, literal_rows, member_row, function_rows}
use Rattle.definition.proofs.Lists.Tests.{true_of, and_left, and_right, eqb_of}
use Rattle.definition.proofs.Lists.Members.{map_mem, filter_mem, from_mem, count_filter}
use Rattle.definition.proofs.Format.Links.{Rises, child_held}
use Rattle.definition.proofs.Format.Facts.{SheetFacts}
use Rattle.definition.proofs.Walk.Fits.{Fits}
use Rattle.definition.proofs.Walk.Rows.{kind_not_zero}
use Rattle.definition.proofs.Walk.Whole.{statement_walked}
use Rattle.definition.proofs.Walk.Around.{around_walks}
use Rattle.definition.proofs.Walk.Once.{visit_of_lem, visits_once}
use Rattle.definition.proofs.Walk.Told.{Told, t_visit, told}
use Rattle.definition.proofs.Closure.Following.{walked_visited, walks_range}
use Rattle.machine.specs.Machine.{cell, Store, list_at, seen_in, code_of, four_words}
use Rattle.machine.specs.Reads.{answer_row, identifier_answer, hands_on, literals_in, meaning_of_node, row_words}
use Rattle.machine.proofs.StoreAgrees.{StoreAgrees}
use Rattle.machine.proofs.AfterRows.{All, al_none, al_one, is_member_call, member_values, member_words_lem, member_none, member_row_lem, literal_words}
use Rattle.machine.proofs.AnswerRows.{eight_full, let_written, identifier_written, host_written, instance_written, literal_written, function_written}
use Rattle.machine.proofs.GlobalBound.{count_moments, count_less}
use Rattle.machine.proofs.HiddenRows.{visited_event, nonzero, visit_range, hidden_is_base}

all_of : (p : ℕ → Bool) (xs : List ℕ) → ((x : ℕ) → Mem x xs → p x ≡ true) → All p xs
all_of p [] h = al_none
all_of p (x ∷ xs) h = al_one (h x (here refl)) (all_of p xs (λ y m. h y (there m)))

module _ (n : ℕ) {O : Outside} {s : Sheet} (ok : Fits O s) (fa : SheetFacts n s) (o : Store) (k : StoreAgrees O s (history O s) o) (enough : rows s ≤ length o.table / 8) where
  in_table : (r : ℕ) → r < rows s → r < length o.table / 8
  in_table r l = omega arith

  -- a row that is visited after its parts is visited once
  visit_once : (K r : ℕ) → r < rows s → T (leb 20 K) → T (not (eqb 0 K)) → T (is s K r) → after s r ≡ visit r ∷ []
      → (m : Moment) × (visit_of (history O s) r ≡ m ∷ []) × Mem m (history O s) × (m.event ≡ visit r)
  visit_once K r lr h_k n_k t e =
      let nz : r ≡ 0 → ⊥ = kind_not_zero ok K r n_k t in
      let w = walked_visited ok r (statement_walked ok K r lr h_k t) e in (
        w.0,
        subst (λ (j : ℕ). visit_of (history O s) j ≡ w.0 ∷ []) w.2 (visit_of_lem ok w.0 w.1 (λ e. nz (sym w.2 ∙ e))),
        w.1,
        visited_event w.0.event r w.2 nz,
      )

  pub let_rows : (r : ℕ) → r < rows s → T (is s 29 r) → map (λ vs. eight (r ∷ vs)) (let_row s (history O s) r) ≡ answer_row r (row_words o.table r) ∷ []
  let_rows r lr t = let_written O s (history O s) o k r (kind_not_zero ok 29 r tt t) (in_table r lr) (true_of (is s 29 r) t)

  -- an identifier has no row where a method call on a class hides it
  pub identifier_rows : (r : ℕ) → r < rows s → T (is s 50 r)
      → map (λ vs. eight (r ∷ vs)) (identifier_row s (history O s) r)
      ≡ (when eqb (cell o.table r 4) 0 then identifier_answer r (row_words o.table r) ∷ [] else [])
  identifier_rows r lr t =
      let q : kind s r ≡ 50 = eqb→eq (kind s r) 50 t in
      let v = visit_once 50 r lr tt tt t (rw q) in
      identifier_written O s (history O s) o k r (kind_not_zero ok 50 r tt t) (in_table r lr) (true_of (is s 50 r) t) v.0 v.1 (hidden_is_base n ok fa r lr t v.0 v.1)

  pub host_rows : (r : ℕ) → r < rows s → T (is s 51 r) → map (λ vs. eight (r ∷ vs)) (host_row s (history O s) r) ≡ answer_row r (row_words o.table r) ∷ []
  host_rows r lr t =
      let q : kind s r ≡ 51 = eqb→eq (kind s r) 51 t in
      let v = visit_once 51 r lr tt tt t (rw q) in
      host_written O s (history O s) o k r (kind_not_zero ok 51 r tt t) (in_table r lr) (true_of (is s 51 r) t) v.0 v.1

  pub instance_rows : (r : ℕ) → r < rows s → T (is s 55 r) → map (λ vs. eight (r ∷ vs)) (instance_row s (history O s) r) ≡ answer_row r (row_words o.table r) ∷ []
  instance_rows r lr t =
      let q : kind s r ≡ 55 = eqb→eq (kind s r) 55 t in
      let v = visit_once 55 r lr tt tt t (rw q) in
      instance_written O s (history O s) o k r (kind_not_zero ok 55 r tt t) (in_table r lr) (true_of (is s 55 r) t) v.0 v.1

  child_below : (r : ℕ) → r < rows s → child s r < rows s
  child_below r l = go (ok.links.children r l)
    where
      go : Rises s r (child s r) → child s r < rows s
      go (inl e) = omega (arith, e)
      go (inr q) = q.1

  within_below : (m : Moment) (r : ℕ) → Mem m (history O s) → m.event ≡ visit r → within s m < rows s
  within_below m r q e = go (subst (λ (v : Event). Told s (around s m.stack) v) e (told ok m q))
    where
      by : (fs : List ℕ) → ((g : ℕ) → Mem g fs → g < rows s) → head fs < rows s
      by [] h = ok.some_row
      by (g ∷ gs) h = h g (here refl)

      go : Told s (around s m.stack) (visit r) → within s m < rows s
      go (t_visit h w) = by (around s m.stack) (λ g u. walks_range ok g (around_walks ok r g w (subst (λ (fs : List ℕ). Mem g fs) h u)).0)

  -- a literal has a row for each source, seen from the function in which it stands
  pub literal_rows_lem : (r : ℕ) → r < rows s → T (is s 52 r)
      → literal_rows s (history O s) r ≡ map (λ y. seen_in s (meaning_of_node y) y.two 0 (cell o.table r 1) o) (list_at o (8 * child s r + 6))
  unfolding row_words
  literal_rows_lem r lr t =
      let q : kind s r ≡ 52 = eqb→eq (kind s r) 52 t in
      let v = visit_once 52 r lr tt tt t (rw q) in
      let nz : r ≡ 0 → ⊥ = kind_not_zero ok 52 r tt t in
      let u : four_words (1 ∷ within s v.0 ∷ []) ∷ [] ≡ row_words o.table r ∷ [] =
      subst (λ (ms : List Moment). map (λ m. four_words (1 ∷ within s m ∷ [])) ms ≡ map (λ m. row_words o.table r) ms)
      v.1 (literal_words O s (history O s) o k r nz (in_table r lr) (true_of (is s 52 r) t)) in
      let c : within s v.0 ≡ cell o.table r 1 = ap (λ (x : List (List ℕ)). get_or (get_or x 0 []) 1 0) u in
      literal_written O s (history O s) o k r nz (in_table r lr) (true_of (is s 52 r) t) v.0 v.1
      (in_table (cell o.table r 1) (subst (λ (f : ℕ). f < rows s) c (within_below v.0 r v.2 v.3))) (in_table (child s r) (child_below r lr))

  -- a function has a row of counts, one for each capture, one for each escaping slot
  pub function_rows_lem : (r : ℕ) → r < rows s → T (is s 6 r) → (ks : List ℕ)
      → ks ≡ filter (λ j. hands_on s r j (concat_map (λ g. list_at o (8 * g + 6)) (literals_in s o.table r))) (from 0 (cell o.table r 5))
      → function_rows s (history O s) r
      ≡ (20 ∷ cell o.table r 5 ∷ length (list_at o (8 * r + 6)) ∷ length ks ∷ []) ∷ map (λ y. code_of s (meaning_of_node y) y.two 0) (list_at o (8 * r + 6)) ++ map (λ j. 5 ∷ j ∷ r ∷ 1 ∷ []) ks
  function_rows_lem r lr t ks e =
      function_written O s (history O s) o k r (kind_not_zero ok 6 r tt t) (in_table r lr) ok.header enough
      (all_of (λ g. leb (suc g) (length o.table / 8)) (literals_in s o.table r)
      (λ g m. below g (map_mem (child s) g
      (filter (λ l. is s 52 l && (eqb (cell o.table l 0) 1 && eqb (cell o.table l 1) r)) (from 0 (rows s))) m)))
      ks e
    where
      below : (g : ℕ)
          → (l : ℕ)
          × Mem l
          (filter (λ l. is s 52 l && (eqb (cell o.table l 0) 1 && eqb (cell o.table l 1) r)) (from 0 (rows s)))
          × (g ≡ child s l)
          → leb (suc g) (length o.table / 8) ≡ true
      below g q =
          let f = filter_mem (λ l. is s 52 l && (eqb (cell o.table l 0) 1 && eqb (cell o.table l 1) r)) q.0 (from 0 (rows s)) q.1 in
          let lt : q.0 < rows s = omega (arith, (from_mem q.0 0 (rows s) f.0).1) in
          le-leb (suc g) (length o.table / 8) (omega (arith, child_below q.0 lt, q.2))

  -- a member is the callee of one call, the row that holds it
  at_holder : (r : ℕ) → (r ≡ 0 → ⊥) → (m : Moment) → Mem m (history O s) → T (is_member_call s r m) → (visited m.event ≡ holder s r) × T (is s 59 (visited m.event))
  at_holder r nz m q h =
      let v : ℕ = visited m.event in
      let front : T (is s 59 v && not (eqb (receiver s (visited m.event) (open_on s m.stack)) 0)) =
      and_left (is s 59 v && not (eqb (receiver s (visited m.event) (open_on s m.stack)) 0)) (eqb (child s v) r) h in
      let call : T (is s 59 v) = and_left (is s 59 v) (not (eqb (receiver s (visited m.event) (open_on s m.stack)) 0)) front in
      let c : child s v ≡ r = eqb→eq (child s v) r (and_right (is s 59 v && not (eqb (receiver s (visited m.event) (open_on s m.stack)) 0)) (eqb (child s v) r) h) in
      let lv : v < rows s = visit_range n ok fa m v q (visited_event m.event v refl (kind_not_zero ok 59 v tt call)) in
      (sym (sym (ap (holder s) c) ∙ child_held s ok.links v lv (nonzero (child s v) (λ z. nz (sym c ∙ z)))), call)

  one_call : (r : ℕ) → r < rows s → T (is s 54 r) → count (is_member_call s r) (history O s) ≤ 1
  one_call r lr t = go (eqb (holder s r) 0) refl
    where
      nz : r ≡ 0 → ⊥
      nz = kind_not_zero ok 54 r tt t

      count_false : (xs : List Moment) → count (λ m. false) xs ≡ 0
      count_false [] = refl
      count_false (x ∷ xs) = omega (arith, count_false xs)

      go : (u : Bool) → eqb (holder s r) 0 ≡ u → count (is_member_call s r) (history O s) ≤ 1
      go true e =
          omega (
            arith,
            count_less (is_member_call s r) (λ m. false) (history O s)
                (λ m q h. let w = at_holder r nz m q h in kind_not_zero ok 59 (visited m.event) tt w.1 (w.0 ∙ eqb-true (holder s r) 0 e)),
            count_false (history O s),
          )
      go false e =
          omega (
            arith,
            count_less (is_member_call s r) (λ m. eqb (visited m.event) (holder s r)) (history O s) (λ m q h. eqb_of (visited m.event) (holder s r) (at_holder r nz m q h).0),
            count_moments s (λ x. eqb (visited x) (holder s r)) (start O) (walk s),
            visits_once ok (holder s r) (eqb-false (holder s r) 0 e),
          )

  -- a member has a row where it is a class method's callee
  pub member_rows : (r : ℕ) → r < rows s → T (is s 54 r)
      → map (λ vs. eight (r ∷ vs)) (member_row O s (history O s) r) ≡ (when eqb (cell o.table r 0) 0 then [] else answer_row r (row_words o.table r) ∷ [])
  unfolding row_words
  member_rows r lr t =
      ap (map (λ vs. eight (r ∷ vs))) (member_row_lem O s ok.header (history O s) o k r nz (in_table r lr))
      ∙ by (filter (is_member_call s r) (history O s)) refl
    where
      nz : r ≡ 0 → ⊥
      nz = kind_not_zero ok 54 r tt t

      few : length (filter (is_member_call s r) (history O s)) ≤ 1
      few = omega (arith, count_filter (is_member_call s r) (history O s), one_call r lr t)

      none : filter (is_member_call s r) (history O s) ≡ [] → row_words o.table r ≡ 0 ∷ 0 ∷ 0 ∷ 0 ∷ []
      none e = member_none O s ok.header (history O s) o k r nz (in_table r lr) (true_of (is s 54 r) t) (ap final e)

      one : (m : Moment) → filter (is_member_call s r) (history O s) ≡ m ∷ [] → four_words (member_values O s r m) ∷ [] ≡ row_words o.table r ∷ []
      one m e =
          subst (λ (ms : List Moment). map (λ m. four_words (member_values O s r m)) (final ms)
          ≡ map (λ m. row_words o.table r) (final ms))
          e (member_words_lem O s ok.header (history O s) o k r nz (in_table r lr) (true_of (is s 54 r) t))

      by : (ms : List Moment) → filter (is_member_call s r) (history O s) ≡ ms
          → map (λ vs. eight (r ∷ vs)) (map (member_values O s r) (filter (is_member_call s r) (history O s))) ≡ (when eqb (cell o.table r 0) 0 then [] else answer_row r (row_words o.table r) ∷ [])
      by [] e =
          let w : cell o.table r 0 ≡ 0 = ap (λ (ws : List ℕ). get_or ws 0 0) (none e) in
          ap (λ (ms : List Moment). map (λ vs. eight (r ∷ vs)) (map (member_values O s r) ms)) e ∙ sym (ap (λ (x : ℕ). when eqb x 0 then [] else answer_row r (row_words o.table r) ∷ []) w)
      by (m ∷ []) e =
          let w : 1 ≡ cell o.table r 0 = ap (λ (x : List (List ℕ)). get_or (get_or x 0 []) 0 0) (one m e) in
          ap (λ (ms : List Moment). map (λ vs. eight (r ∷ vs)) (map (member_values O s r) ms)) e
          ∙ ap (λ (x : List ℕ). x ∷ []) (eight_full r (member_values O s r m) refl)
          ∙ ap (λ (x : List (List ℕ)). map (answer_row r) x) (one m e)
          ∙ ap (λ (x : ℕ). when eqb x 0 then [] else answer_row r (row_words o.table r) ∷ []) w
      by (m ∷ m' ∷ ms) e = absurd (omega (arith, few, ap length e))
