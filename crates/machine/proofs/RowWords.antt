-- The code and values that the machine writes for a row are what the definition says at the row's last moment.
use mathlib.Core.Path.{◌≡◌, refl, sym, ap, ◌∙◌, subst}
use mathlib.Core.List.{List, [], ◌∷◌, ◌++◌, map, append-nil}
use mathlib.Core.Bool.{Bool, true, false, not, ◌||◌, ◌&&◌, true≢false}
use Prim.Native.Nat.{ℕ, ◌+◌, ◌*◌, ◌/◌, ◌<◌}
use lib.ListN.{length}
use lib.Dec.{eqb}
use borrow.Author.Tests.{ne_eqb, eqb-true, eqb-false}
use Rattle.definition.specs.Basics.{when◌then◌else◌, filter, any, final, place, bit, ◌∈?◌, head}
use Rattle.definition.specs.Sheet.{Sheet, is, a, b, child}
use Rattle.definition.specs.Outside.{Outside}
use Rattle.definition.specs.Meaning.{is_variable, row_of, owner_of, class_number}
use Rattle.definition.specs.Walk.{Event, enter, leave, loop, declare, bring, visit}
use Rattle.definition.specs.Scope.{Stack, Moment, lookup, around, inside, within, declared, visited, declares}
use Rattle.definition.specs.Slots.{is_mutable, open_locals, code}
use Rattle.definition.specs.Capture.{Use, use_at, distance, beyond, is_outer, same, captures, seen_from}
use Rattle.definition.specs.Classes.{method_named, own_methods}
use Rattle.definition.specs.Question.{open_on, receiver}
use Rattle.definition.proofs.Lists.Members.{filter_append}
use Rattle.machine.specs.Machine.{Node, Store, list_at, Scopes, current_function, lookup_meaning, lookup_slot}
use Rattle.machine.specs.Machine.{lookup_global, new_meaning, code_of, four_words, write_row, visits_kind, declares_let}
use Rattle.machine.specs.Machine.{lookup_distance, event_row, receiver_class, written_row, written_words, seen_in, with_distance, store_row}
use Rattle.machine.specs.Reads.{row_words}
use Rattle.machine.proofs.Nodes.{is_before}
use Rattle.machine.proofs.Lists.{only, any_append, place_map, place_append, final_snoc, eqb_same, eqb_self}
use Rattle.machine.proofs.ScopesAgree.{ScopesAgree, lookup_is, current_is, new_meaning_is}
use Rattle.machine.proofs.Questions.{slot_found, distance_found}
use Rattle.machine.proofs.Stacks.{WellFormed, owned_find, beyond_early}
use Rattle.machine.proofs.Captures.{node_of, captures_snoc}
use Rattle.machine.proofs.Globals.{Known, listed, listed_on, code_on, known_listed, code_is}
use Rattle.machine.proofs.Columns.{write_row_same, write_row_other}

-- the row that a moment writes, or 0
abbrev pub row_written : Sheet → Event → Stack → ℕ
row_written s e st =
    when declares_let s e || visits_kind s 50 e || visits_kind s 51 e || visits_kind s 52 e || visits_kind s 55 e then event_row e
    else when visits_kind s 30 e && is s 4 (a s (event_row e)) then a s (event_row e)
    else when visits_kind s 59 e && not (eqb (receiver s (event_row e) (open_on s st)) 0) then child s (event_row e)
    else 0

-- what it writes: code and values; of a literal the function in which it stands, of a class its parent
abbrev pub words_written : Outside → Sheet → List Moment → Moment → List ℕ
words_written O s h m =
    when declares_let s m.event then code s h (declared s (event_row m.event) (within s m)) (open_locals s m.stack)
    else when visits_kind s 50 m.event then with_distance (distance (use_at s m)) (seen_from s h (within s m) (use_at s m))
    else when visits_kind s 51 m.event then (when eqb (within s m) (b s 0) then 7 else 8) ∷ []
    else when visits_kind s 52 m.event then 1 ∷ within s m ∷ []
    else when visits_kind s 55 m.event then 2 ∷ class_number (lookup (a s (event_row m.event)) m.stack) ∷ []
    else when visits_kind s 30 m.event then 2 ∷ class_number (lookup (b s (a s (event_row m.event))) m.stack) ∷ []
    else 1 ∷ method_named (a s (child s (event_row m.event))) (own_methods O s (receiver s (event_row m.event) (open_on s m.stack))) ∷ []

-- does the identifier of a moment mean a local or argument of another function?
abbrev pub outside : Sheet → Moment → Bool
outside s m = is_variable (use_at s m).means && not (eqb (owner_of (use_at s m).means) (within s m))

-- a moment whose captured variable is among the captures, and whose global is among the numbered
pub record Stable (s : Sheet) (h : List Moment) (m : Moment) : Type 0 where
  pub captured : visits_kind s 50 m.event ≡ true → outside s m ≡ true → any (same (use_at s m)) (captures s h (within s m)) ≡ true
  pub use_listed : visits_kind s 50 m.event ≡ true → listed s h (use_at s m).means ≡ true
  pub let_listed : declares_let s m.event ≡ true → listed s h (declared s (event_row m.event) (within s m)) ≡ true

pub data WrittenBy (O : Outside) (s : Sheet) (h : List Moment) (ws : List ℕ) : List Moment → Type 0 where
  unwritten : ws ≡ 0 ∷ 0 ∷ 0 ∷ 0 ∷ [] → WrittenBy O s h ws []
  written : {m : Moment} → ws ≡ four_words (words_written O s h m) → Stable s h m → WrittenBy O s h ws (m ∷ [])

-- Captures are only added at the end.
grown : (s : Sheet) (h : List Moment) (m : Moment) (f : ℕ) → (ys : List Use) × (captures s (h ++ m ∷ []) f ≡ captures s h f ++ ys)
grown s h m f = go (is s 50 (visited m.event) && is_outer f (use_at s m)) (captures_snoc s h m f)
  where
    go : (t : Bool)
        → captures s (h ++ m ∷ []) f ≡ (when t then captures s h f ++ only (not (any (λ v. same v (use_at s m)) (captures s h f))) (use_at s m) else captures s h f)
        → (ys : List Use) × (captures s (h ++ m ∷ []) f ≡ captures s h f ++ ys)
    go true e = (only (not (any (λ v. same v (use_at s m)) (captures s h f))) (use_at s m), e)
    go false e = ([], e ∙ sym (append-nil (captures s h f)))

or_left : (x y : Bool) → x ≡ true → (x || y) ≡ true
or_left true y e = refl
or_left false y e = absurd (true≢false (sym e))

stable_on : (s : Sheet) (h : List Moment) (m' m : Moment) → Stable s h m → Stable s (h ++ m' ∷ []) m
stable_on s h m' m q =
    record {
      captured = λ v o.
          let g = grown s h m' (within s m) in
          ap (any (same (use_at s m))) g.1 ∙ any_append (same (use_at s m)) (captures s h (within s m)) g.0 ∙ or_left _ _ (q.captured v o);
      use_listed = λ v. listed_on s h m' (use_at s m).means (q.use_listed v);
      let_listed = λ v. listed_on s h m' (declared s (event_row m.event) (within s m)) (q.let_listed v);
    }

seen_on : (s : Sheet) (h : List Moment) (m' m : Moment) → (outside s m ≡ true → any (same (use_at s m)) (captures s h (within s m)) ≡ true) → listed s h (use_at s m).means ≡ true
    → seen_from s (h ++ m' ∷ []) (within s m) (use_at s m) ≡ seen_from s h (within s m) (use_at s m)
seen_on s h m' m q n = go (outside s m) q
  where
    go : (t : Bool) → (t ≡ true → any (same (use_at s m)) (captures s h (within s m)) ≡ true)
        → (when t
        then 6 ∷ place (same (use_at s m)) (captures s (h ++ m' ∷ []) (within s m)) ∷ 0
        ∷ bit (is_mutable s (use_at s m).means) ∷ []
        else code s (h ++ m' ∷ []) (use_at s m).means (use_at s m).slot)
        ≡ (when t then 6 ∷ place (same (use_at s m)) (captures s h (within s m)) ∷ 0 ∷ bit (is_mutable s (use_at s m).means) ∷ [] else code s h (use_at s m).means (use_at s m).slot)
    go true q =
        let g = grown s h m' (within s m) in
        ap (λ (k : ℕ). 6 ∷ k ∷ 0 ∷ bit (is_mutable s (use_at s m).means) ∷ [])
        (ap (place (same (use_at s m))) g.1 ∙ place_append (same (use_at s m)) (captures s h (within s m)) g.0 (q refl))
    go false q = code_on s h m' (use_at s m).means (use_at s m).slot n

-- what is written does not change later
words_on : (O : Outside) (s : Sheet) (h : List Moment) (m' m : Moment) → Stable s h m → words_written O s (h ++ m' ∷ []) m ≡ words_written O s h m
words_on O s h m' m q =
    go (declares_let s m.event) (visits_kind s 50 m.event)
    (λ v. code_on s h m' (declared s (event_row m.event) (within s m)) (open_locals s m.stack) (q.let_listed v))
    (λ v. ap (with_distance (distance (use_at s m))) (seen_on s h m' m (q.captured v) (q.use_listed v)))
  where
    seen : List Moment → List ℕ
    seen k = with_distance (distance (use_at s m)) (seen_from s k (within s m) (use_at s m))

    rest : List ℕ
    rest =
        when visits_kind s 51 m.event then (when eqb (within s m) (b s 0) then 7 else 8) ∷ []
        else when visits_kind s 52 m.event then 1 ∷ within s m ∷ []
        else when visits_kind s 55 m.event then 2 ∷ class_number (lookup (a s (event_row m.event)) m.stack) ∷ []
        else when visits_kind s 30 m.event then 2 ∷ class_number (lookup (b s (a s (event_row m.event))) m.stack) ∷ []
        else 1 ∷ method_named (a s (child s (event_row m.event))) (own_methods O s (receiver s (event_row m.event) (open_on s m.stack))) ∷ []

    go : (t u : Bool)
        → (t ≡ true
        → code s (h ++ m' ∷ []) (declared s (event_row m.event) (within s m)) (open_locals s m.stack)
        ≡ code s h (declared s (event_row m.event) (within s m)) (open_locals s m.stack))
        → (u ≡ true → seen (h ++ m' ∷ []) ≡ seen h)
        → (when t then code s (h ++ m' ∷ []) (declared s (event_row m.event) (within s m)) (open_locals s m.stack) else when u then seen (h ++ m' ∷ []) else rest)
        ≡ (when t then code s h (declared s (event_row m.event) (within s m)) (open_locals s m.stack) else when u then seen h else rest)
    go true u j i = j refl
    go false true j i = i refl
    go false false j i = refl

written_on : (O : Outside) (s : Sheet) (h : List Moment) (m' : Moment) {ws : List ℕ} {ms : List Moment} → WrittenBy O s h ws ms → WrittenBy O s (h ++ m' ∷ []) ws ms
written_on O s h m' (unwritten e) = unwritten e
written_on O s h m' (written {m} e q) = written (e ∙ ap four_words (sym (words_on O s h m' m q))) (stable_on s h m' m q)

-- A moment is stable once it is in the history.
head_early : (w : ℕ) (fs : List ℕ) → (w ∈? fs) ≡ true → eqb w (head fs) ≡ false → is_before w fs (head fs) ≡ true
head_early w [] h n = absurd (true≢false (sym h))
head_early w (f ∷ fs) h n = rw (eqb_same f w ∙ n, eqb_self f)

any_swap : (u : Use) (xs : List Use) → any (λ v. same v u) xs ≡ any (same u) xs
any_swap u [] = refl
any_swap u (x ∷ xs) =
    ap (λ (t : Bool). t || any (λ v. same v u) xs) (eqb_same (row_of x.means) (row_of u.means)) ∙ ap (λ (t : Bool). same u x || t) (any_swap u xs)

captured_new : (s : Sheet) (h : List Moment) (z : Stack) (e : Event) → WellFormed s z → visits_kind s 50 e ≡ true → outside s (record { event = e; stack = z }) ≡ true
    → any (same (use_at s (record { event = e; stack = z }))) (captures s (h ++ record { event = e; stack = z } ∷ []) (inside s z)) ≡ true
captured_new s h z (visit r) snd v o =
    ap (any (same u)) now ∙ any_append (same u) (captures s h (within s m)) (only (not (any (λ v. same v u) (captures s h (within s m)))) u)
    ∙ ap (λ (t : Bool). any (same u) (captures s h (within s m)) || any (same u) (only (not t) u)) (any_swap u (captures s h (within s m)))
    ∙ fin (any (same u) (captures s h (within s m)))
  where
    m : Moment
    m = record { event = visit r; stack = z }

    u : Use
    u = use_at s m

    both : (x y : Bool) → (x && not y) ≡ true → (x ≡ true) × (y ≡ false)
    both true true e = absurd (true≢false (sym e))
    both true false e = (refl, refl)
    both false y e = absurd (true≢false (sym e))

    outer : is_outer (within s m) u ≡ true
    outer =
        let w = both (is_variable u.means) (eqb (owner_of u.means) (within s m)) o in
        let i : (owner_of u.means ∈? around s z) ≡ true = owned_find s (a s r) snd.owned w.0 in
        ap (λ (t : Bool). t && owner_of u.means ∈? beyond (within s m) (around s z)) w.0
        ∙ beyond_early (within s m) (owner_of u.means) snd.apart i ∙ head_early (owner_of u.means) (around s z) i w.1

    pair : (x y : Bool) → x ≡ true → y ≡ true → (x && y) ≡ true
    pair true y e f = f
    pair false y e f = e

    now : captures s (h ++ m ∷ []) (within s m) ≡ captures s h (within s m) ++ only (not (any (λ v. same v u) (captures s h (within s m)))) u
    now =
        captures_snoc s h m (within s m)
        ∙ ap (λ (t : Bool). when t then captures s h (within s m) ++ only (not (any (λ v. same v u) (captures s h (within s m)))) u else captures s h (within s m))
        (pair (is s 50 r) (is_outer (within s m) u) v outer)

    fin : (t : Bool) → (t || any (same u) (only (not t) u)) ≡ true
    fin true = refl
    fin false = rw (eqb_self (row_of u.means))
captured_new s h z (enter r) snd v o = absurd (true≢false (sym v))
captured_new s h z leave snd v o = absurd (true≢false (sym v))
captured_new s h z loop snd v o = absurd (true≢false (sym v))
captured_new s h z (declare r) snd v o = absurd (true≢false (sym v))
captured_new s h z (bring r n d) snd v o = absurd (true≢false (sym v))

stable_new : (s : Sheet) (h : List Moment) (z : Stack) (p : Scopes) → ScopesAgree s z p → (e : Event) → WellFormed s z
    → (declares_let s e ≡ true → Known s (h ++ record { event = e; stack = z } ∷ []) p.next_global (new_meaning s (declares e) p))
    → ((m : ℕ) → Known s (h ++ record { event = e; stack = z } ∷ []) (lookup_global p m) (lookup_meaning p m))
    → Stable s (h ++ record { event = e; stack = z } ∷ []) (record { event = e; stack = z })
stable_new s h z p op e snd kl ku =
    record {
      captured = captured_new s h z e snd;
      use_listed = λ v.
          ap (listed s (h ++ record { event = e; stack = z } ∷ [])) (lookup_is s z p op (a s (visited e)))
          ∙ known_listed s (h ++ record { event = e; stack = z } ∷ []) (lookup_global p (a s (visited e))) (lookup_meaning p (a s (visited e))) (ku (a s (visited e)));
      let_listed = λ v. by_let e v (kl v);
    }
  where
    by_let : (e' : Event) → declares_let s e' ≡ true → Known s (h ++ record { event = e; stack = z } ∷ []) p.next_global (new_meaning s (declares e') p)
        → listed s (h ++ record { event = e; stack = z } ∷ []) (declared s (event_row e') (inside s z)) ≡ true
    by_let (enter r) v k = absurd (true≢false (sym v))
    by_let leave v k = absurd (true≢false (sym v))
    by_let loop v k = absurd (true≢false (sym v))
    by_let (declare r) v k =
        ap (listed s (h ++ record { event = e; stack = z } ∷ [])) (new_meaning_is s z p op r)
        ∙ known_listed s (h ++ record { event = e; stack = z } ∷ []) p.next_global (new_meaning s r p) k
    by_let (bring r n d) v k = absurd (true≢false (sym v))
    by_let (visit r) v k = absurd (true≢false (sym v))

-- One event more.
pub seen_in_is : (s : Sheet) (h : List Moment) (u : Use) (g f : ℕ) (o : Store) → list_at o (8 * f + 6) ≡ map node_of (captures s h f) → Known s h g u.means
    → seen_in s u.means u.slot g f o ≡ seen_from s h f u
unfolding seen_in
seen_in_is s h u g f o e n =
    ap (λ (l : List Node). when is_variable u.means && not (eqb (owner_of u.means) f)
    then 6 ∷ place (λ y. eqb (row_of u.means) y.key) l ∷ 0 ∷ bit (is_mutable s u.means) ∷ []
    else code_of s u.means u.slot g)
    e
    ∙ ap (λ (k : ℕ). when is_variable u.means && not (eqb (owner_of u.means) f)
    then 6 ∷ k ∷ 0 ∷ bit (is_mutable s u.means) ∷ []
    else code_of s u.means u.slot g)
    (place_map (λ y. eqb (row_of u.means) y.key) node_of (captures s h f))
    ∙ ap (λ (l : List ℕ). when is_variable u.means && not (eqb (owner_of u.means) f)
    then 6 ∷ place (same u) (captures s h f) ∷ 0 ∷ bit (is_mutable s u.means) ∷ []
    else l)
    (code_is s h u.means u.slot g n)

module _ (O : Outside) (s : Sheet) (h : List Moment) (z : Stack) (p : Scopes) (op : ScopesAgree s z p) (snd : WellFormed s z) where
  written_row_is : (e : Event) → written_row s e p ≡ row_written s e z
  written_row_is (enter r) = refl
  written_row_is leave = refl
  written_row_is loop = refl
  written_row_is (declare r) = refl
  written_row_is (bring r n d) = refl
  written_row_is (visit r) = rw (lookup_is s z p op (a s (child s (child s r))))

  written_is : (e : Event) (o : Store) → list_at o (8 * inside s z + 6) ≡ map node_of (captures s h (inside s z))
      → (declares_let s e ≡ true → Known s h p.next_global (new_meaning s (declares e) p)) → ((m : ℕ) → Known s h (lookup_global p m) (lookup_meaning p m))
      → written_words O s e p o ≡ words_written O s h (record { event = e; stack = z })
  written_is (enter r) o i kl ku = rw (lookup_is s z p op (a s (child s (child s 0))))
  written_is leave o i kl ku = rw (lookup_is s z p op (a s (child s (child s 0))))
  written_is loop o i kl ku = rw (lookup_is s z p op (a s (child s (child s 0))))
  written_is (declare r) o i kl ku =
      go (is s 29 r) kl ∙ rw (← (new_meaning_is s z p op r), ← (lookup_is s z p op (a s (child s (child s r)))), op.slot_is)
    where
      rest : List ℕ
      rest = 1 ∷ method_named (a s (child s r)) (own_methods O s (receiver_class s r p)) ∷ []

      go : (t : Bool) → (t ≡ true → Known s h p.next_global (new_meaning s r p))
          → (when t then code_of s (new_meaning s r p) p.slot p.next_global else rest) ≡ (when t then code s h (new_meaning s r p) p.slot else rest)
      go true k = code_is s h (new_meaning s r p) p.slot p.next_global (k refl)
      go false k = refl
  written_is (bring r n d) o i kl ku = rw (lookup_is s z p op (a s (child s (child s 0))))
  written_is (visit r) o i kl ku =
      ap (λ (l : List ℕ).
      when is s 50 r then l
      else when is s 51 r then (when eqb (current_function p) (b s 0) then 7 else 8) ∷ []
      else when is s 52 r then 1 ∷ current_function p ∷ []
      else when is s 55 r then 2 ∷ class_number (lookup_meaning p (a s r)) ∷ []
      else when is s 30 r then 2 ∷ class_number (lookup_meaning p (b s (a s r))) ∷ []
      else 1 ∷ method_named (a s (child s r)) (own_methods O s (receiver_class s r p)) ∷ []) seen
      ∙ rw (← (current_is s z p op), ← (lookup_is s z p op (a s r)), ← (lookup_is s z p op (b s (a s r))), ← (lookup_is s z p op (a s (child s (child s r)))))
    where
      u : Use
      u = use_at s (record { event = visit r; stack = z })

      seen : with_distance (lookup_distance s p (a s r)) (seen_in s (lookup_meaning p (a s r)) (lookup_slot p (a s r)) (lookup_global p (a s r)) (current_function p) o)
          ≡ with_distance (distance u) (seen_from s h (inside s z) u)
      seen =
          rw (← (distance_found O s z p op snd (a s r)), ← (lookup_is s z p op (a s r)), ← (slot_found O s z p op (a s r)), ← (current_is s z p op))
          (ap (with_distance (distance u)) (seen_in_is s h u (lookup_global p (a s r)) (inside s z) o i (rw (lookup_is s z p op (a s r)) (ku (a s r)))))

pub row_part : (O : Outside) (s : Sheet) (h : List Moment) (z : Stack) (p : Scopes) (op : ScopesAgree s z p) → WellFormed s z → (e : Event) (o : Store) (r : ℕ)
    → (declares_let s e ≡ true → Known s (h ++ record { event = e; stack = z } ∷ []) p.next_global (new_meaning s (declares e) p))
    → ((m : ℕ) → Known s (h ++ record { event = e; stack = z } ∷ []) (lookup_global p m) (lookup_meaning p m))
    → r < length o.table / 8 → (r ≡ 0 → ⊥)
    → list_at o (8 * inside s z + 6) ≡ map node_of (captures s (h ++ record { event = e; stack = z } ∷ []) (inside s z))
    → WrittenBy O s h (row_words o.table r) (final (filter (λ m. eqb (row_written s m.event m.stack) r) h))
    → WrittenBy O s (h ++ record { event = e; stack = z } ∷ []) (row_words (store_row O s e p o).table r)
    (final (filter (λ m. eqb (row_written s m.event m.stack) r) (h ++ record { event = e; stack = z } ∷ [])))
unfolding store_row
row_part O s h z p op snd e o r kl ku l nz i t =
    rw (filter_append (λ m. eqb (row_written s m.event m.stack) r) h (record { event = e; stack = z } ∷ []), written_row_is O s h z p op snd e)
    (go (eqb (row_written s e z) r) refl)
  where
    old : List Moment
    old = filter (λ m. eqb (row_written s m.event m.stack) r) h

    at_row : eqb (row_written s e z) r ≡ true
        → row_words (when eqb (row_written s e z) 0 then o else write_row (row_written s e z) (written_words O s e p o) o).table r
        ≡ four_words (words_written O s (h ++ record { event = e; stack = z } ∷ []) (record { event = e; stack = z }))
    at_row q =
        ap (λ (k : ℕ). row_words (when eqb k 0 then o else write_row k (written_words O s e p o) o).table r) (eqb-true (row_written s e z) r q)
        ∙ ap (λ (t : Bool). row_words (when t then o else write_row r (written_words O s e p o) o).table r) (ne_eqb r 0 nz)
        ∙ write_row_same r (written_words O s e p o) o l
        ∙ ap four_words (written_is O s (h ++ record { event = e; stack = z } ∷ []) z p op snd e o i kl ku)

    there : (t : Bool) → eqb (row_written s e z) r ≡ false
        → row_words (when t then o else write_row (row_written s e z) (written_words O s e p o) o).table r ≡ row_words o.table r
    there true q = refl
    there false q = write_row_other (row_written s e z) (written_words O s e p o) o r (λ k. eqb-false (row_written s e z) r q (sym k))

    go : (t : Bool) → eqb (row_written s e z) r ≡ t
        → WrittenBy O s (h ++ record { event = e; stack = z } ∷ []) (row_words (when eqb (row_written s e z) 0 then o else write_row (row_written s e z) (written_words O s e p o) o).table r)
        (final (old ++ (when t then record { event = e; stack = z } ∷ [] else [])))
    go true q = rw (final_snoc old (record { event = e; stack = z })) (written (at_row q) (stable_new s h z p op e snd kl ku))
    go false q =
        rw (append-nil old)
        (subst (λ (ws : List ℕ). WrittenBy O s (h ++ record { event = e; stack = z } ∷ []) ws (final old)) (sym (there (eqb (row_written s e z) 0) q))
        (written_on O s h (record { event = e; stack = z }) t))
