-- The program's state before the walk.
use mathlib.Core.Path.{◌≡◌, refl, sym, ap, ◌∙◌}
use mathlib.Core.List.{List, [], ◌∷◌, map, append-nil}
use mathlib.Core.Bool.{Bool, false}
use Prim.Native.Nat.{ℕ, zero, suc, ◌+◌, ◌*◌, ◌/◌, ◌≤◌, ◌<◌, min}
use native.Mathlib.Omega.{arith}
use lib.ListN.{length, get_or}
use lib.Dec.{eqb, T}
use Rattle.definition.specs.Basics.{when◌then◌else◌, distinct, all}
use Rattle.definition.specs.Sheet.{Sheet, kind}
use Rattle.definition.specs.Meaning.{Named, is_toplevel, Meaning, nothing, function, class, global, toplevel, variable}
use Rattle.definition.specs.Outside.{Outside, OutsideFits, is_outward}
use Rattle.definition.specs.Walk.{Event}
use Rattle.definition.specs.Scope.{Stack, bound, start}
use Rattle.definition.proofs.Lists.Tests.{and_left, and_right}
use Rattle.machine.specs.Machine.{node_room, entry_room, one_more, chain_to, chain_back, reversed, list_at, Scopes}
use Rattle.machine.specs.Machine.{global_at, meaning_at, tag_of, first_of, second_of, no_scopes, open_names, start_state}
use Rattle.machine.specs.Machine.{run_state}
use Rattle.machine.specs.Reads.{listed_fields, row_words}
use Rattle.machine.proofs.Entries.{entries, entries_length}
use Rattle.machine.proofs.ScopesAgree.{pushed_length, ScopesAgree, scopes_name}
use Rattle.machine.proofs.Stacks.{well_formed_start}
use Rattle.machine.proofs.RowWords.{unwritten}
use Rattle.machine.proofs.Globals.{Known, unnumbered, Numbered, known_stored, numbers_push}
use Rattle.machine.proofs.StoreAgrees.{StoreAgrees}
use Rattle.machine.proofs.Refinement.{StateAgrees, Runs, Ends, refine}

no_scopes_agree : (s : Sheet) (v : List ℕ) → ScopesAgree s [] (no_scopes s v)
unfolding entries
no_scopes_agree s v = record { stack_is = refl; whole = omega arith; slot_is = refl; slots = λ i h. absurd (omega arith); fun_is_lem = refl; funs_kept = λ i h. absurd (omega arith) }

-- a table of zeros agrees with the empty history
kept_none : (O : Outside) (s : Sheet) (t q : List ℕ) → ((j : ℕ) → get_or t j 0 ≡ 0) → StoreAgrees O s [] (record { used = 0; calls = 0; table = t; nodes = q })
unfolding list_at chain_to chain_back reversed row_words
kept_none O s t q z =
    record {
      captures_is = λ f l. rw (z (8 * f + 6));
      captures_low = λ f. omega (arith, z (8 * f + 6));
      fields_is = λ c l nz. rw (z (8 * c + 7)) (ap (distinct eqb) (append-nil (listed_fields s c)) ∙ sym (append-nil (distinct eqb (listed_fields s c))));
      fields_low = λ c. omega (arith, z (8 * c + 7));
      calls_is = refl;
      calls_low = omega arith;
      locals_is = λ f l. z (8 * f + 5);
      hidden_is = λ r l. z (8 * r + 4);
      words_is = λ r l nz. unwritten (rw (z (8 * r + 0), z (8 * r + 1), z (8 * r + 2), z (8 * r + 3)));
      used_le = omega arith;
    }

open_names_length : (s : Sheet) (xs : List Named) (p : Scopes) → length (open_names s xs p).env ≡ length p.env
open_names_length s [] p = refl
open_names_length s (x ∷ xs) p =
    pushed_length (open_names s xs p).env _ (tag_of x.means ∷ x.name ∷ first_of x.means
    ∷ second_of x.means (open_names s xs p).next_global ∷ (open_names s xs p).slot ∷ [])
    ∙ open_names_length s xs p

abbrev stack_of : List Named → Stack
stack_of xs = map (λ x. bound x.name x.means) xs

stack_length : (xs : List Named) → length (stack_of xs) ≡ length xs
stack_length [] = refl
stack_length (x ∷ xs) = ap suc (stack_length xs)

opened : (s : Sheet) (v : List ℕ) (xs : List Named) → length xs ≤ entry_room v → length xs < 4294967295 → ScopesAgree s (stack_of xs) (open_names s xs (no_scopes s v))
opened s v [] h w = no_scopes_agree s v
opened s v (x ∷ xs) h w =
    scopes_name s x.name x.means (stack_of xs) (open_names s xs (no_scopes s v))
    (omega (arith, h, stack_length xs, ap (λ (n : ℕ). min (n / 5) 4294967295) (open_names_length s xs (no_scopes s v))))
    (omega (arith, w, stack_length xs)) (opened s v xs (omega arith) (omega arith))

-- names none of which is a let of a unit
data Fixed : List Named → Type 0 where
  f_none : Fixed []
  f_one : {x : Named} {xs : List Named} → is_toplevel x.means ≡ false → Fixed xs → Fixed (x ∷ xs)

start_numbered : (s : Sheet) (v : List ℕ) {xs : List Named} → Fixed xs → length xs ≤ entry_room v → length xs < 4294967295 → Numbered s [] (open_names s xs (no_scopes s v))
unfolding global_at meaning_at
start_numbered s v f_none h w = record { next_is = omega arith; numbers = by }
  where
    by : (k : ℕ) → k ≤ 0 → Known s [] (global_at v k) (meaning_at v k)
    by zero l = unnumbered refl
    by (suc k) l = absurd (omega arith)
start_numbered s v (f_one {x} {xs} e f) h w =
    let i : Numbered s [] (open_names s xs (no_scopes s v)) = start_numbered s v f (omega arith) (omega arith) in
    let o : ScopesAgree s (stack_of xs) (open_names s xs (no_scopes s v)) = opened s v xs (omega arith) (omega arith) in
    let p : Scopes = open_names s xs (no_scopes s v) in
    let c : p.count ≡ length xs = sym (entries_length p.env p.count) ∙ ap length o.stack_is ∙ stack_length xs in
    record {
      next_is = ap (λ (t : Bool). when t then one_more p.next_global else p.next_global) e ∙ i.next_is;
      numbers = numbers_push s [] p.env p.count (tag_of x.means) x.name (first_of x.means) (second_of x.means p.next_global) p.slot
          (omega (arith, h, c, ap (λ (n : ℕ). min (n / 5) 4294967295) (open_names_length s xs (no_scopes s v)))) i.numbers (known_stored s [] x.means p.next_global (unnumbered e));
    }

outward_fixed : (d : Meaning) → T (is_outward d) → is_toplevel d ≡ false
outward_fixed nothing h = refl
outward_fixed (function f) h = refl
outward_fixed (class c) h = refl
outward_fixed (global g m) h = refl
outward_fixed (toplevel r) h = absurd h
outward_fixed (variable r f) h = refl

names_fixed : (xs : List Named) → T (all (λ x. is_outward x.means) xs) → Fixed xs
names_fixed [] h = f_none
names_fixed (x ∷ xs) h =
    f_one (outward_fixed x.means (and_left (is_outward x.means) (all (λ y. is_outward y.means) xs) h)) (names_fixed xs (and_right (is_outward x.means) (all (λ y. is_outward y.means) xs) h))

-- The state before the walk agrees with the definition's, if the table is all zeros and the outermost names have room.
pub start_agrees : {O : Outside} → OutsideFits O → (s : Sheet) (v t q : List ℕ) → length O.names ≤ entry_room v → ((j : ℕ) → get_or t j 0 ≡ 0)
    → StateAgrees O s (record { entries = entry_room v; rows = length t / 8; nodes = node_room q }) [] (start O) (start_state O s v t q)
unfolding start_state
start_agrees {O} known s v t q h z =
    record {
      opened = opened s v O.names h (omega (arith, known.few));
      numbered = start_numbered s v (names_fixed O.names known.outward) h (omega (arith, known.few));
      sound = well_formed_start known s;
      kept = kept_none O s t q z;
      agreed = refl;
      entries_are = ap (λ (n : ℕ). min (n / 5) 4294967295) (open_names_length s O.names (no_scopes s v));
      rows_are = refl;
      nodes_are = refl;
    }

-- events from that state
pub refine_start : {O : Outside} → OutsideFits O → (s : Sheet) → kind s 0 ≡ 0 → (v t q : List ℕ) → length O.names ≤ entry_room v → ((j : ℕ) → get_or t j 0 ≡ 0)
    → (es : List Event) → Runs O s (record { entries = entry_room v; rows = length t / 8; nodes = node_room q }) [] (start O) es
    → Ends O s (record { entries = entry_room v; rows = length t / 8; nodes = node_room q }) [] (start O) es (run_state O s es (start_state O s v t q))
refine_start {O} known s hd v t q h z es w = refine O s hd _ [] (start O) es (start_state O s v t q) w (start_agrees known s v t q h z)
