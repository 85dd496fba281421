-- The program asks the definition's questions.
use mathlib.Core.Path.{◌≡◌, refl, sym, ap, ◌∙◌}
use mathlib.Core.List.{List}
use mathlib.Core.Bool.{Bool, true, false}
use Prim.Native.Nat.{ℕ, zero, suc, ◌-◌, ◌<◌, ◌≤◌}
use native.Mathlib.Omega.{arith}
use lib.ListN.{length}
use lib.Dec.{eqb, leb}
use Rattle.definition.specs.Basics.{when◌then◌else◌, place}
use Rattle.definition.specs.Sheet.{Sheet}
use Rattle.definition.specs.Outside.{Outside}
use Rattle.definition.specs.Meaning.{is_variable, owner_of}
use Rattle.definition.specs.Walk.{Event}
use Rattle.definition.specs.Scope.{Stack, find, lookup, around, taken, in_loop}
use Rattle.definition.specs.Slots.{open_locals, top_slot}
use Rattle.definition.specs.Question.{open_on, constructed, receiver, ask_event}
use Rattle.machine.specs.Machine.{entry_word, find_name, taken_in, loop_in, slot_at, Scopes, lookup_slot}
use Rattle.machine.specs.Machine.{marks_after, lookup_distance, open_in, constructed_class, receiver_class, check_event}
use Rattle.machine.proofs.Entries.{entries, find_is, around_is, taken_is, loop_is}
use Rattle.machine.proofs.ScopesAgree.{ScopesAgree, searched_is, lookup_is}
use Rattle.machine.proofs.Stacks.{WellFormed, owned_far}

-- the slot of what a name means
if_le : (b : Bool) (x y n : ℕ) → x ≤ n → y ≤ n → (when b then x else y) ≤ n
if_le true x y n p q = p
if_le false x y n p q = q

pub find_le : (v : List ℕ) (m n : ℕ) → find_name v m n ≤ n
unfolding find_name
find_le v m zero = omega arith
find_le v m (suc n) =
    let h : find_name v m n ≤ n = find_le v m n in
    let g : find_name v m n ≤ suc n = omega arith in
    if_le (leb (entry_word v n 0) 1) _ _ (suc n) g (if_le (eqb (entry_word v n 1) m) _ _ (suc n) (omega arith) g)

slot_of : (s : Sheet) (v : List ℕ) (n k : ℕ) → k ≤ n → ((i : ℕ) → i < n → entry_word v i 4 ≡ open_locals s (entries v i)) → top_slot s (entries v k) ≡ slot_at v k
unfolding entries slot_at
slot_of s v n zero h f = refl
slot_of s v n (suc i) h f = sym (f i (omega arith))

module _ (O : Outside) (s : Sheet) (z : Stack) (p : Scopes) (o : ScopesAgree s z p) where
  pub slot_found : (m : ℕ) → top_slot s (find m z) ≡ lookup_slot p m
  unfolding lookup_slot
  slot_found m = rw (searched_is s z p o, ← o.stack_is, find_is) (slot_of s p.env p.count _ (find_le p.env m p.count) o.slots)

  -- how far out it is declared: the functions opened after it
  pub distance_found : WellFormed s z → (m : ℕ) → (when is_variable (lookup m z) then place (eqb (owner_of (lookup m z))) (around s z) else 0) ≡ lookup_distance s p m
  unfolding lookup_distance marks_after
  distance_found snd m =
      go (is_variable (lookup m z)) refl
      ∙ rw (searched_is s z p o, lookup_is s z p o m, ← o.stack_is, find_is, around_is s p.env p.count, around_is s p.env (find_name p.env m p.count))
    where
      go : (t : Bool) → is_variable (lookup m z) ≡ t
          → (when t then place (eqb (owner_of (lookup m z))) (around s z) else 0) ≡ (when t then length (around s z) - length (around s (find m z)) else 0)
      go true v = omega (arith, owned_far s m snd.apart snd.owned v)
      go false v = refl

  taken_found : (m : ℕ) → taken m z ≡ taken_in p.env m p.count
  taken_found m = rw (← o.stack_is) (taken_is p.env m p.count)

  loop_found : in_loop s z ≡ loop_in s p.env p.count
  loop_found = rw (← o.stack_is) (loop_is s p.env p.count)

  -- the questions read the same of both
  open_is : open_on s z ≡ open_in s p
  open_is = λ i. record { means = λ n. lookup_is s z p o n i; is_taken = λ n. taken_found n i; is_looping = loop_found i }

  pub constructed_is : (r : ℕ) → constructed s r (open_on s z) ≡ constructed_class s r p
  constructed_is r = ap (constructed s r) open_is

  pub receiver_is : (r : ℕ) → receiver s r (open_on s z) ≡ receiver_class s r p
  receiver_is r = ap (receiver s r) open_is

  pub check_is : (e : Event) → ask_event O s e (open_on s z) ≡ check_event O s e p
  unfolding check_event
  check_is e = ap (ask_event O s e) open_is
