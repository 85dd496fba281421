-- What the visit of a call does, by its callee.
use mathlib.Core.Path.{◌≡◌, refl, sym, ap, ◌∙◌}
use mathlib.Core.Bool.{Bool, true, false, not, ◌&&◌}
use mathlib.Core.List.{[], ◌∷◌}
use Prim.Native.Nat.{ℕ}
use native.Mathlib.Omega.{arith}
use lib.Dec.{eqb}
use borrow.Author.Tests.{ne_eqb, eqb-true, eqb-false}
use Rattle.definition.specs.Basics.{when◌then◌else◌}
use Rattle.definition.specs.Sheet.{Sheet, kind, is, a, child}
use Rattle.definition.specs.Outside.{Outside}
use Rattle.definition.specs.Meaning.{class_number}
use Rattle.definition.specs.Walk.{visit}
use Rattle.definition.specs.Question.{Refusal, none, ask, arguments}
use Rattle.definition.specs.Classes.{has_record, method_named, method_of, own_methods}
use Rattle.machine.specs.Machine.{State, Scopes, Store, lookup_meaning, append_call, mark_hidden, write_row_at}
use Rattle.machine.specs.Machine.{constructed_class, receiver_class, step_store, check_visit, step_state, store_call}
use Rattle.machine.specs.Machine.{store_field, store_capture, store_local, store_hidden, store_row}
use Rattle.machine.proofs.ByKind.{store_construct, store_method}
use Rattle.walk.specs.WalkState.{refused_by}
use Rattle.calls.specs.Callee.{method_question}
use Rattle.walk.proofs.StepLaws.{idle}
use Rattle.walk.proofs.VisitLaws.{visited, unvisited, same_row}

-- a choice that is not 0 was made
chosen : (t : Bool) (n : ℕ) → ((when t then n else 0) ≡ 0 → ⊥) → t ≡ true
chosen true n f = refl
chosen false n f = absurd (f refl)

first_of : (t u : Bool) → (t && u) ≡ true → t ≡ true
first_of true u e = refl
first_of false u e = e

module _ (s : Sheet) (r : ℕ) (p : Scopes) where
  -- a class is constructed by name, and a method called by a member
  pub constructed_name : (constructed_class s r p ≡ 0 → ⊥) → kind s (child s r) ≡ 50
  constructed_name f = eqb-true (kind s (child s r)) 50 (chosen (is s 50 (child s r)) _ f)

  pub receiver_member : (receiver_class s r p ≡ 0 → ⊥) → kind s (child s r) ≡ 54
  receiver_member f = eqb-true (kind s (child s r)) 54 (first_of (is s 54 (child s r)) (is s 50 (child s (child s r))) (chosen (is s 54 (child s r) && is s 50 (child s (child s r))) _ f))

  -- the two classes, read step by step
  module _ (c : ℕ) (e : c ≡ child s r) where
    pub constructed_none : (kind s c ≡ 50 → ⊥) → 0 ≡ constructed_class s r p
    constructed_none f = rw (← e, ne_eqb (kind s c) 50 f)

    pub constructed_some : (n : ℕ) → kind s c ≡ 50 → n ≡ class_number (lookup_meaning p (a s c)) → n ≡ constructed_class s r p
    constructed_some n h g = rw (← e, h) g

    pub receiver_none : (kind s c ≡ 54 → ⊥) → 0 ≡ receiver_class s r p
    receiver_none f = rw (← e, ne_eqb (kind s c) 54 f)

    pub receiver_base : (d : ℕ) → d ≡ child s c → (kind s d ≡ 50 → ⊥) → 0 ≡ receiver_class s r p
    receiver_base d i f = rw (← e, ← i, ne_eqb (kind s d) 50 f) (go (is s 54 c))
      where
        go : (t : Bool) → 0 ≡ (when t && false then class_number (lookup_meaning p (a s d)) else 0)
        go true = refl
        go false = refl

    pub receiver_some : (d n : ℕ) → d ≡ child s c → kind s c ≡ 54 → kind s d ≡ 50 → n ≡ class_number (lookup_meaning p (a s d)) → n ≡ receiver_class s r p
    receiver_some d n i h g j = rw (← e, h, ← i, g) j

-- neither: nothing asked, nothing stored
store_neither : (O : Outside) (s : Sheet) (r : ℕ) (p : Scopes) (o : Store) → kind s r ≡ 59 → constructed_class s r p ≡ 0 → receiver_class s r p ≡ 0 → step_store O s (visit r) p o ≡ o
unfolding step_store store_row store_hidden store_local store_capture store_field store_call
store_neither O s r p o k e f = rw (k, e, f)

module _ (O : Outside) (s : Sheet) (r : ℕ) (x : State) (k : kind s r ≡ 59) where
  pub call_other : constructed_class s r x.scopes ≡ 0 → receiver_class s r x.scopes ≡ 0 → x ≡ step_state O s (visit r) x
  call_other e f = go (eqb x.refusal.number 0) refl
    where
      go : (t : Bool) → eqb x.refusal.number 0 ≡ t → x ≡ step_state O s (visit r) x
      go true i = visited O s r x (eqb-true x.refusal.number 0 i) (rw (k, e, f)) (sym (store_neither O s r x.scopes x.store k e f))
      go false i = idle O s (visit r) x (eqb-false x.refusal.number 0 i)

  module _ (z : x.refusal.number ≡ 0) (c : ℕ) (n : c ≡ 0 → ⊥) where
    module _ (e : c ≡ constructed_class s r x.scopes) where
      pub construct_no : {y : State} (q m : ℕ) → q ≡ child s r → m ≡ a s q → has_record O s c ≡ false → y ≡ refused_by 12 q m x → y ≡ step_state O s (visit r) x
      construct_no q m i j h u = unvisited O s r x z 12 q m (rw (k, ← e, ← i, ← j, ne_eqb c 0 n, h)) (λ v. omega arith) u

      pub construct_yes : (o : Store) → has_record O s c ≡ true → o ≡ append_call (record { key = r; one = c; two = 0 }) x.store
          → record { scopes = x.scopes; store = o; refusal = x.refusal } ≡ step_state O s (visit r) x
      construct_yes o h u = visited O s r x z (rw (k, ← e, ne_eqb c 0 n, h)) (u ∙ sym (rw (← g, ne_eqb c 0 n) at (store_construct O s x.scopes x.store r k named)))
        where
          named : kind s (child s r) ≡ 50
          named = constructed_name s r x.scopes (λ w. n (e ∙ w))

          g : c ≡ class_number (lookup_meaning x.scopes (a s (child s r)))
          g = rw named at e

    module _ (e : c ≡ receiver_class s r x.scopes) (q m f : ℕ) (i : q ≡ child s r)
        (j : m ≡ a s q) (g : f ≡ method_named m (own_methods O s c)) (p : ℕ)
        (d : p ≡ (method_of m (own_methods O s c)).params) where
      member : kind s (child s r) ≡ 54
      member = receiver_member s r x.scopes (λ w. n (e ∙ w))

      unnamed : constructed_class s r x.scopes ≡ 0
      unnamed = rw member

      asked : check_visit O s r x.scopes
          ≡ (when not (has_record O s c) then ask 17 q m false else when eqb f 0 then ask 13 q m false else ask 14 q m (eqb (arguments s r) p))
      asked = rw (k, unnamed, ← e, ne_eqb c 0 n, ← i, ← j, ← g, ← d)

      by_number : (t u w : Bool) → (when not t then ask 17 q m false else when u then ask 13 q m false else ask 14 q m w)
          ≡ (let number : ℕ = when not t then 17 else when u then 13 else when w then 0 else 14 in when eqb number 0 then none else record { number = number; at = q; name = m })
      by_number true true w = refl
      by_number true false true = refl
      by_number true false false = refl
      by_number false u w = refl

      pub method_no : {y : State} (l : ℕ) → l ≡ method_question O s r c f p → (l ≡ 0 → ⊥) → y ≡ refused_by l q m x → y ≡ step_state O s (visit r) x
      method_no l h v u = unvisited O s r x z l q m (sym (asked ∙ by_number (has_record O s c) (eqb f 0) (eqb (arguments s r) p) ∙ rw (← h, ne_eqb l 0 v))) v u

      pub method_yes : (b : ℕ) (o₁ o₂ : Store) → b ≡ child s q → method_question O s r c f p ≡ 0 → o₁ ≡ mark_hidden b x.store → o₂ ≡ write_row_at q (1 ∷ f ∷ 0 ∷ 0 ∷ []) o₁
          → record { scopes = x.scopes; store = o₂; refusal = x.refusal } ≡ step_state O s (visit r) x
      method_yes b o₁ o₂ l h v u =
          let y : check_visit O s r x.scopes ≡ none = asked ∙ by_number (has_record O s c) (eqb f 0) (eqb (arguments s r) p) ∙ rw h in
          visited O s r x z (ap (λ (w : Refusal). w.number) y)
          (u
          ∙ same_row q (1 ∷ f ∷ 0 ∷ 0 ∷ []) (1 ∷ f ∷ []) o₁ refl
          ∙ ap (write_row_at q (1 ∷ f ∷ [])) v
          ∙ sym (rw (← e, ne_eqb c 0 n, ← i, ← j, ← g, ← l) at (store_method O s x.scopes x.store r k member)))
