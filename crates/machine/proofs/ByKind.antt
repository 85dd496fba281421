-- What each event stores, by the kind of its row: equations for the proofs of the program's routines.
use mathlib.Core.Path.{◌≡◌, refl, ap, ◌∙◌}
use mathlib.Core.List.{List, [], ◌∷◌, ◌++◌, map}
use mathlib.Core.Bool.{Bool, true, false, not, ◌||◌, ◌&&◌}
use Prim.Native.Nat.{ℕ, suc, ◌+◌, ◌*◌}
use native.Mathlib.Omega.{arith}
use lib.Dec.{eqb}
use borrow.Author.Tests.{ne_eqb, eq-eqb}
use Rattle.definition.specs.Basics.{when◌then◌else◌, ◌∈?◌}
use Rattle.definition.specs.Sheet.{Sheet, kind, is, a, b, child, kids_of}
use Rattle.definition.specs.Outside.{Outside}
use Rattle.definition.specs.Meaning.{Meaning, row_of, owner_of, class_number}
use Rattle.definition.specs.Walk.{enter, leave, loop, declare, bring, visit}
use Rattle.definition.specs.Slots.{is_local}
use Rattle.definition.specs.Classes.{class_of, method_named, own_methods}
use Rattle.machine.specs.Machine.{one_more, node_word, Node, node_at, previous, chain_back, reversed, chain_to, has_key}
use Rattle.machine.specs.Machine.{Store, Scopes, open_functions, current_function, lookup_meaning, lookup_slot}
use Rattle.machine.specs.Machine.{lookup_global, new_meaning, code_of, append_call, add_new, add_capture, write_row}
use Rattle.machine.specs.Machine.{lookup_distance, write_row_at, mark_hidden, raise_locals, seen_in, with_distance, receiver_class, field_node}
use Rattle.machine.specs.Machine.{is_outer_variable, store_call, store_field, store_capture, store_local, store_hidden}
use Rattle.machine.specs.Machine.{store_row, step_store}
use Rattle.machine.proofs.Lists.{any_append}
use Rattle.machine.proofs.Nodes.{chain_back_hit, chain_back_down}

module _ (O : Outside) (s : Sheet) (p : Scopes) (o : Store) where
  pub store_enter : (r : ℕ) → step_store O s (enter r) p o ≡ o
  unfolding step_store store_row store_hidden store_local store_capture store_field store_call
  store_enter r = refl

  pub store_leave : step_store O s leave p o ≡ o
  unfolding step_store store_row store_hidden store_local store_capture store_field store_call
  store_leave = refl

  pub store_loop : step_store O s loop p o ≡ o
  unfolding step_store store_row store_hidden store_local store_capture store_field store_call
  store_loop = refl

  pub store_bring : (r n : ℕ) (d : Meaning) → step_store O s (bring r n d) p o ≡ o
  unfolding step_store store_row store_hidden store_local store_capture store_field store_call
  store_bring r n d = refl

  -- a let
  pub store_let : (r : ℕ) → kind s r ≡ 29
      → step_store O s (declare r) p o
      ≡ write_row_at r (code_of s (new_meaning s r p) p.slot p.next_global)
      (when is_local s (new_meaning s r p) then raise_locals (current_function p) (one_more p.slot) o else o)
  unfolding step_store store_row store_hidden store_local store_capture store_field store_call
  store_let r e = rw e

  -- a class, a parameter
  pub store_other : (r : ℕ) → is s 29 r ≡ false → step_store O s (declare r) p o ≡ o
  unfolding step_store store_row store_hidden store_local store_capture store_field store_call
  store_other r e = rw e

  -- an identifier
  pub store_identifier : (r : ℕ) → kind s r ≡ 50
      → (x : Store)
      → x
      ≡ (when is_outer_variable (lookup_meaning p (a s r)) (current_function p)
      then add_capture (open_functions s p) (record {
        key = row_of (lookup_meaning p (a s r));
        one = owner_of (lookup_meaning p (a s r));
        two = lookup_slot p (a s r);
      })
      o
      else o)
      → step_store O s (visit r) p o
      ≡ write_row_at r (with_distance (lookup_distance s p (a s r)) (seen_in s (lookup_meaning p (a s r)) (lookup_slot p (a s r)) (lookup_global p (a s r)) (current_function p) x)) x
  unfolding step_store store_row store_hidden store_local store_capture store_field store_call
  store_identifier r e x q = rw (e, q)

  -- a host constant, a literal, an instanceof
  pub store_host : (r : ℕ) → kind s r ≡ 51 → step_store O s (visit r) p o ≡ write_row_at r ((when eqb (current_function p) (b s 0) then 7 else 8) ∷ []) o
  unfolding step_store store_row store_hidden store_local store_capture store_field store_call
  store_host r e = rw e

  pub store_literal : (r : ℕ) → kind s r ≡ 52 → step_store O s (visit r) p o ≡ write_row_at r (1 ∷ current_function p ∷ []) o
  unfolding step_store store_row store_hidden store_local store_capture store_field store_call
  store_literal r e = rw e

  pub store_instance : (r : ℕ) → kind s r ≡ 55 → step_store O s (visit r) p o ≡ write_row_at r (2 ∷ class_number (lookup_meaning p (a s r)) ∷ []) o
  unfolding step_store store_row store_hidden store_local store_capture store_field store_call
  store_instance r e = rw e

  -- an assignment
  pub store_assign : (r : ℕ) → kind s r ≡ 21
      → step_store O s (visit r) p o
      ≡ (when is s 54 (child s r) && not (eqb (class_of s (current_function p)) 0) && not (a s (child s r) ∈? map (a s) (kids_of s 10 (class_of s (current_function p))))
      then add_new (8 * class_of s (current_function p) + 7) (field_node (a s (child s r))) o else o)
  unfolding step_store store_row store_hidden store_local store_capture store_field store_call
  store_assign r e = rw e

  -- a class declaration
  pub store_class : (r : ℕ) → kind s r ≡ 30 → step_store O s (visit r) p o ≡ (when is s 4 (a s r) then write_row_at (a s r) (2 ∷ class_number (lookup_meaning p (b s (a s r))) ∷ []) o else o)
  unfolding step_store store_row store_hidden store_local store_capture store_field store_call
  store_class r e = rw e (go (is s 4 (a s r)))
    where
      go : (t : Bool) → (when eqb (when t then a s r else 0) 0 then o else write_row (when t then a s r else 0) (2 ∷ class_number (lookup_meaning p (b s (a s r))) ∷ []) o)
          ≡ (when t then write_row_at (a s r) (2 ∷ class_number (lookup_meaning p (b s (a s r))) ∷ []) o else o)
      go true = refl
      go false = refl

  -- a call: of a class, as its constructor; of a method on a class; any other
  pub store_construct : (r : ℕ) → kind s r ≡ 59 → kind s (child s r) ≡ 50
      → step_store O s (visit r) p o
      ≡ (when not (eqb (class_number (lookup_meaning p (a s (child s r)))) 0)
      then append_call (record { key = r; one = class_number (lookup_meaning p (a s (child s r))); two = 0 }) o
      else o)
  unfolding step_store store_row store_hidden store_local store_capture store_field store_call
  store_construct r e f = rw (e, f)

  pub store_method : (r : ℕ) → kind s r ≡ 59 → kind s (child s r) ≡ 54
      → step_store O s (visit r) p o
      ≡ (when not (eqb (receiver_class s r p) 0)
      then write_row_at (child s r) (1 ∷ method_named (a s (child s r)) (own_methods O s (receiver_class s r p)) ∷ []) (mark_hidden (child s (child s r)) o) else o)
  unfolding step_store store_row store_hidden store_local store_capture store_field store_call
  store_method r e f = rw (e, f) (go (not (eqb (when is s 50 (child s (child s r)) then class_number (lookup_meaning p (a s (child s (child s r)))) else 0) 0)))
    where
      vs : List ℕ
      vs = 1 ∷ method_named (a s (child s r)) (own_methods O s (when is s 50 (child s (child s r)) then class_number (lookup_meaning p (a s (child s (child s r)))) else 0)) ∷ []

      go : (t : Bool)
          → (when eqb (when t then child s r else 0) 0 then (when t then mark_hidden (child s (child s r)) o else o)
          else write_row (when t then child s r else 0) vs (when t then mark_hidden (child s (child s r)) o else o))
          ≡ (when t then write_row_at (child s r) vs (mark_hidden (child s (child s r)) o) else o)
      go true = refl
      go false = refl

-- Lists, walked from the last node back.
pub list_none : (q : List ℕ) (p : ℕ) → p ≡ 0 → chain_to q p ≡ []
unfolding chain_to chain_back reversed
list_none q p e = rw e

pub list_more : (q : List ℕ) (i : ℕ) → chain_to q (suc i) ≡ chain_to q (previous q i) ++ node_at q i ∷ []
unfolding chain_to reversed
list_more q i = ap reversed (chain_back_hit q i) ∙ ap (λ (l : List Node). reversed l ++ node_at q i ∷ []) (chain_back_down q i (previous q i) (omega arith))

-- is a key there?
pub key_hit : (q : List ℕ) (i k : ℕ) → node_word q i 1 ≡ k → has_key k (chain_to q (suc i)) ≡ true
key_hit q i k e =
    ap (has_key k) (list_more q i) ∙ any_append (λ y. eqb y.key k) (chain_to q (previous q i)) (node_at q i ∷ []) ∙ rw (eq-eqb (node_word q i 1) k e) (or_true (has_key k (chain_to q (previous q i))))
  where
    or_true : (t : Bool) → (t || true) ≡ true
    or_true true = refl
    or_true false = refl

pub key_miss : (q : List ℕ) (i k : ℕ) → (node_word q i 1 ≡ k → ⊥) → has_key k (chain_to q (suc i)) ≡ has_key k (chain_to q (previous q i))
key_miss q i k e =
    ap (has_key k) (list_more q i) ∙ any_append (λ y. eqb y.key k) (chain_to q (previous q i)) (node_at q i ∷ []) ∙ rw (ne_eqb (node_word q i 1) k e) (or_false (has_key k (chain_to q (previous q i))))
  where
    or_false : (t : Bool) → (t || false) ≡ t
    or_false true = refl
    or_false false = refl
