-- Names copied from rows written before, and the names of a class after them.
use Rattle.ast.specs.Kind.{kind_number}
use mathlib.Core.Path.{◌≡◌, refl, sym, ap, ◌∙◌}
use mathlib.Core.Bool.{Bool, true, false}
use mathlib.Core.List.{List, [], ◌∷◌, map, tail}
use Prim.Native.Nat.{ℕ, zero, suc, ◌+◌, ◌-◌, ◌*◌, ◌<◌, ◌≤◌, min}
use native.Mathlib.Omega.{arith}
use lib.Dec.{eqb}
use lib.ListN.{length, get_or, length-append}
use borrow.Author.Tests.{ne_eqb, eqb-true, eqb-false}
use Rattle.definition.specs.Basics.{when◌then◌else◌, from}
use Rattle.definition.specs.Sheet.{Sheet, rows}
use Rattle.definition.specs.Outside.{Outside, Method}
use Rattle.definition.specs.Classes.{own_methods, method_named}
use Rattle.machine.specs.Machine.{Store as Stored}
use Rattle.after.specs.Inherited.{parent_in}
use Rattle.inherit.proofs.MethodLaws.{method_here, method_up}
use Rattle.class_names.specs.Names.{own_in, names_in, inherited, new_of}
use Rattle.name_rows.specs.Put.{Filled, name_row, put, put_all, copied_row}
use Rattle.class_rows.specs.Places.{column, function_in, name_column}
use Rattle.name_rows.specs.declared.put.Wanted.{Wanted}
use Rattle.class_names.proofs.NameLaws.{names_split}
use Rattle.name_rows.proofs.PutLaws.{names_after, slot_counts}

-- A copied row is the row that tells the name, if it tells the function that the parent has.
module _ (O : Outside) (s : Sheet) (o : Stored) (w : Wanted) (l : 0 < rows s) (g : parent_in s o w.class.0 ≡ 0 → ⊥) where
  own_else : (m : ℕ) {f : ℕ} → f ≡ function_in O s o (rows s - 1) (parent_in s o w.class.0) m
      → (when eqb (method_named m (own_methods O s w.class.0)) 0 then f else method_named m (own_methods O s w.class.0)) ≡ function_in O s o (rows s) w.class.0 m
  own_else m {f} e = go (eqb own 0) refl
    where
      own : ℕ
      own = method_named m (own_methods O s w.class.0)

      go : (t : Bool) → eqb own 0 ≡ t → (when t then f else own) ≡ function_in O s o (rows s) w.class.0 m
      go true h = e ∙ ap (λ (y : Method). y.fun) (method_up O s o m (rows s) w.class.0 l refl (eqb-true own 0 h) refl g)
      go false h = ap (λ (y : Method). y.fun) (method_here O s o m (rows s) w.class.0 l refl (eqb-false own 0 h))

  copied_row_lem : (v : List ℕ) (i m k : ℕ) → get_or v (8 * i + name_column (kind_number w.kind)) 0 ≡ m → ((kind_number w.kind ≡ 10 → ⊥) → get_or v (8 * i + 3) 0
      ≡ function_in O s o (rows s - 1) (parent_in s o w.class.0) m)
      → copied_row O s w v i k ≡ name_row O s o w m k
  unfolding copied_row name_row
  copied_row_lem v i m k e f = go (eqb (kind_number w.kind) 10) refl e
    where
      go : (t : Bool) → eqb (kind_number w.kind) 10 ≡ t → get_or v (8 * i + (when t then 3 else 2)) 0 ≡ m → copied_row O s w v i k ≡ name_row O s o w m k
      go true h d = rw (h, d)
      go false h d = rw (h, d, own_else m (f (eqb-false (kind_number w.kind) 10 h)))

  pub copied_all : (v ms : List ℕ) (i n : ℕ) (k : Filled) → column v (name_column (kind_number w.kind)) i n ≡ ms
      → ((kind_number w.kind ≡ 10 → ⊥) → column v 3 i n ≡ map (function_in O s o (rows s - 1) (parent_in s o w.class.0)) ms) → put_all (copied_row O s w v) (from i n) k
      ≡ put_all (name_row O s o w) ms k
  unfolding put_all put
  copied_all v [] i zero k e f = refl
  copied_all v (m ∷ ms) i zero k e f = absurd (omega (arith, ap length e))
  copied_all v [] i (suc n) k e f = absurd (omega (arith, ap length e))
  copied_all v (m ∷ ms) i (suc n) k e f =
      let d : copied_row O s w v i k.slot ≡ name_row O s o w m k.slot = copied_row_lem v i m k.slot (ap (λ (l : List ℕ). get_or l 0 0) e) (λ h. ap (λ (l : List ℕ). get_or l 0 0) (f h)) in
      copied_all v ms (suc i) n (put (copied_row O s w v) i k) (ap tail e) (λ h. ap tail (f h)) ∙ rw d

module _ (O : Outside) (f : ℕ → ℕ → List ℕ) (s : Sheet) (o : Stored) (j c : ℕ) (k : Filled) (l : 0 < rows s) {p : ℕ} (e : p ≡ parent_in s o c) (g : parent_in s o c ≡ 0 → ⊥) where
  -- what stands above, then the own names that are new
  pub line_after : {ms : List ℕ} {x y : Filled} → ms ≡ names_in O s o j (rows s - 1) (parent_in s o c) → x ≡ put_all f ms k
      → y ≡ put_all f (new_of (inherited O s o j (rows s - 1) p) (own_in O s o j c)) x → y ≡ put_all f (names_in O s o j (rows s) c) k
  line_after d u v = names_after O f s o j (rows s) c k (λ z. omega arith) e (λ z. g (sym e ∙ z)) (u ∙ ap (λ (ms : List ℕ). put_all f ms k) (d ∙ ap (names_in O s o j (rows s - 1)) (sym e))) v

  pub line_counted : {x : Filled} → k.slot ≤ 4294967295 → k.slot ≡ length (names_in O s o j (rows s - 1) (parent_in s o c))
      → x ≡ put_all f (new_of (inherited O s o j (rows s - 1) p) (own_in O s o j c)) k → x.slot ≡ min (length (names_in O s o j (rows s) c)) 4294967295
  unfolding inherited
  line_counted b d u =
      ap (λ (y : Filled). y.slot) u ∙ slot_counts f (new_of (inherited O s o j (rows s - 1) p) (own_in O s o j c)) k b
      ∙ ap (λ (i : ℕ). min i 4294967295) (ap (λ (i : ℕ). i + length (new_of (inherited O s o j (rows s - 1) p) (own_in O s o j c))) (d ∙ ap length up) ∙ sym whole)
    where
      up : names_in O s o j (rows s - 1) (parent_in s o c) ≡ inherited O s o j (rows s - 1) p
      up = ap (names_in O s o j (rows s - 1)) (sym e) ∙ rw (ne_eqb p 0 (λ z. g (sym e ∙ z)))

      whole : length (names_in O s o j (rows s) c) ≡ length (inherited O s o j (rows s - 1) p) + length (new_of (inherited O s o j (rows s - 1) p) (own_in O s o j c))
      whole =
          let z : rows s ≡ suc (rows s - 1) = omega arith in
          ap (λ (n : ℕ). length (names_in O s o j n c)) z ∙ ap length (names_split O s o j (rows s - 1) c)
          ∙ length-append (inherited O s o j (rows s - 1) (parent_in s o c)) (new_of (inherited O s o j (rows s - 1) (parent_in s o c)) (own_in O s o j c))
          ∙ ap (λ (p : ℕ). length (inherited O s o j (rows s - 1) p) + length (new_of (inherited O s o j (rows s - 1) p) (own_in O s o j c))) (sym e)
