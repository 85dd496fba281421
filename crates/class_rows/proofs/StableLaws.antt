-- Names and methods that a longer climb does not change.
use mathlib.Core.Path.{◌≡◌, refl, sym, ap, ◌∙◌}
use mathlib.Core.Bool.{false}
use mathlib.Core.List.{List}
use Prim.Native.Nat.{ℕ, zero, suc, ◌+◌, ◌-◌, ◌<◌, ◌≤◌}
use native.Mathlib.Omega.{arith}
use lib.Dec.{eqb}
use Rattle.definition.specs.Basics.{when◌then◌else◌}
use Rattle.definition.specs.Sheet.{Sheet, rows}
use Rattle.definition.specs.Outside.{Outside}
use Rattle.definition.specs.Classes.{of_sheet, own_methods, merge_fields, merge_methods}
use Rattle.machine.specs.Machine.{Store as Stored}
use Rattle.after.specs.Inherited.{parent_in, methods_in}
use Rattle.class_names.specs.Names.{own_in, names_in}

module _ (O : Outside) (s : Sheet) (o : Stored) where
  -- What f gives for the class of row r is the same for all climbs of more than r classes.
  abbrev pub Steady : {A : Type 0} → (ℕ → ℕ → List A) → ℕ → Type 0
  Steady f r = (n : ℕ) → r < n → f n (256 + r) ≡ f (rows s) (256 + r)

  -- a class from outside has no parent
  outside_first : (p : ℕ) → of_sheet s p ≡ false → parent_in s o p ≡ 0
  unfolding parent_in
  outside_first p l = rw l

  module _ {A : Type 0} (f : ℕ → ℕ → List A) (own : ℕ → List A) (merge : List A → List A → List A)
      (step : (n c : ℕ) → f (suc n) c ≡ (when eqb (parent_in s o c) 0 then own c else merge (f n (parent_in s o c)) (own c))) (r : ℕ) (l : r < rows s) where
    steady_from : (up : List A) → ((m : ℕ) → r ≤ m → f m (parent_in s o (256 + r)) ≡ up) → Steady f r
    steady_from up h n b = same n b ∙ sym (same (rows s) l)
      where
        same : (n : ℕ) → r < n → f n (256 + r) ≡ (when eqb (parent_in s o (256 + r)) 0 then own (256 + r) else merge up (own (256 + r)))
        same n g =
            let z : n ≡ suc (n - 1) = omega arith in
            ap (λ (i : ℕ). f i (256 + r)) z ∙ step (n - 1) (256 + r)
            ∙ ap (λ (u : List A). when eqb (parent_in s o (256 + r)) 0 then own (256 + r) else merge u (own (256 + r))) (h (n - 1) (omega arith))

    steady_outside : 0 < r → of_sheet s (parent_in s o (256 + r)) ≡ false → Steady f r
    steady_outside z b = steady_from (own (parent_in s o (256 + r))) (λ m h. top m (omega arith))
      where
        top : (m : ℕ) → 0 < m → f m (parent_in s o (256 + r)) ≡ own (parent_in s o (256 + r))
        top zero g = absurd (omega arith)
        top (suc m) g = step m (parent_in s o (256 + r)) ∙ rw (outside_first (parent_in s o (256 + r)) b)

    steady_below : (i : ℕ) → i < r → parent_in s o (256 + r) ≡ 256 + i → Steady f i → Steady f r
    steady_below i b e h = steady_from (f (rows s) (256 + i)) (λ m g. ap (f m) e ∙ h m (omega arith))

  names_by_parent : (j n c : ℕ) → names_in O s o j (suc n) c ≡ (when eqb (parent_in s o c) 0 then own_in O s o j c else merge_fields (names_in O s o j n (parent_in s o c)) (own_in O s o j c))
  unfolding names_in
  names_by_parent j n c = refl

  methods_by_parent : (n c : ℕ) → methods_in O s o (suc n) c ≡ (when eqb (parent_in s o c) 0 then own_methods O s c else merge_methods (methods_in O s o n (parent_in s o c)) (own_methods O s c))
  unfolding methods_in
  methods_by_parent n c = refl

  module _ (r : ℕ) (l : r < rows s) where
    -- below a class from outside, or with no parent
    pub names_outside : 0 < r → of_sheet s (parent_in s o (256 + r)) ≡ false → (j : ℕ) → Steady (names_in O s o j) r
    names_outside z b j = steady_outside (names_in O s o j) (own_in O s o j) merge_fields (names_by_parent j) r l z b

    pub methods_outside : 0 < r → of_sheet s (parent_in s o (256 + r)) ≡ false → Steady (methods_in O s o) r
    methods_outside z b = steady_outside (methods_in O s o) (own_methods O s) merge_methods methods_by_parent r l z b

    -- below the class of row i
    pub names_below_lem : (i : ℕ) → i < r → parent_in s o (256 + r) ≡ 256 + i → (j : ℕ) → Steady (names_in O s o j) i → Steady (names_in O s o j) r
    names_below_lem i b e j h = steady_below (names_in O s o j) (own_in O s o j) merge_fields (names_by_parent j) r l i b e h

    pub methods_below : (i : ℕ) → i < r → parent_in s o (256 + r) ≡ 256 + i → Steady (methods_in O s o) i → Steady (methods_in O s o) r
    methods_below i b e h = steady_below (methods_in O s o) (own_methods O s) merge_methods methods_by_parent r l i b e h
