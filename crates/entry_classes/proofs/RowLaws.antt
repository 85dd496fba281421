-- One answer row: what is told by its code, and what is written of it.
use mathlib.Core.Path.{◌≡◌, refl, ap, ◌∙◌}
use mathlib.Core.List.{List, [], ◌∷◌}
use mathlib.Core.Bool.{Bool, true, false, ◌||◌}
use Prim.Native.Nat.{ℕ, ◌+◌, ◌*◌, ◌<◌, ◌≤◌}
use native.Mathlib.Omega.{arith}
use lib.ListN.{length, get_or}
use lib.Seq.{sets}
use lib.Dec.{eqb, ltb, T}
use borrow.Author.Tests.{eq-eqb, ne_eqb, ltb-true}
use Rattle.definition.specs.Basics.{when◌then◌else◌, bit}
use Rattle.definition.specs.Sheet.{Sheet, a}
use Rattle.definition.specs.Outside.{Outside}
use Rattle.definition.specs.Answer.{raised_class}
use Rattle.definition.proofs.Lists.Tests.{true_of}
use Rattle.machine.specs.Machine.{Store}
use Rattle.after.specs.Inherited.{parent_in}
use Rattle.entry_classes.specs.Told.{row_fits, tells_class, tells_member, method_told, told_member, told_class, member_in, class_in, part_words}
use Rattle.entry_classes.specs.declared.Part.{Part}
use Rattle.entry_classes.specs.declared.Part.TheVariants.{Members, Classes}

-- how many words are written of a row, and of the rows passed
pub part_few : (k : Part) → part_words k ≤ 5
part_few Members = omega arith
part_few Classes = omega arith

pub passed_near : (k : Part) {i n : ℕ} → i < n → part_words k * i ≤ part_words k * n
passed_near Members l = omega arith
passed_near Classes l = omega arith

-- the row of a sheet
pub row_below : (x : List ℕ) → T (row_fits x) → get_or x 0 0 < 2048
unfolding row_fits
row_below x h = ltb-true (get_or x 0 0) 2048 (true_of (ltb (get_or x 0 0) 2048) h)

-- Of answer row x.
module _ (s : Sheet) (o : Store) (n : ℕ) (x : List ℕ) where
  module _ (O : Outside) where
    pub field_told : get_or x 1 0 ≡ 23 → (get_or x 3 0 ∷ 0 ∷ 0 ∷ []) ≡ told_member O s o n x
    unfolding told_member
    field_told e = rw (eq-eqb (get_or x 1 0) 23 e)

    pub method_told_lem : (get_or x 1 0 ≡ 23 → ⊥) → method_told O s o n (get_or x 0 0) (get_or x 2 0) ≡ told_member O s o n x
    unfolding told_member
    method_told_lem f = rw (ne_eqb (get_or x 1 0) 23 f)

    pub member_in_lem : tells_member x ≡ true → told_member O s o n x ≡ member_in O s o n x
    unfolding member_in
    member_in_lem e = rw e

    pub member_none : (w : List ℕ) (p : ℕ) → tells_member x ≡ false → w ≡ sets w p (member_in O s o n x)
    unfolding member_in
    member_none w p e = rw e

    -- three words or none
    pub member_size : length (member_in O s o n x) ≡ 3 * bit (tells_member x)
    unfolding member_in told_member
    member_size = go (eqb (get_or x 1 0) 23) (eqb (get_or x 1 0) 24)
      where
        go : (t u : Bool)
            → length (when t || u then (when t then get_or x 3 0 ∷ 0 ∷ 0 ∷ [] else method_told O s o n (get_or x 0 0) (get_or x 2 0)) else []) ≡ 3 * bit (t || u)
        go true u = refl
        go false true = refl
        go false false = refl

  pub class_told : {c d p e : ℕ} → c ≡ raised_class n (256 + get_or x 0 0) → d ≡ a s (get_or x 0 0) → p ≡ parent_in s o (256 + get_or x 0 0) → e ≡ raised_class n p
      → (c ∷ d ∷ e ∷ get_or x 4 0 ∷ get_or x 5 0 ∷ []) ≡ told_class s o n x
  unfolding told_class
  class_told {c} {d} {p} {e} h i j k =
      ap (λ (y : ℕ). y ∷ d ∷ e ∷ get_or x 4 0 ∷ get_or x 5 0 ∷ []) h ∙ ap (λ (y : ℕ). raised_class n (256 + get_or x 0 0) ∷ y ∷ e ∷ get_or x 4 0 ∷ get_or x 5 0 ∷ []) i
      ∙ ap (λ (y : ℕ). raised_class n (256 + get_or x 0 0) ∷ a s (get_or x 0 0) ∷ y ∷ get_or x 4 0 ∷ get_or x 5 0 ∷ []) (k ∙ ap (raised_class n) j)

  pub class_in_lem : get_or x 1 0 ≡ 22 → told_class s o n x ≡ class_in s o n x
  unfolding class_in
  class_in_lem e = rw (eq-eqb (get_or x 1 0) 22 e)

  pub class_none : (w : List ℕ) (p : ℕ) → (get_or x 1 0 ≡ 22 → ⊥) → w ≡ sets w p (class_in s o n x)
  unfolding class_in
  class_none w p f = rw (ne_eqb (get_or x 1 0) 22 f)

  -- five words or none
  pub class_size : length (class_in s o n x) ≡ 5 * bit (tells_class x)
  unfolding class_in told_class
  class_size = go (eqb (get_or x 1 0) 22)
    where
      go : (t : Bool)
          → length (when t then raised_class n (256 + get_or x 0 0) ∷ a s (get_or x 0 0) ∷ raised_class n (parent_in s o (256 + get_or x 0 0)) ∷ get_or x 4 0 ∷ get_or x 5 0 ∷ [] else [])
          ≡ 5 * bit t
      go true = refl
      go false = refl
