-- Names counted one after another, each once.
use mathlib.Core.Path.{◌≡◌, refl, sym, ap, ◌∙◌}
use mathlib.Core.Bool.{Bool, true, false}
use mathlib.Core.List.{List, [], ◌∷◌}
use Prim.Native.Nat.{ℕ, zero, suc, ◌+◌, ◌<◌}
use native.Mathlib.Omega.{arith}
use lib.Dec.{eqb}
use lib.ListN.{length, get_or, set, replicate, length-map}
use borrow.Author.Tests.{eq-eqb, ne_eqb}
use Rattle.definition.specs.Basics.{when◌then◌else◌, distinct}
use Rattle.definition.specs.Meaning.{Named}
use Rattle.session_outside.specs.Written.{seen, firsts, names_below, visible_names, core_name}
use Rattle.session_outside.specs.Readable.{Readable}
use Rattle.session_outside.proofs.NameLaws.{same_name}
use Rattle.session_outside.proofs.VisibleLaws.{marks_find}

-- a name that has a mark, and one that has none
module _ (m : List ℕ) {name : ℕ} (y : Named) (ys : List Named) (e : name ≡ y.name) where
  pub known_counted : (get_or m name 0 ≡ 0 → ⊥) → 0 + length (firsts m ys) ≡ length (firsts m (y ∷ ys))
  unfolding firsts
  known_counted f = omega (arith, sym (ap (λ (t : Bool). length (when t then y ∷ firsts (set m y.name 1) ys else firsts m ys)) no))
    where
      no : eqb (get_or m y.name 0) 0 ≡ false
      no = ne_eqb (get_or m y.name 0) 0 (λ z. f (ap (λ (k : ℕ). get_or m k 0) e ∙ z))

  pub new_counted : {m' : List ℕ} → get_or m name 0 ≡ 0 → m' ≡ set m name 1 → 1 + length (firsts m' ys) ≡ length (firsts m (y ∷ ys))
  unfolding firsts
  new_counted {m'} h p =
      omega (
        arith,
        ap (λ (l : List ℕ). length (firsts l ys)) (p ∙ ap (λ (k : ℕ). set m k 1) e),
        ap (λ (t : Bool). length (when t then y ∷ firsts (set m y.name 1) ys else firsts m ys)) yes,
      )
    where
      yes : eqb (get_or m y.name 0) 0 ≡ true
      yes = eq-eqb (get_or m y.name 0) 0 (sym (ap (λ (k : ℕ). get_or m k 0) e) ∙ h)

-- none is left to count
pub none_counted : (m : List ℕ) → length (firsts m []) ≡ 0
unfolding firsts
none_counted m = refl

-- the number of a core name
pub core_number : (i : ℕ) → i < 9 → i + 1 ≡ (core_name i).name
core_number zero l = refl
core_number (suc zero) l = refl
core_number (suc (suc zero)) l = refl
core_number (suc (suc (suc zero))) l = refl
core_number (suc (suc (suc (suc zero)))) l = refl
core_number (suc (suc (suc (suc (suc zero))))) l = refl
core_number (suc (suc (suc (suc (suc (suc zero)))))) l = refl
core_number (suc (suc (suc (suc (suc (suc (suc zero))))))) l = refl
core_number (suc (suc (suc (suc (suc (suc (suc (suc zero)))))))) l = refl
core_number (suc (suc (suc (suc (suc (suc (suc (suc (suc i))))))))) l = absurd (omega arith)

-- from a table without marks all visible names are counted
pub all_counted : {w : List ℕ} → Readable w → {m : List ℕ} {k : ℕ} → m ≡ replicate 1049 0 → k ≡ length (firsts m (names_below w (get_or w 5 0))) → k ≡ length (visible_names w)
unfolding visible_names
all_counted {w} r {m} {k} em e =
    e ∙ ap (λ (l : List ℕ). length (firsts l (names_below w (get_or w 5 0)))) em ∙ ap (length {A = Named}) (marks_find r 1049 (omega arith))
    ∙ sym (length-map (distinct same_name (names_below w (get_or w 5 0))) seen)
