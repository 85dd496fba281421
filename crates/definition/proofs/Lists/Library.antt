-- The words of the definitions on lists are the library's.
use Rattle.std.proofs.Common.{◌≡◌, refl, ap, ◌∙◌, ℕ, zero, suc, ◌+◌, Bool, ◌&&◌, ◌||◌, List, [], ◌∷◌, arith}
use Rattle.std.specs.List.{list_all, list_any, range_with_len}
use Rattle.definition.specs.Basics.{all, any, from}

pub list_all_same : {A : Type 0} (p : A → Bool) (xs : List A) → list_all p xs ≡ all p xs
list_all_same p [] = refl
list_all_same p (x ∷ xs) = ap (λ (t : Bool). p x && t) (list_all_same p xs)

pub list_any_same : {A : Type 0} (p : A → Bool) (xs : List A) → list_any p xs ≡ any p xs
list_any_same p [] = refl
list_any_same p (x ∷ xs) = ap (λ (t : Bool). p x || t) (list_any_same p xs)

pub range_same : (a n : ℕ) → range_with_len a n ≡ from a n
range_same a zero = refl
range_same a (suc n) = let e : a + 1 ≡ suc a = omega arith in ap (λ (l : List ℕ). a ∷ l) (ap (λ (b : ℕ). range_with_len b n) e ∙ range_same (suc a) n)

-- what `all` answers of a range from 0 on
pub all_range : (p : ℕ → Bool) (n : ℕ) → list_all p (range_with_len 0 n) ≡ all p (from 0 n)
all_range p n = ap (list_all p) (range_same 0 n) ∙ list_all_same p (from 0 n)
