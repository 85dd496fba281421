-- Lists and tests: what the definitions of the resolver share.
use Rattle.std.specs.Prelude.{Bool, true, false, not, ◌&&◌, ◌||◌, List, [], ◌∷◌, ◌++◌, ℕ, zero, suc, ◌+◌, max, eqb}

infixr 20 when◌then◌else◌
-- a choice by a test
abbrev pub when◌then◌else◌ {ℓ} : {A : Type ℓ} → Bool → A → A → A
when◌then◌else◌ true x y = x
when◌then◌else◌ false x y = y

infixr 25 ◌⇒◌
-- where the first test passes, does the second?
abbrev pub ◌⇒◌ : Bool → Bool → Bool
true ⇒ q = q
false ⇒ q = true

-- a test as a number
abbrev pub bit : Bool → ℕ
bit true = 1
bit false = 0

module _ {ℓ} {A : Type ℓ} where
  -- the elements that pass a test, in order
  abbrev pub filter : (A → Bool) → List A → List A
  filter p [] = []
  filter p (x ∷ xs) = when p x then x ∷ filter p xs else filter p xs

  -- does some element pass a test?
  abbrev pub any : (A → Bool) → List A → Bool
  any p [] = false
  any p (x ∷ xs) = p x || any p xs

  -- do all elements pass a test?
  abbrev pub all : (A → Bool) → List A → Bool
  all p [] = true
  all p (x ∷ xs) = p x && all p xs

  -- how many elements pass a test?
  abbrev pub count : (A → Bool) → List A → ℕ
  count p [] = 0
  count p (x ∷ xs) = bit (p x) + count p xs

  -- the sum of a number for each element
  abbrev pub total : (A → ℕ) → List A → ℕ
  total f [] = 0
  total f (x ∷ xs) = f x + total f xs

  -- are no two elements the same?
  abbrev pub unlike : (A → A → Bool) → List A → Bool
  unlike same [] = true
  unlike same (x ∷ xs) = not (any (same x) xs) && unlike same xs

  -- the first element that passes a test, or d
  abbrev pub first : (A → Bool) → A → List A → A
  first p d [] = d
  first p d (x ∷ xs) = when p x then x else first p d xs

  -- the last element, if there is one, as a list
  abbrev pub final : List A → List A
  final [] = []
  final (x ∷ []) = x ∷ []
  final (x ∷ y ∷ ys) = final (y ∷ ys)

  -- the list without repeats, by a test of sameness
  abbrev pub distinct : (A → A → Bool) → List A → List A
  distinct same [] = []
  distinct same (x ∷ xs) = x ∷ filter (λ y. not (same x y)) (distinct same xs)

  -- the place of the first element that passes a test
  abbrev pub place : (A → Bool) → List A → ℕ
  place p [] = 0
  place p (x ∷ xs) = when p x then 0 else suc (place p xs)

module _ {ℓ κ} {A : Type ℓ} {B : Type κ} where
  -- the lists that f gives, joined
  abbrev pub concat_map : (A → List B) → List A → List B
  concat_map f [] = []
  concat_map f (x ∷ xs) = f x ++ concat_map f xs

-- do all tests pass?
abbrev pub every : List Bool → Bool
every [] = true
every (x ∷ xs) = x && every xs

infixl 45 ◌∈?◌
-- is n in the list?
abbrev pub ◌∈?◌ : ℕ → List ℕ → Bool
n ∈? ns = any (eqb n) ns

-- the largest number of the list, or 0
abbrev pub largest : List ℕ → ℕ
largest [] = 0
largest (n ∷ ns) = max n (largest ns)

-- n, n + 1, .. : k numbers
abbrev pub from : ℕ → ℕ → List ℕ
from n zero = []
from n (suc k) = n ∷ from (suc n) k

-- the first number of the list, or 0
abbrev pub head : List ℕ → ℕ
head [] = 0
head (n ∷ ns) = n
