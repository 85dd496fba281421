-- Listed names by number, and the places at which they start in their bytes.
use Rattle.std.specs.Prelude.{◌≡◌, List, [], ◌∷◌, ◌++◌, ℕ, ◌+◌, ◌-◌, ◌<◌, ◌≤◌, length, get_or, drop, eqb, leb}
use Rattle.definition.specs.Basics.{when◌then◌else◌, place}
use Rattle.definition.specs.Names.{Name, fixed, listed}

-- the listed name of number n, without its end; empty where n names nothing in the list
abbrev pub name_of : List ℕ → ℕ → Name
name_of ns n = when leb 25 n then get_or (listed ns) (n - 25) [] else []

-- the fixed and the listed names, by rising number from 1 on
abbrev pub numbered : List ℕ → List Name
numbered ns = fixed ++ listed ns

-- the name of number n; empty where n is above all numbers
abbrev pub named : List Name → ℕ → Name
named l n = get_or l (n - 1) []

-- how many bytes stand before the first end
abbrev pub first_size : List ℕ → ℕ
first_size = place (λ x. eqb x 10)

-- the name that starts at place `at` of the list ns ends at e: at its end byte, or with the list
pub record Ends (ns : List ℕ) (at e : ℕ) : Type 0 where
  pub inside : at < length ns
  pub size : e ≡ at + first_size (drop at ns)
  pub within : e ≤ length ns

-- where names start that stand one after another from a place on, each with its end; last, the place past them
abbrev pub starts_from : ℕ → List Name → List ℕ
starts_from at [] = at ∷ []
starts_from at (n ∷ ns) = at ∷ starts_from (at + length n + 1) ns

-- the same of the listed names
abbrev pub starts : List ℕ → List ℕ
starts ns = starts_from 0 (listed ns)
