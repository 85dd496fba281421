-- The climb on examples. 9 is past each run, and ends a climb.
use Rattle.std.specs.Prelude.{◌≡◌, refl, List, [], ◌∷◌, map, ℕ, length, replicate}
use Rattle.definition.specs.Basics.{from}
use Rattle.std.specs.Prelude.{Ok, Err}
use Rattle.climb.specs.declared.ClimbError.TheVariants.{Circle, NoRecord}
use Rattle.climb.specs.Process.{Ending, NO_RECORD, leaving, climbed, climbed_all, first_ending}

-- marks of no climb
abbrev unmarked : List ℕ → List ℕ
unmarked parents = replicate (length parents) 0

-- how the climb from each class ends, if it is the first
abbrev endings : List ℕ → List Ending
endings parents = map (λ c. (climbed parents (unmarked parents) c).ending) (from 0 (length parents))

-- a class that is its own parent
own_parent : climbed (0 ∷ []) (0 ∷ []) 0 ≡ leaving (Err (Circle 0)) (1 ∷ [])
unfolding climbed
own_parent = refl

-- a circle of three, 1 2 3, entered from outside: the class met twice is the one where it is entered
three : climbed (1 ∷ 2 ∷ 3 ∷ 1 ∷ []) (0 ∷ 0 ∷ 0 ∷ 0 ∷ []) 0 ≡ leaving (Err (Circle 1)) (1 ∷ 1 ∷ 1 ∷ 1 ∷ [])
unfolding climbed
three = refl

three_from_each : endings (1 ∷ 2 ∷ 3 ∷ 1 ∷ []) ≡ Err (Circle 1) ∷ Err (Circle 1) ∷ Err (Circle 2) ∷ Err (Circle 3) ∷ []
unfolding climbed
three_from_each = refl

-- two circles, 1 2 and 3 4, behind a class without a parent: the first is answered, with the marks of three climbs
two_circles : climbed_all (9 ∷ 2 ∷ 1 ∷ 4 ∷ 3 ∷ []) (0 ∷ 0 ∷ 0 ∷ 0 ∷ 0 ∷ []) ≡ leaving (Err (Circle 1)) (1 ∷ 2 ∷ 2 ∷ 0 ∷ 0 ∷ [])
unfolding climbed climbed_all
two_circles = refl

-- a line of a hundred classes, each below the next: the first climb marks them all; the other way round each climb marks its first class
abbrev line : List ℕ
line = from 1 100

upward : climbed_all line (unmarked line) ≡ leaving (Ok tt) (replicate 100 1)
unfolding climbed climbed_all
upward = refl

downward : climbed_all (200 ∷ from 0 99) (unmarked line) ≡ leaving (Ok tt) (from 1 100)
unfolding climbed climbed_all
downward = refl

-- a parent without a record, of class 1, before a circle and after it: the first class that leads to either decides
record_first : climbed_all (1 ∷ NO_RECORD ∷ 3 ∷ 2 ∷ []) (0 ∷ 0 ∷ 0 ∷ 0 ∷ []) ≡ leaving (Err (NoRecord 1)) (1 ∷ 0 ∷ 0 ∷ 0 ∷ [])
unfolding climbed climbed_all
record_first = refl

circle_first : climbed_all (1 ∷ 0 ∷ 3 ∷ NO_RECORD ∷ []) (0 ∷ 0 ∷ 0 ∷ 0 ∷ []) ≡ leaving (Err (Circle 0)) (1 ∷ 1 ∷ 0 ∷ 0 ∷ [])
unfolding climbed climbed_all
circle_first = refl

-- a class with a mark of another climb is not climbed again, even into a circle; one past the marks or the run ends the climb
marked : climbed (1 ∷ 1 ∷ []) (0 ∷ 7 ∷ []) 0 ≡ leaving (Ok tt) (1 ∷ 7 ∷ [])
unfolding climbed
marked = refl

few_marks : climbed (1 ∷ 0 ∷ []) (0 ∷ []) 0 ≡ leaving (Ok tt) (1 ∷ [])
unfolding climbed
few_marks = refl

past_the_run : climbed (0 ∷ []) (0 ∷ []) 1 ≡ leaving (Ok tt) (0 ∷ [])
unfolding climbed
past_the_run = refl

-- the same without marks
without_marks : map (λ parents. first_ending parents (length parents))
    ((0 ∷ []) ∷ (1 ∷ 2 ∷ 3 ∷ 1 ∷ []) ∷ (9 ∷ 2 ∷ 1 ∷ 4 ∷ 3 ∷ []) ∷ line ∷ (1 ∷ NO_RECORD ∷ 3 ∷ 2 ∷ []) ∷ (1 ∷ 0 ∷ 3 ∷ NO_RECORD ∷ []) ∷ [])
    ≡ Err (Circle 0) ∷ Err (Circle 1) ∷ Err (Circle 1) ∷ (Ok tt) ∷ Err (NoRecord 1) ∷ Err (Circle 0) ∷ []
unfolding first_ending
without_marks = refl
