-- The climb from a class to its parents, after `process` and `resolve_inheritance` of the Rust. Classes are the places of a run of parent
-- numbers. Marks stand for the Rust's two sets: a class without a mark is pending, one with the mark of this climb is pending and in its
-- lineage, one with another mark is not pending.
use Rattle.std.specs.Prelude.{Bool, true, false, not, ◌&&◌, ◌||◌, List, [], ◌∷◌, map, ℕ, zero, suc, min, eqb, ltb, length, get_or, set}
use Rattle.definition.specs.Basics.{when◌then◌else◌, first, from, ◌∈?◌}
use Rattle.machine.specs.Machine.{one_more}
use Rattle.std.specs.Prelude.{Result, Ok, Err, Option, Some, None}
use Rattle.climb.specs.declared.ClimbError.{ClimbError}
use Rattle.climb.specs.declared.ClimbError.TheVariants.{Circle, NoRecord}

-- the parent number that stands for a parent without a record
abbrev pub NO_RECORD : ℕ
NO_RECORD = 4294967295

-- a parent number that ends the climb, as any other past the run
abbrev pub ENDS : ℕ
ENDS = 4294967294

-- how many classes a run has: those with a parent number and a mark, and a number below ENDS
abbrev pub run_size : List ℕ → List ℕ → ℕ
run_size parents marks = min ENDS (min (length parents) (length marks))

-- how a climb ended: past the last parent, or at a class that is refused
abbrev pub Ending : Type 0
Ending = Result (Unit {0}) ClimbError

-- what a step comes to: the parent to go on with, or none, or a class that is refused
abbrev pub Step : Type 0
Step = Result (Option ℕ) ClimbError

-- how a climb ended, and the marks after it
pub record Climbed : Type 0 where
  pub ending : Ending
  pub marks : List ℕ

abbrev pub leaving : Ending → List ℕ → Climbed
leaving x marks = record { ending = x; marks = marks }

-- is class c still to be processed, in a climb that marks with `mark`?
abbrev pub is_pending : ℕ → ℕ → List ℕ → ℕ → Bool
is_pending size mark marks c = ltb c size && (eqb (get_or marks c 0) 0 || eqb (get_or marks c 0) mark)

-- was class c met in this climb?
abbrev pub in_lineage : ℕ → List ℕ → ℕ → Bool
in_lineage mark marks c = eqb (get_or marks c 0) mark

-- has the parent of class c no record?
abbrev pub lacks_record : List ℕ → ℕ → Bool
lacks_record parents c = eqb (get_or parents c 0) NO_RECORD

-- the Rust's `process` on class c, over `size` classes; n bounds the climb. A class without a parent has a number past the run here, which is
-- not pending.
abbrev pub process : List ℕ → ℕ → ℕ → ℕ → List ℕ → ℕ → Climbed
process parents size mark zero marks c = leaving (Ok tt) marks
process parents size mark (suc n) marks c =
    let up : Climbed = process parents size mark n (set marks c mark) (get_or parents c 0) in
    when not (is_pending size mark marks c) then leaving (Ok tt) marks
    else when in_lineage mark marks c then leaving (Err (Circle c)) marks
    else when lacks_record parents c then leaving (Err (NoRecord c)) marks
    else up

-- the climb from class c, which marks with c + 1. It goes up at most once from each class: a larger bound changes nothing (`bound_enough`).
unfoldable pub climbed : List ℕ → List ℕ → ℕ → Climbed
climbed parents marks c = process parents (run_size parents marks) (one_more c) (suc (run_size parents marks)) marks c

abbrev pub is_top : Ending → Bool
is_top (Ok x) = true
is_top (Err e) = false

-- the climbs from class c and the n - 1 that follow it, up to the first that does not end at the top
abbrev pub process_all : List ℕ → ℕ → List ℕ → ℕ → Climbed
process_all parents zero marks c = leaving (Ok tt) marks
process_all parents (suc n) marks c =
    let x : Climbed = climbed parents marks c in
    let later : Climbed = process_all parents n x.marks (suc c) in when is_top x.ending then later else x

-- the climbs from all classes
unfoldable pub climbed_all : List ℕ → List ℕ → Climbed
climbed_all parents marks = process_all parents (run_size parents marks) marks 0

-- one step of `process`: the parent to go on with, or how the climb ended
abbrev pub step_at : List ℕ → ℕ → ℕ → List ℕ → ℕ → Step
step_at parents size mark marks c =
    when not (is_pending size mark marks c) then Ok None
    else when in_lineage mark marks c then Err (Circle c)
    else when lacks_record parents c then Err (NoRecord c)
    else Ok (Some (get_or parents c 0))

-- the marks after a step from class c
abbrev pub marks_after : ℕ → List ℕ → ℕ → Step → List ℕ
marks_after mark marks c (Ok (Some p)) = set marks c mark
marks_after mark marks c (Ok None) = marks
marks_after mark marks c (Err e) = marks

-- the climb without marks: all classes are pending, `lineage` are those met
abbrev pub climb_from : List ℕ → ℕ → ℕ → List ℕ → ℕ → Ending
climb_from parents size zero lineage c = (Ok tt)
climb_from parents size (suc n) lineage c =
    let up : Ending = climb_from parents size n (c ∷ lineage) (get_or parents c 0) in
    when not (ltb c size) then (Ok tt)
    else when c ∈? lineage then Err (Circle c)
    else when lacks_record parents c then Err (NoRecord c)
    else up

-- of the climbs without marks from all classes the first that does not end at the top
unfoldable pub first_ending : List ℕ → ℕ → Ending
first_ending parents size = first (λ x. not (is_top x)) (Ok tt) (map (climb_from parents size (suc size) []) (from 0 size))
