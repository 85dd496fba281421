-- The questions 5 to 21, in the order in which they are asked.
use Rattle.std.specs.Prelude.{Bool, true, false, not, ◌&&◌, ◌||◌, List, [], ◌∷◌, map, ℕ, zero, suc, ◌+◌, ◌-◌, length, eqb}
use Rattle.definition.specs.Basics.{when◌then◌else◌, filter, first, from, ◌∈?◌}
use Rattle.definition.specs.Kind.{CLASS, ASSIGN, BREAK, CONTINUE, LET, CLASS_DECLARATION, IDENTIFIER, HOST_CONSTANT, MEMBER, INSTANCEOF, CALL}
use Rattle.definition.specs.Sheet.{Sheet, child, a, b, rows, kids, is}
use Rattle.definition.specs.Outside.{Outside, Method}
use Rattle.definition.specs.Meaning.{Meaning, is_declared, is_class, class_number}
use Rattle.definition.specs.Walk.{Event, enter, leave, loop, declare, bring, visit, literal_let}
use Rattle.definition.specs.Scope.{Moment, Stack, lookup, taken, in_loop, visited, visits}
use Rattle.definition.specs.Slots.{is_mutable}
use Rattle.definition.specs.Classes.{of_sheet, has_record, lacks_record, method_of, own_methods, class_name, parent_of, methods}

-- A question answered no: its number, the row of its position, the name asked about. Number 0: none.
pub record Refusal : Type 0 where
  pub number : ℕ
  pub at : ℕ
  pub name : ℕ

abbrev pub none : Refusal
none = record { number = 0; at = 0; name = 0 }

-- question q, with a position and a name: no refusal if the test passes
abbrev pub ask : ℕ → ℕ → ℕ → Bool → Refusal
ask q r n true = none
ask q r n false = record { number = q; at = r; name = n }

-- the first refusal of a list
abbrev pub first_no : List Refusal → Refusal
first_no rs = first (λ x. not (eqb x.number 0)) none rs

-- What the questions read of what is open.
pub record Open : Type 0 where
  pub means : ℕ → Meaning  -- what a name means
  pub is_taken : ℕ → Bool  -- is a name declared in the innermost scope?
  pub is_looping : Bool  -- is there a loop around in the innermost function?

-- what is open on a stack
abbrev pub open_on : Sheet → Stack → Open
open_on s st = record { means = λ n. lookup n st; is_taken = λ n. taken n st; is_looping = in_loop s st }

-- the class that call r constructs: its callee is an identifier that means it
abbrev pub constructed : Sheet → ℕ → Open → ℕ
constructed s r x = when is s IDENTIFIER (child s r) then class_number (x.means (a s (child s r))) else 0

-- the class on which call r calls a method: its callee is a member of an identifier that means the class
abbrev pub receiver : Sheet → ℕ → Open → ℕ
receiver s r x =
    when is s MEMBER (child s r) && is s IDENTIFIER (child s (child s r)) then class_number (x.means (a s (child s (child s r)))) else 0

-- how many arguments call r has
abbrev pub arguments : Sheet → ℕ → ℕ
arguments s r = length (kids s r) - 1

-- the questions on the callee of call r, at the callee's position
abbrev pub ask_callee : Outside → Sheet → ℕ → Open → Refusal
ask_callee O s r x =
    let callee : ℕ = child s r in
    let c : ℕ = receiver s r x in
    let m : Method = method_of (a s callee) (own_methods O s c) in
    -- 12: has a class called as a constructor a record?
    when not (eqb (constructed s r x) 0) then ask 12 callee (a s callee) (has_record O s (constructed s r x))
    else when eqb c 0 then none
    -- 17: is a method's class none of 3 to 9?
    else when not (has_record O s c) then ask 17 callee (a s callee) false
    -- 13: has a class with a record the method called on it? Its own ones alone
    else when eqb m.fun 0 then ask 13 callee (a s callee) false
    -- 14: with as many parameters as arguments?
    else ask 14 callee (a s callee) (eqb (arguments s r) m.params)

-- the question on row r when it is visited, at its position
abbrev pub ask_visit : Outside → Sheet → ℕ → Open → Refusal
ask_visit O s r x =
    -- 5: does a break or continue stand in a loop?
    when is s BREAK r || is s CONTINUE r then ask 5 r 0 x.is_looping
    -- 6: is an assigned identifier mutable?
    else when is s ASSIGN r then ask 6 r (a s (child s r)) (not (is s IDENTIFIER (child s r)) || is_mutable s (x.means (a s (child s r))))
    -- 8: is an identifier other than null declared? 9: and null?
    else when is s IDENTIFIER r then ask (when eqb (a s r) 22 then 9 else 8) r (a s r) (is_declared (x.means (a s r)))
    -- 10: does instanceof name a class?
    else when is s INSTANCEOF r then ask 10 r (a s r) (is_class (x.means (a s r)))
    -- 11: does a parent name one?
    else when is s CLASS_DECLARATION r then ask 11 r (b s (a s r)) (eqb (b s (a s r)) 0 || is_class (x.means (b s (a s r))))
    -- 17: is a host constant MAIN_UNIT?
    else when is s HOST_CONSTANT r then ask 17 r (a s r) (eqb (a s r) 24)
    else when is s CALL r then ask_callee O s r x
    else none

-- the question at an event of the walk
abbrev pub ask_event : Outside → Sheet → Event → Open → Refusal
ask_event O s (enter r) x = none
ask_event O s leave x = none
ask_event O s loop x = none
-- 7: is a let's name free in its own scope? 16: is each class, parameter and hoisted name new in its scope?
ask_event O s (declare r) x = ask (when is s LET r && not (literal_let s r) then 7 else 16) r (a s r) (not (x.is_taken (a s r)))
-- 15: does the imported unit define the listed name? 16: is each import new in its scope?
ask_event O s (bring r n d) x = when is_declared d then ask 16 r n (not (x.is_taken n)) else ask 15 r n false
ask_event O s (visit r) x = ask_visit O s r x

-- the moments before the first at which the question of an event gets a no
abbrev pub until_no : Outside → Sheet → List Moment → List Moment
until_no O s [] = []
until_no O s (m ∷ ms) = when eqb (ask_event O s m.event (open_on s m.stack)).number 0 then m ∷ until_no O s ms else []

-- 18: is class c off every parent circle it climbs into? 19: has its parent a record? Then the same of its parent. `parent`
-- gives that of a class, `met` are the classes climbed through, n bounds the climb
abbrev pub ask_climb : Outside → Sheet → (ℕ → ℕ) → ℕ → List ℕ → ℕ → Refusal
ask_climb O s parent zero met c = none
ask_climb O s parent (suc n) met c =
    let up : Refusal = ask_climb O s parent n (c ∷ met) (parent c) in
    when not (of_sheet s c) then none
    else when c ∈? met then ask 18 (c - 256) (a s (c - 256)) false
    else when lacks_record O s (parent c) then ask 19 (c - 256) (a s (c - 256)) false
    else up

-- the first no of a question on the classes of the sheet, in row order
abbrev pub first_of_classes : Sheet → (ℕ → Refusal) → Refusal
first_of_classes s question = first_no (map (λ r. question (256 + r)) (filter (is s CLASS) (from 0 (rows s))))

-- 20: is init among the methods ms of class c, which call r constructs? 21: with arguments + 1 parameters? At the callee's position
abbrev pub ask_init : Outside → Sheet → List Method → ℕ → ℕ → Refusal
ask_init O s ms r c =
    let i : Method = method_of 23 ms in
    when eqb i.fun 0 then ask 20 (child s r) (class_name O s c) false
    else ask 21 (child s r) (class_name O s c) (eqb (arguments s r + 1) i.params)

module _ (O : Outside) (s : Sheet) (h : List Moment) where
  -- 20 and 21 of a call that constructs a class, with the methods that the class has after inheritance
  abbrev pub ask_constructor : Moment → Refusal
  ask_constructor m =
      let r : ℕ = visited m.event in
      let c : ℕ = constructed s r (open_on s m.stack) in
      when eqb c 0 then none else ask_init O s (methods O s h (rows s) c) r c

  -- the first question with a no: in the walk, then of the classes in row order, then of the constructor calls
  abbrev pub refusal : Refusal
  refusal =
      first_no (
      first_no (map (λ m. ask_event O s m.event (open_on s m.stack)) h)
      ∷ first_of_classes s (ask_climb O s (parent_of s h) (suc (rows s)) [])
      ∷ first_no (map ask_constructor (visits s h CALL))
      ∷ [])
