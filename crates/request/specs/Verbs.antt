-- The verbs by their numbers.
use Rattle.std.specs.Prelude.{ℕ, ◌==◌, if◌then◌else◌, Result, Ok, Err}
use Rattle.request.specs.declared.broken.Broken.{Broken}
use Rattle.request.specs.declared.broken.Broken.TheVariants.{Verb as UnknownVerb}
use Rattle.request.specs.declared.verb.Verb.{Verb}
use Rattle.request.specs.declared.verb.Verb.TheVariants.{Resolve, Enter, Preview, Withdraw, NameText, FindName, OrderUnits, ToColumns, FromColumns}

-- the verb of a number, if there is one
abbrev pub verb_of : ℕ → Result Verb Broken
verb_of n =
    if n == 1 then Ok Resolve else (
    if n == 2 then Ok Enter else (
    if n == 3 then Ok Preview else (
    if n == 4 then Ok Withdraw else (
    if n == 5 then Ok NameText else (
    if n == 6 then Ok FindName else (
    if n == 7 then Ok OrderUnits else (
    if n == 9 then Ok ToColumns else (
    if n == 10 then Ok FromColumns else Err UnknownVerb))))))))
