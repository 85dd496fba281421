-- The name index: a table of 2,048 places in which names stand under their numbers. A place that holds 0 is free.
use Rattle.std.specs.Prelude.{Option, None, Some, List, [], ◌∷◌, ◌++◌, ℕ, suc, ◌+◌, ◌*◌, ◌%◌, ◌^◌, eqb, take, drop, set, replicate}
use Rattle.std.specs.Int.Bits.{bit_xor}
use Rattle.definition.specs.Basics.{when◌then◌else◌, place}
use Rattle.definition.specs.Names.{Name, same_name, names_fit}
use Rattle.names.specs.Listed.{numbered, named}

-- the 32-bit FNV-1a value of bytes, begun with v: for each byte the exclusive-or, then the product modulo 2^32
abbrev pub fnv_from : ℕ → Name → ℕ
fnv_from v [] = v
fnv_from v (b ∷ bs) = fnv_from (bit_xor v b * 16777619 % 2 ^ 32) bs

-- the 32-bit FNV-1a value of bytes
abbrev pub fnv : Name → ℕ
fnv = fnv_from 2166136261

-- the place at which a name is looked for first
abbrev pub place_of : Name → ℕ
place_of n = fnv n % 2048

-- the words of a table from place p on, around the end
abbrev pub turned : ℕ → List ℕ → List ℕ
turned p t = drop p t ++ take p t

-- how many words stand before the first free place
abbrev pub run : List ℕ → ℕ
run = place (λ w. eqb w 0)

-- number n entered in a table at the first free place from p on; while fewer than 2,048 places are full there is one
abbrev pub enter : List ℕ → ℕ → ℕ → List ℕ
enter t p n = set t ((p + run (turned p t)) % 2048) n

-- names entered one after another, under rising numbers from n on
abbrev pub enter_all : List ℕ → ℕ → List Name → List ℕ
enter_all t n [] = t
enter_all t n (b ∷ bs) = enter_all (enter t (place_of b) n) (suc n) bs

-- the table of names that have the numbers 1, 2, ..
unfoldable pub index_of : List Name → List ℕ
index_of l = enter_all (replicate 2048 0) 1 l

-- one place more was read
abbrev pub further : ℕ × ℕ → ℕ × ℕ
further a = (a.0, suc a.1)

-- bytes looked for among the names l, word by word up to a free place: the number, 0 if absent, and how many places were read
abbrev pub walk : List Name → Name → List ℕ → ℕ × ℕ
walk l b [] = (0, 0)
walk l b (n ∷ ws) = when eqb n 0 then (0, 1) else when same_name b (named l n) then (n, 1) else further (walk l b ws)

-- bytes looked for in the table t of the names l
abbrev pub searched : List Name → List ℕ → Name → ℕ × ℕ
searched l t b = walk l b (turned (place_of b) t)

-- bytes looked for in a list of names: the number and the places read; a list refused as 2 has no index
abbrev pub find : List ℕ → Name → ℕ × ℕ
find ns b = when names_fit ns then searched (numbered ns) (index_of (numbered ns)) b else (0, 0)

-- a number that was found, none where it is 0
abbrev pub found_number : ℕ → Option ℕ
found_number n = when eqb n 0 then None else Some n
