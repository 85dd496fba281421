-- Values and searches, computed.
use Rattle.std.specs.Prelude.{◌≡◌, refl, [], ◌∷◌, map}
use Rattle.definition.specs.Bytes.{bytes}
use Rattle.definition.specs.Names.{fixed}
use Rattle.name_index.specs.Index.{fnv, place_of, index_of, find}

value_none : fnv [] ≡ 0x811c9dc5
value_none = refl

value_a : fnv (bytes "a") ≡ 0xe40c292c
value_a = refl

value_foobar : fnv (bytes "foobar") ≡ 0xbf9cf968
value_foobar = refl

value_zero : fnv (0 ∷ []) ≡ 0x050c5d1f
value_zero = refl

value_high : fnv (0xff ∷ 0x80 ∷ []) ≡ 0xee1eea4a
value_high = refl

-- two names of one value
value_costarring : fnv (bytes "costarring") ≡ 0x5e4daa9d
value_costarring = refl

value_liquid : fnv (bytes "liquid") ≡ 0x5e4daa9d
value_liquid = refl

fixed_places_lem :
    map place_of fixed
    ≡ 1668 ∷ 1255 ∷ 88 ∷ 1222 ∷ 796 ∷ 1113 ∷ 1897 ∷ 1768 ∷ 1993 ∷ 579 ∷ 827 ∷ 108 ∷ 1137 ∷ 135 ∷ 1780 ∷ 1361 ∷ 958 ∷ 1598 ∷ 199 ∷ 1708 ∷ 73
    ∷ 932 ∷ 883 ∷ 1591 ∷ []
fixed_places_lem = refl

-- the second of two names of one value stands a place further
find_first : find (bytes "costarring\nliquid\n") (bytes "costarring") ≡ (25, 1)
unfolding index_of
find_first = refl

find_second : find (bytes "costarring\nliquid\n") (bytes "liquid") ≡ (26, 2)
unfolding index_of
find_second = refl

-- a run around the end: kkv stands at place 2,047, lqk, of the same place, at 0, and lol, of place 0, at 1
find_around : find (bytes "kkv\nlqk\nlol\n") (bytes "lqk") ≡ (26, 2)
unfolding index_of
find_around = refl

find_pushed : find (bytes "kkv\nlqk\nlol\n") (bytes "lol") ≡ (27, 2)
unfolding index_of
find_pushed = refl

-- mvo, of place 2,047 too, is absent: the free place 2 is the fourth that is read
find_absent : find (bytes "kkv\nlqk\nlol\n") (bytes "mvo") ≡ (0, 4)
unfolding index_of
find_absent = refl

-- no bytes, and an end byte, are absent from every list
find_empty : find (bytes "kkv\n") [] ≡ (0, 1)
unfolding index_of
find_empty = refl

find_end : find (bytes "kkv\n") (10 ∷ []) ≡ (0, 1)
unfolding index_of
find_end = refl

-- a fixed name in a list of none
find_fixed : find [] (bytes "MAIN_UNIT") ≡ (24, 1)
unfolding index_of
find_fixed = refl

-- x is a fixed name, so this list is refused
find_refused : find (bytes "kkv\nx\n") (bytes "kkv") ≡ (0, 0)
find_refused = refl
