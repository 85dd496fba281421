-- The fixed names, entered by their places.
use mathlib.Core.Path.{◌≡◌, refl, ◌∙◌}
use mathlib.Core.List.{List, [], ◌∷◌, map}
use Prim.Native.Nat.{ℕ, ◌+◌, ◌<◌}
use native.Mathlib.Omega.{arith}
use lib.ListN.{get_or, take, get_or-map}
use Rattle.definition.specs.Names.{fixed}
use Rattle.names.proofs.Laws.{get_or_inside}
use Rattle.name_index.specs.Index.{place_of, enter, index_of}
use Rattle.name_index.proofs.UnlikeLaws.{entered_one}

-- the words of the program's constant
abbrev pub fixed_places : List ℕ
fixed_places =
    1668 ∷ 1255 ∷ 88 ∷ 1222 ∷ 796 ∷ 1113 ∷ 1897 ∷ 1768 ∷ 1993 ∷ 579 ∷ 827 ∷ 108 ∷ 1137 ∷ 135 ∷ 1780 ∷ 1361 ∷ 958 ∷ 1598 ∷ 199 ∷ 1708 ∷ 73
    ∷ 932 ∷ 883 ∷ 1591 ∷ []

module _ (k : ℕ) (inside : k < 24) where
  fixed_place : get_or fixed_places k 0 ≡ place_of (get_or fixed k [])
  fixed_place = get_or_inside (map place_of fixed) k 0 (place_of []) inside ∙ get_or-map place_of fixed k []

  pub fixed_inside : get_or fixed_places k 0 < 2048
  fixed_inside = omega (arith, fixed_place)

  pub fixed_next : {t : List ℕ} → t ≡ index_of (take k fixed) → enter t (get_or fixed_places k 0) (k + 1) ≡ index_of (take (k + 1) fixed)
  fixed_next table = entered_one [] fixed k inside refl table fixed_place (omega arith)
