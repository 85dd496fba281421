-- The places of the nodes of a list, from its last node back.
use Rattle.std.specs.Prelude.{List, [], ◌∷◌, ℕ, zero, suc, eqb}
use Rattle.definition.specs.Basics.{when◌then◌else◌}
use Rattle.machine.specs.Machine.{previous}
use Rattle.store.specs.declared.back.NodesBack.{NodesBack}

-- the places of the nodes of the list whose last node stands at place p - 1; n bounds them
unfoldable pub places_back : List ℕ → ℕ → ℕ → List ℕ
places_back q zero p = []
places_back q (suc n) p = when eqb p (suc n) then n ∷ places_back q n (previous q n) else places_back q n p

-- the places that are left
abbrev pub places_left : NodesBack → List ℕ
places_left b = places_back b.nodes.now b.last b.last
