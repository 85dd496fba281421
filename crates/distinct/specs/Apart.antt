-- The program's own pass that looks for names twice: marks by name number, each a stamp of its row and kind of child.
use Rattle.std.specs.Prelude.{List, [], ◌∷◌, Bool, true, not, ◌&&◌, ℕ, zero, suc, ◌+◌, ◌*◌, get_or, set, eqb}
use Rattle.definition.specs.Basics.{when◌then◌else◌}
use Rattle.definition.specs.Sheet.{Sheet, kind, a, kids, is}

-- has row c, if it is of kind k, a name without the mark v in m?
unfoldable pub child_unmarked : Sheet → ℕ → ℕ → List ℕ → ℕ → Bool
child_unmarked s k v m c = when is s k c then not (eqb (get_or m (a s c) 0) v) else true

-- the marks after that: its name has the mark v
unfoldable pub child_marked : Sheet → ℕ → ℕ → List ℕ → ℕ → List ℕ
child_marked s k v m c = when is s k c then set m (a s c) v else m

-- the same of the rows cs, in order, each with the marks after those before it
unfoldable pub unmarked : Sheet → ℕ → ℕ → List ℕ → List ℕ → Bool
unmarked s k v m [] = true
unmarked s k v m (c ∷ cs) = child_unmarked s k v m c && unmarked s k v (child_marked s k v m c) cs

-- the marks after them
unfoldable pub marked : Sheet → ℕ → ℕ → List ℕ → List ℕ → List ℕ
marked s k v m [] = m
marked s k v m (c ∷ cs) = marked s k v (child_marked s k v m c) cs

-- the stamp of the children of row r that are of the j-th kind asked about
abbrev pub stamp : ℕ → ℕ → ℕ
stamp r j = 4 * r + j

-- are the names of a unit's classes apart, of its function exports, of its constant exports?
unfoldable pub unit_unmarked : Sheet → ℕ → List ℕ → Bool
unit_unmarked s r m =
    unmarked s 4 (stamp r 1) m (kids s r)
    && (unmarked s 7 (stamp r 2) (marked s 4 (stamp r 1) m (kids s r)) (kids s r)
    && unmarked s 8 (stamp r 3) (marked s 7 (stamp r 2) (marked s 4 (stamp r 1) m (kids s r)) (kids s r)) (kids s r))

-- the marks after a unit
unfoldable pub unit_marked : Sheet → ℕ → List ℕ → List ℕ
unit_marked s r m = marked s 8 (stamp r 3) (marked s 7 (stamp r 2) (marked s 4 (stamp r 1) m (kids s r)) (kids s r)) (kids s r)

-- are the names of a class's fields apart, and of its methods?
unfoldable pub class_unmarked : Sheet → ℕ → List ℕ → Bool
class_unmarked s r m = unmarked s 10 (stamp r 1) m (kids s r) && unmarked s 6 (stamp r 2) (marked s 10 (stamp r 1) m (kids s r)) (kids s r)

-- the marks after a class
unfoldable pub class_marked : Sheet → ℕ → List ℕ → List ℕ
class_marked s r m = marked s 6 (stamp r 2) (marked s 10 (stamp r 1) m (kids s r)) (kids s r)

-- the same of any row
unfoldable pub row_unmarked : Sheet → ℕ → List ℕ → Bool
row_unmarked s r m = when eqb (kind s r) 2 then unit_unmarked s r m else when eqb (kind s r) 4 then class_unmarked s r m else true

-- the marks after any row
unfoldable pub row_marked : Sheet → ℕ → List ℕ → List ℕ
row_marked s r m = when eqb (kind s r) 2 then unit_marked s r m else when eqb (kind s r) 4 then class_marked s r m else m

-- the same of the rows from r on, k of them
unfoldable pub all_unmarked : Sheet → ℕ → ℕ → List ℕ → Bool
all_unmarked s zero r m = true
all_unmarked s (suc k) r m = row_unmarked s r m && all_unmarked s k (suc r) (row_marked s r m)
