-- The classes of a sheet are numbered from their rows.
use mathlib.Core.Path.{◌≡◌, ap, ◌∙◌}
use mathlib.Core.Bool.{Bool, true, ◌&&◌, false}
use mathlib.Core.List.{List, [], ◌∷◌}
use Prim.Native.Nat.{ℕ, ◌+◌, ◌-◌}
use native.Mathlib.Omega.{arith}
use lib.Dec.{eqb, T}
use borrow.Author.Tests.{le-leb}
use Rattle.definition.specs.Sheet.{Sheet, is}
use Rattle.definition.specs.Classes.{of_sheet}
use Rattle.definition.specs.Basics.{when◌then◌else◌, all, first}
use Rattle.definition.specs.Outside.{Outside, ClassRecord, record_of}
use Rattle.definition.proofs.Lists.Tests.{and_left, and_right}

-- the class of a class row
pub of_sheet_lem : (s : Sheet) (r : ℕ) → is s 4 r ≡ true → of_sheet s (256 + r) ≡ true
of_sheet_lem s r e =
    ap (λ (t : Bool). t && is s 4 ((256 + r) - 256)) (le-leb 256 (256 + r) (omega arith)) ∙ ap (is s 4) (omega arith) ∙ e

-- what holds of all records and of the empty one holds of the record of every class
pub recorded : (O : Outside) (p : ClassRecord → Bool) → T (p (record { number = 0; name = 0; fields = []; methods = [] })) → T (all p O.records) → (c : ℕ) → T (p (record_of O c))
recorded O p z h c = among O.records h
  where
    among : (xs : List ClassRecord) → T (all p xs) → T (p (first (λ x. eqb x.number c) (record { number = 0; name = 0; fields = []; methods = [] }) xs))
    among [] h = z
    among (x ∷ xs) h = by (eqb x.number c) (among xs (and_right (p x) (all p xs) h))
      where
        by : (t : Bool) → T (p (first (λ x. eqb x.number c) (record { number = 0; name = 0; fields = []; methods = [] }) xs))
            → T (p (when t then x else first (λ x. eqb x.number c) (record { number = 0; name = 0; fields = []; methods = [] }) xs))
        by true i = and_left (p x) (all p xs) h
        by false i = i
