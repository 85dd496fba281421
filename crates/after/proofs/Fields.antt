-- Fields of classes, as stored: own ones, and those after inheritance.
use mathlib.Core.Path.{◌≡◌, refl, sym, ap, ◌∙◌, subst, fun_ext}
use mathlib.Core.List.{List, [], ◌∷◌, ◌++◌, map}
use mathlib.Core.Bool.{Bool, true, false, not, ◌&&◌, ◌||◌}
use Prim.Native.Nat.{ℕ, ◌+◌, ◌-◌, ◌*◌, ◌<◌}
use native.Mathlib.Omega.{arith}
use lib.Dec.{eqb, leb, T, T_not, not_T, leb→le}
use Rattle.definition.specs.Basics.{when◌then◌else◌, filter, any, distinct, unlike, from}
use Rattle.definition.specs.Sheet.{Sheet, a, rows, is, kids_of}
use Rattle.definition.specs.Outside.{Outside, record_of}
use Rattle.definition.specs.Scope.{history}
use Rattle.definition.specs.Classes.{of_sheet, registered, own_fields, parent_of, fields, has_children, merge_fields, inheriting}
use Rattle.definition.proofs.Lists.Tests.{and_left, and_right, if_true}
use Rattle.definition.proofs.Lists.Members.{all_pass, mem_any}
use Rattle.definition.proofs.Format.Tree.{class_names}
use Rattle.machine.specs.Machine.{Store, cell, list_at}
use Rattle.machine.specs.Reads.{StoreReads, PastFour, listed_fields}
use Rattle.after.specs.Inherited.{parent_in, own_fields_in, fields_in, has_children_in}
use Rattle.after.proofs.Ranges.{row_of_kind, past_facts}
use Rattle.after.proofs.Parents.{parents_are}

-- numbers without repeats are their own distinct ones
pub distinct_unlike : (xs : List ℕ) → T (unlike eqb xs) → distinct eqb xs ≡ xs
distinct_unlike [] h = refl
distinct_unlike (x ∷ xs) h =
    ap (λ (l : List ℕ). x ∷ filter (λ y. not (eqb x y)) l) (distinct_unlike xs (and_right (not (any (eqb x) xs)) (unlike eqb xs) h))
    ∙ ap (λ (l : List ℕ). x ∷ l) (all_pass (λ y. not (eqb x y)) xs
    (λ y m. not_T (eqb x y)
    (λ t. T_not (any (eqb x) xs) (and_left (not (any (eqb x) xs)) (unlike eqb xs) h) (mem_any (eqb x) y xs t m))))

any_same : (p q : ℕ → Bool) (xs : List ℕ) → ((x : ℕ) → p x ≡ q x) → any p xs ≡ any q xs
any_same p q [] f = refl
any_same p q (x ∷ xs) f = ap (λ (t : Bool). t || any p xs) (f x) ∙ ap (λ (t : Bool). q x || t) (any_same p q xs f)

pick_fields : (t : Bool) (x y z : List ℕ) → (T t → x ≡ y) → (when t then x else z) ≡ (when t then y else z)
pick_fields true x y z e = e tt
pick_fields false x y z e = refl

module _ {O : Outside} {s : Sheet} (ok : PastFour O s) {o : Store} (k : StoreReads O s o) where
  -- own fields of a class
  pub own_fields_lem : (c : ℕ) → own_fields O s (history O s) c ≡ own_fields_in O s o c
  unfolding own_fields_in
  own_fields_lem c = pick_fields (of_sheet s c) defined stored (record_of O c).fields same
    where
      defined : List ℕ
      defined = distinct eqb (map (a s) (kids_of s 10 (c - 256)) ++ registered s (history O s) (c - 256))

      stored : List ℕ
      stored = listed_fields s (c - 256) ++ map (λ y. y.key) (list_at o (8 * (c - 256) + 7))

      same : T (of_sheet s c) → defined ≡ stored
      same t =
          let u : T (is s 4 (c - 256)) = and_right (leb 256 c) (is s 4 (c - 256)) t in
          let l : c - 256 < rows s = row_of_kind ok 3 (c - 256) u in
          let e : 256 + (c - 256) ≡ c = omega (arith, leb→le 256 c (and_left (leb 256 c) (is s 4 (c - 256)) t)) in
          sym (if_true (of_sheet s c) defined (record_of O c).fields t)
          ∙ subst (λ (d : ℕ). own_fields O s (history O s) d ≡ distinct eqb (listed_fields s (c - 256)) ++ map (λ y. y.key) (list_at o (8 * (c - 256) + 7))) e (k.fields (c - 256) l u)
          ∙ ap (λ (fs : List ℕ). fs ++ map (λ y. y.key) (list_at o (8 * (c - 256) + 7))) (distinct_unlike (listed_fields s (c - 256)) (class_names ok.names s (past_facts ok) (c - 256) l u).0)

  -- fields of a class after inheritance
  pub fields_same : (n c : ℕ) → fields O s (history O s) n c ≡ fields_in O s o n c
  unfolding fields_in
  fields_same n c =
      ap (λ (parent : ℕ → ℕ). inheriting merge_fields parent (own_fields O s (history O s)) n c) (parents_are ok k)
      ∙ ap (λ (own : ℕ → List ℕ). inheriting merge_fields (parent_in s o) own n c) (fun_ext own_fields_lem)

  pub children_same : (c : ℕ) → has_children s (history O s) c ≡ has_children_in s o c
  unfolding has_children_in
  children_same c = any_same (λ r. is s 4 r && eqb (parent_of s (history O s) (256 + r)) c) (λ r. is s 4 r && eqb (cell o.table r 1) c) (from 0 (rows s)) (λ r. go r (is s 4 r) (λ t. t))
    where
      go : (r : ℕ) (t : Bool) → (T t → T (is s 4 r)) → (t && eqb (parent_of s (history O s) (256 + r)) c) ≡ (t && eqb (cell o.table r 1) c)
      go r true f = ap (λ (p : ℕ). eqb p c) (k.parents r (row_of_kind ok 3 r (f tt)) (f tt))
      go r false f = refl
