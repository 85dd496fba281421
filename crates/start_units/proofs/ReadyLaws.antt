-- Imports row by row: which one a unit waits for, and whether it is ready.
use mathlib.Core.Path.{◌≡◌, refl, sym, ap, ◌∙◌, subst}
use mathlib.Core.Logic.{◌⊎◌, inl, inr, ⊎_elim}
use mathlib.Core.Bool.{Bool, true, false, not, ◌&&◌}
use mathlib.Core.List.{List, [], ◌∷◌, ◌++◌, map, append-nil, append_assoc}
use Prim.Native.Nat.{ℕ, zero, suc, ◌<◌}
use native.Mathlib.Omega.{arith}
use lib.Dec.{T, T_not, eqb}
use lib.ListN.{length, get_or, set, length-set}
use lib.Seq.{get_or-set_same, get_or-set_other}
use borrow.Author.Tests.{eq-eqb, ne_eqb, eqb-true, eqb-false}
use Rattle.definition.specs.Basics.{when◌then◌else◌, filter, all, ◌∈?◌}
use Rattle.definition.specs.Kind.{UNIT, IMPORT}
use Rattle.definition.specs.Sheet.{Sheet, next, child, a, rows, chain, is}
use Rattle.definition.proofs.Format.Passes.{chain_on}
use Rattle.definition.proofs.Lists.Tests.{T_and, and_both, T_true, true_of}
use Rattle.unit_order.specs.Order.{units, imports_of}
use Rattle.unit_order.proofs.SheetLaws.{row_unit}
use Rattle.start_units.specs.Starting.{Importing, marked, startable, imports_from, waits_for, WaitsAt, WaitsFound, Waits, waiting_from}
use Rattle.std.specs.Prelude.{Option, Some, None}
use Rattle.std.specs.Option.{unwrap_or, is_none}

pub false_of : (t : Bool) → (T t → ⊥) → t ≡ false
false_of true f = absurd (f tt)
false_of false f = refl

pub either : (t : Bool) → (t ≡ true) ⊎ (t ≡ false)
either true = inl refl
either false = inr refl

pub same_or : (x y : ℕ) → (x ≡ y) ⊎ (x ≡ y → ⊥)
same_or x y = ⊎_elim (λ e. inl (eqb-true x y e)) (λ e. inr (eqb-false x y e)) (either (eqb x y))

-- Tests of joined lists.
pub all_joined : (p : ℕ → Bool) (xs ys : List ℕ) → T (all p xs) → T (all p ys) → T (all p (xs ++ ys))
all_joined p [] ys h k = k
all_joined p (x ∷ xs) ys h k =
    let q = T_and (p x) (all p xs) h in
    and_both (p x) (all p (xs ++ ys)) q.0 (all_joined p xs ys q.1 k)

pub all_second : (p : ℕ → Bool) (xs ys : List ℕ) → T (all p (xs ++ ys)) → T (all p ys)
all_second p [] ys h = h
all_second p (x ∷ xs) ys h = all_second p xs ys (T_and (p x) (all p (xs ++ ys)) h).1

-- what is marked stays so where more is
pub all_more : (p q : ℕ → Bool) (xs : List ℕ) → ((x : ℕ) → T (p x) → T (q x)) → T (all p xs) → T (all q xs)
all_more p q [] more h = tt
all_more p q (x ∷ xs) more h =
    let r = T_and (p x) (all p xs) h in
    and_both (q x) (all q xs) (more x r.0) (all_more p q xs more r.1)

chain_none : (n : ℕ) (s : Sheet) → chain n s 0 ≡ []
chain_none zero s = refl
chain_none (suc n) s = refl

-- The imports from a row of a child list on.
pub from_none : (s : Sheet) (k : ℕ) → k ≡ 0 → imports_from s k ≡ []
unfolding imports_from
from_none s k e = ap (λ (i : ℕ). map (a s) (filter (is s IMPORT) (chain (rows s) s i))) e ∙ ap (λ (ks : List ℕ). map (a s) (filter (is s IMPORT) ks)) (chain_none (rows s) s)

module _ (s : Sheet) (ok : Importing s) (k : ℕ) (f : k ≡ 0 → ⊥) (l : k < rows s) where
  pub from_step : imports_from s k ≡ (when is s IMPORT k then a s k ∷ imports_from s (next s k) else imports_from s (next s k))
  unfolding imports_from
  from_step = ap (λ (ks : List ℕ). map (a s) (filter (is s IMPORT) ks)) (chain_on s ok.nexts k (omega arith) l) ∙ go (is s IMPORT k)
    where
      go : (t : Bool) → map (a s) (when t then k ∷ filter (is s IMPORT) (chain (rows s) s (next s k)) else filter (is s IMPORT) (chain (rows s) s (next s k)))
          ≡ (when t then a s k ∷ map (a s) (filter (is s IMPORT) (chain (rows s) s (next s k))) else map (a s) (filter (is s IMPORT) (chain (rows s) s (next s k))))
      go true = refl
      go false = refl

  -- the next row lies above, if there is one
  pub next_row : (next s k < rows s) × ((next s k ≡ 0) ⊎ (k < next s k))
  next_row = ⊎_elim (λ (e : next s k ≡ 0). (omega (arith, ok.some), inl e)) (λ q. (q.1, inr q.0)) (ok.nexts k l)

  -- a row that is no import, or one whose unit has a mark
  pub row_passed : (m : List ℕ) → waits_for s m k ≡ false
      → (passed : List ℕ) × (imports_from s k ≡ passed ++ imports_from s (next s k)) × T (all (marked m) passed)
  unfolding waits_for
  row_passed m e = go (is s IMPORT k) (eqb (get_or m (a s k) 0) 0) refl e from_step
    where
      go : (t w : Bool) → eqb (get_or m (a s k) 0) 0 ≡ w → (t && w) ≡ false
          → imports_from s k ≡ (when t then a s k ∷ imports_from s (next s k) else imports_from s (next s k))
          → (passed : List ℕ) × (imports_from s k ≡ passed ++ imports_from s (next s k)) × T (all (marked m) passed)
      go false w q h g = ([], g, tt)
      go true false q h g = (a s k ∷ [], g, and_both (marked m (a s k)) true (T_true (marked m (a s k)) (ap not q)) tt)
      go true true q h g = let z : ◌≡◌ {A = ℕ} 0 1 = cc in absurd (omega arith)

  -- an import whose unit has none
  pub row_waits : (m : List ℕ) → T (waits_for s m k) → T (all (marked m) (imports_from s k)) → ⊥
  unfolding waits_for
  row_waits m h g =
      let q = T_and (is s IMPORT k) (eqb (get_or m (a s k) 0) 0) h in
      let e : imports_from s k ≡ a s k ∷ imports_from s (next s k) = from_step ∙ rw (true_of (is s IMPORT k) q.0) in
      let r = T_and (marked m (a s k)) (all (marked m) (imports_from s (next s k))) (subst (λ (x : List ℕ). T (all (marked m) x)) e g) in
      T_not (eqb (get_or m (a s k) 0) 0) r.0 q.1

-- The loop stands at row k: the imports passed since row `from` have marks.
abbrev pub Passed : Sheet → List ℕ → ℕ → ℕ → Type 0
Passed s m from k = (k < rows s) × ((passed : List ℕ) × (imports_from s from ≡ passed ++ imports_from s k) × T (all (marked m) passed))

module _ (s : Sheet) (ok : Importing s) (m : List ℕ) (from k : ℕ) (h : Passed s m from k) where
  pub passed_more : (x : ℕ) → (k ≡ 0 → ⊥) → waits_for s m k ≡ false → x ≡ next s k → Passed s m from x
  passed_more x f e to =
      let q = row_passed s ok k f h.0 m e in
      let p = h.1 in
      rw to (
        (next_row s ok k f h.0).0,
        (
          p.0 ++ q.0,
          p.1 ∙ ap (λ (y : List ℕ). p.0 ++ y) q.1 ∙ sym (append_assoc p.0 q.0 (imports_from s (next s k))),
          all_joined (marked m) p.0 q.0 p.2 q.2,
        ),
      )

  pub passed_here : (k ≡ 0 → ⊥) → waits_for s m k ≡ true → WaitsAt s m from k
  passed_here f e = record { none = λ z. absurd (f z); row = λ z. (h.0, T_true (waits_for s m k) e); rest = λ z. h.1 }

  pub passed_all : k ≡ 0 → WaitsAt s m from 0
  passed_all e =
      let p = h.1 in
      record {
        none = λ z. subst (λ (x : List ℕ). T (all (marked m) x)) (sym (p.1 ∙ ap (λ (x : List ℕ). p.0 ++ x) (from_none s k e) ∙ append-nil p.0)) p.2;
        row = λ z. absurd (z refl);
        rest = λ z. absurd (z refl);
      }

-- The loop stands at a row, and the iterator has left what is in the list from there on.
abbrev pub Standing : Sheet → List ℕ → ℕ → List ℕ → Type 0
Standing s m from ks = (k : ℕ) × (ks ≡ chain (rows s) s k) × Passed s m from k

standing_start : (s : Sheet) (m : List ℕ) (from : ℕ) {ks : List ℕ} → from < rows s → ks ≡ chain (rows s) s from → Standing s m from ks
standing_start s m from l e = (from, e, (l, ([], refl, tt)))

module _ (s : Sheet) (ok : Importing s) (m : List ℕ) (from : ℕ) {ks : List ℕ} (h : Standing s m from ks) where
  module _ {x : ℕ} {js : List ℕ} (e : ks ≡ x ∷ js) where
    -- the row given is the one
    standing_row : (h.0 ≡ x) × (h.0 ≡ 0 → ⊥) × (js ≡ chain (rows s) s (next s h.0))
    standing_row =
        let some : h.0 ≡ 0 → ⊥ = λ q. let none : x ∷ js ≡ [] = sym e ∙ h.1 ∙ ap (chain (rows s) s) q ∙ chain_none (rows s) s in cc in
        let on : x ∷ js ≡ h.0 ∷ chain (rows s) s (next s h.0) = sym e ∙ h.1 ∙ chain_on s ok.nexts h.0 (omega (arith, some)) h.2.0 in
        (cc, some, cc)

    pub standing_found : waits_for s m x ≡ true → (x ≡ 0 → ⊥) × WaitsAt s m from x
    standing_found w =
        let r = standing_row in
        subst (λ (y : ℕ). (y ≡ 0 → ⊥) × WaitsAt s m from y) r.0 (r.1, passed_here s ok m from h.0 h.2 r.1 (ap (waits_for s m) r.0 ∙ w))

    pub standing_more : waits_for s m x ≡ false → Standing s m from js
    standing_more w =
        let r = standing_row in
        (next s h.0, r.2, passed_more s ok m from h.0 h.2 (next s h.0) r.1 (ap (waits_for s m) r.0 ∙ w) refl)

  pub standing_end : ks ≡ [] → WaitsAt s m from 0
  standing_end e =
      passed_all s ok m from h.0 h.2
      (⊎_elim (λ q. q)
      (λ f. let on : [] ≡ h.0 ∷ chain (rows s) s (next s h.0) = sym e ∙ h.1 ∙ chain_on s ok.nexts h.0 (omega (arith, f)) h.2.0 in cc)
      (same_or h.0 0))

-- the row that is looked at first, and those after it
module _ (s : Sheet) (ok : Importing s) (m : List ℕ) (from : ℕ) (l : from < rows s) where
  pub standing_first : (from ≡ 0 → ⊥) → {ks : List ℕ} → ks ≡ chain (rows s) s (next s from) → Standing s m from (from ∷ ks)
  standing_first f e = standing_start s m from l (ap (λ (js : List ℕ). from ∷ js) e ∙ sym (chain_on s ok.nexts from (omega (arith, f)) l))

  pub standing_none : from ≡ 0 → WaitsAt s m from 0
  standing_none e = standing_end s ok m from (standing_start s m from l (sym (ap (chain (rows s) s) e ∙ chain_none (rows s) s))) refl

-- what is found, as a number
pub found_at : (s : Sheet) (m : List ℕ) (from : ℕ) (o : Option ℕ) → WaitsFound s m from o → WaitsAt s m from (unwrap_or o 0) × (is_none o ≡ eqb (unwrap_or o 0) 0)
found_at s m from None h = (h, refl)
found_at s m from (Some x) h = (h.1, sym (ne_eqb x 0 h.0))

-- Whether a unit is ready, by the import that it waits for.
pub from_child : (s : Sheet) (u : ℕ) → imports_of s u ≡ imports_from s (child s u)
unfolding imports_of imports_from
from_child s u = refl

module _ (s : Sheet) (ok : Importing s) (m w : List ℕ) (u : ℕ) (l : u < rows s) (h : Waits s m w) where
  pub waiting_row : waiting_from s w u < rows s
  unfolding waiting_from
  waiting_row = go (eqb (get_or w u 0) 0)
    where
      go : (t : Bool) → (when t then child s u else get_or w u 0) < rows s
      go true = ⊎_elim (λ (e : child s u ≡ 0). omega (arith, ok.some)) (λ q. q.1) (ok.children u l)
      go false = h.row u l

  module _ (unit : T (is s UNIT u)) where
    waiting_rest : (passed : List ℕ) × (imports_of s u ≡ passed ++ imports_from s (waiting_from s w u)) × T (all (marked m) passed)
    unfolding waiting_from
    waiting_rest = go (eqb (get_or w u 0) 0) refl
      where
        go : (t : Bool) → eqb (get_or w u 0) 0 ≡ t
            → (passed : List ℕ) × (imports_of s u ≡ passed ++ imports_from s (when t then child s u else get_or w u 0)) × T (all (marked m) passed)
        go true e = ([], from_child s u, tt)
        go false e = h.rest u (row_unit s u l unit) (eqb-false (get_or w u 0) 0 e)

    module _ (x : ℕ) (k : WaitsAt s m (waiting_from s w u) x) where
      -- all that it imports has a mark exactly if it waits for none
      waits_none : eqb x 0 ≡ all (marked m) (imports_of s u)
      waits_none = go waiting_rest (eqb x 0) refl
        where
          go : (p : (passed : List ℕ) × (imports_of s u ≡ passed ++ imports_from s (waiting_from s w u)) × T (all (marked m) passed)) (t : Bool)
              → eqb x 0 ≡ t → t ≡ all (marked m) (imports_of s u)
          go p true e =
              sym (true_of (all (marked m) (imports_of s u))
              (subst (λ (y : List ℕ). T (all (marked m) y)) (sym p.1) (all_joined (marked m) p.0 (imports_from s (waiting_from s w u)) p.2 (k.none (eqb-true x 0 e)))))
          go p false e =
              let f = eqb-false x 0 e in
              let q = k.rest f in
              let r = k.row f in
              sym (false_of (all (marked m) (imports_of s u))
              (λ g.
              row_waits s ok x f r.0 m r.1
              (all_second (marked m) q.0 (imports_from s x)
              (subst (λ (y : List ℕ). T (all (marked m) y)) q.1
              (all_second (marked m) p.0 (imports_from s (waiting_from s w u)) (subst (λ (y : List ℕ). T (all (marked m) y)) p.1 g))))))

      pub ready_by : get_or m u 0 ≡ 0 → eqb x 0 ≡ startable s m u
      unfolding startable
      ready_by free =
          waits_none ∙ sym (ap (λ (t : Bool). t && not (marked m u) && all (marked m) (imports_of s u)) (true_of (is s UNIT u) unit)
          ∙ ap (λ (t : Bool). not (not t) && all (marked m) (imports_of s u)) (eq-eqb (get_or m u 0) 0 free))

      -- the import that it waits for is kept
      pub waits_kept : Waits s m (set w u x)
      waits_kept =
          record {
            room = omega (arith, h.room, length-set w u x);
            row = λ v b. ⊎_elim (λ (e : v ≡ u). rw (e, get_or-set_same w u x 0 wide) below) (λ f. rw (get_or-set_other w u v x 0 f) (h.row v b)) (same_or v u);
            rest = λ v b f. ⊎_elim (λ (e : v ≡ u). here v e f) (λ g. other v b g f) (same_or v u);
          }
        where
          wide : u < length w
          wide = omega (arith, h.room)

          below : x < rows s
          below = ⊎_elim (λ e. omega (arith, eqb-true x 0 e, ok.some)) (λ e. (k.row (eqb-false x 0 e)).0) (either (eqb x 0))

          here : (v : ℕ) → v ≡ u → (get_or (set w u x) v 0 ≡ 0 → ⊥)
              → (passed : List ℕ) × (imports_of s v ≡ passed ++ imports_from s (get_or (set w u x) v 0)) × T (all (marked m) passed)
          here v e f =
              let now : get_or (set w u x) v 0 ≡ x = ap (λ (i : ℕ). get_or (set w u x) i 0) e ∙ get_or-set_same w u x 0 wide in
              let p = waiting_rest in
              let q = k.rest (λ z. f (now ∙ z)) in (
                p.0 ++ q.0,
                ap (imports_of s) e ∙ p.1 ∙ ap (λ (y : List ℕ). p.0 ++ y) (q.1 ∙ ap (λ (i : ℕ). q.0 ++ imports_from s i) (sym now))
                    ∙ sym (append_assoc p.0 q.0 (imports_from s (get_or (set w u x) v 0))),
                all_joined (marked m) p.0 q.0 p.2 q.2,
              )

          other : (v : ℕ) → T (v ∈? units s) → (v ≡ u → ⊥) → (get_or (set w u x) v 0 ≡ 0 → ⊥)
              → (passed : List ℕ) × (imports_of s v ≡ passed ++ imports_from s (get_or (set w u x) v 0)) × T (all (marked m) passed)
          other v b g f =
              let old : get_or (set w u x) v 0 ≡ get_or w v 0 = get_or-set_other w u v x 0 g in
              let p = h.rest v b (λ z. f (old ∙ z)) in
              (p.0, p.1 ∙ ap (λ (i : ℕ). p.0 ++ imports_from s i) (sym old), p.2)

-- other rows are not ready
pub not_unit : (s : Sheet) (m : List ℕ) (u : ℕ) → is s UNIT u ≡ false → false ≡ startable s m u
unfolding startable
not_unit s m u f = sym (ap (λ (t : Bool). t && not (marked m u) && all (marked m) (imports_of s u)) f)

pub not_free : (s : Sheet) (m : List ℕ) (u : ℕ) → is s UNIT u ≡ true → (get_or m u 0 ≡ 0 → ⊥) → false ≡ startable s m u
unfolding startable
not_free s m u e f =
    sym (ap (λ (t : Bool). t && not (marked m u) && all (marked m) (imports_of s u)) e
    ∙ ap (λ (t : Bool). not (not t) && all (marked m) (imports_of s u)) (ne_eqb (get_or m u 0) 0 f))
