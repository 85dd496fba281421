-- The lowest unit that imports each, noted unit by unit.
use mathlib.Core.Path.{◌≡◌, refl, sym, ap, ◌∙◌, subst}
use mathlib.Core.Logic.{◌⊎◌, inl, inr, ⊎_elim}
use mathlib.Core.Bool.{Bool, true, false}
use mathlib.Core.List.{List, [], ◌∷◌, map}
use Prim.Native.Nat.{ℕ, zero, suc, ◌+◌, ◌<◌, ◌≤◌}
use native.Mathlib.Omega.{arith}
use lib.Dec.{T, T_not, eqb}
use lib.ListN.{length, get_or, set, length-set}
use lib.Seq.{get_or-set_same, get_or-set_other}
use borrow.Author.Tests.{eqb-true, eqb-false}
use Rattle.definition.specs.Basics.{when◌then◌else◌, ◌∈?◌}
use Rattle.definition.specs.Kind.{UNIT, IMPORT}
use Rattle.definition.specs.Sheet.{Sheet, a, rows, is, kids_of}
use Rattle.definition.proofs.Lists.Tests.{T_true}
use Rattle.definition.proofs.Lists.Counts.{in_cases}
use Rattle.unit_order.specs.Order.{units, imports_of}
use Rattle.unit_order.proofs.SheetLaws.{unit_row_lem, row_unit}
use Rattle.start_units.specs.Starting.{Importing, Unnoted, noted, noted_unit, Importers}
use Rattle.start_units.proofs.ReadyLaws.{same_or}

-- The import rows of a unit: one more, and the end of them.
pub note_more : (s : Sheet) (u : ℕ) (low : List ℕ) {ks js : List ℕ} {k : ℕ} {after r : List ℕ} → ks ≡ k ∷ js → after ≡ noted u (a s k ∷ []) low
    → noted u (map (a s) ks) low ≡ r → noted u (map (a s) js) after ≡ r
unfolding noted
note_more s u low {js = js} e f h = ap (noted u (map (a s) js)) f ∙ sym (ap (λ (l : List ℕ). noted u (map (a s) l) low) e) ∙ h

pub note_end : (s : Sheet) (u : ℕ) (low : List ℕ) {ks : List ℕ} → ks ≡ [] → noted u (map (a s) ks) low ≡ low
unfolding noted
note_end s u low e = ap (λ (l : List ℕ). noted u (map (a s) l) low) e

pub note_start : (s : Sheet) (u : ℕ) (low : List ℕ) → is s UNIT u ≡ true → noted u (map (a s) (kids_of s IMPORT u)) low ≡ noted_unit s u low
unfolding noted_unit imports_of
note_start s u low e = sym (ap (λ (t : Bool). when t then noted u (imports_of s u) low else low) e)

pub note_none : (s : Sheet) (u : ℕ) (low : List ℕ) → is s UNIT u ≡ false → low ≡ noted_unit s u low
unfolding noted_unit
note_none s u low f = sym (ap (λ (t : Bool). when t then noted u (imports_of s u) low else low) f)

set_either : (l : List ℕ) (i y x : ℕ) → (get_or (set l i y) x 0 ≡ y) ⊎ (get_or (set l i y) x 0 ≡ get_or l x 0)
set_either [] i y x = inr refl
set_either (z ∷ zs) zero y zero = inl refl
set_either (z ∷ zs) zero y (suc x) = inr refl
set_either (z ∷ zs) (suc i) y zero = inr refl
set_either (z ∷ zs) (suc i) y (suc x) = set_either zs i y x

-- What is noted at a list of units.
module _ (u : ℕ) where
  abbrev note_one : ℕ → List ℕ → List ℕ
  note_one v low = when eqb (get_or low v 0) 0 then set low v u else low

  one_long : (v : ℕ) (low : List ℕ) → length (note_one v low) ≡ length low
  one_long v low = go (eqb (get_or low v 0) 0)
    where
      go : (t : Bool) → length (when t then set low v u else low) ≡ length low
      go true = length-set low v u
      go false = refl

  one_kept : (v : ℕ) (low : List ℕ) (x : ℕ) → 0 < get_or low x 0 → get_or (note_one v low) x 0 ≡ get_or low x 0
  one_kept v low x l = go (eqb (get_or low v 0) 0) refl
    where
      go : (t : Bool) → eqb (get_or low v 0) 0 ≡ t → get_or (when t then set low v u else low) x 0 ≡ get_or low x 0
      go true e = get_or-set_other low v x u 0 (λ q. omega (arith, ap (λ (i : ℕ). get_or low i 0) q, eqb-true (get_or low v 0) 0 e))
      go false e = refl

  one_below : (v : ℕ) (low : List ℕ) (b : ℕ) → u ≤ b → ((x : ℕ) → get_or low x 0 ≤ b) → (x : ℕ) → get_or (note_one v low) x 0 ≤ b
  one_below v low b l h x = go (eqb (get_or low v 0) 0)
    where
      go : (t : Bool) → get_or (when t then set low v u else low) x 0 ≤ b
      go true = ⊎_elim (λ (e : get_or (set low v u) x 0 ≡ u). omega arith) (λ (e : get_or (set low v u) x 0 ≡ get_or low x 0). omega (arith, h x)) (set_either low v u x)
      go false = h x

  one_new : (v : ℕ) (low : List ℕ) → 0 < u → v < length low → 0 < get_or (note_one v low) v 0
  one_new v low p l = go (eqb (get_or low v 0) 0) refl
    where
      go : (t : Bool) → eqb (get_or low v 0) 0 ≡ t → 0 < get_or (when t then set low v u else low) v 0
      go true e = rw (get_or-set_same low v u 0 l) p
      go false e = let f : get_or low v 0 ≡ 0 → ⊥ = eqb-false (get_or low v 0) 0 e in omega arith

  noted_long : (vs low : List ℕ) → length (noted u vs low) ≡ length low
  unfolding noted
  noted_long [] low = refl
  noted_long (v ∷ vs) low = noted_long vs (note_one v low) ∙ one_long v low

  noted_kept : (vs low : List ℕ) (x : ℕ) → 0 < get_or low x 0 → get_or (noted u vs low) x 0 ≡ get_or low x 0
  unfolding noted
  noted_kept [] low x l = refl
  noted_kept (v ∷ vs) low x l =
      let e : get_or (note_one v low) x 0 ≡ get_or low x 0 = one_kept v low x l in
      noted_kept vs (note_one v low) x (omega arith) ∙ e

  noted_below : (vs low : List ℕ) (b : ℕ) → u ≤ b → ((x : ℕ) → get_or low x 0 ≤ b) → (x : ℕ) → get_or (noted u vs low) x 0 ≤ b
  unfolding noted
  noted_below [] low b l h x = h x
  noted_below (v ∷ vs) low b l h x = noted_below vs (note_one v low) b l (one_below v low b l h) x

  noted_new : (vs low : List ℕ) → 0 < u → (x : ℕ) → T (x ∈? vs) → x < length low → 0 < get_or (noted u vs low) x 0
  unfolding noted
  noted_new [] low p x m l = absurd m
  noted_new (v ∷ vs) low p x m l =
      ⊎_elim
      (λ (e : x ≡ v).
      let new : 0 < get_or (note_one v low) x 0 = rw e (one_new v low p (omega arith)) in
      omega (arith, noted_kept vs (note_one v low) x new))
      (λ k. noted_new vs (note_one v low) p x k (omega (arith, one_long v low)))
      (in_cases x v vs m)

-- The rows below n are noted.
pub record Noting (s : Sheet) (n : ℕ) (low : List ℕ) : Type 0 where
  pub room : rows s ≤ length low
  pub below : (x : ℕ) → get_or low x 0 ≤ n
  pub lowest : (u v : ℕ) → u < n → T (u ∈? units s) → T (v ∈? imports_of s u) → (0 < get_or low v 0) × (get_or low v 0 ≤ u)

pub noting_none : (s : Sheet) (low : List ℕ) → Unnoted s low → Noting s 0 low
noting_none s low h = record { room = h.room; below = λ x. omega (arith, h.free x); lowest = λ u v l. absurd (omega arith) }

pub noting_all : (s : Sheet) (n : ℕ) (low : List ℕ) → Noting s n low → rows s ≤ n → Importers s low
noting_all s n low h l = record { lowest = λ u v m e. h.lowest u v (omega (arith, (unit_row_lem s u m).0)) m e }

pub noting_more : (s : Sheet) → Importing s → (n : ℕ) (low x : List ℕ) → n < rows s → Noting s n low → x ≡ noted_unit s n low → Noting s (n + 1) x
unfolding noted_unit
noting_more s ok n low x l h e = subst (Noting s (n + 1)) (sym e) (go (is s UNIT n) refl)
  where
    unit : is s UNIT n ≡ true → Noting s (n + 1) (noted n (imports_of s n) low)
    unit t =
        let m : T (n ∈? units s) = row_unit s n l (T_true (is s UNIT n) t) in
        let none : n ≡ 0 → ⊥ = λ z. T_not (is s UNIT 0) ok.header (subst (λ (i : ℕ). T (is s UNIT i)) z (T_true (is s UNIT n) t)) in
        let high : 0 < n = omega (arith, none) in
        record {
          room = omega (arith, h.room, noted_long n (imports_of s n) low);
          below = noted_below n (imports_of s n) low (n + 1) (omega arith) (λ y. omega (arith, h.below y));
          lowest = λ u v b k q. ⊎_elim (λ (z : u ≡ n). new high u v z q) (λ f. old u v (omega arith) k q) (same_or u n);
        }
      where
        old : (u v : ℕ) → u < n → T (u ∈? units s) → T (v ∈? imports_of s u)
            → (0 < get_or (noted n (imports_of s n) low) v 0) × (get_or (noted n (imports_of s n) low) v 0 ≤ u)
        old u v b k q =
            let p = h.lowest u v b k q in
            let same = noted_kept n (imports_of s n) low v p.0 in
            (omega (arith, p.0, same), omega (arith, p.1, same))

        new : 0 < n → (u v : ℕ) → u ≡ n → T (v ∈? imports_of s u)
            → (0 < get_or (noted n (imports_of s n) low) v 0) × (get_or (noted n (imports_of s n) low) v 0 ≤ u)
        new high u v z q =
            let q' : T (v ∈? imports_of s n) = subst (λ (i : ℕ). T (v ∈? imports_of s i)) z q in
            let wide = (unit_row_lem s v (ok.closed n v (row_unit s n l (T_true (is s UNIT n) t)) q')).0 in (
              noted_new n (imports_of s n) low high v q' (omega (arith, wide, h.room)),
              omega (arith, noted_below n (imports_of s n) low n (omega arith) h.below v),
            )

    go : (t : Bool) → is s UNIT n ≡ t → Noting s (n + 1) (noted_unit s n low)
    go true t = rw t (unit t)
    go false t =
        rw t
        (record {
          room = h.room;
          below = λ y. omega (arith, h.below y);
          lowest = λ u v b k q.
              ⊎_elim (λ (z : u ≡ n). absurd (subst T (ap (is s UNIT) z ∙ t) (unit_row_lem s u k).1)) (λ f. h.lowest u v (omega arith) k q) (same_or u n);
        })
