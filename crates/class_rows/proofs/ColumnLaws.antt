-- Columns of the rows written before, and of the rows written now.
use mathlib.Core.Path.{◌≡◌, refl, sym, ap, subst, ◌∙◌}
use mathlib.Core.Bool.{Bool, true, false}
use mathlib.Core.List.{List, [], ◌∷◌, ◌++◌, map}
use Prim.Native.Nat.{ℕ, zero, suc, ◌+◌, ◌*◌, ◌/◌, ◌<◌, ◌≤◌}
use native.Mathlib.Omega.{arith}
use lib.Dec.{ltb}
use lib.ListN.{length, get_or}
use lib.Seq.{sets, length-sets}
use borrow.Author.Tests.{lt-ltb}
use Rattle.definition.specs.Basics.{when◌then◌else◌}
use Rattle.machine.proofs.Words.{sets_in}
use Rattle.sink.specs.Sink.{Sink, sink, emit, emit_all}
use Rattle.name_rows.proofs.KeptLaws.{Kept, all_kept}
use Rattle.class_rows.specs.Places.{column}

pub column_length : (w : List ℕ) (c i n : ℕ) → length (column w c i n) ≡ n
column_length w c i zero = refl
column_length w c i (suc n) = ap suc (column_length w c (suc i) n)

pub column_kept : {m : ℕ} {x y : Sink} (c i n : ℕ) → Kept m x y → c < 8 → i + n ≤ m → column y.words c i n ≡ column x.words c i n
column_kept c i zero h l b = refl
column_kept {m} {x} {y} c i (suc n) h l b = rw (h.same (8 * i + c) (omega arith), column_kept c (suc i) n h l (omega arith))

pub column_append : (w : List ℕ) (c i n m : ℕ) → column w c i (n + m) ≡ column w c i n ++ column w c (i + n) m
column_append w c i zero m =
    let e : i + 0 ≡ i = omega arith in
    let f : 0 + m ≡ m = omega arith in
    ap (column w c i) f ∙ ap (λ (n : ℕ). column w c n m) (sym e)
column_append w c i (suc n) m =
    let e : i + suc n ≡ suc i + n = omega arith in
    let f : suc n + m ≡ suc (n + m) = omega arith in
    ap (column w c i) f ∙ ap (λ (l : List ℕ). get_or w (8 * i + c) 0 ∷ l) (column_append w c (suc i) n m ∙ ap (λ (k : ℕ). column w c (suc i) n ++ column w c k m) (sym e))

-- Rows that all fit, as the count tells.
pub all_fit : (rs : List (List ℕ)) (x : Sink) → (emit_all rs x).count ≤ length x.words / 8 → x.count + length rs ≤ length x.words / 8
unfolding emit_all emit
all_fit [] x l = omega arith
all_fit (r ∷ rs) x l = go (ltb x.count (length x.words / 8)) l
    (λ h. all_fit rs (sink (suc x.count) (sets x.words (8 * x.count) r)) h) (λ h. all_fit rs (sink (suc (length x.words / 8)) x.words) h)
  where
    w : List ℕ
    w = sets x.words (8 * x.count) r

    go : (t : Bool) → (emit_all rs (when t then sink (suc x.count) w else sink (suc (length x.words / 8)) x.words)).count ≤ length x.words / 8
        → ((emit_all rs (sink (suc x.count) w)).count ≤ length w / 8 → suc x.count + length rs ≤ length w / 8)
        → ((emit_all rs (sink (suc (length x.words / 8)) x.words)).count ≤ length x.words / 8 → suc (length x.words / 8) + length rs ≤ length x.words / 8)
        → x.count + suc (length rs) ≤ length x.words / 8
    go true h f g =
        let e : length w ≡ length x.words = length-sets x.words (8 * x.count) r in
        let b : (emit_all rs (sink (suc x.count) w)).count ≤ length w / 8 = omega (arith, h) in
        omega (arith, f b)
    go false h f g = absurd (omega (arith, g h))

-- What is then written: rows of eight words that f makes.
module _ {A : Type 0} (f : A → List ℕ) (wide : (v : A) → length (f v) ≡ 8) (c : ℕ) (l : c < 8) where
  pub all_written : (vs : List A) (x : Sink) → x.count + length vs ≤ length x.words / 8
      → ((emit_all (map f vs) x).count ≡ x.count + length vs) × (column (emit_all (map f vs) x).words c x.count (length vs) ≡ map (λ v. get_or (f v) c 0) vs)
  unfolding emit_all emit
  all_written [] x b = (omega arith, refl)
  all_written (v ∷ vs) x b = subst Told (sym first) (after_first (all_written vs y fit))
    where
      y : Sink
      y = sink (suc x.count) (sets x.words (8 * x.count) (f v))

      Told : Sink → Type 0
      Told z = ((emit_all (map f vs) z).count ≡ x.count + suc (length vs)) × (column (emit_all (map f vs) z).words c x.count (suc (length vs)) ≡ get_or (f v) c 0 ∷ map (λ v. get_or (f v) c 0) vs)

      first : emit (f v) x ≡ y
      first = rw (lt-ltb x.count (length x.words / 8) (omega arith))

      fit : suc x.count + length vs ≤ length (sets x.words (8 * x.count) (f v)) / 8
      fit = omega (arith, length-sets x.words (8 * x.count) (f v))

      here : get_or (emit_all (map f vs) y).words (8 * x.count + c) 0 ≡ get_or (f v) c 0
      here =
          (all_kept (suc x.count) (map f vs) y (omega arith) (omega (arith, fit))).same (8 * x.count + c) (omega arith)
          ∙ sets_in (f v) x.words (8 * x.count) c (omega (arith, wide v)) (omega (arith, wide v))

      after_first : ((emit_all (map f vs) y).count ≡ suc x.count + length vs) × (column (emit_all (map f vs) y).words c (suc x.count) (length vs) ≡ map (λ v. get_or (f v) c 0) vs)
          → Told y
      after_first h = (omega (arith, h.0), rw (here, h.1))
