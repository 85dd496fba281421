-- Rows in the lent words: written one after another, then zeros.
use mathlib.Core.Path.{◌≡◌, refl, sym, ap, ◌∙◌}
use mathlib.Core.Bool.{Bool, true, false}
use mathlib.Core.List.{List, [], ◌∷◌, ◌++◌, append_assoc, append-nil}
use Prim.Native.Nat.{ℕ, suc, ◌+◌, ◌*◌, ◌/◌, ◌<◌, ◌≤◌}
use native.Mathlib.Omega.{arith}
use lib.ListN.{length, take, drop, length-append}
use lib.Dec.{ltb}
use lib.Seq.{sets, sets-eq, length-sets, take_at, length-take-le}
use borrow.Author.Tests.{lt-ltb, ltb-true, ltb-false}
use Rattle.definition.specs.Basics.{when◌then◌else◌, concat_map}
use Rattle.definition.proofs.Format.Accepted.{Eights}
use Rattle.sink.specs.Sink.{Sink, sink, emit, emit_all}

-- the words of rows
abbrev pub flat : List (List ℕ) → List ℕ
flat rs = concat_map (λ r. r) rs

-- a row stored after the first i words
sets_take : (xs w : List ℕ) (i : ℕ) → i + length xs ≤ length w → take (i + length xs) (sets w i xs) ≡ take i w ++ xs
sets_take xs w i l =
    ap (take (i + length xs)) (sets-eq xs w i l)
    ∙ take_at (take i w ++ xs) (drop (i + length xs) w) (i + length xs) (length-append (take i w) xs ∙ ap (λ (n : ℕ). n + length xs) (length-take-le i w (omega arith)))

-- what is written of rows from row k on, where they fit
pub record Fitting (k : ℕ) (w : List ℕ) (rs : List (List ℕ)) (y : Sink) : Type 0 where
  pub counted : y.count ≡ k + length rs
  pub same_length : length y.words ≡ length w
  pub written : take (8 * (k + length rs)) y.words ≡ take (8 * k) w ++ flat rs

pub rows_fit_lem : (rs : List (List ℕ)) (k : ℕ) (w : List ℕ) → Eights rs → k + length rs ≤ length w / 8 → Fitting k w rs (emit_all rs (sink k w))
unfolding emit_all emit
rows_fit_lem [] k w e l =
    let z : k + 0 ≡ k = omega arith in
    record { counted = sym z; same_length = refl; written = ap (λ (n : ℕ). take (8 * n) w) z ∙ sym (append-nil (take (8 * k) w)) }
rows_fit_lem (r ∷ rs) k w (Eights.more e p) l = rw (lt-ltb k (length w / 8) (omega arith)) (after_first (rows_fit_lem rs (suc k) (sets w (8 * k) r) p (omega (arith, length-sets w (8 * k) r))))
  where
    w' : List ℕ
    w' = sets w (8 * k) r

    here : take (8 * suc k) w' ≡ take (8 * k) w ++ r
    here =
        let z : 8 * suc k ≡ 8 * k + length r = omega (arith, e) in
        ap (λ (n : ℕ). take n w') z ∙ sets_take r w (8 * k) (omega (arith, e))

    after_first : {y : Sink} → Fitting (suc k) w' rs y → Fitting k w (r ∷ rs) y
    after_first {y} h =
        let z : k + suc (length rs) ≡ suc k + length rs = omega arith in
        record {
          counted = h.counted ∙ sym z;
          same_length = h.same_length ∙ length-sets w (8 * k) r;
          written = ap (λ (n : ℕ). take (8 * n) y.words) z ∙ h.written ∙ ap (λ (l : List ℕ). l ++ flat rs) here ∙ append_assoc (take (8 * k) w) r (flat rs);
        }

-- what is counted where they do not all fit
pub record Over (w : List ℕ) (y : Sink) : Type 0 where
  pub counted : y.count ≡ suc (length w / 8)
  pub same_length : length y.words ≡ length w

pub rows_over : (rs : List (List ℕ)) (k : ℕ) (w : List ℕ) → k ≤ suc (length w / 8) → length w / 8 < k + length rs → Over w (emit_all rs (sink k w))
unfolding emit_all emit
rows_over [] k w e l = record { counted = omega arith; same_length = refl }
rows_over (r ∷ rs) k w e l =
    go (ltb k (length w / 8)) refl (λ m. rows_over rs (suc k) (sets w (8 * k) r) (omega (arith, length-sets w (8 * k) r)) (omega (arith, length-sets w (8 * k) r)))
    (λ m. rows_over rs (suc (length w / 8)) w (omega arith) (omega arith))
  where
    go : (t : Bool) → ltb k (length w / 8) ≡ t → (k < length w / 8 → Over (sets w (8 * k) r) (emit_all rs (sink (suc k) (sets w (8 * k) r))))
        → (length w / 8 ≤ k → Over w (emit_all rs (sink (suc (length w / 8)) w)))
        → Over w (emit_all rs (when t then sink (suc k) (sets w (8 * k) r) else sink (suc (length w / 8)) w))
    go true h f g =
        let n : length (sets w (8 * k) r) ≡ length w = length-sets w (8 * k) r in
        let y = f (ltb-true k (length w / 8) h) in
        record { counted = y.counted ∙ ap (λ (i : ℕ). suc (i / 8)) n; same_length = y.same_length ∙ n }
    go false h f g = g (ltb-false k (length w / 8) h)
