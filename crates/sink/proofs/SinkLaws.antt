-- Rows written one after another.
use mathlib.Core.Path.{◌≡◌, refl, sym, ap, ◌∙◌}
use mathlib.Core.List.{List, [], ◌∷◌, ◌++◌, append_assoc}
use Prim.Native.Nat.{ℕ, suc, ◌+◌, ◌-◌, ◌*◌, ◌/◌, ◌<◌, ◌≤◌}
use native.Mathlib.Omega.{arith}
use lib.ListN.{length, take, drop}
use lib.Seq.{sets-eq, drop-drop}
use borrow.Author.Tests.{lt-ltb, le-ltb}
use Rattle.sink.specs.Sink.{Sink, sink, emit, emit_all}

-- a row that fits, and one that does not
pub emit_fits : (n : ℕ) (w v r : List ℕ) → n < length w / 8 → v ≡ r → length r ≡ 8
    → sink (n + 1) (take (8 * n) w ++ (v ++ drop (8 * n + 8 - 8 * n) (drop (8 * n) w))) ≡ emit r (sink n w)
unfolding emit
emit_fits n w v r l same size =
    let z : n + 1 ≡ suc n = omega arith in
    let past : 8 * n + (8 * n + 8 - 8 * n) ≡ 8 * n + length r = omega (arith, size) in
    rw (lt-ltb n (length w / 8) l, z, sets-eq r w (8 * n) (omega (arith, size)), same, drop-drop, past) (ap (sink (suc n)) (sym (append_assoc (take (8 * n) w) r (drop (8 * n + length r) w))))

pub emit_full : (n : ℕ) (w : List ℕ) (r : List ℕ) → length w / 8 ≤ n → sink (length w / 8 + 1) w ≡ emit r (sink n w)
unfolding emit
emit_full n w r l = let z : length w / 8 + 1 ≡ suc (length w / 8) = omega arith in rw (le-ltb n (length w / 8) l, z)

-- no row, one row, some rows and then others
pub emit_none : (k : Sink) → k ≡ emit_all [] k
unfolding emit_all
emit_none k = refl

pub emit_one : (r : List ℕ) (k : Sink) {x : Sink} → x ≡ emit r k → x ≡ emit_all (r ∷ []) k
unfolding emit_all
emit_one r k e = e

pub emit_first : (r : List ℕ) (rs : List (List ℕ)) (k : Sink) {x y : Sink} → x ≡ emit r k → y ≡ emit_all rs x → y ≡ emit_all (r ∷ rs) k
unfolding emit_all
emit_first r rs k e f = f ∙ ap (emit_all rs) e

emit_append : (rs qs : List (List ℕ)) (k : Sink) → emit_all (rs ++ qs) k ≡ emit_all qs (emit_all rs k)
unfolding emit_all
emit_append [] qs k = refl
emit_append (r ∷ rs) qs k = emit_append rs qs (emit r k)

pub emit_both : (rs qs : List (List ℕ)) (k : Sink) {x y : Sink} → x ≡ emit_all rs k → y ≡ emit_all qs x → y ≡ emit_all (rs ++ qs) k
emit_both rs qs k e f = f ∙ ap (emit_all qs) e ∙ sym (emit_append rs qs k)

pub emit_last : (rs : List (List ℕ)) (r : List ℕ) (k : Sink) {x y : Sink} → x ≡ emit_all rs k → y ≡ emit r x → y ≡ emit_all (rs ++ r ∷ []) k
emit_last rs r k {x} e f = emit_both rs (r ∷ []) k e (emit_one r x f)
