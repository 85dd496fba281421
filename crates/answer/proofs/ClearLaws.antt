-- Words cleared from a place to the end.
use mathlib.Core.Path.{◌≡◌, ap, ◌∙◌}
use mathlib.Core.List.{List, [], ◌++◌, append-nil}
use Prim.Native.Nat.{ℕ, ◌-◌, ◌≤◌}
use native.Mathlib.Omega.{arith}
use lib.ListN.{length, take, drop, replicate, length-drop, drop_of_length-le}
use lib.Seq.{take_all}
use borrow.Rule.Slice.PartMut.{put_mid}

pub cleared_after : (i : ℕ) (w z : List ℕ) → i ≤ length w → z ≡ replicate (length (take (length w - i) (drop i w))) 0
    → put_mid i (length w - i) w z ≡ take i w ++ replicate (length w - i) 0
cleared_after i w z l e =
    ap (λ (v : List ℕ). take i w ++ (z ++ v)) rest ∙ ap (λ (v : List ℕ). take i w ++ v) (append-nil z ∙ e ∙ ap (λ (k : ℕ). replicate k 0) size)
  where
    rest : drop (length w - i) (drop i w) ≡ []
    rest = drop_of_length-le (drop i w) {i = length w - i} (omega (arith, length-drop i w))

    size : length (take (length w - i) (drop i w)) ≡ length w - i
    size = ap length (take_all (length w - i) (drop i w) (omega (arith, length-drop i w))) ∙ length-drop i w
