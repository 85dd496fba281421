-- Words written one after another.
use Rattle.std.proofs.Common.{◌≡◌, sym, ap, ◌∙◌, ℕ, suc, ◌+◌, ◌<◌, List, [], ◌∷◌, length, get_or, set, take, arith}
use lib.Seq.{sets, take-suc, length-take-le}
use Rattle.machine.proofs.Words.{sets_more}

-- one word more of the words xs, from place p on
pub put_more : (xs before : List ℕ) (p i : ℕ) → i < length xs → set (sets before p (take i xs)) (p + i) (get_or xs i 0) ≡ sets before p (take (i + 1) xs)
put_more xs before p i l =
    let s : i + 1 ≡ suc i = omega arith in
    let q : p + i ≡ p + length (take i xs) = ap (λ (k : ℕ). p + k) (sym (length-take-le i xs (omega arith))) in
    sym (sets_more before p (take i xs) (get_or xs i 0 ∷ []) q) ∙ ap (sets before p) (sym (take-suc xs i 0 l)) ∙ ap (λ (k : ℕ). sets before p (take k xs)) (sym s)
