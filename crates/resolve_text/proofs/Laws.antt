-- What callers cite of the contract. Assumes nothing.
use mathlib.Core.Path.{◌≡◌, sym, ap, ◌∙◌}
use mathlib.Core.List.{List}
use Prim.Native.Nat.{ℕ, ◌≤◌}
use native.Mathlib.Decide.{dec_le}
use native.Mathlib.Omega.{arith}
use lib.ListN.{length, take, drop, length-append}
use lib.Seq.{take_at, drop_at}
use Rattle.definition.specs.Outcome.{printed}
use Rattle.resolve_text.specs.Report.{PrintedOfFiles}

module _ (sheet names before : List ℕ) (n : ℕ) (after : List ℕ) (h : PrintedOfFiles sheet names before n after) where
  -- the first n bytes are what the program prints, and those after them stay
  pub text_start : 165969 ≤ length before → take n after ≡ printed sheet names
  text_start l = ap (take n) (h.of_read.text l) ∙ take_at (printed sheet names) (drop n before) n (sym (h.of_read.count l))

  pub text_rest : 165969 ≤ length before → drop n after ≡ drop n before
  text_rest l = ap (drop n) (h.of_read.text l) ∙ drop_at (printed sheet names) (drop n before) n (sym (h.of_read.count l))

  -- they lie in the text
  pub text_within : n ≤ length after
  text_within = go (dec_le 165969 (length before))
    where
      go : Dec (165969 ≤ length before) → n ≤ length after
      go (yes l) = omega (arith, h.of_read.count l, ap length (h.of_read.text l) ∙ length-append (printed sheet names) (drop n before))
      go (no l) = omega (arith, h.of_read.no_count (omega arith))
