-- Facts of a sheet past the first four questions: rows of a kind are in range, and classes are known by their numbers.
use mathlib.Core.Path.{◌≡◌}
use mathlib.Core.Logic.{◌⊎◌, inl, inr}
use mathlib.Core.Bool.{not, ◌&&◌}
use Prim.Native.Nat.{ℕ, suc, ◌*◌, ◌<◌}
use native.Mathlib.Omega.{arith}
use lib.ListN.{length, get_or-eq_default}
use lib.Dec.{eqb, leb, ltb, T, eqb→eq, ltb→lt, nltb→le}
use Rattle.definition.specs.Sheet.{Sheet, kind, rows, is}
use Rattle.definition.specs.Outside.{Outside}
use Rattle.definition.specs.Format.{sheet_fits}
use Rattle.definition.specs.Outcome.{rows_fit}
use Rattle.definition.proofs.Lists.Tests.{and_left, true_of, decide}
use Rattle.definition.proofs.Format.Accepted.{some_row}
use Rattle.definition.proofs.Format.Facts.{SheetFacts, sheet_facts}
use Rattle.definition.proofs.Walk.Fits.{Fits}
use Rattle.definition.proofs.Walk.Fitting.{fits}
use Rattle.machine.specs.Reads.{PastFour}

-- the rows are all words
pub rows_whole : (s : Sheet) → T (rows_fit s) → 8 * rows s ≡ length s
rows_whole s h =
    eqb→eq (8 * rows s) (length s) (and_left (eqb (8 * rows s) (length s)) (leb 1 (rows s)) (and_left (eqb (8 * rows s) (length s) && leb 1 (rows s)) (leb (rows s) 2048) h))

module _ {O : Outside} {s : Sheet} (ok : PastFour O s) where
  -- no row beyond the sheet has a kind
  pub row_of_kind : (k r : ℕ) → T (is s (suc k) r) → r < rows s
  row_of_kind k r t = go (decide (ltb r (rows s)))
    where
      e : 8 * rows s ≡ length s
      e = rows_whole s ok.whole

      beyond : (r < rows s → ⊥) → ⊥
      beyond n =
          let z : kind s r ≡ 0 = get_or-eq_default s 0 (omega (arith, e)) in
          omega (arith, z, eqb→eq (kind s r) (suc k) t)

      go : T (ltb r (rows s)) ⊎ T (not (ltb r (rows s))) → r < rows s
      go (inl h) = ltb→lt r (rows s) h
      go (inr h) = absurd (beyond (λ l. omega (arith, nltb→le r (rows s) h)))

  pub past_fits : Fits O s
  past_fits = fits ok.names s ok.outside (some_row s ok.whole) (true_of (sheet_fits ok.names s) ok.fitting)

  pub past_facts : SheetFacts ok.names s
  past_facts = sheet_facts ok.names s ok.fitting
