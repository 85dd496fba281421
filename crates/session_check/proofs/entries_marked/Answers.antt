use mathlib.Core.Path.{refl}
use native.Mathlib.Omega.{arith}
use Rattle.session_rows.proofs.RunLaws.{all_start, all_refused, all_next, all_done}
use Rattle.session_check.proofs.ClauseLaws.{after_next, entry_members}
use Rattle.session_check.proofs.MarkLaws.{under_le}
use Rattle.session_check.specs.Clauses.{entry_right, entries_right}
use mathlib.Core.Path.{ap}
use mathlib.Core.Bool.{not}
use Rattle.session_check.proofs.entries_marked.Goals as goal

pub loop-number-init : goal.loop-number-init
unfolding entries_right
loop-number-init c =
    (omega arith, c.requires.1, refl, all_start (entry_right c.args.words.now) _ c.number_at-entries.ensures.0)

pub fits-requires : goal.fits-requires
fits-requires c = (c.loop-number.invariant.2, c.loop-number.invariant.1)

pub returns-then-not-fits : goal.returns-then-not-fits
returns-then-not-fits c =
    all_refused (entry_right c.args.words.now) _ _ c.loop-number-test.true c.fits.ensures.0 (ap not c.if-not-fits.true) c.loop-number.invariant.3

pub loop-number-preserved : goal.loop-number-preserved
loop-number-preserved c =
    let yes = c.if-not-fits.false in (
      omega (arith, c.loop-number-test.true),
      under_le (c.fits.ensures.1 yes) (omega (arith, after_next c.args.words.now c.loop-number.number 3)),
      entry_members c.args.words.now c.loop-number.number c.fits.ensures.0 yes,
      all_next (entry_right c.args.words.now) _ _ c.loop-number-test.true c.fits.ensures.0 (ap not c.if-not-fits.false) c.loop-number.invariant.3,
    )

pub returns : goal.returns
returns c =
    all_done (entry_right c.args.words.now) _ _ c.loop-number-test.false c.loop-number.invariant.3
