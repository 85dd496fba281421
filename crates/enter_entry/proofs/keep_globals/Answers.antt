use mathlib.Core.Path.{◌∙◌}
use Rattle.enter_entry.proofs.LayLaws.{kept_low, kept_high, kept_walk}
use Rattle.enter_entry.proofs.keep_globals.Goals as goal

pub returns-then-number-lt-FIRST_OF_WALK : goal.returns-then-number-lt-FIRST_OF_WALK
returns-then-number-lt-FIRST_OF_WALK c =
    kept_low c.args.number c.args.globals c.args.words.now c.if-number-lt-FIRST_OF_WALK.true

pub returns-then-number-gt-LAST_WITH_GLOBALS : goal.returns-then-number-gt-LAST_WITH_GLOBALS
returns-then-number-gt-LAST_WITH_GLOBALS c =
    kept_high c.args.number c.args.globals c.args.words.now c.if-number-lt-FIRST_OF_WALK.false c.if-number-gt-LAST_WITH_GLOBALS.true

pub returns : goal.returns
returns c =
    c.put_at.ensures ∙ kept_walk c.args.number c.args.globals c.args.words.now c.if-number-lt-FIRST_OF_WALK.false c.if-number-gt-LAST_WITH_GLOBALS.false
