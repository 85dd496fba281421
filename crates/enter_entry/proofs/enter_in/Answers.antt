use Prim.Native.Nat.{◌*◌}
use lib.ListN.{get_or}
use Rattle.walk.specs.Ended.{ended}
use Rattle.try_entry.proofs.TryLaws.{walk_accepted, rows_held}
use Rattle.enter_entry.proofs.LayLaws.{entered_refused, entered_accepted}
use Rattle.enter_entry.proofs.enter_in.Goals as goal

pub try_over-tried-requires : goal.try_over-tried-requires
try_over-tried-requires c =
    (c.requires.1, c.requires.0.one, c.requires.0.entries)

pub returns-then-answer-ne0 : goal.returns-then-answer-ne0
returns-then-answer-ne0 c =
    entered_refused c.try_over-tried.ensures.0 {v = ended _ _ _ _} c.try_over-tried.ensures.1 c.if-answer-ne0.true c.keep_globals.ensures

pub lay_down-requires : goal.lay_down-requires
lay_down-requires c =
    let tried = c.try_over-tried.ensures.0 in
    let settled = tried.settled c.if-answer-ne0.false in
    let held = rows_held c.args.outside.now (2048 * get_or c.args.words.now 1 0) c.args.sheet.now _ settled c.if-answer-ne0.false in (
      c.requires.0,
      tried.room c.if-answer-ne0.false,
      held.1,
      held.0,
      (_, c.try_over-tried.ensures.1),
      walk_accepted c.args.outside.now
          (2048 * get_or c.args.words.now 1 0) c.args.sheet.now _ settled c.if-answer-ne0.false,
    )

pub returns : goal.returns
returns c =
    entered_accepted c.try_over-tried.ensures.0 {v = ended _ _ _ _} c.try_over-tried.ensures.1 c.if-answer-ne0.false c.lay_down.ensures
