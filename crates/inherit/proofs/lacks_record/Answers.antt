use Rattle.inherit.proofs.ClassLaws.{lacks_some, lacks_none}
use Rattle.outside.specs.Words.{over}
use Rattle.inherit.proofs.lacks_record.Goals as goal

pub returns-then-c-ne0 : goal.returns-then-c-ne0
returns-then-c-ne0 c =
    lacks_some (over c.args.outside.now) c.args.sheet.now c.args.c.0 c.has_record.ensures
    c.if-c-ne0.true

pub returns : goal.returns
returns c =
    lacks_none (over c.args.outside.now) c.args.sheet.now c.args.c.0 c.if-c-ne0.false
