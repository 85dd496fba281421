use mathlib.Core.Path.{◌∙◌}
use native.Mathlib.Omega.{arith}
use Rattle.outside.specs.Words.{over}
use Rattle.store.specs.Stored.{store_of}
use Rattle.inherit.proofs.ParentLaws.{classes_answer}
use Rattle.inherit.proofs.check_parents.Goals as goal

pub returns : goal.returns
returns c =
    λ o q. c.refuse_ending.ensures
    ∙ classes_answer (over c.args.outside.now) c.args.sheet.now (store_of o c.args.results.now q)
    c.requires.3 (omega (arith, c.requires.0, c.requires.3)) (c.list_parents.ensures o q) c.climb_all.ensures c.requires.2 c.requires.1
