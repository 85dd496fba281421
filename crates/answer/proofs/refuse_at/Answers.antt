use Rattle.answer.proofs.TellLaws.{told_at}
use native.Mathlib.Omega.{arith}
use Rattle.answer.proofs.refuse_at.Goals as goal

pub returns : goal.returns
returns c =
    let file_is = c.word.ensures in
    let column_is = c.word-3.ensures in
    let made = c.new-pos.ensures in
    let no = c.refuse-answer.ensures in (
      told_at _ c.args.sheet.now c.args.no.at c.args.no.name _
          (rw (← file_is, ← c.word-2.ensures, ← column_is) made) c.requires (omega (arith, c.word-2.ensures, c.word-2.type_inv)) _
          no.0,
      no.1,
    )
