-- `name_lent` meets its contract: the reply of the name's text. Assumes nothing.
use native.Mathlib.Omega.{arith}
use Rattle.std.specs.Prelude.{Bool, ◌&&◌, not, eqb, leb}
use Rattle.report.proofs.Laws.{replied, replied_short}
use Rattle.name_reply.proofs.ReplyLaws.{text_short, text_told, replied_name}
use Rattle.name_reply.proofs.name_lent.Goals as goal

pub returns-then-text-lt-LONGEST : goal.returns-then-text-lt-LONGEST
returns-then-text-lt-LONGEST c =
    replied_name (replied_short 0 _ c.args.text.now c.if-text-lt-LONGEST.true)

pub print_name-requires : goal.print_name-requires
print_name-requires c = (
  text_short c.args.words.now c.args.bytes.now c.args.names.now (not (eqb c.args.whose 0)) c.args.number c.name_text-name.ensures,
  omega (arith, c.if-text-lt-LONGEST.false),
)

pub returns : goal.returns
returns c =
    replied_name (replied 0 _ c.args.text.now _ _ (omega arith) c.if-text-lt-LONGEST.false
    (text_told c.args.words.now c.args.bytes.now c.args.names.now (not (eqb c.args.whose 0)) c.args.number
    c.name_text-name.ensures c.print_name.ensures))
