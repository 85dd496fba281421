-- `print_name` meets its contract: the line of the length, and the name after it. Assumes nothing.
use Rattle.name_reply.proofs.ReplyLaws.{name_printed}
use Rattle.name_reply.proofs.print_name.Goals as goal

pub returns : goal.returns
returns c =
    name_printed c.args.name.now c.args.text.now c.write_rows.new.text c.write_rows.result c.requires.1 c.write_rows.ensures c.put_start.new.text c.put_start.ensures
