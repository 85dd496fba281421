-- `named` of a table meets its contract: the name of the number is cut from the list that has it. Assumes nothing.
use Rattle.std.proofs.Common.{sym, ◌∙◌, arith}
use Rattle.names.proofs.Question.{fixed_named, listed_named, none_named}
use Rattle.names.proofs.NameTable.named.Goals as goal

pub returns-then-number-lt-FIRST_LISTED : goal.returns-then-number-lt-FIRST_LISTED
returns-then-number-lt-FIRST_LISTED c = c.name_at.ensures ∙ fixed_named c.args.self.names.now c.args.number (omega arith) (omega arith)

pub returns-then-k-self : goal.returns-then-k-self
returns-then-k-self c = c.name_at-then-k-self.ensures ∙ listed_named c.args.self.names.now c.args.number (omega arith)

pub returns : goal.returns
returns c = sym (none_named c.args.self.names.now c.args.self.of_names c.args.number (omega arith) (omega arith))
