use Rattle.session_outside.proofs.NameLaws.{function_told, class_told, global_told}
use Rattle.session_outside.proofs.visible.declared_name.Goals as goal

pub returns-then-code : goal.returns-then-code
returns-then-code c =
    function_told c.args.runs.words.now c.args.i c.entry_at-name.ensures c.entry_at-code.ensures c.entry_at-number.ensures c.if-code.true

pub returns-then-code-2 : goal.returns-then-code-2
returns-then-code-2 c =
    class_told c.args.runs.words.now c.args.i c.entry_at-name.ensures c.entry_at-code.ensures c.entry_at-number.ensures
    c.if-code.false c.if-code-2.true c.earlier_class.ensures

pub returns-else-code-2 : goal.returns-else-code-2
returns-else-code-2 c =
    global_told c.args.runs.words.now c.args.i c.entry_at-name.ensures c.entry_at-code.ensures c.entry_at-number.ensures
    c.if-code.false c.if-code-2.false c.entry_at.ensures
