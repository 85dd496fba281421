use mathlib.Core.Path.{sym, ◌∙◌}
use borrow.Author.Tests.{eqb-true, eqb-false}
use Rattle.store.proofs.CodeLaws.{code_argument, code_local}
use Rattle.store.proofs.code.variable_code.Goals as goal

pub returns-then-is_kind : goal.returns-then-is_kind
returns-then-is_kind c =
    λ g. rw c.param_index-idx.ensures (code_argument c.args.sheet.now c.args.row c.args.fun.0 c.args.slot g (eqb-true _ 11 (sym c.is_kind.ensures ∙ c.if-is_kind.true)))

pub returns : goal.returns
returns c =
    λ g. rw c.word.ensures (code_local c.args.sheet.now c.args.row c.args.fun.0 c.args.slot g (eqb-false _ 11 (sym c.is_kind.ensures ∙ c.if-is_kind.false)))
