use mathlib.Core.Path.{sym, ap, ◌∙◌}
use Rattle.machine.specs.Machine.{four_words}
use Rattle.store.specs.Stored.{store_of}
use Rattle.symbols.specs.OpenDecls.{means, slot_or, number_or}
use Rattle.store.proofs.CodeLaws.{seen_captured, seen_own}
use Rattle.store.proofs.code.seen_in.Goals as goal

pub returns-then-not-is_outer : goal.returns-then-not-is_outer
returns-then-not-is_outer c =
    λ o k g. c.code_of.ensures k g
    ∙ ap four_words (seen_own c.args.sheet.now (means c.args.d) (slot_or k c.args.d) (number_or g c.args.d) c.args.fun.0 (store_of o c.args.results.now c.args.nodes.now)
    (sym c.is_outer.ensures ∙ c.if-not-is_outer.true))

pub returns : goal.returns
returns c =
    λ o k g. rw (c.is_mutable.ensures, c.index_of.ensures, c.word-last.ensures, c.row_of.ensures)
    (seen_captured c.args.sheet.now (means c.args.d) (slot_or k c.args.d) (number_or g c.args.d) c.args.fun.0 (store_of o c.args.results.now c.args.nodes.now)
    (sym c.is_outer.ensures ∙ c.if-not-is_outer.false))
