use mathlib.Core.Path.{sym, ap, ◌∙◌}
use mathlib.Core.Bool.{Bool}
use mathlib.Core.List.{List}
use Prim.Native.Nat.{ℕ, ◌*◌}
use lib.Seq.{sets}
use borrow.Author.Tests.{eq-eqb, ne_eqb}
use Rattle.definition.specs.Basics.{bit}
use Rattle.store.specs.Stored.{store_of}
use Rattle.entry_classes.proofs.RowLaws.{class_in_lem, class_none}
use Rattle.entry_classes.proofs.append_class.Goals as goal

pub returns-then-row : goal.returns-then-row
returns-then-row c = (
  ap (λ (t : Bool). 5 * bit t) (sym (ne_eqb _ 22 c.if-row.true)),
  λ o q. class_none c.args.source.sheet.now (store_of o c.args.source.results.now q) c.args.source.base c.args.row.now
      c.args.words.now c.args.place c.if-row.true,
)

pub returns : goal.returns
returns c = (
  ap (λ (t : Bool). 5 * bit t) (sym (eq-eqb _ 22 c.if-row.false)),
  λ o q. c.put_class.ensures
      ∙ ap (λ (ws : List ℕ). sets c.args.words.now c.args.place ws) (c.class_of.ensures o q
      ∙ class_in_lem c.args.source.sheet.now (store_of o c.args.source.results.now q) c.args.source.base c.args.row.now c.if-row.false),
)
