use mathlib.Core.Path.{sym, ap, ◌∙◌}
use mathlib.Core.List.{List, [], ◌∷◌, map}
use Prim.Native.Nat.{ℕ}
use Rattle.definition.specs.Sheet.{a}
use Rattle.sheet.specs.Rest.{kind_left}
use Rattle.start_units.specs.Starting.{noted}
use Rattle.start_units.proofs.NoteLaws.{note_more, note_end, note_start, note_none}
use Rattle.start_units.proofs.note_unit.Goals as goal

pub returns-then-not-is_kind : goal.returns-then-not-is_kind
returns-then-not-is_kind c = note_none c.args.sheet.now c.args.u c.args.low.now (sym c.is_kind.ensures ∙ c.if-not-is_kind.true)

pub loop-k-preserved : goal.loop-k-preserved
loop-k-preserved c = (
  c.note.auto.low ∙ c.loop-k.invariant.0,
  note_more c.args.sheet.now c.args.u c.loop-k.low c.in-Some.ensures.steps (c.note.ensures ∙ ap (λ (v : ℕ). noted c.args.u (v ∷ []) c.loop-k.low) c.word.ensures) c.loop-k.invariant.1,
)

pub returns : goal.returns
returns c =
    sym (note_end c.args.sheet.now c.args.u c.loop-k.low c.in-None.ensures.steps.0) ∙ c.loop-k.invariant.1
    ∙ ap (λ (ks : List ℕ). noted c.args.u (map (a c.args.sheet.now) ks) c.args.low.now) (ap kind_left c.into_iter-k-iterator.ensures.into_iter_gives ∙ c.kids_of-k-items.ensures)
    ∙ note_start c.args.sheet.now c.args.u c.args.low.now (sym c.is_kind.ensures ∙ c.if-not-is_kind.false)
