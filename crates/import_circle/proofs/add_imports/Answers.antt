use mathlib.Core.Path.{refl, ap, ◌∙◌}
use native.Mathlib.Omega.{arith}
use Rattle.sheet.specs.Rest.{kind_left}
use Rattle.import_circle.proofs.FoundLaws.{adding_start, adding_wide, adding_more, adding_end}
use Rattle.import_circle.proofs.add_imports.Goals as goal

pub loop-k-init : goal.loop-k-init
loop-k-init c =
    (adding_start c.args.sheet.now c.args.u c.args.marks.now c.args.queue.now c.args.count (ap kind_left c.into_iter-k-iterator.ensures.into_iter_gives ∙ c.kids_of-k-items.ensures), refl, refl)

pub add-n-requires : goal.add-n-requires
add-n-requires c = (
  omega (
    arith,
    c.word.ensures,
    c.loop-k.invariant.1,
    c.requires.2,
    adding_wide c.args.sheet.now c.args.u c.args.marks.now c.args.queue.now c.args.count c.loop-k.marks c.loop-k.queue c.loop-k.n c.loop-k.invariant.0
        c.in-Some.ensures.steps c.requires.0 c.requires.1,
  ),
  omega (arith, c.loop-k.invariant.1, c.requires.3),
)

pub loop-k-preserved : goal.loop-k-preserved
loop-k-preserved c = (
  adding_more c.args.sheet.now c.args.u c.args.marks.now c.args.queue.now c.args.count c.loop-k.marks c.loop-k.queue c.loop-k.n c.loop-k.invariant.0 c.in-Some.ensures.steps
      (λ found h. rw (← c.word.ensures) (c.add-n.ensures found h)),
  c.add-n.auto.marks ∙ c.loop-k.invariant.1,
  c.add-n.auto.queue ∙ c.loop-k.invariant.2,
)

pub returns : goal.returns
returns c =
    adding_end c.args.sheet.now c.args.u c.args.marks.now c.args.queue.now c.args.count c.loop-k.marks c.loop-k.queue c.loop-k.n c.loop-k.invariant.0 c.in-None.ensures.steps.0
