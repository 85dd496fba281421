use Rattle.std.proofs.Common.{◌≡◌, refl, ap, ◌∙◌, ◌+◌, ◌-◌, ℕ, arith}
use Rattle.definition.specs.Basics.{from}
use Rattle.outside.specs.Words.{over}
use Rattle.name_rows.specs.Put.{filled, copied_row, put_all}
use Rattle.name_rows.proofs.PutLaws.{put_one}
use Rattle.name_rows.proofs.CopyLaws.{copied_end, copied_kept, copied_next}
use Rattle.name_rows.proofs.copied.put_copied.Goals as goal

pub loop-at-init : goal.loop-at-init
loop-at-init c =
    let e : c.args.i + c.args.n - c.args.i ≡ c.args.n = omega arith in
    (rw e refl, record { below = c.requires.0; lengths = refl; same = λ i h. refl }, refl)

pub copied_row-x-requires : goal.copied_row-x-requires
copied_row-x-requires c = omega (arith, c.loop-at.invariant.1.lengths, c.loop-at-test.true, c.requires.1)

pub loop-at-preserved : goal.loop-at-preserved
loop-at-preserved c =
    let left = c.args.i + c.args.n - c.loop-at.at in
    let e : c.args.i + c.args.n - (c.loop-at.at + 1) ≡ left - 1 = omega arith in
    let one = put_one (copied_row (over c.args.tables.outside.now) c.args.tables.sheet.now c.args.wanted c.loop-at.out.words.now) c.loop-at.at
    (filled c.loop-at.next c.loop-at.out) c.copied_row-x.ensures c.put_row-next.ensures.step in
    let f = copied_row (over c.args.tables.outside.now) c.args.tables.sheet.now c.args.wanted c.args.out.now.words.now in (
      ap (λ (m : ℕ). put_all f (from (c.loop-at.at + 1) m) (filled c.put_row-next.result c.put_row-next.new.out)) e
          ∙ copied_next (over c.args.tables.outside.now) c.args.tables.sheet.now c.args.wanted c.args.out.now.words.now c.loop-at.at left (filled c.loop-at.next c.loop-at.out)
          (omega (arith, c.loop-at-test.true)) (omega (arith, c.loop-at-test.true)) c.loop-at.invariant.1 one
          ∙ c.loop-at.invariant.0,
      copied_kept (over c.args.tables.outside.now) c.args.tables.sheet.now c.args.wanted c.args.out.now.words.now c.loop-at.at left (filled c.loop-at.next c.loop-at.out)
          (omega (arith, c.loop-at-test.true)) (omega (arith, c.loop-at-test.true)) c.loop-at.invariant.1 one c.requires.1,
      c.put_row-next.ensures.same ∙ c.loop-at.invariant.2,
    )

pub returns-clause-step : goal.returns-clause-step
returns-clause-step c =
    copied_end (over c.args.tables.outside.now) c.args.tables.sheet.now c.args.wanted c.args.out.now.words.now c.loop-at.at (c.args.i + c.args.n - c.loop-at.at) (filled c.loop-at.next c.loop-at.out)
    (omega (arith, c.loop-at-test.false))
    ∙ c.loop-at.invariant.0
