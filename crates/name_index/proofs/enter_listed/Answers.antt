-- `name_index::enter_listed` meets its contract. Invariant: the index is that of the fixed and the first `k` listed names, and no
-- two of them are the same. Assumes nothing.
use Rattle.std.proofs.Common.{refl, sym, ap, ◌∙◌, ◌++◌, arith, false, List, length, take_all}
use Rattle.definition.specs.Names.{Name, fixed, listed, same_name}
use Rattle.definition.specs.Basics.{unlike}
use Rattle.definition.proofs.Lists.Tests.{T_true}
use Rattle.names.proofs.Laws.{table_size}
use Rattle.name_index.specs.Index.{index_of}
use Rattle.name_index.proofs.UnlikeLaws.{named_twice, named_once, entered_one}
use Rattle.name_index.proofs.QuestionLaws.{found_not, none_zero}
use Rattle.name_index.proofs.IndexLaws.{index_size}
use Rattle.name_index.proofs.enter_listed.Goals as goal

pub loop-k-init : goal.loop-k-init
loop-k-init c = (ap length c.requires.0 ∙ index_size fixed (omega arith), c.requires.0, refl)

pub returns-then-is_some : goal.returns-then-is_some
returns-then-is_some c =
    let size = table_size c.args.listed.names.now c.args.listed.of_names in
    let twice =
    named_twice fixed (listed c.args.listed.names.now) c.loop-k.k (omega (arith, size)) c.name_at-name.ensures
    (omega (arith, size)) c.loop-k.invariant.1 c.first_place-first.ensures refl (found_not _ _ c.search.ensures.0 (sym c.is_some.ensures ∙ c.if-is_some.true)) in
    (sym twice, λ e. absurd (T_true false e))

pub loop-k-preserved : goal.loop-k-preserved
loop-k-preserved c =
    let here = c.name_at-name.ensures in
    let size = table_size c.args.listed.names.now c.args.listed.of_names in
    let once =
    named_once fixed (listed c.args.listed.names.now) c.loop-k.k (omega (arith, size)) here
    (omega (arith, size)) c.loop-k.invariant.1 c.first_place-first.ensures refl (none_zero _ _ c.search.ensures.0 (sym c.is_some.ensures ∙ c.if-is_some.false)) in (
      omega (arith, c.enter_number.auto.index, c.loop-k.invariant.0),
      c.enter_number.ensures
          ∙ entered_one fixed (listed c.args.listed.names.now) c.loop-k.k (omega (arith, size)) here c.loop-k.invariant.1 c.first_place-first.ensures
          (omega arith),
      once ∙ c.loop-k.invariant.2,
    )

pub returns : goal.returns
returns c =
    let names = listed c.args.listed.names.now in
    let all = take_all c.loop-k.k names (omega (arith, table_size c.args.listed.names.now c.args.listed.of_names)) in (
      sym c.loop-k.invariant.2 ∙ ap (λ (l : List Name). unlike same_name (fixed ++ l)) all,
      λ e. c.loop-k.invariant.1 ∙ ap (λ (l : List Name). index_of (fixed ++ l)) all,
    )
