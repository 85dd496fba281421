use Rattle.answer_rows.proofs.ScratchLaws.{places_zeros}
use Rattle.answer_rows.proofs.RowLaws.{all_none, all_more}
use Rattle.after.specs.Rows.{rows_in}
use Rattle.class_names.specs.Read.{outside_in, store_in}
use Rattle.store.specs.declared.nodes.Store.{Store}
use Rattle.sink.specs.Sink.{emit_all}
use Rattle.sink.specs.Written.{written}
use Rattle.definition.specs.Basics.{concat_map, from}
use lib.ListN.{length}
use native.Mathlib.Omega.{arith}
use mathlib.Core.Path.{◌≡◌, refl, ap, ◌∙◌}
use mathlib.Core.List.{List}
use Prim.Native.Nat.{ℕ, ◌-◌, ◌/◌}
use Rattle.answer_rows.proofs.emit_each.Goals as goal

pub loop-row-init : goal.loop-row-init
loop-row-init c =
    let z : length c.args.tables.sheet.now / 8 - 0 ≡ length c.args.tables.sheet.now / 8 = omega arith in
    let rows : Store → ℕ → List (List ℕ) =
    λ o. rows_in (outside_in c.args.tables) c.args.tables.sheet.now (store_in c.args.tables o) in
    let placed =
    places_zeros c.args.tables 2048 _ c.args.out.now.words.now c.requires.0.small (omega arith) c.requires.1 in (
      λ o. ap (λ (n : ℕ). emit_all (concat_map (rows o) (from 0 n)) (written c.args.out.now)) z,
      omega arith,
      refl,
      rw c.requires.2 placed,
      refl,
    )

pub loop-row-preserved : goal.loop-row-preserved
loop-row-preserved c =
    let below = c.loop-row-test.true in
    let call = c.emit_of in
    let rows : Store → ℕ → List (List ℕ) =
    λ o. rows_in (outside_in c.args.tables) c.args.tables.sheet.now (store_in c.args.tables o) in (
      λ o. all_more (rows o) c.loop-row.row (length c.args.tables.sheet.now / 8) (written c.loop-row.out) below
          (call.ensures.step o)
          ∙ c.loop-row.invariant.0 o,
      omega (arith, below),
      omega (arith, call.auto, c.loop-row.invariant.2),
      call.ensures.placed,
      call.ensures.same ∙ c.loop-row.invariant.4,
    )

pub returns-clause-step : goal.returns-clause-step
returns-clause-step c =
    let rows : Store → ℕ → List (List ℕ) =
    λ o. rows_in (outside_in c.args.tables) c.args.tables.sheet.now (store_in c.args.tables o) in
    λ o. all_none (rows o) c.loop-row.row (length c.args.tables.sheet.now / 8) (written c.loop-row.out)
    c.loop-row-test.false
    ∙ c.loop-row.invariant.0 o
