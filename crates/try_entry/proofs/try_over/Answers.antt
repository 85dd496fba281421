use mathlib.Core.Path.{ap}
use Prim.Native.Nat.{ℕ}
use lib.ListN.{replicate}
use mathlib.Core.Path.{refl}
use native.Mathlib.Omega.{arith}
use Rattle.walk.specs.Ended.{ended}
use Rattle.try_entry.proofs.TryLaws.{rows_held, try_refused, try_full, try_accepted}
use mathlib.Core.Path.{sym, ◌∙◌}
use Rattle.try_entry.proofs.try_over.Goals as goal

pub returns-then-answer-ne0 : goal.returns-then-answer-ne0
returns-then-answer-ne0 c = (
  try_refused c.args.words.now c.args.outside.now c.args.sheet.now c.args.new c.args.bytes _ c.base_of.result
      c.base_of.ensures.0 c.resolve_over-tried.ensures.0 refl c.if-answer-ne0.true,
  c.resolve_over-tried.ensures.1,
)

pub added_by-added-requires : goal.added_by-added-requires
added_by-added-requires c =
    (rows_held c.args.outside.now c.base_of.result c.args.sheet.now _ c.resolve_over-tried.ensures.0 c.if-answer-ne0.false).1

pub shape_of-classes-then-not-has_room : goal.shape_of-classes-then-not-has_room
shape_of-classes-then-not-has_room c =
    omega (arith, c.resolve_over-tried.auto.classes)

pub returns-then-not-has_room : goal.returns-then-not-has_room
returns-then-not-has_room c = (
  try_full c.args.words.now c.args.outside.now c.args.sheet.now c.args.new c.args.bytes _ c.base_of.result
      c.base_of.ensures.0 c.resolve_over-tried.ensures.0 c.if-answer-ne0.false {v = ended _ _ _ _} c.resolve_over-tried.ensures.1 c.added_by-added.ensures
      (sym c.has_room.ensures ∙ c.if-not-has_room.true) c.refuse.ensures.0
      (c.refuse.ensures.1 ∙ ap (λ (k : ℕ). replicate k 0) c.resolve_over-tried.auto.out),
  c.resolve_over-tried.ensures.1,
)

pub returns : goal.returns
returns c = (
  try_accepted c.args.words.now c.args.outside.now c.args.sheet.now c.args.new c.args.bytes _ c.base_of.result
      c.base_of.ensures.0 c.resolve_over-tried.ensures.0 c.if-answer-ne0.false {v = ended _ _ _ _} c.resolve_over-tried.ensures.1 c.added_by-added.ensures refl refl
      (sym c.has_room.ensures ∙ c.if-not-has_room.false),
  c.resolve_over-tried.ensures.1,
)
