use mathlib.Core.Path.{sym, ap, ◌∙◌}
use mathlib.Core.List.{[]}
use Prim.Native.Nat.{ℕ, ◌*◌}
use native.Mathlib.Omega.{arith}
use lib.ListN.{get_or}
use Rattle.definition.specs.Scope.{history}
use Rattle.definition.specs.Answer.{answers, raised}
use Rattle.outside.specs.Words.{over}
use Rattle.walk.specs.Ended.{ended}
use Rattle.enter_entry.specs.EnteredOver.{leaving}
use Rattle.enter_entry.proofs.LayLaws.{room_kept, laid_down, written}
use Rattle.enter_entry.proofs.lay_down.Goals as goal

pub append_classes-requires : goal.append_classes-requires
append_classes-requires c =
    let O = over c.args.outside.now in (
      omega (arith, c.class_place-classes.ensures, c.requires.0.classes, c.requires.2),
      omega (arith, c.member_place-members.ensures, c.requires.0.members, c.requires.2),
      c.base_of-base.ensures.1,
      c.requires.2,
      c.requires.0.past,
      c.requires.3
          ∙ ap (λ (k : ℕ). raised k (answers O c.args.sheet.now (history O c.args.sheet.now))) (sym c.base_of-base.ensures.0),
    )

pub invariant_of-left : goal.invariant_of-left
invariant_of-left c = record { low = c.base_of-base.ensures.1 }

pub append_laid-requires : goal.append_laid-requires
append_laid-requires c = omega (arith, c.laid_place-laid.ensures, c.requires.0.laid)

pub write_counts-requires : goal.write_counts-requires
write_counts-requires c =
    let walked = c.requires.4.1 in
    room_kept c.args.words.now (leaving (over c.args.outside.now) (2048 * get_or c.args.words.now 1 0) c.args.sheet.now []) c.args.tried.added
    (written (over c.args.outside.now) c.args.sheet.now c.args.words.now {v = ended _ _ _ _} walked c.requires.5 []
    c.base_of-base.ensures.0 c.class_place-classes.ensures c.member_place-members.ensures c.laid_place-laid.ensures c.outside_names.ensures
    (c.append_classes.ensures c.args.tried.walk c.args.entries.now c.requires.4.0 walked.walked (walked.walked.accepted c.requires.5))
    c.append_laid.ensures) c.requires.1

pub returns : goal.returns
returns c =
    let walked = c.requires.4.1 in
    λ ms adds.
    laid_down c.args.words.now (leaving (over c.args.outside.now) (2048 * get_or c.args.words.now 1 0) c.args.sheet.now ms)
    c.args.tried.added adds c.args.tried.answer.globals
    (written (over c.args.outside.now) c.args.sheet.now c.args.words.now {v = ended _ _ _ _} walked c.requires.5 ms
    c.base_of-base.ensures.0 c.class_place-classes.ensures c.member_place-members.ensures c.laid_place-laid.ensures c.outside_names.ensures
    (c.append_classes.ensures c.args.tried.walk c.args.entries.now c.requires.4.0 walked.walked (walked.walked.accepted c.requires.5))
    c.append_laid.ensures) c.write_counts.ensures
