use Rattle.std.proofs.Common.{◌≡◌, true, sym, ◌∙◌, arith}
use Rattle.definition.specs.Basics.{all, from}
use Rattle.definition.specs.Sheet.{rows}
use Rattle.definition.specs.Format.{links_rise}
use Rattle.first_four.proofs.Asking.{zeros_at, zeros_long}
use Rattle.first_four.proofs.format.links_fit.Goals.{then-main_marked, else-main_marked}
use Rattle.first_four.proofs.format.links_fit.Goals as goal

pub linked_once-requires : goal.linked_once-requires
linked_once-requires c =
    let s = c.args.sheet.now in
    let rise : all (links_rise s) (from 0 (rows s)) ≡ true =
    elim c.if-main_marked.branch [
      | then-main_marked w ↦ sym w.links_rise.ensures ∙ sym w.value-is ∙ c.if-links_rise.true
      | else-main_marked w ↦ cc (w.value-is, c.if-links_rise.true)
    ] in
    (c.requires.0, omega (arith, zeros_long 2048 _ c.requires.1), rise, λ k l. zeros_at 2048 _ c.requires.1 k)
