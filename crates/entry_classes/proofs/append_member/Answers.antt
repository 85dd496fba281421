use mathlib.Core.Path.{sym, ap, ◌∙◌}
use mathlib.Core.Bool.{Bool}
use mathlib.Core.List.{List}
use Prim.Native.Nat.{ℕ, ◌*◌}
use lib.Seq.{sets}
use Rattle.definition.specs.Basics.{bit}
use Rattle.store.specs.Stored.{store_of}
use Rattle.outside.specs.Words.{over}
use Rattle.entry_classes.proofs.RowLaws.{member_in_lem, member_none}
use Rattle.entry_classes.proofs.append_member.Goals as goal

pub returns-then-not-is_member : goal.returns-then-not-is_member
returns-then-not-is_member c =
    let e = sym c.is_member.ensures ∙ c.if-not-is_member.true in (
      ap (λ (t : Bool). 3 * bit t) (sym e),
      λ o q. member_none c.args.source.sheet.now (store_of o c.args.source.results.now q) c.args.source.base c.args.row.now
          (over c.args.source.outside.now) c.args.words.now c.args.place e,
    )

pub returns : goal.returns
returns c =
    let e = sym c.is_member.ensures ∙ c.if-not-is_member.false in (
      ap (λ (t : Bool). 3 * bit t) (sym e),
      λ o q. c.put_member.ensures
          ∙ ap (λ (ws : List ℕ). sets c.args.words.now c.args.place ws) (c.member_of.ensures o q
          ∙ member_in_lem c.args.source.sheet.now (store_of o c.args.source.results.now q) c.args.source.base c.args.row.now (over c.args.source.outside.now) e),
    )
