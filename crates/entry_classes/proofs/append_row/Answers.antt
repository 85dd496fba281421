use mathlib.Core.Path.{sym, ◌∙◌}
use native.Mathlib.Omega.{arith}
use Rattle.definition.proofs.Lists.Tests.{bit_le}
use Rattle.outside.specs.Words.{over}
use Rattle.store.specs.Stored.{store_of}
use Rattle.entry_classes.specs.Told.{tells_class, tells_member}
use Rattle.entry_classes.proofs.RowLaws.{member_size, class_size}
use Rattle.entry_classes.proofs.append_row.Goals as goal

pub returns-in-Members : goal.returns-in-Members
returns-in-Members c =
    rw c.in-Members.is (
      omega (arith, c.append_member.ensures.0, bit_le (tells_member c.args.row.now)),
      λ o q. record {
        size =
            c.append_member.ensures.0
            ∙ sym (member_size c.args.source.sheet.now (store_of o c.args.source.results.now q) c.args.source.base c.args.row.now (over c.args.source.outside.now));
        put = c.append_member.ensures.1 o q;
      },
    )

pub returns-in-Classes : goal.returns-in-Classes
returns-in-Classes c =
    rw c.in-Classes.is (
      omega (arith, c.append_class.ensures.0, bit_le (tells_class c.args.row.now)),
      λ o q. record {
        size = c.append_class.ensures.0 ∙ sym (class_size c.args.source.sheet.now (store_of o c.args.source.results.now q) c.args.source.base c.args.row.now);
        put = c.append_class.ensures.1 o q;
      },
    )
