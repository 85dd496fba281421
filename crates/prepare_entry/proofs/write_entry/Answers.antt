use Rattle.session.specs.Words.{whole, session_in}
use Rattle.session_outside.proofs.ReadableLaws.{readable}
use Rattle.prepare_entry.proofs.write_entry.Goals as goal

pub invariant_of-outside_words : goal.invariant_of-outside_words
invariant_of-outside_words c =
    record { readable = readable c.args.words.now c.requires.0.0 c.requires.0.1 }

pub returns : goal.returns
returns c =
    record {
      outside = c.outside_words.ensures;
      copied = λ n ns e. c.entry_sheet.ensures (session_in whole c.args.words.now n) ns e;
    }
