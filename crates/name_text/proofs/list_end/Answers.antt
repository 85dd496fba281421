-- `list_end` meets its contract. Assumes nothing.
use Rattle.std.proofs.Common.{ap, ◌∙◌, ℕ, ◌+◌, min, length, get_or}
use Rattle.name_text.proofs.TextLaws.{list_until}
use Rattle.name_text.proofs.list_end.Goals as goal

pub returns : goal.returns
returns c =
    list_until c.args.bytes.now (get_or c.args.words.now 4 0) _ c.requires
    (c.min.ensures ∙ ap (λ (k : ℕ). min (168 + k) (length c.args.bytes.now)) c.word_at.ensures)
