use Rattle.resolver.proofs.OutcomeLaws.{plain_past, plain_settled}
use Rattle.resolver.proofs.resolve_plain.Goals as goal

pub resolve_sized-requires : goal.resolve_sized-requires
resolve_sized-requires c =
    plain_past c.core_words-outside.ensures c.requires

pub returns : goal.returns
returns c =
    plain_settled c.core_words-outside.ensures c.resolve_sized.ensures
