-- `name_index::fnv_value` meets its contract. Assumes nothing.
use Rattle.std.proofs.Common.{◌∙◌, rules, tests}
use Rattle.std.proofs.lemmas.Iterator.{YieldsList-from_slice}
use Rattle.std.proofs.lemmas.Iterator.Consumers.{fold_from_yields_List}
use Rattle.name_index.proofs.ValueLaws.{mixed, fnv_fold}
use Rattle.name_index.proofs.fnv_value.Goals as goal

pub returns : goal.returns
returns c =
    fold_from_yields_List _ mixed 2166136261 c.fold.result c.fold.ensures.ran (YieldsList-from_slice c.args.bytes.now cc) (λ a x b q k. search (rules, tests))
    ∙ fnv_fold 2166136261 c.args.bytes.now
