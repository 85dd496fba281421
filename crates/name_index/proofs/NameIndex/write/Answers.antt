-- `write` of an index meets its contract: each refusal is one of the parts of question 2, and entering the names decides the rest.
-- Assumes nothing.
use Rattle.std.proofs.Common.{sym, ap, ◌∙◌, arith, List, ℕ, length}
use Rattle.definition.specs.Names.{listed}
use Rattle.names.proofs.Laws.{table_size}
use Rattle.names.proofs.Question.{few_of}
use Rattle.name_index.proofs.NameIndex.write.Goals as goal

pub enter_listed-requires : goal.enter_listed-requires
enter_listed-requires c =
    let few = few_of c.args.names.now (sym c.sizes_fit.ensures ∙ c.if-not-sizes_fit.false) in (
      c.enter_fixed.ensures,
      omega (
        arith,
        few,
        table_size c.write-listed.result.names.now c.write-listed.result.of_names,
        ap (λ (ns : List ℕ). length (listed ns)) c.write-listed.ensures,
      ),
    )
