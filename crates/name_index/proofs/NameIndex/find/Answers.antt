-- `find` of an index meets its contract: the walk from the first place of the bytes is the definition's. Assumes nothing.
use Rattle.std.proofs.Common.{ap, ◌∙◌, arith, ℕ, length}
use Rattle.name_index.specs.Index.{found_number}
use Rattle.name_index.proofs.QuestionLaws.{find_some, index_fit}
use Rattle.name_index.proofs.NameIndex.find.Goals as goal

pub search-requires : goal.search-requires
search-requires c = (ap length c.args.self.held ∙ index_fit c.args.self.listed.names.now c.args.self.fit, omega (arith, c.first_place.ensures))

pub returns : goal.returns
returns c =
    let same = find_some c.args.self.listed.names.now c.args.name.now c.args.self.fit c.first_place.ensures c.args.self.held in
    (c.search.ensures.0 ∙ ap (λ (a : ℕ × ℕ). found_number a.0) same, c.search.ensures.1 ∙ ap (λ (a : ℕ × ℕ). a.1) same)
