-- `number_names` meets its contract. Invariant: the names before those that are left are numbered and counted. Assumes nothing.
use Rattle.std.proofs.Common.{refl, ap, ◌∙◌, ◌≡◌, ◌+◌, arith, ℕ, suc, length, length-set}
use Rattle.definition.specs.Names.{listed}
use Rattle.names.specs.declared.Names.{Names}
use Rattle.names.specs.Listed.{numbered}
use Rattle.names.proofs.Laws.{table_size}
use Rattle.names.proofs.Question.{fit_small}
use Rattle.name_index.specs.Index.{found_number}
use Rattle.entry_names.specs.Told.{number_in, found_or}
use Rattle.entry_names.proofs.NumberLaws.{first_new, find_number, found_next, found_none, passed_none, passed_few, passed_next, passed_all}
use Rattle.entry_names.proofs.number_names.Goals as goal

pub loop-name-init : goal.loop-name-init
loop-name-init c = record {
  can = tt;
  finite = tt;
  size = refl;
  passed = passed_none _ c.args.names.now _ c.args.numbers.now (ap (λ (it : Names). listed it.0.now) c.into_iter-name-iterator.ensures.into_iter_gives);
}

pub overflow_cast-first_new : goal.overflow_cast-first_new
overflow_cast-first_new c =
    let few = passed_few c.loop-name.invariant.passed c.in-Some.name.now _ c.in-Some.ensures.steps c.requires.0 in
    let list = c.args.list.listed in
    omega (arith, c.count.ensures, table_size list.names.now list.of_names, (fit_small list.names.now c.args.list.fit).0, few.1)

pub loop-name-preserved : goal.loop-name-preserved
loop-name-preserved c =
    let x = c.in-Some.name.now in
    let ns = c.args.list.listed.names.now in
    let few = passed_few c.loop-name.invariant.passed x _ c.in-Some.ensures.steps c.requires.0 in
    let counted = c.counted-tally.ensures in
    let same : c.find-found.result.number ≡ found_number (number_in (numbered ns) x) = c.find-found.ensures.0 ∙ ap found_number (find_number ns x c.args.list.fit) in
    let first : 25 + c.count.result + c.loop-name.tally.new ≡ suc (length (numbered ns)) + c.loop-name.tally.new =
    omega (arith, c.count.ensures, first_new ns c.args.list.listed.table.now c.args.list.listed.of_names) in
    record {
      can = tt;
      finite = tt;
      size = length-set c.loop-name.numbers c.loop-name.tally.count c.unwrap_or.result ∙ c.loop-name.invariant.size;
      passed = passed_next c.loop-name.invariant.passed x _ c.in-Some.ensures.steps (found_none _ _ _ same c.is_none.ensures)
          (c.unwrap_or.ensures ∙ found_next _ _ _ same ∙ ap (λ (k : ℕ). found_or k (number_in (numbered ns) x)) first)
          (omega (arith, few.0, c.loop-name.invariant.size, c.requires.1)) counted.0 counted.1 counted.2;
    }

pub returns : goal.returns
returns c =
    let left = c.in-None.ensures.steps in
    passed_all c.loop-name.invariant.passed left.0 c.requires.0
