use mathlib.Core.Path.{ap}
use Prim.Native.Nat.{ℕ, ◌+◌}
use native.Mathlib.Omega.{arith}
use Rattle.session_outside.proofs.WholeLaws.{words_hold}
use Rattle.session_outside.proofs.VisibleLaws.{names_few_lem}
use Rattle.session_outside.proofs.outside_words.Goals as goal

pub overflow_add-records_end : goal.overflow_add-records_end
overflow_add-records_end c = omega (arith, names_few_lem c.args.runs.readable)

pub overflow_add-records_end-2 : goal.overflow_add-records_end-2
overflow_add-records_end-2 c = omega (arith, names_few_lem c.args.runs.readable)

pub overflow_mul-records_end : goal.overflow_mul-records_end
overflow_mul-records_end c = omega (arith, names_few_lem c.args.runs.readable)

pub record_rows-requires : goal.record_rows-requires
record_rows-requires c =
    (omega (arith, names_few_lem c.args.runs.readable), omega (arith, names_few_lem c.args.runs.readable))

pub overflow_mul-records_end-2 : goal.overflow_mul-records_end-2
overflow_mul-records_end-2 c = omega (arith, names_few_lem c.args.runs.readable)

pub member_runs-requires : goal.member_runs-requires
member_runs-requires c = omega (arith, names_few_lem c.args.runs.readable)

pub returns : goal.returns
returns c =
    words_hold c.args.runs.words.now c.args.out.now c.args.runs.readable c.requires c.name_rows-names_end.ensures.0
    (ap (λ (k : ℕ). c.name_rows-names_end.result + k + 3) c.entry_at.ensures) c.name_rows-names_end.ensures.1
    c.record_rows.ensures c.member_runs.ensures c.put_row.ensures
