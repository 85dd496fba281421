use Rattle.std.proofs.lemmas.Iterator.Consumers.{count_from_yields_List, YieldsList-from_first}
use Rattle.std.proofs.Common.{◌≡◌, ◌-◌, inl, length, refl, arith}
use Rattle.fun_rows.specs.Escaping.{slots_left}
use Rattle.fun_rows.specs.Literals.{escapes}
use Rattle.fun_rows.proofs.ChainLaws.{filter_length}
use Rattle.fun_rows.proofs.escaping.EscapingSlots.number.Goals as goal

pub count-requires-clause-fits : goal.count-requires-clause-fits
count-requires-clause-fits c =
    inl (omega (
      arith,
      filter_length (escapes c.args.self.tables.sheet.now c.args.self.tables.results.now c.args.self.tables.nodes.now c.args.self.function.0) c.args.self.next
          (c.args.self.end - c.args.self.next),
      c.args.self.bounded,
    ))

pub overflow_cast-result : goal.overflow_cast-result
overflow_cast-result c =
    let n : c.count.result ≡ length (slots_left c.args.self) =
    count_from_yields_List c.args.self _ c.count.ensures.ran (YieldsList-from_first (λ x. x) slots_left _ refl) in
    omega (
      arith,
      n,
      filter_length (escapes c.args.self.tables.sheet.now c.args.self.tables.results.now c.args.self.tables.nodes.now c.args.self.function.0) c.args.self.next
          (c.args.self.end - c.args.self.next),
      c.args.self.bounded,
    )
