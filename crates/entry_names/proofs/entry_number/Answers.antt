-- `entry_number` meets its contract. Assumes nothing.
use native.Mathlib.Omega.{arith}
use lib.Dec.{eqb}
use Rattle.names.proofs.Laws.{place_le}
use Rattle.entry_names.proofs.BackLaws.{back_low, back_past, back_listed}
use Rattle.entry_names.proofs.entry_number.Goals as goal
use Rattle.entry_names.proofs.entry_number.Goals.{then-n-lt-FIRST_LISTED-via-then-n-lt-FIRST_LISTED, then-n-lt-FIRST_LISTED-via-else-n-lt-FIRST_LISTED+then-last-n}

pub returns-then-n-lt-FIRST_LISTED : goal.returns-then-n-lt-FIRST_LISTED
returns-then-n-lt-FIRST_LISTED c =
    λ S ns apart fit told end. elim c.then-n-lt-FIRST_LISTED.branch [
      | then-n-lt-FIRST_LISTED-via-then-n-lt-FIRST_LISTED w ↦ back_low S ns c.args.n w.if-n-lt-FIRST_LISTED.true
      | then-n-lt-FIRST_LISTED-via-else-n-lt-FIRST_LISTED+then-last-n w ↦ back_past S ns c.args.n c.args.last end w.if-last-n.true
    ]

pub overflow_cast-result : goal.overflow_cast-result
overflow_cast-result c = omega (arith, c.place_of.ensures, place_le (λ x. eqb x c.args.n) c.args.numbers.now, c.requires)

pub overflow_add-result : goal.overflow_add-result
overflow_add-result c = omega (arith, c.place_of.ensures, place_le (λ x. eqb x c.args.n) c.args.numbers.now, c.requires)

pub returns : goal.returns
returns c =
    λ S ns apart fit told end. back_listed S ns apart fit c.args.n c.args.last c.args.numbers.now _ end told c.if-n-lt-FIRST_LISTED.false c.if-last-n.false
    (omega (arith, c.place_of.ensures))
