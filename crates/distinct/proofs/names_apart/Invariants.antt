use lib.ListN.{length}
use mathlib.Core.Path.{◌≡◌}
use Rattle.ast.specs.Kind.{kind_number}
use Rattle.sheet.specs.Rest.{rows_left}
use Rattle.distinct.specs.Apart.{unmarked, marked}
use Rattle.distinct.proofs.names_apart.Given as goal

abbrev pub invariant-loop-c : goal.invariant-loop-c
invariant-loop-c l = record {
  size : length l.marks ≡ length l.initial.marks;
  value : unmarked l.sheet (kind_number l.kind) l.mark l.marks (rows_left l.c-iterator) ≡ unmarked l.sheet (kind_number l.kind) l.mark l.initial.marks (rows_left l.initial.c-iterator);
  after : marked l.sheet (kind_number l.kind) l.mark l.marks (rows_left l.c-iterator) ≡ marked l.sheet (kind_number l.kind) l.mark l.initial.marks (rows_left l.initial.c-iterator);
}
