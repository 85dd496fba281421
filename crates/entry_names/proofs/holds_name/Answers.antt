use mathlib.Core.Path.{sym, ap, ◌∙◌}
use Prim.Native.Nat.{ℕ}
use Rattle.shapes.specs.States.{entry_of, kind_table}
use Rattle.entry_names.proofs.SheetLaws.{in_a, in_b, in_none, in_unknown}
use Rattle.entry_names.proofs.holds_name.Goals as goal

pub returns-then-c-eq-A : goal.returns-then-c-eq-A
returns-then-c-eq-A c =
    in_a c.args.kind c.args.c c.if-c-eq-A.true (c.rule_a.ensures ∙ ap (λ (k : ℕ). entry_of kind_table k 2) (sym c.in-Ok.ensures)) c.is_name_rule.ensures

pub returns-then-c-eq-B : goal.returns-then-c-eq-B
returns-then-c-eq-B c =
    in_b c.args.kind c.args.c c.if-c-eq-B.true (c.rule_b.ensures ∙ ap (λ (k : ℕ). entry_of kind_table k 3) (sym c.in-Ok.ensures)) c.is_name_rule-then-c-eq-B.ensures

pub returns-else-c-eq-B : goal.returns-else-c-eq-B
returns-else-c-eq-B c = in_none c.args.kind c.args.c c.if-c-eq-A.false c.if-c-eq-B.false

pub returns-in-Err : goal.returns-in-Err
returns-in-Err c = in_unknown c.args.kind c.args.c c.in-Err.ensures.1
