use mathlib.Core.Path.{sym, subst, ◌∙◌}
use Prim.Native.Nat.{ℕ}
use lib.Dec.{T}
use Rattle.definition.proofs.Lists.Tests.{T_true}
use Rattle.definition.specs.Sheet.{is}
use Rattle.definition.specs.Kind.{UNIT}
use Rattle.std.proofs.Common.{rules, ◌≡◌}
use Rattle.std.specs.Option.{unwrap_or, is_none}
use Rattle.start_units.proofs.ReadyLaws.{waiting_row, ready_by, waits_kept, not_unit, not_free, found_at}
use Rattle.start_units.specs.Starting.{WaitsAt}
use Rattle.start_units.proofs.is_ready.Goals as goal

pub returns-then-not-is_kind : goal.returns-then-not-is_kind
returns-then-not-is_kind c =
    (not_unit c.args.sheet.now c.args.marks.now c.args.u (sym c.is_kind.ensures ∙ c.if-not-is_kind.true), c.requires.2)

pub returns-then-entry_at-ne0 : goal.returns-then-entry_at-ne0
returns-then-entry_at-ne0 c =
    (not_free c.args.sheet.now c.args.marks.now c.args.u (sym c.is_kind.ensures ∙ c.if-not-is_kind.false) (λ e. c.if-entry_at-ne0.true (c.entry_at.ensures ∙ e)), c.requires.2)

pub first_waiting-waiting-requires : goal.first_waiting-waiting-requires
first_waiting-waiting-requires c =
    (c.requires.0, rw c.waiting_from-from.ensures (waiting_row c.args.sheet.now c.requires.0 c.args.marks.now c.args.waits.now c.args.u c.requires.1 c.requires.2))

pub returns : goal.returns
returns c =
    let o = c.first_waiting-waiting.result in
    let k = unwrap_or o 0 in
    let unit : T (is c.args.sheet.now UNIT c.args.u) = T_true _ (sym c.is_kind.ensures ∙ c.if-not-is_kind.false) in
    let none : c.is_none.result ≡ is_none o = search rules in
    let found = found_at c.args.sheet.now c.args.marks.now c.waiting_from-from.result o c.first_waiting-waiting.ensures in
    let waits = subst (λ (i : ℕ). WaitsAt c.args.sheet.now c.args.marks.now i k) c.waiting_from-from.ensures found.0 in (
      none ∙ found.1
          ∙ ready_by c.args.sheet.now c.requires.0 c.args.marks.now c.args.waits.now c.args.u c.requires.1 c.requires.2 unit k waits (sym c.entry_at.ensures ∙ c.if-entry_at-ne0.false),
      rw (c.put_entry.ensures, c.unwrap_or.ensures)
          (waits_kept c.args.sheet.now c.requires.0 c.args.marks.now c.args.waits.now c.args.u c.requires.1 c.requires.2 unit k waits),
    )
