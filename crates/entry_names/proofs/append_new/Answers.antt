-- `append_new` meets its contract. Assumes nothing.
use mathlib.Core.Path.{sym, ap, ◌∙◌}
use mathlib.Core.List.{[], ◌∷◌}
use native.Mathlib.Omega.{arith}
use lib.ListN.{length, length-append}
use lib.Seq.{sets}
use Rattle.entry_names.proofs.AppendLaws.{is_old, is_new_lem}
use Rattle.entry_names.proofs.append_new.Goals as goal

pub returns-then-number-first : goal.returns-then-number-first
returns-then-number-first c =
    let old = is_old c.args.first c.args.number c.args.name.now c.if-number-first.true in
    (sym (ap (sets c.args.bytes.now c.args.at) old), omega (arith, ap length old))

pub returns : goal.returns
returns c =
    let new = is_new_lem c.args.first c.args.number c.args.name.now c.if-number-first.false in
    (c.write_name.ensures ∙ sym (ap (sets c.args.bytes.now c.args.at) new), omega (arith, ap length new, length-append c.args.name.now (10 ∷ [])))
