-- `name_text` meets its contract. Assumes nothing.
use Rattle.std.proofs.Common.{sym, ap, ◌∙◌}
use Rattle.std.specs.Prelude.{Bool, ◌&&◌, not, eqb, leb}
use Rattle.name_text.proofs.TextLaws.{of_session, of_entry_lem}
use Rattle.name_text.proofs.name_text.Goals as goal

pub returns-then-is_listed : goal.returns-then-is_listed
returns-then-is_listed c =
    of_entry_lem c.args.words.now c.args.bytes.now c.args.names.now (not (eqb c.args.whose 0)) c.args.number
    (sym (c.is_listed.ensures ∙ ap (λ (b : Bool). b && leb 25 c.args.number) c.from.ensures) ∙ c.if-is_listed.true) c.list_text.ensures

pub returns : goal.returns
returns c =
    of_session c.args.words.now c.args.bytes.now c.args.names.now (not (eqb c.args.whose 0)) c.args.number
    (sym (c.is_listed.ensures ∙ ap (λ (b : Bool). b && leb 25 c.args.number) c.from.ensures) ∙ c.if-is_listed.false) c.session_text.ensures
