-- `session_text` meets its contract. Assumes nothing.
use Rattle.std.proofs.Common.{arith, sym, ◌∙◌, ◌≡◌}
use Rattle.std.proofs.lemmas.Grind.{common_steps}
use Rattle.name_text.proofs.TextLaws.{none_out, none_short, none_unfit, text_found}
use Rattle.name_text.proofs.session_text.Goals as goal

pub returns-then-not-contains : goal.returns-then-not-contains
returns-then-not-contains c = none_out c.args.words.now c.args.bytes.now c.args.number (λ h. grind (arith, common_steps))

pub returns-then-bytes-lt-FIXED_BYTES : goal.returns-then-bytes-lt-FIXED_BYTES
returns-then-bytes-lt-FIXED_BYTES c =
    none_short c.args.words.now c.args.bytes.now c.args.number c.if-bytes-lt-FIXED_BYTES.true

pub returns-then-not-session_names_fit : goal.returns-then-not-session_names_fit
returns-then-not-session_names_fit c =
    none_unfit c.args.words.now c.args.bytes.now c.args.number (sym c.session_names_fit.ensures ∙ c.if-not-session_names_fit.true)

pub returns : goal.returns
returns c =
    text_found c.args.words.now c.args.bytes.now c.args.number c.list_end-end.result (λ (z : c.args.number ≡ 0). grind (arith, common_steps)) c.list_end-end.ensures.0 c.list_end-end.ensures.1
    c.list_end-end.ensures.2 (sym c.session_names_fit.ensures ∙ c.if-not-session_names_fit.false) c.name_bytes.ensures
