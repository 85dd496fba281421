-- `name_place` meets its contract: the name's text, and where it stands. Assumes nothing.
use Rattle.std.proofs.Common.{sym, ap, ◌∙◌}
use Rattle.std.specs.Prelude.{Bool, ◌&&◌, not, eqb, leb}
use Rattle.name_place.proofs.PlaceLaws.{text_short, placed_nowhere, session_number, session_low, placed_session, listed_low, placed_listed}
use Rattle.name_place.proofs.name_place.Goals as goal

pub returns-then-length-eq0 : goal.returns-then-length-eq0
returns-then-length-eq0 c =
    placed_nowhere c.args.words.now c.args.bytes.now c.args.names.now (not (eqb c.args.whose 0)) c.args.number c.name_text-length.ensures c.if-length-eq0.true

pub place_in-requires : goal.place_in-requires
place_in-requires c = (
  listed_low c.args.words.now c.args.bytes.now c.args.names.now (not (eqb c.args.whose 0)) c.args.number c.name_text-length.ensures c.if-length-eq0.false
      (sym (c.is_listed.ensures ∙ ap (λ (b : Bool). b && leb 25 c.args.number) c.from.ensures) ∙ c.if-is_listed.true),
  text_short c.args.words.now c.args.bytes.now c.args.names.now (not (eqb c.args.whose 0)) c.args.number c.name_text-length.ensures,
)

pub returns-then-is_listed : goal.returns-then-is_listed
returns-then-is_listed c =
    placed_listed c.args.words.now c.args.bytes.now c.args.names.now (not (eqb c.args.whose 0)) c.args.number c.name_text-length.ensures c.if-length-eq0.false
    (sym (c.is_listed.ensures ∙ ap (λ (b : Bool). b && leb 25 c.args.number) c.from.ensures) ∙ c.if-is_listed.true) c.place_in.ensures

pub overflow_sub-number-2 : goal.overflow_sub-number-2
overflow_sub-number-2 c =
    session_number c.args.words.now c.args.bytes.now c.args.names.now (not (eqb c.args.whose 0)) c.args.number c.name_text-length.ensures c.if-length-eq0.false
    (sym (c.is_listed.ensures ∙ ap (λ (b : Bool). b && leb 25 c.args.number) c.from.ensures) ∙ c.if-is_listed.false)

pub place_in-requires-2 : goal.place_in-requires-2
place_in-requires-2 c = (
  session_low c.args.words.now c.args.bytes.now c.args.names.now (not (eqb c.args.whose 0)) c.args.number c.name_text-length.ensures c.if-length-eq0.false
      (sym (c.is_listed.ensures ∙ ap (λ (b : Bool). b && leb 25 c.args.number) c.from.ensures) ∙ c.if-is_listed.false),
  text_short c.args.words.now c.args.bytes.now c.args.names.now (not (eqb c.args.whose 0)) c.args.number c.name_text-length.ensures,
)

pub returns : goal.returns
returns c =
    placed_session c.args.words.now c.args.bytes.now c.args.names.now (not (eqb c.args.whose 0)) c.args.number c.name_text-length.ensures c.if-length-eq0.false
    (sym (c.is_listed.ensures ∙ ap (λ (b : Bool). b && leb 25 c.args.number) c.from.ensures) ∙ c.if-is_listed.false) c.place_in-2.ensures
