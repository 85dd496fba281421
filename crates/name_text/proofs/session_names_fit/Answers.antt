use mathlib.Core.Path.{refl, sym}
use native.Mathlib.Omega.{arith}
use lib.Seq.{length-take-le}
use Rattle.name_text.proofs.TextLaws.{names_first, names_second, names_third}
use Rattle.name_text.proofs.session_names_fit.Goals as goal

pub slice_bounds-same_name-end : goal.slice_bounds-same_name-end
slice_bounds-same_name-end c =
    sym (length-take-le 168 c.args.bytes.now (omega (arith, c.requires.0, c.requires.1)))

pub returns-then-not-same_name : goal.returns-then-not-same_name
returns-then-not-same_name c =
    names_first c.args.words.now c.args.bytes.now c.requires.2 c.same_name.ensures refl c.if-not-same_name.true

pub returns-then-not-names_fit : goal.returns-then-not-names_fit
returns-then-not-names_fit c =
    names_second c.args.words.now c.args.bytes.now c.requires.2 c.same_name.ensures c.names_fit.ensures
    c.if-not-same_name.false c.if-not-names_fit.true

pub returns : goal.returns
returns c =
    names_third c.args.words.now c.args.bytes.now c.requires.2 c.same_name.ensures c.names_fit.ensures
    c.if-not-same_name.false c.if-not-names_fit.false c.count_names.ensures c.word_at.ensures
