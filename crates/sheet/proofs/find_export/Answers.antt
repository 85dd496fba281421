use Rattle.std.proofs.Common.{◌≡◌, ◌∙◌, Some, rules}
use Rattle.std.specs.Option.{MatchOption}
use Rattle.sheet.proofs.FindLaws.{found_in, export_found, seen_own, seen_other}
use Rattle.sheet.proofs.find_export.Goals as goal

pub returns-then-unit-u : goal.returns-then-unit-u
returns-then-unit-u c = seen_own c.args.sheet.now c.args.u c.args.i c.args.n c.word-unit.result c.word-unit.ensures c.if-unit-u.true

pub returns : goal.returns
returns c =
    let s = c.args.sheet.now in
    let w = c.word-unit.result in
    let h : MatchOption c.first_named.result (c.or_else.result ≡ found_in s 4 c.args.n w) (λ x. c.or_else.result ≡ Some x) = search rules in
    let g : MatchOption c.or_else.result (c.or_else-2.result ≡ found_in s 8 c.args.n w) (λ x. c.or_else-2.result ≡ Some x) = search rules in
    export_found s c.args.n w _ _ _ c.first_named.ensures h g ∙ seen_other s c.args.u c.args.i c.args.n w c.word-unit.ensures c.if-unit-u.false
