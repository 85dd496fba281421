use Rattle.std.proofs.Common.{refl, sym, ap, ◌∙◌}
use Rattle.machine.specs.Machine.{Scopes, lookup_slot, lookup_global, open_functions, four_words, seen_in}
use Rattle.definition.specs.Meaning.{is_declared, row_of, owner_of}
use Rattle.symbols.specs.OpenDecls.{means, meant}
use Rattle.symbols.proofs.DeclLaws.{means_declared}
use Rattle.walk.specs.WalkState.{state_of, scopes_in, stored_of}
use Rattle.walk.proofs.VisitLaws.{ident_yes, ident_no}
use Rattle.idents.proofs.IdentLaws.{captured_slot}
use Rattle.idents.proofs.resolve_ident.Goals as goal

pub returns-in_default-clause-step : goal.returns-in_default-clause-step
returns-in_default-clause-step c =
    λ O. ident_no O c.args.walk.now.sheet.now c.args.row (state_of c.args.walk.now) refl c.requires.1 _ _ c.word-name.ensures c.lookup-found.ensures.0 _ c.undeclared.ensures
    (ap (λ o. is_declared (meant o)) c.in_default.is) refl

pub returns-clause-step : goal.returns-clause-step
returns-clause-step c =
    let s = c.args.walk.now.sheet.now in
    let p = scopes_in c.args.walk.now in
    let o = stored_of c.args.walk.now in
    let d = c.in-Some.decl in
    let held = c.lookup-found.ensures.1 d c.in-Some.is in
    let is = sym (ap meant c.in-Some.is) ∙ c.lookup-found.ensures.0 in
    let captured = c.capture.ensures.step ∙ captured_slot d p.fun (lookup_slot p c.word-name.result) (row_of (means d)) (owner_of (means d)) (open_functions s p) o in
    let seen = rw (c.capture.ensures.same.sheet, ap (λ (q : Scopes). q.fun) c.capture.ensures.scopes) at c.seen_in-x.ensures (lookup_slot p c.word-name.result) (lookup_global p c.word-name.result) in
    rw c.capture.ensures.scopes λ O. ident_yes O s c.args.row (state_of c.args.walk.now) refl c.requires.1 _ _ c.word-name.ensures is _ _ _ _ _ _
    refl refl c.lookup-found.ensures.2 (means_declared d) (rw held.0 at captured) (rw (held.0, held.1) at seen) (c.write_use.ensures _ _)
