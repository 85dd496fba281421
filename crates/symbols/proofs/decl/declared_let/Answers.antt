use Rattle.definition.specs.Meaning.{global, function, toplevel, variable}
use native.Mathlib.Omega.{arith}
use mathlib.Core.Path.{refl, sym, ◌∙◌}
use borrow.Author.Tests.{eqb-true, eqb-false}
use Rattle.symbols.specs.OpenScopes.{scopes_of}
use Rattle.symbols.proofs.DeclLaws.{made, let_constant, let_local, let_function, let_mutable, let_value}
use Rattle.definition.specs.Sheet.{b}
use Rattle.definition.specs.Scope.{declared}
use mathlib.Core.Path.{◌≡◌}
use Prim.Native.Nat.{◌≤◌}
use Rattle.symbols.proofs.decl.declared_let.Goals.{else-b-eq0-via-then-b-eq0+else-is_kind, else-b-eq0-via-else-b-eq0}
use Rattle.symbols.proofs.decl.declared_let.Goals as goal

pub returns-then-b-gt-MUTABLE : goal.returns-then-b-gt-MUTABLE
returns-then-b-gt-MUTABLE c =
    λ v. made c.args.sheet.now c.args.row (scopes_of c.args.env v) _ (global _ 0)
    (let_constant c.args.sheet.now c.args.row _ c.requires
    (omega (arith, c.word-b.ensures, c.if-b-gt-MUTABLE.true)))
    (rw c.word-b.ensures (record { meaning = refl; next_slot = refl; next_number = refl }))

pub returns-then-word-ne-UNIT_FUNCTION : goal.returns-then-word-ne-UNIT_FUNCTION
returns-then-word-ne-UNIT_FUNCTION c =
    λ v. made c.args.sheet.now c.args.row (scopes_of c.args.env v) _ (variable _ _)
    (let_local c.args.sheet.now c.args.row _ c.requires
    (omega (arith, c.word-b.ensures, c.if-b-gt-MUTABLE.false))
    (λ e. c.if-word-ne-UNIT_FUNCTION.true (c.word.ensures ∙ e)))
    (record { meaning = refl; next_slot = refl; next_number = refl })

pub returns-then-is_kind : goal.returns-then-is_kind
returns-then-is_kind c =
    λ v. made c.args.sheet.now c.args.row (scopes_of c.args.env v) _ (function _)
    (let_function c.args.sheet.now c.args.row _ c.requires
    (sym c.word-b.ensures ∙ c.if-b-eq0.true) (sym c.word.ensures ∙ c.if-word-ne-UNIT_FUNCTION.false)
    (rw (← c.word-value.ensures) (eqb-true _ 52 (sym c.is_kind.ensures ∙ c.if-is_kind.true))))
    (rw (c.word-then-is_kind.ensures, c.word-value.ensures) (record { meaning = refl; next_slot = refl; next_number = refl }))

pub returns : goal.returns
returns c =
    let s = c.args.sheet.now in
    let r = c.args.row in
    let low : b s r ≤ 1 = omega (arith, c.word-b.ensures, c.if-b-gt-MUTABLE.false) in
    let unit = sym c.word.ensures ∙ c.if-word-ne-UNIT_FUNCTION.false in
    let let_unit : declared s r c.args.env.fun.0 ≡ toplevel r = elim c.else-b-eq0.branch [
      | else-b-eq0-via-then-b-eq0+else-is_kind w ↦
          let_value s r _ c.requires low unit (rw (← c.word-value.ensures) (eqb-false _ 52 (sym w.is_kind.ensures ∙ w.if-is_kind.false)))
      | else-b-eq0-via-else-b-eq0 w ↦ let_mutable s r _ c.requires low unit (λ e. w.if-b-eq0.false (c.word-b.ensures ∙ e))
    ] in
    λ v. made s r (scopes_of c.args.env v) _ (toplevel _) let_unit (record { meaning = refl; next_slot = refl; next_number = refl })
