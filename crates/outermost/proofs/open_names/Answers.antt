use mathlib.Core.Path.{◌≡◌, refl, ap, ◌∙◌}
use Prim.Native.Nat.{ℕ, ◌-◌}
use native.Mathlib.Omega.{arith}
use Rattle.definition.specs.Sheet.{word}
use Rattle.outside.specs.Words.{name_at}
use Rattle.machine.specs.Machine.{no_scopes, open_names}
use Rattle.symbols.specs.OpenScopes.{scopes_of}
use Rattle.outermost.proofs.OpenedLaws.{names_from, names_last, names_more, names_all}
use Rattle.outermost.proofs.open_names.Goals as goal

pub loop-i-init : goal.loop-i-init
loop-i-init c =
    let n = word c.args.outside.now 0 0 in (
      rw (c.word-globals.ensures, c.word-i.ensures) (names_last c.args.sheet.now c.args.outside.now n (no_scopes c.args.sheet.now c.args.entries.now)),
      refl,
      omega (arith, c.word-i.ensures),
      omega (arith, c.word-i.ensures),
    )

pub loop-i-preserved : goal.loop-i-preserved
loop-i-preserved c = (
  c.define-env.ensures (name_at c.args.outside.now (c.loop-i.i - 1)).means (c.visible_at.ensures _)
      ∙ names_more c.args.sheet.now c.args.outside.now c.loop-i.i _ (no_scopes c.args.sheet.now c.args.entries.now) (scopes_of c.loop-i.env c.loop-i.entries)
      c.loop-i-test.true c.loop-i.invariant.2 c.loop-i.invariant.0 c.word-name.ensures,
  omega (arith, c.define-env.auto.entries, c.loop-i.invariant.1),
  omega (arith, c.loop-i.invariant.2),
  omega (arith, c.loop-i-test.true),
)

pub returns : goal.returns
returns c =
    names_all c.args.sheet.now c.args.outside.now c.loop-i.i _ (no_scopes c.args.sheet.now c.args.entries.now) c.loop-i-test.false c.loop-i.invariant.2
    c.loop-i.invariant.3 refl c.loop-i.invariant.0
