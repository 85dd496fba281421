use mathlib.Core.Path.{ap, ◌∙◌}
use mathlib.Core.List.{[], ◌∷◌}
use Prim.Native.Nat.{ℕ, ◌+◌}
use native.Mathlib.Omega.{arith}
use Rattle.definition.specs.Sheet.{rows}
use Rattle.definition.specs.Classes.{method_of}
use Rattle.definition.specs.Answer.{raised_function}
use Rattle.after.specs.Inherited.{methods_in}
use Rattle.store.specs.Stored.{store_of}
use Rattle.outside.specs.Words.{over}
use Rattle.entry_classes.proofs.ParamLaws.{params_few}
use Rattle.entry_classes.proofs.method_of.Goals as goal

pub overflow_cast-result : goal.overflow_cast-result
overflow_cast-result c =
    let o = store_of (record { used = 0; calls = 0 }) c.args.source.results.now [] in
    omega (
      arith,
      (c.find_method-found.ensures (record { used = 0; calls = 0 }) []).params_are,
      params_few c.args.source.outside.now (λ j. omega (arith, c.args.source.fit j)) c.args.source.sheet.now c.args.source.few o
          (rows c.args.source.sheet.now) (256 + c.args.row) c.args.name,
    )

pub returns : goal.returns
returns c =
    λ o q.
    let tells = c.find_method-found.ensures o q in
    ap (λ (f : ℕ). c.args.name ∷ f ∷ c.find_method-found.result.params ∷ []) (c.raised_function.ensures ∙ ap (raised_function c.args.source.base) tells.fun_is)
    ∙ ap (λ (p : ℕ). c.args.name ∷ raised_function c.args.source.base (method_of c.args.name (methods_in (over c.args.source.outside.now)
    c.args.source.sheet.now (store_of o c.args.source.results.now q) (rows c.args.source.sheet.now) (256 + c.args.row))).fun ∷ p ∷ []) tells.params_are
