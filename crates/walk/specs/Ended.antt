-- An ended walk as the machine's state, with the words that it left in the buffers.
use Rattle.std.specs.Prelude.{List, ℕ}
use Rattle.machine.specs.Machine.{State}
use Rattle.ast.specs.Refused.{refusal_in}
use Rattle.symbols.specs.OpenScopes.{scopes_of}
use Rattle.store.specs.Stored.{store_of}
use Rattle.walk.specs.declared.state.Walk.{Walk}

-- the state that a walk ended in
abbrev pub ended : Walk → List ℕ → List ℕ → List ℕ → State
ended w entries results nodes = record {
  scopes = scopes_of w.env entries;
  store = store_of w.store results nodes;
  refusal = refusal_in w.done;
}
