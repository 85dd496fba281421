-- A walk as the machine's state.
use Rattle.std.specs.Prelude.{◌≡◌, ℕ, Result}
use Rattle.machine.specs.Machine.{State, Scopes, Store}
use Rattle.definition.specs.Question.{none}
use Rattle.ast.specs.Refused.{refusal_in}
use Rattle.ast.specs.declared.question.Refusal.{Refusal as Refused}
use Rattle.symbols.specs.OpenScopes.{scopes_of}
use Rattle.store.specs.Stored.{store_of}
use Rattle.walk.specs.declared.state.Walker.{Walker}

-- the open scopes, and what is stored
abbrev pub scopes_in : Walker → Scopes
scopes_in w = scopes_of w.env w.entries.now

abbrev pub stored_of : Walker → Store
stored_of w = store_of w.store w.results.now w.nodes.now

-- the state of a walk
abbrev pub state_of : Walker → State
state_of w = record { scopes = scopes_in w; store = stored_of w; refusal = none }

-- the state of a walk after a routine that may have refused
abbrev pub after : {A : Type 0} → Walker → Result A Refused → State
after w r = record { scopes = scopes_in w; store = stored_of w; refusal = refusal_in r }

-- The walk b reads what a read, and still has the buffers that a was lent.
pub record Same (a b : Walker) : Type 0 where
  pub sheet : b.sheet ≡ a.sheet
  pub outside : b.outside ≡ a.outside
  pub classes : b.classes ≡ a.classes
  pub entries : b.entries.ghost_name ≡ a.entries.ghost_name
  pub results : b.results.ghost_name ≡ a.results.ghost_name
  pub nodes : b.nodes.ghost_name ≡ a.nodes.ghost_name

-- a state refused by question n, at row r, with name m
abbrev pub refused_by : ℕ → ℕ → ℕ → State → State
refused_by n r m x = record { scopes = x.scopes; store = x.store; refusal = record { number = n; at = r; name = m } }
