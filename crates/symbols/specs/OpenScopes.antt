-- The program's counters and buffer of entries as the machine's open scopes.
use Rattle.std.specs.Prelude.{List, ℕ}
use Rattle.machine.specs.Machine.{Scopes}
use Rattle.symbols.specs.declared.env.Env.{Env}

-- the open scopes of counters e and a buffer v
abbrev pub scopes_of : Env → List ℕ → Scopes
scopes_of e v = record { count = e.count; slot = e.slot; fun = e.fun.0; next_global = e.globals; env = v }
