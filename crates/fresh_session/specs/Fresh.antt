-- A fresh session in lent words and bytes of any length.
use Rattle.std.specs.Prelude.{◌≡◌, true, List, map, ℕ, ◌≤◌, get_or, set, replicate}
use Rattle.definition.specs.Basics.{from}
use Rattle.session.specs.Session.{fresh}
use Rattle.session.specs.Words.{whole, fixed_bytes, session_size, session_in, session_fits}

-- byte i: of the fixed names, or 0
abbrev pub fresh_byte : ℕ → ℕ
fresh_byte i = get_or fixed_bytes i 0

-- k bytes
abbrev pub fresh_in : ℕ → List ℕ
fresh_in k = map fresh_byte (from 0 k)

-- Of words w, k of them, and bytes n, m of them: every word is 0 but the third, nine names on show; the bytes are the fixed names and zeros; and where
-- there is room for a session, they pass question 23 and hold the fresh one.
pub record Fresh (k m : ℕ) (w n : List ℕ) : Type 0 where
  pub words : w ≡ set (replicate k 0) 2 9
  pub bytes : n ≡ fresh_in m
  pub fits : session_size whole ≤ k → 32936 ≤ m → session_fits whole w n ≡ true
  pub held : session_size whole ≤ k → 32936 ≤ m → session_in whole w n ≡ fresh
