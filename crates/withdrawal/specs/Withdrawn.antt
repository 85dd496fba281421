-- What a withdrawal promises, for every session.
use Rattle.std.specs.Prelude.{◌≡◌, true, List, ℕ, get_or}
use Rattle.session.specs.Session.{names_shown}
use Rattle.session.specs.Words.{whole, session_in, session_fits}
use Rattle.session.specs.Withdraw.{withdrawn, withdraw_outcome, withdraw_words}
use Rattle.answer.specs.declared.Answer.{Answer}
use Rattle.answer.specs.Tells.{Tells}

-- Of session words w, which are then w', and bytes n, which stay:
pub record Withdrawn (w n : List ℕ) (x : Answer) (w' : List ℕ) : Type 0 where
  -- the answer is document 02's outcome,
  pub tells : Tells (withdraw_outcome whole w n) x
  -- the session has the words after it,
  pub session : w' ≡ withdraw_words whole w n
  -- and one that passed question 23 passes it again, is without its latest entry, and shows as many names as a full recount finds.
  pub fits : session_fits whole w n ≡ true → session_fits whole w' n ≡ true
  pub held : session_fits whole w n ≡ true → session_in whole w' n ≡ withdrawn (session_in whole w n)
  pub shown : session_fits whole w n ≡ true → get_or w' 2 0 ≡ names_shown (session_in whole w' n)
