-- What the exported routine for withdrawals promises, for every session and report words.
use Rattle.std.specs.Prelude.{◌≡◌, true, List, ℕ, get_or}
use Rattle.report.specs.Report.{fitted, report_line}
use Rattle.session.specs.Session.{names_shown}
use Rattle.session.specs.Words.{whole, session_in, session_fits}
use Rattle.session.specs.Withdraw.{withdrawn, withdraw_outcome, withdraw_words}

-- Of session words w, which then are w', and bytes n, which stay as they are, and `room` report words, which then are r:
pub record SessionWithdrawn (w n : List ℕ) (room k : ℕ) (r w' : List ℕ) : Type 0 where
  -- the number returned is that of document 02's outcome,
  pub number : k ≡ (withdraw_outcome whole w n).number
  -- the report words hold its first line as far as they go, and zeros to their end,
  pub report : r ≡ fitted room (report_line (withdraw_outcome whole w n))
  -- the session has the words after it,
  pub session : w' ≡ withdraw_words whole w n
  -- and one that passed question 23 passes it again, is without its latest entry, and shows as many names as a full recount finds.
  pub fits : session_fits whole w n ≡ true → session_fits whole w' n ≡ true
  pub held : session_fits whole w n ≡ true → session_in whole w' n ≡ withdrawn (session_in whole w n)
  pub shown : session_fits whole w n ≡ true → get_or w' 2 0 ≡ names_shown (session_in whole w' n)
