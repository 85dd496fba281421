-- A small run with withdrawals, computed: the entries of Samples, taken back and entered again.
use Rattle.std.specs.Prelude.{◌≡◌, refl, true, false, List, [], ◌∷◌, ◌++◌, map, ℕ, set, drop}
use Rattle.definition.specs.Bytes.{bytes}
use Rattle.definition.specs.Answer.{eight}
use Rattle.definition.specs.Meaning.{named, class, global}
use Rattle.definition.specs.Outside.{core}
use Rattle.definition.specs.Outcome.{report}
use Rattle.session.specs.Session.{visible}
use Rattle.session.specs.Words.{session_in, session_fits, name_text}
use Rattle.session.specs.Withdraw.{has_child, withdraw_no, withdraw_outcome, withdraw_words}
use Rattle.session.specs.Runs.{Request, entry, withdrawal, Effect, accepted, withdrew, refusal, after_run, effects, fresh_memory, entries_left}
use Rattle.session.specs.Samples.{little, told, sheet0, names0, sheet1, names1, sheet2, sheet3, words2, bytes2}

-- The second entry is withdrawn: the counts are those of the first alone, but for the globals, and all rows still stand. B is not on show.
abbrev pub words3 : List ℕ
words3 = 2 ∷ 1 ∷ 12 ∷ 7 ∷ 14 ∷ 3 ∷ 1 ∷ 3 ∷ drop 8 words2

pub withdrawn_words : withdraw_words little words2 bytes2 ≡ words3
withdrawn_words = refl

pub withdrawn_told : report (withdraw_outcome little words2 bytes2) ≡ map eight ((0 ∷ []) ∷ [])
withdrawn_told = refl

pub withdrawn_fits : session_fits little words3 bytes2 ≡ true
withdrawn_fits = refl

-- f is function 18 of the first entry again, and A, class 258, without a child; B has no number
pub withdrawn_seen : told words3 bytes2 sheet3 (bytes "f\n") ≡ map eight ((0 ∷ 0 ∷ 0 ∷ 0 ∷ 0 ∷ 2 ∷ 2 ∷ []) ∷ (2 ∷ 20 ∷ []) ∷ (5 ∷ 1 ∷ 18 ∷ []) ∷ [])
withdrawn_seen = refl

pub child_marks : has_child (session_in little words2 bytes2) 258 ∷ has_child (session_in little words3 bytes2) 258 ∷ [] ≡ true ∷ false ∷ []
child_marks = refl

pub withdrawn_text : name_text little words3 bytes2 [] false 32 ∷ name_text little words3 bytes2 [] false 31 ∷ [] ≡ [] ∷ bytes "b" ∷ []
withdrawn_text = refl

-- the first is withdrawn too; then none is left, and a session that says too many names, or shows too many, is bad
pub both_withdrawn : withdraw_words little words3 bytes2 ≡ 2 ∷ 0 ∷ 9 ∷ 0 ∷ 0 ∷ 0 ∷ 0 ∷ 0 ∷ drop 8 words2
both_withdrawn = refl

pub none_left : withdraw_no little (2 ∷ 0 ∷ 9 ∷ 0 ∷ 0 ∷ 0 ∷ 0 ∷ 0 ∷ drop 8 words2) bytes2 ≡ 25
none_left = refl

pub bad_session : map (λ w. withdraw_no little w bytes2) (set words2 3 9 ∷ set (set words2 1 0) 3 9 ∷ set words2 2 14 ∷ []) ≡ 23 ∷ 23 ∷ 23 ∷ []
bad_session = refl

pub kept_words_lem : withdraw_words little (set words2 3 9) bytes2 ≡ set words2 3 9
kept_words_lem = refl

-- The run: two entries, a refused one, the second withdrawn, and entered again from global 3 on, since 0 to 2 are used.
abbrev pub requests : List Request
requests =
    entry sheet0 names0 480 ∷ entry sheet1 names1 480 ∷ entry sheet2 (bytes "c\nn\nd\n") 480 ∷ withdrawal ∷ entry (set sheet1 6 3) names1 480 ∷ []

-- B is class 2,306 once more, and f global 3
abbrev pub words5 : List ℕ
words5 = set (set words2 0 4) 36 3

pub run_memory : after_run little (fresh_memory little) requests ≡ record { words = words5; bytes = bytes2 }
run_memory = refl

pub run_visible : visible (session_in little words5 bytes2)
    ≡ named 30 (global 3 0) ∷ named 32 (class 2306) ∷ named 31 (global 0 1) ∷ named 25 (class 258) ∷ core.names
run_visible = refl

-- what each request did, as a number: 1 accepted, 2 withdrew, 3 refused
abbrev pub kinds : List Effect → List ℕ
kinds [] = []
kinds (accepted e ∷ xs) = 1 ∷ kinds xs
kinds (withdrew ∷ xs) = 2 ∷ kinds xs
kinds (refusal ∷ xs) = 3 ∷ kinds xs

-- three withdrawals more: one too many
pub run_effects : kinds (effects little (fresh_memory little) (requests ++ withdrawal ∷ withdrawal ∷ withdrawal ∷ [])) ≡ 1 ∷ 1 ∷ 3 ∷ 2 ∷ 1 ∷ 2 ∷ 2 ∷ 3 ∷ []
run_effects = refl

pub run_left : entries_left (effects little (fresh_memory little) requests) ≡ (session_in little words5 bytes2).entries
run_left = refl
