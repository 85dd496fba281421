-- An entry tried over a session: from questions 5 to 22 over what the session is to it, to the outcome with 24.
use mathlib.Core.Path.{◌≡◌, refl, sym, ap, ◌∙◌, subst}
use mathlib.Core.Bool.{Bool, true, false}
use mathlib.Core.List.{List, [], ◌∷◌, ◌++◌}
use Prim.Native.Nat.{ℕ, ◌-◌, ◌*◌, ◌≤◌}
use native.Mathlib.Omega.{arith}
use lib.Dec.{eqb}
use lib.ListN.{length, get_or, replicate, length-append, length-map}
use borrow.Author.Tests.{eq-eqb, ne_eqb, eqb-true, eqb-false}
use Rattle.definition.specs.Basics.{concat_map, total, from}
use Rattle.definition.specs.Names.{Name}
use Rattle.definition.specs.Sheet.{Sheet, word}
use Rattle.definition.specs.Outside.{Outside, based}
use Rattle.definition.specs.Scope.{history}
use Rattle.definition.specs.Question.{Refusal, refusal}
use Rattle.definition.specs.Answer.{answers, raised}
use Rattle.definition.specs.Outcome.{Outcome, refused, asked, buffer, rows_of_words}
use Rattle.definition.proofs.Format.Accepted.{asked_accepted, good_asked, rows_back, flat_length}
use Rattle.machine.specs.Machine.{State}
use Rattle.machine.specs.Reads.{walk_refusal}
use Rattle.machine.proofs.AfterCalls.{refused_in_walk}
use Rattle.outside.proofs.RecordLaws.{over_base}
use Rattle.outside.specs.Words.{name_at, over}
use Rattle.answer.specs.declared.Answer.{Answer}
use Rattle.answer.specs.Tells.{Tells}
use Rattle.finish.specs.Settled.{Settled}
use Rattle.finish.proofs.SettledLaws.{zeros_words}
use Rattle.raise.proofs.BasedLaws.{asked_based}
use Rattle.entry_walk.specs.Laid.{BodyWalked}
use Rattle.session.specs.Session.{Accepted, Session, outside_of, member_count, within}
use Rattle.session.specs.Enter.{laid_by, classes_by}
use Rattle.session.specs.Words.{whole, session_in}
use Rattle.session.proofs.SessionLaws.{from_length, runs_of}
use Rattle.session.proofs.CountLaws.{entry_count, within_with}
use Rattle.entry_ready.specs.Over.{entry_of, asked_over, AskedOver}
use Rattle.session_room.specs.declared.Added.{Added}
use Rattle.session_room.specs.Room.{room_for}
use Rattle.try_entry.specs.declared.Tried.{Tried}
use Rattle.try_entry.specs.Tried.{Adds, AddedBy, Over, TriedOver}

-- as many names stand outside as rows before the first record
pub names_none : (o : List ℕ) {k : ℕ} → k ≡ word o 0 0 → k ≡ 0 → 0 ≡ length (over o).names
unfolding over
names_none o {k} e z = sym (length-map (from 1 (word o 0 0 - 1)) (name_at o) ∙ from_length 1 (word o 0 0 - 1) ∙ omega (arith, e))

pub names_some : (o : List ℕ) {k : ℕ} → k ≡ word o 0 0 → k - 1 ≡ length (over o).names
unfolding over
names_some o {k} e = sym (length-map (from 1 (word o 0 0 - 1)) (name_at o) ∙ from_length 1 (word o 0 0 - 1) ∙ ap (λ (i : ℕ). i - 1) (sym e))

module _ {w o : List ℕ} {new bytes : ℕ} {n : List ℕ} {ms : List Name} (h : Over w o new bytes n ms) where
  abbrev S : Session
  S = session_in whole w n

  abbrev b : ℕ
  b = 2048 * get_or w 1 0

  -- raised by 2,048 for each entry, what stands in the words is what the session is to its next entry
  pub based_is : based (over o) (2048 * get_or w 1 0) ≡ outside_of (session_in whole w n)
  based_is = ap (λ (P : Outside). based P b) h.outside ∙ ap (λ (k : ℕ). based (outside_of S) k) (ap (λ (k : ℕ). 2048 * k) (sym (entry_count whole w n (runs_of whole w n h.fits))))

  module _ {t : Sheet} {lent : ℕ} {x : Answer} {out : List ℕ} (s : Settled (based (over o) (2048 * get_or w 1 0)) t lent x out) where
    tells : Tells (asked (outside_of S) lent t) x
    tells = subst (λ (P : Outside). Tells (asked P lent t) x) based_is s.tells

    words : out ≡ buffer lent (asked (outside_of S) lent t)
    words = subst (λ (P : Outside). out ≡ buffer lent (asked P lent t)) based_is s.words

    -- the outcome is that of questions 5 to 22
    as_asked : asked_over S t ms lent ≡ asked (outside_of S) lent t → AskedOver S t ms lent x out
    as_asked e = record { tells = subst (λ (p : Outcome). Tells p x) (sym e) tells; words = words ∙ ap (buffer lent) (sym e) }

    pub tried_no : (x.number ≡ 0 → ⊥) → AskedOver S t ms lent x out
    tried_no f = as_asked (rw (ne_eqb (asked (outside_of S) lent t).number 0 (λ e. f (tells.number ∙ e))))

    module _ (z : x.number ≡ 0) where
      accepted : (asked (outside_of S) lent t).number ≡ 0
      accepted = sym tells.number ∙ z

      pub tried_yes : within (record { globals = (asked (outside_of S) lent t).globals; entries = S.entries ++ entry_of S t ms lent ∷ [] }) ≡ true → AskedOver S t ms lent x out
      tried_yes e = as_asked (rw (eq-eqb (asked (outside_of S) lent t).number 0 accepted, e))

      pub tried_full : {y : Answer} {v : List ℕ} → within (record { globals = (asked (outside_of S) lent t).globals; entries = S.entries ++ entry_of S t ms lent ∷ [] }) ≡ false
          → Tells (refused 24) y → v ≡ replicate lent 0 → AskedOver S t ms lent y v
      tried_full {y} {v} e p q =
          let d : asked_over S t ms lent ≡ refused 24 = rw (eq-eqb (asked (outside_of S) lent t).number 0 accepted, e) in
          record {
            tells = subst (λ (r : Outcome). Tells r y) (sym d) p;
            words = zeros_words lent (asked_over S t ms lent) v (ap (λ (r : Outcome). r.rows) d) q;
          }

  -- question 24, by what is added
  pub room_is : (g : ℕ) (e : Accepted) (a : Added) → Adds e a → within (record { globals = g; entries = S.entries ++ e ∷ [] }) ≡ room_for w a
  room_is g e a d = within_with whole w n (runs_of whole w n h.fits) g e ∙ sym (rw (d.names, d.bytes, d.laid, d.classes, d.members))

-- no question of the walk got a no, where none did
walk_none : (O : Outside) (t : Sheet) → (refusal O t (history O t)).number ≡ 0 → (walk_refusal O t).number ≡ 0
walk_none O t e = go (eqb (walk_refusal O t).number 0) refl
  where
    go : (u : Bool) → eqb (walk_refusal O t).number 0 ≡ u → (walk_refusal O t).number ≡ 0
    go true q = eqb-true (walk_refusal O t).number 0 q
    go false q =
        let f = eqb-false (walk_refusal O t).number 0 q in
        absurd (f (ap (λ (r : Refusal). r.number) (sym (refused_in_walk O t f)) ∙ e))

module _ (o : List ℕ) (b : ℕ) (t : Sheet) (lent : ℕ) {x : Answer} {out : List ℕ} (s : Settled (based (over o) b) t lent x out) (z : x.number ≡ 0) where
  abbrev O : Outside
  O = over o

  plain : (asked O lent t).number ≡ 0
  plain = ap (λ (p : Outcome). p.number) (sym (asked_based O (over_base o) b lent t)) ∙ sym s.tells.number ∙ z

  pub walk_accepted : (walk_refusal (over o) t).number ≡ 0
  walk_accepted = walk_none O t (asked_accepted O lent t plain).0

  -- the answer rows in the words
  pub rows_held : (rows_of_words x.rows out ≡ raised b (answers (over o) t (history (over o) t))) × (8 * x.rows ≤ length out)
  rows_held =
      let rs : List (List ℕ) = (asked (based O b) lent t).rows in
      let are : rs ≡ raised b (answers O t (history O t)) = (asked_accepted (based O b) lent t (sym s.tells.number ∙ z)).2 in (
        ap (λ (k : ℕ). rows_of_words k out) s.tells.rows ∙ ap (rows_of_words (length rs)) s.words ∙ rows_back rs (replicate (lent - 8 * length rs) 0) (good_asked lent (based O b) t).0 ∙ are,
        omega (
          arith,
          s.tells.rows,
          ap length s.words,
          length-append (concat_map (λ r. r) rs) (replicate (lent - 8 * length rs) 0),
          flat_length (good_asked lent (based O b) t).0,
        ),
      )

  -- what is counted is what the entry adds
  pub adds_of : {w : List ℕ} {new bytes : ℕ} {n : List ℕ} {ms : List Name} {v : State} {a : Added} → b ≡ 2048 * get_or w 1 0 → Over w o new bytes n ms
      → BodyWalked (over o) t v → AddedBy (over o) v.scopes.env v.scopes.count out x.rows new bytes a
      → Adds (entry_of (session_in whole w n) t ms lent) a
  adds_of {w} {new} {bytes} {n} {ms} {v} {a} e h d c =
      let is : based O b ≡ outside_of (session_in whole w n) = ap (based O) e ∙ based_is h in
      record {
        names = c.names ∙ h.names;
        bytes = c.sized ∙ h.sized;
        laid = c.laid t b ∙ ap length (d.laid walk_accepted b) ∙ ap (λ (P : Outside). length (laid_by P t)) is;
        classes = c.classes O t b rows_held.0 ∙ ap (λ (P : Outside). length (classes_by P t)) is;
        members = c.members O t b rows_held.0 ∙ ap (λ (P : Outside). total member_count (classes_by P t)) is;
      }

-- The three ways in which a try ends: refused by questions 5 to 22, by 24, or accepted.
module _ (w o : List ℕ) (t : Sheet) (new bytes lent b : ℕ) (e : b ≡ 2048 * get_or w 1 0) {y : Answer} {out : List ℕ} (s : Settled (based (over o) b) t lent y out) where
  settled : Settled (based (over o) (2048 * get_or w 1 0)) t lent y out
  settled = subst (λ (k : ℕ). Settled (based (over o) k) t lent y out) e s

  pub try_refused : {x : Tried} → x.answer ≡ y → (y.number ≡ 0 → ⊥) → TriedOver w o t new bytes lent x out
  try_refused {x} q f =
      record {
        asked = λ n ms h. subst (λ (z : Answer). AskedOver (session_in whole w n) t ms lent z out) (sym q) (tried_no h settled f);
        adds = λ n ms h z. absurd (f (ap (λ (k : Answer). k.number) (sym q) ∙ z));
        room = λ z. absurd (f (ap (λ (k : Answer). k.number) (sym q) ∙ z));
        settled = λ z. absurd (f (ap (λ (k : Answer). k.number) (sym q) ∙ z));
      }

  module _ (z : y.number ≡ 0) {v : State} (d : BodyWalked (over o) t v) {a : Added} (c : AddedBy (over o) v.scopes.env v.scopes.count out y.rows new bytes a) where
    adding : {n : List ℕ} {ms : List Name} → Over w o new bytes n ms → Adds (entry_of (session_in whole w n) t ms lent) a
    adding h = adds_of o b t lent s z e h d c

    pub try_full : {x : Tried} {u : List ℕ} → room_for w a ≡ false → Tells (refused 24) x.answer → u ≡ replicate lent 0 → TriedOver w o t new bytes lent x u
    try_full {x} {u} r p q =
        record {
          asked = λ n ms h. tried_full h settled z (room_is h (asked (outside_of (session_in whole w n)) lent t).globals (entry_of (session_in whole w n) t ms lent) a (adding h) ∙ r) p q;
          adds = λ n ms h k. absurd (omega (arith, p.number, k));
          room = λ k. absurd (omega (arith, p.number, k));
          settled = λ k. absurd (omega (arith, p.number, k));
        }

    pub try_accepted : {x : Tried} → x.answer ≡ y → x.added ≡ a → room_for w a ≡ true → TriedOver w o t new bytes lent x out
    try_accepted {x} q i r =
        record {
          asked = λ n ms h. subst (λ (k : Answer). AskedOver (session_in whole w n) t ms lent k out) (sym q)
              (tried_yes h settled z (room_is h (asked (outside_of (session_in whole w n)) lent t).globals (entry_of (session_in whole w n) t ms lent) a (adding h) ∙ r));
          adds = λ n ms h k. subst (Adds (entry_of (session_in whole w n) t ms lent)) (sym i) (adding h);
          room = λ k. ap (room_for w) i ∙ r;
          settled = λ k. subst (λ (j : Answer). Settled (based (over o) (2048 * get_or w 1 0)) t lent j out) (sym q) settled;
        }
