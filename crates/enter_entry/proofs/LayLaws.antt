-- An accepted entry laid over its session, run by run.
use mathlib.Core.Path.{◌≡◌, refl, sym, ap, ◌∙◌, subst}
use mathlib.Core.Logic.{inl}
use mathlib.Core.Bool.{true}
use mathlib.Core.List.{List, [], ◌∷◌}
use Prim.Native.Nat.{ℕ, suc, ◌+◌, ◌-◌, ◌*◌, ◌<◌, ◌≤◌}
use native.Mathlib.Omega.{arith}
use lib.Dec.{eqb}
use lib.ListN.{length, get_or, set}
use lib.Seq.{sets}
use borrow.Author.Tests.{eq-eqb, ne_eqb, le-leb, lt-leb}
use Rattle.definition.specs.Basics.{when◌then◌else◌, concat_map}
use Rattle.definition.specs.Names.{Name}
use Rattle.definition.specs.Sheet.{Sheet}
use Rattle.definition.specs.Meaning.{Named}
use Rattle.definition.specs.Outside.{Outside, based}
use Rattle.definition.specs.Walk.{Event, enter, leave, loop, declare, bring, visit}
use Rattle.definition.specs.Scope.{Moment, history}
use Rattle.definition.specs.Slots.{final_globals}
use Rattle.definition.specs.Question.{Open, Refusal, open_on, ask_event, until_no}
use Rattle.machine.specs.Machine.{State}
use Rattle.machine.specs.Reads.{walk_refusal}
use Rattle.machine.proofs.Words.{sets_out}
use Rattle.outside.specs.Words.{over}
use Rattle.answer.specs.declared.Answer.{Answer}
use Rattle.entry_walk.specs.Laid.{BodyWalked, left_from}
use Rattle.session.specs.Session.{Class, Accepted, Session, outside_of}
use Rattle.session.specs.Enter.{laid_by, classes_by, next_global}
use Rattle.session.specs.Words.{whole, entry_place, laid_place, class_place, member_place, laid_words, class_words, member_words, counts_with, words_with, session_in}
use Rattle.session_room.specs.declared.Added.{Added}
use Rattle.session_room.specs.Room.{room_for, counts_added}
use Rattle.entry_ready.specs.Over.{entry_of, asked_over, AskedOver, words_after}
use Rattle.try_entry.specs.declared.Tried.{Tried}
use Rattle.try_entry.specs.Tried.{Adds, Over, TriedOver}
use Rattle.try_entry.proofs.TryLaws.{based_is}
use Rattle.enter_entry.specs.EnteredOver.{EnteredOver, leaving, kept_words}

-- the counts are below all runs
below : (w : List ℕ) (m c l : ℕ) (ms cs ls : List ℕ) → 8 ≤ m → 8 ≤ c → 8 ≤ l → (i : ℕ) → i < 8 → get_or (sets (sets (sets w m ms) c cs) l ls) i 0 ≡ get_or w i 0
below w m c l ms cs ls hm hc hl i h =
    sets_out ls (sets (sets w m ms) c cs) l i (inl (omega arith)) ∙ sets_out cs (sets w m ms) c i (inl (omega arith)) ∙ sets_out ms w m i (inl (omega arith))

-- room for it is not changed by what is written past the counts
room_same : (w v : List ℕ) (a : Added) → ((i : ℕ) → i < 8 → get_or v i 0 ≡ get_or w i 0) → room_for v a ≡ room_for w a
room_same w v a h = rw (h 1 (omega arith), h 3 (omega arith), h 4 (omega arith), h 5 (omega arith), h 6 (omega arith), h 7 (omega arith))

module _ (w : List ℕ) (e : Accepted) where
  -- the words with the three runs of entry e
  abbrev pub runs : List ℕ
  runs =
      sets (sets (sets w (member_place whole (get_or w 7 0)) (concat_map member_words e.classes)) (class_place whole (get_or w 6 0)) (concat_map class_words e.classes))
      (laid_place whole (get_or w 5 0)) (concat_map laid_words e.laid)

  same : (i : ℕ) → i < 8 → get_or runs i 0 ≡ get_or w i 0
  same =
      below w (member_place whole (get_or w 7 0)) (class_place whole (get_or w 6 0)) (laid_place whole (get_or w 5 0)) (concat_map member_words e.classes) (concat_map class_words e.classes)
      (concat_map laid_words e.laid) (omega arith) (omega arith) (omega arith)

  pub room_kept : (a : Added) {v : List ℕ} → v ≡ runs → room_for w a ≡ true → room_for v a ≡ true
  room_kept a {v} p h = ap (λ (x : List ℕ). room_for x a) p ∙ room_same w runs a same ∙ h

  module _ (a : Added) (adds : Adds e a) where
    counts_are : counts_added w a ≡ counts_with w e
    counts_are = rw (adds.names, adds.bytes, adds.laid, adds.classes, adds.members)

    counted : counts_added runs a ≡ counts_added w a
    counted = rw (same 3 (omega arith), same 4 (omega arith), same 5 (omega arith), same 6 (omega arith), same 7 (omega arith))

    -- the three runs, then the row of the entry and the counts
    pub laid_down : (g : ℕ) {v u : List ℕ} → v ≡ runs → u ≡ sets (sets v (entry_place whole (get_or v 1 0)) (counts_added v a)) 0 (g ∷ suc (get_or v 1 0) ∷ get_or v 2 0 ∷ counts_added v a)
        → u ≡ words_with whole w g e
    laid_down g {v} {u} p q =
        q ∙ ap (λ (x : List ℕ). sets (sets x (entry_place whole (get_or x 1 0)) (counts_added x a)) 0 (g ∷ suc (get_or x 1 0) ∷ get_or x 2 0 ∷ counts_added x a)) p
        ∙ ap (λ (k : List ℕ). sets (sets runs (entry_place whole (get_or runs 1 0)) k) 0 (g ∷ suc (get_or runs 1 0) ∷ get_or runs 2 0 ∷ k)) (counted ∙ counts_are)
        ∙ ap (λ (k : ℕ). sets (sets runs (entry_place whole k) (counts_with w e)) 0 (g ∷ suc k ∷ get_or runs 2 0 ∷ counts_with w e)) (same 1 (omega arith))
        ∙ ap (λ (k : ℕ). sets (sets runs (entry_place whole (get_or w 1 0)) (counts_with w e)) 0 (g ∷ suc (get_or w 1 0) ∷ k ∷ counts_with w e)) (same 2 (omega arith))

-- what the program writes: members and classes, then declarations
pub written : (O : Outside) (t : Sheet) (w : List ℕ) {v : State} → BodyWalked O t v → (walk_refusal O t).number ≡ 0 → (ms : List Name) {b c m l f : ℕ} {w₁ w₂ : List ℕ}
    → b ≡ 2048 * get_or w 1 0 → c ≡ 21392 + 5 * get_or w 6 0 → m ≡ 26512 + 3 * get_or w 7 0 → l ≡ 5008 + 4 * get_or w 5 0 → f ≡ length O.names
    → w₁ ≡ sets (sets w m (concat_map member_words (classes_by (based O b) t))) c (concat_map class_words (classes_by (based O b) t))
    → w₂ ≡ sets w₁ l (concat_map laid_words (left_from t b v.scopes.env f (v.scopes.count - f)))
    → w₂ ≡ runs w (leaving O (2048 * get_or w 1 0) t ms)
written O t w {v} d z ms {b} {c} {m} {l} {f} {w₁} {w₂} eb ec em el ef h₁ h₂ =
    h₂ ∙ ap (λ (x : List ℕ). sets x l (concat_map laid_words (left_from t b v.scopes.env f (v.scopes.count - f)))) h₁
    ∙ ap (λ (k : ℕ). sets heads l (concat_map laid_words (left_from t b v.scopes.env k (v.scopes.count - k)))) ef
    ∙ ap (λ (x : List Named). sets heads l (concat_map laid_words x)) (d.laid z b)
    ∙ ap (λ (k : ℕ). sets (sets (sets w m (concat_map member_words (classes_by (based O k) t))) c (concat_map class_words (classes_by (based O k) t))) l
    (concat_map laid_words (laid_by (based O k) t))) eb
    ∙ ap (λ (k : ℕ). sets (sets (sets w k (concat_map member_words cs)) c (concat_map class_words cs)) l (concat_map laid_words ls)) em
    ∙ ap (λ (k : ℕ). sets (sets (sets w (26512 + 3 * get_or w 7 0) (concat_map member_words cs)) k (concat_map class_words cs)) l (concat_map laid_words ls)) ec
    ∙ ap (λ (k : ℕ). sets (sets (sets w (26512 + 3 * get_or w 7 0) (concat_map member_words cs)) (21392 + 5 * get_or w 6 0) (concat_map class_words cs)) k (concat_map laid_words ls)) el
  where
    heads : List ℕ
    heads = sets (sets w m (concat_map member_words (classes_by (based O b) t))) c (concat_map class_words (classes_by (based O b) t))

    cs : List Class
    cs = classes_by (based O (2048 * get_or w 1 0)) t

    ls : List Named
    ls = laid_by (based O (2048 * get_or w 1 0)) t

-- The questions of the walk do not read the base, so neither does how far it came.
ask_based : (P : Outside) (k : ℕ) (t : Sheet) (e : Event) (x : Open) → ask_event (based P k) t e x ≡ ask_event P t e x
ask_based P k t (enter r) x = refl
ask_based P k t leave x = refl
ask_based P k t loop x = refl
ask_based P k t (declare r) x = refl
ask_based P k t (bring r n d) x = refl
ask_based P k t (visit r) x = refl

until_based : (P : Outside) (k : ℕ) (t : Sheet) (h : List Moment) → until_no (based P k) t h ≡ until_no P t h
until_based P k t [] = refl
until_based P k t (m ∷ ms) =
    ap (λ (r : Refusal). when eqb r.number 0 then m ∷ until_no (based P k) t ms else []) (ask_based P k t m.event (open_on t m.stack))
    ∙ ap (λ (l : List Moment). when eqb (ask_event P t m.event (open_on t m.stack)).number 0 then m ∷ l else []) (until_based P k t ms)

-- the walk's next global
module _ {w o : List ℕ} {new bytes : ℕ} {n : List ℕ} {ms : List Name} (h : Over w o new bytes n ms) where
  abbrev S : Session
  S = session_in whole w n

  pub next_is : (t : Sheet) {v : State} → BodyWalked (over o) t v → v.scopes.next_global ≡ next_global (outside_of S) t
  next_is t d =
      d.walked.globals ∙ ap (λ (P : Outside). final_globals t (until_no P t (history P t))) h.outside
      ∙ ap (final_globals t) (until_based (outside_of S) 0 t (history (outside_of S) t))

-- The session's words by the number of the outcome.
module _ (S : Session) (t : Sheet) (ms : List Name) (lent : ℕ) (w : List ℕ) {x : Answer} {out : List ℕ} (a : AskedOver S t ms lent x out) where
  pub after_yes : x.number ≡ 0 → words_with whole w x.globals (entry_of S t ms lent) ≡ words_after S t ms lent w
  after_yes z =
      ap (λ (g : ℕ). words_with whole w g (entry_of S t ms lent)) a.tells.globals
      ∙ sym (rw (eq-eqb (asked_over S t ms lent).number 0 (sym a.tells.number ∙ z)))

  pub after_no : (x.number ≡ 0 → ⊥) → {g : ℕ} → g ≡ next_global (outside_of S) t → kept_words x.number g w ≡ words_after S t ms lent w
  after_no f {g} e =
      ap (λ (k : ℕ). kept_words k g w) a.tells.number ∙ ap (λ (k : ℕ). kept_words (asked_over S t ms lent).number k w) e
      ∙ sym (rw (ne_eqb (asked_over S t ms lent).number 0 (λ z. f (a.tells.number ∙ z))))

pub kept_low : (k g : ℕ) (w : List ℕ) → k < 5 → w ≡ kept_words k g w
kept_low k g w h = rw (lt-leb 5 k h)

pub kept_high : (k g : ℕ) (w : List ℕ) → 5 ≤ k → 21 < k → w ≡ kept_words k g w
kept_high k g w l h = rw (le-leb 5 k l, lt-leb k 21 h)

pub kept_walk : (k g : ℕ) (w : List ℕ) → 5 ≤ k → k ≤ 21 → set w 0 g ≡ kept_words k g w
kept_walk k g w l h = rw (le-leb 5 k l, le-leb k 21 h)

-- The whole entry, over any session that the words may be of.
module _ {w o : List ℕ} {t : Sheet} {new bytes lent : ℕ} {x : Tried} {out : List ℕ} (r : TriedOver w o t new bytes lent x out) {v : State} (d : BodyWalked (over o) t v) where
  pub entered_refused : {u : List ℕ} → (x.answer.number ≡ 0 → ⊥) → u ≡ kept_words x.answer.number v.scopes.next_global w
      → EnteredOver w o t new bytes lent x.answer out u
  entered_refused f e =
      record { asked = r.asked; words = λ n ms h. e ∙ after_no (session_in whole w n) t ms lent w (r.asked n ms h) f (next_is h t d) }

  pub entered_accepted : {u : List ℕ} → x.answer.number ≡ 0
      → ((ms : List Name) → Adds (leaving (over o) (2048 * get_or w 1 0) t ms) x.added → u ≡ words_with whole w x.answer.globals (leaving (over o) (2048 * get_or w 1 0) t ms))
      → EnteredOver w o t new bytes lent x.answer out u
  entered_accepted {u} z e =
      record {
        asked = r.asked;
        words = λ n ms h.
            let is : leaving (over o) (2048 * get_or w 1 0) t ms ≡ entry_of (session_in whole w n) t ms lent =
            ap (λ (P : Outside). record { names = ms; laid = laid_by P t; classes = classes_by P t }) (based_is h) in
            e ms (subst (λ (y : Accepted). Adds y x.added) (sym is) (r.adds n ms h z)) ∙ ap (words_with whole w x.answer.globals) is
            ∙ after_yes (session_in whole w n) t ms lent w (r.asked n ms h) z;
      }
