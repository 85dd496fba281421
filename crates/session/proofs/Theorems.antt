-- What is proved of sessions.
use mathlib.Core.Path.{◌≡◌, refl, sym, ap, ◌∙◌, subst, fun_ext}
use mathlib.Core.Logic.{inl}
use mathlib.Core.Bool.{Bool, true, false, not, ◌&&◌}
use mathlib.Core.List.{List, [], ◌∷◌, ◌++◌}
use Prim.Native.Nat.{ℕ, zero, suc, ◌+◌, ◌≤◌}
use native.Mathlib.Omega.{arith}
use lib.ListN.{length, get_or, set, take, replicate, length-append, length-set, length-replicate}
use lib.Seq.{get_or-set_same, get_or-set_other}
use lib.Dec.{eqb, leb}
use borrow.Author.Tests.{le-leb}
use Rattle.definition.specs.Basics.{when◌then◌else◌, every, concat_map, from}
use Rattle.definition.specs.Kind.{IMPORT}
use Rattle.definition.specs.Names.{Name, fixed, listed, names_fit, name_count}
use Rattle.definition.specs.Sheet.{Sheet, kind, next, child, file, line, column, a, b, kids, kids_of, rows}
use Rattle.definition.specs.Shape.{shape_of}
use Rattle.definition.specs.Format.{sheet_fits, depths_fit}
use Rattle.definition.specs.Outside.{core}
use Rattle.definition.specs.Outcome.{Outcome, refused, rows_fit, asked, outcome}
use Rattle.definition.specs.Claims.{Demand3}
use Rattle.definition.proofs.Lists.Tests.{T_true}
use Rattle.definition.proofs.Lists.Members.{take_front}
use Rattle.definition.proofs.Theorems.{closure_claim_over}
use Rattle.session.specs.Session.{Session, fresh, names_shown, outside_of, within}
use Rattle.session.specs.Entry.{own_names, names_with, renumbered, to_session, to_entry, holds_name, entry_row, entry_sheet}
use Rattle.session.specs.Enter.{renamed, accepting, asked_in, entered}
use Rattle.session.specs.Words.{Room, fixed_bytes, session_size, fresh_words, fresh_bytes, counts_fit, session_names_fit, numbers_fit, session_fits, session_in, enter_outcome}
use Rattle.session.proofs.SessionLaws.{shown_fits_lem}
use Rattle.session.proofs.NameLaws.{renumbered_same, all_new, names_apart_lem}
use Rattle.session.proofs.RowLaws.{row_of, rows_whole, whole_rows}
use Rattle.session.proofs.Asked.{Asked, past, past_asked, asked_entry}

-- outside the first entry of a session stands what stands outside a plain sheet
pub fresh_outside : outside_of fresh ≡ core
fresh_outside = refl

module _ (ns : List ℕ) (fit : names_fit ns ≡ true) where
  -- all its names are new, and follow the fixed ones as in its own list
  fresh_names : names_with fresh ns ≡ own_names ns
  fresh_names = ap (λ (l : List Name). fixed ++ l) (all_new fixed (listed ns) (names_apart_lem ns fit))

  fresh_number : (n : ℕ) → to_session fresh ns n ≡ n
  fresh_number n = ap (λ (l : List Name). renumbered (own_names ns) l n) fresh_names ∙ renumbered_same (own_names ns) (names_apart_lem ns fit) n

  fresh_back : (n : ℕ) → to_entry fresh ns n ≡ n
  fresh_back n = ap (λ (l : List Name). renumbered l (own_names ns) n) fresh_names ∙ renumbered_same (own_names ns) (names_apart_lem ns fit) n

  -- so its sheet is the sheet itself
  fresh_sheet : (s : Sheet) → rows_fit s ≡ true → entry_sheet fresh ns s ≡ s
  fresh_sheet s whole =
      ap (λ (f : ℕ → List ℕ). concat_map f (from 0 (rows s))) (fun_ext row)
      ∙ rows_whole (rows s) s (whole_rows s whole)
    where
      kept : (t : Bool) (n : ℕ) → (when t then to_session fresh ns n else n) ≡ n
      kept true n = fresh_number n
      kept false n = refl

      row : (r : ℕ) → entry_row fresh ns s r ≡ row_of s r
      row r =
          ap (λ (x : ℕ). kind s r ∷ next s r ∷ child s r ∷ file s r ∷ line s r ∷ column s r ∷ x ∷ b' ∷ []) (kept (holds_name (shape_of (kind s r)).a) (a s r))
          ∙ ap (λ (x : ℕ). kind s r ∷ next s r ∷ child s r ∷ file s r ∷ line s r ∷ column s r ∷ a s r ∷ x ∷ []) (kept (holds_name (shape_of (kind s r)).b) (b s r))
        where
          b' : ℕ
          b' = when holds_name (shape_of (kind s r)).b then to_session fresh ns (b s r) else b s r

-- what is asked of an entry after question 4, over an outcome x of questions 5 to 22
settled : (to : ℕ → ℕ) (x : Outcome) (t : Bool) → to x.name ≡ x.name
    → ((when not (eqb x.number 0) then renamed to x else when t then x else refused 24).number ≡ 24 → ⊥)
    → (when not (eqb x.number 0) then renamed to x else when t then x else refused 24) ≡ x
settled to x t e h = go (not (eqb x.number 0)) t h
  where
    go : (u t : Bool) → ((when u then renamed to x else when t then x else refused 24).number ≡ 24 → ⊥) → (when u then renamed to x else when t then x else refused 24) ≡ x
    go true t h = ap (λ (n : ℕ). renamed (λ m. n) x) e
    go false true h = refl
    go false false h = absurd (h refl)

-- A sheet of one unit without imports, entered into a fresh session, is answered as by itself, name numbers and all, unless the session has no room
-- for it: 24 is asked of a session alone.
pub fresh_plain : (s : Sheet) (ns : List ℕ) (lent : ℕ) → length (kids s 0) ≡ 1 → length (kids_of s IMPORT (child s 0)) ≡ 0
    → ((entered fresh s ns lent).number ≡ 24 → ⊥) → entered fresh s ns lent ≡ outcome s ns lent
fresh_plain s ns lent one none = go (rows_fit s) refl (names_fit ns) refl (sheet_fits (name_count ns) s) (depths_fit s)
  where
    inside : Outcome
    inside = asked_in fresh s ns lent

    first : Outcome
    first = asked core lent (entry_sheet fresh ns s)

    plain : rows_fit s ≡ true → names_fit ns ≡ true → (inside.number ≡ 24 → ⊥) → inside ≡ asked core lent s
    plain w f h =
        settled (to_entry fresh ns) first (within (accepting fresh s ns lent first)) (fresh_back ns f first.name) h
        ∙ ap (asked core lent) (fresh_sheet ns f s w)

    fits : (eqb (length (kids s 0)) 1 && eqb (length (kids_of s IMPORT (child s 0))) 0 && leb 0 (a s 0)) ≡ true
    fits = rw (one, none, le-leb 0 (a s 0) (omega arith))

    go : (t : Bool) → rows_fit s ≡ t → (u : Bool) → names_fit ns ≡ u → (v w : Bool)
        → ((when not t then refused 1 else when not u then refused 2 else when not v then refused 3 else when not w then refused 4
        else when not (eqb (length (kids s 0)) 1 && eqb (length (kids_of s IMPORT (child s 0))) 0 && leb 0 (a s 0)) then refused 23 else inside).number ≡ 24 → ⊥)
        → (when not t then refused 1 else when not u then refused 2 else when not v then refused 3 else when not w then refused 4
        else when not (eqb (length (kids s 0)) 1 && eqb (length (kids_of s IMPORT (child s 0))) 0 && leb 0 (a s 0)) then refused 23 else inside)
        ≡ (when not t then refused 1 else when not u then refused 2 else when not v then refused 3 else when not w then refused 4 else asked core lent s)
    go false e u f v w h = refl
    go true e false f v w h = refl
    go true e true f false w h = refl
    go true e true f true false h = refl
    go true e true f true true h = rw fits (plain e f (rw fits at h))

-- A session of zeros but for the names on show, with bytes that begin with the fixed names.
module _ (R : Room) (w n : List ℕ) (zeros : (i : ℕ) → (i ≡ 2 → ⊥) → get_or w i 0 ≡ 0) (begun : take (length fixed_bytes) n ≡ fixed_bytes) where
  -- the words that are read beside it
  first : get_or w 0 0 ≡ 0
  first = zeros 0 (λ e. omega (arith, e))

  second : get_or w 1 0 ≡ 0
  second = zeros 1 (λ e. omega (arith, e))

  count : (c : ℕ) → get_or w (3 + c) 0 ≡ 0
  count c = zeros (3 + c) (λ e. omega (arith, e))

  zeros_counts : session_size R ≤ length w → length fixed_bytes + R.bytes ≤ length n → counts_fit R w n ≡ true
  zeros_counts l m =
      rw (
        first,
        second,
        count 0,
        count 1,
        count 2,
        count 3,
        count 4,
        le-leb 0 R.entries (omega arith),
        le-leb 0 R.bytes (omega arith),
        le-leb 0 R.laid (omega arith),
        le-leb 0 R.classes (omega arith),
        le-leb 0 R.members (omega arith),
        le-leb (session_size R) (length w) l,
      )
      (ap (λ (t : Bool). t && true) (le-leb (length fixed_bytes + R.bytes) (length n) m))

  zeros_names : session_names_fit R w n ≡ true
  zeros_names = rw (count 0, count 1, begun)

  zeros_numbers : numbers_fit R w n ≡ true
  zeros_numbers = rw (second, count 0, count 1, count 2, count 3, count 4)

  pub zeros_held : session_in R w n ≡ fresh
  zeros_held = rw (first, second)

  pub zeros_fit : get_or w 2 0 ≡ 9 → session_size R ≤ length w → length fixed_bytes + R.bytes ≤ length n → session_fits R w n ≡ true
  zeros_fit nine l m =
      shown_fits_lem R w n
      (ap (λ (t : Bool). every (t ∷ session_names_fit R w n ∷ numbers_fit R w n ∷ [])) (zeros_counts l m)
      ∙ ap (λ (t : Bool). every (t ∷ numbers_fit R w n ∷ [])) zeros_names ∙ ap (λ (t : Bool). every (t ∷ [])) zeros_numbers)
      (nine ∙ sym (ap (λ (S : Session). names_shown S) zeros_held))

-- a word of zeros, also past their end
pub zero_at : (n i : ℕ) → ◌≡◌ {A = ℕ} (get_or (replicate n 0) i 0) 0
zero_at zero i = refl
zero_at (suc n) zero = refl
zero_at (suc n) (suc i) = zero_at n i

-- n zeros with nine names on show, word by word
pub nine_at : (n : ℕ) → 3 ≤ n → ◌≡◌ {A = ℕ} (get_or (set (replicate n 0) 2 9) 2 0) 9
nine_at n l = get_or-set_same (replicate n 0) 2 9 0 (omega (arith, length-replicate {A = ℕ} n 0))

pub zero_beside : (n i : ℕ) → (i ≡ 2 → ⊥) → ◌≡◌ {A = ℕ} (get_or (set (replicate n 0) 2 9) i 0) 0
zero_beside n i f = get_or-set_other (replicate n 0) 2 i 9 0 f ∙ zero_at n i

-- The words and bytes of a fresh session pass question 23, and hold the fresh session.
pub fresh_fits : (R : Room) → session_fits R (fresh_words R) (fresh_bytes R) ≡ true
fresh_fits R =
    zeros_fit R (fresh_words R) (fresh_bytes R) (zero_beside (session_size R)) (take_front fixed_bytes (replicate R.bytes 0)) (nine_at (session_size R) (omega arith))
    (omega (arith, length-set {A = ℕ} (replicate (session_size R) 0) 2 9, length-replicate {A = ℕ} (session_size R) 0))
    (omega (arith, length-append fixed_bytes (replicate R.bytes 0), length-replicate {A = ℕ} R.bytes 0))

pub fresh_held : (R : Room) → session_in R (fresh_words R) (fresh_bytes R) ≡ fresh
fresh_held R = zeros_held R (fresh_words R) (fresh_bytes R) (zero_beside (session_size R)) (take_front fixed_bytes (replicate R.bytes 0))

-- The closure claim of every accepted entry by itself: of its sheet with the session's name numbers, over what earlier entries left, and of the answer rows.
-- Earlier names are functions, classes and globals (`outside_fits`), so no capture leads to them.
pub entry_claim : (R : Room) → R.laid ≤ 4096 → R.members ≤ 8192 → (w n : List ℕ) (s : Sheet) (ns : List ℕ) (lent : ℕ) → (enter_outcome R w n s ns lent).number ≡ 0
    → Demand3 (outside_of (session_in R w n)) (entry_sheet (session_in R w n) ns s) (enter_outcome R w n s ns lent).rows
entry_claim R few many w n s ns lent e =
    subst (λ (y : Outcome). Demand3 (outside_of S) t y.rows) (sym (p.1 ∙ k.1 ∙ q.2))
    (closure_claim_over {O = outside_of S} k.0.fits.outside (length (names_with S ns)) lent t (T_true (rows_fit t) k.0.rows_fit_lem) k.0.fitting q.0)
  where
    S : Session
    S = session_in R w n

    t : Sheet
    t = entry_sheet S ns s

    x : Outcome
    x = asked (outside_of S) lent t

    number_of_lem : {y y' : Outcome} → y ≡ y' → y.number ≡ y'.number
    number_of_lem r = ap (λ (o : Outcome). o.number) r

    p : (session_fits R w n ≡ true) × (enter_outcome R w n s ns lent ≡ entered S s ns lent)
    p = past (session_fits R w n) 23 (entered S s ns lent) (λ z. omega (arith, z, e))

    k : Asked S s ns t × (entered S s ns lent ≡ asked_in S s ns lent)
    k = asked_entry R few many w n p.0 s ns lent (inl (number_of_lem (sym p.1) ∙ e))

    q : (x.number ≡ 0) × (within (accepting S s ns lent x) ≡ true) × (asked_in S s ns lent ≡ x)
    q = past_asked (to_entry S ns) x (within (accepting S s ns lent x)) (number_of_lem (sym (p.1 ∙ k.1)) ∙ e)
