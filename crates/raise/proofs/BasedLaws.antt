-- The outcome of a sheet over a base, from that over base 0: the rows in the buffer are raised in place, and nothing else changes.
use mathlib.Core.Path.{◌≡◌, refl, sym, ap, ◌∙◌, subst}
use mathlib.Core.Logic.{◌⊎◌, inl, inr}
use mathlib.Core.Bool.{Bool, true, false, not}
use mathlib.Core.List.{List, [], ◌∷◌, ◌++◌, map}
use Prim.Native.Nat.{ℕ, zero, suc, ◌+◌, ◌-◌, ◌*◌, ◌≤◌, min}
use native.Mathlib.Omega.{arith}
use lib.Dec.{eqb, leb, T}
use lib.ListN.{length, drop, replicate, length-append, length-map}
use lib.Seq.{drop_at}
use Rattle.definition.specs.Basics.{when◌then◌else◌, all, filter, concat_map, from, ◌∈?◌}
use Rattle.definition.specs.Sheet.{Sheet, file, line, column, a, rows, is}
use Rattle.definition.specs.Outside.{Outside, OutsideFits, based}
use Rattle.definition.specs.Scope.{Moment, history, visits}
use Rattle.definition.specs.Walk.{Event}
use Rattle.definition.specs.Classes.{of_sheet, lacks_record, parent_of}
use Rattle.definition.specs.Slots.{final_globals}
use Rattle.definition.specs.Question.{Refusal, none, ask, first_no, Open, open_on, ask_event, ask_climb, first_of_classes, ask_constructor, refusal}
use Rattle.definition.specs.Answer.{answers, raised_row, raised}
use Rattle.definition.specs.Outcome.{Outcome, refused_at, refused, rows_fit, answered, asked, buffer, rows_of_words}
use Rattle.definition.proofs.Lists.Members.{map_same}
use Rattle.definition.proofs.Format.Accepted.{Eights, good_asked, flat_length, rows_back}
use Rattle.raise.specs.RaisedWords.{owner_fits, raised_words}
use Rattle.raise.proofs.OwnerLaws.{owners_fit}

-- an outcome with its rows over base n
abbrev pub raised_outcome : ℕ → Outcome → Outcome
raised_outcome n x =
    record { number = x.number; file = x.file; line = x.line; column = x.column; name = x.name; rows = raised n x.rows; globals = x.globals }

raised_empty : (n : ℕ) → [] ≡ raised n []
raised_empty zero = refl
raised_empty (suc n) = refl

pub raised_count : (n : ℕ) (out : List (List ℕ)) → length (raised n out) ≡ length out
raised_count zero out = refl
raised_count (suc n) out = length-map out (raised_row (suc n))

-- a refusal, whose rows rs are none
abbrev bare : ℕ → ℕ → ℕ → ℕ → ℕ → List (List ℕ) → Outcome
bare q f l c m rs = record { number = q; file = f; line = l; column = c; name = m; rows = rs; globals = 0 }

answered_raised : (n lent : ℕ) (out : List (List ℕ)) (g : ℕ) → answered lent (raised n out) g ≡ raised_outcome n (answered lent out g)
answered_raised n lent out g = ap (λ (k : ℕ). choice (leb (8 * k) lent)) (raised_count n out) ∙ go (leb (8 * length out) lent)
  where
    choice : Bool → Outcome
    choice t = when t then record { number = 0; file = 0; line = 0; column = 0; name = 0; rows = raised n out; globals = g } else refused 22

    go : (t : Bool) → choice t ≡ raised_outcome n (when t then record { number = 0; file = 0; line = 0; column = 0; name = 0; rows = out; globals = g } else refused 22)
    go true = refl
    go false = ap (bare 22 0 0 0 0) (raised_empty n)

-- no question reads the base
module _ (O : Outside) (n : ℕ) (s : Sheet) where
  same_event : (e : Event) (x : Open) → ask_event (based O n) s e x ≡ ask_event O s e x
  same_event (Event.enter r) x = refl
  same_event Event.leave x = refl
  same_event Event.loop x = refl
  same_event (Event.declare r) x = refl
  same_event (Event.bring r k d) x = refl
  same_event (Event.visit r) x = refl

  same_climb : (parent : ℕ → ℕ) (k : ℕ) (met : List ℕ) (c : ℕ) → ask_climb (based O n) s parent k met c ≡ ask_climb O s parent k met c
  same_climb parent zero met c = refl
  same_climb parent (suc k) met c =
      ap (λ (up : Refusal). when not (of_sheet s c) then none else when c ∈? met then ask 18 (c - 256) (a s (c - 256)) false
      else when lacks_record O s (parent c) then ask 19 (c - 256) (a s (c - 256)) false else up) (same_climb parent k (c ∷ met) (parent c))

  same_refusal : (h : List Moment) → refusal (based O n) s h ≡ refusal O s h
  same_refusal h =
      ap (λ (x : Refusal). first_no (x ∷ classes (based O n) ∷ calls ∷ []))
      (ap first_no (map_same (at_event (based O n)) (at_event O) h (λ m q. same_event m.event (open_on s m.stack))))
      ∙ ap (λ (x : Refusal). first_no (first_no (map (at_event O) h) ∷ x ∷ calls ∷ []))
      (ap first_no (map_same (at_class (based O n)) (at_class O) (filter (is s 4) (from 0 (rows s))) (λ r q. same_climb (parent_of s h) (suc (rows s)) [] (256 + r))))
    where
      at_event : Outside → Moment → Refusal
      at_event P m = ask_event P s m.event (open_on s m.stack)

      at_class : Outside → ℕ → Refusal
      at_class P r = ask_climb P s (parent_of s h) (suc (rows s)) [] (256 + r)

      classes : Outside → Refusal
      classes P = first_of_classes s (ask_climb P s (parent_of s h) (suc (rows s)) [])

      calls : Refusal
      calls = first_no (map (ask_constructor O s h) (visits s h 59))

-- what is answered, unless a question before got a no
abbrev settled : Sheet → Refusal → Outcome → Outcome
settled s x o = when eqb x.number 0 then o else refused_at x.number s x.at x.name

settled_raised : (n : ℕ) (s : Sheet) (x : Refusal) (o p : Outcome) → p ≡ raised_outcome n o → settled s x p ≡ raised_outcome n (settled s x o)
settled_raised n s x o p e = go (eqb x.number 0)
  where
    go : (t : Bool) → (when t then p else refused_at x.number s x.at x.name) ≡ raised_outcome n (when t then o else refused_at x.number s x.at x.name)
    go true = e
    go false = ap (bare x.number (file s x.at) (line s x.at) (min 16383 (column s x.at)) x.name) (raised_empty n)

-- Number, position, name and globals do not depend on the base.
pub asked_based : (O : Outside) → O.base ≡ 0 → (n lent : ℕ) (s : Sheet) → asked (based O n) lent s ≡ raised_outcome n (asked O lent s)
asked_based O z n lent s =
    ap (λ (x : Refusal). settled s x (answered lent (raised n out) g)) (same_refusal O n s (history O s))
    ∙ settled_raised n s (refusal O s (history O s)) (answered lent (raised O.base out) g) (answered lent (raised n out) g)
    (answered_raised n lent out g ∙ ap (λ (b : ℕ). raised_outcome n (answered lent (raised b out) g)) (sym z))
  where
    out : List (List ℕ)
    out = answers O s (history O s)

    g : ℕ
    g = final_globals s (history O s)

-- the rows are those of the walk, if no question got a no, or none
asked_rows : (O : Outside) (lent : ℕ) (s : Sheet)
    → (((asked O lent s).number ≡ 0) × ((asked O lent s).rows ≡ raised O.base (answers O s (history O s)))) ⊎ ((asked O lent s).rows ≡ [])
asked_rows O lent s = go (eqb x.number 0) (leb (8 * length out) lent)
  where
    x : Refusal
    x = refusal O s (history O s)

    out : List (List ℕ)
    out = raised O.base (answers O s (history O s))

    chosen : Bool → Bool → Outcome
    chosen t u =
        when t
        then (when u then record { number = 0; file = 0; line = 0; column = 0; name = 0; rows = out; globals = final_globals s (history O s) } else refused 22)
        else refused_at x.number s x.at x.name

    go : (t u : Bool) → (((chosen t u).number ≡ 0) × ((chosen t u).rows ≡ out)) ⊎ ((chosen t u).rows ≡ [])
    go true true = inl (refl, refl)
    go true false = inr refl
    go false u = inr refl

-- A refusal is the same over every base.
pub refused_based : (O : Outside) → O.base ≡ 0 → (n lent : ℕ) (s : Sheet) → ((asked O lent s).number ≡ 0 → ⊥) → asked (based O n) lent s ≡ asked O lent s
refused_based O z n lent s f = asked_based O z n lent s ∙ ap with_rows (go (asked_rows O lent s))
  where
    o : Outcome
    o = asked O lent s

    with_rows : List (List ℕ) → Outcome
    with_rows rs = record { number = o.number; file = o.file; line = o.line; column = o.column; name = o.name; rows = rs; globals = o.globals }

    go : ((o.number ≡ 0) × (o.rows ≡ raised O.base (answers O s (history O s)))) ⊎ (o.rows ≡ []) → raised n o.rows ≡ o.rows
    go (inl e) = absurd (f e.0)
    go (inr e) = ap (raised n) e ∙ sym (raised_empty n) ∙ sym e

raised_words_lem : (n lent : ℕ) (x : Outcome) → Eights x.rows → raised_words n (length x.rows) (buffer lent x) ≡ buffer lent (raised_outcome n x)
unfolding raised_words
raised_words_lem n lent x p =
    let rs : List (List ℕ) = x.rows in
    let zeros : List ℕ = replicate (lent - 8 * length rs) 0 in
    ap (λ (l : List (List ℕ)). concat_map (λ r. r) (raised n l) ++ drop (8 * length rs) (concat_map (λ r. r) rs ++ zeros)) (rows_back rs zeros p)
    ∙ ap (λ (l : List ℕ). concat_map (λ r. r) (raised n rs) ++ l) (drop_at (concat_map (λ r. r) rs) zeros (8 * length rs) (flat_length p))
    ∙ ap (λ (k : ℕ). concat_map (λ r. r) (raised n rs) ++ replicate (lent - 8 * k) 0) (sym (raised_count n rs))

-- The buffer of an outcome over base 0, with its k rows.
module _ (O : Outside) (base : O.base ≡ 0) (s : Sheet) (lent : ℕ) {k : ℕ} {w : List ℕ}
    (counted : k ≡ length (asked O lent s).rows) (held : w ≡ buffer lent (asked O lent s)) where
  abbrev rs : List (List ℕ)
  rs = (asked O lent s).rows

  eights : Eights rs
  eights = (good_asked lent O s).0

  -- raised in place, it is that of the outcome over the base
  pub raised_buffer : (n : ℕ) → raised_words n k w ≡ buffer lent (asked (based O n) lent s)
  raised_buffer n =
      ap (λ (i : ℕ). raised_words n i w) counted ∙ ap (raised_words n (length rs)) held ∙ raised_words_lem n lent (asked O lent s) eights
      ∙ ap (buffer lent) (sym (asked_based O base n lent s))

  -- what `raise_rows` asks of it
  pub buffer_ready : OutsideFits O → T (rows_fit s) → (8 * k ≤ length w) × T (all owner_fits (rows_of_words k w))
  buffer_ready known whole = (room, subst (λ (l : List (List ℕ)). T (all owner_fits l)) (sym back) (fit (asked_rows O lent s)))
    where
      zeros : List ℕ
      zeros = replicate (lent - 8 * length rs) 0

      room : 8 * k ≤ length w
      room = omega (arith, counted, ap length held, length-append (concat_map (λ r. r) rs) zeros, flat_length eights)

      back : rows_of_words k w ≡ rs
      back = ap (λ (i : ℕ). rows_of_words i w) counted ∙ ap (rows_of_words (length rs)) held ∙ rows_back rs zeros eights

      out : ℕ → List (List ℕ)
      out b = raised b (answers O s (history O s))

      fit : (((asked O lent s).number ≡ 0) × (rs ≡ out O.base)) ⊎ (rs ≡ []) → T (all owner_fits rs)
      fit (inl e) = subst (λ (l : List (List ℕ)). T (all owner_fits l)) (sym (e.1 ∙ ap out base)) (owners_fit s whole known)
      fit (inr e) = subst (λ (l : List (List ℕ)). T (all owner_fits l)) (sym e) tt
