-- The outcome of a sheet by the first no of questions 1 to 4, by the units left, and by the room in the list.
use mathlib.Core.Path.{◌≡◌, refl, sym, ap, ◌∙◌, subst}
use mathlib.Core.Logic.{⊎_elim}
use mathlib.Core.Bool.{Bool, true, false, not, ◌&&◌}
use mathlib.Core.List.{List, [], ◌++◌, map}
use Prim.Native.Nat.{ℕ, zero, suc, ◌+◌, ◌-◌, ◌<◌, ◌≤◌}
use native.Mathlib.Omega.{arith}
use lib.Dec.{T, not_T, eqb, leb, ltb→lt, T_not}
use Rattle.std.specs.Prelude.{Option, Some, None, IsSome}
use Rattle.std.specs.Option.{unwrap_or}
use lib.ListN.{length, get_or, drop, replicate, length-replicate, length-map}
use lib.Seq.{sets, sets-eq, length-sets}
use borrow.Author.Tests.{eq-eqb, ne_eqb, leb-true, leb-false}
use Rattle.definition.specs.Basics.{when◌then◌else◌, any, first, head, ◌∈?◌}
use Rattle.definition.specs.Kind.{UNIT}
use Rattle.definition.specs.Sheet.{Sheet, file, rows, is}
use Rattle.definition.specs.Names.{names_fit, name_count}
use Rattle.definition.specs.Format.{sheet_fits, depths_fit}
use Rattle.definition.specs.Outcome.{Outcome, refused, refused_at, rows_fit}
use Rattle.definition.proofs.Lists.Tests.{T_and, and_both, T_true, true_of, decide}
use Rattle.definition.proofs.Format.Facts.{SheetFacts, facts, header_kind, next_rises, child_rises}
use Rattle.lexer.proofs.Laws.{file_none, line_none, column_none}
use Rattle.answer.specs.declared.Answer.{Answer}
use Rattle.answer.specs.Tells.{Tells}
use Rattle.first_four.specs.Questions.{first_four}
use Rattle.first_four.proofs.Asking.{sized}
use Rattle.unit_order.specs.Imports.{OrderFrom}
use Rattle.unit_order.specs.Order.{units, imports_of, circles, order, unit_row, order_asked, order_outcome, list_after}
use Rattle.unit_order.proofs.OrderLaws.{started_order}
use Rattle.unit_order.proofs.SheetLaws.{units_rising, unit_row_lem, row_unit, imports_closed, unit_next, first_lowest}
use Rattle.unit_order.proofs.Theorems.{told_units, circles_chain, order_free, left_circles, order_claims}
use Rattle.start_units.specs.Starting.{Importing, marked, Marks}
use Rattle.start_units.proofs.ReadyLaws.{either, false_of, same_or}
use Rattle.start_units.proofs.StartedLaws.{zero_at}
use Rattle.order_units.specs.Ordered.{Ordered}
use Rattle.order_units.specs.Settled.{Fitting, Left, Listed, Settled}

-- the outcome by the answer of the first four questions
outcome_by : (s : Sheet) (ns : List ℕ) (lent : ℕ) → order_outcome s ns lent ≡ (when eqb (first_four s ns) 0 then order_asked lent s else refused (first_four s ns))
unfolding order_outcome
outcome_by s ns lent = go (rows_fit s) (names_fit ns) (sheet_fits (name_count ns) s) (depths_fit s)
  where
    go : (x y z w : Bool)
        → (when not x then refused 1 else when not y then refused 2 else when not z then refused 3 else when not w then refused 4 else order_asked lent s)
        ≡ (when eqb (when not x then 1 else when not y then 2 else when not z then 3 else when not w then 4 else 0) 0 then order_asked lent s
        else refused (when not x then 1 else when not y then 2 else when not z then 3 else when not w then 4 else 0))
    go false y z w = refl
    go true false z w = refl
    go true true false w = refl
    go true true true false = refl
    go true true true true = refl

-- a sheet past them fits
pub fitting : (s : Sheet) (ns : List ℕ) → first_four s ns ≡ 0 → Fitting s
fitting s ns e = go (rows_fit s) refl (names_fit ns) (sheet_fits (name_count ns) s) refl (depths_fit s) e
  where
    go : (x : Bool) → rows_fit s ≡ x → (y z : Bool) → sheet_fits (name_count ns) s ≡ z → (w : Bool)
        → ◌≡◌ {A = ℕ} (when not x then 1 else when not y then 2 else when not z then 3 else when not w then 4 else 0) 0 → Fitting s
    go false p y z q w h = absurd (omega (arith, h))
    go true p false z q w h = absurd (omega (arith, h))
    go true p true false q w h = absurd (omega (arith, h))
    go true p true true q w h = let size = sized s p in record { few = size.2; some = size.1; last = name_count ns; fits = q }

module _ (s : Sheet) (ok : Fitting s) where
  known : SheetFacts ok.last s
  known = facts ok.last s ok.fits

  pub importing : Importing s
  importing =
      record {
        few = ok.few;
        some = ok.some;
        header = not_T (is s UNIT 0) (λ h. subst T (ap (λ (k : ℕ). eqb k UNIT) (header_kind ok.last s known)) h);
        nexts = next_rises ok.last s known;
        children = child_rises ok.last s known;
        in_line = unit_next ok.last s known;
        closed = imports_closed ok.last s known;
      }

  -- the file of a unit's position
  pub unit_file : (u : ℕ) → T (u ∈? units s) → file s u < 262144
  unit_file u m = ltb→lt (file s u) 262144 (known.row u (unit_row_lem s u m).0).files

  module _ (m : List ℕ) (h : Marks s m (order s)) (x : Bool) (l : Left s m x) where
    -- a unit that is left leads into a circle
    some_circle : x ≡ true → T (any (circles s) (units s))
    some_circle e =
        let p = l.one e in
        left_circles ok.last s known p.0 p.1 (subst (λ (t : Bool). T (not t)) (h.same p.0) p.2)

    -- where none is left no unit is on a circle
    no_circle : x ≡ false → any (circles s) (units s) ≡ false
    unfolding order
    no_circle e =
        false_of (any (circles s) (units s))
        (λ g.
        let low = first_lowest (circles s) 0 (units_rising s) g in
        order_free ok.last s known whole (first (circles s) 0 (units s)) low.listed (circles_chain ok.last s known _ low.passes))
      where
        whole : OrderFrom (imports_of s) (units s) [] (order s)
        whole = started_order (imports_of s) (units s) (units_rising s) (rows s) (λ u k. subst T (h.same u) (l.none e u k))

-- a list after a refusal
zeros_after : (lent : ℕ) (o : Outcome) → o.rows ≡ [] → replicate lent 0 ≡ list_after lent o
unfolding list_after
zeros_after lent o e =
    let all : lent ≡ lent - 0 = omega arith in
    ap (λ (k : ℕ). replicate k 0) all ∙ sym (ap (λ (rs : List (List ℕ)). map head rs ++ replicate (lent - length rs) 0) e)

-- zeros after the units written into a list of zeros
drop_zeros : (n lent : ℕ) → drop {A = ℕ} n (replicate lent 0) ≡ replicate (lent - n) 0
drop_zeros zero lent = let all : lent ≡ lent - 0 = omega arith in ap (λ (k : ℕ). replicate k 0) all
drop_zeros (suc n) zero = let none : 0 ≡ 0 - suc n = omega arith in ap (λ (k : ℕ). replicate k 0) none
drop_zeros (suc n) (suc lent) = let less : lent - n ≡ suc lent - suc n = omega arith in drop_zeros n lent ∙ ap (λ (k : ℕ). replicate k 0) less

written : (us : List ℕ) (lent : ℕ) → length us ≤ lent → sets (replicate lent 0) 0 us ≡ us ++ replicate (lent - length us) 0
written us lent l =
    let long = length-replicate {A = ℕ} lent 0 in
    let same : 0 + length us ≡ length us = omega arith in
    sets-eq us (replicate lent 0) 0 (omega (arith, long))
    ∙ ap (λ (k : ℕ). us ++ drop k (replicate lent 0)) same ∙ ap (λ (w : List ℕ). us ++ w) (drop_zeros (length us) lent)

-- Questions 29 and 22, as the routines ask them.
module _ (s : Sheet) (ok : Fitting s) (m : List ℕ) (h : Marks s m (order s)) (x : Bool) (l : Left s m x) (lent : ℕ) where
  asked_by : Bool → Bool → Outcome
  asked_by t w =
      when t then refused_at 29 s (first (circles s) 0 (units s)) 0
      else when w then record { number = 0; file = 0; line = 0; column = 0; name = 0; rows = map unit_row (order s); globals = 0 }
      else refused 22

  asked_is : order_asked lent s ≡ asked_by (any (circles s) (units s)) (leb (length (order s)) lent)
  unfolding order_asked asked_by
  asked_is = refl

  -- a unit is left: refused at the lowest that circles
  module _ (e : x ≡ true) (u : ℕ) (at : u ≡ first (circles s) 0 (units s)) where
    pub left_file : file s u < 262144
    left_file = rw at (unit_file s ok (first (circles s) 0 (units s)) (first_lowest (circles s) 0 (units_rising s) (some_circle s ok m h x l e)).listed)

    -- it is one
    pub left_some : u ≡ 0 → ⊥
    left_some z =
        T_not (is s UNIT 0) (importing s ok).header
        (subst (λ (i : ℕ). T (is s UNIT i)) (sym at ∙ z)
        (unit_row_lem s (first (circles s) 0 (units s)) (first_lowest (circles s) 0 (units_rising s) (some_circle s ok m h x l e)).listed).1)

    asked_at : order_asked lent s ≡ refused_at 29 s u 0
    unfolding asked_by
    asked_at =
        asked_is ∙ ap (λ (t : Bool). asked_by t (leb (length (order s)) lent)) (true_of (any (circles s) (units s)) (some_circle s ok m h x l e))
        ∙ ap (λ (i : ℕ). refused_at 29 s i 0) (sym at)

    pub settled_circle : {y : Answer} {w : List ℕ} → Tells (refused_at 29 s u 0) y × (w ≡ replicate lent 0) → Settled s lent y w
    settled_circle {y} {w} r =
        record {
          tells = subst (λ (o : Outcome). Tells o y) (sym asked_at) r.0;
          words = r.1 ∙ zeros_after lent (refused_at 29 s u 0) refl ∙ ap (list_after lent) (sym asked_at);
        }

  -- none is left: the order, if there is room for it
  module _ (e : x ≡ false) (n : ℕ) (long : n ≡ length (order s)) (w : List ℕ) (w_is : w ≡ sets (replicate lent 0) 0 (order s)) where
    asked_on : order_asked lent s ≡ asked_by false (leb (length (order s)) lent)
    asked_on = asked_is ∙ ap (λ (t : Bool). asked_by t (leb (length (order s)) lent)) (no_circle s ok m h x l e)

    size : length w ≡ lent
    size = ap length w_is ∙ length-sets (replicate lent 0) 0 (order s) ∙ length-replicate lent 0

    pub settled_list : {y : Answer} {z : List ℕ} → Listed n w y z → Settled s lent y z
    unfolding asked_by list_after
    settled_list {y} {z} r = ⊎_elim full room (either (leb (length (order s)) lent))
      where
        full : leb (length (order s)) lent ≡ true → Settled s lent y z
        full t =
            let fits : length (order s) ≤ lent = leb-true (length (order s)) lent t in
            let is : order_asked lent s ≡ asked_by false true = asked_on ∙ ap (asked_by false) t in
            let y_is = r.told (omega (arith, long, size, fits)) in
            record {
              tells = subst (λ (o : Outcome). Tells o y) (sym is)
                  (subst (Tells (asked_by false true)) (sym y_is)
                  (record {
                    number = refl;
                    file = file_none;
                    line = line_none;
                    column = column_none;
                    name = refl;
                    rows = long ∙ sym (length-map (order s) unit_row);
                    globals = refl;
                  }));
              words =
                  r.words (omega (arith, long, size, fits)) ∙ w_is ∙ written (order s) lent fits
                  ∙ ap (λ (us : List ℕ). us ++ replicate (lent - length (order s)) 0) (sym (told_units (order s)))
                  ∙ ap (λ (k : ℕ). map head (map unit_row (order s)) ++ replicate (lent - k) 0) (sym (length-map (order s) unit_row))
                  ∙ ap (list_after lent) (sym is);
            }

        room : leb (length (order s)) lent ≡ false → Settled s lent y z
        room t =
            let over : lent < length (order s) = leb-false (length (order s)) lent t in
            let is : order_asked lent s ≡ refused 22 = asked_on ∙ ap (asked_by false) t in
            let no = r.full (omega (arith, long, size, over)) in
            record {
              tells = subst (λ (o : Outcome). Tells o y) (sym is) no.0;
              words = no.1 ∙ ap (λ (k : ℕ). replicate k 0) size ∙ zeros_after lent (refused 22) refl ∙ ap (list_after lent) (sym is);
            }

-- The whole: refused by one of the first four questions, or asked on.
module _ (s : Sheet) (ns : List ℕ) (lent : ℕ) {q : ℕ} (e : q ≡ first_four s ns) where
  pub ordered_no : (q ≡ 0 → ⊥) → {x : Answer} {w : List ℕ} → Tells (refused q) x × (w ≡ replicate lent 0) → Ordered s ns lent x w
  ordered_no f {x} {w} r =
      let is : order_outcome s ns lent ≡ refused q =
      outcome_by s ns lent ∙ ap (λ (k : ℕ). when eqb k 0 then order_asked lent s else refused k) (sym e)
      ∙ ap (λ (t : Bool). when t then order_asked lent s else refused q) (ne_eqb q 0 f) in
      record {
        tells = subst (λ (o : Outcome). Tells o x) (sym is) r.0;
        words = r.1 ∙ zeros_after lent (refused q) refl ∙ ap (list_after lent) (sym is);
        claims = order_claims s ns lent;
      }

  pub ordered_on : q ≡ 0 → {x : Answer} {w : List ℕ} → Settled s lent x w → Ordered s ns lent x w
  ordered_on z {x} {w} r =
      let is : order_outcome s ns lent ≡ order_asked lent s =
      outcome_by s ns lent ∙ ap (λ (k : ℕ). when eqb k 0 then order_asked lent s else refused k) (sym e ∙ z) in
      record {
        tells = subst (λ (o : Outcome). Tells o x) (sym is) r.tells;
        words = r.words ∙ ap (list_after lent) (sym is);
        claims = order_claims s ns lent;
      }

-- Units without a mark, row by row.
-- all units below row n have marks
abbrev pub AllMarked : Sheet → List ℕ → ℕ → Type 0
AllMarked s m n = (u : ℕ) → u < n → T (u ∈? units s) → T (marked m u)

module _ (s m : List ℕ) (n : ℕ) where
  pub left_here : n < rows s → {x : Bool} → x ≡ (is s UNIT n && not (marked m n)) → x ≡ true → Left s m true
  left_here l told e =
      let q = T_and (is s UNIT n) (not (marked m n)) (T_true (is s UNIT n && not (marked m n)) (sym told ∙ e)) in
      record { one = λ z. (n, row_unit s n l q.0, q.1); none = λ z. absurd (subst T z tt) }

  pub left_more : AllMarked s m n → {x : Bool} → x ≡ (is s UNIT n && not (marked m n)) → x ≡ false → AllMarked s m (n + 1)
  left_more h told e u l k =
      ⊎_elim
      (λ (q : u ≡ n).
      ⊎_elim (λ g. g)
      (λ g.
      absurd (subst T (sym told ∙ e)
      (and_both (is s UNIT n) (not (marked m n)) (subst (λ (i : ℕ). T (is s UNIT i)) q (unit_row_lem s u k).1) (subst (λ (i : ℕ). T (not (marked m i))) q g))))
      (decide (marked m u)))
      (λ f. h u (omega arith) k) (same_or u n)

  pub left_none : AllMarked s m n → rows s ≤ n → Left s m false
  left_none h l = record { one = λ z. absurd (subst T (sym z) tt); none = λ z u k. h u (omega (arith, (unit_row_lem s u k).0)) k }

-- a row that is found is there
pub found_some : (o : Option ℕ) → (unwrap_or o 0 ≡ 0 → ⊥) → IsSome o
found_some None f = absurd (f refl)
found_some (Some u) f = refl

-- no unit has started
pub marks_none : (s : Sheet) (n : ℕ) → rows s ≤ n → Marks s (replicate n 0) []
marks_none s n l =
    record { room = omega (arith, length-replicate {A = ℕ} n 0); same = λ v. ap not (eq-eqb (get_or (replicate n 0) v 0) 0 (zero_at n v)) }
