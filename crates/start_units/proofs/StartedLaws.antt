-- One unit after another: the steps of the definition, by the tables.
use mathlib.Core.Path.{◌≡◌, refl, sym, ap, ◌∙◌, subst}
use mathlib.Core.Logic.{⊎_elim}
use mathlib.Core.Bool.{Bool, true, false, not, ◌&&◌}
use mathlib.Core.List.{List, [], ◌∷◌, ◌++◌}
use Prim.Native.Nat.{ℕ, zero, suc, ◌+◌, ◌-◌, ◌<◌, ◌≤◌}
use native.Mathlib.Omega.{arith}
use native.Mathlib.Numerals.{add-one}
use lib.Dec.{T, T_not, not_T, eqb, ltb}
use lib.ListN.{length, get_or, set, take, replicate, length-set, length-append, length-replicate}
use lib.Seq.{sets, get_or-set_same, get_or-set_other}
use borrow.Author.Tests.{ne_eqb, eqb-true, eqb-false, lt-ltb, ltb-true, ltb-false}
use Rattle.definition.specs.Basics.{when◌then◌else◌, filter, all, ◌∈?◌}
use Rattle.definition.specs.Kind.{UNIT}
use Rattle.definition.specs.Sheet.{Sheet, next, rows, is}
use Rattle.definition.proofs.Lists.Tests.{T_and, and_both, true_of, T_true, decide}
use Rattle.machine.proofs.Words.{sets_more}
use Rattle.unit_order.specs.Imports.{ready, started_after}
use Rattle.unit_order.specs.Order.{units, imports_of, order}
use Rattle.unit_order.proofs.StartLaws.{passing, stuck_same, in_before, in_last, in_either, all_member, all_or_one}
use Rattle.unit_order.proofs.SheetLaws.{units_rising, unit_row_lem, row_unit}
use Rattle.start_units.specs.Starting.{Importing, marked, startable, Waits, following, LowestFrom, Unnoted, Importers, after_start, Marks, Started}
use Rattle.start_units.proofs.ReadyLaws.{all_more, either, false_of, same_or}

-- The row to look at after row u.
module _ (s : Sheet) (u : ℕ) where
  -- it lies above u, and no unit lies between
  module _ (ok : Importing s) (l : u < rows s) where
    pub following_above : (u < following s u) × (following s u ≤ 4294967295)
    unfolding following
    following_above = go (is s UNIT u) (eqb (next s u) 0) refl
      where
        rise : (next s u ≡ 0 → ⊥) → (u < next s u) × (next s u < rows s)
        rise f = ⊎_elim (λ e. absurd (f e)) (λ q. q) (ok.nexts u l)

        go : (t w : Bool) → eqb (next s u) 0 ≡ w
            → (u < (when t then (when w then 4294967295 else next s u) else u + 1)) × ((when t then (when w then 4294967295 else next s u) else u + 1) ≤ 4294967295)
        go false w e = (omega arith, omega (arith, ok.few))
        go true true e = (omega (arith, ok.few), omega arith)
        go true false e = let q = rise (eqb-false (next s u) 0 e) in (q.0, omega (arith, q.1, ok.few))

    pub following_most : (v : ℕ) → T (v ∈? units s) → u < v → following s u ≤ v
    unfolding following
    following_most v m b = go (is s UNIT u) refl (eqb (next s u) 0) refl
      where
        go : (t : Bool) → is s UNIT u ≡ t → (w : Bool) → eqb (next s u) 0 ≡ w → (when t then (when w then 4294967295 else next s u) else u + 1) ≤ v
        go false p w e = omega arith
        go true p true e = absurd ((ok.in_line u v (row_unit s u l (T_true (is s UNIT u) p)) m b).0 (eqb-true (next s u) 0 e))
        go true p false e = (ok.in_line u v (row_unit s u l (T_true (is s UNIT u) p)) m b).1

-- Where the next unit is looked for:
-- it is no later than the next row to look at, and a lower unit noted at u
after_most : (s low : List ℕ) (u : ℕ) → u < following s u → after_start s low u ≤ following s u
unfolding after_start
after_most s low u l = go (eqb (get_or low u 0) 0) (ltb (get_or low u 0) u) refl
  where
    go : (t w : Bool) → ltb (get_or low u 0) u ≡ w → (when t then following s u else when w then get_or low u 0 else following s u) ≤ following s u
    go true w e = omega arith
    go false true e = omega (arith, ltb-true (get_or low u 0) u e)
    go false false e = omega arith

after_low : (s low : List ℕ) (u : ℕ) → 0 < get_or low u 0 → get_or low u 0 < u → after_start s low u ≡ get_or low u 0
unfolding after_start
after_low s low u p l = rw (ne_eqb (get_or low u 0) 0 (λ e. omega (arith, e)), lt-ltb (get_or low u 0) u l)

startable_unit : (s : Sheet) (m : List ℕ) (u : ℕ) → T (startable s m u) → T (is s UNIT u)
unfolding startable
startable_unit s m u h = (T_and (is s UNIT u) (not (marked m u)) (T_and (is s UNIT u && not (marked m u)) (all (marked m) (imports_of s u)) h).0).0

-- The search for the lowest ready unit stands at row u.
abbrev pub Looking : Sheet → List ℕ → ℕ → ℕ → Type 0
Looking s m start u = (start ≤ u) × ((v : ℕ) → start ≤ v → v < u → v < rows s → T (startable s m v) → ⊥)

module _ (s : Sheet) (m : List ℕ) (start u : ℕ) (h : Looking s m start u) where
  pub looking_more : Importing s → u < rows s → startable s m u ≡ false → {x : ℕ} → x ≡ following s u → Looking s m start x
  looking_more ok l e to =
      let up = (following_above s u ok l).0 in
      rw to (
        omega (arith, h.0, up),
        λ v j b r t.
            ⊎_elim (λ (q : v ≡ u). subst T (ap (startable s m) q ∙ e) t)
            (λ f.
            ⊎_elim (λ c. h.1 v j (ltb-true v u c) r t)
            (λ c.
            let after : u < v = omega (arith, ltb-false v u c, f) in
            let most : following s u ≤ v = following_most s u ok l v (row_unit s v r (startable_unit s m v t)) after in
            omega arith)
            (either (ltb v u)))
            (same_or v u),
      )

  pub looking_some : Importing s → startable s m u ≡ true → u ≡ 0 → ⊥
  looking_some ok e z = T_not (is s UNIT 0) ok.header (subst (λ (i : ℕ). T (is s UNIT i)) z (startable_unit s m u (T_true (startable s m u) e)))

  pub looking_found : Importing s → u < rows s → startable s m u ≡ true → LowestFrom s m start u
  looking_found ok l e =
      record { none = λ z. absurd (looking_some ok e z); some = λ f. (h.0, l, T_true (startable s m u) e); least = λ f v j b. h.1 v j b (omega arith) }

  pub looking_none : rows s ≤ u → LowestFrom s m start 0
  looking_none l = record { none = λ z v b k. h.1 v b (omega arith) k; some = λ f. absurd (f refl); least = λ f. absurd (f refl) }

-- By marks that are those of the units started: ready is startable.
module _ (s : Sheet) (m started : List ℕ) (h : Marks s m started) where
  pub startable_ready : (v : ℕ) → v < rows s → T (startable s m v) → T (v ∈? units s) × T (ready (imports_of s) started v)
  unfolding startable
  startable_ready v l g =
      let q = T_and (is s UNIT v && not (marked m v)) (all (marked m) (imports_of s v)) g in
      let r = T_and (is s UNIT v) (not (marked m v)) q.0 in (
        row_unit s v l r.0,
        and_both (not (v ∈? started)) (all (λ x. x ∈? started) (imports_of s v)) (subst (λ (t : Bool). T (not t)) (h.same v) r.1)
            (all_more (marked m) (λ x. x ∈? started) (imports_of s v) (λ x k. subst T (h.same x) k) q.1),
      )

  pub ready_startable : (v : ℕ) → T (v ∈? units s) → T (ready (imports_of s) started v) → T (startable s m v)
  unfolding startable
  ready_startable v k g =
      let q = T_and (not (v ∈? started)) (all (λ x. x ∈? started) (imports_of s v)) g in
      and_both (is s UNIT v && not (marked m v)) (all (marked m) (imports_of s v))
      (and_both (is s UNIT v) (not (marked m v)) (unit_row_lem s v k).1 (subst (λ (t : Bool). T (not t)) (sym (h.same v)) q.0))
      (all_more (λ x. x ∈? started) (marked m) (imports_of s v) (λ x y. subst T (sym (h.same x)) y) q.1)

-- a list with one more at its end, as a test
pub in_more : (v u : ℕ) (xs : List ℕ) → (v ≡ u → ⊥) → (v ∈? xs) ≡ (v ∈? (xs ++ u ∷ []))
in_more v u xs f =
    ⊎_elim (λ h. true_of (v ∈? xs) h ∙ sym (true_of (v ∈? (xs ++ u ∷ [])) (in_before v u xs h)))
    (λ h.
    false_of (v ∈? xs) (T_not (v ∈? xs) h)
    ∙ sym (false_of (v ∈? (xs ++ u ∷ [])) (λ k. ⊎_elim (T_not (v ∈? xs) h) f (in_either v u xs k))))
    (decide (v ∈? xs))

-- the marks with one unit more
module _ (s : Sheet) (m started : List ℕ) (h : Marks s m started) (u n : ℕ) (l : u < rows s) where
  wide : u < length m
  wide = omega (arith, h.room)

  pub marks_more : Marks s (set m u (n + 1)) (started ++ u ∷ [])
  marks_more = record { room = omega (arith, h.room, length-set m u (n + 1)); same = λ v. ⊎_elim (here v) (other v) (same_or v u) }
    where
      here : (v : ℕ) → v ≡ u → marked (set m u (n + 1)) v ≡ (v ∈? (started ++ u ∷ []))
      here v e =
          let now : get_or (set m u (n + 1)) v 0 ≡ n + 1 = ap (λ (i : ℕ). get_or (set m u (n + 1)) i 0) e ∙ get_or-set_same m u (n + 1) 0 wide in
          ap not (ne_eqb (get_or (set m u (n + 1)) v 0) 0 (λ z. omega (arith, z, now))) ∙ sym (true_of (v ∈? (started ++ u ∷ [])) (in_last v u started e))

      other : (v : ℕ) → (v ≡ u → ⊥) → marked (set m u (n + 1)) v ≡ (v ∈? (started ++ u ∷ []))
      other v f = ap (λ (y : ℕ). not (eqb y 0)) (get_or-set_other m u v (n + 1) 0 f) ∙ h.same v ∙ in_more v u started f

  pub waits_more : (w : List ℕ) → Waits s m w → Waits s (set m u (n + 1)) w
  waits_more w k =
      record {
        room = k.room;
        row = k.row;
        rest = λ v b f. let p = k.rest v b f in (p.0, p.1, all_more (marked m) (marked (set m u (n + 1))) p.0 kept p.2);
      }
    where
      kept : (x : ℕ) → T (marked m x) → T (marked (set m u (n + 1)) x)
      kept x g = subst T (sym (marks_more.same x)) (in_before x u started (subst T (h.same x) g))

abbrev pub started_by : Sheet → ℕ → List ℕ
started_by s n = started_after (imports_of s) (units s) n

-- further steps start none where none is ready
stuck_more : (s : Sheet) (n : ℕ) → take 1 (filter (ready (imports_of s) (started_by s n)) (units s)) ≡ [] → (j : ℕ) → started_by s (j + n) ≡ started_by s n
stuck_more s n e zero = let same : 0 + n ≡ n = omega arith in ap (started_by s) same
stuck_more s n e (suc j) =
    let one : suc j + n ≡ suc (j + n) = omega arith in
    ap (started_by s) one ∙ ap (λ (x : List ℕ). x ++ take 1 (filter (ready (imports_of s) x) (units s))) (stuck_more s n e j)
    ∙ stuck_same (imports_of s) (units s) (units_rising s) n e

-- The loop after n units: the list held `before` when it began.
pub record Running (s before m w list : List ℕ) (start n : ℕ) : Type 0 where
  pub few : n ≤ rows s
  pub long : length (started_by s n) ≡ n
  pub marks : Marks s m (started_by s n)
  pub waits : Waits s m w
  pub written : list ≡ sets before 0 (started_by s n)
  pub below : (v : ℕ) → v < start → v < rows s → T (startable s m v) → ⊥

pub running_start : (s before m w : List ℕ) → Marks s m [] → Waits s m w → Running s before m w before 0 0
running_start s before m w h k =
    record { few = omega arith; long = refl; marks = h; waits = k; written = refl; below = λ v l. absurd (omega arith) }

module _ (s before m w list : List ℕ) (start n : ℕ) (h : Running s before m w list start n) where
  -- no step is left, or none is ready
  pub running_full : rows s ≤ n → Started s before n m list
  unfolding order
  running_full l =
      let e : n ≡ rows s = omega (arith, h.few) in
      let same : started_by s n ≡ order s = ap (started_by s) e in
      record {
        count = sym h.long ∙ ap length same;
        few = h.few;
        marks = subst (Marks s m) same h.marks;
        list = h.written ∙ ap (sets before 0) same;
      }

  pub running_stop : (x : ℕ) → LowestFrom s m start x → x ≡ 0 → Started s before n m list
  unfolding order
  running_stop x low e =
      let steps : rows s - n + n ≡ rows s = omega (arith, h.few) in
      let same : started_by s n ≡ order s =
      sym (stuck_more s n (⊎_elim (λ r. r.1) (λ r. absurd (none r.0 r.2.listed r.2.passes)) (passing (ready (imports_of s) (started_by s n)) (units_rising s))) (rows s - n))
      ∙ ap (started_by s) steps in
      record {
        count = sym h.long ∙ ap length same;
        few = h.few;
        marks = subst (Marks s m) same h.marks;
        list = h.written ∙ ap (sets before 0) same;
      }
    where
      none : (v : ℕ) → T (v ∈? units s) → T (ready (imports_of s) (started_by s n) v) → ⊥
      none v k g =
          let t = ready_startable s m (started_by s n) h.marks v k g in
          ⊎_elim (λ b. h.below v (ltb-true v start b) (unit_row_lem s v k).0 t) (λ b. low.none e v (ltb-false v start b) (unit_row_lem s v k).0 t) (either (ltb v start))

  -- unit u starts
  module _ (u : ℕ) (low : LowestFrom s m start u) (f : u ≡ 0 → ⊥) where
    found : (start ≤ u) × (u < rows s) × T (startable s m u)
    found = low.some f

    first_ready : (v : ℕ) → v < u → T (startable s m v) → ⊥
    first_ready v l t = ⊎_elim (λ b. h.below v (ltb-true v start b) (omega (arith, found.1)) t) (λ b. low.least f v (ltb-false v start b) l t) (either (ltb v start))

    pub next_is : started_by s (n + 1) ≡ started_by s n ++ u ∷ []
    next_is =
        let q = startable_ready s m (started_by s n) h.marks u found.1 found.2 in
        ap (started_by s) (add-one n)
        ∙ ap (λ (x : List ℕ). started_by s n ++ x)
        (⊎_elim (λ r. absurd (r.0 u q.0 q.1))
        (λ r.
        let most : r.0 ≤ u = r.2.least u q.0 q.1 in
        let least : r.0 < u → ⊥ = λ l. first_ready r.0 l (ready_startable s m (started_by s n) h.marks r.0 r.2.listed r.2.passes) in
        let same : r.0 ≡ u = omega arith in
        r.1 ∙ ap (λ (i : ℕ). i ∷ []) same)
        (passing (ready (imports_of s) (started_by s n)) (units_rising s)))

    started_more : Marks s (set m u (n + 1)) (started_by s (n + 1))
    started_more = subst (Marks s (set m u (n + 1))) (sym next_is) (marks_more s m (started_by s n) h.marks u n found.1)

    -- a unit below the next place to look is not ready: it was not before, and it does not import u
    module _ (importers : List ℕ) (low_is : Importers s importers) (ok : Importing s) (v : ℕ) (l : v < after_start s importers u) (r : v < rows s)
        (t : T (startable s (set m u (n + 1)) v)) where
      now : T (v ∈? units s) × T (ready (imports_of s) (started_by s n ++ u ∷ []) v)
      now =
          subst (λ (x : List ℕ). T (v ∈? units s) × T (ready (imports_of s) x v)) next_is
          (startable_ready s (set m u (n + 1)) (started_by s (n + 1)) started_more v r t)

      tests : T (not (v ∈? (started_by s n ++ u ∷ []))) × T (all (λ x. x ∈? (started_by s n ++ u ∷ [])) (imports_of s v))
      tests = T_and (not (v ∈? (started_by s n ++ u ∷ []))) (all (λ x. x ∈? (started_by s n ++ u ∷ [])) (imports_of s v)) now.1

      apart : v ≡ u → ⊥
      apart e = T_not (v ∈? (started_by s n ++ u ∷ [])) tests.0 (in_last v u (started_by s n) e)

      lower : v < u
      lower =
          ⊎_elim (λ c. ltb-true v u c)
          (λ c.
          let after : u < v = omega (arith, ltb-false v u c, apart) in
          absurd
          (omega (arith, after_most s importers u (following_above s u ok found.1).0, following_most s u ok found.1 v now.0 after)))
          (either (ltb v u))

      importing : T (u ∈? imports_of s v) → ⊥
      importing k =
          let p = low_is.lowest v u now.0 k in
          omega (arith, p.1, lower, after_low s importers u p.0 (omega (arith, p.1, lower)))

      was_ready : T (ready (imports_of s) (started_by s n) v)
      was_ready =
          and_both (not (v ∈? started_by s n)) (all (λ x. x ∈? started_by s n) (imports_of s v))
          (not_T (v ∈? started_by s n) (λ k. T_not (v ∈? (started_by s n ++ u ∷ [])) tests.0 (in_before v u (started_by s n) k)))
          (⊎_elim (λ k. k)
          (λ r.
          absurd (⊎_elim (T_not (r.0 ∈? started_by s n) r.2) (λ (e : r.0 ≡ u). importing (subst (λ (x : ℕ). T (x ∈? imports_of s v)) e r.1))
          (in_either r.0 u (started_by s n) (all_member (λ x. x ∈? (started_by s n ++ u ∷ [])) (imports_of s v) tests.1 r.0 r.1))))
          (all_or_one (λ x. x ∈? started_by s n) (imports_of s v)))

      none_below : ⊥
      none_below = first_ready v lower (ready_startable s m (started_by s n) h.marks v now.0 was_ready)

    pub running_more : Importing s → n < rows s → {importers m' w' list' : List ℕ} {x : ℕ} → Importers s importers → Waits s m w'
        → m' ≡ set m u (n + 1) → list' ≡ set list n u → x ≡ after_start s importers u → Running s before m' w' list' x (n + 1)
    running_more ok l {importers} {m'} {w'} {list'} {x} low_is k mark write to =
        rw (mark, write, to)
        (record {
          few = omega arith;
          long = ap length next_is ∙ length-append (started_by s n) (u ∷ []) ∙ ap (λ (i : ℕ). i + 1) h.long;
          marks = started_more;
          waits = waits_more s m (started_by s n) h.marks u n found.1 w' k;
          written =
              ap (λ (y : List ℕ). set y n u) h.written
              ∙ sym (sets_more before 0 (started_by s n) (u ∷ []) {q = n} (omega (arith, h.long)))
              ∙ ap (sets before 0) (sym next_is);
          below = λ v b r t. none_below importers low_is ok v b r t;
        })

-- tables of zeros
pub waits_none : (s m w : List ℕ) → 0 < rows s → Unnoted s w → Waits s m w
waits_none s m w p h =
    record { room = h.room; row = λ u l. omega (arith, h.free u, p); rest = λ u k f. absurd (f (h.free u)) }

pub zero_at : (n i : ℕ) → ◌≡◌ {A = ℕ} (get_or (replicate n 0) i 0) 0
zero_at zero i = refl
zero_at (suc n) zero = refl
zero_at (suc n) (suc i) = zero_at n i

pub unnoted_zeros : (s : List ℕ) (n : ℕ) → rows s ≤ n → Unnoted s (replicate n 0)
unnoted_zeros s n l = record { room = omega (arith, length-replicate {A = ℕ} n 0); free = zero_at n }
