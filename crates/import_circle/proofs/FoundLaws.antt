-- The units that a search has found, row by row and unit by unit.
use mathlib.Core.Path.{◌≡◌, refl, sym, ap, ◌∙◌, subst}
use mathlib.Core.Logic.{◌⊎◌, inl, inr, ⊎_elim}
use mathlib.Core.Bool.{Bool, true, false, not}
use mathlib.Core.List.{List, [], ◌∷◌, ◌++◌, map}
use Prim.Native.Nat.{ℕ, suc, ◌+◌, ◌<◌, ◌≤◌}
use Rattle.std.specs.Prelude.{min}
use native.Mathlib.Omega.{arith}
use lib.Dec.{T, eqb}
use lib.ListN.{length, get_or, set, replicate, length-set, length-append, get_or-append}
use lib.Seq.{get_or-set_same, get_or-set_other, get_or-append_seam}
use borrow.Author.Tests.{eq-eqb, ne_eqb}
use Rattle.definition.specs.Basics.{when◌then◌else◌, ◌∈?◌}
use Rattle.definition.specs.Kind.{IMPORT}
use Rattle.definition.specs.Sheet.{Sheet, a, rows, kids_of}
use Rattle.definition.proofs.Lists.Tests.{true_of, T_true}
use Rattle.definition.proofs.Lists.Counts.{in_head, in_tail, in_cases}
use Rattle.definition.proofs.Lists.Members.{Nodup, nodup_none, nodup_one, nodup_append, mem_test, pigeonhole}
use Rattle.unit_order.specs.Order.{units, imports_of}
use Rattle.unit_order.proofs.StartLaws.{in_before, in_last, in_either}
use Rattle.unit_order.proofs.SheetLaws.{unit_row_lem}
use Rattle.start_units.specs.Starting.{Importing, marked}
use Rattle.start_units.proofs.ReadyLaws.{same_or}
use Rattle.start_units.proofs.StartedLaws.{in_more, zero_at}
use Rattle.import_circle.specs.Search.{added, Holds}

-- What is added to the units found.
pub added_kept : (vs found : List ℕ) (x : ℕ) → T (x ∈? found) → T (x ∈? added found vs)
unfolding added
added_kept [] found x m = m
added_kept (v ∷ vs) found x m = added_kept vs (when v ∈? found then found else found ++ v ∷ []) x (go (v ∈? found))
  where
    go : (t : Bool) → T (x ∈? (when t then found else found ++ v ∷ []))
    go true = m
    go false = in_before x v found m

pub added_new : (vs found : List ℕ) (x : ℕ) → T (x ∈? vs) → T (x ∈? added found vs)
unfolding added
added_new [] found x m = absurd m
added_new (v ∷ vs) found x m =
    ⊎_elim (λ (e : x ≡ v). added_kept vs (when v ∈? found then found else found ++ v ∷ []) x (go (v ∈? found) refl e))
    (λ k. added_new vs (when v ∈? found then found else found ++ v ∷ []) x k) (in_cases x v vs m)
  where
    go : (t : Bool) → (v ∈? found) ≡ t → x ≡ v → T (x ∈? (when t then found else found ++ v ∷ []))
    go true q e = subst (λ (y : ℕ). T (y ∈? found)) (sym e) (T_true (v ∈? found) q)
    go false q e = in_last x v found e

pub added_from : (vs found : List ℕ) (x : ℕ) → T (x ∈? added found vs) → T (x ∈? found) ⊎ T (x ∈? vs)
unfolding added
added_from [] found x m = inl m
added_from (v ∷ vs) found x m =
    ⊎_elim (λ k. go (v ∈? found) k) (λ k. inr (in_tail x v vs k)) (added_from vs (when v ∈? found then found else found ++ v ∷ []) x m)
  where
    go : (t : Bool) → T (x ∈? (when t then found else found ++ v ∷ [])) → T (x ∈? found) ⊎ T (x ∈? (v ∷ vs))
    go true k = inl k
    go false k = ⊎_elim inl (λ e. inr (in_head x v vs e)) (in_either x v found k)

-- those found before stay in their places
pub added_places : (vs found : List ℕ) → (length found ≤ length (added found vs)) × ((i : ℕ) → i < length found → get_or (added found vs) i 0 ≡ get_or found i 0)
unfolding added
added_places [] found = (omega arith, λ i l. refl)
added_places (v ∷ vs) found = go (v ∈? found) (added_places vs (when v ∈? found then found else found ++ v ∷ []))
  where
    go : (t : Bool) → (length (when t then found else found ++ v ∷ []) ≤ length (added (when t then found else found ++ v ∷ []) vs))
        × ((i : ℕ) → i < length (when t then found else found ++ v ∷ []) → get_or (added (when t then found else found ++ v ∷ []) vs) i 0 ≡ get_or (when t then found else found ++ v ∷ []) i 0)
        → (length found ≤ length (added (when t then found else found ++ v ∷ []) vs)) × ((i : ℕ) → i < length found → get_or (added (when t then found else found ++ v ∷ []) vs) i 0 ≡ get_or found i 0)
    go true h = h
    go false h =
        let long = length-append found (v ∷ []) in
        (omega (arith, h.0, long), λ i l. h.1 i (omega (arith, long)) ∙ get_or-append found (v ∷ []) 0 i l)

-- Marks and queue with one more unit.
module _ (m q : List ℕ) (n : ℕ) (found : List ℕ) (h : Holds m q n found) where
  pub holds_few : n ≤ length m
  holds_few = omega (arith, h.count, pigeonhole (length m) h.once (λ x k. h.below x (mem_test x found k)))

  module _ (v : ℕ) (wide : v < length m) (new : T (v ∈? found) → ⊥) where
    once_more : Nodup (found ++ v ∷ [])
    once_more =
        nodup_append h.once (nodup_one (λ k. absurd (mem_test v [] k)) nodup_none)
        (λ x k g. new (subst (λ (y : ℕ). T (y ∈? found)) (⊎_elim (λ e. e) absurd (in_cases x v [] (mem_test x (v ∷ []) g))) (mem_test x found k)))

    below_more : (x : ℕ) → T (x ∈? (found ++ v ∷ [])) → x < length m
    below_more x k = ⊎_elim (h.below x) (λ (e : x ≡ v). omega arith) (in_either x v found k)

    -- there is room for it
    pub holds_room : n < length m
    holds_room =
        omega (
          arith,
          h.count,
          length-append found (v ∷ []),
          pigeonhole (length m) once_more (λ x k. below_more x (mem_test x (found ++ v ∷ []) k)),
        )

    pub holds_more : Holds (set m v 1) (set q n v) (suc n) (found ++ v ∷ [])
    holds_more =
        record {
          count = omega (arith, h.count, length-append found (v ∷ []));
          room = omega (arith, h.room, length-set m v 1, length-set q n v);
          below = λ x k. omega (arith, below_more x k, length-set m v 1);
          once = once_more;
          marks = λ x. ⊎_elim (marked_new x) (marked_old x) (same_or x v);
          queue = λ i l. ⊎_elim (λ (e : i ≡ n). queue_new i e) (λ f. queue_old i f (omega arith)) (same_or i n);
        }
      where
        marked_new : (x : ℕ) → x ≡ v → marked (set m v 1) x ≡ (x ∈? (found ++ v ∷ []))
        marked_new x e =
            ap (λ (i : ℕ). marked (set m v 1) i) e ∙ ap (λ (y : ℕ). not (eqb y 0)) (get_or-set_same m v 1 0 wide)
            ∙ sym (true_of (x ∈? (found ++ v ∷ [])) (in_last x v found e))

        marked_old : (x : ℕ) → (x ≡ v → ⊥) → marked (set m v 1) x ≡ (x ∈? (found ++ v ∷ []))
        marked_old x f = ap (λ (y : ℕ). not (eqb y 0)) (get_or-set_other m v x 1 0 f) ∙ h.marks x ∙ in_more x v found f

        queue_new : (i : ℕ) → i ≡ n → get_or (set q n v) i 0 ≡ get_or (found ++ v ∷ []) i 0
        queue_new i e =
            ap (λ (j : ℕ). get_or (set q n v) j 0) e ∙ get_or-set_same q n v 0 (omega (arith, holds_room, h.room))
            ∙ sym (ap (λ (j : ℕ). get_or (found ++ v ∷ []) j 0) (e ∙ h.count) ∙ get_or-append_seam found v [] 0)

        queue_old : (i : ℕ) → (i ≡ n → ⊥) → i < n → get_or (set q n v) i 0 ≡ get_or (found ++ v ∷ []) i 0
        queue_old i f l =
            get_or-set_other q n i v 0 f ∙ h.queue i l ∙ sym (get_or-append found (v ∷ []) 0 i (omega (arith, h.count)))

-- One unit, as the routine takes it.
module _ (v : ℕ) (m q : List ℕ) (n : ℕ) (found : List ℕ) (h : Holds m q n found) where
  pub add_old : (get_or m v 0 ≡ 0 → ⊥) → Holds m q n (added found (v ∷ []))
  unfolding added
  add_old f =
      let there : (v ∈? found) ≡ true = sym (h.marks v) ∙ ap not (ne_eqb (get_or m v 0) 0 f) in
      subst (Holds m q n) (sym (ap (λ (t : Bool). when t then found else found ++ v ∷ []) there)) h

  pub add_new_lem : get_or m v 0 ≡ 0 → v < length m → length m ≤ 2048 → {m' q' : List ℕ} {x : ℕ}
      → m' ≡ set m v 1 → q' ≡ set q n v → x ≡ min (n + 1) 4294967295 → Holds m' q' x (added found (v ∷ []))
  unfolding added
  add_new_lem free l few mark write to_n =
      let absent : (v ∈? found) ≡ false = sym (h.marks v) ∙ ap not (eq-eqb (get_or m v 0) 0 free) in
      let new : T (v ∈? found) → ⊥ = λ g. subst T absent g in
      let count : min (n + 1) 4294967295 ≡ suc n = omega (arith, holds_few m q n found h) in
      rw (mark, write, to_n ∙ count, ap (λ (t : Bool). when t then found else found ++ v ∷ []) absent) (holds_more m q n found h v l new)

-- The loop over the imports of unit u has those of rows ks left: `now` is found, of what was found when it began.
pub record Adding (s : Sheet) (u : ℕ) (m₀ q₀ : List ℕ) (count : ℕ) (m q : List ℕ) (n : ℕ) (ks : List ℕ) : Type 0 where
  pub rest : (v : ℕ) → T (v ∈? map (a s) ks) → T (v ∈? imports_of s u)
  pub found : (found : List ℕ) → Holds m₀ q₀ count found → (now : List ℕ) × Holds m q n now × (added now (map (a s) ks) ≡ added found (imports_of s u))

pub adding_start : (s : Sheet) (u : ℕ) (m q : List ℕ) (count : ℕ) {ks : List ℕ} → ks ≡ kids_of s IMPORT u → Adding s u m q count m q count ks
unfolding imports_of
adding_start s u m q count e =
    record {
      rest = λ v k. subst (λ (l : List ℕ). T (v ∈? map (a s) l)) e k;
      found = λ found h. (found, h, ap (λ (l : List ℕ). added found (map (a s) l)) e);
    }

module _ (s : Sheet) (u : ℕ) (m₀ q₀ : List ℕ) (count : ℕ) (m q : List ℕ) (n : ℕ) {ks : List ℕ} (h : Adding s u m₀ q₀ count m q n ks) where
  module _ {k : ℕ} {js : List ℕ} (e : ks ≡ k ∷ js) where
    -- the unit that is next has its place among the marks
    pub adding_wide : Importing s → T (u ∈? units s) → a s k < rows s
    adding_wide ok unit =
        let there : T (a s k ∈? imports_of s u) = h.rest (a s k) (subst (λ (l : List ℕ). T (a s k ∈? map (a s) l)) (sym e) (in_head (a s k) (a s k) (map (a s) js) refl)) in
        (unit_row_lem s (a s k) (ok.closed u (a s k) unit there)).0

    pub adding_more : {m' q' : List ℕ} {n' : ℕ} → ((found : List ℕ) → Holds m q n found → Holds m' q' n' (added found (a s k ∷ []))) → Adding s u m₀ q₀ count m' q' n' js
    unfolding added
    adding_more step =
        record {
          rest = λ v g. h.rest v (subst (λ (l : List ℕ). T (v ∈? map (a s) l)) (sym e) (in_tail v (a s k) (map (a s) js) g));
          found = λ found g. let p = h.found found g in (added p.0 (a s k ∷ []), step p.0 p.1, sym (ap (λ (l : List ℕ). added p.0 (map (a s) l)) e) ∙ p.2);
        }

  pub adding_end : ks ≡ [] → (found : List ℕ) → Holds m₀ q₀ count found → Holds m q n (added found (imports_of s u))
  unfolding added
  adding_end e found g =
      let p = h.found found g in
      subst (Holds m q n) (sym (ap (λ (l : List ℕ). added p.0 (map (a s) l)) e) ∙ p.2) p.1

-- nothing is found in tables of zeros
pub holds_none : (n : ℕ) → Holds (replicate n 0) (replicate n 0) 0 []
holds_none n =
    record {
      count = refl;
      room = omega arith;
      below = λ v k. absurd k;
      once = nodup_none;
      marks = λ v. ap not (eq-eqb (get_or (replicate n 0) v 0) 0 (zero_at n v));
      queue = λ i b. absurd (omega arith);
    }
