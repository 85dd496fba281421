-- The machine marks an identifier as hidden, at a call, exactly where the definition gives it no row.
use mathlib.Core.Path.{◌≡◌, refl, sym, ap, ◌∙◌, subst}
use mathlib.Core.Logic.{inl, inr}
use mathlib.Core.List.Memᴰ
use mathlib.Core.List.Memᴰ.{head as here}
use mathlib.Core.List.Memᴰ.{tail as there}
use mathlib.Core.List.{List, [], ◌∷◌, Memᴰ as Mem}
use mathlib.Core.Bool.{Bool, true, false, not, ◌&&◌}
use Prim.Native.Nat.{ℕ, zero, suc, ◌<◌, ◌≤◌}
use native.Mathlib.Omega.{arith}
use lib.ListN.{get_or}
use lib.Dec.{eqb, T, eqb_refl, eqb→eq}
use Rattle.definition.specs.Basics.{when◌then◌else◌, count, total}
use Rattle.definition.specs.Sheet.{Sheet, kind, rows, is, a, child, next, kids, chain, holder}
use Rattle.definition.specs.Outside.{Outside}
use Rattle.definition.specs.Shape.{expression}
use Rattle.definition.specs.Meaning.{class_number, is_class}
use Rattle.definition.specs.Walk.{Event, enter, leave, loop, declare, bring, visit, walk}
use Rattle.definition.specs.Scope.{Moment, lookup, around, history, start, visited, visits, visit_of}
use Rattle.definition.specs.Capture.{use_at}
use Rattle.definition.specs.Question.{open_on, receiver}
use Rattle.definition.specs.Answer.{is_callee_base, class_calls}
use Rattle.definition.specs.Bounds.{walked, own}
use Rattle.definition.proofs.Lists.Tests.{and_both, and_left, and_right, eqb_of}
use Rattle.definition.proofs.Lists.Members.{mem_filter, filter_mem, any_mem, mem_any, test_mem, count_some, count_mem}
use Rattle.definition.proofs.Format.Links.{Rises, held}
use Rattle.definition.proofs.Format.Shapes.{no_children, one_child}
use Rattle.definition.proofs.Format.Facts.{SheetFacts}
use Rattle.definition.proofs.Format.Tree.{children_of}
use Rattle.definition.proofs.Format.Passes.{chain_on}
use Rattle.definition.proofs.Walk.Fits.{Fits}
use Rattle.definition.proofs.Walk.Rows.{kind_not_zero, holder_is, reached_root}
use Rattle.definition.proofs.Walk.Walked.{found}
use Rattle.definition.proofs.Walk.Whole.{statement_walked}
use Rattle.definition.proofs.Walk.Moments.{mem_moments}
use Rattle.definition.proofs.Walk.Once.{count_trace, visit_of_lem}
use Rattle.definition.proofs.Walk.Told.{Told, t_visit, told}
use Rattle.machine.proofs.StoreParts.{is_hidden}
use Rattle.machine.proofs.Callees.{Callee, base_visited, own_visit}

same_test : (x y : Bool) → (T x → T y) → (T y → T x) → x ≡ y
same_test true true f g = refl
same_test true false f g = absurd (f tt)
same_test false true f g = absurd (g tt)
same_test false false f g = refl

mem_total : (f : ℕ → ℕ) (x : ℕ) (xs : List ℕ) → Mem x xs → f x ≤ total f xs
mem_total f x [] m = absurd (Memᴰ.not-nil m)
mem_total f x (y ∷ ys) (here e) = let q : f x ≡ f y = ap f e in omega arith
mem_total f x (y ∷ ys) (there m) = omega (arith, mem_total f x ys m)

pub visited_event : (e : Event) (x : ℕ) → visited e ≡ x → (x ≡ 0 → ⊥) → e ≡ visit x
visited_event (enter r) x p z = absurd (z (sym p))
visited_event leave x p z = absurd (z (sym p))
visited_event loop x p z = absurd (z (sym p))
visited_event (declare r) x p z = absurd (z (sym p))
visited_event (bring r n d) x p z = absurd (z (sym p))
visited_event (visit r) x p z = ap visit p

pub nonzero : (x : ℕ) → (x ≡ 0 → ⊥) → 0 < x
nonzero zero h = absurd (h refl)
nonzero (suc x) h = omega arith

chosen : (t : Bool) (k : ℕ) → T (not (eqb (when t then k else 0) 0)) → T t × T (not (eqb k 0))
chosen true k h = (tt, h)
chosen false k h = absurd h

choose : (t : Bool) (k : ℕ) → T t → T (not (eqb k 0)) → T (not (eqb (when t then k else 0) 0))
choose true k h g = g
choose false k h g = absurd h

module _ (n : ℕ) {O : Outside} {s : Sheet} (ok : Fits O s) (fa : SheetFacts n s) where
  pub child_range : (p : ℕ) → p < rows s → (child s p ≡ 0 → ⊥) → child s p < rows s
  child_range p l z = go (ok.links.children p l)
    where
      go : Rises s p (child s p) → child s p < rows s
      go (inl e) = absurd (z e)
      go (inr q) = q.1

  first_kid : (p : ℕ) → p < rows s → (child s p ≡ 0 → ⊥) → kids s p ≡ child s p ∷ chain (rows s) s (next s (child s p))
  first_kid p l z = chain_on s ok.links.nexts (child s p) (nonzero (child s p) z) (child_range p l z)

  -- a member has one child
  member_kid : (e : ℕ) → e < rows s → T (is s 54 e) → (k : ℕ) × (kids s e ≡ k ∷ [])
  member_kid e l t =
      let o = one_child (kind s) expression [] (kids s e) (children_of n s fa 54 e t l) in
      (o.0, o.2 ∙ ap (λ (zs : List ℕ). o.0 ∷ zs) (no_children (kind s) o.1 o.4))

  only_kid : (e : ℕ) → e < rows s → T (is s 54 e) → (child s e ≡ 0 → ⊥) → kids s e ≡ child s e ∷ []
  only_kid e l t z =
      let q = member_kid e l t in
      let h : child s e ≡ q.0 = ap (λ (xs : List ℕ). get_or xs 0 0) (sym (first_kid e l z) ∙ q.1) in
      q.1 ∙ ap (λ (k : ℕ). k ∷ []) (sym h)

  callee : (c e r : ℕ) → c < rows s → T (is s 59 c) → child s c ≡ e → T (is s 54 e) → child s e ≡ r → T (is s 50 r) → Callee s c e r
  callee c e r l t qe te qr tr =
      let zc : child s c ≡ 0 → ⊥ = λ h. kind_not_zero ok 54 e tt te (sym qe ∙ h) in
      let le : e < rows s = subst (λ (k : ℕ). k < rows s) qe (child_range c l zc) in
      let ze : child s e ≡ 0 → ⊥ = λ h. kind_not_zero ok 50 r tt tr (sym qr ∙ h) in
      let lr : r < rows s = subst (λ (k : ℕ). k < rows s) qr (child_range e le ze) in
      record {
        call = t;
        member = te;
        base = tr;
        range = lr;
        later = chain (rows s) s (next s (child s c));
        kids_call = first_kid c l zc ∙ ap (λ (k : ℕ). k ∷ chain (rows s) s (next s (child s c))) qe;
        kids_member = only_kid e le te ze ∙ ap (λ (k : ℕ). k ∷ []) qr;
        kids_base = no_children (kind s) (kids s r) (children_of n s fa 50 r tr lr);
      }

  pub visit_range : (m : Moment) (c : ℕ) → Mem m (history O s) → m.event ≡ visit c → c < rows s
  visit_range m c q e = go (subst (λ (v : Event). Told s (around s m.stack) v) e (told ok m q))
    where
      go : {fs : List ℕ} → Told s fs (visit c) → c < rows s
      go (t_visit h w) = (found ok (rows s) 0 c (reached_root ok) w).reached.in_range

  -- the stack at the base is that at the call
  same_moment : (c e r : ℕ) → Callee s c e r → (m m' : Moment) → visit_of (history O s) r ≡ m ∷ [] → Mem m' (history O s) → m'.event ≡ visit c → record { event = visit r; stack = m'.stack } ≡ m
  same_moment c e r y m m' h q v =
      let x : Moment = record { event = visit r; stack = m'.stack } in
      let w : visit_of (history O s) r ≡ x ∷ [] = visit_of_lem ok x (base_visited ok c e r y m' q v) (kind_not_zero ok 50 r tt y.base) in
      ap (λ (l : List Moment). get_or l 0 m) (sym w ∙ h)

  base_of_lem : (c e r : ℕ) → c < rows s → e < rows s → Callee s c e r → child s c ≡ e → T (is_callee_base s r)
  base_of_lem c e r lc le y q =
      let hr : holder s r ≡ e = holder_is ok e r le (subst (λ (ks : List ℕ). Mem r ks) (sym y.kids_member) (here refl)) in
      let he : holder s e ≡ c = holder_is ok c e lc (subst (λ (ks : List ℕ). Mem e ks) (sym y.kids_call) (here refl)) in
      subst (λ (k : ℕ). T (is s 54 k && is s 59 (holder s k) && eqb (child s (holder s k)) k)) (sym hr)
      (subst (λ (j : ℕ). T (is s 54 e && is s 59 j && eqb (child s j) e)) (sym he)
      (and_both (is s 54 e && is s 59 c) (eqb (child s c) e) (and_both (is s 54 e) (is s 59 c) y.member y.call) (eqb_of (child s c) e q)))

  module _ (r : ℕ) (lr : r < rows s) (tr : T (is s 50 r)) (m : Moment) (one : visit_of (history O s) r ≡ m ∷ []) where
    found_at_call : T (is_hidden s (history O s) r) → T (is_callee_base s r && is_class (use_at s m).means)
    found_at_call h =
        let x = any_mem (λ m. eqb (child s (child s (visited m.event))) r) (class_calls s (history O s)) h in
        let m' : Moment = x.0 in
        let f = filter_mem (λ m. not (eqb (receiver s (visited m.event) (open_on s m.stack)) 0)) m' (visits s (history O s) 59) x.1 in
        let g = filter_mem (λ m. is s 59 (visited m.event)) m' (history O s) f.0 in
        let c : ℕ = visited m'.event in
        let e : ℕ = child s c in
        let v : m'.event ≡ visit c = visited_event m'.event c refl (kind_not_zero ok 59 c tt g.1) in
        let lc : c < rows s = visit_range m' c g.0 v in
        let k = chosen (is s 54 e && is s 50 (child s e)) (class_number (lookup (a s (child s e)) m'.stack)) f.1 in
        let te : T (is s 54 e) = and_left (is s 54 e) (is s 50 (child s e)) k.0 in
        let qr : child s e ≡ r = eqb→eq (child s e) r x.2 in
        let y : Callee s c e r = callee c e r lc g.1 refl te qr tr in
        let le : e < rows s = child_range c lc (kind_not_zero ok 54 e tt te) in
        let w : record { event = visit r; stack = m'.stack } ≡ m = same_moment c e r y m m' one g.0 v in
        let cls : T (is_class (lookup (a s r) m'.stack)) = subst (λ (j : ℕ). T (not (eqb (class_number (lookup (a s j) m'.stack)) 0))) qr k.1 in
        and_both (is_callee_base s r) (is_class (use_at s m).means) (base_of_lem c e r lc le y refl) (subst (λ (j : Moment). T (is_class (use_at s j).means)) w cls)

    hidden_there : T (is_callee_base s r && is_class (use_at s m).means) → T (is_hidden s (history O s) r)
    hidden_there h =
        let hb : T (is_callee_base s r) = and_left (is_callee_base s r) (is_class (use_at s m).means) h in
        let e : ℕ = holder s r in
        let c : ℕ = holder s e in
        let both : T (is s 54 e && is s 59 c) = and_left (is s 54 e && is s 59 c) (eqb (child s c) e) hb in
        let te : T (is s 54 e) = and_left (is s 54 e) (is s 59 c) both in
        let tc : T (is s 59 c) = and_right (is s 54 e) (is s 59 c) both in
        let qe : child s c ≡ e = eqb→eq (child s c) e (and_right (is s 54 e && is s 59 c) (eqb (child s c) e) hb) in
        let kr = held s ok.links r (nonzero r (kind_not_zero ok 50 r tt tr)) lr in
        let le : e < rows s = omega (arith, kr.1) in
        let ke = held s ok.links e (nonzero e (kind_not_zero ok 54 e tt te)) le in
        let lc : c < rows s = omega (arith, ke.1) in
        let qr : child s e ≡ r = held_first e r le te (test_mem r (kids s e) kr.0) in
        let y : Callee s c e r = callee c e r lc tc qe te qr tr in
        let p : Event → Bool = λ v. eqb (visited v) c in
        let ev = count_some p (walk s) (omega (
          arith,
          count_trace p (rows s) s 0,
          mem_total (λ x. count p (own s x)) c (walked (rows s) s 0) (statement_walked ok 59 c lc tt tc),
          count_mem p (visit c) (own s c) (eqb_refl c) (own_visit ok c e r y),
        )) in
        let mm = mem_moments s (start O) ev.0 (walk s) ev.1 in
        let m' : Moment = mm.0 in
        let vc : visited m'.event ≡ c = ap visited mm.2 ∙ eqb→eq (visited ev.0) c ev.2 in
        let v : m'.event ≡ visit c = visited_event m'.event c vc (kind_not_zero ok 59 c tt tc) in
        let w : record { event = visit r; stack = m'.stack } ≡ m = same_moment c e r y m m' one mm.1 v in
        let cls : T (is_class (lookup (a s r) m'.stack)) = subst (λ (j : Moment). T (is_class (use_at s j).means)) (sym w) (and_right (is_callee_base s r) (is_class (use_at s m).means) h) in
        let rec : T (not (eqb (receiver s c (open_on s m'.stack)) 0)) =
        subst (λ (j : ℕ). T (not (eqb (when is s 54 j && is s 50 (child s j) then class_number (lookup (a s (child s j)) m'.stack) else 0) 0))) (sym qe)
        (subst (λ (j : ℕ). T (not (eqb (when is s 54 e && is s 50 j then class_number (lookup (a s j) m'.stack) else 0) 0))) (sym qr)
        (choose (is s 54 e && is s 50 r) (class_number (lookup (a s r) m'.stack)) (and_both (is s 54 e) (is s 50 r) te tr) cls)) in
        mem_any (λ m. eqb (child s (child s (visited m.event))) r) m' (class_calls s (history O s))
        (eqb_of (child s (child s (visited m'.event))) r (ap (λ (j : ℕ). child s (child s j)) vc ∙ ap (child s) qe ∙ qr))
        (mem_filter (λ m. not (eqb (receiver s (visited m.event) (open_on s m.stack)) 0)) m' (visits s (history O s) 59)
        (subst (λ (j : ℕ). T (not (eqb (receiver s j (open_on s m'.stack)) 0))) (sym vc) rec)
        (mem_filter (λ m. is s 59 (visited m.event)) m' (history O s) (subst (λ (j : ℕ). T (is s 59 j)) (sym vc) tc) mm.1))
      where
        held_first : (e r : ℕ) → e < rows s → T (is s 54 e) → Mem r (kids s e) → child s e ≡ r
        held_first e r l t k = go (member_kid e l t) (ok.links.children e l)
          where
            go : (k : ℕ) × (kids s e ≡ k ∷ []) → Rises s e (child s e) → child s e ≡ r
            go q (inl z) = absurd (Memᴰ.not-nil (subst (λ (xs : List ℕ). Mem r xs) (ap (chain (rows s) s) z ∙ chain_zero (rows s)) k))
              where
                chain_zero : (n : ℕ) → chain n s 0 ≡ []
                chain_zero zero = refl
                chain_zero (suc n) = refl
            go q (inr u) = last (subst (λ (xs : List ℕ). Mem r xs) (only_kid e l t (λ z. omega (arith, u.0))) k)
              where
                last : Mem r (child s e ∷ []) → child s e ≡ r
                last (here h) = sym h
                last (there h) = absurd (Memᴰ.not-nil h)

    pub hidden_is_base : is_hidden s (history O s) r ≡ (is_callee_base s r && is_class (use_at s m).means)
    hidden_is_base = same_test (is_hidden s (history O s) r) (is_callee_base s r && is_class (use_at s m).means) found_at_call hidden_there
