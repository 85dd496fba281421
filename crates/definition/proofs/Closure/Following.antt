-- Following an answer outward: each step goes to the literal of the function, and ends at the declaration.
use mathlib.Core.Path.{◌≡◌, refl, sym, ap, ◌∙◌, subst}
use mathlib.Core.Logic.{◌⊎◌, inl, inr}
use mathlib.Core.List.Memᴰ
use mathlib.Core.List.Memᴰ.{head as here}
use mathlib.Core.List.Memᴰ.{tail as there}
use mathlib.Core.List.{List, [], ◌∷◌, ◌++◌, map, append-nil, Memᴰ as Mem}
use mathlib.Core.Bool.{Bool, true, false, not, ◌&&◌}
use Prim.Native.Nat.{ℕ, zero, suc, ◌+◌, ◌<◌, ◌≤◌}
use native.Mathlib.Omega.{arith}
use lib.ListN.{get_or, drop}
use lib.Dec.{eqb, T, T_not, not_T, eqb_refl, eqb→eq}
use Rattle.definition.specs.Basics.{filter, place, concat_map, from, bit, head, ◌∈?◌, count, total}
use Rattle.definition.specs.Sheet.{Sheet, kind, child, a, rows, is, holder, functions_of, function_of}
use Rattle.definition.specs.Outside.{Outside}
use Rattle.definition.specs.Meaning.{Meaning, nothing, variable, row_of, owner_of, is_variable, is_class, global, function, class, toplevel}
use Rattle.definition.specs.Walk.{Event, visit, before, after, each, parts, walk}
use Rattle.definition.specs.Scope.{Stack, Moment, around, history, start, visited, visits, visit_of, within}
use Rattle.definition.specs.Slots.{is_mutable, open_locals, code}
use Rattle.definition.specs.Capture.{Use, use_at, uses, distance, captures, beyond, is_outer, same, seen_from, sources}
use Rattle.definition.specs.Answer.{eight, with_fourth, is_callee_base, identifier_row, literal_rows, let_row, host_row, instance_row, member_row, rows_of, answers}
use Rattle.definition.specs.Claims.{Row, rows_for, Follows, ends, steps}
use Rattle.definition.specs.Bounds.{own, walked}
use Rattle.definition.proofs.Lists.Tests.{and_both, and_left, and_right, decide, eqb_of, if_true, if_false, kind_apart}
use Rattle.definition.proofs.Lists.Members.{count_mem, count_some, filter_mem, filter_append, all_pass}
use Rattle.definition.proofs.Lists.Members.{none_passes, map_mem, concat_map_mem, from_mem, test_mem, mem_test}
use Rattle.definition.proofs.Lists.Members.{place_found, get_or_drop_is, drop_mem, drop_map}
use Rattle.definition.proofs.Walk.Fits.{Fits}
use Rattle.definition.proofs.Walk.Moments.{mem_moments}
use Rattle.definition.proofs.Walk.Rows.{reached_root, kind_not_zero}
use Rattle.definition.proofs.Walk.Walked.{found}
use Rattle.definition.proofs.Walk.Once.{count_trace, visit_of_lem}
use Rattle.definition.proofs.Walk.Around.{Walks, around_walks, beyond_around, around_rest, Literal, literal_of}
use Rattle.definition.proofs.Walk.Told.{Told, t_visit, told}
use Rattle.definition.proofs.Closure.Variables.{Variable, open_variable, variable_same, around_open, head_mem, find_open}
use Rattle.definition.proofs.Closure.Captured.{row_meant, captured_use, use_captured}
use Rattle.definition.proofs.Closure.OpenApart.{argument_code, local_code}

-- answer row y has the code and values of what identifier u means
abbrev pub Tells : Outside → Sheet → Row → Use → Type 0
Tells O s y u = y ≡ eight (get_or y 0 0 ∷ code s (history O s) u.means u.slot)

-- a step outward from answer row x
abbrev pub outward : Sheet → List Row → Row → Row
outward s out x = get_or (rows_for out (holder s (function_of s (get_or x 0 0)))) (get_or x 2 0) []

-- the answer rows of a sheet row are those made for it
module _ (f : ℕ → List Row) (tag : (k : ℕ) (x : Row) → Mem x (f k) → get_or x 0 0 ≡ k) (r : ℕ) where
  rows_after : (n k : ℕ) → r < n → rows_for (concat_map f (from n k)) r ≡ []
  rows_after n k h =
      none_passes (λ x. eqb (get_or x 0 0) r) (concat_map f (from n k)) (λ x m. let q = concat_map_mem f x (from n k) m in
      let e : get_or x 0 0 ≡ q.0 = tag q.0 x q.2 in
      not_T (eqb (get_or x 0 0) r) (λ t. let g : get_or x 0 0 ≡ r = eqb→eq (get_or x 0 0) r t in omega (arith, from_mem q.0 n k q.1)))

  rows_among : (n k : ℕ) → n ≤ r → r < n + k → rows_for (concat_map f (from n k)) r ≡ f r
  rows_among n zero h l = absurd (omega arith)
  rows_among n (suc k) h l = filter_append (λ x. eqb (get_or x 0 0) r) (f n) (concat_map f (from (suc n) k)) ∙ go (decide (eqb n r)) (rows_among (suc n) k)
    where
      go : T (eqb n r) ⊎ T (not (eqb n r)) → (suc n ≤ r → r < suc n + k → rows_for (concat_map f (from (suc n) k)) r ≡ f r)
          → filter (λ x. eqb (get_or x 0 0) r) (f n) ++ rows_for (concat_map f (from (suc n) k)) r ≡ f r
      go (inl t) up =
          let e : n ≡ r = eqb→eq n r t in
          ap (λ (z : List Row). z ++ rows_for (concat_map f (from (suc n) k)) r) (all_pass (λ x. eqb (get_or x 0 0) r) (f n) (λ x m. eqb_of (get_or x 0 0) r (tag n x m ∙ e)))
          ∙ ap (λ (z : List Row). f n ++ z) (rows_after (suc n) k (omega arith)) ∙ append-nil (f n) ∙ ap f e
      go (inr t) up =
          let e : n ≡ r → ⊥ = λ q. T_not (eqb n r) t (eqb_of n r q) in
          ap (λ (z : List Row). z ++ rows_for (concat_map f (from (suc n) k)) r)
          (none_passes (λ x. eqb (get_or x 0 0) r) (f n) (λ x m. not_T (eqb (get_or x 0 0) r) (λ q. e (sym (tag n x m) ∙ eqb→eq (get_or x 0 0) r q))))
          ∙ up (omega arith) (omega arith)

tagged : (k : ℕ) (vs : List Row) (x : Row) → Mem x (map (λ v. eight (k ∷ v)) vs) → get_or x 0 0 ≡ k
tagged k vs x m = ap (λ (z : Row). get_or z 0 0) (map_mem (λ v. eight (k ∷ v)) x vs m).2

pub rows_for_lem : (O : Outside) (s : Sheet) (h : List Moment) (r : ℕ) → r < rows s → rows_for (answers O s h) r ≡ map (λ vs. eight (r ∷ vs)) (rows_of O s h r)
rows_for_lem O s h r l =
    rows_among (λ k. map (λ vs. eight (k ∷ vs)) (rows_of O s h k)) (λ k x m. tagged k (rows_of O s h k) x m) r 0 (rows s) (omega arith) (omega arith)

pub not_kind : (s : Sheet) (j k r : ℕ) → T (not (eqb j k)) → T (is s j r) → T (not (is s k r))
not_kind s j k r d h = not_T (is s k r) (kind_apart (kind s r) j k d h)

rows_of_identifier : (O : Outside) (s : Sheet) (h : List Moment) (r : ℕ) → T (is s 50 r) → rows_of O s h r ≡ identifier_row s h r
rows_of_identifier O s h r t = if_false (is s 29 r) (let_row s h r) _ (not_kind s 50 29 r tt t) ∙ if_true (is s 50 r) (identifier_row s h r) _ t

pub rows_of_literal : (O : Outside) (s : Sheet) (h : List Moment) (r : ℕ) → T (is s 52 r) → rows_of O s h r ≡ literal_rows s h r
rows_of_literal O s h r t =
    if_false (is s 29 r) (let_row s h r) _ (not_kind s 52 29 r tt t) ∙ if_false (is s 50 r) (identifier_row s h r) _ (not_kind s 52 50 r tt t)
    ∙ if_false (is s 51 r) (host_row s h r) _ (not_kind s 52 51 r tt t) ∙ if_false (is s 55 r) (instance_row s h r) _ (not_kind s 52 55 r tt t)
    ∙ if_false (is s 54 r) (member_row O s h r) _ (not_kind s 52 54 r tt t) ∙ if_true (is s 52 r) (literal_rows s h r) _ t

variable_no_class : (d : Meaning) → T (is_variable d) → T (not (is_class d))
variable_no_class nothing h = absurd h
variable_no_class (function f) h = absurd h
variable_no_class (class c) h = absurd h
variable_no_class (global g m) h = absurd h
variable_no_class (toplevel r) h = absurd h
variable_no_class (variable r f) h = tt

and_not : (x y : Bool) → T (not y) → T (not (x && y))
and_not true y h = h
and_not false y h = tt

beyond_mem : (g o : ℕ) (l : List ℕ) → Mem o (beyond g l) → Mem g l × Mem o l
beyond_mem g o [] m = absurd (Memᴰ.not-nil m)
beyond_mem g o (x ∷ xs) m = go (decide (eqb x g)) (beyond_mem g o xs)
  where
    go : T (eqb x g) ⊎ T (not (eqb x g)) → (Mem o (beyond g xs) → Mem g xs × Mem o xs) → Mem g (x ∷ xs) × Mem o (x ∷ xs)
    go (inl t) up = (here (sym (eqb→eq x g t)), there (subst (λ (l : List ℕ). Mem o l) (if_true (eqb x g) xs (beyond g xs) t) m))
    go (inr t) up = let q = up (subst (λ (l : List ℕ). Mem o l) (if_false (eqb x g) xs (beyond g xs) t) m) in (there q.0, there q.1)

mem_total : (f : ℕ → ℕ) (x : ℕ) (xs : List ℕ) → Mem x xs → f x ≤ total f xs
mem_total f x [] m = absurd (Memᴰ.not-nil m)
mem_total f x (y ∷ ys) (here e) = let q : f x ≡ f y = ap f e in omega arith
mem_total f x (y ∷ ys) (there m) = omega (arith, mem_total f x ys m)

pub after_literal : (s : Sheet) (r : ℕ) → T (is s 52 r) → after s r ≡ visit r ∷ []
after_literal s r h = rw (eqb→eq (kind s r) 52 h)

pub after_identifier : (s : Sheet) (r : ℕ) → T (is s 50 r) → after s r ≡ visit r ∷ []
after_identifier s r h = rw (eqb→eq (kind s r) 50 h)

module _ {O : Outside} {s : Sheet} (ok : Fits O s) where
  told_visit : {fs : List ℕ} {x : ℕ} → Told s fs (visit x) → (fs ≡ functions_of s x) × Walks s x
  told_visit (t_visit e w) = (e, w)

  visited_event : (e : Event) (x : ℕ) → visited e ≡ x → (x ≡ 0 → ⊥) → e ≡ visit x
  visited_event (Event.enter r) x p z = absurd (z (sym p))
  visited_event Event.leave x p z = absurd (z (sym p))
  visited_event Event.loop x p z = absurd (z (sym p))
  visited_event (Event.declare r) x p z = absurd (z (sym p))
  visited_event (Event.bring r n d) x p z = absurd (z (sym p))
  visited_event (visit r) x p z = ap visit p

  -- at a visit, the functions around are those that the row lies in
  visit_around : (m : Moment) (x : ℕ) → Mem m (history O s) → visited m.event ≡ x → (x ≡ 0 → ⊥) → (around s m.stack ≡ functions_of s x) × Walks s x
  visit_around m x q e z = told_visit (subst (λ (v : Event). Told s (around s m.stack) v) (visited_event m.event x e z) (told ok m q))

  pub walks_range : (x : ℕ) → Walks s x → x < rows s
  walks_range x w = (found ok (rows s) 0 x (reached_root ok) w).reached.in_range

  -- a walked literal or identifier is visited
  pub walked_visited : (r : ℕ) → Walks s r → after s r ≡ visit r ∷ [] → (m : Moment) × Mem m (history O s) × (visited m.event ≡ r)
  walked_visited r w h =
      let p : Event → Bool = λ e. eqb (visited e) r in
      let own_visit : Mem (visit r) (own s r) = Memᴰ.append_right (before s r ++ each (λ k. []) s r 0 (parts s r)) (subst (λ (es : List Event). Mem (visit r) es) (sym h) (here refl)) in
      let e = count_some p (walk s) (omega (arith, count_trace p (rows s) s 0, mem_total (λ x. count p (own s x)) r (walked (rows s) s 0) w, count_mem p (visit r) (own s r) (eqb_refl r) own_visit)) in
      let m = mem_moments s (start O) e.0 (walk s) e.1 in
      (m.0, m.1, ap visited m.2 ∙ eqb→eq (visited e.0) r e.2)

-- An identifier that means a variable: where it lies, and how the variable was declared.
pub record Located (O : Outside) (s : Sheet) (u : Use) : Type 0 where
  pub moment : Moment
  pub among : Mem moment (history O s)
  pub use_is : u ≡ use_at s moment
  pub identifier : T (is s 50 u.row)
  pub walks : Walks s u.row
  pub funs_is : u.funs ≡ functions_of s u.row
  pub open_before : Stack
  pub declared_as_lem : Variable O s u.means open_before
  pub slot_is : u.slot ≡ open_locals s open_before
  pub owner_around : Mem (owner_of u.means) u.funs

-- The captured use that stands for an identifier u in function g.
pub record CapturedAs (O : Outside) (s : Sheet) (g : ℕ) (u : Use) : Type 0 where
  pub stand_in : Use
  pub rest : List Use
  pub stands : drop (place (same u) (captures s (history O s) g)) (captures s (history O s) g) ≡ stand_in ∷ rest
  pub is_use : Mem stand_in (uses s (history O s))
  pub is_variable_lem : T (is_variable stand_in.means)
  pub is_outer_lem : T (is_outer g stand_in)
  pub decl_is : u.means ≡ stand_in.means
  pub slot_is : u.slot ≡ stand_in.slot

module _ {O : Outside} {s : Sheet} (ok : Fits O s) where
  located_at : (m : Moment) → Mem m (history O s) → T (is s 50 (visited m.event)) → T (is_variable (use_at s m).means) → Located O s (use_at s m)
  located_at m q t v =
      let r : ℕ = visited m.event in
      let w = visit_around ok m r q refl (kind_not_zero ok 50 r tt t) in
      let f = find_open s (a s r) m.stack v in
      let d : Variable O s (use_at s m).means f.before = open_variable ok m q f.at (a s r) (use_at s m).means f.before f.is_open v in
      record {
        moment = m;
        among = q;
        use_is = refl;
        identifier = t;
        walks = w.1;
        funs_is = w.0;
        open_before = f.before;
        declared_as_lem = d;
        slot_is = f.slot_is;
        owner_around = Memᴰ.cast d.owner_is
            (around_open s m.stack f.at (a s r) (use_at s m).means f.before (head (around s f.before)) f.is_open (head_mem (around s f.before) d.some_around));
      }

  pub located : (u : Use) → Mem u (uses s (history O s)) → T (is_variable u.means) → Located O s u
  located u q v =
      let x = map_mem (use_at s) u (visits s (history O s) 50) q in
      let y = filter_mem (λ m. is s 50 (visited m.event)) x.0 (history O s) x.1 in
      subst (λ (w : Use). Located O s w) (sym x.2) (located_at x.0 y.0 y.1 (subst (λ (w : Use). T (is_variable w.means)) x.2 v))

  -- two identifiers that mean one row mean one declaration
  located_same : (u v : Use) → Located O s u → Located O s v → row_meant u ≡ row_meant v → (u.means ≡ v.means) × (u.slot ≡ v.slot)
  located_same u v x y e =
      let q = variable_same ok u.means v.means x.open_before y.open_before x.declared_as_lem y.declared_as_lem e in
      (q.0, x.slot_is ∙ ap (open_locals s) q.1 ∙ sym y.slot_is)

  -- the answer row of an identifier
  pub identifier_rows : (u : Use) → Located O s u → T (is_variable u.means)
      → rows_for (answers O s (history O s)) u.row ≡ eight (u.row ∷ with_fourth (distance u) (seen_from s (history O s) (function_of s u.row) u)) ∷ []
  identifier_rows u x v = rows_for_lem O s (history O s) r (walks_range ok r x.walks) ∙ ap (map (λ vs. eight (r ∷ vs))) (rows_of_identifier O s (history O s) r x.identifier ∙ one)
    where
      r : ℕ
      r = u.row

      m : Moment
      m = x.moment

      row_is_lem : visited m.event ≡ r
      row_is_lem = ap (λ (w : Use). w.row) (sym x.use_is)

      keep : Moment → Bool
      keep k = not (is_callee_base s r && is_class (use_at s k).means)

      kept : T (keep m)
      kept = subst (λ (w : Use). T (not (is_callee_base s r && is_class w.means))) x.use_is (and_not (is_callee_base s r) (is_class u.means) (variable_no_class u.means v))

      visits_is : visit_of (history O s) r ≡ m ∷ []
      visits_is = subst (λ (k : ℕ). visit_of (history O s) k ≡ m ∷ []) row_is_lem (visit_of_lem ok m x.among (λ e. kind_not_zero ok 50 r tt x.identifier (sym row_is_lem ∙ e)))

      inside_is : within s m ≡ function_of s r
      inside_is = ap head (visit_around ok m r x.among row_is_lem (kind_not_zero ok 50 r tt x.identifier)).0

      shown : ℕ → Use → List ℕ
      shown f w = with_fourth (distance w) (seen_from s (history O s) f w)

      one : identifier_row s (history O s) r ≡ shown (function_of s r) u ∷ []
      one =
          ap (λ (l : List Moment). map (λ k. shown (within s k) (use_at s k)) (filter keep l)) visits_is
          ∙ ap (map (λ k. shown (within s k) (use_at s k))) (if_true (keep m) (m ∷ []) [] kept)
          ∙ ap (λ (f : ℕ). shown f (use_at s m) ∷ []) inside_is
          ∙ ap (λ (w : Use). shown (function_of s r) w ∷ []) (sym x.use_is)

  -- the answer rows of a walked literal
  pub literal_rows_lem : (l : ℕ) → Walks s l → T (is s 52 l)
      → rows_for (answers O s (history O s)) l ≡ map (λ vs. eight (l ∷ vs)) (map (seen_from s (history O s) (function_of s l)) (captures s (history O s) (child s l)))
  literal_rows_lem l w t =
      let v = walked_visited ok l w (after_literal s l t) in
      let m : Moment = v.0 in
      let z : l ≡ 0 → ⊥ = kind_not_zero ok 52 l tt t in
      let visits_is : visit_of (history O s) l ≡ m ∷ [] = subst (λ (k : ℕ). visit_of (history O s) k ≡ m ∷ []) v.2 (visit_of_lem ok m v.1 (λ e. z (sym v.2 ∙ e))) in
      let inside_is : within s m ≡ function_of s l = ap head (visit_around ok m l v.1 v.2 z).0 in
      rows_for_lem O s (history O s) l (walks_range ok l w)
      ∙ ap (map (λ vs. eight (l ∷ vs)))
      (rows_of_literal O s (history O s) l t
      ∙ ap (concat_map (λ k. sources s (history O s) (within s k) (child s l))) visits_is
      ∙ append-nil (sources s (history O s) (within s m) (child s l))
      ∙ ap (λ (f : ℕ). sources s (history O s) f (child s l)) inside_is)

  -- an identifier in function g that means a variable of a function around it
  pub outer_around : (g : ℕ) (u : Use) → Located O s u → T (is_outer g u) → Mem g u.funs × Mem (owner_of u.means) (functions_of s g)
  outer_around g u x t =
      let o : Mem (owner_of u.means) (beyond g u.funs) = test_mem (owner_of u.means) (beyond g u.funs) (and_right (is_variable u.means) (owner_of u.means ∈? beyond g u.funs) t) in
      let i : Mem g u.funs = (beyond_mem g (owner_of u.means) u.funs o).0 in
      (i, subst (λ (l : List ℕ). Mem (owner_of u.means) l) (ap (beyond g) x.funs_is ∙ beyond_around ok u.row g x.walks (subst (λ (l : List ℕ). Mem g l) x.funs_is i)) o)

  pub around_outer : (g : ℕ) (u : Use) → Located O s u → T (is_variable u.means) → Mem g u.funs → Mem (owner_of u.means) (functions_of s g) → T (is_outer g u)
  around_outer g u x v i o =
      and_both (is_variable u.means) (owner_of u.means ∈? beyond g u.funs) v (mem_test (owner_of u.means) (beyond g u.funs)
      (subst (λ (l : List ℕ). Mem (owner_of u.means) l) (sym (ap (beyond g) x.funs_is ∙ beyond_around ok u.row g x.walks (subst (λ (l : List ℕ). Mem g l) x.funs_is i))) o))

  -- what is around g is around what lies in g
  pub around_trans : (g k : ℕ) (u : Use) → Located O s u → Mem g u.funs → Mem k (functions_of s g) → Mem k u.funs
  around_trans g k u x i j =
      (beyond_mem g k u.funs (subst (λ (l : List ℕ). Mem k l) (sym (ap (beyond g) x.funs_is ∙ beyond_around ok u.row g x.walks (subst (λ (l : List ℕ). Mem g l) x.funs_is i))) j)).1

  pub use_literal : (g : ℕ) (u : Use) → Located O s u → Mem g u.funs → Mem (owner_of u.means) (functions_of s g) → Literal s g
  use_literal g u x i o =
      let w = around_walks ok u.row g x.walks (subst (λ (l : List ℕ). Mem g l) x.funs_is i) in
      literal_of ok g (owner_of u.means) w.0 w.1 o x.declared_as_lem.no_unit

  -- what follows from row r in function g for use u, in n steps
  abbrev pub Leads : ℕ → ℕ → Use → ℕ → Type 0
  Leads r g u n = (y : Row) × Follows s (answers O s (history O s)) (eight (r ∷ seen_from s (history O s) g u)) n y × Tells O s y u

  not_not : (t : Bool) → T t → T (not (not t))
  not_not true h = tt
  not_not false h = absurd h

  -- in its own function a variable has its code, and is at its end
  follow_here : (r g : ℕ) (u : Use) → T (is_variable u.means) → T (eqb (owner_of u.means) g) → Leads r g u 0
  follow_here r g u v t = (eight (r ∷ seen_from s (history O s) g u), go (decide (is s 11 (row_of u.means))), ap (λ (c : List ℕ). eight (r ∷ c)) e)
    where
      e : seen_from s (history O s) g u ≡ code s (history O s) u.means u.slot
      e =
          if_false (is_variable u.means && not (eqb (owner_of u.means) g)) _
          (code s (history O s) u.means u.slot)
          (and_not (is_variable u.means) (not (eqb (owner_of u.means) g)) (not_not (eqb (owner_of u.means) g) t))

      go : T (is s 11 (row_of u.means)) ⊎ T (not (is s 11 (row_of u.means)))
          → Follows s (answers O s (history O s)) (eight (r ∷ seen_from s (history O s) g u)) 0
          (eight (r ∷ seen_from s (history O s) g u))
      go (inl k) = ends (inl (ap (λ (c : List ℕ). get_or (eight (r ∷ c)) 1 0) (e ∙ argument_code O s u.means u.slot v k)))
      go (inr k) = ends (inr (ap (λ (c : List ℕ). get_or (eight (r ∷ c)) 1 0) (e ∙ local_code O s u.means u.slot v k)))

  -- elsewhere it is captured: the captured use that stands for u in g, at the index that u has there
  first_captured : (g : ℕ) (u : Use) → Mem u (uses s (history O s)) → T (is_variable u.means) → T (is_outer g u) → CapturedAs O s g u
  first_captured g u q v t =
      let f = use_captured s (history O s) g u q t in
      let p = place_found (same u) f.0 (captures s (history O s) g) (eqb_of (row_meant u) (row_meant f.0) (sym f.2)) f.1 in
      let c = captured_use s (history O s) g p.0 (drop_mem (place (same u) (captures s (history O s) g)) (captures s (history O s) g) p.0 p.1 p.2) in
      let v' : T (is_variable p.0.means) = and_left (is_variable p.0.means) (owner_of p.0.means ∈? beyond g p.0.funs) c.1 in
      let e = located_same u p.0 (located u q v) (located p.0 c.0 v') (eqb→eq (row_meant u) (row_meant p.0) p.3) in
      record { stand_in = p.0; rest = p.1; stands = p.2; is_use = c.0; is_variable_lem = v'; is_outer_lem = c.1; decl_is = e.0; slot_is = e.1 }

  -- the source of index i of the literal of function g
  source_is : (g g' i : ℕ) (w : Use) (ws : List Use) (L : Literal s g) → function_of s L.literal ≡ g' → drop i (captures s (history O s) g) ≡ w ∷ ws
      → get_or (rows_for (answers O s (history O s)) (holder s g)) i [] ≡ eight (L.literal ∷ seen_from s (history O s) g' w)
  source_is g g' i w ws L f p =
      ap (λ (k : ℕ). get_or (rows_for (answers O s (history O s)) k) i []) L.holds
      ∙ ap (λ (z : List Row). get_or z i []) (literal_rows_lem L.literal L.walks L.kind_is_lem)
      ∙ get_or_drop_is i _ (eight (L.literal ∷ seen_from s (history O s) (function_of s L.literal) w)) [] _
      (drop_map (λ vs. eight (L.literal ∷ vs)) i
      (map (seen_from s (history O s) (function_of s L.literal)) (captures s (history O s) (child s L.literal)))
      (seen_from s (history O s) (function_of s L.literal) w) _
      (drop_map (seen_from s (history O s) (function_of s L.literal)) i (captures s (history O s) (child s L.literal)) w ws
      (subst (λ (k : ℕ). drop i (captures s (history O s) k) ≡ w ∷ ws) L.function_is p)))
      ∙ ap (λ (k : ℕ). eight (L.literal ∷ seen_from s (history O s) k w)) f

  -- a step from row r in g goes there
  outward_is : (r g g' : ℕ) (u w : Use) (ws : List Use) (L : Literal s g) → function_of s r ≡ g → function_of s L.literal ≡ g'
      → drop (place (same u) (captures s (history O s) g)) (captures s (history O s) g) ≡ w ∷ ws
      → seen_from s (history O s) g u ≡ 6 ∷ place (same u) (captures s (history O s) g) ∷ 0 ∷ bit (is_mutable s u.means) ∷ []
      → outward s (answers O s (history O s)) (eight (r ∷ seen_from s (history O s) g u)) ≡ eight (L.literal ∷ seen_from s (history O s) g' w)
  outward_is r g g' u w ws L f f' p e =
      ap (λ (k : List ℕ). outward s (answers O s (history O s)) (eight (r ∷ k))) e
      ∙ ap (λ (k : ℕ). get_or (rows_for (answers O s (history O s)) (holder s k)) (place (same u) (captures s (history O s) g)) []) f
      ∙ source_is g g' (place (same u) (captures s (history O s) g)) w ws L f' p

  follow_step : (r g g' : ℕ) (rest : List ℕ) (u : Use) → g' ∷ rest ≡ functions_of s g → Mem u (uses s (history O s)) → T (is_variable u.means) → Mem g u.funs
      → Mem (owner_of u.means) (g' ∷ rest) → T (not (eqb (owner_of u.means) g)) → function_of s r ≡ g
      → ((w : Use) → Mem w (uses s (history O s)) → T (is_variable w.means) → Mem g' w.funs → Mem (owner_of w.means) (g' ∷ rest) → (l : ℕ) → function_of s l ≡ g'
      → Leads l g' w (place (eqb (owner_of w.means)) (g' ∷ rest)))
      → Leads r g u (suc (place (eqb (owner_of u.means)) (g' ∷ rest)))
  follow_step r g g' rest u e q v i o t f below = (further.0, steps (ap (λ (k : List ℕ). get_or (eight (r ∷ k)) 1 0) seen_is) at_literal path, end)
    where
      x : Located O s u
      x = located u q v

      around_g : Mem (owner_of u.means) (functions_of s g)
      around_g = subst (λ (l : List ℕ). Mem (owner_of u.means) l) e o

      L : Literal s g
      L = use_literal g u x i around_g

      l : ℕ
      l = L.literal

      C : CapturedAs O s g u
      C = first_captured g u q v (around_outer g u x v i around_g)

      w : Use
      w = C.stand_in

      seen_is : seen_from s (history O s) g u ≡ 6 ∷ place (same u) (captures s (history O s) g) ∷ 0 ∷ bit (is_mutable s u.means) ∷ []
      seen_is =
          if_true (is_variable u.means && not (eqb (owner_of u.means) g)) _
          (code s (history O s) u.means u.slot)
          (and_both (is_variable u.means) (not (eqb (owner_of u.means) g)) v t)

      function_l : function_of s l ≡ g'
      function_l = ap head (sym L.around_is ∙ sym e)

      owner_is : owner_of u.means ≡ owner_of w.means
      owner_is = ap owner_of C.decl_is

      further : Leads l g' w (place (eqb (owner_of w.means)) (g' ∷ rest))
      further =
          below w C.is_use C.is_variable_lem
          (around_trans g g' w (located w C.is_use C.is_variable_lem) (outer_around g w (located w C.is_use C.is_variable_lem) C.is_outer_lem).0 (subst (λ (k : List ℕ). Mem g' k) e (here refl)))
          (subst (λ (k : ℕ). Mem k (g' ∷ rest)) owner_is o) l function_l

      at_literal : T (is s 52 (holder s (function_of s r)))
      at_literal = subst (λ (k : ℕ). T (is s 52 (holder s k))) (sym f) (subst (λ (k : ℕ). T (is s 52 k)) (sym L.holds) L.kind_is_lem)

      path : Follows s (answers O s (history O s)) (outward s (answers O s (history O s)) (eight (r ∷ seen_from s (history O s) g u))) (place (eqb (owner_of u.means)) (g' ∷ rest)) further.0
      path =
          subst (λ (z : Row). Follows s (answers O s (history O s)) z (place (eqb (owner_of u.means)) (g' ∷ rest))
          further.0)
          (sym (outward_is r g g' u w C.rest L f function_l C.stands seen_is))
          (subst (λ (k : ℕ). Follows s (answers O s (history O s)) (eight (l ∷ seen_from s (history O s) g' w)) (place (eqb k) (g' ∷ rest)) further.0) (sym owner_is) further.1)

      end : Tells O s further.0 u
      end =
          further.2 ∙ ap (λ (k : Meaning). eight (get_or further.0 0 0 ∷ code s (history O s) k w.slot)) (sym C.decl_is)
          ∙ ap (λ (k : ℕ). eight (get_or further.0 0 0 ∷ code s (history O s) u.means k)) (sym C.slot_is)

  not_head : (o g : ℕ) (l : List ℕ) → T (not (eqb o g)) → Mem o (g ∷ l) → Mem o l
  not_head o g l t (here e) = absurd (T_not (eqb o g) t (eqb_of o g e))
  not_head o g l t (there m) = m

  pub follow : (rest : List ℕ) (g : ℕ) → rest ≡ functions_of s g → (u : Use) → Mem u (uses s (history O s)) → T (is_variable u.means) → Mem g u.funs
      → Mem (owner_of u.means) (g ∷ rest) → (r : ℕ) → function_of s r ≡ g → Leads r g u (place (eqb (owner_of u.means)) (g ∷ rest))
  follow [] g e u q v i o r f = go (decide (eqb (owner_of u.means) g))
    where
      go : T (eqb (owner_of u.means) g) ⊎ T (not (eqb (owner_of u.means) g)) → Leads r g u (place (eqb (owner_of u.means)) (g ∷ []))
      go (inl t) = subst (λ (n : ℕ). Leads r g u n) (sym (if_true (eqb (owner_of u.means) g) 0 1 t)) (follow_here r g u v t)
      go (inr t) = absurd (Memᴰ.not-nil (not_head (owner_of u.means) g [] t o))
  follow (g' ∷ rest) g e u q v i o r f =
      let w = around_walks ok u.row g (located u q v).walks (subst (λ (l : List ℕ). Mem g l) (located u q v).funs_is i) in
      go (decide (eqb (owner_of u.means) g)) (follow rest g' (around_rest ok g g' rest w.0 (sym e)))
    where
      n : ℕ
      n = place (eqb (owner_of u.means)) (g' ∷ rest)

      go : T (eqb (owner_of u.means) g) ⊎ T (not (eqb (owner_of u.means) g))
          → ((w : Use) → Mem w (uses s (history O s)) → T (is_variable w.means) → Mem g' w.funs → Mem (owner_of w.means) (g' ∷ rest) → (l : ℕ) → function_of s l ≡ g'
          → Leads l g' w (place (eqb (owner_of w.means)) (g' ∷ rest)))
          → Leads r g u (place (eqb (owner_of u.means)) (g ∷ g' ∷ rest))
      go (inl t) below = subst (λ (k : ℕ). Leads r g u k) (sym (if_true (eqb (owner_of u.means) g) 0 (suc n) t)) (follow_here r g u v t)
      go (inr t) below =
          subst (λ (k : ℕ). Leads r g u k) (sym (if_false (eqb (owner_of u.means) g) 0 (suc n) t))
          (follow_step r g g' rest u e q v i (not_head (owner_of u.means) g (g' ∷ rest) t o) t f below)
