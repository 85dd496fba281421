-- The lists after a capture is added: every function up to the variable's own has it, if those further out than one that has it have it.
use mathlib.Core.Path.{◌≡◌, refl, sym, ap, ◌∙◌}
use mathlib.Core.List.{List, [], ◌∷◌, ◌++◌}
use mathlib.Core.Bool.{Bool, true, false, ◌||◌, true≢false}
use Prim.Native.Nat.{ℕ, suc, ◌+◌, ◌*◌, ◌/◌, ◌<◌, ◌≤◌, min}
use native.Mathlib.Omega.{arith}
use lib.ListN.{length, get_or}
use lib.Dec.{eqb}
use borrow.Author.Tests.{ne_eqb, eqb-true, eqb-false}
use Rattle.definition.specs.Basics.{when◌then◌else◌, ◌∈?◌}
use Rattle.definition.specs.Capture.{beyond}
use Rattle.machine.specs.Machine.{node_room, Node, Store, list_at, has_key, append_node, add_capture}
use Rattle.machine.proofs.Lists.{eqb_same, eqb_self}
use Rattle.machine.proofs.Nodes.{is_before, add_key, append_extends, append_used, append_list, append_word, append_low, list_kept}
use Rattle.machine.proofs.Stacks.{Distinct, a_one, or_right}

-- what stands before w stands in the list
before_in : (w f : ℕ) (gs : List ℕ) → is_before w gs f ≡ true → (f ∈? gs) ≡ true
before_in w f [] h = h
before_in w f (g ∷ gs) h = go (eqb g w) (eqb g f) refl h (before_in w f gs)
  where
    go : (t u : Bool) → eqb g f ≡ u → (when t then false else (u || is_before w gs f)) ≡ true → (is_before w gs f ≡ true → (f ∈? gs) ≡ true) → (eqb f g || f ∈? gs) ≡ true
    go true u e k i = absurd (true≢false (sym k))
    go false true e k i = rw (eqb_same f g ∙ e)
    go false false e k i = or_right (eqb f g) (i k)

add_there : (x : Node) (xs : List Node) → has_key x.key xs ≡ true → add_key x xs ≡ xs
add_there x xs h = rw h

add_absent : (x : Node) (xs : List Node) → has_key x.key xs ≡ false → add_key x xs ≡ xs ++ x ∷ []
add_absent x xs h = rw h

-- if the list of a function of fs before f has the key of x, so has the list of f
abbrev pub HasFurther : List ℕ → Node → Store → ℕ → Type 0
HasFurther fs x o f =
    (g : ℕ) → (g ∈? fs) ≡ true → (f ∈? beyond g fs) ≡ true → is_before x.one fs f ≡ true
    → has_key x.key (list_at o (8 * g + 6)) ≡ true → has_key x.key (list_at o (8 * f + 6)) ≡ true

-- the lists of other functions
append_other : (g : ℕ) (x : Node) (o : Store) → ((k : ℕ) → get_or o.table (8 * k + 6) 0 ≤ o.used) → (j : ℕ) → (g ≡ j → ⊥) → list_at (append_node (8 * g + 6) x o) (8 * j + 6) ≡ list_at o (8 * j + 6)
append_other g x o low j ne =
    list_kept o (append_node (8 * g + 6) x o) (8 * j + 6) (append_extends (8 * g + 6) x o) (append_word (8 * g + 6) x o (8 * j + 6) (λ q. omega arith)) (low j)

-- one function g, then those further out
module _ (g : ℕ) (gs : List ℕ) (x : Node) (o : Store) (f : ℕ) (out : (g ∈? gs) ≡ false) where
  not_in : (j : ℕ) → (j ∈? gs) ≡ true → g ≡ j → ⊥
  not_in j h e = true≢false (sym h ∙ ap (λ (k : ℕ). k ∈? gs) (sym e) ∙ out)

  further_rest : ((k : ℕ) → get_or o.table (8 * k + 6) 0 ≤ o.used) → eqb g x.one ≡ false → HasFurther (g ∷ gs) x o f → HasFurther gs x (append_node (8 * g + 6) x o) f
  further_rest low e k j i b l q =
      let nf : g ≡ f → ⊥ = not_in f (before_in x.one f gs l) in
      let nj : g ≡ j → ⊥ = not_in j i in
      ap (has_key x.key) (append_other g x o low f nf)
      ∙ k j (or_right (eqb j g) i) (rw (ne_eqb g j nj) b) (rw (e, ne_eqb g f nf) l) (sym (ap (has_key x.key) (append_other g x o low j nj)) ∙ q)

  stopped : eqb g x.one ≡ false → eqb g f ≡ false → has_key x.key (list_at o (8 * g + 6)) ≡ true → HasFurther (g ∷ gs) x o f
      → list_at o (8 * f + 6) ≡ (when is_before x.one gs f then add_key x (list_at o (8 * f + 6)) else list_at o (8 * f + 6))
  stopped e d h k = by (is_before x.one gs f) refl
    where
      by : (t : Bool) → is_before x.one gs f ≡ t → list_at o (8 * f + 6) ≡ (when t then add_key x (list_at o (8 * f + 6)) else list_at o (8 * f + 6))
      by true l = sym (add_there x (list_at o (8 * f + 6)) (k g (rw (eqb_self g)) (rw (eqb_self g) (before_in x.one f gs l)) (rw (e, d) l) h))
      by false l = refl

  not_before : eqb g f ≡ true → is_before x.one gs f ≡ false
  not_before d = by (is_before x.one gs f) refl
    where
      by : (t : Bool) → is_before x.one gs f ≡ t → t ≡ false
      by true l = absurd (not_in f (before_in x.one f gs l) (eqb-true g f d))
      by false l = refl

-- the list of function f
pub add_capture_list : (fs : List ℕ) (x : Node) (o : Store) (f : ℕ) → Distinct fs → o.used + length fs ≤ node_room o.nodes → f < length o.table / 8
    → ((g : ℕ) → get_or o.table (8 * g + 6) 0 ≤ o.used) → HasFurther fs x o f
    → list_at (add_capture fs x o) (8 * f + 6) ≡ (when is_before x.one fs f then add_key x (list_at o (8 * f + 6)) else list_at o (8 * f + 6))
unfolding add_capture
add_capture_list [] x o f d room h low k = refl
add_capture_list (g ∷ gs) x o f (a_one out d) room h low k =
    let r : o.used < node_room o.nodes = omega arith in
    let o' : Store = append_node (8 * g + 6) x o in
    let u : o'.used ≡ suc o.used = append_used (8 * g + 6) x o r in
    let n : length o'.nodes ≡ length o.nodes = (append_extends (8 * g + 6) x o).nodes_length in
    let t : length o'.table ≡ length o.table = (append_extends (8 * g + 6) x o).table_length in
    go (eqb g x.one) (has_key x.key (list_at o (8 * g + 6))) (eqb g f) refl refl refl
    (λ i. add_capture_list gs x o' f d (omega (arith, u, ap (λ (k : ℕ). min (k / 4) 4294967295) n)) (omega (arith, ap (λ (k : ℕ). k / 8) t)) (λ k. append_low (8 * g + 6) x o (8 * k + 6) (low k)) i) r
  where
    go : (t u v : Bool) → eqb g x.one ≡ t → has_key x.key (list_at o (8 * g + 6)) ≡ u → eqb g f ≡ v
        → (HasFurther gs x (append_node (8 * g + 6) x o) f
        → list_at (add_capture gs x (append_node (8 * g + 6) x o)) (8 * f + 6)
        ≡ (when is_before x.one gs f then add_key x (list_at (append_node (8 * g + 6) x o) (8 * f + 6))
        else list_at (append_node (8 * g + 6) x o) (8 * f + 6)))
        → o.used < node_room o.nodes
        → list_at (when t || u then o else add_capture gs x (append_node (8 * g + 6) x o)) (8 * f + 6)
        ≡ (when (when t then false else (v || is_before x.one gs f)) then add_key x (list_at o (8 * f + 6)) else list_at o (8 * f + 6))
    go true u v e q w i r = refl
    go false true true e q w i r = sym (add_there x (list_at o (8 * f + 6)) (ap (λ (j : ℕ). has_key x.key (list_at o (8 * j + 6))) (sym (eqb-true g f w)) ∙ q))
    go false true false e q w i r = stopped g gs x o f out e w q k
    go false false true e q w i r =
        let y : g ≡ f = eqb-true g f w in
        i (further_rest g gs x o f out low e k)
        ∙ rw (not_before g gs x o f out w)
        (ap (λ (j : ℕ). list_at (append_node (8 * j + 6) x o) (8 * f + 6)) y ∙ append_list (8 * f + 6) x o r (omega arith) (low f)
        ∙ sym (add_absent x (list_at o (8 * f + 6)) (ap (λ (j : ℕ). has_key x.key (list_at o (8 * j + 6))) (sym y) ∙ q)))
    go false false false e q w i r =
        i (further_rest g gs x o f out low e k)
        ∙ ap (λ (l : List Node). when is_before x.one gs f then add_key x l else l) (append_other g x o low f (eqb-false g f w))
