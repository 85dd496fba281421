-- What a function has captured, the functions further out up to the variable's own have captured too, of a sheet that fits.
use mathlib.Core.Path.{◌≡◌, refl, sym, ap, ◌∙◌, subst}
use mathlib.Core.List.Memᴰ
use mathlib.Core.List.Memᴰ.{head as here}
use mathlib.Core.List.{List, ◌∷◌, Memᴰ as Mem}
use Prim.Native.Nat.{ℕ}
use lib.Dec.{T, eqb→eq}
use Rattle.definition.specs.Basics.{◌∈?◌}
use Rattle.definition.specs.Sheet.{Sheet, is, functions_of}
use Rattle.definition.specs.Outside.{Outside}
use Rattle.definition.specs.Meaning.{Meaning, is_variable, owner_of}
use Rattle.definition.specs.Scope.{Moment, visited, visits, history}
use Rattle.definition.specs.Capture.{Use, use_at, beyond, is_outer, same, uses, captures}
use Rattle.definition.proofs.Lists.Tests.{and_left, eqb_of}
use Rattle.definition.proofs.Lists.Members.{mem_filter, filter_mem, mem_map, map_mem, mem_any, any_mem, test_mem}
use Rattle.definition.proofs.Walk.Fits.{Fits}
use Rattle.definition.proofs.Walk.Around.{beyond_around}
use Rattle.definition.proofs.Closure.Variables.{variable_same}
use Rattle.definition.proofs.Closure.Captured.{row_meant, captured_use, use_captured}
use Rattle.definition.proofs.Closure.Following.{Located, located, outer_around, around_outer, around_trans}
use Rattle.machine.proofs.Captures.{Outward}
use Rattle.machine.proofs.Reached.{AllOutward}

-- the identifiers of a part of a history
use_at_lem : (s : Sheet) (h : List Moment) (m : Moment) → Mem m h → T (is s 50 (visited m.event)) → Mem (use_at s m) (uses s h)
use_at_lem s h m q t = mem_map (use_at s) m (visits s h 50) (mem_filter (λ k. is s 50 (visited k.event)) m h t q)

uses_among : (s : Sheet) (h all : List Moment) → ((m : Moment) → Mem m h → Mem m all) → (u : Use) → Mem u (uses s h) → Mem u (uses s all)
uses_among s h all f u q =
    let x = map_mem (use_at s) u (visits s h 50) q in
    let y = filter_mem (λ k. is s 50 (visited k.event)) x.0 h x.1 in
    subst (λ (v : Use). Mem v (uses s all)) (sym x.2) (use_at_lem s all x.0 (f x.0 y.0) y.1)

module _ {O : Outside} {s : Sheet} (ok : Fits O s) where
  -- f is further out than g, seen from identifier w; identifier u in g means what w means: so u is in f
  outer_further : (w u : Use) → Located O s w → Located O s u → row_meant u ≡ row_meant w → (g f : ℕ) → T (g ∈? w.funs) → T (f ∈? beyond g w.funs)
      → T (is_outer f w) → T (is_outer g u) → T (is_outer f u)
  outer_further w u x y e g f i b o q =
      let d : u.means ≡ w.means = (variable_same ok u.means w.means y.open_before x.open_before y.declared_as_lem x.declared_as_lem e).0 in
      let j : Mem g (functions_of s w.row) = subst (λ (l : List ℕ). Mem g l) x.funs_is (test_mem g w.funs i) in
      let k : Mem f (functions_of s g) = subst (λ (l : List ℕ). Mem f l) (ap (beyond g) x.funs_is ∙ beyond_around ok w.row g x.walks j) (test_mem f (beyond g w.funs) b) in
      around_outer ok f u y (and_left (is_variable u.means) (owner_of u.means ∈? beyond g u.funs) q) (around_trans ok g f u y (outer_around ok g u y q).0 k)
      (subst (λ (m : Meaning). Mem (owner_of m) (functions_of s f)) (sym d) (outer_around ok f w x o).1)

  captures_outward : (h : List Moment) (m : Moment) → ((n : Moment) → Mem n h → Mem n (history O s)) → Mem m (history O s) → Outward s h m
  captures_outward h m part q t g f i b o c =
      let w : Use = use_at s m in
      let x = any_mem (λ v. same v w) (captures s h g) c in
      let u : Use = x.0 in
      let e : row_meant u ≡ row_meant w = eqb→eq (row_meant u) (row_meant w) x.2 in
      let y = captured_use s h g u x.1 in
      let lw : Located O s w = located ok w (use_at_lem s (history O s) m q t) (and_left (is_variable w.means) (owner_of w.means ∈? beyond f w.funs) o) in
      let lu : Located O s u = located ok u (uses_among s h (history O s) part u y.0) (and_left (is_variable u.means) (owner_of u.means ∈? beyond g u.funs) y.1) in
      let z = use_captured s h f u y.0 (outer_further w u lw lu e g f i b o y.1) in
      mem_any (λ v. same v w) z.0 (captures s h f) (eqb_of (row_meant z.0) (row_meant w) (z.2 ∙ e)) z.1

  pub all_outward : AllOutward s (history O s)
  all_outward h m rest e =
      captures_outward h m (λ n q. subst (λ (l : List Moment). Mem n l) (sym e) (Memᴰ.append_left (m ∷ rest) q))
      (subst (λ (l : List Moment). Mem m l) (sym e) (Memᴰ.append_right h (here refl)))
