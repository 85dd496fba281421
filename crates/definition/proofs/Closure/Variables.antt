-- Open variables: the row that declared one tells its function, and its slot; its function is around, and no unit's.
use mathlib.Core.Path.{◌≡◌, refl, sym, ap, ◌∙◌, subst}
use mathlib.Core.List.Memᴰ.{head as here}
use mathlib.Core.List.Memᴰ.{tail as there}
use mathlib.Core.List.{List, [], ◌∷◌, Memᴰ as Mem}
use mathlib.Core.Bool.{Bool, true, false, not, ◌&&◌}
use Prim.Native.Nat.{ℕ, zero, suc, ◌<◌}
use native.Mathlib.Omega.{arith}
use lib.Dec.{eqb, T, T_not, eqb→eq}
use Rattle.definition.specs.Basics.{when◌then◌else◌, head}
use Rattle.definition.specs.Sheet.{Sheet, b, rows, kids, is, functions_of}
use Rattle.definition.specs.Outside.{Outside}
use Rattle.definition.specs.Meaning.{Meaning, variable, row_of, owner_of, is_variable}
use Rattle.definition.specs.Walk.{Event, declare}
use Rattle.definition.specs.Scope.{Stack, Moment, Entry, scope, looping, bound, find, top, around, history, declares, declared, within}
use Rattle.definition.specs.Slots.{open_locals, top_slot}
use Rattle.definition.proofs.Closure.Open.{OpenAt}
use Rattle.definition.proofs.Lists.Tests.{and_both, eqb_of}
use Rattle.definition.proofs.Closure.Declared.{Declares, earlier, declared_variable}
use Rattle.definition.proofs.Walk.Fits.{Fits}
use Rattle.definition.proofs.Walk.Rows.{kind_not_zero, is_not_zero}
use Rattle.definition.proofs.Walk.Once.{one_declaring}
use Rattle.definition.proofs.Walk.Told.{Declarer, a_class, a_parameter, a_let, Told, t_declare, told}

told_declare : {s : Sheet} {fs : List ℕ} {x : ℕ} → Told s fs (declare x) → (fs ≡ functions_of s x) × (x < rows s) × Declarer s fs x
told_declare (t_declare e l d) = (e, l, d)

-- A variable, told by its row: it is a parameter of its function or a let in it.
pub data KindOf (s : Sheet) (x f : ℕ) : Type 0 where
  parameter : T (is s 11 x) → Mem x (kids s f) → KindOf s x f
  local : T (is s 29 x) → KindOf s x f

pub record Variable (O : Outside) (s : Sheet) (d : Meaning) (st : Stack) : Type 0 where
  pub declaring : Declares s (history O s) d st
  pub around_is : functions_of s (row_of d) ≡ around s st
  pub owner_is : owner_of d ≡ head (around s st)
  pub some_around : around s st ≡ [] → ⊥
  pub kind_of : KindOf s (row_of d) (owner_of d)
  pub no_unit : b s (owner_of d) ≡ 1 → ⊥
  pub in_range : row_of d < rows s
  pub row_not_zero : row_of d ≡ 0 → ⊥

module _ {O : Outside} {s : Sheet} (ok : Fits O s) where
  head_some : (l : List ℕ) → T (is s 6 (head l)) → l ≡ [] → ⊥
  head_some l h e = is_not_zero ok 6 tt (subst (λ (k : List ℕ). T (is s 6 (head k))) e h)

  variable_of : (d : Meaning) (st : Stack) → T (is_variable d) → Declares s (history O s) d st → Variable O s d st
  variable_of d st v r = go t.2
    where
      m : Moment
      m = r.moment

      x : ℕ
      x = row_of d

      f : ℕ
      f = within s m

      v' : T (is_variable (declared s x f))
      v' = subst (λ (e : Meaning). T (is_variable e)) (sym r.decl_is) v

      mine : (declared s x f ≡ variable x f) × T (not (is s 4 x)) × T (not (is s 29 x && eqb (b s f) 1))
      mine = declared_variable s x f v'

      own : owner_of d ≡ f
      own = ap owner_of (sym r.decl_is ∙ mine.0)

      t : (around s m.stack ≡ functions_of s x) × (x < rows s) × Declarer s (around s m.stack) x
      t = told_declare (subst (λ (e : Event). Told s (around s m.stack) e) r.event_is (told ok m r.among))

      make : (around s m.stack ≡ [] → ⊥) → KindOf s x f → (b s f ≡ 1 → ⊥) → (x ≡ 0 → ⊥) → Variable O s d st
      make some k n z =
          record {
            declaring = r;
            around_is = sym t.0 ∙ ap (around s) r.stack_is;
            owner_is = own ∙ ap (λ (l : Stack). head (around s l)) r.stack_is;
            some_around = subst (λ (l : Stack). around s l ≡ [] → ⊥) r.stack_is some;
            kind_of = subst (λ (o : ℕ). KindOf s x o) (sym own) k;
            no_unit = subst (λ (o : ℕ). b s o ≡ 1 → ⊥) (sym own) n;
            in_range = t.1;
            row_not_zero = z;
          }

      go : Declarer s (around s m.stack) x → Variable O s d st
      go (a_class h) = absurd (T_not (is s 4 x) mine.1 h)
      go (a_parameter h i l q) = make (head_some (around s m.stack) i) (parameter h q) (λ e. ok.no_parameters f x l i e q h) (kind_not_zero ok 11 x tt h)
      go (a_let h n) = make n (local h) (λ e. T_not (is s 29 x && eqb (b s f) 1) mine.2 (and_both (is s 29 x) (eqb (b s f) 1) h (eqb_of (b s f) 1 e))) (kind_not_zero ok 29 x tt h)

  -- each open variable
  pub open_variable : (m : Moment) → Mem m (history O s) → (i n : ℕ) (d : Meaning) (st : Stack) → OpenAt m.stack i n d st → T (is_variable d) → Variable O s d st
  open_variable m q i n d st p v = variable_of d st v (earlier ok.outside s m q i n d st p v)

  -- the row tells the variable, and what was open before it
  pub variable_same : (d e : Meaning) (st st' : Stack) → Variable O s d st → Variable O s e st' → row_of d ≡ row_of e → (d ≡ e) × (st ≡ st')
  variable_same d e st st' x y q =
      let p : Declares s (history O s) d st = x.declaring in
      let r : Declares s (history O s) e st' = y.declaring in
      let w : p.moment ≡ r.moment =
      one_declaring ok p.moment r.moment (λ f. x.row_not_zero (sym (ap declares p.event_is) ∙ f)) p.among r.among (ap declares p.event_is ∙ q ∙ sym (ap declares r.event_is)) in (
        sym p.decl_is ∙ ap (λ (k : ℕ). declared s k (within s p.moment)) q
            ∙ ap (λ (m : Moment). declared s (row_of e) (within s m)) w ∙ r.decl_is,
        sym p.stack_is ∙ ap (λ (m : Moment). m.stack) w ∙ r.stack_is,
      )

-- what was around before an open declaration is around
pub around_open : (s : Sheet) (S : Stack) (i n : ℕ) (d : Meaning) (st : Stack) (g : ℕ) → OpenAt S i n d st → Mem g (around s st) → Mem g (around s S)
around_open s [] zero n d st g p m = let z : ◌≡◌ {A = ℕ} 0 1 = cc in absurd (omega arith)
around_open s [] (suc i) n d st g p m = let z : ◌≡◌ {A = ℕ} 0 1 = cc in absurd (omega arith)
around_open s (x ∷ S) zero n d st g p m = subst (λ (l : Stack). Mem g (around s l)) (sym p) m
around_open s (scope r ∷ S) (suc i) n d st g p m = go (is s 6 r) (around_open s S i n d st g p m)
  where
    go : (t : Bool) → Mem g (around s S) → Mem g (when t then r ∷ around s S else around s S)
    go true k = there k
    go false k = k
around_open s (looping ∷ S) (suc i) n d st g p m = around_open s S i n d st g p m
around_open s (bound k e ∷ S) (suc i) n d st g p m = around_open s S i n d st g p m

pub head_mem : (l : List ℕ) → (l ≡ [] → ⊥) → Mem (head l) l
head_mem [] f = absurd (f refl)
head_mem (x ∷ xs) f = here refl

-- what a name means, if it is a variable, is open
pub record Opened (s : Sheet) (n : ℕ) (S S' : Stack) : Type 0 where
  pub at : ℕ
  pub before : Stack
  pub is_open : OpenAt S at n (top S') before
  pub slot_is : top_slot s S' ≡ open_locals s before

deeper : (s : Sheet) (n : ℕ) (x : Entry) (S S' : Stack) → Opened s n S S' → Opened s n (x ∷ S) S'
deeper s n x S S' o = record { at = suc o.at; before = o.before; is_open = o.is_open; slot_is = o.slot_is }

pub find_open : (s : Sheet) (n : ℕ) (S : Stack) → T (is_variable (top (find n S))) → Opened s n S (find n S)
find_open s n [] v = absurd v
find_open s n (scope r ∷ S) v = deeper s n (scope r) S (find n S) (find_open s n S v)
find_open s n (looping ∷ S) v = deeper s n looping S (find n S) (find_open s n S v)
find_open s n (bound k e ∷ S) v = go (eqb k n) (λ t. t) v (find_open s n S)
  where
    go : (t : Bool) → (T t → T (eqb k n)) → T (is_variable (top (when t then bound k e ∷ S else find n S))) → (T (is_variable (top (find n S))) → Opened s n S (find n S))
        → Opened s n (bound k e ∷ S) (when t then bound k e ∷ S else find n S)
    go true t w up = record { at = 0; before = S; is_open = ap (λ (i : ℕ). bound i e ∷ S) (eqb→eq k n (t tt)); slot_is = refl }
    go false t w up = deeper s n (bound k e) S (find n S) (up w)
