-- The class table, row by row: a row's entry is final once a lower row that links it is done.
use mathlib.Core.Path.{◌≡◌, refl, sym, ap, ◌∙◌, subst}
use mathlib.Core.Logic.{◌⊎◌, inl, inr}
use mathlib.Core.List.{List}
use mathlib.Core.Bool.{Bool, true, false}
use Prim.Native.Nat.{ℕ, zero, suc, ◌+◌, ◌<◌, ◌≤◌}
use native.Mathlib.Omega.{arith}
use lib.ListN.{length, get_or}
use lib.Dec.{eqb, T}
use Rattle.definition.specs.Basics.{when◌then◌else◌, first, from, ◌∈?◌}
use Rattle.definition.specs.Sheet.{Sheet, next, child, a, rows, kids}
use Rattle.definition.specs.Outside.{Outside}
use Rattle.definition.specs.Classes.{class_of}
use Rattle.definition.proofs.Lists.Tests.{ℕ-trichotomy}
use Rattle.definition.proofs.Format.Links.{Rises, LinkFacts, linker, kid_bounds, child_held, next_held}
use Rattle.definition.proofs.Format.Facts.{SheetFacts, sheet_facts, header_kind, link_facts}
use Rattle.machine.specs.Reads.{PastFour}
use Rattle.classes.specs.Table.{kids_class, linked, child_done, row_done, Clear, ClassTable}
use Rattle.classes.proofs.Links.{zero_or_not, linked_length, linked_at, linked_keeps}

-- The rows whose entries are final before row r: row 0, what is no row, and what a lower row links.
pub data Known (s : Sheet) (r f : ℕ) : Type 0 where
  header : f ≡ 0 → Known s r f
  outside : rows s ≤ f → Known s r f
  next_of : (p : ℕ) → p < r → next s p ≡ f → Known s r f
  child_of : (p : ℕ) → p < r → child s p ≡ f → Known s r f

-- They are the definition's.
pub record Filled (s : Sheet) (r : ℕ) (t : List ℕ) : Type 0 where
  pub entry : (f : ℕ) → Known s r f → get_or t f 0 ≡ class_of s f

-- no number below n passes
first_none : (p : ℕ → Bool) (n k m : ℕ) → ((i : ℕ) → i < n → T (p i) → ⊥) → k + m ≤ n → first p 0 (from k m) ≡ 0
first_none p n k zero f l = refl
first_none p n k (suc m) f l = pass (p k) (f k (omega arith)) (first_none p n (suc k) m f (omega arith))
  where
    pass : (b : Bool) {x : ℕ} → (T b → ⊥) → x ≡ 0 → (when b then k else x) ≡ 0
    pass true h e = absurd (h tt)
    pass false h e = e

-- a row is lower than what it links
lower : (s : Sheet) (p f l : ℕ) → Rises s p l → l ≡ f → 0 < f → p < f
lower s p f l (inl z) e w = absurd (omega (arith, z, e))
lower s p f l (inr q) e w = omega (arith, q.0, e)

row_length : (s : Sheet) (r : ℕ) (t : List ℕ) → length (row_done s r t) ≡ length t
unfolding row_done
row_length s r t = linked_length (next s r) _ (child_done s r t) ∙ linked_length (child s r) (kids_class s r) t

module _ (O : Outside) (s : Sheet) (ok : PastFour O s) where
  fa : SheetFacts ok.names s
  fa = sheet_facts ok.names s ok.fitting

  lf : LinkFacts s
  lf = link_facts ok.names s fa

  -- a row that no row has as a child is of no class
  no_class_lem : (f : ℕ) → ((p : ℕ) → p < rows s → T (f ∈? kids s p) → ⊥) → class_of s f ≡ 0
  no_class_lem f h =
      ap (kids_class s) (first_none (λ p. f ∈? kids s p) (rows s) 0 (rows s) h (omega arith))
      ∙ ap (λ (k : ℕ). when eqb k 4 then 0 else when eqb k 52 then a s 0 else 0) (header_kind ok.names s fa)

  -- before the pass
  pub filled_none : (t : List ℕ) → Clear t → Filled s 0 t
  filled_none t c = record { entry = go }
    where
      go : (f : ℕ) → Known s 0 f → get_or t f 0 ≡ class_of s f
      go f (Known.header e) = c.zeros f ∙ sym (no_class_lem f (λ p l h. omega (arith, e, (kid_bounds s lf p f l h).0)))
      go f (Known.outside b) = c.zeros f ∙ sym (no_class_lem f (λ p l h. omega (arith, b, (kid_bounds s lf p f l h).1)))
      go f (Known.next_of p l e) = absurd (omega arith)
      go f (Known.child_of p l e) = absurd (omega arith)

  -- a row's entry is final when the row is reached
  known : (r f : ℕ) → f ≤ r → Known s r f
  known r f l = go (zero_or_not f) (ℕ-trichotomy f (rows s))
    where
      side : 0 < f → (p : ℕ) × (p < rows s) × ((next s p ≡ f) ⊎ (child s p ≡ f)) → Known s r f
      side z k = by k.2
        where
          by : (next s k.0 ≡ f) ⊎ (child s k.0 ≡ f) → Known s r f
          by (inl e) = Known.next_of k.0 (omega (arith, lower s k.0 f _ (lf.nexts k.0 k.1) e z)) e
          by (inr e) = Known.child_of k.0 (omega (arith, lower s k.0 f _ (lf.children k.0 k.1) e z)) e

      go : (f ≡ 0) ⊎ (0 < f) → (f < rows s) ⊎ ((f ≡ rows s) ⊎ (rows s < f)) → Known s r f
      go (inl e) b = Known.header e
      go (inr z) (inl b) = side z (linker s lf f z b)
      go (inr z) (inr (inl e)) = Known.outside (omega arith)
      go (inr z) (inr (inr b)) = Known.outside (omega arith)

  -- after the pass, every entry is
  pub filled_all : (t : List ℕ) (r : ℕ) → rows s ≤ r → Filled s r t → ClassTable s t
  filled_all t r l h = record { entry = λ f. h.entry f (go f (ℕ-trichotomy f r)) }
    where
      go : (f : ℕ) → (f < r) ⊎ ((f ≡ r) ⊎ (r < f)) → Known s r f
      go f (inl b) = known r f (omega arith)
      go f (inr (inl e)) = known r f (omega arith)
      go f (inr (inr b)) = Known.outside (omega arith)

  -- the class of a link's row
  child_class : (r : ℕ) → r < rows s → 0 < child s r → kids_class s r ≡ class_of s (child s r)
  child_class r l z = ap (kids_class s) (sym (child_held s lf r l z))

  next_class : (r : ℕ) → r < rows s → 0 < next s r → class_of s r ≡ class_of s (next s r)
  next_class r l z = go (zero_or_not r)
    where
      go : (r ≡ 0) ⊎ (0 < r) → class_of s r ≡ class_of s (next s r)
      go (inl e) = absurd (omega (arith, lf.header_next, ap (next s) e))
      go (inr p) = ap (kids_class s) (sym (next_held s lf r p l z))

  link_inside : (r i : ℕ) → Rises s r i → 0 < i → i < rows s
  link_inside r i (inl e) z = absurd (omega arith)
  link_inside r i (inr q) z = q.1

  -- one row of the pass
  module _ (t : List ℕ) (r : ℕ) (l : r < rows s) (m : rows s ≤ length t) (h : Filled s r t) where
    -- the table after the child's entry, and after the next's
    abbrev u : List ℕ
    u = child_done s r t

    abbrev v : List ℕ
    v = linked (next s r) (get_or u r 0) u

    child_in : 0 < child s r → child s r < length t
    child_in z = omega (arith, link_inside r (child s r) (lf.children r l) z)

    next_in : 0 < next s r → next s r < length u
    next_in z = omega (arith, link_inside r (next s r) (lf.nexts r l) z, linked_length (child s r) (kids_class s r) t)

    child_keeps : (f : ℕ) → get_or t f 0 ≡ class_of s f → get_or u f 0 ≡ class_of s f
    child_keeps = linked_keeps (class_of s) t (child s r) (kids_class s r) (λ z. (child_class r l z, child_in z))

    reached : get_or u r 0 ≡ class_of s r
    reached = child_keeps r (h.entry r (known r r (omega arith)))

    row_keeps : (f : ℕ) → get_or u f 0 ≡ class_of s f → get_or v f 0 ≡ class_of s f
    row_keeps = linked_keeps (class_of s) u (next s r) (get_or u r 0) (λ z. (reached ∙ next_class r l z, next_in z))

    -- what was final stays so
    old : (f : ℕ) → Known s r f → get_or v f 0 ≡ class_of s f
    old f k = row_keeps f (child_keeps f (h.entry f k))

    child_entry_lem : (f : ℕ) → child s r ≡ f → get_or v f 0 ≡ class_of s f
    child_entry_lem f e = go (zero_or_not (child s r))
      where
        go : (child s r ≡ 0) ⊎ (0 < child s r) → get_or v f 0 ≡ class_of s f
        go (inl z) = old f (Known.header (sym e ∙ z))
        go (inr z) = rw (← e) (row_keeps (child s r) (linked_at (class_of s) t (child s r) (kids_class s r) z (child_class r l z) (child_in z)))

    next_entry_lem : (f : ℕ) → next s r ≡ f → get_or v f 0 ≡ class_of s f
    next_entry_lem f e = go (zero_or_not (next s r))
      where
        go : (next s r ≡ 0) ⊎ (0 < next s r) → get_or v f 0 ≡ class_of s f
        go (inl z) = old f (Known.header (sym e ∙ z))
        go (inr z) =
            ap (λ (j : ℕ). get_or v j 0) (sym e)
            ∙ linked_at (class_of s) u (next s r) (get_or u r 0) z (reached ∙ next_class r l z) (next_in z) ∙ ap (class_of s) e

    filled_row : Filled s (suc r) (row_done s r t)
    unfolding row_done
    filled_row = record { entry = go }
      where
        upto : (p : ℕ) → p < suc r → (p < r) ⊎ (p ≡ r)
        upto p b = side (ℕ-trichotomy p r)
          where
            side : (p < r) ⊎ ((p ≡ r) ⊎ (r < p)) → (p < r) ⊎ (p ≡ r)
            side (inl c) = inl c
            side (inr (inl e)) = inr e
            side (inr (inr c)) = absurd (omega arith)

        by_next : (p f : ℕ) → next s p ≡ f → (p < r) ⊎ (p ≡ r) → get_or v f 0 ≡ class_of s f
        by_next p f e (inl c) = old f (Known.next_of p c e)
        by_next p f e (inr q) = next_entry_lem f (ap (next s) (sym q) ∙ e)

        by_child : (p f : ℕ) → child s p ≡ f → (p < r) ⊎ (p ≡ r) → get_or v f 0 ≡ class_of s f
        by_child p f e (inl c) = old f (Known.child_of p c e)
        by_child p f e (inr q) = child_entry_lem f (ap (child s) (sym q) ∙ e)

        go : (f : ℕ) → Known s (suc r) f → get_or v f 0 ≡ class_of s f
        go f (Known.header e) = old f (Known.header e)
        go f (Known.outside b) = old f (Known.outside b)
        go f (Known.next_of p b e) = by_next p f e (upto p b)
        go f (Known.child_of p b e) = by_child p f e (upto p b)

  -- one turn of the loop
  pub next_turn : (t₀ t v : List ℕ) (r : ℕ) → r < rows s → rows s ≤ length t₀ → (length t ≡ length t₀) × Filled s r t → v ≡ row_done s r t
      → (length v ≡ length t₀) × Filled s (r + 1) v
  next_turn t₀ t v r l m h e =
      let w : suc r ≡ r + 1 = omega arith in (
        ap length e ∙ row_length s r t ∙ h.0,
        subst (λ (k : ℕ). Filled s k v) w (subst (λ (u : List ℕ). Filled s (suc r) u) (sym e) (filled_row t r l (omega (arith, m, h.0)) h.1)),
      )
