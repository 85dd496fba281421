-- Where classes stand: what is written of a class, and that later rows leave it.
use mathlib.Core.Path.{◌≡◌, refl, sym, ap, subst, ◌∙◌}
use mathlib.Core.Bool.{Bool, true, false}
use mathlib.Core.List.{List, [], ◌∷◌, ◌++◌, map}
use Prim.Native.Nat.{ℕ, suc, ◌+◌, ◌*◌, ◌/◌, ◌<◌, ◌≤◌}
use native.Mathlib.Omega.{arith}
use lib.Dec.{eqb}
use lib.ListN.{length, get_or, set, take, drop, length-append, length-take, length-replicate, length-map, length-set}
use lib.Seq.{take_at, drop_at, get_or-set_same, get_or-set_other}
use borrow.Author.Tests.{eqb-true, eqb-false}
use Rattle.definition.specs.Sheet.{Sheet, rows}
use Rattle.definition.specs.Outside.{Outside}
use Rattle.definition.specs.Classes.{method_named}
use Rattle.definition.specs.Answer.{eight, numbered}
use Rattle.definition.proofs.Lists.Members.{map_append}
use Rattle.machine.specs.Machine.{Store as Stored}
use Rattle.after.specs.Inherited.{fields_in, methods_in, method_names_in}
use Rattle.after.specs.Rows.{class_rows_named}
use Rattle.sink.specs.Sink.{Sink, sink, emit_all}
use Rattle.store.specs.declared.nodes.Store.{Store}
use Rattle.class_names.specs.Names.{names_in, head_words}
use Rattle.class_names.specs.Read.{outside_in, store_in}
use Rattle.class_names.specs.declared.tables.Tables.{Tables}
use Rattle.class_rows.specs.Places.{column, Stands, Placed}
use Rattle.class_names.proofs.NameLaws.{names_fields, names_methods}
use Rattle.name_rows.proofs.KeptLaws.{Kept, all_kept}
use Rattle.class_rows.proofs.ColumnLaws.{column_length, column_kept, column_append, all_fit, all_written}
use Rattle.class_rows.proofs.StableLaws.{Steady}

-- The rows of a class, once written.
front : (xs ys zs us : List ℕ) → xs ++ ys ≡ zs ++ us → length xs ≡ length zs → (xs ≡ zs) × (ys ≡ us)
front xs ys zs us e l = (
  sym (take_at xs ys (length xs) refl) ∙ ap (take (length xs)) e ∙ take_at zs us (length xs) (sym l),
  sym (drop_at xs ys (length xs) refl) ∙ ap (drop (length xs)) e ∙ drop_at zs us (length xs) (sym l),
)

module _ (r : ℕ) where
  abbrev word : ℕ → List ℕ → ℕ
  word c vs = get_or (eight (r ∷ vs)) c 0

  numbered_length : (i : ℕ) (fs : List ℕ) → length (numbered i fs) ≡ length fs
  numbered_length i [] = refl
  numbered_length i (f ∷ fs) = ap suc (numbered_length (suc i) fs)

  numbered_names : (i : ℕ) (fs : List ℕ) → map (word 3) (numbered i fs) ≡ fs
  numbered_names i [] = refl
  numbered_names i (f ∷ fs) = ap (λ (l : List ℕ). f ∷ l) (numbered_names (suc i) fs)

  method_names_lem : (g : ℕ → ℕ) (ns : List ℕ) → map (word 2) (map (λ n. 24 ∷ n ∷ g n ∷ []) ns) ≡ ns
  method_names_lem g [] = refl
  method_names_lem g (n ∷ ns) = ap (λ (l : List ℕ). n ∷ l) (method_names_lem g ns)

  method_functions : (g : ℕ → ℕ) (ns : List ℕ) → map (word 3) (map (λ n. 24 ∷ n ∷ g n ∷ []) ns) ≡ map g ns
  method_functions g [] = refl
  method_functions g (n ∷ ns) = ap (λ (l : List ℕ). g n ∷ l) (method_functions g ns)

  -- what the words say of rows h, fields, methods that stand from row k on
  module _ (w : List ℕ) (k : ℕ) (h fs ns : List ℕ) (g : ℕ → ℕ)
      (e : (c : ℕ) → c < 8 → column w c k (suc (length fs + length ns)) ≡ map (word c) (h ∷ numbered 0 fs ++ map (λ n. 24 ∷ n ∷ g n ∷ []) ns)) where
    pub head_word : (c : ℕ) → c < 8 → get_or w (8 * k + c) 0 ≡ word c h
    head_word c l = ap (λ (xs : List ℕ). get_or xs 0 0) (e c l)

    parts : (c : ℕ) → c < 8 → (column w c (suc k) (length fs) ≡ map (word c) (numbered 0 fs)) × (column w c (suc k + length fs) (length ns) ≡ map (word c) (map (λ n. 24 ∷ n ∷ g n ∷ []) ns))
    parts c l =
        front (column w c (suc k) (length fs)) (column w c (suc k + length fs) (length ns)) (map (word c) (numbered 0 fs)) (map (word c) (map (λ n. 24 ∷ n ∷ g n ∷ []) ns))
        (sym (column_append w c (suc k) (length fs) (length ns)) ∙ ap (drop 1) (e c l) ∙ map_append (word c) (numbered 0 fs) (map (λ n. 24 ∷ n ∷ g n ∷ []) ns))
        (column_length w c (suc k) (length fs) ∙ sym (length-map (numbered 0 fs) (word c) ∙ numbered_length 0 fs))

    pub field_column : column w 3 (suc k) (length fs) ≡ fs
    field_column = (parts 3 (omega arith)).0 ∙ numbered_names 0 fs

    pub method_column : column w 2 (suc k + length fs) (length ns) ≡ ns
    method_column = (parts 2 (omega arith)).1 ∙ method_names_lem g ns

    pub function_column : column w 3 (suc k + length fs) (length ns) ≡ map g ns
    function_column = (parts 3 (omega arith)).1 ∙ method_functions g ns

  class_length : (h fs ns : List ℕ) (g : ℕ → ℕ) → length (h ∷ numbered 0 fs ++ map (λ n. 24 ∷ n ∷ g n ∷ []) ns) ≡ suc (length fs + length ns)
  class_length h fs ns g =
      ap suc (length-append (numbered 0 fs) (map (λ n. 24 ∷ n ∷ g n ∷ []) ns)
      ∙ ap (λ (i : ℕ). i + length (map (λ n. 24 ∷ n ∷ g n ∷ []) ns)) (numbered_length 0 fs) ∙ ap (λ (i : ℕ). length fs + i) (length-map ns (λ n. 24 ∷ n ∷ g n ∷ [])))

-- The class of row r, written after k rows, where all its rows fit.
module _ (O : Outside) (s : Sheet) (o : Stored) (w : List ℕ) (k r n : ℕ) {y : List ℕ}
    (e : sink n y ≡ emit_all (map (λ vs. eight (r ∷ vs)) (class_rows_named O s o r)) (sink k w))
    (b : n ≤ length w / 8) where
  abbrev fs : List ℕ
  fs = fields_in O s o (rows s) (256 + r)

  abbrev ns : List ℕ
  ns = method_names_in O s o (rows s) (256 + r)

  abbrev fun : ℕ → ℕ
  fun n = method_named n (methods_in O s o (rows s) (256 + r))

  counted : length (class_rows_named O s o r) ≡ suc (length fs + length ns)
  unfolding class_rows_named head_words
  counted = class_length r (head_words O s o r) fs ns fun

  fit : k + length (class_rows_named O s o r) ≤ length w / 8
  fit =
      let c : (emit_all (map (λ vs. eight (r ∷ vs)) (class_rows_named O s o r)) (sink k w)).count ≤ length w / 8 = omega (arith, ap (λ (x : Sink). x.count) e) in
      omega (arith, all_fit (map (λ vs. eight (r ∷ vs)) (class_rows_named O s o r)) (sink k w) c, length-map (class_rows_named O s o r) (λ vs. eight (r ∷ vs)))

  written : (c : ℕ) → c < 8 → (n ≡ k + length (class_rows_named O s o r)) × (column y c k (length (class_rows_named O s o r)) ≡ map (word r c) (class_rows_named O s o r))
  written c l =
      let h = all_written (λ vs. eight (r ∷ vs)) (λ vs. simp (length-take, length-append, length-replicate) (omega arith)) c l (class_rows_named O s o r) (sink k w) fit in
      (ap (λ (x : Sink). x.count) e ∙ h.0, ap (λ (x : Sink). column x.words c k (length (class_rows_named O s o r))) e ∙ h.1)

  columns : (c : ℕ) → c < 8 → column y c k (suc (length fs + length ns)) ≡ map (word r c) (head_words O s o r ∷ numbered 0 fs ++ map (λ n. 24 ∷ n ∷ fun n ∷ []) ns)
  unfolding class_rows_named head_words
  columns c l = ap (column y c k) (sym counted) ∙ (written c l).1

  pub stands_now : ((j : ℕ) → Steady O s o (names_in O s o j) r) → Steady O s o (methods_in O s o) r → Stands O s o y n r k
  unfolding head_words
  stands_now h u =
      record {
        below = rw (f, g) (omega (arith, (written 0 (omega arith)).0, counted));
        within = rw (f, g, l) (omega (arith, fit, counted));
        fields = rw f (head_word r y k (head_words O s o r) fs ns fun columns 4 (omega arith));
        methods = rw g (head_word r y k (head_words O s o r) fs ns fun columns 5 (omega arith));
        field_names = rw f (field_column r y k (head_words O s o r) fs ns fun columns);
        method_names = rw (f, g) (method_column r y k (head_words O s o r) fs ns fun columns);
        functions = rw (f, g) (function_column r y k (head_words O s o r) fs ns fun columns);
        stable = h;
        stable_methods = u;
      }
    where
      l : length y ≡ length w
      l = ap (λ (x : Sink). length x.words) e ∙ (all_kept 0 (map (λ vs. eight (r ∷ vs)) (class_rows_named O s o r)) (sink k w) (omega arith) (omega arith)).lengths

      f : names_in O s o 10 (rows s) (256 + r) ≡ fs
      f = names_fields O s o (rows s) (256 + r)

      g : names_in O s o 6 (rows s) (256 + r) ≡ ns
      g = names_methods O s o (rows s) (256 + r)

-- Rows written later leave a class where it stands.
pub stands_kept : {O : Outside} {s : Sheet} {o : Stored} {w y : List ℕ} {k n r p : ℕ} (rs : List (List ℕ)) → sink n y ≡ emit_all rs (sink k w) → Stands O s o w k r p → Stands O s o y n r p
stands_kept {O} {s} {o} {w} {y} {k} {n} {r} {p} rs e h =
    record {
      below = m.below;
      within = omega (arith, h.within, m.lengths);
      fields = m.same (8 * p + 4) (omega arith) ∙ h.fields;
      methods = m.same (8 * p + 5) (omega arith) ∙ h.methods;
      field_names = column_kept 3 (suc p) (length fn) m (omega arith) (omega arith) ∙ h.field_names;
      method_names = column_kept 2 (suc p + length fn) (length mn) m (omega arith) (omega arith) ∙ h.method_names;
      functions = column_kept 3 (suc p + length fn) (length mn) m (omega arith) (omega arith) ∙ h.functions;
      stable = h.stable;
      stable_methods = h.stable_methods;
    }
  where
    fn : List ℕ
    fn = names_in O s o 10 (rows s) (256 + r)

    mn : List ℕ
    mn = names_in O s o 6 (rows s) (256 + r)

    m : Kept (p + suc (length fn + length mn)) (sink k w) (sink n y)
    m = subst (Kept (p + suc (length fn + length mn)) (sink k w)) (sym e) (all_kept (p + suc (length fn + length mn)) rs (sink k w) h.below h.within)

module _ {tables : Tables} {places w : List ℕ} {r k : ℕ} (h : Placed tables places w r k) {y : List ℕ} {n : ℕ} (rs : List (List ℕ)) (e : sink n y ≡ emit_all rs (sink k w)) where
  pub placed_kept : Placed tables places y (r + 1) n
  placed_kept = record { room = h.room; told = λ j p g. (omega (arith, (h.told j p g).0), λ o. stands_kept rs e ((h.told j p g).1 o)) }

  -- and with the place of row r
  pub placed_more : ((o : Store) → Stands (outside_in tables) tables.sheet.now (store_in tables o) y n r k) → r < length places → Placed tables (set places r (k + 1)) y (r + 1) n
  placed_more f l = record { room = omega (arith, h.room, length-set places r (k + 1)); told = λ j p g. go j p (eqb j r) refl g }
    where
      go : (j p : ℕ) (u : Bool) → eqb j r ≡ u → get_or (set places r (k + 1)) j 0 ≡ suc p → (j < r + 1) × ((o : Store) → Stands (outside_in tables) tables.sheet.now (store_in tables o) y n j p)
      go j p true i g =
          let a : j ≡ r = eqb-true j r i in
          let b : k ≡ p = omega (arith, g, ap (λ (x : ℕ). get_or (set places r (k + 1)) x 0) a, get_or-set_same places r (k + 1) 0 l) in (
            omega arith,
            λ o. subst (λ (x : ℕ). Stands (outside_in tables) tables.sheet.now (store_in tables o) y n x p) (sym a)
                (subst (λ (x : ℕ). Stands (outside_in tables) tables.sheet.now (store_in tables o) y n r x) b (f o)),
          )
      go j p false i g = placed_kept.told j p (sym (get_or-set_other places r j (k + 1) 0 (eqb-false j r i)) ∙ g)
