-- The rows of a class: its first row, then the rows that tell its names.
use Rattle.ast.specs.Kind.{kind_number}
use mathlib.Core.Path.{◌≡◌, refl, sym, ap, ◌∙◌}
use mathlib.Core.Bool.{not}
use mathlib.Core.List.{List, [], ◌∷◌, ◌++◌, map}
use Prim.Native.Nat.{ℕ, suc, ◌+◌, ◌/◌, ◌<◌, ◌≤◌, min}
use native.Mathlib.Omega.{arith}
use lib.Dec.{eqb}
use lib.ListN.{length, get_or}
use borrow.Author.Tests.{lt-ltb}
use Rattle.definition.specs.Basics.{bit}
use Rattle.definition.specs.Sheet.{Sheet, rows}
use Rattle.definition.specs.Outside.{Outside}
use Rattle.definition.specs.Classes.{method_named}
use Rattle.definition.specs.Answer.{eight, numbered}
use Rattle.machine.specs.Machine.{Store as Stored, one_more}
use Rattle.after.specs.Inherited.{parent_in, fields_in, methods_in, method_names_in}
use Rattle.after.specs.Rows.{class_rows_named}
use Rattle.sink.specs.Sink.{Sink, sink, emit, emit_all}
use Rattle.sink.proofs.SinkLaws.{emit_full, emit_none, emit_first, emit_both}
use Rattle.store.specs.declared.nodes.Store.{Store}
use Rattle.class_names.specs.Names.{names_in, ClassReady, head_words}
use Rattle.class_names.specs.Read.{outside_in, store_in}
use Rattle.class_names.specs.declared.tables.Tables.{Tables}
use Rattle.name_rows.specs.Put.{Filled, Wants, name_row, put, put_all}
use Rattle.name_rows.specs.declared.put.Wanted.{Wanted}
use Rattle.class_names.proofs.NameLaws.{names_fields, names_methods}

-- The names that are wanted.
wanted_fields : (O : Outside) (s : Sheet) (o : Stored) {r : ℕ} {w : Wanted} → Wants r 10 w → names_in O s o (kind_number w.kind) (rows s) w.class.0 ≡ fields_in O s o (rows s) (256 + r)
wanted_fields O s o {r} h = rw (h.kind_is, h.class_is) (names_fields O s o (rows s) (256 + r))

wanted_methods : (O : Outside) (s : Sheet) (o : Stored) {r : ℕ} {w : Wanted} → Wants r 6 w → names_in O s o (kind_number w.kind) (rows s) w.class.0 ≡ method_names_in O s o (rows s) (256 + r)
wanted_methods O s o {r} h = rw (h.kind_is, h.class_is) (names_methods O s o (rows s) (256 + r))

-- The first row.
module _ (tables : Tables) (marks : List ℕ) (r : ℕ) (h : ClassReady tables marks r) (o : Store) where
  abbrev st : Stored
  st = store_in tables o

  pub head_row : {p b f m : ℕ} {u v : Wanted} → p ≡ parent_in tables.sheet.now st (256 + r) → b ≡ bit (not (eqb (get_or marks r 0) 0))
      → Wants r 10 u → f ≡ min (length (names_in (outside_in tables) tables.sheet.now st (kind_number u.kind) (rows tables.sheet.now) u.class.0)) 4294967295
      → Wants r 6 v → m ≡ min (length (names_in (outside_in tables) tables.sheet.now st (kind_number v.kind) (rows tables.sheet.now) v.class.0)) 4294967295
      → r ∷ 22 ∷ p ∷ b ∷ f ∷ m ∷ 0 ∷ 0 ∷ [] ≡ eight (r ∷ head_words (outside_in tables) tables.sheet.now st r)
  unfolding head_words
  head_row {p} {b} {f} {m} {u} {v} d e x g y i = rw (d, e ∙ ap bit (h.marked.told o tables.nodes.now r h.row), fields_equal, methods_equal)
    where
      fields_equal : f ≡ length (fields_in (outside_in tables) tables.sheet.now st (rows tables.sheet.now) (256 + r))
      fields_equal = omega (arith, g, ap length (wanted_fields (outside_in tables) tables.sheet.now st x), h.fields o)

      methods_equal : m ≡ length (method_names_in (outside_in tables) tables.sheet.now st (rows tables.sheet.now) (256 + r))
      methods_equal = omega (arith, i, ap length (wanted_methods (outside_in tables) tables.sheet.now st y), h.methods o)

-- The rows of the fields and of the methods.
module _ (f : ℕ → ℕ → List ℕ) (r : ℕ) where
  field_rows_lem : ((m i : ℕ) → f m i ≡ eight (r ∷ 23 ∷ i ∷ m ∷ [])) → (ms : List ℕ) (k : Filled) → k.slot + length ms ≤ 4294967295
      → (put_all f ms k).done ≡ emit_all (map (λ vs. eight (r ∷ vs)) (numbered k.slot ms)) k.done
  unfolding put_all put emit_all
  field_rows_lem g [] k l = refl
  field_rows_lem g (m ∷ ms) k l =
      let b : k.slot < 4294967295 = omega arith in
      let e : one_more k.slot ≡ suc k.slot = rw (lt-ltb k.slot 4294967295 b) in
      let h : one_more k.slot + length ms ≤ 4294967295 = omega arith in
      field_rows_lem g ms (put f m k) h ∙ rw (e, g m k.slot)

  method_rows : (g : ℕ → ℕ) → ((m i : ℕ) → f m i ≡ eight (r ∷ 24 ∷ m ∷ g m ∷ [])) → (ms : List ℕ) (k : Filled)
      → (put_all f ms k).done ≡ emit_all (map (λ vs. eight (r ∷ vs)) (map (λ n. 24 ∷ n ∷ g n ∷ []) ms)) k.done
  unfolding put_all put emit_all
  method_rows g h [] k = refl
  method_rows g h (m ∷ ms) k = method_rows g h ms (put f m k) ∙ rw (h m k.slot)

module _ (O : Outside) (s : Sheet) (o : Stored) (r : ℕ) (w : Wanted) (k : Filled) where
  field_row : Wants r 10 w → (m i : ℕ) → name_row O s o w m i ≡ eight (r ∷ 23 ∷ i ∷ m ∷ [])
  unfolding name_row
  field_row h m i = rw (h.kind_is, h.row_is)

  method_row : Wants r 6 w → (m i : ℕ) → name_row O s o w m i ≡ eight (r ∷ 24 ∷ m ∷ method_named m (methods_in O s o (rows s) (256 + r)) ∷ [])
  unfolding name_row
  method_row h m i = rw (h.kind_is, h.row_is, h.class_is)

  pub fields_told : {x : Filled} → Wants r 10 w → length (fields_in O s o (rows s) (256 + r)) ≤ 4294967295 → k.slot ≡ 0
      → x ≡ put_all (name_row O s o w) (names_in O s o (kind_number w.kind) (rows s) w.class.0) k
      → x.done ≡ emit_all (map (λ vs. eight (r ∷ vs)) (numbered 0 (fields_in O s o (rows s) (256 + r)))) k.done
  fields_told h l z e =
      ap (λ (y : Filled). y.done) (e ∙ ap (λ (ms : List ℕ). put_all (name_row O s o w) ms k) (wanted_fields O s o h))
      ∙ field_rows_lem (name_row O s o w) r (field_row h) (fields_in O s o (rows s) (256 + r)) k (omega arith)
      ∙ ap (λ (i : ℕ). emit_all (map (λ vs. eight (r ∷ vs)) (numbered i (fields_in O s o (rows s) (256 + r)))) k.done) z

  pub methods_told : {x : Filled} → Wants r 6 w → x ≡ put_all (name_row O s o w) (names_in O s o (kind_number w.kind) (rows s) w.class.0) k
      → x.done ≡ emit_all (map (λ vs. eight (r ∷ vs)) (map (λ n. 24 ∷ n ∷ method_named n (methods_in O s o (rows s) (256 + r)) ∷ []) (method_names_in O s o (rows s) (256 + r)))) k.done
  methods_told h e =
      ap (λ (y : Filled). y.done) (e ∙ ap (λ (ms : List ℕ). put_all (name_row O s o w) ms k) (wanted_methods O s o h))
      ∙ method_rows (name_row O s o w) r (λ n. method_named n (methods_in O s o (rows s) (256 + r))) (method_row h) (method_names_in O s o (rows s) (256 + r)) k

-- All rows of a class.
pub class_rows_lem : (O : Outside) (s : Sheet) (o : Stored) (r : ℕ) (k : Sink) {ws : List ℕ} {h x y : Sink} → ws ≡ eight (r ∷ head_words O s o r) → h ≡ emit ws k
    → x ≡ emit_all (map (λ vs. eight (r ∷ vs)) (numbered 0 (fields_in O s o (rows s) (256 + r)))) h
    → y ≡ emit_all (map (λ vs. eight (r ∷ vs)) (map (λ n. 24 ∷ n ∷ method_named n (methods_in O s o (rows s) (256 + r)) ∷ []) (method_names_in O s o (rows s) (256 + r)))) x
    → y ≡ emit_all (map (λ vs. eight (r ∷ vs)) (class_rows_named O s o r)) k
unfolding class_rows_named head_words
class_rows_lem O s o r k {ws} {h} {x} {y} e f u v =
    emit_first (eight (r ∷ head_words O s o r)) (map (λ vs. eight (r ∷ vs)) (fs ++ ms)) k (f ∙ ap (λ (l : List ℕ). emit l k) e)
    (emit_both (map (λ vs. eight (r ∷ vs)) fs) (map (λ vs. eight (r ∷ vs)) ms) h u v ∙ ap (λ (l : List (List ℕ)). emit_all l h) (sym (joined fs ms)))
  where
    fs : List (List ℕ)
    fs = numbered 0 (fields_in O s o (rows s) (256 + r))

    ms : List (List ℕ)
    ms = map (λ n. 24 ∷ n ∷ method_named n (methods_in O s o (rows s) (256 + r)) ∷ []) (method_names_in O s o (rows s) (256 + r))

    joined : (xs ys : List (List ℕ)) → map (λ vs. eight (r ∷ vs)) (xs ++ ys) ≡ map (λ vs. eight (r ∷ vs)) xs ++ map (λ vs. eight (r ∷ vs)) ys
    joined [] ys = refl
    joined (z ∷ zs) ys = ap (λ (l : List (List ℕ)). eight (r ∷ z) ∷ l) (joined zs ys)

-- No row fits.
full_stays : (rs : List (List ℕ)) (w : List ℕ) → sink (length w / 8 + 1) w ≡ emit_all rs (sink (length w / 8 + 1) w)
full_stays [] w = emit_none (sink (length w / 8 + 1) w)
full_stays (r ∷ rs) w = emit_first r rs (sink (length w / 8 + 1) w) (emit_full (length w / 8 + 1) w r (omega arith)) (full_stays rs w)

pub class_full : (O : Outside) (s : Sheet) (o : Stored) (r k : ℕ) (w : List ℕ) {n : ℕ} → n ≡ length w / 8 → n ≤ k
    → sink (n + 1) w ≡ emit_all (map (λ vs. eight (r ∷ vs)) (class_rows_named O s o r)) (sink k w)
unfolding class_rows_named head_words
class_full O s o r k w e l =
    rw e (emit_first (eight (r ∷ head_words O s o r)) _ (sink k w) (emit_full k w (eight (r ∷ head_words O s o r)) (omega (arith, e, l))) (full_stays _ w))
