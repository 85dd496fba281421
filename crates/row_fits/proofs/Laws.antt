-- Small laws that the routines' proofs share.
use mathlib.Core.Path.{◌≡◌, sym, ap, ◌∙◌}
use mathlib.Core.Bool.{Bool, true, false, ◌&&◌}
use mathlib.Core.List.{List}
use Prim.Native.Nat.{ℕ, suc, ◌+◌, ◌-◌, ◌<◌, ◌≤◌}
use native.Mathlib.Omega.{arith}
use Rattle.definition.specs.Basics.{all, from}
use Rattle.definition.proofs.Lists.Tests.{T_true, true_of}
use Rattle.definition.proofs.Format.Passes.{all_fails, all_of}
use Rattle.std.specs.Prelude.{Option, Some, None, MatchOption}
use borrow.Author.Tests.{ne_eqb}
use Rattle.ast.specs.declared.kind.Kind.{Kind}
use Rattle.ast.specs.declared.kind.Kind.TheVariants.{Unit as UnitKind, Function, Let, ClassDeclaration}
use Rattle.ast.specs.Kind.{kind_number}
use Rattle.definition.specs.Sheet.{Sheet, kind}
use Rattle.shapes.proofs.TableLaws.{no_kind}
use Rattle.row_fits.specs.declared.row.Row.{Row}
use Rattle.row_fits.specs.declared.row.Entry.{Entry}
use Rattle.row_fits.specs.Reading.{number_or_one, words_of, ReadsRow}
use Rattle.row_fits.specs.Pass.{row_in, columns_ok, plain_ok, function_ok, state_after, ends_ok, new_ok, row_asked, note_next, note_child, note_own, note_declared, note_all}
use Rattle.row_fits.specs.Pass.{row_ok, note_row, rows_ok, rows_noted}

-- What is asked of a row whose number is no kind's, and what it tells, is that of number 1.
module _ (s : Sheet) (r n : ℕ) (h : (x : Kind) → n ≡ kind_number x → ⊥) where
  asked_none : (last x c f a b p q : ℕ) (t : List ℕ)
      → row_asked s last (record { kind = 1; next = x; child = c; file = f; a = a; b = b }) r p q t ≡ row_asked s last (record { kind = n; next = x; child = c; file = f; a = a; b = b }) r p q t
  unfolding row_asked columns_ok plain_ok function_ok state_after ends_ok new_ok
  asked_none last x c f a b p q t =
      rw (no_kind 0 tt n h, no_kind 1 tt n h, no_kind 2 tt n h, no_kind 3 tt n h, ne_eqb n 29 (h Let), ne_eqb n 6 (h Function), ne_eqb n 30 (h ClassDeclaration))

  noted_none : (x c f a b : ℕ) (e : Entry) (t : List ℕ)
      → note_all s r (record { kind = 1; next = x; child = c; file = f; a = a; b = b }) e t ≡ note_all s r (record { kind = n; next = x; child = c; file = f; a = a; b = b }) e t
  unfolding note_all note_declared note_own note_child note_next state_after
  noted_none x c f a b e t =
      rw (no_kind 0 tt n h, no_kind 1 tt n h, ne_eqb n 2 (h UnitKind), ne_eqb n 6 (h Function), ne_eqb n 30 (h ClassDeclaration))

-- what is asked of a row as it was read, and what it tells, is that of its words
module _ (s : Sheet) (r n : ℕ) where
  asked_read : (k : Option Kind) → MatchOption k ((x : Kind) → n ≡ kind_number x → ⊥) (λ x. n ≡ kind_number x) → (last x c f a b p q : ℕ) (t : List ℕ)
      → row_asked s last (record { kind = number_or_one k; next = x; child = c; file = f; a = a; b = b }) r p q t
      ≡ row_asked s last (record { kind = n; next = x; child = c; file = f; a = a; b = b }) r p q t
  asked_read None h last x c f a b p q t = asked_none s r n h last x c f a b p q t
  asked_read (Some k) h last x c f a b p q t = rw h

  noted_read : (k : Option Kind) → MatchOption k ((x : Kind) → n ≡ kind_number x → ⊥) (λ x. n ≡ kind_number x) → (x c f a b : ℕ) (e : Entry) (t : List ℕ)
      → note_all s r (record { kind = number_or_one k; next = x; child = c; file = f; a = a; b = b }) e t
      ≡ note_all s r (record { kind = n; next = x; child = c; file = f; a = a; b = b }) e t
  noted_read None h x c f a b e t = noted_none s r n h x c f a b e t
  noted_read (Some k) h x c f a b e t = rw h

pub asked_same : (s : Sheet) (last r p q : ℕ) (t : List ℕ) (w : Row) → ReadsRow s r w → row_asked s last (words_of w) r p q t ≡ row_asked s last (row_in s r) r p q t
asked_same s last r p q t w h =
    rw (← h.next_read, ← h.child_read, ← h.file_read, ← h.a_read, ← h.b_read) (asked_read s r (kind s r) w.kind h.kind_read last w.next w.child w.file w.a w.b p q t)

pub noted_same : (s : Sheet) (r : ℕ) (e : Entry) (t : List ℕ) (w : Row) → ReadsRow s r w → note_all s r (words_of w) e t ≡ note_all s r (row_in s r) e t
noted_same s r e t w h =
    rw (← h.next_read, ← h.child_read, ← h.file_read, ← h.a_read, ← h.b_read) (noted_read s r (kind s r) w.kind h.kind_read w.next w.child w.file w.a w.b e t)

-- a loop over rows that stops at the first that fails a test
pub row_fails : (p : ℕ → Bool) (n r : ℕ) → r < n → p r ≡ false → false ≡ all p (from 0 n)
row_fails p n r l e = sym (all_fails p n r l e)

pub rows_pass : (p : ℕ → Bool) (n r : ℕ) → n ≤ r → ((k : ℕ) → k < r → p k ≡ true) → true ≡ all p (from 0 n)
rows_pass p n r l f = sym (true_of (all p (from 0 n)) (all_of p 0 n (λ k a b. T_true (p k) (f k (omega arith)))))

-- one row of the pass that fills the table
count_down : (n r : ℕ) → r < n → n - r ≡ suc (n - (r + 1))
count_down n r l = omega arith

pub rows_step : (s : Sheet) (last n r : ℕ) (t : List ℕ) → r < n
    → rows_ok s last (n - r) r t ≡ (row_ok s last r t && rows_ok s last (n - (r + 1)) (r + 1) (note_row s r t))
unfolding rows_ok
rows_step s last n r t l =
    let e : suc r ≡ r + 1 = omega arith in
    ap (λ (k : ℕ). rows_ok s last k r t) (count_down n r l) ∙ ap (λ (k : ℕ). row_ok s last r t && rows_ok s last (n - (r + 1)) k (note_row s r t)) e

pub noted_step : (s : Sheet) (n r : ℕ) (t : List ℕ) → r < n → rows_noted s (n - r) r t ≡ rows_noted s (n - (r + 1)) (r + 1) (note_row s r t)
unfolding rows_noted
noted_step s n r t l =
    let e : suc r ≡ r + 1 = omega arith in
    ap (λ (k : ℕ). rows_noted s k r t) (count_down n r l) ∙ ap (λ (k : ℕ). rows_noted s (n - (r + 1)) k (note_row s r t)) e

pub rows_done : (s : Sheet) (last n r : ℕ) (t : List ℕ) → n ≤ r → rows_ok s last (n - r) r t ≡ true
unfolding rows_ok
rows_done s last n r t l = let e : n - r ≡ 0 = omega arith in ap (λ (k : ℕ). rows_ok s last k r t) e

pub noted_done : (s : Sheet) (n r : ℕ) (t : List ℕ) → n ≤ r → rows_noted s (n - r) r t ≡ t
unfolding rows_noted
noted_done s n r t l = let e : n - r ≡ 0 = omega arith in ap (λ (k : ℕ). rows_noted s k r t) e

-- the same as the loop meets them, with what the two calls of a turn ensure
pub rows_refused : (s : Sheet) (last n r : ℕ) (t : List ℕ) {x v : Bool} → r < n → x ≡ row_ok s last r t → x ≡ false → rows_ok s last (n - r) r t ≡ v → false ≡ v
rows_refused s last n r t l e f i =
    ap (λ (y : Bool). y && rows_ok s last (n - (r + 1)) (r + 1) (note_row s r t)) (sym (sym e ∙ f)) ∙ sym (rows_step s last n r t l) ∙ i

pub rows_next : (s : Sheet) (last n r : ℕ) (t : List ℕ) {x v : Bool} {u : List ℕ} → r < n → x ≡ row_ok s last r t → x ≡ true → u ≡ note_row s r t
    → rows_ok s last (n - r) r t ≡ v → rows_ok s last (n - (r + 1)) (r + 1) u ≡ v
rows_next s last n r t l e f g i =
    ap (λ (y : List ℕ). rows_ok s last (n - (r + 1)) (r + 1) y) g
    ∙ ap (λ (y : Bool). y && rows_ok s last (n - (r + 1)) (r + 1) (note_row s r t)) (sym (sym e ∙ f)) ∙ sym (rows_step s last n r t l) ∙ i

pub noted_next : (s : Sheet) (n r : ℕ) (t : List ℕ) {u v : List ℕ} → r < n → u ≡ note_row s r t → rows_noted s (n - r) r t ≡ v → rows_noted s (n - (r + 1)) (r + 1) u ≡ v
noted_next s n r t l g i = ap (λ (y : List ℕ). rows_noted s (n - (r + 1)) (r + 1) y) g ∙ sym (noted_step s n r t l) ∙ i

sub_zero : (n : ℕ) → n - 0 ≡ n
sub_zero n = omega arith

pub rows_start : (s : Sheet) (last n : ℕ) (t : List ℕ) → rows_ok s last (n - 0) 0 t ≡ rows_ok s last n 0 t
rows_start s last n t = ap (λ (k : ℕ). rows_ok s last k 0 t) (sub_zero n)

pub noted_start : (s : Sheet) (n : ℕ) (t : List ℕ) → rows_noted s (n - 0) 0 t ≡ rows_noted s n 0 t
noted_start s n t = ap (λ (k : ℕ). rows_noted s k 0 t) (sub_zero n)
