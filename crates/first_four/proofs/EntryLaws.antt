-- Words of the table after its entries were written.
use mathlib.Core.Path.{◌≡◌, ◌∙◌}
use mathlib.Core.List.{List}
use Prim.Native.Nat.{ℕ, ◌+◌, ◌*◌, ◌<◌, ◌≤◌}
use native.Mathlib.Omega.{arith}
use lib.ListN.{length, set, length-set}
use lib.Seq.{get_or-set_same, get_or-set_other}
use Rattle.definition.specs.Sheet.{word}
use Rattle.row_fits.specs.declared.row.Entry.{Entry}
use Rattle.row_fits.specs.Pass.{put_entry}

pub word_same : (t : List ℕ) (r c v : ℕ) → 8 * r + c < length t → word (set t (8 * r + c) v) r c ≡ v
word_same t r c v h = get_or-set_same t (8 * r + c) v 0 h

-- a word of another row, or another word of the row
pub word_row : (t : List ℕ) (r c v k d : ℕ) → (k ≡ r → ⊥) → c < 8 → d < 8 → word (set t (8 * r + c) v) k d ≡ word t k d
word_row t r c v k d f hc hd = get_or-set_other t (8 * r + c) (8 * k + d) v 0 (λ e. f (omega arith))

pub word_column : (t : List ℕ) (r c v k d : ℕ) → (d ≡ c → ⊥) → c < 8 → d < 8 → word (set t (8 * r + c) v) k d ≡ word t k d
word_column t r c v k d f hc hd = get_or-set_other t (8 * r + c) (8 * k + d) v 0 (λ e. f (omega arith))

module _ (t : List ℕ) (x : ℕ) (e : Entry) where
  t0 : List ℕ
  t0 = set t (8 * x + 0) e.parent

  t1 : List ℕ
  t1 = set t0 (8 * x + 1) e.depth

  t2 : List ℕ
  t2 = set t1 (8 * x + 2) e.unit

  t3 : List ℕ
  t3 = set t2 (8 * x + 3) e.fun

  t4 : List ℕ
  t4 = set t3 (8 * x + 4) e.class

  pub put_length : length (put_entry t x e) ≡ length t
  unfolding put_entry
  put_length = simp length-set

  pub put_row : (k d : ℕ) → (k ≡ x → ⊥) → d < 8 → word (put_entry t x e) k d ≡ word t k d
  unfolding put_entry t0 t1 t2 t3 t4
  put_row k d f h =
      word_row t4 x 5 e.state k d f (omega arith) h ∙ word_row t3 x 4 e.class k d f (omega arith) h ∙ word_row t2 x 3 e.fun k d f (omega arith) h
      ∙ word_row t1 x 2 e.unit k d f (omega arith) h ∙ word_row t0 x 1 e.depth k d f (omega arith) h ∙ word_row t x 0 e.parent k d f (omega arith) h

  -- word 7 stays
  pub put_seven : (k : ℕ) → word (put_entry t x e) k 7 ≡ word t k 7
  unfolding put_entry t0 t1 t2 t3 t4
  put_seven k =
      word_column t4 x 5 e.state k 7 (λ q. omega arith) (omega arith) (omega arith) ∙ word_column t3 x 4 e.class k 7 (λ q. omega arith) (omega arith) (omega arith)
      ∙ word_column t2 x 3 e.fun k 7 (λ q. omega arith) (omega arith) (omega arith) ∙ word_column t1 x 2 e.unit k 7 (λ q. omega arith) (omega arith) (omega arith)
      ∙ word_column t0 x 1 e.depth k 7 (λ q. omega arith) (omega arith) (omega arith) ∙ word_column t x 0 e.parent k 7 (λ q. omega arith) (omega arith) (omega arith)

  module _ (room : 8 * x + 8 ≤ length t) where
    size0 : length t0 ≡ length t
    unfolding t0
    size0 = length-set t (8 * x + 0) e.parent

    size1 : length t1 ≡ length t
    unfolding t1
    size1 = length-set t0 (8 * x + 1) e.depth ∙ size0

    size2 : length t2 ≡ length t
    unfolding t2
    size2 = length-set t1 (8 * x + 2) e.unit ∙ size1

    size3 : length t3 ≡ length t
    unfolding t3
    size3 = length-set t2 (8 * x + 3) e.fun ∙ size2

    size4 : length t4 ≡ length t
    unfolding t4
    size4 = length-set t3 (8 * x + 4) e.class ∙ size3

    pub put_parent : word (put_entry t x e) x 0 ≡ e.parent
    unfolding put_entry t0 t1 t2 t3 t4
    put_parent =
        word_column t4 x 5 e.state x 0 (λ q. omega arith) (omega arith) (omega arith) ∙ word_column t3 x 4 e.class x 0 (λ q. omega arith) (omega arith) (omega arith)
        ∙ word_column t2 x 3 e.fun x 0 (λ q. omega arith) (omega arith) (omega arith) ∙ word_column t1 x 2 e.unit x 0 (λ q. omega arith) (omega arith) (omega arith)
        ∙ word_column t0 x 1 e.depth x 0 (λ q. omega arith) (omega arith) (omega arith) ∙ word_same t x 0 e.parent (omega arith)

    pub put_depth : word (put_entry t x e) x 1 ≡ e.depth
    unfolding put_entry t0 t1 t2 t3 t4
    put_depth =
        word_column t4 x 5 e.state x 1 (λ q. omega arith) (omega arith) (omega arith) ∙ word_column t3 x 4 e.class x 1 (λ q. omega arith) (omega arith) (omega arith)
        ∙ word_column t2 x 3 e.fun x 1 (λ q. omega arith) (omega arith) (omega arith) ∙ word_column t1 x 2 e.unit x 1 (λ q. omega arith) (omega arith) (omega arith)
        ∙ word_same t0 x 1 e.depth (omega (arith, size0))

    pub put_unit : word (put_entry t x e) x 2 ≡ e.unit
    unfolding put_entry t0 t1 t2 t3 t4
    put_unit =
        word_column t4 x 5 e.state x 2 (λ q. omega arith) (omega arith) (omega arith) ∙ word_column t3 x 4 e.class x 2 (λ q. omega arith) (omega arith) (omega arith)
        ∙ word_column t2 x 3 e.fun x 2 (λ q. omega arith) (omega arith) (omega arith) ∙ word_same t1 x 2 e.unit (omega (arith, size1))

    pub put_fun : word (put_entry t x e) x 3 ≡ e.fun
    unfolding put_entry t0 t1 t2 t3 t4
    put_fun =
        word_column t4 x 5 e.state x 3 (λ q. omega arith) (omega arith) (omega arith) ∙ word_column t3 x 4 e.class x 3 (λ q. omega arith) (omega arith) (omega arith)
        ∙ word_same t2 x 3 e.fun (omega (arith, size2))

    pub put_class : word (put_entry t x e) x 4 ≡ e.class
    unfolding put_entry t0 t1 t2 t3 t4
    put_class = word_column t4 x 5 e.state x 4 (λ q. omega arith) (omega arith) (omega arith) ∙ word_same t3 x 4 e.class (omega (arith, size3))

    pub put_state : word (put_entry t x e) x 5 ≡ e.state
    unfolding put_entry t0 t1 t2 t3 t4
    put_state = word_same t4 x 5 e.state (omega (arith, size4))
