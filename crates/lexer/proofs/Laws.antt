-- A position's parts come back out of it, for callers to cite. Assumes nothing.
use mathlib.Core.Path.{◌≡◌, refl, ◌∙◌}
use Prim.Native.Nat.{ℕ, ◌+◌, ◌*◌, ◌^◌, ◌<◌, ◌≤◌}
use native.Mathlib.Decide.{dec_lt}
use native.Mathlib.Omega.{arith}
use borrow.Author.Tests.{lt-ltb, le-ltb}
use Rattle.lexer.specs.SrcPos.{clamped, packed, file_of, line_of, column_of}

-- No position has the parts 0, 0, 0.
pub file_none : file_of 0 ≡ 0
unfolding file_of
file_none = refl

pub line_none : line_of 0 ≡ 0
unfolding line_of
line_none = refl

pub column_none : column_of 0 ≡ 0
unfolding column_of
column_none = refl

module _ (f l c : ℕ) where
  pub packed_in : f < 262144 → packed f l c ≡ f * 2 ^ 46 + l * 2 ^ 14 + clamped c
  unfolding packed
  packed_in hf = rw (lt-ltb f 262144 hf)

  pub packed_out : 262144 ≤ f → packed f l c ≡ 0
  unfolding packed
  packed_out hf = rw (le-ltb f 262144 hf)

  pub file_out : 262144 ≤ f → file_of (packed f l c) ≡ 0
  file_out hf = rw (packed_out hf) file_none

  pub line_out : 262144 ≤ f → line_of (packed f l c) ≡ 0
  line_out hf = rw (packed_out hf) line_none

  pub column_out : 262144 ≤ f → column_of (packed f l c) ≡ 0
  column_out hf = rw (packed_out hf) column_none

  module _ (hf : f < 262144) (hl : l < 2 ^ 32) where
    pub file_packed : file_of (packed f l c) ≡ f
    unfolding file_of
    file_packed = rw (packed_in hf) (omega arith)

    pub line_packed : line_of (packed f l c) ≡ l
    unfolding line_of
    line_packed = rw (packed_in hf) (omega arith)

    pub column_packed : column_of (packed f l c) ≡ clamped c
    unfolding column_of
    column_packed = rw (packed_in hf) (omega arith)

  pub packed_fits : l < 2 ^ 32 → packed f l c < 2 ^ 64
  packed_fits hl = go (dec_lt f 262144)
    where
      go : Dec (f < 262144) → packed f l c < 2 ^ 64
      go (yes h) = rw (packed_in h) (omega arith)
      go (no h) = rw (packed_out (omega arith)) (omega arith)

-- Positions are equal exactly if their parts are.
pub packed_same : (f l c f' l' c' : ℕ) → f < 262144 → l < 2 ^ 32 → f' < 262144 → l' < 2 ^ 32
    → packed f l c ≡ packed f' l' c' → (f ≡ f') × (l ≡ l') × (clamped c ≡ clamped c')
packed_same f l c f' l' c' hf hl hf' hl' e = (
  cc (file_packed f l c hf hl, file_packed f' l' c' hf' hl'),
  cc (line_packed f l c hf hl, line_packed f' l' c' hf' hl'),
  cc (column_packed f l c hf hl, column_packed f' l' c' hf' hl'),
)

pub packed_alike : (f l c c' : ℕ) → clamped c ≡ clamped c' → packed f l c ≡ packed f l c'
unfolding packed
packed_alike f l c c' h = rw h

-- Every word of 64 bits is the position of its parts.
pub packed_parts : (p : ℕ) → p < 2 ^ 64 → packed (file_of p) (line_of p) (column_of p) ≡ p
unfolding file_of line_of column_of
packed_parts p h = packed_in (file_of p) (line_of p) (column_of p) (omega arith) ∙ omega arith

pub file_small : (p : ℕ) → p < 2 ^ 64 → file_of p < 262144
unfolding file_of
file_small p h = omega arith

pub line_small : (p : ℕ) → line_of p < 2 ^ 32
unfolding line_of
line_small p = omega arith

pub column_small : (p : ℕ) → column_of p < 2 ^ 14
unfolding column_of
column_small p = omega arith

-- Values: the last column and the first that is clamped,
column_last : packed 0 0 16383 ≡ 16383
unfolding packed
column_last = refl

column_clamped : packed 0 0 16384 ≡ 16383
unfolding packed
column_clamped = refl

-- the last line, after which the next file begins,
line_last : packed 6 4294967295 16383 + 1 ≡ packed 7 0 0
unfolding packed
line_last = refl

-- the last file, which fills the word, and the first that is none.
file_last : packed 262143 4294967295 4294967295 ≡ 18446744073709551615
unfolding packed
file_last = refl

file_past : packed 262144 1 1 ≡ 0
unfolding packed
file_past = refl
