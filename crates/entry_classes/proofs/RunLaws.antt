-- A loop over answer rows: what it writes for each row, one after another, and what it counts.
use mathlib.Core.Path.{◌≡◌, refl, sym, ap, ◌∙◌, subst}
use mathlib.Core.List.{List, [], ◌∷◌}
use mathlib.Core.Bool.{◌||◌}
use Prim.Native.Nat.{ℕ, suc, ◌+◌, ◌-◌, ◌*◌, ◌<◌, ◌≤◌}
use native.Mathlib.Omega.{arith}
use lib.ListN.{length, get_or, take, drop}
use lib.Seq.{sets, drop-drop, get_or-take, get_or-drop}
use lib.Dec.{eqb, T}
use Rattle.definition.specs.Basics.{all, count, concat_map, bit}
use Rattle.definition.proofs.Lists.Tests.{and_left, and_right, bit_le}
use Rattle.definition.specs.Outcome.{rows_of_words}
use Rattle.machine.proofs.Words.{sets_more}
use Rattle.entry_classes.specs.Told.{row_fits, tells_class, tells_member}

-- row i of words, as a loop lends it, and the rows from row i on up to k
abbrev pub row_at : List ℕ → ℕ → List ℕ
row_at out i = take (8 * i + 8 - 8 * i) (drop (8 * i) out)

abbrev pub rest : List ℕ → ℕ → ℕ → List (List ℕ)
rest out k i = rows_of_words (k - i) (drop (8 * i) out)

rest_whole : (out : List ℕ) (k : ℕ) → rest out k 0 ≡ rows_of_words k out
rest_whole out k = let z : k - 0 ≡ k = omega arith in ap (λ (j : ℕ). rows_of_words j out) z

rest_next : (out : List ℕ) (k i : ℕ) → i < k → rest out k i ≡ row_at out i ∷ rest out k (i + 1)
unfolding rows_of_words
rest_next out k i l =
    let n : k - i ≡ suc (k - (i + 1)) = omega arith in
    let e : 8 ≡ 8 * i + 8 - 8 * i = omega arith in
    let z : 8 * i + 8 ≡ 8 * (i + 1) = omega arith in
    ap (λ (j : ℕ). rows_of_words j (drop (8 * i) out)) n
    ∙ ap (λ (j : ℕ). take j (drop (8 * i) out) ∷ rows_of_words (k - (i + 1)) (drop 8 (drop (8 * i) out))) e
    ∙ ap (λ (u : List ℕ). row_at out i ∷ rows_of_words (k - (i + 1)) u) (drop-drop 8 (8 * i) out ∙ ap (λ (j : ℕ). drop j out) z)

rest_end : (out : List ℕ) (k i : ℕ) → k ≤ i → rest out k i ≡ []
unfolding rows_of_words
rest_end out k i l = let z : k - i ≡ 0 = omega arith in ap (λ (j : ℕ). rows_of_words j (drop (8 * i) out)) z

-- the code of row i
code_read : (out : List ℕ) (i : ℕ) → get_or out (8 * i + 1) 0 ≡ get_or (row_at out i) 1 0
code_read out i = sym (get_or-take (8 * i + 8 - 8 * i) (drop (8 * i) out) 1 0 (omega arith) ∙ get_or-drop (8 * i) out 1 0)

-- For each of k rows in words, f tells the words to write, at most m: a loop that writes them from a place of w₀ on has come to row i, and to place p of
-- the words w. What f tells may depend on a value that the loop does not know.
pub record Writing {X : Type 0} (f : X → List ℕ → List ℕ) (m : ℕ) (w₀ : List ℕ) (place : ℕ) (out : List ℕ) (k : ℕ) (w : List ℕ) (i p : ℕ) : Type 0 where
  pub writes : (x : X) → sets w p (concat_map (f x) (rest out k i)) ≡ sets w₀ place (concat_map (f x) (rows_of_words k out))
  pub passed : i ≤ k
  pub near : p ≤ place + m * i
  pub long : length w ≡ length w₀
  pub fit : T (all row_fits (rest out k i))

module _ {X : Type 0} {f : X → List ℕ → List ℕ} {m : ℕ} {w₀ : List ℕ} {place : ℕ} {out : List ℕ} {k : ℕ} where
  pub writing_start : T (all row_fits (rows_of_words k out)) → Writing f m w₀ place out k w₀ 0 place
  writing_start h =
      record {
        writes = λ x. ap (λ (rs : List (List ℕ)). sets w₀ place (concat_map (f x) rs)) (rest_whole out k);
        passed = omega arith;
        near = omega arith;
        long = refl;
        fit = subst (λ (rs : List (List ℕ)). T (all row_fits rs)) (sym (rest_whole out k)) h;
      }

  module _ {w : List ℕ} {i p : ℕ} (h : Writing f m w₀ place out k w i p) where
    module _ (l : i < k) where
      pub writing_fits : T (row_fits (row_at out i))
      writing_fits = and_left (row_fits (row_at out i)) (all row_fits (rest out k (i + 1))) (subst (λ (rs : List (List ℕ)). T (all row_fits rs)) (rest_next out k i l) h.fit)

      pub writing_more : {w' : List ℕ} {n : ℕ} → n ≤ m → ((x : X) → n ≡ length (f x (row_at out i))) → ((x : X) → w' ≡ sets w p (f x (row_at out i))) → length w' ≡ length w
          → Writing f m w₀ place out k w' (i + 1) (p + n)
      writing_more {w'} {n} few size e long =
          record {
            writes = λ x.
                ap (λ (u : List ℕ). sets u (p + n) (concat_map (f x) (rest out k (i + 1)))) (e x)
                ∙ sym (sets_more w p (f x (row_at out i)) (concat_map (f x) (rest out k (i + 1))) (ap (λ (j : ℕ). p + j) (size x)))
                ∙ ap (λ (rs : List (List ℕ)). sets w p (concat_map (f x) rs)) (sym (rest_next out k i l)) ∙ h.writes x;
            passed = omega arith;
            near = omega (arith, h.near);
            long = long ∙ h.long;
            fit = and_right (row_fits (row_at out i)) (all row_fits (rest out k (i + 1))) (subst (λ (rs : List (List ℕ)). T (all row_fits rs)) (rest_next out k i l) h.fit);
          }

    pub writing_end : k ≤ i → (x : X) → w ≡ sets w₀ place (concat_map (f x) (rows_of_words k out))
    writing_end l x = ap (λ (rs : List (List ℕ)). sets w p (concat_map (f x) rs)) (sym (rest_end out k i l)) ∙ h.writes x

-- A loop that counts classes and members has come to row i, with counts a and b.
pub record Counting (out : List ℕ) (k i a b : ℕ) : Type 0 where
  pub classes : a + count tells_class (rest out k i) ≡ count tells_class (rows_of_words k out)
  pub members : b + count tells_member (rest out k i) ≡ count tells_member (rows_of_words k out)
  pub passed : i ≤ k
  pub near : (a ≤ i) × (b ≤ i)

module _ {out : List ℕ} {k : ℕ} where
  pub counting_start : Counting out k 0 0 0
  counting_start =
      record {
        classes = ap (λ (rs : List (List ℕ)). 0 + count tells_class rs) (rest_whole out k) ∙ omega arith;
        members = ap (λ (rs : List (List ℕ)). 0 + count tells_member rs) (rest_whole out k) ∙ omega arith;
        passed = omega arith;
        near = (omega arith, omega arith);
      }

  module _ {i a b : ℕ} (h : Counting out k i a b) where
    pub counting_more : {c x y : ℕ} → i < k → c ≡ get_or out (8 * i + 1) 0 → x ≡ bit (eqb c 22) → y ≡ bit (eqb c 23 || eqb c 24) → Counting out k (i + 1) (a + x) (b + y)
    counting_more {c} {x} {y} l e ex ey =
        record {
          classes = omega (arith, h.classes, ap (count tells_class) (rest_next out k i l), same_class);
          members = omega (arith, h.members, ap (count tells_member) (rest_next out k i l), same_member);
          passed = omega arith;
          near = (omega (arith, h.near.0, ex, bit_le (eqb c 22)), omega (arith, h.near.1, ey, bit_le (eqb c 23 || eqb c 24)));
        }
      where
        code : c ≡ get_or (row_at out i) 1 0
        code = e ∙ code_read out i

        same_class : x ≡ bit (tells_class (row_at out i))
        same_class = ex ∙ ap (λ (j : ℕ). bit (eqb j 22)) code

        same_member : y ≡ bit (tells_member (row_at out i))
        same_member = ey ∙ ap (λ (j : ℕ). bit (eqb j 23 || eqb j 24)) code

    pub counting_end : k ≤ i → (a ≡ count tells_class (rows_of_words k out)) × (b ≡ count tells_member (rows_of_words k out))
    counting_end l = (omega (arith, h.classes, ap (count tells_class) (rest_end out k i l)), omega (arith, h.members, ap (count tells_member) (rest_end out k i l)))
