-- One row raised in place, by its code; then the rows of words, one after another.
use mathlib.Core.Path.{◌≡◌, refl, sym, ap, ◌∙◌, subst}
use mathlib.Core.Logic.{◌⊎◌, inl, inr}
use mathlib.Core.Bool.{◌||◌}
use mathlib.Core.List.{List, ◌++◌, map, append_assoc}
use Prim.Native.Nat.{ℕ, zero, suc, ◌+◌, ◌-◌, ◌*◌, ◌<◌, ◌≤◌}
use native.Mathlib.Omega.{arith}
use borrow.Author.Tests.{ne_eqb, ltb-true}
use borrow.Rule.Slice.PartMut.{put_mid, post_of, drop_put}
use lib.Dec.{eqb, ltb, T}
use lib.ListN.{length, get_or, take, drop, take-append-drop, length-append, length-drop}
use lib.Seq.{take_at, drop-drop, length-take-le}
use Rattle.definition.specs.Basics.{◌⇒◌, all, concat_map}
use Rattle.definition.specs.Answer.{raised_row}
use Rattle.definition.proofs.Lists.Tests.{true_of, T_and}
use Rattle.ast.specs.Code.{code_number}
use Rattle.ast.specs.declared.code.Code.{Code}
use Rattle.ast.specs.declared.code.Code.TheVariants.{Fun, Class, Arg, Local, ClassCounts, Method}
use Rattle.definition.specs.Outcome.{rows_of_words}
use Rattle.raise.specs.RaisedWords.{owner_fits, raised_words}

-- Row x over base n.
module _ (n : ℕ) (x : List ℕ) where
  abbrev c : ℕ
  c = get_or x 1 0

  pub row_no_code : ((y : Code) → c ≡ code_number y → ⊥) → x ≡ raised_row n x
  row_no_code f = rw (ne_eqb c 1 (f Fun), ne_eqb c 2 (f Class), ne_eqb c 22 (f ClassCounts), ne_eqb c 4 (f Arg), ne_eqb c 5 (f Local), ne_eqb c 24 (f Method))

  pub owner_below : T (owner_fits x) → {y : Code} → c ≡ code_number y → (y ≡ Arg) ⊎ (y ≡ Local) → get_or x 3 0 < 2048
  unfolding owner_fits
  owner_below h {y} e₀ l = ltb-true (get_or x 3 0) 2048 (true_of (ltb (get_or x 3 0) 2048) (go (one_of l)))
    where
      one_of : (y ≡ Arg) ⊎ (y ≡ Local) → (c ≡ 4) ⊎ (c ≡ 5)
      one_of (inl e) = inl (e₀ ∙ ap code_number e)
      one_of (inr e) = inr (e₀ ∙ ap code_number e)

      go : (c ≡ 4) ⊎ (c ≡ 5) → T (ltb (get_or x 3 0) 2048)
      go (inl e) = subst (λ (i : ℕ). T ((eqb i 4 || eqb i 5) ⇒ ltb (get_or x 3 0) 2048)) e h
      go (inr e) = subst (λ (i : ℕ). T ((eqb i 4 || eqb i 5) ⇒ ltb (get_or x 3 0) 2048)) e h

-- The first k rows of words, each replaced by what f makes of it, one after another.
module _ (f : List ℕ → List ℕ) where
  abbrev replaced : ℕ → List ℕ → List ℕ
  replaced k w = concat_map (λ r. r) (map f (rows_of_words k w)) ++ drop (8 * k) w

  -- in w the first r of the k rows of w₀ are replaced; those after them are to be, and fit
  pub record Done (k : ℕ) (w₀ : List ℕ) (r : ℕ) (w : List ℕ) : Type 0 where
    pub passed : r ≤ k
    pub same_length : length w ≡ length w₀
    pub fit : T (all owner_fits (rows_of_words (k - r) (drop (8 * r) w)))
    pub ahead : take (8 * r) w ++ replaced (k - r) (drop (8 * r) w) ≡ replaced k w₀

  pub none_done : (k : ℕ) (w : List ℕ) → T (all owner_fits (rows_of_words k w)) → Done k w 0 w
  none_done k w h =
      let z : k ≡ k - 0 = omega arith in
      record {
        passed = omega arith;
        same_length = refl;
        fit = subst (λ (j : ℕ). T (all owner_fits (rows_of_words j w))) z h;
        ahead = ap (λ (j : ℕ). replaced j w) (sym z);
      }

  module _ {k : ℕ} {w₀ : List ℕ} {r : ℕ} {w : List ℕ} (d : Done k w₀ r w) where
    pub all_done : k ≤ r → w ≡ replaced k w₀
    unfolding rows_of_words
    all_done l =
        let z : k - r ≡ 0 = omega (arith, d.passed) in
        sym (take-append-drop (8 * r) w) ∙ ap (λ (j : ℕ). take (8 * r) w ++ replaced j (drop (8 * r) w)) (sym z) ∙ d.ahead

    -- the words of the next row are the first m of v, as the loop lends them
    abbrev m : ℕ
    m = 8 * r + 8 - 8 * r

    abbrev v : List ℕ
    v = drop (8 * r) w

    module _ (l : r < k) where
      next_row : take m v ≡ take 8 v
      next_row = let z : m ≡ 8 = omega arith in ap (λ (j : ℕ). take j v) z

      left : k - r ≡ suc (k - (r + 1))
      left = omega arith

      fits : T (owner_fits (take 8 v)) × T (all owner_fits (rows_of_words (k - (r + 1)) (drop 8 v)))
      unfolding rows_of_words
      fits = T_and (owner_fits (take 8 v)) (all owner_fits (rows_of_words (k - (r + 1)) (drop 8 v))) (subst (λ (j : ℕ). T (all owner_fits (rows_of_words j v))) left d.fit)

      pub next_fits : T (owner_fits (take m v))
      next_fits = subst (λ (x : List ℕ). T (owner_fits x)) (sym next_row) fits.0

      pub one_done : {z : List ℕ} → 8 * k ≤ length w₀ → length (put_mid (8 * r) m w z) ≡ length w → z ≡ f (take m v) → Done k w₀ (r + 1) (put_mid (8 * r) m w z)
      unfolding rows_of_words
      one_done {z} room e h =
          record {
            passed = omega arith;
            same_length = e ∙ d.same_length;
            fit = subst (λ (u : List ℕ). T (all owner_fits (rows_of_words (k - (r + 1)) u))) (sym rest) fits.1;
            ahead =
                ap (λ (u : List ℕ). u ++ replaced (k - (r + 1)) (drop (8 * (r + 1)) w')) front
                ∙ ap (λ (u : List ℕ). (take (8 * r) w ++ z) ++ replaced (k - (r + 1)) u) rest
                ∙ append_assoc (take (8 * r) w) z (replaced (k - (r + 1)) (drop 8 v))
                ∙ ap (λ (u : List ℕ). take (8 * r) w ++ u) done
                ∙ d.ahead;
          }
        where
          w' : List ℕ
          w' = put_mid (8 * r) m w z

          inside : 8 * r + 8 ≤ length w
          inside = omega (arith, d.same_length)

          at : 8 * (r + 1) ≡ 8 * r + 8
          at = omega arith

          size : length z ≡ m
          size =
              omega (
                arith,
                e,
                length-append (take (8 * r) w) (z ++ drop m v),
                length-append z (drop m v),
                length-drop m v,
                length-drop (8 * r) w,
                length-take-le (8 * r) w (omega arith),
              )

          rest : drop (8 * (r + 1)) w' ≡ drop 8 v
          rest = ap (λ (j : ℕ). drop j w') at ∙ drop_put (8 * r) (8 * r + 8) w z (omega arith) inside size ∙ sym (drop-drop 8 (8 * r) w)

          front : take (8 * (r + 1)) w' ≡ take (8 * r) w ++ z
          front =
              ap (λ (j : ℕ). take j w') at ∙ ap (take (8 * r + 8)) (sym (append_assoc (take (8 * r) w) z (post_of (8 * r) m w)))
              ∙ take_at (take (8 * r) w ++ z) (post_of (8 * r) m w) (8 * r + 8) (omega (arith, size, length-append (take (8 * r) w) z, length-take-le (8 * r) w (omega arith)))

          done : z ++ replaced (k - (r + 1)) (drop 8 v) ≡ replaced (k - r) v
          done =
              let j : ℕ = k - (r + 1) in
              let row : z ≡ f (take 8 v) = h ∙ ap f next_row in
              let end : 8 * suc j ≡ 8 + 8 * j = omega arith in
              ap (λ (u : List ℕ). u ++ replaced j (drop 8 v)) row
              ∙ sym (append_assoc (f (take 8 v)) (concat_map (λ r. r) (map f (rows_of_words j (drop 8 v)))) (drop (8 * j) (drop 8 v)))
              ∙ ap (λ (u : List ℕ). (f (take 8 v) ++ concat_map (λ r. r) (map f (rows_of_words j (drop 8 v)))) ++ u) (drop-drop (8 * j) 8 v ∙ ap (λ (i : ℕ). drop i v) (sym end))
              ∙ ap (λ (i : ℕ). replaced i v) (sym left)

-- rows and what follows them are the words
rows_joined : (k : ℕ) (w : List ℕ) → concat_map (λ r. r) (rows_of_words k w) ++ drop (8 * k) w ≡ w
unfolding rows_of_words
rows_joined zero w = refl
rows_joined (suc k) w =
    let end : 8 * suc k ≡ 8 + 8 * k = omega arith in
    ap (λ (i : ℕ). concat_map (λ r. r) (rows_of_words (suc k) w) ++ drop i w) end
    ∙ ap (λ (u : List ℕ). concat_map (λ r. r) (rows_of_words (suc k) w) ++ u) (sym (drop-drop (8 * k) 8 w))
    ∙ append_assoc (take 8 w) (concat_map (λ r. r) (rows_of_words k (drop 8 w))) (drop (8 * k) (drop 8 w))
    ∙ ap (λ (u : List ℕ). take 8 w ++ u) (rows_joined k (drop 8 w))
    ∙ take-append-drop 8 w

-- over base 0, and over others
pub raised_none : {n : ℕ} → n ≡ 0 → (k : ℕ) (w : List ℕ) → w ≡ raised_words n k w
unfolding raised_words
raised_none e k w = rw e (sym (rows_joined k w))

pub raised_all : (n : ℕ) → (n ≡ 0 → ⊥) → {k r : ℕ} {w₀ w : List ℕ} → Done (raised_row n) k w₀ r w → k ≤ r → w ≡ raised_words n k w₀
unfolding raised_words
raised_all zero f d l = absurd (f refl)
raised_all (suc n) f d l = all_done (raised_row (suc n)) d l
