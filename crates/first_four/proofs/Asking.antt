-- Questions 3 and 4 by the outcomes of the passes, with scratch space of zeros.
use mathlib.Core.Path.{◌≡◌, refl, sym, ap, ◌∙◌}
use mathlib.Core.Bool.{Bool, true, false, not, ◌&&◌}
use mathlib.Core.List.{List}
use Prim.Native.Nat.{ℕ, zero, suc, ◌+◌, ◌*◌, ◌<◌, ◌≤◌}
use native.Mathlib.Omega.{arith}
use lib.Dec.{eqb, leb, eqb→eq, leb→le}
use lib.ListN.{length, get_or, replicate, length-replicate}
use Rattle.definition.specs.Basics.{when◌then◌else◌, all, from}
use Rattle.definition.specs.Sheet.{Sheet, rows}
use Rattle.definition.specs.Format.{sheet_fits, depths_fit}
use Rattle.definition.specs.Names.{names_fit, name_count}
use Rattle.definition.specs.Outcome.{refused, rows_fit, asked, outcome}
use Rattle.definition.proofs.Lists.Tests.{T_true, T_and}
use Rattle.definition.specs.Outside.{core}
use Rattle.row_fits.specs.Pass.{rows_noted, depth_ok}
use Rattle.first_four.specs.Questions.{format_question, first_four}
use Rattle.first_four.specs.Whole.{links_ok, rows_all}
use Rattle.first_four.proofs.Question3.{question_3, question_4}

zero_at : (n i : ℕ) → get_or {A = ℕ} (replicate n 0) i 0 ≡ 0
zero_at zero i = refl
zero_at (suc n) zero = refl
zero_at (suc n) (suc i) = zero_at n i

pub zeros_at : (n : ℕ) (t : List ℕ) → t ≡ replicate n 0 → (i : ℕ) → get_or t i 0 ≡ 0
zeros_at n t e i = ap (λ (u : List ℕ). get_or u i 0) e ∙ zero_at n i

pub zeros_long : (n : ℕ) (t : List ℕ) → t ≡ replicate n 0 → length t ≡ n
zeros_long n t e = ap length e ∙ length-replicate n 0

module _ (last : ℕ) (s : Sheet) (t m : List ℕ) (some : 0 < rows s) (few : rows s ≤ 2048) (wide : last < 1049) (table : t ≡ replicate 16384 0) (marks : m ≡ replicate 1049 0) where
  fits : (links_ok s && rows_all s last t m) ≡ sheet_fits last s
  fits =
      question_3 last s t m some few (omega (arith, zeros_long 16384 t table)) (λ k c. zeros_at 16384 t table (8 * k + c)) (λ i. omega (arith, zeros_at 1049 m marks i))
      (omega (arith, zeros_long 1049 m marks))

  -- the number that the answers to questions 3 and 4 give
  abbrev pub number : Bool → Bool → ℕ
  number x y = when not x then 3 else when not y then 4 else 0

  pub links_no : links_ok s ≡ false → 3 ≡ format_question last s
  links_no e = ap (λ (x : Bool). number x (depths_fit s)) (ap (λ (x : Bool). x && rows_all s last t m) (sym e) ∙ fits)

  pub rows_no : links_ok s ≡ true → rows_all s last t m ≡ false → 3 ≡ format_question last s
  rows_no e w = ap (λ (x : Bool). number x (depths_fit s)) (sym w ∙ ap (λ (x : Bool). x && rows_all s last t m) (sym e) ∙ fits)

  yes_3 : links_ok s ≡ true → rows_all s last t m ≡ true → true ≡ sheet_fits last s
  yes_3 e w = sym w ∙ ap (λ (x : Bool). x && rows_all s last t m) (sym e) ∙ fits

  -- u is the table that the passes leave
  pub depths_are : (x : Bool) (u : List ℕ) → links_ok s ≡ true → rows_all s last t m ≡ true → u ≡ rows_noted s (rows s) 0 t
      → x ≡ all (depth_ok u) (from 0 (rows s)) → number true x ≡ format_question last s
  depths_are x u e w v d =
      let y : sheet_fits last s ≡ true = sym (yes_3 e w) in
      let z : all (depth_ok (rows_noted s (rows s) 0 t)) (from 0 (rows s)) ≡ depths_fit s =
      question_4 last s t m some few (omega (arith, zeros_long 16384 t table)) (λ k c. zeros_at 16384 t table (8 * k + c)) (λ i. omega (arith, zeros_at 1049 m marks i))
      (omega (arith, zeros_long 1049 m marks)) y in
      ap (number true) (d ∙ ap (λ (q : List ℕ). all (depth_ok q) (from 0 (rows s))) v ∙ z) ∙ ap (λ (q : Bool). number q (depths_fit s)) (sym y)

-- question 1
pub sized : (s : Sheet) → rows_fit s ≡ true → (length s ≡ 8 * rows s) × (0 < rows s) × (rows s ≤ 2048)
sized s e =
    let q1 = T_and (eqb (8 * rows s) (length s) && leb 1 (rows s)) (leb (rows s) 2048) (T_true (rows_fit s) e) in
    let q2 = T_and (eqb (8 * rows s) (length s)) (leb 1 (rows s)) q1.0 in
    (sym (eqb→eq (8 * rows s) (length s) q2.0), leb→le 1 (rows s) q2.1, leb→le (rows s) 2048 q1.1)

-- the outcome by the answer of the first four questions
pub outcome_of_lem : (s : Sheet) (ns : List ℕ) (lent : ℕ) → outcome s ns lent ≡ (when eqb (first_four s ns) 0 then asked core lent s else refused (first_four s ns))
outcome_of_lem s ns lent = go (rows_fit s) (names_fit ns) (sheet_fits (name_count ns) s) (depths_fit s)
  where
    go : (x y z w : Bool)
        → (when not x then refused 1 else when not y then refused 2 else when not z then refused 3 else when not w then refused 4 else asked core lent s)
        ≡ (when eqb (when not x then 1 else when not y then 2 else when not z then 3 else when not w then 4 else 0) 0 then asked core lent s
        else refused (when not x then 1 else when not y then 2 else when not z then 3 else when not w then 4 else 0))
    go false y z w = refl
    go true false z w = refl
    go true true false w = refl
    go true true true false = refl
    go true true true true = refl
