-- The bytes of a fresh session, one after another; and that it passes question 23.
use mathlib.Core.Path.{◌≡◌, refl, sym, ap, ◌∙◌}
use mathlib.Core.List.{List, [], ◌∷◌, ◌++◌, map}
use Prim.Native.Nat.{ℕ, suc, ◌+◌, ◌-◌, ◌<◌, ◌≤◌}
use native.Mathlib.Omega.{arith}
use lib.ListN.{length, get_or, set, take, replicate, length-set, length-map, length-replicate, get_or-eq_default}
use lib.Seq.{take_at, take_all, take-suc-set}
use Rattle.definition.specs.Basics.{from}
use Rattle.session.specs.Words.{whole, fixed_bytes}
use Rattle.definition.proofs.Lists.Members.{map_append}
use Rattle.session.proofs.SessionLaws.{from_length}
use Rattle.session.proofs.HeldRuns.{from_split}
use Rattle.session.proofs.Theorems.{zeros_fit, zeros_held, nine_at, zero_beside}
use Rattle.fresh_session.specs.Fresh.{fresh_byte, fresh_in, Fresh}

-- a fixed byte, and one past them
pub byte_past : (i : ℕ) → 168 ≤ i → 0 ≡ fresh_byte i
byte_past i h = sym (get_or-eq_default fixed_bytes 0 h)

-- the first bytes of a fresh session are those of the fixed names
begun : (m : ℕ) → 168 ≤ m → take 168 (fresh_in m) ≡ fixed_bytes
begun m h =
    ap (λ (k : ℕ). take 168 (fresh_in k)) split ∙ ap (λ (l : List ℕ). take 168 (map fresh_byte l)) (from_split 0 168 (m - 168))
    ∙ ap (take 168) (map_append fresh_byte (from 0 168) (from (0 + 168) (m - 168))) ∙ take_at (fresh_in 168) (map fresh_byte (from (0 + 168) (m - 168))) 168 refl
  where
    split : m ≡ 168 + (m - 168)
    split = omega arith

-- a loop that writes the bytes one after another has written i of them
pub record Writing (v : List ℕ) (i : ℕ) (w : List ℕ) : Type 0 where
  pub writes : take i w ≡ fresh_in i
  pub long : length w ≡ length v
  pub within : i ≤ length v

pub writing_start : (v : List ℕ) → Writing v 0 v
writing_start v = record { writes = refl; long = refl; within = omega arith }

pub writing_more : {v w : List ℕ} {i b : ℕ} → Writing v i w → i < length w → b ≡ fresh_byte i → Writing v (i + 1) (set w i b)
writing_more {v} {w} {i} {b} h l e =
    let s : i + 1 ≡ suc i = omega arith in
    record {
      writes =
          ap (λ (k : ℕ). take k (set w i b)) s ∙ take-suc-set w i b l ∙ ap (λ (l : List ℕ). l ++ b ∷ []) h.writes
          ∙ ap (λ (x : ℕ). fresh_in i ++ x ∷ []) (e ∙ ap fresh_byte z) ∙ sym (map_append fresh_byte (from 0 i) (from (0 + i) 1)) ∙ ap (map fresh_byte) (sym (from_split 0 i 1));
      long = length-set w i b ∙ h.long;
      within = omega (arith, h.long);
    }
  where
    z : i ≡ 0 + i
    z = omega arith

pub writing_end : {v w : List ℕ} {i : ℕ} → Writing v i w → length w ≤ i → w ≡ fresh_in (length v)
writing_end {v} {w} {i} h l =
    let e : i ≡ length v = omega (arith, h.long, h.within) in
    sym (take_all i w l) ∙ h.writes ∙ ap fresh_in e

pub fresh_made : {k m : ℕ} {w n : List ℕ} → w ≡ set (replicate k 0) 2 9 → n ≡ fresh_in m → Fresh k m w n
fresh_made {k} {m} {w} {n} e d =
    record {
      words = e;
      bytes = d;
      fits = λ l h.
          zeros_fit whole w n zeros (first h) (ap (λ (v : List ℕ). get_or v 2 0) e ∙ nine_at k (omega (arith, l)))
          (omega (arith, l, ap length e, length-set {A = ℕ} (replicate k 0) 2 9, length-replicate {A = ℕ} k 0))
          (omega (arith, h, ap length d, length-map (from 0 m) fresh_byte, from_length 0 m));
      held = λ l h. zeros_held whole w n zeros (first h);
    }
  where
    zeros : (i : ℕ) → (i ≡ 2 → ⊥) → get_or w i 0 ≡ 0
    zeros i f = ap (λ (v : List ℕ). get_or v i 0) e ∙ zero_beside k i f

    first : 32936 ≤ m → take (length fixed_bytes) n ≡ fixed_bytes
    first h = ap (take 168) d ∙ begun m (omega arith)
