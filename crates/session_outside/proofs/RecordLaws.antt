-- Records and their members, one class after another.
use mathlib.Core.Path.{◌≡◌, refl, sym, ap, ◌∙◌}
use mathlib.Core.List.{List, [], ◌∷◌, ◌++◌, map}
use Prim.Native.Nat.{ℕ, suc, ◌+◌, ◌-◌, ◌*◌, ◌<◌, ◌≤◌}
use native.Mathlib.Omega.{arith}
use lib.ListN.{length, get_or, set, length-map}
use lib.Seq.{sets}
use Rattle.definition.specs.Basics.{concat_map, total, from}
use Rattle.definition.specs.Outside.{Method, ClassRecord, core}
use Rattle.definition.proofs.Lists.Members.{total_append, map_map}
use Rattle.session.specs.Session.{past_rows, earlier_record}
use Rattle.session.specs.Words.{whole, class_place, member_place, fields_in, methods_in, members_before, class_in}
use Rattle.session.proofs.SessionLaws.{from_length, sum_more}
use Rattle.session_outside.specs.Written.{method_words, member_run, record_row, next_place, record_rows, records_from, earlier_method_in}
use Rattle.session_outside.specs.Readable.{Readable}
use Rattle.machine.proofs.Words.{sets_more}
use Rattle.session_outside.proofs.ReadLaws.{run_length}
use Rattle.session_outside.proofs.NameLaws.{from_last}

module _ (w : List ℕ) (i : ℕ) where
  -- class i as a record
  abbrev pub record_in : ClassRecord
  record_in = earlier_record (class_in whole w [] i)

  pub fields_count : length record_in.fields ≡ fields_in whole w [] i
  fields_count =
      length-map (from (members_before whole w [] i) (fields_in whole w [] i)) (λ j. get_or w (member_place whole j) 0)
      ∙ from_length (members_before whole w [] i) (fields_in whole w [] i)

  -- its methods, member by member
  pub methods_are_lem : record_in.methods ≡ map (earlier_method_in w) (from (members_before whole w [] i + fields_in whole w [] i) (methods_in whole w [] i))
  methods_are_lem =
      map_map (λ (m : Method). record { name = m.name; fun = past_rows m.fun; params = m.params })
      (λ (j : ℕ). record { name = get_or w (member_place whole j) 0; fun = get_or w (member_place whole j + 1) 0; params = get_or w (member_place whole j + 2) 0 })
      (from (members_before whole w [] i + fields_in whole w [] i) (methods_in whole w [] i))

  pub methods_count : length record_in.methods ≡ methods_in whole w [] i
  methods_count =
      ap length methods_are_lem ∙ length-map (from (members_before whole w [] i + fields_in whole w [] i) (methods_in whole w [] i)) (earlier_method_in w)
      ∙ from_length (members_before whole w [] i + fields_in whole w [] i) (methods_in whole w [] i)

  pub records_next : i < get_or w 6 0 → records_from w i ≡ record_in ∷ records_from w (i + 1)
  unfolding records_from
  records_next l =
      let z : get_or w 6 0 - i ≡ suc (get_or w 6 0 - (i + 1)) = omega arith in
      let y : suc i ≡ i + 1 = omega arith in
      ap (λ (k : ℕ). map earlier_record (map (class_in whole w []) (from i k)) ++ core.records) z
      ∙ ap (λ (k : ℕ). record_in ∷ (map earlier_record (map (class_in whole w []) (from k (get_or w 6 0 - (i + 1)))) ++ core.records)) y

  pub records_end : get_or w 6 0 ≤ i → records_from w i ≡ core.records
  unfolding records_from
  records_end l =
      let z : get_or w 6 0 - i ≡ 0 = omega arith in
      ap (λ (k : ℕ). map earlier_record (map (class_in whole w []) (from i k)) ++ core.records) z

  -- how many members there are before the next class
  pub members_next : members_before whole w [] (i + 1) ≡ members_before whole w [] i + (fields_in whole w [] i + methods_in whole w [] i)
  members_next =
      let f : ℕ → ℕ = λ j. fields_in whole w [] j + methods_in whole w [] j in
      let y : i + 1 ≡ suc i = omega arith in
      let z : 0 + i ≡ i = omega arith in
      ap (λ (k : ℕ). total f (from 0 k)) y ∙ ap (total f) (from_last 0 i) ∙ total_append f (from 0 i) ((0 + i) ∷ [])
      ∙ ap (λ (k : ℕ). total f (from 0 i) + (f k + 0)) z ∙ omega arith

  pub members_few : Readable w → i < get_or w 6 0 → members_before whole w [] i + (fields_in whole w [] i + methods_in whole w [] i) ≤ 8192
  members_few r l =
      let y : (i + 1) + (get_or w 6 0 - (i + 1)) ≡ get_or w 6 0 = omega arith in
      let f : ℕ → ℕ = λ j. fields_in whole w [] j + methods_in whole w [] j in
      omega (
        arith,
        members_next,
        sum_more f 0 (i + 1) (get_or w 6 0 - (i + 1)),
        ap (λ (k : ℕ). total f (from 0 k)) y,
        r.members_counted,
        r.few_members,
      )

  -- its row, by the words read
  pub row_told : (x : List ℕ) (k p : ℕ) {a b f m : ℕ} {y : List ℕ} → a ≡ get_or w (class_place whole i) 0 → b ≡ get_or w (class_place whole i + 1) 0
      → f ≡ fields_in whole w [] i → m ≡ methods_in whole w [] i → y ≡ sets x k ((a + 2048) ∷ b ∷ p ∷ f ∷ (p + f) ∷ m ∷ 0 ∷ 0 ∷ []) → y ≡ sets x k (record_row p record_in)
  row_told x k p {a} {b} {f} {m} {y} ea eb ef em e =
      let g : f ≡ length record_in.fields = ef ∙ sym fields_count in
      let h : m ≡ length record_in.methods = em ∙ sym methods_count in
      let row : (a + 2048) ∷ b ∷ p ∷ f ∷ (p + f) ∷ m ∷ 0 ∷ 0 ∷ [] ≡ record_row p record_in = cc in
      e ∙ ap (sets x k) row

  pub place_told : {f m : ℕ} (p : ℕ) → f ≡ fields_in whole w [] i → m ≡ methods_in whole w [] i → p + f + 3 * m ≡ next_place p record_in
  place_told {f} {m} p ef em = omega (arith, fields_count, methods_count)

-- one record more: its row
pub row_next : (x : List ℕ) (k p : ℕ) {y : List ℕ} {l q : ℕ} {r : ClassRecord} {rs qs : List ClassRecord} → rs ≡ r ∷ qs → y ≡ sets x (8 * k) (record_row p r) → l ≡ k + 1 → q ≡ next_place p r
    → sets y (8 * l) (record_rows q qs) ≡ sets x (8 * k) (record_rows p rs)
unfolding record_rows
row_next x k p {y} {l} {q} {r} {rs} {qs} er ey el eq =
    let z : 8 * l ≡ 8 * k + 8 = omega arith in
    ap (λ (v : List ℕ). sets v (8 * l) (record_rows q qs)) ey
    ∙ ap (λ (j : ℕ). sets (sets x (8 * k) (record_row p r)) j (record_rows q qs)) z
    ∙ ap (λ (j : ℕ). sets (sets x (8 * k) (record_row p r)) (8 * k + 8) (record_rows j qs)) eq
    ∙ sym (sets_more x (8 * k) (record_row p r) (record_rows (next_place p r) qs) refl)
    ∙ sym (ap (λ (l : List ClassRecord). sets x (8 * k) (record_rows p l)) er)

-- and its members
pub run_next : (x : List ℕ) (a : ℕ) {y z : List ℕ} {b c : ℕ} {r : ClassRecord} {rs qs : List ClassRecord} → rs ≡ r ∷ qs → y ≡ sets x a r.fields → b ≡ a + length r.fields
    → z ≡ sets y b (concat_map method_words r.methods) → c ≡ next_place a r → sets z c (concat_map member_run qs) ≡ sets x a (concat_map member_run rs)
run_next x a {y} {z} {b} {c} {r} {rs} {qs} er ey eb ez ec =
    let k : c ≡ a + length (member_run r) = omega (arith, run_length r) in
    let both : z ≡ sets x a (member_run r) =
    ez ∙ ap (λ (v : List ℕ). sets v b (concat_map method_words r.methods)) ey
    ∙ ap (λ (j : ℕ). sets (sets x a r.fields) j (concat_map method_words r.methods)) eb
    ∙ sym (sets_more x a r.fields (concat_map method_words r.methods) refl) in
    ap (λ (v : List ℕ). sets v c (concat_map member_run qs)) both
    ∙ ap (λ (j : ℕ). sets (sets x a (member_run r)) j (concat_map member_run qs)) k
    ∙ sym (sets_more x a (member_run r) (concat_map member_run qs) refl)
    ∙ sym (ap (λ (l : List ClassRecord). sets x a (concat_map member_run l)) er)

-- before the first
pub from_start : (k n : ℕ) → from (k + 0) (n - 0) ≡ from k n
from_start k n =
    let y : k + 0 ≡ k = omega arith in
    let z : n - 0 ≡ n = omega arith in
    ap (λ (j : ℕ). from j (n - 0)) y ∙ ap (from k) z

-- the next of the words that a function gives for numbers
pub field_next : (f : ℕ → ℕ) (x : List ℕ) (a k n i : ℕ) → i < n
    → sets (set x (a + i) (f (k + i))) (a + (i + 1)) (map f (from (k + (i + 1)) (n - (i + 1)))) ≡ sets x (a + i) (map f (from (k + i) (n - i)))
field_next f x a k n i l =
    let p : a + (i + 1) ≡ suc (a + i) = omega arith in
    let q : k + (i + 1) ≡ suc (k + i) = omega arith in
    let r : suc (n - (i + 1)) ≡ n - i = omega arith in
    ap (λ (j : ℕ). sets (set x (a + i) (f (k + i))) j (map f (from (k + (i + 1)) (n - (i + 1))))) p
    ∙ ap (λ (j : ℕ). sets (set x (a + i) (f (k + i))) (suc (a + i)) (map f (from j (n - (i + 1))))) q
    ∙ ap (λ (j : ℕ). sets x (a + i) (map f (from (k + i) j))) r

pub method_next : (f : ℕ → Method) (x : List ℕ) (a k n i : ℕ) → i < n
    → sets (set (set (set x (a + 3 * i) (f (k + i)).name) (a + 3 * i + 1) (f (k + i)).fun) (a + 3 * i + 2) (f (k + i)).params) (a + 3 * (i + 1))
    (concat_map method_words (map f (from (k + (i + 1)) (n - (i + 1))))) ≡ sets x (a + 3 * i) (concat_map method_words (map f (from (k + i) (n - i))))
method_next f x a k n i l =
    let b : ℕ = a + 3 * i in
    let p : a + 3 * (i + 1) ≡ suc (suc (suc (a + 3 * i))) = omega arith in
    let q : k + (i + 1) ≡ suc (k + i) = omega arith in
    let r : suc (n - (i + 1)) ≡ n - i = omega arith in
    let s : a + 3 * i + 1 ≡ suc (a + 3 * i) = omega arith in
    let t : a + 3 * i + 2 ≡ suc (suc (a + 3 * i)) = omega arith in
    rw (p, q, s, t) (ap (λ (j : ℕ). sets x (a + 3 * i) (concat_map method_words (map f (from (k + i) j)))) r)

-- a method as it is read and written
pub method_written : (w x : List ℕ) (a k n i : ℕ) → i < n → {p q r : ℕ} {x₁ x₂ x₃ : List ℕ} → p ≡ get_or w (member_place whole (k + i)) 0 → x₁ ≡ set x (a + 3 * i) p
    → q ≡ get_or w (member_place whole (k + i) + 1) 0 → x₂ ≡ set x₁ (a + 3 * i + 1) (q + 2048) → r ≡ get_or w (member_place whole (k + i) + 2) 0 → x₃ ≡ set x₂ (a + 3 * i + 2) r
    → sets x₃ (a + 3 * (i + 1)) (concat_map method_words (map (earlier_method_in w) (from (k + (i + 1)) (n - (i + 1)))))
    ≡ sets x (a + 3 * i) (concat_map method_words (map (earlier_method_in w) (from (k + i) (n - i))))
method_written w x a k n i l {p} {q} {r} {x₁} {x₂} {x₃} ep e₁ eq e₂ er e₃ =
    let m : Method = earlier_method_in w (k + i) in
    let e : x₃ ≡ set (set (set x (a + 3 * i) m.name) (a + 3 * i + 1) m.fun) (a + 3 * i + 2) m.params =
    e₃ ∙ ap (set x₂ (a + 3 * i + 2)) er
    ∙ ap (λ (v : List ℕ). set v (a + 3 * i + 2) m.params) (e₂ ∙ ap (λ (j : ℕ). set x₁ (a + 3 * i + 1) (j + 2048)) eq
    ∙ ap (λ (v : List ℕ). set v (a + 3 * i + 1) m.fun) (e₁ ∙ ap (set x (a + 3 * i)) ep)) in
    ap (λ (v : List ℕ). sets v (a + 3 * (i + 1)) (concat_map method_words (map (earlier_method_in w) (from (k + (i + 1)) (n - (i + 1)))))) e
    ∙ method_next (earlier_method_in w) x a k n i l

-- the rows of the core's records
pub core_rows_written : (x : List ℕ) (k p : ℕ) {x₁ x₂ x₃ : List ℕ} → x₁ ≡ sets x (8 * k) (100 ∷ 7 ∷ p ∷ 9 ∷ (p + 9) ∷ 0 ∷ 0 ∷ 0 ∷ [])
    → x₂ ≡ sets x₁ (8 * (k + 1)) (101 ∷ 8 ∷ (p + 9) ∷ 3 ∷ (p + 12) ∷ 0 ∷ 0 ∷ 0 ∷ [])
    → x₃ ≡ sets x₂ (8 * (k + 2)) (102 ∷ 9 ∷ (p + 12) ∷ 2 ∷ (p + 14) ∷ 0 ∷ 0 ∷ 0 ∷ []) → x₃ ≡ sets x (8 * k) (record_rows p core.records)
unfolding record_rows
core_rows_written x k p {x₁} {x₂} {x₃} e₁ e₂ e₃ =
    let q : ℕ = p + 9 + 3 * 0 in
    let r : ℕ = q + 3 + 3 * 0 in
    let a : p + 9 ≡ q = omega arith in
    let b : p + 12 ≡ q + 3 = omega arith in
    let c : p + 12 ≡ r = omega arith in
    let d : p + 14 ≡ r + 2 = omega arith in
    let f : x₂ ≡ sets x₁ (8 * (k + 1)) (101 ∷ 8 ∷ q ∷ 3 ∷ (q + 3) ∷ 0 ∷ 0 ∷ 0 ∷ []) =
    e₂ ∙ ap (λ (j : ℕ). sets x₁ (8 * (k + 1)) (101 ∷ 8 ∷ j ∷ 3 ∷ (p + 12) ∷ 0 ∷ 0 ∷ 0 ∷ [])) a
    ∙ ap (λ (j : ℕ). sets x₁ (8 * (k + 1)) (101 ∷ 8 ∷ q ∷ 3 ∷ j ∷ 0 ∷ 0 ∷ 0 ∷ [])) b in
    let g : x₃ ≡ sets x₂ (8 * (k + 2)) (102 ∷ 9 ∷ r ∷ 2 ∷ (r + 2) ∷ 0 ∷ 0 ∷ 0 ∷ []) =
    e₃ ∙ ap (λ (j : ℕ). sets x₂ (8 * (k + 2)) (102 ∷ 9 ∷ j ∷ 2 ∷ (p + 14) ∷ 0 ∷ 0 ∷ 0 ∷ [])) c
    ∙ ap (λ (j : ℕ). sets x₂ (8 * (k + 2)) (102 ∷ 9 ∷ r ∷ 2 ∷ j ∷ 0 ∷ 0 ∷ 0 ∷ [])) d in
    let y : k + 2 ≡ k + 1 + 1 = omega arith in
    row_next x₂ (k + 2) r {q = r + 2 + 3 * 0} {r = third} {rs = third ∷ []} refl g refl refl
    ∙ row_next x₁ (k + 1) q {r = second} {rs = second ∷ third ∷ []} refl f y refl
    ∙ row_next x k p {rs = core.records} refl e₁ refl refl
  where
    second : ClassRecord
    second = record { number = 101; name = 8; fields = 19 ∷ 20 ∷ 21 ∷ []; methods = [] }

    third : ClassRecord
    third = record { number = 102; name = 9; fields = 21 ∷ 19 ∷ []; methods = [] }

-- the members of class i as they are read and written
pub class_written : (w : List ℕ) (i : ℕ) (x : List ℕ) (a : ℕ) {n f m : ℕ} {y z : List ℕ} → i < get_or w 6 0 → n ≡ members_before whole w [] i → f ≡ fields_in whole w [] i
    → m ≡ methods_in whole w [] i → y ≡ sets x a (map (λ j. get_or w (member_place whole j) 0) (from n f))
    → z ≡ sets y (a + f) (concat_map method_words (map (earlier_method_in w) (from (n + f) m)))
    → sets z (a + (f + 3 * m)) (concat_map member_run (records_from w (i + 1))) ≡ sets x a (concat_map member_run (records_from w i))
class_written w i x a {n} {f} {m} {y} {z} l en ef em ey ez =
    run_next x a (records_next w i l)
    (ey ∙ ap (λ (j : ℕ). sets x a (map (λ j. get_or w (member_place whole j) 0) (from j f))) en
    ∙ ap (λ (j : ℕ). sets x a (map (λ j. get_or w (member_place whole j) 0) (from (members_before whole w [] i) j))) ef)
    (ap (λ (j : ℕ). a + j) (ef ∙ sym (fields_count w i)))
    (ez ∙ ap (λ (j : ℕ). sets y (a + f) (concat_map method_words (map (earlier_method_in w) (from (j + f) m)))) en
    ∙ ap (λ (j : ℕ). sets y (a + f) (concat_map method_words (map (earlier_method_in w) (from (members_before whole w [] i + j) m)))) ef
    ∙ ap (λ (j : ℕ). sets y (a + f) (concat_map method_words (map (earlier_method_in w) (from (members_before whole w [] i + fields_in whole w [] i) j)))) em
    ∙ sym (ap (λ (ms : List Method). sets y (a + f) (concat_map method_words ms)) (methods_are_lem w i)))
    (let u : a + (f + 3 * m) ≡ a + f + 3 * m = omega arith in u ∙ place_told w i a ef em)
