-- The words of an outside hold it.
use mathlib.Core.Path.{◌≡◌, refl, sym, ap, ◌∙◌}
use mathlib.Core.Bool.{Bool}
use mathlib.Core.List.{List, [], ◌∷◌, ◌++◌, map, append_assoc}
use Prim.Native.Nat.{ℕ, suc, ◌+◌, ◌-◌, ◌*◌}
use native.Mathlib.Omega.{arith}
use lib.ListN.{length, get_or, drop, length-append}
use lib.Seq.{get_or-drop, drop-drop, drop_at}
use lib.Dec.{T}
use Rattle.definition.specs.Basics.{all, concat_map, from}
use Rattle.definition.specs.Sheet.{word}
use Rattle.definition.specs.Meaning.{Meaning, Named, named, nothing, function, class, global, toplevel, variable}
use Rattle.definition.specs.Outside.{Outside, Method, ClassRecord, based, is_outward}
use Rattle.definition.proofs.Lists.Tests.{and_left, and_right}
use Rattle.outside.specs.Words.{meaning_by, name_at, spaced_at, method_in, methods_at, record_at, over}
use Rattle.session_outside.specs.Written.{name_row, method_words, member_run, record_row, next_place, record_rows, outside_words}

pub name_length : (x : Named) → length (name_row x) ≡ 8
unfolding name_row
name_length x = go x.name x.means
  where
    go : (n : ℕ) (d : Meaning) → length (name_row (named n d)) ≡ 8
    go n nothing = refl
    go n (function f) = refl
    go n (class c) = refl
    go n (global g m) = refl
    go n (toplevel r) = refl
    go n (variable r f) = refl

pub names_length : (xs : List Named) → length (concat_map name_row xs) ≡ 8 * length xs
names_length [] = refl
names_length (x ∷ xs) = omega (arith, length-append (name_row x) (concat_map name_row xs), name_length x, names_length xs)

pub methods_length : (ms : List Method) → length (concat_map method_words ms) ≡ 3 * length ms
methods_length [] = refl
methods_length (m ∷ ms) = omega (arith, methods_length ms)

pub run_length : (r : ClassRecord) → length (member_run r) ≡ length r.fields + 3 * length r.methods
run_length r = length-append r.fields (concat_map method_words r.methods) ∙ ap (λ (k : ℕ). length r.fields + k) (methods_length r.methods)

pub rows_length : (p : ℕ) (rs : List ClassRecord) → length (record_rows p rs) ≡ 8 * length rs
unfolding record_rows
rows_length p [] = refl
rows_length p (r ∷ rs) = omega (arith, rows_length (next_place p r) rs)

-- a name's row tells it
name_told : (n : ℕ) (d : Meaning) (l : List ℕ) → T (is_outward d)
    → (let row : List ℕ = name_row (named n d) ++ l in named (get_or row 0 0) (meaning_by (get_or row 1 0) (get_or row 2 0) (get_or row 3 0)) ≡ named n d)
unfolding name_row
name_told n nothing l h = absurd h
name_told n (function f) l h = refl
name_told n (class c) l h = refl
name_told n (global g m) l h = refl
name_told n (toplevel r) l h = absurd h
name_told n (variable r f) l h = absurd h

module _ (w : List ℕ) where
  -- what stands from place p on, word by word, and after n words
  word_on : (p c : ℕ) {xs : List ℕ} → drop p w ≡ xs → get_or w (p + c) 0 ≡ get_or xs c 0
  word_on p c e = sym (get_or-drop p w c 0) ∙ ap (λ (l : List ℕ). get_or l c 0) e

  first_word : (p : ℕ) {xs : List ℕ} → drop p w ≡ xs → get_or w p 0 ≡ get_or xs 0 0
  first_word p e = let z : p ≡ p + 0 = omega arith in ap (λ (k : ℕ). get_or w k 0) z ∙ word_on p 0 e

  drop_on : (p q : ℕ) (xs ys : List ℕ) → drop p w ≡ xs ++ ys → p + length xs ≡ q → drop q w ≡ ys
  drop_on p q xs ys e z =
      ap (λ (k : ℕ). drop k w) (sym z) ∙ sym (drop-drop (length xs) p w) ∙ ap (drop (length xs)) e ∙ drop_at xs ys (length xs) refl

  fields_run : (xs rest : List ℕ) (p : ℕ) → drop p w ≡ xs ++ rest → spaced_at w 1 p (length xs) ≡ xs
  unfolding spaced_at
  fields_run [] rest p e = refl
  fields_run (x ∷ xs) rest p e =
      ap (λ (y : ℕ). y ∷ spaced_at w 1 (p + 1) (length xs)) (first_word p e)
      ∙ ap (λ (l : List ℕ). x ∷ l) (fields_run xs rest (p + 1) (drop_on p (p + 1) (x ∷ []) (xs ++ rest) e refl))

  methods_run : (ms : List Method) (rest : List ℕ) (p : ℕ) → drop p w ≡ concat_map method_words ms ++ rest → methods_at w p (length ms) ≡ ms
  unfolding methods_at
  methods_run [] rest p e = refl
  methods_run (m ∷ ms) rest p e =
      ap (λ (y : Method). y ∷ methods_at w (p + 3) (length ms)) here
      ∙ ap (λ (l : List Method). m ∷ l) (methods_run ms rest (p + 3) (drop_on p (p + 3) (method_words m) (concat_map method_words ms ++ rest) e refl))
    where
      here : method_in w p ≡ m
      here =
          ap (λ (x : ℕ). record { name = x; fun = get_or w (p + 1) 0; params = get_or w (p + 2) 0 }) (first_word p e)
          ∙ ap (λ (x : ℕ). record { name = m.name; fun = x; params = get_or w (p + 2) 0 }) (word_on p 1 e)
          ∙ ap (λ (x : ℕ). record { name = m.name; fun = m.fun; params = x }) (word_on p 2 e)

  name_here : (x : Named) (rest : List ℕ) (i : ℕ) → T (is_outward x.means) → drop (8 * i) w ≡ name_row x ++ rest → name_at w i ≡ x
  unfolding name_at
  name_here x rest i h e =
      ap (λ (y : ℕ). named y (meaning_by (word w i 1) (word w i 2) (word w i 3))) (word_on (8 * i) 0 e)
      ∙ ap (λ (y : ℕ). named (get_or row 0 0) (meaning_by y (word w i 2) (word w i 3))) (word_on (8 * i) 1 e)
      ∙ ap (λ (y : ℕ). named (get_or row 0 0) (meaning_by (get_or row 1 0) y (word w i 3))) (word_on (8 * i) 2 e)
      ∙ ap (λ (y : ℕ). named (get_or row 0 0) (meaning_by (get_or row 1 0) (get_or row 2 0) y)) (word_on (8 * i) 3 e)
      ∙ name_told x.name x.means rest h
    where
      row : List ℕ
      row = name_row x ++ rest

  names_run : (xs : List Named) (rest : List ℕ) (i : ℕ) → T (all (λ x. is_outward x.means) xs) → drop (8 * i) w ≡ concat_map name_row xs ++ rest
      → map (name_at w) (from i (length xs)) ≡ xs
  names_run [] rest i h e = refl
  names_run (x ∷ xs) rest i h e =
      let z : 8 * i + 8 ≡ 8 * suc i = omega arith in
      let f : drop (8 * i) w ≡ name_row x ++ (concat_map name_row xs ++ rest) = e ∙ append_assoc (name_row x) (concat_map name_row xs) rest in
      let o : Named → Bool = λ x. is_outward x.means in
      ap (λ (y : Named). y ∷ map (name_at w) (from (suc i) (length xs))) (name_here x (concat_map name_row xs ++ rest) i (and_left (o x) (all o xs) h) f)
      ∙ ap (λ (l : List Named). x ∷ l)
      (names_run xs rest (suc i) (and_right (o x) (all o xs) h)
      (drop_on (8 * i) (8 * suc i) (name_row x) (concat_map name_row xs ++ rest) f (ap (λ (k : ℕ). 8 * i + k) (name_length x) ∙ z)))

  record_here : (r : ClassRecord) (rest more : List ℕ) (i p : ℕ) → drop (8 * i) w ≡ record_row p r ++ rest → drop p w ≡ member_run r ++ more
      → record_at w i ≡ r
  record_here r rest more i p e f =
      rw (word_on (8 * i) 0 e, word_on (8 * i) 1 e, word_on (8 * i) 2 e, word_on (8 * i) 3 e, word_on (8 * i) 4 e, word_on (8 * i) 5 e) members
    where
      g : drop p w ≡ r.fields ++ (concat_map method_words r.methods ++ more)
      g = f ∙ append_assoc r.fields (concat_map method_words r.methods) more

      members : ◌≡◌ {A = ClassRecord} (record {
        number = r.number;
        name = r.name;
        fields = spaced_at w 1 p (length r.fields);
        methods = methods_at w (p + length r.fields) (length r.methods);
      }) r
      members = rw (
        fields_run r.fields (concat_map method_words r.methods ++ more) p g,
        methods_run r.methods more (p + length r.fields)
            (drop_on p (p + length r.fields) r.fields (concat_map method_words r.methods ++ more) g refl),
      )

  records_run : (rs : List ClassRecord) (rest more : List ℕ) (i p : ℕ) → drop (8 * i) w ≡ record_rows p rs ++ rest → drop p w ≡ concat_map member_run rs ++ more
      → map (record_at w) (from i (length rs)) ≡ rs
  unfolding record_rows
  records_run [] rest more i p e f = refl
  records_run (r ∷ rs) rest more i p e f =
      let z : 8 * i + 8 ≡ 8 * suc i = omega arith in
      let g : drop p w ≡ member_run r ++ (concat_map member_run rs ++ more) = f ∙ append_assoc (member_run r) (concat_map member_run rs) more in
      let n : p + length (member_run r) ≡ next_place p r = omega (arith, run_length r) in
      ap (λ (y : ClassRecord). y ∷ map (record_at w) (from (suc i) (length rs))) (record_here r (record_rows (next_place p r) rs ++ rest) (concat_map member_run rs ++ more) i p e g)
      ∙ ap (λ (l : List ClassRecord). r ∷ l)
      (records_run rs rest more (suc i) (next_place p r) (drop_on (8 * i) (8 * suc i) (record_row p r) (record_rows (next_place p r) rs ++ rest) e z)
      (drop_on p (next_place p r) (member_run r) (concat_map member_run rs ++ more) g n))

pub read_back : (O : Outside) (rest : List ℕ) → T (all (λ x. is_outward x.means) O.names) → over (outside_words O ++ rest) ≡ based O 0
unfolding over outside_words
read_back O rest h =
    ap (λ (xs : List Named). record { names = xs; records = map (record_at w) (from m (n - m)); base = 0 }) named_back
    ∙ ap (λ (rs : List ClassRecord). record { names = O.names; records = rs; base = 0 }) recorded_back
  where
    m : ℕ
    m = suc (length O.names)

    n : ℕ
    n = m + length O.records

    w : List ℕ
    w = outside_words O ++ rest

    A : List ℕ
    A = concat_map name_row O.names

    B : List ℕ
    B = record_rows (8 * n) O.records

    C : List ℕ
    C = concat_map member_run O.records

    named_on : drop (8 * 1) w ≡ A ++ (B ++ (C ++ rest))
    named_on = simp append_assoc

    rows_on : drop (8 * m) w ≡ B ++ (C ++ rest)
    rows_on = drop_on w 8 (8 * m) A (B ++ (C ++ rest)) named_on (omega (arith, names_length O.names))

    members_on : drop (8 * n) w ≡ C ++ rest
    members_on = drop_on w (8 * m) (8 * n) B (C ++ rest) rows_on (omega (arith, rows_length (8 * n) O.records))

    named_back : map (name_at w) (from 1 (m - 1)) ≡ O.names
    named_back =
        let z : m - 1 ≡ length O.names = omega arith in
        ap (λ (k : ℕ). map (name_at w) (from 1 k)) z ∙ names_run w O.names (B ++ (C ++ rest)) 1 h named_on

    recorded_back : map (record_at w) (from m (n - m)) ≡ O.records
    recorded_back =
        let z : n - m ≡ length O.records = omega arith in
        ap (λ (k : ℕ). map (record_at w) (from m k)) z ∙ records_run w O.records (C ++ rest) rest m (8 * n) rows_on members_on
