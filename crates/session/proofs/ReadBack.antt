-- The words and bytes with an entry more hold the session with that entry.
use mathlib.Core.Path.{◌≡◌, refl, sym, ap, ◌∙◌}
use mathlib.Core.Bool.{Bool, true}
use mathlib.Core.List.{List, [], ◌∷◌, ◌++◌, map}
use Prim.Native.Nat.{ℕ, zero, suc, ◌+◌, ◌-◌, ◌<◌, ◌≤◌}
use native.Mathlib.Omega.{arith}
use lib.ListN.{length, get_or, length-append, length-map, get_or-append, get_or-map}
use lib.Seq.{get_or-append-add}
use lib.Dec.{eqb, T}
use borrow.Author.Tests.{ne_eqb}
use Rattle.definition.specs.Basics.{when◌then◌else◌, all, from, concat_map, total}
use Rattle.definition.specs.Names.{Name, listed}
use Rattle.definition.specs.Meaning.{Meaning, Named, named, nothing, function, class, global, toplevel, variable}
use Rattle.definition.specs.Outside.{Method, is_outward}
use Rattle.definition.proofs.Lists.Tests.{and_left, and_right, T_true}
use Rattle.definition.proofs.Lists.Members.{map_append, map_same, from_mem}
use Rattle.session.specs.Session.{Class, Accepted, member_count}
use Rattle.session.specs.Words.{Room, entry_place, laid_place, class_place, member_place, count_after}
use Rattle.session.specs.Words.{part_of, name_bytes, laid_in, fields_in, methods_in, members_before, class_in, entry_in, session_in}
use Rattle.session.specs.Words.{runs_fit, laid_words, class_words, counts_with}
use Rattle.session.proofs.SessionLaws.{last_are}
use Rattle.session.proofs.HeldRuns.{from_split, names_listed}
use Rattle.session.proofs.CountLaws.{members_all, names_end}
use Rattle.session.proofs.Extended.{Extends, method_from, total_snoc, entry_same, count_same, before_same}
use Rattle.session.proofs.Stored.{run_back}
use Rattle.session.proofs.NewWords.{members_of, as_field, no_named, no_class}
use Rattle.session.proofs.Added.{Added}
use Rattle.session.proofs.ListedNames.{endless, listed_more}

-- a test of the elements by place
pub all_at : {A : Type 0} (p : A → Bool) (d : A) (xs : List A) → T (all p xs) → (j : ℕ) → j < length xs → T (p (get_or xs j d))
all_at p d [] h j l = absurd (omega arith)
all_at p d (x ∷ xs) h zero l = and_left (p x) (all p xs) h
all_at p d (x ∷ xs) h (suc j) l = all_at p d xs (and_right (p x) (all p xs) h) j (omega arith)

-- a declaration's words read back
laid_read : (x : Named) → T (is_outward x.means)
    → named (get_or (laid_words x) 0 0)
    (when eqb (get_or (laid_words x) 1 0) 1 then function (get_or (laid_words x) 2 0)
    else when eqb (get_or (laid_words x) 1 0) 2 then class (get_or (laid_words x) 2 0)
    else global (get_or (laid_words x) 2 0) (get_or (laid_words x) 3 0)) ≡ x
laid_read x h = go x.means h
  where
    y : Meaning → Named
    y d = named x.name d

    go : (d : Meaning) → T (is_outward d)
        → named (get_or (laid_words (y d)) 0 0)
        (when eqb (get_or (laid_words (y d)) 1 0) 1 then function (get_or (laid_words (y d)) 2 0)
        else when eqb (get_or (laid_words (y d)) 1 0) 2 then class (get_or (laid_words (y d)) 2 0)
        else global (get_or (laid_words (y d)) 2 0) (get_or (laid_words (y d)) 3 0)) ≡ y d
    go nothing h = absurd h
    go (function f) h = refl
    go (class c) h = refl
    go (global g m) h = refl
    go (toplevel r) h = absurd h
    go (variable r f) h = absurd h

-- Classes read from words v, of which row i on are cs, and members from place p on those of cs.
module _ (R : Room) (v m : List ℕ) where
  pub record Stored (i p : ℕ) (cs : List Class) : Type 0 where
    pub class_row_lem : (j k : ℕ) → j < length cs → k < 5 → get_or v (class_place R (i + j) + k) 0 ≡ get_or (class_words (get_or cs j no_class)) k 0
    pub starts : members_before R v m i ≡ p
    pub member_row_lem : (j : ℕ) → j < total member_count cs → method_from R v (p + j) ≡ get_or (concat_map members_of cs) j (as_field 0)

  first_word : {i p : ℕ} {c : Class} {cs : List Class} → Stored i p (c ∷ cs) → (k : ℕ) → k < 5 → get_or v (class_place R i + k) 0 ≡ get_or (class_words c) k 0
  first_word {i} x k l = let q : i ≡ i + 0 = omega arith in ap (λ (j : ℕ). get_or v (class_place R j + k) 0) q ∙ x.class_row_lem 0 k (omega arith) l

  fields_there : {i p : ℕ} {c : Class} {cs : List Class} → Stored i p (c ∷ cs) → fields_in R v m i ≡ length c.fields
  fields_there x = first_word x 3 (omega arith)

  methods_there : {i p : ℕ} {c : Class} {cs : List Class} → Stored i p (c ∷ cs) → methods_in R v m i ≡ length c.methods
  methods_there x = first_word x 4 (omega arith)

  members_long : (c : Class) → length (members_of c) ≡ member_count c
  members_long c = length-append (map as_field c.fields) c.methods ∙ ap (λ (k : ℕ). k + length c.methods) (length-map c.fields as_field)

  next_stored : {i p : ℕ} {c : Class} {cs : List Class} → Stored i p (c ∷ cs) → Stored (suc i) (p + member_count c) cs
  next_stored {i} {p} {c} {cs} x =
      record {
        class_row_lem = λ j k l h. let q : suc i + j ≡ i + suc j = omega arith in ap (λ (r : ℕ). get_or v (class_place R r + k) 0) q ∙ x.class_row_lem (suc j) k (omega arith) h;
        starts =
            let q : suc i ≡ i + 1 = omega arith in
            ap (members_before R v m) q ∙ total_snoc (λ j. fields_in R v m j + methods_in R v m j) i ∙ omega (arith, x.starts, fields_there x, methods_there x);
        member_row_lem = λ j l.
            let q : p + member_count c + j ≡ p + (length (members_of c) + j) = omega (arith, members_long c) in
            ap (method_from R v) q ∙ x.member_row_lem (length (members_of c) + j) (omega (arith, l, members_long c)) ∙ get_or-append-add (members_of c) (concat_map members_of cs) j (as_field 0);
      }

  -- the members of the first class
  first_member : {i p : ℕ} {c : Class} {cs : List Class} → Stored i p (c ∷ cs) → (j : ℕ) → j < member_count c → method_from R v (p + j) ≡ get_or (members_of c) j (as_field 0)
  first_member {i} {p} {c} {cs} x j l = x.member_row_lem j (omega (arith, l)) ∙ get_or-append (members_of c) (concat_map members_of cs) (as_field 0) j (omega (arith, l, members_long c))

  first_field : {i p : ℕ} {c : Class} {cs : List Class} → Stored i p (c ∷ cs) → (j : ℕ) → j < length c.fields → get_or v (member_place R (p + j)) 0 ≡ get_or c.fields j 0
  first_field {i} {p} {c} {cs} x j l =
      ap (λ (d : Method). d.name)
      (first_member x j (omega arith)
      ∙ get_or-append (map as_field c.fields) c.methods (as_field 0) j (omega (arith, length-map c.fields as_field))
      ∙ get_or-map as_field c.fields j 0)

  first_method : {i p : ℕ} {c : Class} {cs : List Class} → Stored i p (c ∷ cs) → (j : ℕ) → j < length c.methods
      → method_from R v (p + length c.fields + j) ≡ get_or c.methods j (as_field 0)
  first_method {i} {p} {c} {cs} x j l =
      let q : p + length c.fields + j ≡ p + (length (map as_field c.fields) + j) = omega (arith, length-map c.fields as_field) in
      ap (method_from R v) q ∙ first_member x (length (map as_field c.fields) + j) (omega (arith, length-map c.fields as_field))
      ∙ get_or-append-add (map as_field c.fields) c.methods j (as_field 0)

  first_class : {i p : ℕ} {c : Class} {cs : List Class} → Stored i p (c ∷ cs) → class_in R v m i ≡ c
  first_class {i} {p} {c} {cs} x = made
      (let z : class_place R i ≡ class_place R i + 0 = omega arith in ap (λ (k : ℕ). get_or v k 0) z ∙ first_word x 0 (omega arith))
      (first_word x 1 (omega arith)) (first_word x 2 (omega arith))
      (ap (λ (k : ℕ). map (λ j. get_or v (member_place R j) 0) (from k (fields_in R v m i))) x.starts
      ∙ ap (λ (k : ℕ). map (λ j. get_or v (member_place R j) 0) (from p k)) (fields_there x)
      ∙ run_back (λ j. get_or v (member_place R j) 0) 0 p c.fields (first_field x))
      (ap (λ (k : ℕ). map (method_from R v) (from (k + fields_in R v m i) (methods_in R v m i))) x.starts
      ∙ ap (λ (k : ℕ). map (method_from R v) (from (p + k) (methods_in R v m i))) (fields_there x)
      ∙ ap (λ (k : ℕ). map (method_from R v) (from (p + length c.fields) k)) (methods_there x)
      ∙ run_back (method_from R v) (as_field 0) (p + length c.fields) c.methods (first_method x))
    where
      made : {d : Class} → d.number ≡ c.number → d.name ≡ c.name → d.parent ≡ c.parent → d.fields ≡ c.fields → d.methods ≡ c.methods → d ≡ c
      made p₁ p₂ p₃ p₄ p₅ = λ i. record { number = p₁ i; name = p₂ i; parent = p₃ i; fields = p₄ i; methods = p₅ i }

  pub class_at : (i p : ℕ) (cs : List Class) → Stored i p cs → (j : ℕ) → j < length cs → class_in R v m (i + j) ≡ get_or cs j no_class
  class_at i p [] x j l = absurd (omega arith)
  class_at i p (c ∷ cs) x zero l = let z : i + 0 ≡ i = omega arith in ap (class_in R v m) z ∙ first_class x
  class_at i p (c ∷ cs) x (suc j) l =
      let q : i + suc j ≡ suc i + j = omega arith in
      ap (class_in R v m) q ∙ class_at (suc i) (p + member_count c) cs (next_stored x) j (omega arith)

  pub classes_back : (i p : ℕ) (cs : List Class) → Stored i p cs → (map (class_in R v m) (from i (length cs)) ≡ cs) × (members_before R v m (i + length cs) ≡ p + total member_count cs)
  classes_back i p [] x =
      let z : i + 0 ≡ i = omega arith in
      (refl, ap (members_before R v m) z ∙ omega (arith, x.starts))
  classes_back i p (c ∷ cs) x =
      let r = classes_back (suc i) (p + member_count c) cs (next_stored x) in
      let q : i + suc (length cs) ≡ suc i + length cs = omega arith in (
        ap (λ (d : Class). d ∷ map (class_in R v m) (from (suc i) (length cs))) (first_class x) ∙ ap (λ (l : List Class). c ∷ l) r.0,
        ap (members_before R v m) q ∙ omega (arith, r.1),
      )

module _ (R : Room) (w n w' n' : List ℕ) (g : ℕ) (e : Accepted) (fit : runs_fit R w n ≡ true) (x : Added R w n w' n' g e)
    (up : get_or w 0 0 ≤ g) (pure : T (all endless e.names)) where
  fits : T (runs_fit R w n)
  fits = T_true (runs_fit R w n) fit

  pub listed_with : listed (name_bytes R w' n') ≡ listed (name_bytes R w n) ++ e.names
  listed_with = ap listed x.bytes_are ∙ listed_more (name_bytes R w n) (names_end R w n fit) e.names pure

  pub extends : Extends R w n w' n'
  extends =
      record {
        globals = omega (arith, x.globals_is, up);
        counts = λ c l. omega (arith, x.count_is c l, rising c l);
        entry_rows = x.entry_old;
        laid_rows = x.laid_old;
        class_rows_lem = x.class_old;
        member_rows = x.member_old;
        more = e.names;
        listed_more = listed_with;
      }
    where
      rising : (c : ℕ) → c < 5 → get_or w (3 + c) 0 ≤ get_or (counts_with w e) c 0
      rising zero l = omega arith
      rising (suc zero) l = omega arith
      rising (suc (suc zero)) l = omega arith
      rising (suc (suc (suc zero))) l = omega arith
      rising (suc (suc (suc (suc zero)))) l = omega arith
      rising (suc (suc (suc (suc (suc c))))) l = absurd (omega arith)

  -- the counts before and after the new entry
  pub count_before : (c : ℕ) → c < 5 → count_after R w' n' (get_or w 1 0) c ≡ get_or w (3 + c) 0
  count_before c l = count_same R w n w' n' fit extends (get_or w 1 0) c (omega arith) l ∙ last_are R w n fits c l

  pub count_new : (c : ℕ) → c < 5 → count_after R w' n' (suc (get_or w 1 0)) c ≡ get_or (counts_with w e) c 0
  count_new c l =
      let q : suc (get_or w 1 0) - 1 ≡ get_or w 1 0 = omega arith in
      ap (λ (t : Bool). when t then 0 else get_or w' (entry_place R (suc (get_or w 1 0) - 1) + c) 0) (ne_eqb (suc (get_or w 1 0)) 0 (λ z. omega arith))
      ∙ ap (λ (k : ℕ). get_or w' (entry_place R k + c) 0) q ∙ x.entry_new c l

  -- its part of a run
  pub part_new : (c k : ℕ) → c < 5 → get_or (counts_with w e) c 0 ≡ get_or w (3 + c) 0 + k → part_of R w' n' (get_or w 1 0) c ≡ from (get_or w (3 + c) 0) k
  part_new c k l h =
      let q : count_after R w' n' (suc (get_or w 1 0)) c - count_after R w' n' (get_or w 1 0) c ≡ k = omega (arith, count_before c l, count_new c l, h) in
      ap (from (count_after R w' n' (get_or w 1 0) c)) q ∙ ap (λ (i : ℕ). from i k) (count_before c l)

  names_back : map (λ i. get_or (listed (name_bytes R w' n')) i []) (from (get_or w 3 0) (length e.names)) ≡ e.names
  names_back = run_back (λ i. get_or (listed (name_bytes R w' n')) i []) [] (get_or w 3 0) e.names (λ j l.
      ap (λ (z : List Name). get_or z (get_or w 3 0 + j) []) listed_with
      ∙ ap (λ (k : ℕ). get_or (listed (name_bytes R w n) ++ e.names) (k + j) []) (sym (names_listed R w n fit))
      ∙ get_or-append-add (listed (name_bytes R w n)) e.names j [])

  pub laid_at : T (all (λ d. is_outward d.means) e.laid) → (j : ℕ) → j < length e.laid → laid_in R w' n' (get_or w 5 0 + j) ≡ get_or e.laid j no_named
  laid_at out j l =
      let z : laid_place R (get_or w 5 0 + j) ≡ laid_place R (get_or w 5 0 + j) + 0 = omega arith in
      rw (
        ap (λ (k : ℕ). get_or w' k 0) z ∙ x.laid_new j 0 l (omega arith),
        x.laid_new j 1 l (omega arith),
        x.laid_new j 2 l (omega arith),
        x.laid_new j 3 l (omega arith),
      )
      (laid_read (get_or e.laid j no_named) (all_at (λ d. is_outward d.means) no_named e.laid out j l))

  pub stored_new : Stored R w' n' (get_or w 6 0) (get_or w 7 0) e.classes
  stored_new = record {
    class_row_lem = x.class_new;
    starts = before_same R w n w' n' fit extends (get_or w 6 0) (omega arith) ∙ members_all R w n fit;
    member_row_lem = x.member_new;
  }

  pub members_new : members_before R w' n' (get_or w 6 0 + length e.classes) ≡ get_or w 7 0 + total member_count e.classes
  members_new = (classes_back R w' n' (get_or w 6 0) (get_or w 7 0) e.classes stored_new).1

  module _ (out : T (all (λ d. is_outward d.means) e.laid)) where
    pub entry_back : entry_in R w' n' (get_or w 1 0) ≡ e
    entry_back = λ i. record { names = names i; laid = laid i; classes = classes i }
      where
        names : map (λ i. get_or (listed (name_bytes R w' n')) i []) (part_of R w' n' (get_or w 1 0) 0) ≡ e.names
        names = ap (map (λ i. get_or (listed (name_bytes R w' n')) i [])) (part_new 0 (length e.names) (omega arith) refl) ∙ names_back

        laid : map (laid_in R w' n') (part_of R w' n' (get_or w 1 0) 2) ≡ e.laid
        laid =
            ap (map (laid_in R w' n')) (part_new 2 (length e.laid) (omega arith) refl)
            ∙ run_back (laid_in R w' n') no_named (get_or w 5 0) e.laid (laid_at out)

        classes : map (class_in R w' n') (part_of R w' n' (get_or w 1 0) 3) ≡ e.classes
        classes =
            ap (map (class_in R w' n')) (part_new 3 (length e.classes) (omega arith) refl)
            ∙ (classes_back R w' n' (get_or w 6 0) (get_or w 7 0) e.classes stored_new).0

    pub session_back : session_in R w' n' ≡ record { globals = g; entries = (session_in R w n).entries ++ e ∷ [] }
    session_back = λ i. record { globals = x.globals_is i; entries = entries i }
      where
        E : ℕ
        E = get_or w 1 0

        entries : map (entry_in R w' n') (from 0 (get_or w' 1 0)) ≡ map (entry_in R w n) (from 0 (get_or w 1 0)) ++ e ∷ []
        entries =
            let q : suc E ≡ E + 1 = omega arith in
            let z : 0 + E ≡ E = omega arith in
            ap (λ (k : ℕ). map (entry_in R w' n') (from 0 k)) (x.entries_is ∙ q)
            ∙ ap (map (entry_in R w' n')) (from_split 0 E 1)
            ∙ map_append (entry_in R w' n') (from 0 E) (from (0 + E) 1)
            ∙ ap (λ (l : List Accepted). l ++ map (entry_in R w' n') (from (0 + E) 1))
            (map_same (entry_in R w' n') (entry_in R w n) (from 0 E) (λ i m. entry_same R w n w' n' fit extends i (omega (arith, from_mem i 0 E m))))
            ∙ ap (λ (y : Accepted). map (entry_in R w n) (from 0 E) ++ y ∷ []) (ap (entry_in R w' n') z ∙ entry_back)
