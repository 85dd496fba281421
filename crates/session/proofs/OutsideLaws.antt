-- What a session is to an entry is an outside that document 01's walk can have.
use mathlib.Core.Path.{◌≡◌, refl, sym, ap, ◌∙◌, subst}
use mathlib.Core.Bool.{Bool, true, false, not, ◌&&◌, ◌||◌}
use mathlib.Core.List.{List, [], ◌∷◌, ◌++◌, map}
use Prim.Native.Nat.{ℕ, suc, ◌≤◌}
use native.Mathlib.Omega.{arith}
use lib.ListN.{length, length-append, length-map}
use lib.Dec.{eqb, leb, T}
use Rattle.definition.specs.Basics.{when◌then◌else◌, all, any, unlike, filter, distinct}
use Rattle.definition.specs.Meaning.{Meaning, Named, named, nothing, function, class, global, toplevel, variable}
use Rattle.definition.specs.Outside.{Method, OutsideFits, is_outward, core}
use Rattle.definition.proofs.Lists.Tests.{and_both, and_left, and_right}
use Rattle.session.specs.Session.{Session, all_laid, all_classes, backward, visible, earlier, earlier_record, past_rows, outside_of}
use Rattle.session.proofs.NameLaws.{eqb_turned}

-- A session whose declarations are functions, classes and globals, at most 4,096, and whose classes have at most 8,192 fields and methods each, no two
-- methods of one name.
pub record Orderly (S : Session) : Type 0 where
  pub outward : T (all (λ x. is_outward x.means) (all_laid S))
  pub few : length (all_laid S) ≤ 4096
  pub few_fields : T (all (λ c. leb (length c.fields) 8192) (all_classes S))
  pub few_methods : T (all (λ c. leb (length c.methods) 8192) (all_classes S))
  pub methods_apart : T (all (λ c. unlike eqb (map (λ m. m.name) c.methods)) (all_classes S))

module _ {A : Type 0} where
  pub all_append : (p : A → Bool) (xs ys : List A) → T (all p xs) → T (all p ys) → T (all p (xs ++ ys))
  all_append p [] ys h k = k
  all_append p (x ∷ xs) ys h k = and_both (p x) (all p (xs ++ ys)) (and_left (p x) (all p xs) h) (all_append p xs ys (and_right (p x) (all p xs) h) k)

  all_backward : (p : A → Bool) (xs : List A) → T (all p xs) → T (all p (backward xs))
  all_backward p [] h = tt
  all_backward p (x ∷ xs) h = all_append p (backward xs) (x ∷ []) (all_backward p xs (and_right (p x) (all p xs) h)) (and_both (p x) true (and_left (p x) (all p xs) h) tt)

  pub all_filter : (p q : A → Bool) (xs : List A) → T (all p xs) → T (all p (filter q xs))
  all_filter p q [] h = tt
  all_filter p q (x ∷ xs) h = go (q x) (all_filter p q xs (and_right (p x) (all p xs) h))
    where
      go : (t : Bool) → T (all p (filter q xs)) → T (all p (when t then x ∷ filter q xs else filter q xs))
      go true k = and_both (p x) (all p (filter q xs)) (and_left (p x) (all p xs) h) k
      go false k = k

  all_distinct : (p : A → Bool) (same : A → A → Bool) (xs : List A) → T (all p xs) → T (all p (distinct same xs))
  all_distinct p same [] h = tt
  all_distinct p same (x ∷ xs) h =
      and_both (p x) (all p (filter (λ y. not (same x y)) (distinct same xs))) (and_left (p x) (all p xs) h)
      (all_filter p (λ y. not (same x y)) (distinct same xs) (all_distinct p same xs (and_right (p x) (all p xs) h)))

  pub filter_shorter : (q : A → Bool) (xs : List A) → length (filter q xs) ≤ length xs
  filter_shorter q [] = omega arith
  filter_shorter q (x ∷ xs) = go (q x) (filter_shorter q xs)
    where
      go : (t : Bool) → length (filter q xs) ≤ length xs → length (when t then x ∷ filter q xs else filter q xs) ≤ suc (length xs)
      go true h = omega arith
      go false h = omega arith

  pub distinct_shorter : (same : A → A → Bool) (xs : List A) → length (distinct same xs) ≤ length xs
  distinct_shorter same [] = omega arith
  distinct_shorter same (x ∷ xs) = omega (arith, filter_shorter (λ y. not (same x y)) (distinct same xs), distinct_shorter same xs)

  pub backward_length : (xs : List A) → length (backward xs) ≡ length xs
  backward_length [] = refl
  backward_length (x ∷ xs) = omega (arith, length-append (backward xs) (x ∷ []), backward_length xs)

  -- a list without repeats stays so
  fewer : (p q : A → Bool) (xs : List A) → T (not (any p xs)) → T (not (any p (filter q xs)))
  fewer p q [] h = tt
  fewer p q (x ∷ xs) h = go (q x) (p x) refl h (fewer p q xs)
    where
      go : (t u : Bool) → p x ≡ u → T (not (u || any p xs)) → (T (not (any p xs)) → T (not (any p (filter q xs)))) → T (not (any p (when t then x ∷ filter q xs else filter q xs)))
      go t true e h f = absurd h
      go true false e h f = subst (λ (u : Bool). T (not (u || any p (filter q xs)))) (sym e) (f h)
      go false false e h f = f h

  pub apart_filter : (same : A → A → Bool) (q : A → Bool) (xs : List A) → T (unlike same xs) → T (unlike same (filter q xs))
  apart_filter same q [] h = tt
  apart_filter same q (x ∷ xs) h = go (q x) (apart_filter same q xs (and_right (not (any (same x) xs)) (unlike same xs) h))
    where
      go : (t : Bool) → T (unlike same (filter q xs)) → T (unlike same (when t then x ∷ filter q xs else filter q xs))
      go true k = and_both (not (any (same x) (filter q xs))) (unlike same (filter q xs)) (fewer (same x) q xs (and_left (not (any (same x) xs)) (unlike same xs) h)) k
      go false k = k

module _ {A B : Type 0} where
  pub all_map : (f : A → B) (p : B → Bool) (q : A → Bool) → ((x : A) → T (q x) → T (p (f x))) → (xs : List A) → T (all q xs) → T (all p (map f xs))
  all_map f p q k [] h = tt
  all_map f p q k (x ∷ xs) h = and_both (p (f x)) (all p (map f xs)) (k x (and_left (q x) (all q xs) h)) (all_map f p q k xs (and_right (q x) (all q xs) h))

-- names without repeats
abbrev same_named : Named → Named → Bool
same_named x y = eqb x.name y.name

abbrev turned : Named → Named → Bool
turned x y = eqb y.name x.name

none_left : (x : Named) (xs : List Named) → T (not (any (turned x) (filter (λ y. not (same_named x y)) xs)))
none_left x [] = tt
none_left x (y ∷ xs) = go (eqb x.name y.name) refl (none_left x xs)
  where
    go : (t : Bool) → eqb x.name y.name ≡ t → T (not (any (turned x) (filter (λ y. not (same_named x y)) xs)))
        → T (not (any (turned x) (when not t then y ∷ filter (λ y. not (same_named x y)) xs else filter (λ y. not (same_named x y)) xs)))
    go true q h = h
    go false q h = subst (λ (u : Bool). T (not (u || any (turned x) (filter (λ y. not (same_named x y)) xs)))) (sym (eqb_turned y.name x.name ∙ q)) h

distinct_apart : (xs : List Named) → T (unlike turned (distinct same_named xs))
distinct_apart [] = tt
distinct_apart (x ∷ xs) =
    and_both (not (any (turned x) (filter (λ y. not (same_named x y)) (distinct same_named xs)))) (unlike turned (filter (λ y. not (same_named x y)) (distinct same_named xs)))
    (none_left x (distinct same_named xs)) (apart_filter turned (λ y. not (same_named x y)) (distinct same_named xs) (distinct_apart xs))

-- the same names with what they mean in the walk
abbrev seen : Named → Named
seen x = named x.name (earlier x.means)

none_seen : (x : Named) (ys : List Named) → any (turned (seen x)) (map seen ys) ≡ any (turned x) ys
none_seen x [] = refl
none_seen x (y ∷ ys) = ap (λ (u : Bool). eqb y.name x.name || u) (none_seen x ys)

seen_apart : (xs : List Named) → unlike turned (map seen xs) ≡ unlike turned xs
seen_apart [] = refl
seen_apart (x ∷ xs) = ap (λ (u : Bool). not u && unlike turned (map seen xs)) (none_seen x xs) ∙ ap (λ (u : Bool). not (any (turned x) xs) && u) (seen_apart xs)

seen_outward : (d : Meaning) → T (is_outward d) → T (is_outward (earlier d))
seen_outward nothing h = h
seen_outward (function f) h = tt
seen_outward (class c) h = tt
seen_outward (global g m) h = tt
seen_outward (toplevel r) h = h
seen_outward (variable r f) h = h

abbrev earlier_method : Method → Method
earlier_method m = record { name = m.name; fun = past_rows m.fun; params = m.params }

raised_names : (ms : List Method) → map (λ (m : Method). m.name) (map earlier_method ms) ≡ map (λ (m : Method). m.name) ms
raised_names [] = refl
raised_names (m ∷ ms) = ap (λ (l : List ℕ). m.name ∷ l) (raised_names ms)

pub outside_fits : {S : Session} → Orderly S → OutsideFits (outside_of S)
outside_fits {S} o =
    record {
      outward =
          all_map seen (λ x. is_outward x.means) (λ x. is_outward x.means) (λ x h. seen_outward x.means h) (visible S)
          (all_distinct (λ x. is_outward x.means) same_named (backward (all_laid S) ++ core.names)
          (all_append (λ x. is_outward x.means) (backward (all_laid S)) core.names (all_backward (λ x. is_outward x.means) (all_laid S) o.outward) tt));
      apart = subst T (sym (seen_apart (visible S))) (distinct_apart (backward (all_laid S) ++ core.names));
      few =
          let l : length (map seen (visible S)) ≤ 4105 =
          omega (
            arith,
            length-map (visible S) seen,
            distinct_shorter same_named (backward (all_laid S) ++ core.names),
            length-append (backward (all_laid S)) core.names,
            backward_length (all_laid S),
            o.few,
          ) in
          l;
      few_fields =
          all_append (λ x. leb (length x.fields) 8192) (map earlier_record (all_classes S)) core.records
          (all_map earlier_record (λ x. leb (length x.fields) 8192) (λ c. leb (length c.fields) 8192) (λ c h. h) (all_classes S) o.few_fields) tt;
      few_methods =
          all_append (λ x. leb (length x.methods) 8192) (map earlier_record (all_classes S)) core.records
          (all_map earlier_record (λ x. leb (length x.methods) 8192) (λ c. leb (length c.methods) 8192)
          (λ c h. subst (λ (k : ℕ). T (leb k 8192)) (sym (length-map c.methods earlier_method)) h)
          (all_classes S) o.few_methods) tt;
      methods_apart =
          all_append (λ x. unlike eqb (map (λ m. m.name) x.methods)) (map earlier_record (all_classes S)) core.records
          (all_map earlier_record (λ x. unlike eqb (map (λ m. m.name) x.methods)) (λ c. unlike eqb (map (λ m. m.name) c.methods))
          (λ c h. subst (λ (l : List ℕ). T (unlike eqb l)) (sym (raised_names c.methods)) h) (all_classes S) o.methods_apart) tt;
    }
