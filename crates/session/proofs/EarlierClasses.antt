-- What the classes of a session are to a later entry: good records, of numbers below the entry's.
use mathlib.Core.Path.{◌≡◌, refl, sym, ap, ◌∙◌, subst}
use mathlib.Core.Bool.{Bool, true, not, ◌&&◌}
use mathlib.Core.List.{List, [], ◌∷◌, map}
use Prim.Native.Nat.{ℕ, suc, ◌+◌, ◌-◌, ◌*◌, ◌/◌, ◌<◌, ◌≤◌}
use native.Mathlib.Omega.{arith}
use lib.ListN.{get_or}
use lib.Dec.{eqb, leb, ltb, T, T_not, eqb→eq, leb→le}
use borrow.Author.Tests.{le-leb, lt-ltb, le-ltb, eq-eqb}
use Rattle.definition.specs.Basics.{when◌then◌else◌, all, unlike}
use Rattle.definition.specs.Outside.{Method, ClassRecord, core}
use Rattle.definition.specs.Answer.{raised_function}
use Rattle.definition.proofs.Lists.Tests.{and_both, and_left, and_right, T_true, pick}
use Rattle.session.specs.Session.{Class, all_classes, past_rows, earlier_record, outside_of}
use Rattle.session.specs.Words.{Room, count_after, class_in, session_in, class_tests, class_fits, runs_fit}
use Rattle.session.proofs.OutsideLaws.{all_append, all_map}
use Rattle.session.proofs.SessionLaws.{each_class, rises}
use Rattle.session.proofs.Extended.{all_turned}
use Rattle.session.proofs.Follows.{is_name, is_function}
use Rattle.session.proofs.NewMembers.{good_method, names_of, good_record}

-- an earlier function has its own number back
back_raised : (n f : ℕ) → raised_function n (past_rows f) ≡ f
back_raised n f = ap (λ (t : Bool). when t then f + 2048 + n else f + 2048 - 2048) (le-ltb (f + 2048) 2048 (omega arith)) ∙ omega arith

abbrev earlier_method : Method → Method
earlier_method m = record { name = m.name; fun = past_rows m.fun; params = m.params }

earlier_names : (ms : List Method) → names_of (map earlier_method ms) ≡ names_of ms
earlier_names [] = refl
earlier_names (m ∷ ms) = ap (λ (l : List ℕ). m.name ∷ l) (earlier_names ms)

-- names and functions of earlier entries
name_later : (N M x : ℕ) → N ≤ M → T (is_name N x) → T (is_name M x)
name_later N M x l h =
    and_both (leb 1 x) (leb x (24 + M)) (and_left (leb 1 x) (leb x (24 + N)) h)
    (T_true (leb x (24 + M)) (le-leb x (24 + M) (omega (arith, leb→le x (24 + N) (and_right (leb 1 x) (leb x (24 + N)) h)))))

function_later : (e E f : ℕ) → e ≤ E → T (is_function e f) → T (is_function E f)
function_later e E f l h =
    let t : Bool = not (eqb f (2048 * (f / 2048))) in
    and_both (leb (f / 2048) E) t (T_true (leb (f / 2048) E) (le-leb (f / 2048) E (omega (arith, leb→le (f / 2048) e (and_left (leb (f / 2048) e) t h))))) (and_right (leb (f / 2048) e) t h)

record_later : (E N M b : ℕ) (x : ClassRecord) → N ≤ M → T (good_record E N b x) → T (good_record E M b x)
record_later E N M b x l h =
    and_both (all (is_name M) x.fields && apart && all (good_method E M b) x.methods) last
    (and_both (all (is_name M) x.fields && apart) (all (good_method E M b) x.methods)
    (and_both (all (is_name M) x.fields) apart
    (all_turned (is_name N) (is_name M) x.fields (λ k q. name_later N M k l) (and_left names apart (and_left (names && apart) methods first)))
    (and_right names apart (and_left (names && apart) methods first)))
    (all_turned (good_method E N b) (good_method E M b) x.methods (λ m q. method m) (and_right (names && apart) methods first)))
    (and_right (names && apart && methods) last h)
  where
    names : Bool
    names = all (is_name N) x.fields

    apart : Bool
    apart = unlike eqb x.fields

    methods : Bool
    methods = all (good_method E N b) x.methods

    last : Bool
    last = unlike eqb (names_of x.methods)

    first : T (names && apart && methods)
    first = and_left (names && apart && methods) last h

    method : (m : Method) → T (good_method E N b m) → T (good_method E M b m)
    method m t =
        let p : Bool = is_name N m.name in
        let q : Bool = is_function E (raised_function b m.fun) in
        let r : Bool = leb m.params 2047 in
        and_both (is_name M m.name && q) r
        (and_both (is_name M m.name) q (name_later N M m.name l (and_left p q (and_left (p && q) r t))) (and_right p q (and_left (p && q) r t))) (and_right (p && q) r t)

module _ (R : Room) (w n : List ℕ) (fit : runs_fit R w n ≡ true) where
  fits : T (runs_fit R w n)
  fits = T_true (runs_fit R w n) fit

  abbrev E : ℕ
  E = get_or w 1 0

  -- of numbers below those of entry E
  pub numbers_below : T (all (λ c. ltb 256 c.number && ltb ((c.number - 256) / 2048) E) (all_classes (session_in R w n)))
  numbers_below = each_class R w n fits (λ c. ltb 256 c.number && ltb ((c.number - 256) / 2048) E) (λ e i l h f.
      let k : ℕ = (class_in R w n i).number in
      let t : T (leb ((k - 256) / 2048) e && not (eqb (k - 256) (2048 * ((k - 256) / 2048)))) = pick (class_tests R w n e i) f 0 in
      let u : (k - 256) / 2048 ≡ e = eqb→eq ((k - 256) / 2048) e (pick (class_tests R w n e i) f 1) in
      let some : k - 256 ≡ 0 → ⊥ = λ z. T_not (eqb (k - 256) (2048 * ((k - 256) / 2048))) (and_right (leb ((k - 256) / 2048) e) (not (eqb (k - 256) (2048 * ((k - 256) / 2048)))) t)
      (T_true (eqb (k - 256) (2048 * ((k - 256) / 2048))) (eq-eqb (k - 256) (2048 * ((k - 256) / 2048)) (omega arith))) in
      and_both (ltb 256 k) (ltb ((k - 256) / 2048) E) (T_true (ltb 256 k) (lt-ltb 256 k (omega (arith, some)))) (T_true (ltb ((k - 256) / 2048) E) (lt-ltb ((k - 256) / 2048) E (omega (arith, u, l)))))

  module _ (N b : ℕ) (more : get_or w 3 0 ≤ N) where
    earlier_good : (e i : ℕ) → e < E → T (class_fits R w n e i) → T (good_record E N b (earlier_record (class_in R w n i)))
    earlier_good e i l f =
        and_both (names && apart && methods) (unlike eqb (names_of (map earlier_method c.methods)))
        (and_both (names && apart) methods
        (and_both names apart
        (all_turned (is_name m) (is_name N) c.fields (λ x q. name_later m N x m_below) (pick (class_tests R w n e i) f 5))
        (pick (class_tests R w n e i) f 6))
        (all_map earlier_method (good_method E N b) (λ x. is_name m x.name && is_function e x.fun && leb x.params 2047) method c.methods (pick (class_tests R w n e i) f 7)))
        (subst (λ (l : List ℕ). T (unlike eqb l)) (sym (earlier_names c.methods)) (pick (class_tests R w n e i) f 8))
      where
        c : Class
        c = class_in R w n i

        m : ℕ
        m = count_after R w n (suc e) 0

        m_below : m ≤ N
        m_below = omega (arith, (rises R w n fits e 0 l (omega arith)).1, more)

        names : Bool
        names = all (is_name N) c.fields

        apart : Bool
        apart = unlike eqb c.fields

        methods : Bool
        methods = all (good_method E N b) (map earlier_method c.methods)

        method : (x : Method) → T (is_name m x.name && is_function e x.fun && leb x.params 2047) → T (good_method E N b (earlier_method x))
        method x t =
            let p : Bool = is_name m x.name in
            let q : Bool = is_function e x.fun in
            let r : Bool = leb x.params 2047 in
            and_both (is_name N x.name && is_function E (raised_function b (past_rows x.fun))) r
            (and_both (is_name N x.name) (is_function E (raised_function b (past_rows x.fun))) (name_later m N x.name m_below (and_left p q (and_left (p && q) r t)))
            (subst (λ (k : ℕ). T (is_function E k)) (sym (back_raised b x.fun)) (function_later e E x.fun (omega (arith, l)) (and_right p q (and_left (p && q) r t)))))
            (and_right (p && q) r t)

    core_good : T (all (good_record E N b) core.records)
    core_good = all_turned (good_record E 0 b) (good_record E N b) core.records (λ x m. record_later E 0 N b x (omega arith)) tt

    pub records_good : T (all (good_record E N b) (outside_of (session_in R w n)).records)
    records_good =
        all_append (good_record E N b) (map earlier_record (all_classes (session_in R w n))) core.records
        (all_map earlier_record (good_record E N b) (λ c. good_record E N b (earlier_record c)) (λ c h. h) (all_classes (session_in R w n))
        (each_class R w n fits (λ c. good_record E N b (earlier_record c)) (λ e i l h f. earlier_good e i l f))) core_good
