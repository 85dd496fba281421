-- Numbers of globals: the number that the program stores with an open let of a unit is the one that the definition gives it.
use mathlib.Core.Path.{◌≡◌, refl, sym, ap, ◌∙◌, subst}
use mathlib.Core.List.{List, [], ◌∷◌, ◌++◌, map, append-nil}
use mathlib.Core.Bool.{Bool, true, false, not, ◌||◌, ◌&&◌, true≢false}
use Prim.Native.Nat.{ℕ, zero, suc, ◌+◌, ◌-◌, ◌<◌, ◌≤◌}
use native.Mathlib.Omega.{arith}
use lib.ListN.{length, length-append}
use lib.Dec.{eqb, leb}
use Rattle.definition.specs.Basics.{when◌then◌else◌, filter, any, bit, place}
use Rattle.definition.specs.Sheet.{Sheet, kind, is, a, b, child}
use Rattle.definition.specs.Meaning.{Meaning, nothing, function, class, global, toplevel, variable, is_toplevel}
use Rattle.definition.specs.Walk.{Event, enter, leave, loop, declare, bring, visit, literal_let}
use Rattle.definition.specs.Scope.{Stack, Moment, inside, declared, new_global, declares, declarings, declaration}
use Rattle.definition.specs.Slots.{global_lets, global_of, final_globals, code}
use Rattle.definition.proofs.Lists.Members.{filter_append, map_append}
use Rattle.machine.specs.Machine.{entry_room, entry_word, tag_of, first_of, second_of, meaning_of, find_name, searched, meaning_at}
use Rattle.machine.specs.Machine.{global_at, Scopes, lookup_meaning, lookup_global, count_pushed, words_pushed}
use Rattle.machine.specs.Machine.{new_meaning, step_scopes, declares_let, code_of, one_more}
use Rattle.machine.proofs.Lists.{only, any_append, place_append, filter2_snoc, eqb_self, eqb_same}
use Rattle.machine.proofs.Entries.{entries_length, mark_le}
use Rattle.machine.proofs.ScopesAgree.{ScopesAgree, push_below, push_at, push_more, upto, one_more_is, new_meaning_is}
use Rattle.machine.proofs.Questions.{find_le}
use Rattle.machine.proofs.Stacks.{Proper, p_bring}
use Rattle.machine.proofs.StoreParts.{declares_let_is}

-- is a let of a unit among the numbered ones of a history? Anything else needs no number
abbrev pub listed : Sheet → List Moment → Meaning → Bool
listed s h nothing = true
listed s h (function f) = true
listed s h (class c) = true
listed s h (global g m) = true
listed s h (toplevel r) = any (eqb r) (global_lets s h)
listed s h (variable r f) = true

-- is the number of a meaning known, and is it g?
pub data Known (s : Sheet) (h : List Moment) (g : ℕ) : Meaning → Type 0 where
  numbered : {r : ℕ} → g ≡ global_of s h r → any (eqb r) (global_lets s h) ≡ true → Known s h g (toplevel r)
  unnumbered : {d : Meaning} → is_toplevel d ≡ false → Known s h g d

-- One moment more.
globals_snoc : (s : Sheet) (h : List Moment) (m : Moment)
    → global_lets s (h ++ m ∷ []) ≡ global_lets s h ++ only (is s 29 (declares m.event) && is_toplevel (declaration s m)) (declares m.event)
globals_snoc s h m =
    ap (map (λ x. declares x.event)) (filter2_snoc (λ x. is_toplevel (declaration s x)) (λ x. is s 29 (declares x.event)) h m)
    ∙ map_append (λ x. declares x.event) (filter (λ x. is_toplevel (declaration s x)) (declarings s h 29)) (only (is s 29 (declares m.event) && is_toplevel (declaration s m)) m)
    ∙ ap (λ (l : List ℕ). global_lets s h ++ l) (go (is s 29 (declares m.event) && is_toplevel (declaration s m)))
  where
    go : (t : Bool) → map (λ x. declares x.event) (only t m) ≡ only t (declares m.event)
    go true = refl
    go false = refl

globals_append : (s : Sheet) (xs ys : List Moment) → global_lets s (xs ++ ys) ≡ global_lets s xs ++ global_lets s ys
globals_append s xs ys =
    ap (λ (l : List Moment). map (λ x. declares x.event) (filter (λ x. is_toplevel (declaration s x)) l)) (filter_append (λ x. is s 29 (declares x.event)) xs ys)
    ∙ ap (map (λ x. declares x.event)) (filter_append (λ x. is_toplevel (declaration s x)) (declarings s xs 29) (declarings s ys 29))
    ∙ map_append (λ x. declares x.event) (filter (λ x. is_toplevel (declaration s x)) (declarings s xs 29)) (filter (λ x. is_toplevel (declaration s x)) (declarings s ys 29))

-- globals only grow in number
pub globals_le : (s : Sheet) (xs ys : List Moment) → final_globals s xs ≤ final_globals s (xs ++ ys)
globals_le s xs ys = omega (arith, ap length (globals_append s xs ys), length-append (global_lets s xs) (global_lets s ys))

or_left : (x y : Bool) → x ≡ true → (x || y) ≡ true
or_left true y e = refl
or_left false y e = absurd (true≢false (sym e))

any_on : (s : Sheet) (h : List Moment) (m : Moment) (r : ℕ) → any (eqb r) (global_lets s h) ≡ true → any (eqb r) (global_lets s (h ++ m ∷ [])) ≡ true
any_on s h m r l = ap (any (eqb r)) (globals_snoc s h m) ∙ any_append (eqb r) (global_lets s h) _ ∙ or_left _ _ l

-- a moment lists at most the row that it declares
pub listed_more : (s : Sheet) (h : List Moment) (m : Moment) (r : ℕ)
    → bit (any (eqb r) (global_lets s (h ++ m ∷ []))) ≤ bit (any (eqb r) (global_lets s h)) + bit (eqb (declares m.event) r)
listed_more s h m r =
    subst (λ (t : Bool). bit t ≤ bit (any (eqb r) (global_lets s h)) + bit (eqb (declares m.event) r))
    (sym (ap (any (eqb r)) (globals_snoc s h m) ∙ any_append (eqb r) (global_lets s h) _))
    (by (any (eqb r) (global_lets s h)) (is s 29 (declares m.event) && is_toplevel (declaration s m)) (eqb r (declares m.event)) refl)
  where
    by : (t u v : Bool) → eqb r (declares m.event) ≡ v → bit (t || any (eqb r) (only u (declares m.event))) ≤ bit t + bit (eqb (declares m.event) r)
    by true u v e = omega arith
    by false false v e = omega arith
    by false true true e = rw (eqb_same (declares m.event) r, e) (omega arith)
    by false true false e = rw e (omega arith)

number_on : (s : Sheet) (h : List Moment) (m : Moment) (r : ℕ) → any (eqb r) (global_lets s h) ≡ true → global_of s (h ++ m ∷ []) r ≡ global_of s h r
number_on s h m r l = ap (λ (k : ℕ). a s 0 + k) (ap (place (eqb r)) (globals_snoc s h m) ∙ place_append (eqb r) (global_lets s h) _ l)

pub listed_on : (s : Sheet) (h : List Moment) (m : Moment) (d : Meaning) → listed s h d ≡ true → listed s (h ++ m ∷ []) d ≡ true
listed_on s h m nothing l = refl
listed_on s h m (function f) l = refl
listed_on s h m (class c) l = refl
listed_on s h m (global g k) l = refl
listed_on s h m (toplevel r) l = any_on s h m r l
listed_on s h m (variable r f) l = refl

-- code and values of what is listed do not change
pub code_on : (s : Sheet) (h : List Moment) (m : Moment) (d : Meaning) (k : ℕ) → listed s h d ≡ true → code s (h ++ m ∷ []) d k ≡ code s h d k
code_on s h m nothing k l = refl
code_on s h m (function f) k l = refl
code_on s h m (class c) k l = refl
code_on s h m (global g n) k l = refl
code_on s h m (toplevel r) k l = ap (λ (g : ℕ). 3 ∷ g ∷ 0 ∷ bit (eqb (b s r) 1) ∷ []) (number_on s h m r l)
code_on s h m (variable r f) k l = refl

pub known_on : (s : Sheet) (h : List Moment) (m : Moment) {g : ℕ} {d : Meaning} → Known s h g d → Known s (h ++ m ∷ []) g d
known_on s h m (numbered {r = r} e l) = numbered (e ∙ sym (number_on s h m r l)) (any_on s h m r l)
known_on s h m (unnumbered e) = unnumbered e

pub known_listed : (s : Sheet) (h : List Moment) (g : ℕ) (d : Meaning) → Known s h g d → listed s h d ≡ true
known_listed s h g nothing q = refl
known_listed s h g (function f) q = refl
known_listed s h g (class c) q = refl
known_listed s h g (global n m) q = refl
known_listed s h g (toplevel r) (numbered e l) = l
known_listed s h g (toplevel r) (unnumbered e) = absurd (true≢false e)
known_listed s h g (variable r f) q = refl

-- the program's code and values of a meaning whose number is known
pub code_is : (s : Sheet) (h : List Moment) (d : Meaning) (k g : ℕ) → Known s h g d → code_of s d k g ≡ code s h d k
unfolding code_of
code_is s h nothing k g q = refl
code_is s h (function f) k g q = refl
code_is s h (class c) k g q = refl
code_is s h (global n m) k g q = refl
code_is s h (toplevel r) k g (numbered e l) = ap (λ (n : ℕ). 3 ∷ n ∷ 0 ∷ bit (eqb (b s r) 1) ∷ []) e
code_is s h (toplevel r) k g (unnumbered e) = absurd (true≢false e)
code_is s h (variable r f) k g q = refl

-- What the program holds: how many globals there are so far, and the number of every open let of a unit.
pub record Numbered (s : Sheet) (h : List Moment) (p : Scopes) : Type 0 where
  pub next_is : p.next_global ≡ final_globals s h
  pub numbers : (k : ℕ) → k ≤ p.count → Known s h (global_at p.env k) (meaning_at p.env k)

pub number_look : (s : Sheet) (h : List Moment) (p : Scopes) → Numbered s h p → (m : ℕ) → Known s h (lookup_global p m) (lookup_meaning p m)
unfolding searched lookup_meaning lookup_global
number_look s h p q m = q.numbers (find_name p.env m (searched p)) (omega (arith, find_le p.env m (searched p)))

-- an entry pushed
pub numbers_push : (s : Sheet) (h : List Moment) (v : List ℕ) (n t m x y w : ℕ) → n < entry_room v
    → ((k : ℕ) → k ≤ n → Known s h (global_at v k) (meaning_at v k)) → Known s h y (meaning_of t x y)
    → (k : ℕ) → k ≤ count_pushed v n → Known s h (global_at (words_pushed v n (t ∷ m ∷ x ∷ y ∷ w ∷ [])) k) (meaning_at (words_pushed v n (t ∷ m ∷ x ∷ y ∷ w ∷ [])) k)
unfolding global_at meaning_at
numbers_push s h v n t m x y w room f g zero l = unnumbered refl
numbers_push s h v n t m x y w room f g (suc i) l =
    let v' : List ℕ = words_pushed v n (t ∷ m ∷ x ∷ y ∷ w ∷ []) in
    upto (λ j. Known s h (entry_word v' j 3) (meaning_of (entry_word v' j 0) (entry_word v' j 2) (entry_word v' j 3))) n i
    (rw (push_at v n t m x y w room 0 (omega arith), push_at v n t m x y w room 2 (omega arith), push_at v n t m x y w room 3 (omega arith)) g)
    (λ j q. rw (push_below v n t m x y w room j q 0 (omega arith), push_below v n t m x y w room j q 2 (omega arith), push_below v n t m x y w room j q 3 (omega arith)) (f (suc j) (omega arith)))
    (omega (arith, push_more v n t m x y w room))

-- What a let declares as a global of its own is itself.
top_one : (t4 tc tg tf : Bool) (c k f r o : ℕ)
    → is_toplevel (when t4 then class c else when tc then global k 0 else when tg then toplevel r else when tf then function f else variable r o) ≡ true
    → (tg ≡ true) × ((when t4 then class c else when tc then global k 0 else when tg then toplevel r else when tf then function f else variable r o) ≡ toplevel r)
top_one true tc tg tf c k f r o e = absurd (true≢false (sym e))
top_one false true tg tf c k f r o e = absurd (true≢false (sym e))
top_one false false true tf c k f r o e = (refl, refl)
top_one false false false true c k f r o e = absurd (true≢false (sym e))
top_one false false false false c k f r o e = absurd (true≢false (sym e))

and_first : (x y z w : Bool) → (x && y && z && w) ≡ true → x ≡ true
and_first true y z w e = refl
and_first false y z w e = e

top_declared : (s : Sheet) (r f : ℕ) → is_toplevel (declared s r f) ≡ true → (is s 29 r ≡ true) × (declared s r f ≡ toplevel r)
top_declared s r f e =
    let q = top_one (is s 4 r) (is s 29 r && leb 2 (b s r)) (new_global s r f) (is s 29 r && eqb (b s f) 1) (256 + r) (b s r - 2) (child s (child s r)) r f e in
    (and_first (is s 29 r) (leb (b s r) 1) (eqb (b s f) 1) (not (literal_let s r && eqb (b s r) 0)) q.0, q.1)

-- a place at the end
place_last : (r : ℕ) (xs : List ℕ) → any (eqb r) xs ≡ false → place (eqb r) (xs ++ r ∷ []) ≡ length xs
place_last r [] h = rw (eqb_self r)
place_last r (x ∷ xs) h = go (eqb r x) refl (λ k. place_last r xs k)
  where
    go : (t : Bool) → eqb r x ≡ t → (any (eqb r) xs ≡ false → place (eqb r) (xs ++ r ∷ []) ≡ length xs) → (when t then 0 else suc (place (eqb r) (xs ++ r ∷ []))) ≡ suc (length xs)
    go true e i = absurd (true≢false (sym (rw e) ∙ h))
    go false e i = ap suc (i (rw e at h))

-- No let is declared again.
abbrev pub Unlisted : Sheet → List Moment → Event → Type 0
Unlisted s h e = (r : ℕ) → e ≡ declare r → is s 29 r ≡ true → any (eqb r) (global_lets s h) ≡ false

pub known_stored : (s : Sheet) (h : List Moment) (d : Meaning) (n : ℕ) → Known s h n d → Known s h (second_of d n) (meaning_of (tag_of d) (first_of d) (second_of d n))
known_stored s h nothing n q = unnumbered refl
known_stored s h (function f) n q = unnumbered refl
known_stored s h (class c) n q = unnumbered refl
known_stored s h (global g m) n q = unnumbered refl
known_stored s h (toplevel r) n q = q
known_stored s h (variable r f) n q = unnumbered refl

pair : (x y : Bool) → x ≡ true → y ≡ true → (x && y) ≡ true
pair true y e f = f
pair false y e f = e

and_false : (x y : Bool) → y ≡ false → (x && y) ≡ false
and_false true y e = e
and_false false y e = refl

or_right : (x : Bool) {y : Bool} → y ≡ true → (x || y) ≡ true
or_right true e = refl
or_right false e = e

module _ (s : Sheet) (hd : kind s 0 ≡ 0) (h : List Moment) (z : Stack) (p : Scopes) (op : ScopesAgree s z p) (nm : Numbered s h p) where
  space : length z < entry_room p.env → p.count < entry_room p.env
  space room = omega (arith, ap length (sym op.stack_is), entries_length p.env p.count)

  -- an event that is no let adds no number
  globals_same : (e : Event) → declares_let s e ≡ false → global_lets s (h ++ record { event = e; stack = z } ∷ []) ≡ global_lets s h
  globals_same e v = globals_snoc s h (record { event = e; stack = z }) ∙ rw (declares_let_is s hd e ∙ v) (append-nil (global_lets s h))

  next_same : (e : Event) → declares_let s e ≡ false → p.next_global ≡ final_globals s (h ++ record { event = e; stack = z } ∷ [])
  next_same e v = nm.next_is ∙ ap (λ (l : List ℕ). a s 0 + length l) (sym (globals_same e v))

  numbers_on : (e : Event) (k : ℕ) → k ≤ p.count → Known s (h ++ record { event = e; stack = z } ∷ []) (global_at p.env k) (meaning_at p.env k)
  numbers_on e k l = known_on s h (record { event = e; stack = z }) (nm.numbers k l)

  -- a declaration adds one if it is a global of its own
  globals_declare : (r : ℕ) (t : Bool) → is_toplevel (declared s r (inside s z)) ≡ t
      → global_lets s (h ++ record { event = declare r; stack = z } ∷ []) ≡ global_lets s h ++ only t r
  globals_declare r true e =
      globals_snoc s h (record { event = declare r; stack = z })
      ∙ ap (λ (t : Bool). global_lets s h ++ only t r) (pair (is s 29 r) (is_toplevel (declared s r (inside s z))) (top_declared s r (inside s z) e).0 e)
  globals_declare r false e =
      globals_snoc s h (record { event = declare r; stack = z })
      ∙ ap (λ (t : Bool). global_lets s h ++ only t r) (and_false (is s 29 r) (is_toplevel (declared s r (inside s z))) e)

  next_declare : (r : ℕ) (t : Bool) → is_toplevel (declared s r (inside s z)) ≡ t
      → p.next_global < 4294967295
      → (when t then one_more p.next_global else p.next_global) ≡ final_globals s (h ++ record { event = declare r; stack = z } ∷ [])
  next_declare r true e few =
      one_more_is p.next_global few ∙ ap suc nm.next_is ∙ omega (arith, length-append (global_lets s h) (r ∷ [])) ∙ ap (λ (l : List ℕ). a s 0 + length l) (sym (globals_declare r true e))
  next_declare r false e few =
      nm.next_is ∙ ap (λ (l : List ℕ). a s 0 + length l) (sym (append-nil (global_lets s h))) ∙ ap (λ (l : List ℕ). a s 0 + length l) (sym (globals_declare r false e))

  -- the next number is that of the let that is declared now
  new_number : (r : ℕ) → Unlisted s h (declare r) → (d : Meaning) → declared s r (inside s z) ≡ d → Known s (h ++ record { event = declare r; stack = z } ∷ []) p.next_global d
  new_number r u nothing q = unnumbered refl
  new_number r u (function f) q = unnumbered refl
  new_number r u (class c) q = unnumbered refl
  new_number r u (global g m) q = unnumbered refl
  new_number r u (variable k f) q = unnumbered refl
  new_number r u (toplevel k) q = subst (λ (d : Meaning). Known s (h ++ record { event = declare r; stack = z } ∷ []) p.next_global d) (sym td.1 ∙ q) (numbered at listed_now)
    where
      te : is_toplevel (declared s r (inside s z)) ≡ true
      te = ap is_toplevel q

      td : (is s 29 r ≡ true) × (declared s r (inside s z) ≡ toplevel r)
      td = top_declared s r (inside s z) te

      at : p.next_global ≡ global_of s (h ++ record { event = declare r; stack = z } ∷ []) r
      at =
          nm.next_is
          ∙ ap (λ (k : ℕ). a s 0 + k) (sym (ap (place (eqb r)) (globals_declare r true te) ∙ place_last r (global_lets s h) (u r refl td.0)))

      listed_now : any (eqb r) (global_lets s (h ++ record { event = declare r; stack = z } ∷ [])) ≡ true
      listed_now = ap (any (eqb r)) (globals_declare r true te) ∙ any_append (eqb r) (global_lets s h) (r ∷ []) ∙ or_right (any (eqb r) (global_lets s h)) (rw (eqb_self r))

  pub new_known : (e : Event) → declares_let s e ≡ true → Unlisted s h e → Known s (h ++ record { event = e; stack = z } ∷ []) p.next_global (new_meaning s (declares e) p)
  new_known (enter r) v u = absurd (true≢false (sym v))
  new_known leave v u = absurd (true≢false (sym v))
  new_known loop v u = absurd (true≢false (sym v))
  new_known (declare r) v u = new_number r u (new_meaning s r p) (new_meaning_is s z p op r)
  new_known (bring r n d) v u = absurd (true≢false (sym v))
  new_known (visit r) v u = absurd (true≢false (sym v))

  -- after an event, where there is room for one entry more
  pub numbered_step : (e : Event) → length z < entry_room p.env → p.next_global < 4294967295 → Unlisted s h e
      → Proper s z e → Numbered s (h ++ record { event = e; stack = z } ∷ []) (step_scopes s e p)
  unfolding step_scopes
  numbered_step (enter r) room few u pr =
      record { next_is = next_same (enter r) refl; numbers = numbers_push s _ p.env p.count 1 r p.fun 0 p.slot (space room) (numbers_on (enter r)) (unnumbered refl) }
  numbered_step leave room few u pr =
      record { next_is = next_same leave refl; numbers = λ k l. numbers_on leave k (omega (arith, mark_le p.env p.count)) }
  numbered_step loop room few u pr =
      record { next_is = next_same loop refl; numbers = numbers_push s _ p.env p.count 0 0 p.fun 0 p.slot (space room) (numbers_on loop) (unnumbered refl) }
  numbered_step (declare r) room few u pr =
      record {
        next_is =
            ap (λ (d : Meaning). when is_toplevel d then one_more p.next_global else p.next_global)
            (sym (new_meaning_is s z p op r))
            ∙ next_declare r (is_toplevel (declared s r (inside s z))) refl few;
        numbers =
            numbers_push s _ p.env p.count (tag_of (new_meaning s r p)) (a s r) (first_of (new_meaning s r p))
            (second_of (new_meaning s r p) p.next_global) p.slot (space room) (numbers_on (declare r))
            (known_stored s _ (new_meaning s r p) p.next_global (new_number r u (new_meaning s r p) (new_meaning_is s z p op r)));
      }
  numbered_step (bring r n d) room few u (p_bring v t) =
      record {
        next_is = ap (λ (x : Bool). when x then one_more p.next_global else p.next_global) t ∙ next_same (bring r n d) refl;
        numbers =
            numbers_push s _ p.env p.count (tag_of d) n (first_of d) (second_of d p.next_global) p.slot
            (space room) (numbers_on (bring r n d)) (known_stored s _ d p.next_global (unnumbered t));
      }
  numbered_step (visit r) room few u pr = record { next_is = next_same (visit r) refl; numbers = numbers_on (visit r) }
