-- Session words of which the words of an outside can be made.
use Rattle.std.specs.Prelude.{List, [], ℕ, ◌+◌, ◌*◌, ◌<◌, ◌≤◌, min, get_or}
use Rattle.session.specs.Words.{whole, laid_place, class_place, member_place, fields_in, methods_in, members_before}

-- What is known of session words past question 23:
pub record Readable (w : List ℕ) : Type 0 where
  -- there are no more declarations, classes and members than there is room for, and the classes have no more members than are counted,
  pub few_laid : get_or w 5 0 ≤ 4096
  pub few_classes : get_or w 6 0 ≤ 1024
  pub few_members : get_or w 7 0 ≤ 8192
  pub members_counted : members_before whole w [] (get_or w 6 0) ≤ get_or w 7 0
  -- each declaration has a name, fixed or listed,
  pub named : (i : ℕ) → i < get_or w 5 0 → (1 ≤ get_or w (laid_place whole i) 0) × (get_or w (laid_place whole i) 0 ≤ 1048)
  -- and 2,048 can be added to each number: of a declaration, a class, a method's function.
  pub laid_low : (i : ℕ) → i < get_or w 5 0 → get_or w (laid_place whole i + 2) 0 < 4294965248
  pub class_low : (i : ℕ) → i < get_or w 6 0 → get_or w (class_place whole i) 0 < 4294965248
  pub method_low : (i j : ℕ) → i < get_or w 6 0 → members_before whole w [] i + fields_in whole w [] i ≤ j
      → j < members_before whole w [] i + fields_in whole w [] i + methods_in whole w [] i → get_or w (member_place whole j + 1) 0 < 4294965248

-- how many words suffice for the outside: rows of eight for row 0, the names and the records, members of at most three words, the core's 14 fields
unfoldable pub outside_size : List ℕ → ℕ
outside_size w = 8 * (min (get_or w 5 0 + 9) 1048 + get_or w 6 0 + 4) + 3 * get_or w 7 0 + 14
