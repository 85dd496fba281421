-- A small sheet for each no of questions 5 to 21: its number, the position of the row it is about, and the name.
use Rattle.std.specs.Prelude.{◌≡◌, refl, List, [], ◌∷◌, map}
use Rattle.definition.specs.Samples.{Sample, printed_of, expected}

-- break;
abbrev jump_outside : Sample
jump_outside = record {
  sheet =
      0 ∷ 0 ∷ 1 ∷ 0 ∷ 0 ∷ 0 ∷ 0 ∷ 2 ∷
      2 ∷ 0 ∷ 2 ∷ 0 ∷ 0 ∷ 0 ∷ 0 ∷ 0 ∷
      6 ∷ 0 ∷ 3 ∷ 0 ∷ 1 ∷ 2 ∷ 0 ∷ 1 ∷
      25 ∷ 0 ∷ 4 ∷ 0 ∷ 1 ∷ 3 ∷ 0 ∷ 0 ∷
      23 ∷ 0 ∷ 0 ∷ 0 ∷ 1 ∷ 4 ∷ 0 ∷ 0 ∷ [];
  head = 5 ∷ 0 ∷ 1 ∷ 4 ∷ 0 ∷ [];
  rows = [];
}

-- let f = 1; f = 1;
abbrev immutable_assigned : Sample
immutable_assigned = record {
  sheet =
      0 ∷ 0 ∷ 1 ∷ 0 ∷ 0 ∷ 0 ∷ 0 ∷ 2 ∷
      2 ∷ 0 ∷ 2 ∷ 0 ∷ 0 ∷ 0 ∷ 0 ∷ 0 ∷
      6 ∷ 0 ∷ 3 ∷ 0 ∷ 1 ∷ 2 ∷ 0 ∷ 1 ∷
      25 ∷ 0 ∷ 4 ∷ 0 ∷ 1 ∷ 3 ∷ 0 ∷ 0 ∷
      29 ∷ 6 ∷ 5 ∷ 0 ∷ 1 ∷ 4 ∷ 25 ∷ 0 ∷
      43 ∷ 0 ∷ 0 ∷ 0 ∷ 1 ∷ 5 ∷ 1 ∷ 0 ∷
      21 ∷ 0 ∷ 7 ∷ 0 ∷ 1 ∷ 6 ∷ 0 ∷ 0 ∷
      50 ∷ 8 ∷ 0 ∷ 0 ∷ 1 ∷ 7 ∷ 25 ∷ 0 ∷
      43 ∷ 0 ∷ 0 ∷ 0 ∷ 1 ∷ 8 ∷ 1 ∷ 0 ∷ [];
  head = 6 ∷ 0 ∷ 1 ∷ 6 ∷ 25 ∷ [];
  rows = [];
}

-- let f = 1; let f = 1;
abbrev let_twice : Sample
let_twice = record {
  sheet =
      0 ∷ 0 ∷ 1 ∷ 0 ∷ 0 ∷ 0 ∷ 0 ∷ 2 ∷
      2 ∷ 0 ∷ 2 ∷ 0 ∷ 0 ∷ 0 ∷ 0 ∷ 0 ∷
      6 ∷ 0 ∷ 3 ∷ 0 ∷ 1 ∷ 2 ∷ 0 ∷ 1 ∷
      25 ∷ 0 ∷ 4 ∷ 0 ∷ 1 ∷ 3 ∷ 0 ∷ 0 ∷
      29 ∷ 6 ∷ 5 ∷ 0 ∷ 1 ∷ 4 ∷ 25 ∷ 0 ∷
      43 ∷ 0 ∷ 0 ∷ 0 ∷ 1 ∷ 5 ∷ 1 ∷ 0 ∷
      29 ∷ 0 ∷ 7 ∷ 0 ∷ 1 ∷ 6 ∷ 25 ∷ 0 ∷
      43 ∷ 0 ∷ 0 ∷ 0 ∷ 1 ∷ 7 ∷ 1 ∷ 0 ∷ [];
  head = 7 ∷ 0 ∷ 1 ∷ 6 ∷ 25 ∷ [];
  rows = [];
}

-- f;
abbrev undeclared : Sample
undeclared = record {
  sheet =
      0 ∷ 0 ∷ 1 ∷ 0 ∷ 0 ∷ 0 ∷ 0 ∷ 2 ∷
      2 ∷ 0 ∷ 2 ∷ 0 ∷ 0 ∷ 0 ∷ 0 ∷ 0 ∷
      6 ∷ 0 ∷ 3 ∷ 0 ∷ 1 ∷ 2 ∷ 0 ∷ 1 ∷
      25 ∷ 0 ∷ 4 ∷ 0 ∷ 1 ∷ 3 ∷ 0 ∷ 0 ∷
      20 ∷ 0 ∷ 5 ∷ 0 ∷ 1 ∷ 4 ∷ 0 ∷ 0 ∷
      50 ∷ 0 ∷ 0 ∷ 0 ∷ 1 ∷ 5 ∷ 25 ∷ 0 ∷ [];
  head = 8 ∷ 0 ∷ 1 ∷ 5 ∷ 25 ∷ [];
  rows = [];
}

-- null;
abbrev null_written : Sample
null_written = record {
  sheet =
      0 ∷ 0 ∷ 1 ∷ 0 ∷ 0 ∷ 0 ∷ 0 ∷ 2 ∷
      2 ∷ 0 ∷ 2 ∷ 0 ∷ 0 ∷ 0 ∷ 0 ∷ 0 ∷
      6 ∷ 0 ∷ 3 ∷ 0 ∷ 1 ∷ 2 ∷ 0 ∷ 1 ∷
      25 ∷ 0 ∷ 4 ∷ 0 ∷ 1 ∷ 3 ∷ 0 ∷ 0 ∷
      20 ∷ 0 ∷ 5 ∷ 0 ∷ 1 ∷ 4 ∷ 0 ∷ 0 ∷
      50 ∷ 0 ∷ 0 ∷ 0 ∷ 1 ∷ 5 ∷ 22 ∷ 0 ∷ [];
  head = 9 ∷ 0 ∷ 1 ∷ 5 ∷ 22 ∷ [];
  rows = [];
}

-- true instanceof f;
abbrev no_class_of : Sample
no_class_of = record {
  sheet =
      0 ∷ 0 ∷ 1 ∷ 0 ∷ 0 ∷ 0 ∷ 0 ∷ 2 ∷
      2 ∷ 0 ∷ 2 ∷ 0 ∷ 0 ∷ 0 ∷ 0 ∷ 0 ∷
      6 ∷ 0 ∷ 3 ∷ 0 ∷ 1 ∷ 2 ∷ 0 ∷ 1 ∷
      25 ∷ 0 ∷ 4 ∷ 0 ∷ 1 ∷ 3 ∷ 0 ∷ 0 ∷
      20 ∷ 0 ∷ 5 ∷ 0 ∷ 1 ∷ 4 ∷ 0 ∷ 0 ∷
      55 ∷ 0 ∷ 6 ∷ 0 ∷ 1 ∷ 5 ∷ 25 ∷ 0 ∷
      41 ∷ 0 ∷ 0 ∷ 0 ∷ 1 ∷ 6 ∷ 0 ∷ 0 ∷ [];
  head = 10 ∷ 0 ∷ 1 ∷ 5 ∷ 25 ∷ [];
  rows = [];
}

-- class f extends p {}
abbrev no_class_extended : Sample
no_class_extended = record {
  sheet =
      0 ∷ 0 ∷ 1 ∷ 0 ∷ 0 ∷ 0 ∷ 0 ∷ 3 ∷
      2 ∷ 0 ∷ 2 ∷ 0 ∷ 0 ∷ 0 ∷ 0 ∷ 0 ∷
      4 ∷ 3 ∷ 0 ∷ 0 ∷ 1 ∷ 2 ∷ 25 ∷ 26 ∷
      6 ∷ 0 ∷ 4 ∷ 0 ∷ 1 ∷ 3 ∷ 0 ∷ 1 ∷
      25 ∷ 0 ∷ 5 ∷ 0 ∷ 1 ∷ 4 ∷ 0 ∷ 0 ∷
      30 ∷ 0 ∷ 0 ∷ 0 ∷ 1 ∷ 5 ∷ 2 ∷ 0 ∷ [];
  head = 11 ∷ 0 ∷ 1 ∷ 5 ∷ 26 ∷ [];
  rows = [];
}

-- Dict();
abbrev dict_constructed : Sample
dict_constructed = record {
  sheet =
      0 ∷ 0 ∷ 1 ∷ 0 ∷ 0 ∷ 0 ∷ 0 ∷ 2 ∷
      2 ∷ 0 ∷ 2 ∷ 0 ∷ 0 ∷ 0 ∷ 0 ∷ 0 ∷
      6 ∷ 0 ∷ 3 ∷ 0 ∷ 1 ∷ 2 ∷ 0 ∷ 1 ∷
      25 ∷ 0 ∷ 4 ∷ 0 ∷ 1 ∷ 3 ∷ 0 ∷ 0 ∷
      20 ∷ 0 ∷ 5 ∷ 0 ∷ 1 ∷ 4 ∷ 0 ∷ 0 ∷
      59 ∷ 0 ∷ 6 ∷ 0 ∷ 1 ∷ 5 ∷ 0 ∷ 0 ∷
      50 ∷ 0 ∷ 0 ∷ 0 ∷ 1 ∷ 6 ∷ 6 ∷ 0 ∷ [];
  head = 12 ∷ 0 ∷ 1 ∷ 6 ∷ 6 ∷ [];
  rows = [];
}

-- class f {} f.p();
abbrev no_such_method : Sample
no_such_method = record {
  sheet =
      0 ∷ 0 ∷ 1 ∷ 0 ∷ 0 ∷ 0 ∷ 0 ∷ 3 ∷
      2 ∷ 0 ∷ 2 ∷ 0 ∷ 0 ∷ 0 ∷ 0 ∷ 0 ∷
      4 ∷ 3 ∷ 0 ∷ 0 ∷ 1 ∷ 2 ∷ 25 ∷ 0 ∷
      6 ∷ 0 ∷ 4 ∷ 0 ∷ 1 ∷ 3 ∷ 0 ∷ 1 ∷
      25 ∷ 0 ∷ 5 ∷ 0 ∷ 1 ∷ 4 ∷ 0 ∷ 0 ∷
      30 ∷ 6 ∷ 0 ∷ 0 ∷ 1 ∷ 5 ∷ 2 ∷ 0 ∷
      20 ∷ 0 ∷ 7 ∷ 0 ∷ 1 ∷ 6 ∷ 0 ∷ 0 ∷
      59 ∷ 0 ∷ 8 ∷ 0 ∷ 1 ∷ 7 ∷ 0 ∷ 0 ∷
      54 ∷ 0 ∷ 9 ∷ 0 ∷ 1 ∷ 8 ∷ 26 ∷ 0 ∷
      50 ∷ 0 ∷ 0 ∷ 0 ∷ 1 ∷ 9 ∷ 25 ∷ 0 ∷ [];
  head = 13 ∷ 0 ∷ 1 ∷ 8 ∷ 26 ∷ [];
  rows = [];
}

-- class f { p(f) {} } f.p();
abbrev one_argument_short : Sample
one_argument_short = record {
  sheet =
      0 ∷ 0 ∷ 1 ∷ 0 ∷ 0 ∷ 0 ∷ 0 ∷ 6 ∷
      2 ∷ 0 ∷ 2 ∷ 0 ∷ 0 ∷ 0 ∷ 0 ∷ 0 ∷
      4 ∷ 6 ∷ 3 ∷ 0 ∷ 1 ∷ 2 ∷ 25 ∷ 0 ∷
      6 ∷ 0 ∷ 4 ∷ 0 ∷ 1 ∷ 3 ∷ 26 ∷ 0 ∷
      11 ∷ 5 ∷ 0 ∷ 0 ∷ 1 ∷ 4 ∷ 25 ∷ 0 ∷
      25 ∷ 0 ∷ 0 ∷ 0 ∷ 1 ∷ 5 ∷ 0 ∷ 0 ∷
      6 ∷ 0 ∷ 7 ∷ 0 ∷ 1 ∷ 6 ∷ 0 ∷ 1 ∷
      25 ∷ 0 ∷ 8 ∷ 0 ∷ 1 ∷ 7 ∷ 0 ∷ 0 ∷
      30 ∷ 9 ∷ 0 ∷ 0 ∷ 1 ∷ 8 ∷ 2 ∷ 0 ∷
      20 ∷ 0 ∷ 10 ∷ 0 ∷ 1 ∷ 9 ∷ 0 ∷ 0 ∷
      59 ∷ 0 ∷ 11 ∷ 0 ∷ 1 ∷ 10 ∷ 0 ∷ 0 ∷
      54 ∷ 0 ∷ 12 ∷ 0 ∷ 1 ∷ 11 ∷ 26 ∷ 0 ∷
      50 ∷ 0 ∷ 0 ∷ 0 ∷ 1 ∷ 12 ∷ 25 ∷ 0 ∷ [];
  head = 14 ∷ 0 ∷ 1 ∷ 11 ∷ 26 ∷ [];
  rows = [];
}

-- import f of a unit that exports nothing
abbrev no_such_export : Sample
no_such_export = record {
  sheet =
      0 ∷ 0 ∷ 1 ∷ 0 ∷ 0 ∷ 0 ∷ 0 ∷ 7 ∷
      2 ∷ 4 ∷ 2 ∷ 0 ∷ 0 ∷ 0 ∷ 0 ∷ 0 ∷
      6 ∷ 0 ∷ 3 ∷ 0 ∷ 1 ∷ 2 ∷ 0 ∷ 1 ∷
      25 ∷ 0 ∷ 0 ∷ 0 ∷ 1 ∷ 3 ∷ 0 ∷ 0 ∷
      2 ∷ 0 ∷ 5 ∷ 0 ∷ 1 ∷ 4 ∷ 0 ∷ 0 ∷
      3 ∷ 7 ∷ 6 ∷ 0 ∷ 1 ∷ 5 ∷ 1 ∷ 0 ∷
      9 ∷ 0 ∷ 0 ∷ 0 ∷ 1 ∷ 6 ∷ 25 ∷ 0 ∷
      6 ∷ 0 ∷ 8 ∷ 0 ∷ 1 ∷ 7 ∷ 0 ∷ 1 ∷
      25 ∷ 0 ∷ 0 ∷ 0 ∷ 1 ∷ 8 ∷ 0 ∷ 0 ∷ [];
  head = 15 ∷ 0 ∷ 1 ∷ 5 ∷ 25 ∷ [];
  rows = [];
}

-- |f, f| {};
abbrev parameter_twice : Sample
parameter_twice = record {
  sheet =
      0 ∷ 0 ∷ 1 ∷ 0 ∷ 0 ∷ 0 ∷ 0 ∷ 2 ∷
      2 ∷ 0 ∷ 2 ∷ 0 ∷ 0 ∷ 0 ∷ 0 ∷ 0 ∷
      6 ∷ 0 ∷ 3 ∷ 0 ∷ 1 ∷ 2 ∷ 0 ∷ 1 ∷
      25 ∷ 0 ∷ 4 ∷ 0 ∷ 1 ∷ 3 ∷ 0 ∷ 0 ∷
      20 ∷ 0 ∷ 5 ∷ 0 ∷ 1 ∷ 4 ∷ 0 ∷ 0 ∷
      52 ∷ 0 ∷ 6 ∷ 0 ∷ 1 ∷ 5 ∷ 0 ∷ 0 ∷
      6 ∷ 0 ∷ 7 ∷ 0 ∷ 1 ∷ 6 ∷ 0 ∷ 0 ∷
      11 ∷ 8 ∷ 0 ∷ 0 ∷ 1 ∷ 7 ∷ 25 ∷ 0 ∷
      11 ∷ 9 ∷ 0 ∷ 0 ∷ 1 ∷ 8 ∷ 25 ∷ 0 ∷
      25 ∷ 0 ∷ 0 ∷ 0 ∷ 1 ∷ 9 ∷ 0 ∷ 0 ∷ [];
  head = 16 ∷ 0 ∷ 1 ∷ 8 ∷ 25 ∷ [];
  rows = [];
}

-- import f, f of a unit that exports f
abbrev imported_twice : Sample
imported_twice = record {
  sheet =
      0 ∷ 0 ∷ 1 ∷ 0 ∷ 0 ∷ 0 ∷ 0 ∷ 13 ∷
      2 ∷ 9 ∷ 2 ∷ 0 ∷ 0 ∷ 0 ∷ 0 ∷ 0 ∷
      7 ∷ 3 ∷ 0 ∷ 0 ∷ 1 ∷ 2 ∷ 25 ∷ 7 ∷
      6 ∷ 0 ∷ 4 ∷ 0 ∷ 1 ∷ 3 ∷ 0 ∷ 1 ∷
      25 ∷ 0 ∷ 5 ∷ 0 ∷ 1 ∷ 4 ∷ 0 ∷ 0 ∷
      29 ∷ 0 ∷ 6 ∷ 0 ∷ 1 ∷ 5 ∷ 25 ∷ 0 ∷
      52 ∷ 0 ∷ 7 ∷ 0 ∷ 1 ∷ 6 ∷ 0 ∷ 0 ∷
      6 ∷ 0 ∷ 8 ∷ 0 ∷ 1 ∷ 7 ∷ 0 ∷ 0 ∷
      25 ∷ 0 ∷ 0 ∷ 0 ∷ 1 ∷ 8 ∷ 0 ∷ 0 ∷
      2 ∷ 0 ∷ 10 ∷ 0 ∷ 1 ∷ 9 ∷ 0 ∷ 0 ∷
      3 ∷ 13 ∷ 11 ∷ 0 ∷ 1 ∷ 10 ∷ 1 ∷ 0 ∷
      9 ∷ 12 ∷ 0 ∷ 0 ∷ 1 ∷ 11 ∷ 25 ∷ 0 ∷
      9 ∷ 0 ∷ 0 ∷ 0 ∷ 1 ∷ 12 ∷ 25 ∷ 0 ∷
      6 ∷ 0 ∷ 14 ∷ 0 ∷ 1 ∷ 13 ∷ 0 ∷ 1 ∷
      25 ∷ 0 ∷ 0 ∷ 0 ∷ 1 ∷ 14 ∷ 0 ∷ 0 ∷ [];
  head = 16 ∷ 0 ∷ 1 ∷ 10 ∷ 25 ∷ [];
  rows = [];
}

-- $f;
abbrev unknown_host_constant : Sample
unknown_host_constant = record {
  sheet =
      0 ∷ 0 ∷ 1 ∷ 0 ∷ 0 ∷ 0 ∷ 0 ∷ 2 ∷
      2 ∷ 0 ∷ 2 ∷ 0 ∷ 0 ∷ 0 ∷ 0 ∷ 0 ∷
      6 ∷ 0 ∷ 3 ∷ 0 ∷ 1 ∷ 2 ∷ 0 ∷ 1 ∷
      25 ∷ 0 ∷ 4 ∷ 0 ∷ 1 ∷ 3 ∷ 0 ∷ 0 ∷
      20 ∷ 0 ∷ 5 ∷ 0 ∷ 1 ∷ 4 ∷ 0 ∷ 0 ∷
      51 ∷ 0 ∷ 0 ∷ 0 ∷ 1 ∷ 5 ∷ 25 ∷ 0 ∷ [];
  head = 17 ∷ 0 ∷ 1 ∷ 5 ∷ 25 ∷ [];
  rows = [];
}

-- String.f();
abbrev method_of_a_core_class : Sample
method_of_a_core_class = record {
  sheet =
      0 ∷ 0 ∷ 1 ∷ 0 ∷ 0 ∷ 0 ∷ 0 ∷ 2 ∷
      2 ∷ 0 ∷ 2 ∷ 0 ∷ 0 ∷ 0 ∷ 0 ∷ 0 ∷
      6 ∷ 0 ∷ 3 ∷ 0 ∷ 1 ∷ 2 ∷ 0 ∷ 1 ∷
      25 ∷ 0 ∷ 4 ∷ 0 ∷ 1 ∷ 3 ∷ 0 ∷ 0 ∷
      20 ∷ 0 ∷ 5 ∷ 0 ∷ 1 ∷ 4 ∷ 0 ∷ 0 ∷
      59 ∷ 0 ∷ 6 ∷ 0 ∷ 1 ∷ 5 ∷ 0 ∷ 0 ∷
      54 ∷ 0 ∷ 7 ∷ 0 ∷ 1 ∷ 6 ∷ 25 ∷ 0 ∷
      50 ∷ 0 ∷ 0 ∷ 0 ∷ 1 ∷ 7 ∷ 3 ∷ 0 ∷ [];
  head = 17 ∷ 0 ∷ 1 ∷ 6 ∷ 25 ∷ [];
  rows = [];
}

-- class f extends p {} class p extends f {}
abbrev circle_of_parents : Sample
circle_of_parents = record {
  sheet =
      0 ∷ 0 ∷ 1 ∷ 0 ∷ 0 ∷ 0 ∷ 0 ∷ 4 ∷
      2 ∷ 0 ∷ 2 ∷ 0 ∷ 0 ∷ 0 ∷ 0 ∷ 0 ∷
      4 ∷ 3 ∷ 0 ∷ 0 ∷ 1 ∷ 2 ∷ 25 ∷ 26 ∷
      4 ∷ 4 ∷ 0 ∷ 0 ∷ 1 ∷ 3 ∷ 26 ∷ 25 ∷
      6 ∷ 0 ∷ 5 ∷ 0 ∷ 1 ∷ 4 ∷ 0 ∷ 1 ∷
      25 ∷ 0 ∷ 6 ∷ 0 ∷ 1 ∷ 5 ∷ 0 ∷ 0 ∷
      30 ∷ 7 ∷ 0 ∷ 0 ∷ 1 ∷ 6 ∷ 2 ∷ 0 ∷
      30 ∷ 0 ∷ 0 ∷ 0 ∷ 1 ∷ 7 ∷ 3 ∷ 0 ∷ [];
  head = 18 ∷ 0 ∷ 1 ∷ 2 ∷ 25 ∷ [];
  rows = [];
}

-- class f extends String {}
abbrev string_extended : Sample
string_extended = record {
  sheet =
      0 ∷ 0 ∷ 1 ∷ 0 ∷ 0 ∷ 0 ∷ 0 ∷ 3 ∷
      2 ∷ 0 ∷ 2 ∷ 0 ∷ 0 ∷ 0 ∷ 0 ∷ 0 ∷
      4 ∷ 3 ∷ 0 ∷ 0 ∷ 1 ∷ 2 ∷ 25 ∷ 3 ∷
      6 ∷ 0 ∷ 4 ∷ 0 ∷ 1 ∷ 3 ∷ 0 ∷ 1 ∷
      25 ∷ 0 ∷ 5 ∷ 0 ∷ 1 ∷ 4 ∷ 0 ∷ 0 ∷
      30 ∷ 0 ∷ 0 ∷ 0 ∷ 1 ∷ 5 ∷ 2 ∷ 0 ∷ [];
  head = 19 ∷ 0 ∷ 1 ∷ 2 ∷ 25 ∷ [];
  rows = [];
}

-- class f {} f();
abbrev no_constructor : Sample
no_constructor = record {
  sheet =
      0 ∷ 0 ∷ 1 ∷ 0 ∷ 0 ∷ 0 ∷ 0 ∷ 3 ∷
      2 ∷ 0 ∷ 2 ∷ 0 ∷ 0 ∷ 0 ∷ 0 ∷ 0 ∷
      4 ∷ 3 ∷ 0 ∷ 0 ∷ 1 ∷ 2 ∷ 25 ∷ 0 ∷
      6 ∷ 0 ∷ 4 ∷ 0 ∷ 1 ∷ 3 ∷ 0 ∷ 1 ∷
      25 ∷ 0 ∷ 5 ∷ 0 ∷ 1 ∷ 4 ∷ 0 ∷ 0 ∷
      30 ∷ 6 ∷ 0 ∷ 0 ∷ 1 ∷ 5 ∷ 2 ∷ 0 ∷
      20 ∷ 0 ∷ 7 ∷ 0 ∷ 1 ∷ 6 ∷ 0 ∷ 0 ∷
      59 ∷ 0 ∷ 8 ∷ 0 ∷ 1 ∷ 7 ∷ 0 ∷ 0 ∷
      50 ∷ 0 ∷ 0 ∷ 0 ∷ 1 ∷ 8 ∷ 25 ∷ 0 ∷ [];
  head = 20 ∷ 0 ∷ 1 ∷ 8 ∷ 25 ∷ [];
  rows = [];
}

-- class f { init(p, f) {} } f();
abbrev constructor_short : Sample
constructor_short = record {
  sheet =
      0 ∷ 0 ∷ 1 ∷ 0 ∷ 0 ∷ 0 ∷ 0 ∷ 7 ∷
      2 ∷ 0 ∷ 2 ∷ 0 ∷ 0 ∷ 0 ∷ 0 ∷ 0 ∷
      4 ∷ 7 ∷ 3 ∷ 0 ∷ 1 ∷ 2 ∷ 25 ∷ 0 ∷
      6 ∷ 0 ∷ 4 ∷ 0 ∷ 1 ∷ 3 ∷ 23 ∷ 0 ∷
      11 ∷ 5 ∷ 0 ∷ 0 ∷ 1 ∷ 4 ∷ 26 ∷ 0 ∷
      11 ∷ 6 ∷ 0 ∷ 0 ∷ 1 ∷ 5 ∷ 25 ∷ 0 ∷
      25 ∷ 0 ∷ 0 ∷ 0 ∷ 1 ∷ 6 ∷ 0 ∷ 0 ∷
      6 ∷ 0 ∷ 8 ∷ 0 ∷ 1 ∷ 7 ∷ 0 ∷ 1 ∷
      25 ∷ 0 ∷ 9 ∷ 0 ∷ 1 ∷ 8 ∷ 0 ∷ 0 ∷
      30 ∷ 10 ∷ 0 ∷ 0 ∷ 1 ∷ 9 ∷ 2 ∷ 0 ∷
      20 ∷ 0 ∷ 11 ∷ 0 ∷ 1 ∷ 10 ∷ 0 ∷ 0 ∷
      59 ∷ 0 ∷ 12 ∷ 0 ∷ 1 ∷ 11 ∷ 0 ∷ 0 ∷
      50 ∷ 0 ∷ 0 ∷ 0 ∷ 1 ∷ 12 ∷ 25 ∷ 0 ∷ [];
  head = 21 ∷ 0 ∷ 1 ∷ 12 ∷ 25 ∷ [];
  rows = [];
}

abbrev pub refusals : List Sample
refusals =
    jump_outside ∷ immutable_assigned ∷ let_twice ∷ undeclared ∷ null_written ∷ no_class_of
    ∷ no_class_extended ∷ dict_constructed ∷ no_such_method ∷ one_argument_short
    ∷ no_such_export ∷ parameter_twice ∷ imported_twice ∷ unknown_host_constant
    ∷ method_of_a_core_class ∷ circle_of_parents ∷ string_extended ∷ no_constructor ∷ constructor_short ∷ []

pub results : map printed_of refusals ≡ map expected refusals
results = refl
