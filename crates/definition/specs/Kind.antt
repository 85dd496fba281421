-- The kinds of sheet rows that the definitions ask about. The table of all kinds is in Shape.
use Rattle.std.specs.Prelude.{ℕ}

abbrev pub HEADER : ℕ
HEADER = 0

abbrev pub UNIT : ℕ
UNIT = 2

abbrev pub IMPORT : ℕ
IMPORT = 3

abbrev pub CLASS : ℕ
CLASS = 4

abbrev pub FUNCTION : ℕ
FUNCTION = 6

abbrev pub FUNCTION_EXPORT : ℕ
FUNCTION_EXPORT = 7

abbrev pub CONSTANT_EXPORT : ℕ
CONSTANT_EXPORT = 8

abbrev pub FIELD : ℕ
FIELD = 10

abbrev pub PARAMETER : ℕ
PARAMETER = 11

abbrev pub ASSIGN : ℕ
ASSIGN = 21

abbrev pub BREAK : ℕ
BREAK = 23

abbrev pub CONTINUE : ℕ
CONTINUE = 24

abbrev pub BLOCK : ℕ
BLOCK = 25

abbrev pub FOR : ℕ
FOR = 27

abbrev pub LET : ℕ
LET = 29

abbrev pub CLASS_DECLARATION : ℕ
CLASS_DECLARATION = 30

abbrev pub IDENTIFIER : ℕ
IDENTIFIER = 50

abbrev pub HOST_CONSTANT : ℕ
HOST_CONSTANT = 51

abbrev pub LITERAL : ℕ
LITERAL = 52

abbrev pub MEMBER : ℕ
MEMBER = 54

abbrev pub INSTANCEOF : ℕ
INSTANCEOF = 55

abbrev pub CALL : ℕ
CALL = 59
