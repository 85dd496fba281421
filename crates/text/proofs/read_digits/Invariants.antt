-- `read_digits` meets its contract. The loop's invariant: what the digits write is the same from each digit on, with
-- the number so far. Assumes nothing.
use mathlib.Core.Path.{◌≡◌}
use Prim.Native.Nat.{◌^◌, ◌<◌}
use lib.ListN.{drop}
use Rattle.text.specs.Lines.{digits_from}
use Rattle.text.proofs.read_digits.Given as goal

abbrev pub invariant-loop-byte : goal.invariant-loop-byte
invariant-loop-byte l = (l.v < 10 ^ l.byte-index) × (digits_from l.v (drop l.byte-index l.digits) ≡ digits_from 0 l.digits)
