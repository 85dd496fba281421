-- A file out of range gives nothing; any other is packed with its line and its clamped column.
use Rattle.std.proofs.Common.{◌<◌, ◌≤◌, arith}
use Rattle.lexer.proofs.Laws.{packed_in, packed_out}
use Rattle.lexer.proofs.SrcPos.new.Goals as goal

pub returns-then-file_id-ge-MAX_FILES : goal.returns-then-file_id-ge-MAX_FILES
returns-then-file_id-ge-MAX_FILES c = let h : 262144 ≤ c.args.file_id = omega arith in rw (packed_out _ _ _ h)

pub returns : goal.returns
returns c = let h : c.args.file_id < 262144 = omega arith in rw (packed_in _ _ _ h) (omega (arith, c.min-column.ensures))
