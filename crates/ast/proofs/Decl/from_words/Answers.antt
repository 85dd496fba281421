-- Each arm knows the code.
use Rattle.std.proofs.Common.{◌≡◌, arith}
use borrow.Author.Tests.{ne_eqb}
use Rattle.ast.specs.Decl.{decl_of}
use Rattle.ast.proofs.Decl.from_words.Goals as goal

pub returns-in-1 : goal.returns-in-1
unfolding decl_of
returns-in-1 c = let h : c.args.code ≡ 1 = omega arith in rw h

pub returns-in-2 : goal.returns-in-2
unfolding decl_of
returns-in-2 c = let h : c.args.code ≡ 2 = omega arith in rw h

pub returns-in-3 : goal.returns-in-3
unfolding decl_of
returns-in-3 c = let h : c.args.code ≡ 3 = omega arith in rw h

pub returns-in-4 : goal.returns-in-4
unfolding decl_of
returns-in-4 c = let h : c.args.code ≡ 4 = omega arith in rw h

pub returns-in-5 : goal.returns-in-5
unfolding decl_of
returns-in-5 c = let h : c.args.code ≡ 5 = omega arith in rw h

pub returns-in_default : goal.returns-in_default
unfolding decl_of
returns-in_default c =
    rw (
      ne_eqb c.args.code 1 (omega arith),
      ne_eqb c.args.code 2 (omega arith),
      ne_eqb c.args.code 3 (omega arith),
      ne_eqb c.args.code 4 (omega arith),
      ne_eqb c.args.code 5 (omega arith),
    )
