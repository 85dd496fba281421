use mathlib.Core.Path.{refl}
use Rattle.machine.specs.Machine.{code_of}
use Rattle.store.proofs.CodeLaws.{code_global, code_toplevel}
use Rattle.store.proofs.code.code_of.Goals as goal

pub returns-in-Fun : goal.returns-in-Fun
unfolding code_of
returns-in-Fun c = λ k g. rw c.in-Fun.is refl

pub returns-in-Class : goal.returns-in-Class
unfolding code_of
returns-in-Class c = λ k g. rw c.in-Class.is refl

pub returns-in-Global : goal.returns-in-Global
returns-in-Global c = λ k g. rw c.in-Global.is (code_global c.args.sheet.now _ _ k g)

pub returns-in-Toplevel : goal.returns-in-Toplevel
returns-in-Toplevel c = λ k g. rw c.in-Toplevel.is (code_toplevel c.args.sheet.now _ _ k c.word.ensures)
