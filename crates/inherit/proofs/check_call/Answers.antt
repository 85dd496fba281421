use Rattle.outside.specs.Words.{over}
use native.Mathlib.Omega.{arith}
use Rattle.store.specs.Stored.{store_of}
use Rattle.inherit.proofs.CallLaws.{arguments_few, call_without, call_fits, call_unfit}
use Rattle.inherit.proofs.check_call.Goals as goal

pub returns-then-fun-eq0 : goal.returns-then-fun-eq0
returns-then-fun-eq0 c =
    λ o q two. call_without (over c.args.outside.now) c.args.sheet.now
    (store_of o c.args.results.now q) (record { key = c.args.row; one = c.args.c.0; two = two })
    (c.find_method-init.ensures o q).fun_is (c.find_method-init.ensures o q).params_are c.word-at.ensures
    c.class_name-name.ensures c.if-fun-eq0.true

pub overflow_add-arguments : goal.overflow_add-arguments
overflow_add-arguments c =
    omega (arith, c.arguments.ensures, arguments_few c.args.sheet.now c.args.row)

pub returns-then-arguments-init : goal.returns-then-arguments-init
returns-then-arguments-init c =
    λ o q two. call_fits (over c.args.outside.now) c.args.sheet.now
    (store_of o c.args.results.now q) (record { key = c.args.row; one = c.args.c.0; two = two })
    (c.find_method-init.ensures o q).fun_is (c.find_method-init.ensures o q).params_are c.word-at.ensures c.class_name-name.ensures
    c.if-fun-eq0.false c.arguments.ensures c.if-arguments-init.true

pub returns : goal.returns
returns c =
    λ o q two. call_unfit (over c.args.outside.now) c.args.sheet.now
    (store_of o c.args.results.now q) (record { key = c.args.row; one = c.args.c.0; two = two })
    (c.find_method-init.ensures o q).fun_is (c.find_method-init.ensures o q).params_are c.word-at.ensures c.class_name-name.ensures
    c.if-fun-eq0.false c.arguments.ensures c.if-arguments-init.false
