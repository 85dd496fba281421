-- A declaration comes back out of its numbers, so no two have the same, for callers to cite. Assumes nothing.
use mathlib.Core.Path.{◌≡◌, refl, ap, sym, ◌∙◌}
use mathlib.Core.Bool.{true, false}
use lib.ListN.{length}
use Rattle.ast.specs.declared.Decl.{Decl}
use Rattle.ast.specs.declared.Decl.TheVariants.{Fun, Class, Global, Arg, Local, Captured}
use Rattle.ast.specs.Decl.{code_and_values, decl_of, decl_in}

pub words_back : (d : Decl) → decl_in (code_and_values d) ≡ d
unfolding decl_of
words_back (Fun id) = refl
words_back (Class id) = refl
words_back (Global idx true) = refl
words_back (Global idx false) = refl
words_back (Arg idx fun) = refl
words_back (Local idx fun true) = refl
words_back (Local idx fun false) = refl
words_back (Captured idx true) = refl
words_back (Captured idx false) = refl

pub words_same : (d e : Decl) → code_and_values d ≡ code_and_values e → d ≡ e
words_same d e h = sym (words_back d) ∙ ap decl_in h ∙ words_back e

pub words_length : (d : Decl) → length (code_and_values d) ≡ 4
words_length (Fun id) = refl
words_length (Class id) = refl
words_length (Global idx m) = refl
words_length (Arg idx fun) = refl
words_length (Local idx fun m) = refl
words_length (Captured idx m) = refl
