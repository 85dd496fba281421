use mathlib.Core.Path.{sym, ap, ◌∙◌}
use Rattle.machine.specs.Machine.{find_name, marks_after}
use Rattle.symbols.specs.OpenScopes.{scopes_of}
use Rattle.symbols.proofs.DeclLaws.{searched_whole, found}
use Rattle.symbols.proofs.decl.lookup.Goals as goal

pub find_name-at-requires : goal.find_name-at-requires
find_name-at-requires c =
    searched_whole (scopes_of c.args.env c.args.entries.now) _ c.entries_searched-n.ensures

pub returns-then-is_variable : goal.returns-then-is_variable
returns-then-is_variable c =
    let n = c.entries_searched-n.ensures in
    let at = c.find_name-at.ensures in
    found c.args.sheet.now (scopes_of c.args.env c.args.entries.now) c.args.m _ _ _ (sym c.if-is_variable.true ∙ c.is_variable.ensures)
    (at.0 ∙ ap (find_name c.args.entries.now c.args.m) n) (at.1 ∙ ap (marks_after c.args.sheet.now c.args.entries.now c.args.m) n) c.decl_at-decl.ensures

pub returns-else-is_variable : goal.returns-else-is_variable
returns-else-is_variable c =
    let n = c.entries_searched-n.ensures in
    let at = c.find_name-at.ensures in
    found c.args.sheet.now (scopes_of c.args.env c.args.entries.now) c.args.m _ _ _ (sym c.if-is_variable.false ∙ c.is_variable.ensures)
    (at.0 ∙ ap (find_name c.args.entries.now c.args.m) n) (at.1 ∙ ap (marks_after c.args.sheet.now c.args.entries.now c.args.m) n) c.decl_at-decl.ensures
