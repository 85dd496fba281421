use Rattle.symbols.specs.OpenScopes.{scopes_of}
use Rattle.symbols.proofs.DeclLaws.{defined}
use Rattle.symbols.proofs.decl.define.Goals as goal

pub returns : goal.returns
returns c =
    λ k h. defined c.args.sheet.now c.args.m c.args.d k
    (scopes_of c.args.env c.args.entries.now) _ _ _ _ _ _ _ h (c.entry_of-tag.ensures _) c.push_entry-count.ensures.0
    c.push_entry-count.ensures.1 c.slot_after-slot.ensures c.global_after-globals.ensures
