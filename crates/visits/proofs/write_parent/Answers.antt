use Rattle.std.proofs.Common.{refl, ◌∙◌, [], ◌∷◌}
use Rattle.store.specs.Stored.{store_of}
use Rattle.walk.proofs.VisitLaws.{same_row}
use Rattle.visits.proofs.write_parent.Goals as goal

pub returns-then-is_kind : goal.returns-then-is_kind
returns-then-is_kind c =
    λ o q. rw (← c.is_kind.ensures, c.if-is_kind.true)
    (c.write_decl.ensures o q ∙ same_row c.args.c _ (2 ∷ c.args.class.0 ∷ []) (store_of o c.args.results.now q) refl)
