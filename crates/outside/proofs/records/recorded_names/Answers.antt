use Rattle.std.proofs.Common.{ap, ◌∙◌, map}
use Rattle.definition.specs.Outside.{Method}
use Rattle.outside.proofs.RecordLaws.{method_names_lem, no_field}
use Rattle.outside.proofs.records.recorded_names.Goals as goal

pub returns-in_default : goal.returns-in_default
returns-in_default c =
    rw (no_field c.args.kind c.in_default.not-Field)
    (c.spaced-in_default.ensures ∙ method_names_lem c.args.outside.now c.in-Some.record.method c.in-Some.record.methods
    ∙ ap (map (λ (m : Method). m.name)) c.in-Some.ensures.methods_are)
