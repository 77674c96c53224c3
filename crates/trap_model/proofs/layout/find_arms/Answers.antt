use Rattle.std.proofs.Common.{sym, ◌∙◌}
use Rattle.trap_parts.specs.Parts.{lists}
use Rattle.trap_parts.proofs.Known.{arm_known}
use Rattle.trap_model.proofs.layout.find_arms.Goals as goal

pub slot_end-requires-clause-there : goal.slot_end-requires-clause-there
slot_end-requires-clause-there c =
    arm_known (lists c.args.parts.now) c.args.links.now _ _ _ _ c.requires.links c.loop-link-test.true (sym c.segment_at.ensures ∙ c.in-Some.is)
