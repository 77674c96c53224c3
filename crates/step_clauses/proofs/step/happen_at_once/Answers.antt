use Rattle.std.proofs.Common.{◌∙◌}
use Rattle.step_clauses.proofs.Same.{happen_are}
use Rattle.step_clauses.proofs.step.happen_at_once.Goals as goal

pub returns : goal.returns
returns c =
    happen_are c.args.setting.now c.args.time _ _ _ _ _ _ _ _ _ c.new-bounds.ensures.items (c.deref.ensures.value ∙ c.requires.places) (c.deref-3.ensures.value ∙ c.requires.junctions) c.requires.ops c.requires.channels
    (c.deref-2.ensures.value ∙ c.requires.channels) c.requires.pairs c.in_ok-add_one_activities.ensures c.in_ok-add_one_crossings.ensures
