use Rattle.trap_parts.specs.Parts.{lists}
use Rattle.load_setup.proofs.Sound.{names_are_names, built_is_generated}
use Rattle.load_setup.proofs.trap.trap_of_six.Goals as goal

pub build-requires : goal.build-requires
build-requires c = names_are_names (lists c.in_ok-parts.parts) c.in_ok-parts.ensures

pub returns-in-Ok : goal.returns-in-Ok
returns-in-Ok c = built_is_generated (lists c.in_ok-parts.parts) c.in-Ok.trap c.in_ok-parts.ensures c.in-Ok.ensures
