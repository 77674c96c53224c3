use Rattle.trap_parts.proofs.Accepted.{accepted}
use Rattle.trap_parts.proofs.Sound.{built, built_trap}
use Rattle.trap_parts.proofs.laws.sound_parts_are_accepted.Goals as goal

pub returns-clause-accepted : goal.returns-clause-accepted
returns-clause-accepted c = accepted

pub returns-clause-sound : goal.returns-clause-sound
returns-clause-sound c = built_trap

pub returns-clause-same : goal.returns-clause-same
returns-clause-same c trap answer e = (built trap answer e).same
