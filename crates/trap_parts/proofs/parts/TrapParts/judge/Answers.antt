use Rattle.trap_parts.specs.Parts.{lists}
use Rattle.trap_parts.proofs.Sound.{sound, links_of_joins}
use Rattle.trap_parts.proofs.parts.TrapParts.judge.Goals as goal

pub returns-clause-trap : goal.returns-clause-trap
returns-clause-trap c =
    sound (lists c.args.self.now) c.in_ok-links.links.items c.requires c.in_ok-judge_parts.ensures c.in_ok-links.ensures (rw c.as_slice.ensures.value at c.in_ok-judge_junctions.ensures)

pub returns-clause-links : goal.returns-clause-links
returns-clause-links c = links_of_joins (lists c.args.self.now) c.in_ok-links.links.items c.in_ok-links.ensures
