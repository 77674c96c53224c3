use Rattle.step_rules.proofs.Meets.{meet_iff, conflict_met, conflict_ordered}
use Rattle.step_rules.proofs.conflict.conflicts.Goals as goal

pub returns-then-meets : goal.returns-then-meets
returns-then-meets c =
    conflict_met c.args.trap.now c.args.circuit.now c.args.a.now c.args.b.now c.meets.result
    (meet_iff c.args.trap.now c.args.a.now c.args.b.now c.footprint.result c.footprint-2.result c.meets.result c.footprint.ensures c.footprint-2.ensures c.meets.ensures)
    c.if-meets.true

pub returns-else-meets : goal.returns-else-meets
returns-else-meets c =
    conflict_ordered c.args.trap.now c.args.circuit.now c.args.a.now c.args.b.now c.meets.result c.are_ordered.result
    (meet_iff c.args.trap.now c.args.a.now c.args.b.now c.footprint.result c.footprint-2.result c.meets.result c.footprint.ensures c.footprint-2.ensures c.meets.ensures)
    c.are_ordered.ensures c.if-meets.false
