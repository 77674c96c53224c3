use Rattle.std.proofs.Common.{arith}
use Rattle.trap_parts.specs.Parts.{lists}
use Rattle.trap_parts.proofs.Known.{dock_known}
use Rattle.trap_model.proofs.layout.push_docks.Goals as goal

pub slot_end-slot-requires-clause-there : goal.slot_end-slot-requires-clause-there
slot_end-slot-requires-clause-there c =
    (dock_known (lists c.args.parts.now) c.args.links.now _ _ _ _ _ _ c.requires.links c.loop-link-test.true c.in-Dock.is).1

pub overflow_cast-zone : goal.overflow_cast-zone
overflow_cast-zone c =
    let zone = (dock_known (lists c.args.parts.now) c.args.links.now _ _ _ _ _ _ c.requires.links c.loop-link-test.true c.in-Dock.is).0 in
    omega (arith, zone, c.requires.trap.zones)
