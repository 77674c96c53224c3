use Rattle.std.proofs.Common.{arith, ap, ◌∙◌, length}
use Rattle.trap_model.specs.declared.tables.Doors.{Doors}
use Rattle.trap_parts.specs.Parts.{lists}
use Rattle.trap_model.specs.Channels.{channels_of}
use Rattle.trap_model.specs.Tables.{doors_of}
use Rattle.trap_model.proofs.ReadTables.{table_length, table_read}
use Rattle.trap_model.proofs.trap.Trap.door.Goals as goal

pub returns-in_err-doors : goal.returns-in_err-doors
returns-in_err-doors c =
    let trap = lists c.self.inside.parts in
    let count = table_length (doors_of (channels_of trap)) c.self.inside.doors.items (length trap.zones) c.self.invariant.of_zones in
    rw (← c.self.view_is, c.from_residual.ensures) (omega (arith, c.in_err-doors.ensures.lookup.3, ap length c.deref.ensures.value, count))

pub returns-in-A : goal.returns-in-A
returns-in-A c =
    let trap = lists c.self.inside.parts in
    let read = table_read (doors_of (channels_of trap)) c.deref.result.now (length trap.zones) c.args.zone.0 c.in_ok-doors.doors.now (c.deref.ensures.value ∙ c.self.invariant.of_zones) c.in_ok-doors.ensures.lookup.3.0 c.in_ok-doors.ensures.lookup.1 in
    rw (← c.self.view_is, c.in-A.is) (ap (λ (d : Doors). d.a) read)

pub returns-in-B : goal.returns-in-B
returns-in-B c =
    let trap = lists c.self.inside.parts in
    let read = table_read (doors_of (channels_of trap)) c.deref.result.now (length trap.zones) c.args.zone.0 c.in_ok-doors.doors.now (c.deref.ensures.value ∙ c.self.invariant.of_zones) c.in_ok-doors.ensures.lookup.3.0 c.in_ok-doors.ensures.lookup.1 in
    rw (← c.self.view_is, c.in-B.is) (ap (λ (d : Doors). d.b) read)
