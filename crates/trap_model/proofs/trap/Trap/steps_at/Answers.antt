use Rattle.std.proofs.Common.{arith, ap, ◌∙◌, length}
use Rattle.trap_parts.specs.Parts.{lists}
use Rattle.trap_model.specs.Trap.{place_count}
use Rattle.trap_model.specs.Channels.{channels_of}
use Rattle.trap_model.specs.Tables.{steps_of}
use Rattle.trap_model.proofs.ReadTables.{table_length, table_read}
use Rattle.trap_model.proofs.trap.Trap.steps_at.Goals as goal

pub returns : goal.returns
returns c =
    let trap = lists c.self.inside.parts in
    rw (← c.self.view_is) (table_read (steps_of (channels_of trap)) c.deref.result.now (place_count trap) c.args.place c.in_ok-steps.steps.now (c.deref.ensures.value ∙ c.self.invariant.of_places) c.in_ok-steps.ensures.lookup.3.0 c.in_ok-steps.ensures.lookup.1)

pub returns-in_err-steps : goal.returns-in_err-steps
returns-in_err-steps c =
    let trap = lists c.self.inside.parts in
    let count = table_length (steps_of (channels_of trap)) c.self.inside.steps.items (place_count trap) c.self.invariant.of_places in
    rw (← c.self.view_is, c.from_residual.ensures) (omega (arith, c.in_err-steps.ensures.lookup.3, ap length c.deref.ensures.value, count))
