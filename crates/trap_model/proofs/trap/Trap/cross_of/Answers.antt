use Rattle.std.proofs.Common.{arith, sym, ◌∙◌, ◌≤◌, length}
use Rattle.trap_parts.specs.Parts.{lists}
use Rattle.trap_model.specs.Channels.{is_cross}
use Rattle.trap_model.proofs.Count.{few_channels}
use Rattle.trap_model.proofs.Crosses.{cross_leads, no_cross_channel}
use Rattle.trap_model.proofs.ReadTables.{no_number}
use Rattle.trap_model.proofs.trap.Trap.cross_of.Goals as goal

pub cross_number-requires-clause-small : goal.cross_number-requires-clause-small
cross_number-requires-clause-small c =
    let few = few_channels (lists c.self.inside.parts) c.self.invariant.sound in
    rw (c.as_slice.ensures.value, c.self.invariant.all_channels) (omega (arith, few))

pub returns-clause-leads : goal.returns-clause-leads
returns-clause-leads c =
    rw (c.cross_number.ensures, c.as_slice.ensures.value, c.self.invariant.all_channels, ← c.self.view_is) (cross_leads (lists c.self.inside.parts) c.args.junction.0 c.args.from.0 c.args.to.0)

pub returns-in_err-passage-clause-number : goal.returns-in_err-passage-clause-number
returns-in_err-passage-clause-number c =
    let trap = lists c.self.inside.parts in
    let past : length c.self.inside.parts.junctions.items ≤ c.args.junction.0 = omega (arith, c.in_err-passage.ensures.lookup.3, c.deref.ensures.len, c.self.inside.passages.ok.0, c.self.invariant.of_junctions.count) in
    let none = no_cross_channel trap c.args.junction.0 c.args.from.0 c.args.to.0 past in
    rw (← c.self.view_is, c.from_residual.ensures) (sym (no_number trap (is_cross c.args.junction.0 c.args.from.0 c.args.to.0) (cross_leads trap c.args.junction.0 c.args.from.0 c.args.to.0 ∙ none)))

pub returns-in_err-passage-clause-leads : goal.returns-in_err-passage-clause-leads
returns-in_err-passage-clause-leads c =
    let trap = lists c.self.inside.parts in
    let past : length c.self.inside.parts.junctions.items ≤ c.args.junction.0 = omega (arith, c.in_err-passage.ensures.lookup.3, c.deref.ensures.len, c.self.inside.passages.ok.0, c.self.invariant.of_junctions.count) in
    rw (← c.self.view_is, c.from_residual.ensures) (sym (no_cross_channel trap c.args.junction.0 c.args.from.0 c.args.to.0 past))
