use Rattle.std.proofs.Common.{sym, ap, ◌∙◌, ◌≡◌, None}
use Rattle.std.specs.Option.{option_map}
use Rattle.trap_model.specs.Channels.{split, is_split, split_channel}
use Rattle.trap_model.proofs.Docks.{split_leads}
use Rattle.trap_model.proofs.ReadTables.{no_joined, no_number}
use Rattle.trap_model.proofs.trap.Trap.split_at.Goals as goal

pub returns-clause-leads : goal.returns-clause-leads
returns-clause-leads c = rw c.in_ok-door.ensures (split_leads c.args.self.now c.args.zone.0 c.args.«end»)

pub returns-in_err-door-clause-number : goal.returns-in_err-door-clause-number
returns-in_err-door-clause-number c =
    let none : split_channel c.args.self.now c.args.zone.0 c.args.«end» ≡ None = ap (option_map (split c.args.zone.0 c.args.«end»)) (no_joined c.args.self.now c.args.zone.0 c.args.«end» c.in_err-door.ensures) in
    rw c.from_residual.ensures (sym (no_number c.args.self.now (is_split c.args.zone.0 c.args.«end») (split_leads c.args.self.now c.args.zone.0 c.args.«end» ∙ none)))

pub returns-in_err-door-clause-leads : goal.returns-in_err-door-clause-leads
returns-in_err-door-clause-leads c =
    let none : split_channel c.args.self.now c.args.zone.0 c.args.«end» ≡ None = ap (option_map (split c.args.zone.0 c.args.«end»)) (no_joined c.args.self.now c.args.zone.0 c.args.«end» c.in_err-door.ensures) in
    rw c.from_residual.ensures (sym none)
