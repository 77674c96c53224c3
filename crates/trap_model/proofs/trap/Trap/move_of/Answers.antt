use Rattle.std.proofs.Common.{sym, ◌∙◌, ◌≡◌, ◌+◌}
use Rattle.std.proofs.lemmas.Bool.{eqb-true}
use Rattle.trap_model.specs.Channels.{is_move}
use Rattle.trap_model.proofs.Moves.{move_leads, no_move_from, no_move_to, no_move_apart}
use Rattle.trap_model.proofs.ReadTables.{no_number}
use Rattle.trap_model.proofs.trap.Trap.move_of.Goals as goal

pub returns-then-follows-clause-leads : goal.returns-then-follows-clause-leads
returns-then-follows-clause-leads c =
    let ahead : c.args.to.0 ≡ c.args.from.0 + 1 = eqb-true c.args.to.0 (c.args.from.0 + 1) (sym c.follows.ensures ∙ c.if-follows.true) in
    rw (c.in_ok-steps.ensures, ahead) (move_leads c.args.self.now c.args.from.0 (c.args.from.0 + 1))

pub returns-in_err-steps-clause-number : goal.returns-in_err-steps-clause-number
returns-in_err-steps-clause-number c =
    rw c.from_residual.ensures (sym (no_number c.args.self.now (is_move c.args.from.0 c.args.to.0) (move_leads c.args.self.now c.args.from.0 c.args.to.0 ∙ no_move_from c.args.self.now c.args.from.0 c.args.to.0 c.in_err-steps.ensures)))

pub returns-in_err-steps-clause-leads : goal.returns-in_err-steps-clause-leads
returns-in_err-steps-clause-leads c =
    rw c.from_residual.ensures (sym (no_move_from c.args.self.now c.args.from.0 c.args.to.0 c.in_err-steps.ensures))

pub returns-then-follows-2-clause-leads : goal.returns-then-follows-2-clause-leads
returns-then-follows-2-clause-leads c =
    let back : c.args.from.0 ≡ c.args.to.0 + 1 = eqb-true c.args.from.0 (c.args.to.0 + 1) (sym c.follows-2.ensures ∙ c.if-follows-2.true) in
    rw (c.in_ok-next.ensures, back) (move_leads c.args.self.now (c.args.to.0 + 1) c.args.to.0)

pub returns-in_err-next-clause-number : goal.returns-in_err-next-clause-number
returns-in_err-next-clause-number c =
    rw c.from_residual-in_err-next.ensures (sym (no_number c.args.self.now (is_move c.args.from.0 c.args.to.0) (move_leads c.args.self.now c.args.from.0 c.args.to.0 ∙ no_move_to c.args.self.now c.args.from.0 c.args.to.0 c.in_err-next.ensures)))

pub returns-in_err-next-clause-leads : goal.returns-in_err-next-clause-leads
returns-in_err-next-clause-leads c =
    rw c.from_residual-in_err-next.ensures (sym (no_move_to c.args.self.now c.args.from.0 c.args.to.0 c.in_err-next.ensures))

pub returns-clause-number : goal.returns-clause-number
returns-clause-number c =
    let none = no_move_apart c.args.self.now c.args.from.0 c.args.to.0 (sym c.follows.ensures ∙ c.if-follows.false) (sym c.follows-2.ensures ∙ c.if-follows-2.false) in
    sym (no_number c.args.self.now (is_move c.args.from.0 c.args.to.0) (move_leads c.args.self.now c.args.from.0 c.args.to.0 ∙ none))
