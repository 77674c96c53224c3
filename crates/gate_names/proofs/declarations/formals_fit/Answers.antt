use Rattle.gate_names.specs.Noted.{noted}
use Rattle.gate_names.specs.Declarations.{formals_fit}
use Rattle.gate_names.proofs.Refusals.{gives_on}
use Rattle.gate_names.proofs.Formals.{formals_refused, formals_refused_later}
use Rattle.gate_names.proofs.declarations.formals_fit.Goals as goal

pub returns-in_err-note_names : goal.returns-in_err-note_names
returns-in_err-note_names c =
    gives_on c.from_residual.result c.in_err-note_names.field-0.0 c.note_names.new.seen (λ u. u) (noted c.new-seen.result c.args.params.now)
    (formals_fit c.args.params.now c.args.qubits.now) c.from_residual.ensures.1 c.in_err-note_names.ensures
    (λ e. formals_refused c.args.params.now c.args.qubits.now c.in_err-note_names.field-0.0 (rw c.new-seen.ensures at e))

pub returns-in_err-note_names-2 : goal.returns-in_err-note_names-2
returns-in_err-note_names-2 c =
    gives_on c.from_residual-in_err-note_names-2.result c.in_err-note_names-2.field-0.0 c.note_names-2.new.seen (λ u. u) (noted c.note_names.new.seen c.args.qubits.now)
    (formals_fit c.args.params.now c.args.qubits.now) c.from_residual-in_err-note_names-2.ensures.1 c.in_err-note_names-2.ensures
    (λ e. formals_refused_later c.args.params.now c.args.qubits.now c.in_err-note_names-2.field-0.0 c.note_names.new.seen (rw c.new-seen.ensures at c.in_ok-note_names.ensures) e)
