use Rattle.std.proofs.Common.{◌==◌, ap, sym, ◌∙◌}
use Rattle.qc_base.specs.declared.ids.Qubit.{Qubit}
use Rattle.std.proofs.lemmas.Bool.{eq-eqb, ne_eqb}
use Rattle.circuit_core.specs.Op.{qubits_of}
use Rattle.step_rules.specs.Placement.{ion_of}
use Rattle.clause_families.proofs.Ranges.{any_true, any_false}
use Rattle.clause_families.proofs.lists.carries.Goals as goal

pub returns-then-ion-carrier : goal.returns-then-ion-carrier
returns-then-ion-carrier c =
    let p = λ (qubit : Qubit). c.args.ion == (ion_of c.args.placement.now qubit).0 in
    let there = eq-eqb c.args.ion c.ion_of-carrier.result.0 c.if-ion-carrier.true in
    any_true p (qubits_of c.args.op.now) c.loop-index.index c.qubit.result c.qubit.ensures (sym (ap (λ ion. c.args.ion == ion.0) c.ion_of-carrier.ensures.ion) ∙ there) ∙ sym c.loop-index.invariant

pub loop-index-preserved : goal.loop-index-preserved
loop-index-preserved c =
    let p = λ (qubit : Qubit). c.args.ion == (ion_of c.args.placement.now qubit).0 in
    let other = ne_eqb c.args.ion c.ion_of-carrier.result.0 c.if-ion-carrier.false in
    c.loop-index.invariant ∙ any_false p (qubits_of c.args.op.now) c.loop-index.index c.qubit.result c.qubit.ensures (sym (ap (λ ion. c.args.ion == ion.0) c.ion_of-carrier.ensures.ion) ∙ other)
