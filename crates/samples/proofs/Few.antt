-- Few operations with few nodes in each, and two registers with two names.
use Rattle.std.proofs.Common.{◌≢◌, ◌*◌, ◌≤◌, List, zero, suc, ◌∷◌, [], length, refl, sym, ap, ◌∙◌, arith, All}
use Rattle.std.proofs.lemmas.Option.{none-some, same_Some}
use Rattle.circuit_core.specs.declared.circuit.Reg.{Reg}
use Rattle.circuit_core.specs.declared.op.Op.{Op}
use Rattle.circuit_core.specs.Op.{angles_of}
use Rattle.circuit_core.specs.Circuit.{HaveNamesOfTheirOwn, nodes_in, all_nodes}

pub few_nodes : (ops : List Op) → All (λ op. nodes_in (angles_of op) ≤ 3) ops → all_nodes ops ≤ 3 * length ops
few_nodes [] h = omega arith
few_nodes (op ∷ ops) h =
    let first : nodes_in (angles_of op) ≤ 3 = h 0 op (omega arith) in
    let rest : all_nodes ops ≤ 3 * length ops = few_nodes ops
    (λ k d below. h (suc k) d (omega (arith, below))) in
    omega (arith, first, rest)

pub two_names : (a b : Reg) → a.name ≢ b.name → HaveNamesOfTheirOwn (a ∷ b ∷ [])
two_names a b other zero zero first second at also same = refl
two_names a b other zero (suc zero) first second at also same =
    absurd (other (ap (λ (r : Reg). r.name) (same_Some a first at)
    ∙ same ∙ sym (ap (λ (r : Reg). r.name) (same_Some b second also))))
two_names a b other zero (suc (suc j)) first second at also same = absurd (none-some second also)
two_names a b other (suc zero) zero first second at also same =
    absurd (other (ap (λ (r : Reg). r.name) (same_Some a second also)
    ∙ sym same ∙ sym (ap (λ (r : Reg). r.name) (same_Some b first at))))
two_names a b other (suc zero) (suc zero) first second at also same = refl
two_names a b other (suc zero) (suc (suc j)) first second at also same = absurd (none-some second also)
two_names a b other (suc (suc i)) j first second at also same = absurd (none-some first at)
