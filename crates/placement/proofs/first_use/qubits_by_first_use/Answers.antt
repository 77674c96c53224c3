use Rattle.std.proofs.Common.{◌≡◌, ◌+◌, ◌++◌, ◌∷◌, [], List, map, sym, ap, subst, ◌∙◌, arith, append_assoc}
use Rattle.std.specs.List.{flat_map, range_with_len}
use Rattle.std.proofs.lemmas.List.FromFn.{map-range_with_len_more}
use Rattle.qc_base.specs.declared.ids.Qubit.{Qubit}
use Rattle.placement.specs.Filling.{qubit_of}
use Rattle.placement.specs.FirstUse.{operands}
use Rattle.placement.specs.Orders.{AreUsed}
use Rattle.placement.proofs.first_use.qubits_by_first_use.Goals as goal

pub loop-number-preserved : goal.loop-number-preserved
loop-number-preserved c =
    let k = c.loop-number.number in
    let uses : List Qubit = flat_map operands c.args.circuit.now.ops in
    let so_far : List Qubit = map qubit_of (range_with_len 0 k) in
    let same : (uses ++ so_far) ++ qubit_of k ∷ [] ≡ uses ++ map qubit_of (range_with_len 0 (k + 1)) =
    append_assoc uses so_far (qubit_of k ∷ []) ∙ ap (λ (l : List Qubit). uses ++ l) (sym (map-range_with_len_more qubit_of 0 k k (omega arith))) in
    record {
      len = c.add.ensures.len ∙ c.loop-number.invariant.len;
      so_far = subst (AreUsed c.add.new.self.qubits.items c.add.new.self.used.items) same (c.in_ok-add.ensures.added (uses ++ so_far) c.loop-number.invariant.so_far);
    }
