use Rattle.std.proofs.Common.{◌≡◌, drop}
use Rattle.circuit_core.specs.Label.{label_in}
use Rattle.circuit_core.proofs.label.push_label.Given as goal

abbrev pub invariant-loop-reg : goal.invariant-loop-reg
invariant-loop-reg l = record {
  out : l.out.items ≡ l.fn.out.items;
  label : label_in (drop l.reg-index l.regs) l.index ≡ label_in l.regs l.number;
}
