use Rattle.std.proofs.Common.{◌≡◌, ◌≤◌, List, length, Ok, ap, sym, ◌∙◌}
use Rattle.std.proofs.lemmas.List.{at_drop_all}
use Rattle.qasm_read.specs.declared.statement.Placed.{Placed}
use Rattle.gate_expand.specs.Program.{start, statements_done}
use Rattle.gate_expand.proofs.SoundProgram.{expanded_sound}
use Rattle.gate_expand.proofs.expansion.expand.Goals as goal

pub finish-requires : goal.finish-requires
finish-requires c =
    let end : length c.items-placed-items.result.now ≤ c.loop-placed.placed-index = c.loop-placed-test.false in
    let done : statements_done c.args.program.now start ≡ Ok c.loop-placed.expansion =
    sym c.loop-placed.invariant
    ∙ ap (λ (rest : List Placed). statements_done rest c.loop-placed.expansion)
    (at_drop_all (λ (rest : List Placed). rest) c.items-placed-items.result.now c.loop-placed.placed-index end) in
    expanded_sound c.args.program.now c.loop-placed.expansion c.requires done
