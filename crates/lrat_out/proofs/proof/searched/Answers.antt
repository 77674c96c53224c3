use Rattle.std.specs.Prelude.{Err}
use Rattle.std.proofs.lemmas.List.Sorted.{searched}
use Rattle.lrat_out.proofs.Numbers.{in_order, none_found}
use Rattle.lrat_out.proofs.proof.searched.Goals as goal

pub returns-in-Err-clause-none : goal.returns-in-Err-clause-none
returns-in-Err-clause-none c =
    let between = searched c.args.numbers.now c.args.number (Err c.in-Err.field-0) c.in-Err.ensures.position (in_order c.args.above c.args.numbers.now c.requires) in
    none_found c.args.numbers.now c.args.number c.in-Err.field-0 between.1 between.2
