use Rattle.std.proofs.Common.{arith}
use Rattle.std.proofs.lemmas.List.Elements.{Contains-get_or}
use Rattle.gate_order.specs.Keeping.{op}
use Rattle.language_tests.proofs.tests.ready.perform.Goals as goal

pub done-requires : goal.done-requires
done-requires g c =
    (c.ready-waiting.ensures.each _).0 (Contains-get_or c.ready-waiting.result.now c.args.index (op 0) (omega arith))
