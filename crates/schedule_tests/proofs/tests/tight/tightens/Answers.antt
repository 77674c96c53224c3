use Rattle.std.proofs.Common.{rules}
use Rattle.schedule_tests.proofs.tests.tight.tightens.Goals as goal

pub tighten-requires : goal.tighten-requires
tighten-requires g c = record { legal = c.in_ok-legal.ensures (search rules); in_order = c.in_order-ordered.ensures (search rules) }
