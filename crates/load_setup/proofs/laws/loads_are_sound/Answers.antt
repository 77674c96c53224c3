use Rattle.std.proofs.Common.{refl}
use Rattle.trap_parts.proofs.Sound.{built_trap}
use Rattle.load_setup.specs.Setup.{generated_trap}
use Rattle.load_setup.proofs.Sound.{generated_is_built, generated_is_circuit, names_are_names}
use Rattle.load_setup.proofs.laws.loads_are_sound.Goals as goal

pub returns-clause-built : goal.returns-clause-built
returns-clause-built c = generated_is_built

pub returns-clause-trap : goal.returns-clause-trap
returns-clause-trap c = built_trap generated_trap generated_trap (names_are_names generated_trap refl) generated_is_built

pub returns-clause-circuit : goal.returns-clause-circuit
returns-clause-circuit c = generated_is_circuit
