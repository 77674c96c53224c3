use Rattle.std.proofs.Common.{ap, ◌∙◌}
use Rattle.ion_chain.specs.Passing.{leaving, left, joined}
use Rattle.ion_chain.proofs.Passed.{joined-joined, leaving_in_parts}
use Rattle.ion_chain.proofs.laws.passing_in_parts.Goals as goal

pub returns-clause-target : goal.returns-clause-target
returns-clause-target c end into first later source target =
    joined-joined into (leaving end first source) (leaving end later (left end first source)) target ∙ ap (λ ions. joined into ions target) (leaving_in_parts end first later source)
