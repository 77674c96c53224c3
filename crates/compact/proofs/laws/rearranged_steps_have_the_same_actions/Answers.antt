use Rattle.compact.proofs.Playing.{same_counts, same_members}
use Rattle.compact.proofs.laws.rearranged_steps_have_the_same_actions.Goals as goal

pub returns-clause-counts : goal.returns-clause-counts
returns-clause-counts c = same_counts

pub returns-clause-members : goal.returns-clause-members
returns-clause-members c = same_members
