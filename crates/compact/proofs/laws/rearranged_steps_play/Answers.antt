use Rattle.compact.proofs.Playing.{rearranged_plays}
use Rattle.compact.proofs.laws.rearranged_steps_play.Goals as goal

pub returns : goal.returns
returns c = rearranged_plays
