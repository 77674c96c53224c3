use Rattle.run_answers.proofs.Writing.{name_put}
use Rattle.run_answers.proofs.piece.put_name.Goals as goal

pub returns-clause-text : goal.returns-clause-text
returns-clause-text c =
    name_put c.args.name.now c.loop-place.buffer c.loop-place.place c.min-count.result c.loop-place.invariant c.loop-place-test.false c.loop-place.auto.place-end c.min-count.ensures
