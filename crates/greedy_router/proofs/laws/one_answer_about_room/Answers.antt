use Rattle.greedy_router.proofs.RoomAnswers.{one_answer}
use Rattle.greedy_router.proofs.laws.one_answer_about_room.Goals as goal

pub returns : goal.returns
returns c = one_answer
