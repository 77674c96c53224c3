use Rattle.schedule_text.proofs.ShortTexts.{short_text}
use Rattle.schedule_text.proofs.laws.small_schedules_have_short_texts.Goals as goal

pub returns : goal.returns
returns c = short_text
