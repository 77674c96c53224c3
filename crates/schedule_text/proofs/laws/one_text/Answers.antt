use Rattle.schedule_text.proofs.Codes.{one_pair}
use Rattle.schedule_text.proofs.laws.one_text.Goals as goal

pub returns : goal.returns
returns c trap circuit placement other steps more bytes right sound spells also = one_pair trap circuit placement other steps more bytes right sound spells also
