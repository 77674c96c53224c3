use Rattle.compact.proofs.Playing.{serial_of}
use Rattle.compact.proofs.laws.playing_lists_are_serial.Goals as goal

pub returns : goal.returns
returns c = serial_of
