-- ---- working notions of private functions: the lines of a certificate that is put
use Rattle.std.specs.Prelude.{ℕ, ◌<◌, ◌^◌, length}
use Rattle.sat_base.specs.declared.certificate.Head.{Head}
use Rattle.sat_base.specs.Certificate.{certificate_text}
use Rattle.derivation_log.specs.Log.{Lines}
use Rattle.derivation_log.specs.Printing.{Covers, first_lines}

-- a log has these lines, and their text can be counted by 64 bits
pub record IsPrintable (log : Lines) (head : Head) (axioms lines : ℕ) : Type 0 where
  pub covers : Covers log axioms lines
  pub few : length (certificate_text head axioms (first_lines log axioms lines)) < 2 ^ 64
