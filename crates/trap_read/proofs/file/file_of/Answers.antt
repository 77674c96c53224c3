use Rattle.std.proofs.lemmas.Result.{IfOk-at_ok}
use Rattle.trap_parts.specs.Parts.{names_of}
use Rattle.trap_parts.specs.Build.{AreNames}
use Rattle.trap_read.proofs.Named.{parts_ok}
use Rattle.trap_read.proofs.file.file_of.Goals as goal

pub built-requires : goal.built-requires
built-requires c = IfOk-at_ok (λ parts. AreNames (names_of parts)) c.in_ok-parts.ensures (parts_ok _)
