use Rattle.std.proofs.Common.{List, ℕ, subst}
use Rattle.run_stages.specs.Judging.{VerifyingText}
use Rattle.run_stages.proofs.Certified.{file_verified, file_refused}
use Rattle.run_stages.proofs.verified.verified_file.Goals as goal

pub returns-in-Ok-clause-verifies : goal.returns-in-Ok-clause-verifies
returns-in-Ok-clause-verifies g c =
    file_verified (g.S.Shelf.facts c.args.shelf.now) (g.S.Shelf.facts c.load.new.shelf) (g.S.Shelf.facts c.verified_text.new.shelf) c.args.schedule.now c.args.cert.now c.in-Ok.bytes c.args.inputs.now c.verified_text.result
    c.in-Ok.ensures.reads c.verified_text.ensures.reads c.in-Ok.ensures.loads
    (subst (λ (bytes : List ℕ). VerifyingText (g.S.Shelf.facts c.load.new.shelf) (g.S.Shelf.facts c.verified_text.new.shelf) c.args.cert.now c.args.inputs.now bytes c.verified_text.result) c.items.ensures c.verified_text.ensures.verifies)

pub returns-in-Err-clause-verifies : goal.returns-in-Err-clause-verifies
returns-in-Err-clause-verifies g c =
    file_refused (g.S.Shelf.facts c.args.shelf.now) (g.S.Shelf.facts c.load.new.shelf) c.args.schedule.now c.args.cert.now c.args.inputs.now c.in-Err.answer c.in-Err.ensures.loads
