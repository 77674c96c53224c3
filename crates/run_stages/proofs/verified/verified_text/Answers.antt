use Rattle.std.proofs.Common.{◌∙◌}
use Rattle.run_stages.proofs.Certified.{verified_ok, verified_none, verified_err, verified_counts, ap_err}
use Rattle.run_stages.proofs.verified.verified_text.Goals as goal

pub returns-in-Ok-least_line-clause-verifies : goal.returns-in-Ok-least_line-clause-verifies
returns-in-Ok-least_line-clause-verifies g c =
    verified_ok (g.S.Shelf.facts c.args.shelf.now) (g.S.Shelf.facts c.verify.new.shelf) c.args.cert.now c.args.inputs.now c.args.bytes.now c.from_vec.result c.in-Ok.steps c.written.result
    c.in-Ok.ensures.verifies c.in-Ok.ensures.exact (c.from_vec.ensures ∙ c.in-Ok-least_line.ensures) c.written.ensures

pub returns-in-Err-least_line-clause-verifies : goal.returns-in-Err-least_line-clause-verifies
returns-in-Err-least_line-clause-verifies g c =
    verified_none (g.S.Shelf.facts c.args.shelf.now) (g.S.Shelf.facts c.verify.new.shelf) c.args.cert.now c.args.inputs.now c.args.bytes.now

pub returns-in-Err-clause-verifies : goal.returns-in-Err-clause-verifies
returns-in-Err-clause-verifies g c =
    verified_err (g.S.Shelf.facts c.args.shelf.now) (g.S.Shelf.facts c.verify.new.shelf) c.args.cert.now c.args.inputs.now c.args.bytes.now c.in-Err.fault c.verify_refusal.result
    c.in-Err.ensures.verifies c.in-Err.ensures.exact (λ e. c.in-Err.ensures.failed (ap_err c.in-Err.fault e)) c.verify_refusal.ensures.answer

pub returns-in-Err-clause-counts : goal.returns-in-Err-clause-counts
returns-in-Err-clause-counts g c =
    verified_counts c.args.cert.now (g.S.Shelf.facts c.args.shelf.now) (g.S.Shelf.facts c.verify.new.shelf) c.in-Err.fault c.verify_refusal.result
    c.in-Err.ensures.stays (λ e. c.in-Err.ensures.failed (ap_err c.in-Err.fault e)) c.verify_refusal.ensures.answer
