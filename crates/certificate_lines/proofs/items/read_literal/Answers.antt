use Rattle.std.proofs.Common.{◌≡◌, ℕ, ◌<◌, ◌≤◌, ◌⊎◌, inl, inr, Some, ap, sym, ◌∙◌, arith}
use Rattle.sat_base.specs.Literal.{Literal}
use Rattle.certificate_lines.proofs.Spelled.{end_of_literals, reads_as}
use Rattle.certificate_lines.proofs.items.read_literal.Goals as goal

pub returns-in-Some-clause-only : goal.returns-in-Some-clause-only
returns-in-Some-clause-only c = λ item rest may e. end_of_literals c.args.vars item c.args.bytes.now c.in-Some.rest.now rest c.requires c.in-Some.ensures.found may e

pub returns-in_err-var-clause-only : goal.returns-in_err-var-clause-only
returns-in_err-var-clause-only c = λ item rest may e.
    let r = reads_as c.args.vars item c.args.bytes.now c.unsigned-positive.result.1.now rest c.unsigned-positive.result.0 c.requires c.in_default.ensures.only c.unsigned-positive.ensures.only may e in
    absurd (c.in_err-var.ensures.only r.literal.var rest (omega (arith, r.within, c.requires)) r.digits_are)

pub returns-then-var-vars-clause-only : goal.returns-then-var-vars-clause-only
returns-then-var-vars-clause-only c = λ item rest may e.
    let r = reads_as c.args.vars item c.args.bytes.now c.unsigned-positive.result.1.now rest c.unsigned-positive.result.0 c.requires c.in_default.ensures.only c.unsigned-positive.ensures.only may e in
    let read = c.in_ok-var.ensures.only r.literal.var rest (omega (arith, r.within, c.requires)) r.digits_are in
    let same : c.new.result ≡ r.literal = c.new.ensures ∙ (λ i. record { var = read.0 i; positive = r.sign i }) in
    (ap (λ (l : Literal). Some l) same ∙ sym r.is, read.1)

not_between : (var vars number : ℕ) → ((1 ≤ var) × (vars < var)) ⊎ (var < 1) → var ≡ number → 1 ≤ number → number ≤ vars → ⊥
not_between var vars number (inl h) e low high = let over = h.1 in omega arith
not_between var vars number (inr h) e low high = omega arith

pub returns-else-var-ge1-clause-only : goal.returns-else-var-ge1-clause-only
returns-else-var-ge1-clause-only c = λ item rest may e.
    let r = reads_as c.args.vars item c.args.bytes.now c.unsigned-positive.result.1.now rest c.unsigned-positive.result.0 c.requires c.in_default.ensures.only c.unsigned-positive.ensures.only may e in
    let read = c.in_ok-var.ensures.only r.literal.var rest (omega (arith, r.within, c.requires)) r.digits_are in
    not_between c.in_ok-var.var c.args.vars r.literal.var c.else-var-ge1.either read.0 r.from_1 r.within
