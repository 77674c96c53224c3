use Rattle.std.proofs.Common.{◌≡◌, ℕ, length, Some, None, Ok, Err, sym, ap, subst, ◌∙◌, arith}
use Rattle.std.specs.Prelude.{Result}
use Rattle.step_rules.specs.Setting.{setting_of}
use Rattle.verify_core.specs.declared.verify_fault.VerifyFault.{VerifyFault}
use Rattle.verify_core.specs.Faults.{of_check}
use Rattle.verify_core.specs.Verifying.{too_large, IsWithinLimits, VerifiesUnlessFailed, IsAnswerUnlessFailed, IsLeastText}
use Rattle.verify_core.specs.Reading.{JudgedContent, JudgedUnlessFailed}
use Rattle.verify_core.proofs.Verdicts.{within_limits}
use Rattle.verify_core.proofs.Answering.{check_exact, too_large_answer, too_large_exact, too_large_not_failed, handed_answer, verified, ok_answer, ok_exact, fault_answer, fault_exact}
use Rattle.verify_core.proofs.verification.verify.Goals as goal

pub returns-in_err-checked-clause-exact : goal.returns-in_err-checked-clause-exact
returns-in_err-checked-clause-exact g c = λ bytes said known content has.
    let trap = c.args.trap.now in
    let circuit = c.args.circuit.now in
    let text = c.args.text.now in
    let fault = c.in_err-checked.field-0.0 in
    handed_answer (λ (it : Result ℕ VerifyFault). IsAnswerUnlessFailed said it) c.from_residual.result (of_check fault) c.from_residual.ensures.1
    (check_exact trap circuit text bytes said fault (c.one_judgement.ensures trap circuit text) c.in_err-checked.ensures.judged has)

pub returns-in-Some-clause-verifies : goal.returns-in-Some-clause-verifies
returns-in-Some-clause-verifies g c =
    let shelf = g.S.Shelf.facts c.args.shelf.now in
    let name = c.args.cert.now in
    let trap = c.args.trap.now in
    let circuit = c.args.circuit.now in
    let text = c.args.text.now in
    let checked = c.in_ok-checked.checked in
    let setting = setting_of trap circuit checked.placement in
    let legal = c.in_ok-checked.ensures.judged in
    let steps : length c.steps.result.now ≡ length checked.schedule = ap length c.steps.ensures in
    let excess : too_large setting (length checked.schedule) ≡ Some c.in-Some.fault = ap (too_large setting) (sym steps) ∙ sym (c.in-Some.ensures.excess checked.placement) in
    too_large_answer shelf name trap circuit text checked c.in-Some.fault legal excess

pub returns-in-Some-clause-exact : goal.returns-in-Some-clause-exact
returns-in-Some-clause-exact g c = λ bytes said known content has.
    let trap = c.args.trap.now in
    let circuit = c.args.circuit.now in
    let text = c.args.text.now in
    let checked = c.in_ok-checked.checked in
    let setting = setting_of trap circuit checked.placement in
    let legal = c.in_ok-checked.ensures.judged in
    let steps : length c.steps.result.now ≡ length checked.schedule = ap length c.steps.ensures in
    let excess : too_large setting (length checked.schedule) ≡ Some c.in-Some.fault = ap (too_large setting) (sym steps) ∙ sym (c.in-Some.ensures.excess checked.placement) in
    too_large_exact trap circuit text bytes said checked c.in-Some.fault (c.one_judgement.ensures trap circuit text) legal excess has

pub returns-in-Some-clause-failed : goal.returns-in-Some-clause-failed
returns-in-Some-clause-failed g c = λ failed.
    let shelf = g.S.Shelf.facts c.args.shelf.now in
    let name = c.args.cert.now in
    let trap = c.args.trap.now in
    let circuit = c.args.circuit.now in
    let text = c.args.text.now in
    let checked = c.in_ok-checked.checked in
    let setting = setting_of trap circuit checked.placement in
    let legal = c.in_ok-checked.ensures.judged in
    let steps : length c.steps.result.now ≡ length checked.schedule = ap length c.steps.ensures in
    let excess : too_large setting (length checked.schedule) ≡ Some c.in-Some.fault = ap (too_large setting) (sym steps) ∙ sym (c.in-Some.ensures.excess checked.placement) in
    absurd (too_large_not_failed setting (length checked.schedule) c.in-Some.fault excess failed)

pub overflow_cast-minimum : goal.overflow_cast-minimum
overflow_cast-minimum g c =
    let shelf = g.S.Shelf.facts c.args.shelf.now in
    let name = c.args.cert.now in
    let trap = c.args.trap.now in
    let circuit = c.args.circuit.now in
    let text = c.args.text.now in
    let checked = c.in_ok-checked.checked in
    let setting = setting_of trap circuit checked.placement in
    let legal = c.in_ok-checked.ensures.judged in
    let steps : length c.steps.result.now ≡ length checked.schedule = ap length c.steps.ensures in
    let none : too_large setting (length checked.schedule) ≡ None = ap (too_large setting) (sym steps) ∙ sym (c.in-None.ensures.excess checked.placement) in
    let within : IsWithinLimits trap circuit text checked = record { legal = legal; small = none } in
    let small = within_limits setting (length checked.schedule) none in
    omega (arith, small.time, steps)

pub invariant_of-minimum : goal.invariant_of-minimum
invariant_of-minimum g c =
    let shelf = g.S.Shelf.facts c.args.shelf.now in
    let name = c.args.cert.now in
    let trap = c.args.trap.now in
    let circuit = c.args.circuit.now in
    let text = c.args.text.now in
    let checked = c.in_ok-checked.checked in
    let setting = setting_of trap circuit checked.placement in
    let legal = c.in_ok-checked.ensures.judged in
    let steps : length c.steps.result.now ≡ length checked.schedule = ap length c.steps.ensures in
    record {
      trap = c.in-None.ensures.trap;
      circuit = c.in-None.ensures.circuit;
      placement = legal.text.spells.placed;
      small = within_limits setting (length c.steps.result.now) (sym (c.in-None.ensures.excess checked.placement));
    }

pub returns-in_err-check_certificate-in-None-clause-verifies : goal.returns-in_err-check_certificate-in-None-clause-verifies
returns-in_err-check_certificate-in-None-clause-verifies g c =
    let shelf = g.S.Shelf.facts c.args.shelf.now in
    let name = c.args.cert.now in
    let trap = c.args.trap.now in
    let circuit = c.args.circuit.now in
    let text = c.args.text.now in
    let checked = c.in_ok-checked.checked in
    let setting = setting_of trap circuit checked.placement in
    let legal = c.in_ok-checked.ensures.judged in
    let steps : length c.steps.result.now ≡ length checked.schedule = ap length c.steps.ensures in
    let none : too_large setting (length checked.schedule) ≡ None = ap (too_large setting) (sym steps) ∙ sym (c.in-None.ensures.excess checked.placement) in
    let within : IsWithinLimits trap circuit text checked = record { legal = legal; small = none } in
    let fault = c.in_err-check_certificate-in-None.field-0.0 in
    handed_answer (λ (it : Result ℕ VerifyFault). VerifiesUnlessFailed shelf name trap circuit text it) c.from_residual-in_err-check_certificate-in-None.result fault
    c.from_residual-in_err-check_certificate-in-None.ensures.1
    (fault_answer shelf name trap circuit text checked fault within
    (subst (λ (n : ℕ). JudgedUnlessFailed shelf name setting n (Err fault)) steps c.in_err-check_certificate-in-None.ensures.judged))

pub returns-in_err-check_certificate-in-None-clause-exact : goal.returns-in_err-check_certificate-in-None-clause-exact
returns-in_err-check_certificate-in-None-clause-exact g c = λ bytes said known content has.
    let shelf = g.S.Shelf.facts c.args.shelf.now in
    let name = c.args.cert.now in
    let trap = c.args.trap.now in
    let circuit = c.args.circuit.now in
    let text = c.args.text.now in
    let checked = c.in_ok-checked.checked in
    let setting = setting_of trap circuit checked.placement in
    let legal = c.in_ok-checked.ensures.judged in
    let steps : length c.steps.result.now ≡ length checked.schedule = ap length c.steps.ensures in
    let none : too_large setting (length checked.schedule) ≡ None = ap (too_large setting) (sym steps) ∙ sym (c.in-None.ensures.excess checked.placement) in
    let within : IsWithinLimits trap circuit text checked = record { legal = legal; small = none } in
    let fault = c.in_err-check_certificate-in-None.field-0.0 in
    handed_answer (λ (it : Result ℕ VerifyFault). IsAnswerUnlessFailed said it) c.from_residual-in_err-check_certificate-in-None.result fault
    c.from_residual-in_err-check_certificate-in-None.ensures.1
    (fault_exact shelf name trap circuit text bytes said checked fault (c.one_judgement.ensures trap circuit text) within
    (subst (λ (n : ℕ). JudgedUnlessFailed shelf name setting n (Err fault)) steps c.in_err-check_certificate-in-None.ensures.judged) known content has)

pub overflow_cast-result : goal.overflow_cast-result
overflow_cast-result g c =
    let shelf = g.S.Shelf.facts c.args.shelf.now in
    let name = c.args.cert.now in
    let trap = c.args.trap.now in
    let circuit = c.args.circuit.now in
    let text = c.args.text.now in
    let checked = c.in_ok-checked.checked in
    let setting = setting_of trap circuit checked.placement in
    let legal = c.in_ok-checked.ensures.judged in
    let steps : length c.steps.result.now ≡ length checked.schedule = ap length c.steps.ensures in
    let none : too_large setting (length checked.schedule) ≡ None = ap (too_large setting) (sym steps) ∙ sym (c.in-None.ensures.excess checked.placement) in
    let within : IsWithinLimits trap circuit text checked = record { legal = legal; small = none } in
    let small = within_limits setting (length checked.schedule) none in
    omega (arith, small.time, steps)

pub returns-clause-verifies : goal.returns-clause-verifies
returns-clause-verifies g c =
    let shelf = g.S.Shelf.facts c.args.shelf.now in
    let name = c.args.cert.now in
    let trap = c.args.trap.now in
    let circuit = c.args.circuit.now in
    let text = c.args.text.now in
    let checked = c.in_ok-checked.checked in
    let setting = setting_of trap circuit checked.placement in
    let legal = c.in_ok-checked.ensures.judged in
    let steps : length c.steps.result.now ≡ length checked.schedule = ap length c.steps.ensures in
    let none : too_large setting (length checked.schedule) ≡ None = ap (too_large setting) (sym steps) ∙ sym (c.in-None.ensures.excess checked.placement) in
    let within : IsWithinLimits trap circuit text checked = record { legal = legal; small = none } in
    let judged : JudgedContent shelf name setting (length checked.schedule) (Ok tt) = subst (λ (n : ℕ). JudgedContent shelf name setting n (Ok tt)) steps c.in_ok-check_certificate-in-None.ensures.judged in
    subst (λ (n : ℕ). VerifiesUnlessFailed shelf name trap circuit text (Ok n)) (sym steps) (ok_answer shelf name trap circuit text checked within judged)

pub returns-clause-exact : goal.returns-clause-exact
returns-clause-exact g c = λ bytes said known content has.
    let shelf = g.S.Shelf.facts c.args.shelf.now in
    let name = c.args.cert.now in
    let trap = c.args.trap.now in
    let circuit = c.args.circuit.now in
    let text = c.args.text.now in
    let checked = c.in_ok-checked.checked in
    let setting = setting_of trap circuit checked.placement in
    let legal = c.in_ok-checked.ensures.judged in
    let steps : length c.steps.result.now ≡ length checked.schedule = ap length c.steps.ensures in
    let none : too_large setting (length checked.schedule) ≡ None = ap (too_large setting) (sym steps) ∙ sym (c.in-None.ensures.excess checked.placement) in
    let within : IsWithinLimits trap circuit text checked = record { legal = legal; small = none } in
    let judged : JudgedContent shelf name setting (length checked.schedule) (Ok tt) = subst (λ (n : ℕ). JudgedContent shelf name setting n (Ok tt)) steps c.in_ok-check_certificate-in-None.ensures.judged in
    subst (λ (n : ℕ). IsAnswerUnlessFailed said (Ok n)) (sym steps)
    (ok_exact shelf name trap circuit text bytes said checked (c.one_judgement.ensures trap circuit text) within judged known content has)

pub returns-clause-least : goal.returns-clause-least
returns-clause-least g c =
    let shelf = g.S.Shelf.facts c.args.shelf.now in
    let name = c.args.cert.now in
    let trap = c.args.trap.now in
    let circuit = c.args.circuit.now in
    let text = c.args.text.now in
    let checked = c.in_ok-checked.checked in
    let setting = setting_of trap circuit checked.placement in
    let legal = c.in_ok-checked.ensures.judged in
    let steps : length c.steps.result.now ≡ length checked.schedule = ap length c.steps.ensures in
    let none : too_large setting (length checked.schedule) ≡ None = ap (too_large setting) (sym steps) ∙ sym (c.in-None.ensures.excess checked.placement) in
    let within : IsWithinLimits trap circuit text checked = record { legal = legal; small = none } in
    let judged : JudgedContent shelf name setting (length checked.schedule) (Ok tt) = subst (λ (n : ℕ). JudgedContent shelf name setting n (Ok tt)) steps c.in_ok-check_certificate-in-None.ensures.judged in
    subst (IsLeastText trap circuit text) (sym steps)
    (c.accepted_schedules_are_least.ensures trap circuit text judged.bytes (length checked.schedule) c.in-None.ensures.trap c.in-None.ensures.circuit (verified shelf name trap circuit text checked within judged))
