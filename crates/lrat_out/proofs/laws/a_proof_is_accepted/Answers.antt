use Rattle.std.proofs.Common.{◌≡◌, ℕ, List, inl, inr, sym, ap, ◌∙◌, subst}
use Rattle.std.specs.Prelude.{Ok}
use Rattle.std.proofs.lemmas.List.{append-nil}
use Rattle.lrat_out.specs.Lines.{lrat_text}
use Rattle.lrat_out.specs.Faults.{Answers}
use Rattle.lrat_out.proofs.OneReading.{one_answer}
use Rattle.lrat_out.proofs.laws.a_proof_is_accepted.Goals as goal

pub returns : goal.returns
returns c = λ task text count answer few proof said.
    let whole : text ≡ lrat_text proof.lines = proof.reads.text ∙ append-nil (lrat_text proof.lines) in
    elim (one_answer task proof.lines answer few proof.reads.accepted proof.empty (subst (λ (xs : List ℕ). Answers task xs answer) whole said)) [
      | inl e ↦ inl (e ∙ ap (λ (n : ℕ). Ok n) (sym proof.counted))
      | inr e ↦ inr e
    ]
