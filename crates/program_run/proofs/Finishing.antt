-- How a run ends: what is put and written.
use Rattle.std.proofs.Common.{◌≡◌, ◌≢◌, ◌⊎◌, ℕ, List, Option, refl, sym, ◌∙◌, subst, inl, inr}
use Rattle.std.specs.Prelude.{IsTrue, true, false}
use Rattle.std.proofs.lemmas.Bool.{false≢true}
use Rattle.qc_base.specs.Shelf.{ShelfFacts, SameCounts}
use Rattle.run_answers.specs.declared.answer.Answer.{Answer}
use Rattle.run_answers.specs.declared.answer.Answer.TheVariants as answers
use Rattle.run_stages.specs.declared.ending.Ending.{Ending}
use Rattle.run_stages.specs.Found.{FailsToPut}
use Rattle.program_run.specs.Run.{SinkFacts, devices, Holds, KeepsFiles}
use Rattle.run_stages.specs.Kinds.{ends_search}
use Rattle.program_run.specs.Preparing.{IsEnd, IsWritten, IsFinished}

-- ---- answers

no_true : IsTrue false → ⊥
no_true is = let e : false ≡ true = is in false≢true e

-- an end is no lack of memory
end_has_memory : (answer : Answer) → IsEnd answer → answer ≢ answers.NoMemory
end_has_memory answer (inl ok) e = cc
end_has_memory answer (inr search) e = no_true (subst (λ (a : Answer). IsTrue (ends_search a)) e search)

no_memory_fault : answers.NoMemory ≢ answers.WriteFault
no_memory_fault e = cc

written_has_memory : (ending : Ending) (answer : Answer) → IsEnd ending.answer → (answer ≡ ending.answer) ⊎ (answer ≡ answers.WriteFault) → answer ≢ answers.NoMemory
written_has_memory ending answer is_end (inl same) none = end_has_memory ending.answer is_end (sym same ∙ none)
written_has_memory ending answer is_end (inr cut) none = no_memory_fault (sym none ∙ cut)

-- ---- what was put and written

-- what was put stands, and then the text was written, or not whole
pub finished_ok : (name : Option (List ℕ)) (ending : Ending) (before now : ShelfFacts) (out_before out_now err err_now : SinkFacts) (answer : Answer)
    → Holds before now name ending.put → SameCounts before now → KeepsFiles name before now → IsEnd ending.answer
    → IsWritten ending out_before out_now answer
    → IsFinished name ending (devices before out_before err) (devices now out_now err_now) answer
finished_ok name ending before now out_before out_now err err_now answer holds counts files is_end written = record {
  either = elim written.either [ inl same ↦ inl same | inr cut ↦ inr (inl cut) ];
  whole = λ ok. record { holds = holds; taken = written.whole ok };
  put = λ search. record { holds = holds; out = written.quiet search };
  part = λ cut. let part = written.part cut in inr (part.0, record { holds = holds; counts = counts; taken = part.1; rose = part.2 });
  quiet = λ none. absurd (written_has_memory ending answer is_end written.either none);
  files = files;
  counts = λ other. (counts, written.faults other);
}

-- the put failed, and the output is as before
pub finished_err : (name : Option (List ℕ)) (ending : Ending) (before now : ShelfFacts) (out err err_now : SinkFacts) → FailsToPut name before.put_faults now.put_faults → KeepsFiles name before now
    → IsFinished name ending (devices before out err) (devices now out err_now) answers.WriteFault
finished_err name ending before now out err err_now failed files = record {
  either = inr (inl refl);
  whole = λ ok. absurd cc;
  put = λ search. absurd (let e : false ≡ true = search in false≢true e);
  part = λ cut. inl (record { put = failed; out = refl });
  quiet = λ none. absurd cc;
  files = files;
  counts = λ other. absurd (other refl);
}
