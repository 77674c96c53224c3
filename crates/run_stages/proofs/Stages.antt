-- Stages have one outcome, and what they hand on.
use Rattle.std.proofs.Common.{◌≡◌, List, ℕ, Option, Result, Ok, Err, refl, sym, ap, ◌∙◌, subst, inl, inr}
use Rattle.qasm_read.proofs.OneReading.{one_reading}
use Rattle.run_answers.specs.declared.answer.Answer.{Answer}
use Rattle.run_answers.specs.declared.answer.Answer.TheVariants as answers
use Rattle.run_stages.specs.declared.ending.Ending.{Ending}
use Rattle.run_stages.specs.Work.{Work}
use Rattle.run_stages.specs.Stages.{Continues, Then, As}
use Rattle.run_stages.specs.Prepare.{CircuitOf, TrapOf, InputsOf}
use Rattle.run_stages.specs.Loading.{Reached, Finishes}

-- ---- one outcome

-- a stage has at most one outcome
abbrev pub IsOne : {X : Type 0} → (Result X Answer → Type 0) → Type 0
IsOne {X} stage = (a b : Result X Answer) → stage a → stage b → a ≡ b

continues-one : {X Y : Type 0} (first : Result X Answer → Type 0) (next : X → Result Y Answer → Type 0) (given : Result X Answer) (a b : Result Y Answer) → ((x : X) → first (Ok x) → IsOne (next x))
    → first given → Continues next given a → Continues next given b → a ≡ b
continues-one first next (Ok x) a b one is p q = one x is a b p q
continues-one first next (Err answer) a b one is p q = p ∙ sym q

-- a stage after a first one, of which the value is known
pub after-one : {X Y : Type 0} (first : Result X Answer → Type 0) (next : X → Result Y Answer → Type 0) → IsOne first → ((x : X) → first (Ok x) → IsOne (next x)) → IsOne (Then first next)
after-one first next one one_next a b p q =
    continues-one first next p.given a b one_next p.is p.continues (subst (λ given. Continues next given b) (sym (one p.given q.given p.is q.is)) q.continues)

pub then-one : {X Y : Type 0} (first : Result X Answer → Type 0) (next : X → Result Y Answer → Type 0) → IsOne first → ((x : X) → IsOne (next x)) → IsOne (Then first next)
then-one first next one one_next = after-one first next one (λ x is. one_next x)

pub as-one : {R X : Type 0} (judges : R → Type 0) (see : R → Result X Answer) → ((a b : R) → judges a → judges b → a ≡ b) → IsOne (As judges see)
as-one judges see one a b p q = p.outcome_is ∙ ap see (one p.judgement q.judgement p.is q.is) ∙ sym q.outcome_is

pub circuit_of-one : (content : Option (List ℕ)) → IsOne (CircuitOf content)
circuit_of-one content = then-one _ _ (λ a b p q. p ∙ sym q) (λ bytes. then-one _ _ (as-one _ _ (one_reading bytes)) (λ program a b p q. p ∙ sym q))

pub trap_of-one : (content : Option (List ℕ)) → IsOne (TrapOf content)
trap_of-one content = then-one _ _ (λ a b p q. p ∙ sym q) (λ bytes a b p q. p ∙ sym q)

pub inputs_of-one : (circuit_file trap_file : Option (List ℕ)) → IsOne (InputsOf circuit_file trap_file)
inputs_of-one circuit_file trap_file = then-one _ _ (circuit_of-one circuit_file) (λ circuit. then-one _ _ (trap_of-one trap_file) (λ file a b p q. p ∙ sym q))

-- ---- one stage after another

pub then_ok : {X Y : Type 0} (first : Result X Answer → Type 0) (next : X → Result Y Answer → Type 0) (x : X) (outcome : Result Y Answer) → first (Ok x) → next x outcome → Then first next outcome
then_ok first next x outcome is more = record { given = Ok x; is = is; continues = more }

pub then_err : {X Y : Type 0} (first : Result X Answer → Type 0) (next : X → Result Y Answer → Type 0) (answer : Answer) → first (Err answer) → Then first next (Err answer)
then_err first next answer is = record { given = Err answer; is = is; continues = refl }

-- the same where memory may run out
pub reached_ok : {X Y : Type 0} (first : Result X Answer → Type 0) (next : X → Result Y Answer → Type 0) (x : X) (outcome : Result Y Answer) → Reached first (Ok x) → Reached (next x) outcome → Reached (Then first next) outcome
reached_ok first next x outcome (inl none) more = absurd cc
reached_ok first next x outcome (inr is) (inl none) = inl none
reached_ok first next x outcome (inr is) (inr more) = inr (then_ok first next x outcome is more)

same_answer : {X Y : Type 0} (a b : Answer) → ◌≡◌ {A = Result X Answer} (Err a) (Err b) → ◌≡◌ {A = Result Y Answer} (Err a) (Err b)
same_answer a b e = cc

pub reached_err : {X Y : Type 0} (first : Result X Answer → Type 0) (next : X → Result Y Answer → Type 0) (answer : Answer) → Reached first (Err answer) → Reached (Then first next) (Err answer)
reached_err {X} {Y} first next answer (inl none) = inl (same_answer {X = X} {Y = Y} answer answers.NoMemory none)
reached_err first next answer (inr is) = inr (then_err first next answer is)

pub reached_value : {X : Type 0} (stage : Result X Answer → Type 0) (x : X) → Reached stage (Ok x) → stage (Ok x)
reached_value stage x (inl none) = absurd cc
reached_value stage x (inr is) = is

-- and where the last stage ends in work
pub finishes_ok : {X : Type 0} (first : Result X Answer → Type 0) (next : X → Result Work Answer → Type 0) (x : X) (r : Result Ending Answer) → Reached first (Ok x) → Finishes (next x) r → Finishes (Then first next) r
finishes_ok first next x (Ok ending) reached done = record { work = done.work; is = then_ok first next x (Ok done.work) (reached_value first x reached) done.is; ends = done.ends }
finishes_ok first next x (Err answer) reached (inl none) = inl none
finishes_ok first next x (Err answer) reached (inr is) = inr (then_ok first next x (Err answer) (reached_value first x reached) is)

no_memory : {X : Type 0} (a b : Answer) → ◌≡◌ {A = Result X Answer} (Err a) (Err b) → a ≡ b
no_memory a b e = cc

pub finishes_err : {X : Type 0} (first : Result X Answer → Type 0) (next : X → Result Work Answer → Type 0) (answer : Answer) → Reached first (Err answer) → Finishes (Then first next) (Err answer)
finishes_err {X} first next answer (inl none) = inl (no_memory {X = X} answer answers.NoMemory none)
finishes_err first next answer (inr is) = inr (then_err first next answer is)
