-- What the commands come to before anything is written.
use Rattle.std.proofs.Common.{◌≡◌, ◌≢◌, List, ℕ, Option, Some, None, Result, Ok, Err, refl, sym, ap, ◌∙◌, subst, inl, inr}
use Rattle.std.specs.Prelude.{IsTrue, IfOk, IfErr, Bool, true, false}
use Rattle.std.proofs.lemmas.Bool.{false≢true}
use Rattle.std.specs.Option.{option_and_then, option_map, ok_or}
use Rattle.qc_base.specs.Shelf.{ShelfFacts, OnlyReads, SameCounts}
use Rattle.step_rules.specs.declared.action.Action.{Action}
use Rattle.step_rules.specs.Setting.{SettingValue}
use Rattle.placement.specs.declared.rule.PlaceRule.{PlaceRule}
use Rattle.request_words.specs.declared.file.File.{File}
use Rattle.request_words.specs.declared.file.File.TheVariants as files
use Rattle.request_words.specs.Request.{Asked, Search, compile, verify, load, request_of, named, file_of, put_of}
use Rattle.run_answers.specs.declared.answer.Answer.{Answer}
use Rattle.run_answers.specs.declared.answer.Answer.TheVariants as answers
use Rattle.run_stages.specs.declared.inputs.Inputs.{Inputs}
use Rattle.program_run.specs.declared.command.Refusal.{Refusal}
use Rattle.run_stages.specs.declared.ending.Ending.{Ending}
use Rattle.run_stages.specs.Work.{Work, Ends, loaded}
use Rattle.run_stages.specs.Stages.{Is, Then}
use Rattle.run_stages.specs.Found.{Found, name_in, put_name, IsFoundAs, IsFoundUnder, IsFound}
use Rattle.run_stages.specs.Prepare.{InputsOf, Planned, Sought, JudgedOf, JudgedFor, VerifiedOf, Comes, Prepares}
use Rattle.run_stages.specs.Loading.{LoadsBoth, CountsAll, Finishes, IsOnly}
use Rattle.run_answers.specs.Answer.{cites_names, fault_line}
use Rattle.program_run.specs.Run.{HasNames, SinkFacts, IsReported, Devices}
use Rattle.program_run.specs.Preparing.{HasName, HasInputs, answer_in, Prepared, IsFinished, names_of}
use Rattle.run_stages.specs.Judging.{Judging, Verifying}
use Rattle.run_stages.proofs.Stages.{IsOne, inputs_of-one, reached_value, finishes_ok, finishes_err, then_ok, then_err}
use Rattle.run_stages.proofs.Reading.{found_before, found_after, not_read, no_fault}
use Rattle.program_run.proofs.Settled.{CameToWork}
use Rattle.run_stages.proofs.Outcomes.{comes-one, judged-one, fixed-one, refused_early, only_one, only_then, only_early}

-- ---- a refusal and what was read by then

same_refusal : (a b : Refusal) → ◌≡◌ {A = Result Ending Refusal} (Err a) (Err b) → a ≡ b
same_refusal a b e = cc

no_refusal : (ending : Ending) (refusal : Refusal) → ◌≢◌ {A = Result Ending Refusal} (Ok ending) (Err refusal)
no_refusal ending refusal e = cc

-- a refusal whose line cites names comes with what the files describe
abbrev pub Names : Found → Result Ending Refusal → Type 0
Names found result = (refusal : Refusal) → result ≡ Err refusal → IsTrue (cites_names refusal.answer) → HasInputs found refusal

names_ok : (found : Found) (ending : Ending) → Names found (Ok ending)
names_ok found ending refusal e cites = absurd (no_refusal ending refusal e)

names_late : (found : Found) (answer : Answer) (inputs : Inputs) → InputsOf found.circuit found.trap (Ok inputs) → Names found (Err (record { answer = answer; inputs = Some inputs }))
names_late found answer inputs are refusal e cites = record {
  inputs = inputs;
  is = ap (λ (r : Refusal). r.inputs) (sym (same_refusal (record { answer = answer; inputs = Some inputs }) refusal e));
  are = are;
}

false_is_not : (b : Bool) → b ≡ false → IsTrue b → ⊥
false_is_not b plain cites = let is : b ≡ true = cites in false≢true (sym plain ∙ is)

names_early : (found : Found) (answer : Answer) → cites_names answer ≡ false → Names found (Err (record { answer = answer; inputs = None }))
names_early found answer plain refusal e cites =
    let same : answer ≡ refusal.answer = ap (λ (r : Refusal). r.answer) (same_refusal (record { answer = answer; inputs = None }) refusal e) in
    absurd (false_is_not (cites_names refusal.answer) (subst (λ (a : Answer). cites_names a ≡ false) same plain) cites)

-- ---- a compilation

-- what is asked for, in plain mode or in exact mode
abbrev asked_plan : List ℕ → List ℕ → PlaceRule → Option Search → Asked
asked_plan circuit trap rule exact = compile circuit trap rule exact

-- the stages after circuit and trap
abbrev pub Plans : PlaceRule → Option Search → Inputs → Result Work Answer → Type 0
Plans rule None = Planned rule
Plans rule (Some exact) = Sought rule exact

plan_stages : (found : Found) (circuit trap : List ℕ) (rule : PlaceRule) (exact : Option Search) (outcome : Result Work Answer) → Then (InputsOf found.circuit found.trap) (Plans rule exact) outcome
    → Comes found (asked_plan circuit trap rule exact) outcome
plan_stages found circuit trap rule None outcome stages = stages
plan_stages found circuit trap rule (Some exact) outcome stages = stages

no_verify : (circuit trap : List ℕ) (rule : PlaceRule) (exact : Option Search) (c t s k : List ℕ) → asked_plan circuit trap rule exact ≡ verify c t s k → ⊥
no_verify circuit trap rule exact c t s k e = cc

plan_one : (found : Found) (circuit trap : List ℕ) (rule : PlaceRule) (exact : Option Search) → IsOne (Comes found (asked_plan circuit trap rule exact))
plan_one found circuit trap rule exact = comes-one found (asked_plan circuit trap rule exact) (λ c t s k e. absurd (no_verify circuit trap rule exact c t s k e))

plan_finishes : (found : Found) (circuit trap : List ℕ) (rule : PlaceRule) (exact : Option Search) (r : Result Ending Answer) → Finishes (Then (InputsOf found.circuit found.trap) (Plans rule exact)) r
    → Finishes (Comes found (asked_plan circuit trap rule exact)) r
plan_finishes found circuit trap rule exact (Ok ending) done = record { work = done.work; is = plan_stages found circuit trap rule exact (Ok done.work) done.is; ends = done.ends }
plan_finishes found circuit trap rule exact (Err answer) (inl memory) = inl memory
plan_finishes found circuit trap rule exact (Err answer) (inr stops) = inr (plan_stages found circuit trap rule exact (Err answer) stops)

abbrev pub PlanPrepared : ShelfFacts → ShelfFacts → List ℕ → List ℕ → PlaceRule → Option Search → Result Ending Refusal → Type 0
PlanPrepared before now circuit trap rule exact result = Prepared (file_of (asked_plan circuit trap rule exact)) (λ found. Comes found (asked_plan circuit trap rule exact)) before now result

-- what is found where a circuit and a trap alone are read
abbrev two_found : Option (List ℕ) → Option (List ℕ) → Found
two_found circuit trap = record { circuit = circuit; trap = trap; schedule = None; certificate = None }

plan_prepared : (before now : ShelfFacts) (circuit trap : List ℕ) (rule : PlaceRule) (exact : Option Search) (read : Result Inputs Answer) (result : Result Ending Refusal) → (loads : LoadsBoth before now circuit trap read)
    → Finishes (Then (InputsOf loads.circuit_file loads.trap_file) (Plans rule exact)) (answer_in result) → Names (two_found loads.circuit_file loads.trap_file) result → PlanPrepared before now circuit trap rule exact result
plan_prepared before now circuit trap rule exact read result loads finishes named =
    let found : Found = two_found loads.circuit_file loads.trap_file in
    let done = plan_finishes found circuit trap rule exact (answer_in result) finishes in
    record {
      found = found;
      is_found = record { circuit = loads.circuit_found; trap = loads.trap_found; schedule = refl; certificate = refl };
      finishes = done;
      only = λ known. only_one (Comes found (asked_plan circuit trap rule exact)) (answer_in result) (plan_one found circuit trap rule exact) done;
      named = named;
    }

pub plan_ok : (before now : ShelfFacts) (circuit trap : List ℕ) (rule : PlaceRule) (exact : Option Search) (inputs : Inputs) (ending : Ending) → LoadsBoth before now circuit trap (Ok inputs)
    → Finishes (Plans rule exact inputs) (Ok ending) → PlanPrepared before now circuit trap rule exact (Ok ending)
plan_ok before now circuit trap rule exact inputs ending loads done =
    plan_prepared before now circuit trap rule exact (Ok inputs) (Ok ending) loads
    (finishes_ok (InputsOf loads.circuit_file loads.trap_file) (Plans rule exact) inputs (Ok ending) loads.reached done)
    (names_ok (two_found loads.circuit_file loads.trap_file) ending)

pub plan_late : (before now : ShelfFacts) (circuit trap : List ℕ) (rule : PlaceRule) (exact : Option Search) (inputs : Inputs) (answer : Answer) → LoadsBoth before now circuit trap (Ok inputs)
    → Finishes (Plans rule exact inputs) (Err answer) → PlanPrepared before now circuit trap rule exact (Err (record { answer = answer; inputs = Some inputs }))
plan_late before now circuit trap rule exact inputs answer loads done =
    plan_prepared before now circuit trap rule exact (Ok inputs) (Err (record { answer = answer; inputs = Some inputs })) loads
    (finishes_ok (InputsOf loads.circuit_file loads.trap_file) (Plans rule exact) inputs (Err answer) loads.reached done)
    (names_late (two_found loads.circuit_file loads.trap_file) answer inputs (reached_value (InputsOf loads.circuit_file loads.trap_file) inputs loads.reached))

pub plan_early : (before now : ShelfFacts) (circuit trap : List ℕ) (rule : PlaceRule) (exact : Option Search) (answer : Answer) → LoadsBoth before now circuit trap (Err answer) → cites_names answer ≡ false
    → PlanPrepared before now circuit trap rule exact (Err (record { answer = answer; inputs = None }))
plan_early before now circuit trap rule exact answer loads other =
    plan_prepared before now circuit trap rule exact (Err answer) (Err (record { answer = answer; inputs = None })) loads
    (finishes_err (InputsOf loads.circuit_file loads.trap_file) (Plans rule exact) answer loads.reached)
    (names_early (two_found loads.circuit_file loads.trap_file) answer other)

-- ---- a check or a report

-- the work with a schedule that plays
abbrev WorkOf : Type 0
WorkOf = SettingValue → List (List Action) → Work

abbrev pub CheckPrepared : WorkOf → ShelfFacts → ShelfFacts → List ℕ → List ℕ → List ℕ → Result Ending Refusal → Type 0
CheckPrepared work before now circuit trap schedule result = Prepared (named circuit trap (Some schedule) None) (JudgedFor work) before now result

-- what is found where a schedule is read too
abbrev three_found : Option (List ℕ) → Option (List ℕ) → Option (List ℕ) → Found
three_found circuit trap schedule = record { circuit = circuit; trap = trap; schedule = schedule; certificate = None }

check_prepared : (work : WorkOf) (before now : ShelfFacts) (circuit trap schedule : List ℕ) (result : Result Ending Refusal) (circuit_file trap_file schedule_file : Option (List ℕ))
    → IsFoundAs before now circuit circuit_file → IsFoundAs before now trap trap_file → IsFoundAs before now schedule schedule_file
    → Finishes (Then (InputsOf circuit_file trap_file) (JudgedOf work schedule_file)) (answer_in result) → Names (three_found circuit_file trap_file schedule_file) result
    → CheckPrepared work before now circuit trap schedule result
check_prepared work before now circuit trap schedule result circuit_file trap_file schedule_file one two three done named = record {
  found = three_found circuit_file trap_file schedule_file;
  is_found = record { circuit = one; trap = two; schedule = three; certificate = refl };
  finishes = done;
  only = λ known. only_one (JudgedFor work (three_found circuit_file trap_file schedule_file)) (answer_in result) (judged-one work (three_found circuit_file trap_file schedule_file)) done;
  named = named;
}

pub check_ok : (work : WorkOf) (before middle now : ShelfFacts) (circuit trap schedule : List ℕ) (inputs : Inputs) (ending : Ending) → OnlyReads before middle → OnlyReads middle now
    → LoadsBoth before middle circuit trap (Ok inputs) → Judging work middle now schedule inputs (Ok ending) → CheckPrepared work before now circuit trap schedule (Ok ending)
check_ok work before middle now circuit trap schedule inputs ending first second loads judging =
    check_prepared work before now circuit trap schedule (Ok ending) loads.circuit_file loads.trap_file judging.content
    (found_before before middle now circuit loads.circuit_file second loads.circuit_found) (found_before before middle now trap loads.trap_file second loads.trap_found)
    (found_after before middle now schedule judging.content first judging.is_found)
    (finishes_ok (InputsOf loads.circuit_file loads.trap_file) (JudgedOf work judging.content) inputs (Ok ending) loads.reached judging.finishes)
    (names_ok (three_found loads.circuit_file loads.trap_file judging.content) ending)

pub check_late : (work : WorkOf) (before middle now : ShelfFacts) (circuit trap schedule : List ℕ) (inputs : Inputs) (answer : Answer) → OnlyReads before middle → OnlyReads middle now
    → LoadsBoth before middle circuit trap (Ok inputs) → Judging work middle now schedule inputs (Err answer) → CheckPrepared work before now circuit trap schedule (Err (record { answer = answer; inputs = Some inputs }))
check_late work before middle now circuit trap schedule inputs answer first second loads judging =
    check_prepared work before now circuit trap schedule (Err (record { answer = answer; inputs = Some inputs })) loads.circuit_file loads.trap_file judging.content
    (found_before before middle now circuit loads.circuit_file second loads.circuit_found) (found_before before middle now trap loads.trap_file second loads.trap_found)
    (found_after before middle now schedule judging.content first judging.is_found)
    (finishes_ok (InputsOf loads.circuit_file loads.trap_file) (JudgedOf work judging.content) inputs (Err answer) loads.reached judging.finishes)
    (names_late (three_found loads.circuit_file loads.trap_file judging.content) answer inputs (reached_value (InputsOf loads.circuit_file loads.trap_file) inputs loads.reached))

pub check_early : (work : WorkOf) (before now : ShelfFacts) (circuit trap schedule : List ℕ) (answer : Answer) → LoadsBoth before now circuit trap (Err answer) → cites_names answer ≡ false
    → CheckPrepared work before now circuit trap schedule (Err (record { answer = answer; inputs = None }))
check_early work before now circuit trap schedule answer loads other =
    check_prepared work before now circuit trap schedule (Err (record { answer = answer; inputs = None })) loads.circuit_file loads.trap_file (before.contents schedule)
    loads.circuit_found loads.trap_found (not_read before now schedule)
    (finishes_err (InputsOf loads.circuit_file loads.trap_file) (JudgedOf work (before.contents schedule)) answer loads.reached)
    (names_early (three_found loads.circuit_file loads.trap_file (before.contents schedule)) answer other)

-- ---- a verification

abbrev pub VerifyPrepared : ShelfFacts → ShelfFacts → List ℕ → List ℕ → List ℕ → List ℕ → Result Ending Refusal → Type 0
VerifyPrepared before now circuit trap schedule cert result = Prepared (file_of (verify circuit trap schedule cert)) (λ found. Comes found (verify circuit trap schedule cert)) before now result

-- what is found where a certificate is read too
abbrev four_found : Option (List ℕ) → Option (List ℕ) → Option (List ℕ) → Option (List ℕ) → Found
four_found circuit trap schedule certificate = record { circuit = circuit; trap = trap; schedule = schedule; certificate = certificate }

verify_prepared : (before middle now : ShelfFacts) (circuit trap schedule cert : List ℕ) (inputs : Inputs) (result : Result Ending Refusal) → OnlyReads before middle → OnlyReads middle now
    → (loads : LoadsBoth before middle circuit trap (Ok inputs)) → (verifying : Verifying middle now schedule cert inputs (answer_in result))
    → Names (four_found loads.circuit_file loads.trap_file verifying.content verifying.certificate) result → VerifyPrepared before now circuit trap schedule cert result
verify_prepared before middle now circuit trap schedule cert inputs result first second loads verifying named =
    let inputs_is = reached_value (InputsOf loads.circuit_file loads.trap_file) inputs loads.reached in
    record {
      found = four_found loads.circuit_file loads.trap_file verifying.content verifying.certificate;
      is_found = record {
        circuit = found_before before middle now circuit loads.circuit_file second loads.circuit_found;
        trap = found_before before middle now trap loads.trap_file second loads.trap_found;
        schedule = found_after before middle now schedule verifying.content first verifying.schedule_found;
        certificate = found_after before middle now cert verifying.certificate first verifying.cert_found;
      };
      finishes = finishes_ok (InputsOf loads.circuit_file loads.trap_file) (VerifiedOf verifying.content verifying.certificate) inputs (answer_in result) loads.reached verifying.finishes;
      only = λ known. only_then (InputsOf loads.circuit_file loads.trap_file) (VerifiedOf verifying.content verifying.certificate) inputs (answer_in result)
          (inputs_of-one loads.circuit_file loads.trap_file) inputs_is (verifying.only (subst IsTrue (sym first.as_known) known));
      named = named;
    }

pub verify_ok : (before middle now : ShelfFacts) (circuit trap schedule cert : List ℕ) (inputs : Inputs) (ending : Ending) → OnlyReads before middle → OnlyReads middle now
    → LoadsBoth before middle circuit trap (Ok inputs) → Verifying middle now schedule cert inputs (Ok ending) → VerifyPrepared before now circuit trap schedule cert (Ok ending)
verify_ok before middle now circuit trap schedule cert inputs ending first second loads verifying =
    verify_prepared before middle now circuit trap schedule cert inputs (Ok ending) first second loads verifying
    (names_ok (four_found loads.circuit_file loads.trap_file verifying.content verifying.certificate) ending)

pub verify_late : (before middle now : ShelfFacts) (circuit trap schedule cert : List ℕ) (inputs : Inputs) (answer : Answer) → OnlyReads before middle → OnlyReads middle now
    → LoadsBoth before middle circuit trap (Ok inputs) → Verifying middle now schedule cert inputs (Err answer) → VerifyPrepared before now circuit trap schedule cert (Err (record { answer = answer; inputs = Some inputs }))
verify_late before middle now circuit trap schedule cert inputs answer first second loads verifying =
    verify_prepared before middle now circuit trap schedule cert inputs (Err (record { answer = answer; inputs = Some inputs })) first second loads verifying
    (names_late (four_found loads.circuit_file loads.trap_file verifying.content verifying.certificate) answer inputs (reached_value (InputsOf loads.circuit_file loads.trap_file) inputs loads.reached))

pub verify_early : (before now : ShelfFacts) (circuit trap schedule cert : List ℕ) (answer : Answer) → LoadsBoth before now circuit trap (Err answer) → cites_names answer ≡ false
    → VerifyPrepared before now circuit trap schedule cert (Err (record { answer = answer; inputs = None }))
verify_early before now circuit trap schedule cert answer loads other =
    let content = before.contents schedule in
    let certificate = before.contents cert in
    let first = InputsOf loads.circuit_file loads.trap_file in
    record {
      found = four_found loads.circuit_file loads.trap_file content certificate;
      is_found = record { circuit = loads.circuit_found; trap = loads.trap_found; schedule = not_read before now schedule; certificate = not_read before now cert };
      finishes = finishes_err first (VerifiedOf content certificate) answer loads.reached;
      only = λ known. only_early first (VerifiedOf content certificate) answer (inputs_of-one loads.circuit_file loads.trap_file) loads.reached;
      named = names_early (four_found loads.circuit_file loads.trap_file content certificate) answer other;
    }

-- ---- the words

-- the stages of a request, where there is one
abbrev Asks : Option Asked → Found → Result Work Answer → Type 0
Asks asked found = Then (Is (ok_or asked answers.Usage)) (Comes found)

abbrev names_for : Option Asked → File → Option (List ℕ)
names_for asked file = option_and_then (λ a. file_of a file) asked

asked_done : (found : Found) (asked : Asked) (r : Result Ending Answer) → Finishes (Comes found asked) r → Finishes (Asks (Some asked) found) r
asked_done found asked (Ok ending) done = record { work = done.work; is = then_ok (Is (Ok asked)) (Comes found) asked (Ok done.work) refl done.is; ends = done.ends }
asked_done found asked (Err answer) (inl none) = inl none
asked_done found asked (Err answer) (inr is) = inr (then_ok (Is (Ok asked)) (Comes found) asked (Err answer) refl is)

asked_only : (found : Found) (asked : Asked) (r : Result Ending Answer) → IsOnly (Comes found asked) r → IsOnly (Asks (Some asked) found) r
asked_only found asked r only = only_then (Is (Ok asked)) (Comes found) asked r (fixed-one (Ok asked)) refl only

pub prepared_by : (before now : ShelfFacts) (words : List (List ℕ)) (asked : Asked) (result : Result Ending Refusal) → request_of words ≡ Some asked
    → Prepared (file_of asked) (λ found. Comes found asked) before now result → Prepared (name_in words) (λ found. Prepares found words) before now result
prepared_by before now words asked result request p =
    subst (λ (o : Option Asked). Prepared (names_for o) (Asks o) before now result) (sym request)
    (record {
      found = p.found;
      is_found = record { circuit = p.is_found.circuit; trap = p.is_found.trap; schedule = p.is_found.schedule; certificate = p.is_found.certificate };
      finishes = asked_done p.found asked (answer_in result) p.finishes;
      only = λ known. asked_only p.found asked (answer_in result) (p.only known);
      named = p.named;
    })

pub counts_by : {X : Type 0} (before now : ShelfFacts) (words : List (List ℕ)) (asked : Asked) (result : Result X Answer) → request_of words ≡ Some asked
    → CountsAll (file_of asked) before now result → CountsAll (name_in words) before now result
counts_by before now words asked result request counts = subst (λ (o : Option Asked). CountsAll (names_for o) before now result) (sym request) counts

-- ---- words that are no request

-- what the shelf holds under those names
abbrev shelf_found : ShelfFacts → (File → Option (List ℕ)) → Found
shelf_found before names = record {
  circuit = option_and_then before.contents (names files.Circuit);
  trap = option_and_then before.contents (names files.Trap);
  schedule = option_and_then before.contents (names files.Schedule);
  certificate = option_and_then before.contents (names files.Certificate);
}

under : (before now : ShelfFacts) (name : Option (List ℕ)) → IsFoundUnder before now name (option_and_then before.contents name)
under before now None = refl
under before now (Some name) = not_read before now name

shelf_is_found : (before now : ShelfFacts) (names : File → Option (List ℕ)) → IsFound before now names (shelf_found before names)
shelf_is_found before now names = record {
  circuit = under before now (names files.Circuit);
  trap = under before now (names files.Trap);
  schedule = under before now (names files.Schedule);
  certificate = under before now (names files.Certificate);
}

no_request : (found : Found) (words : List (List ℕ)) → request_of words ≡ None → Prepares found words (Err answers.Usage)
no_request found words none = subst (λ (o : Option Asked). Asks o found (Err answers.Usage)) (sym none) (then_err (Is (Err answers.Usage)) (Comes found) answers.Usage refl)

only_usage : (found : Found) (words : List (List ℕ)) → request_of words ≡ None → (outcome : Result Work Answer) → Prepares found words outcome → outcome ≡ Err answers.Usage
only_usage found words none outcome is =
    refused_early (Is (Err answers.Usage)) (Comes found) answers.Usage (fixed-one (Err answers.Usage)) refl outcome (subst (λ (o : Option Asked). Asks o found outcome) none is)

pub refused_by_words : (before now : ShelfFacts) (words : List (List ℕ)) → request_of words ≡ None
    → Prepared (name_in words) (λ found. Prepares found words) before now (Err (record { answer = answers.Usage; inputs = None }))
refused_by_words before now words none = record {
  found = shelf_found before (name_in words);
  is_found = shelf_is_found before now (name_in words);
  finishes = inr (no_request (shelf_found before (name_in words)) words none);
  only = λ known. inr (only_usage (shelf_found before (name_in words)) words none);
  named = names_early (shelf_found before (name_in words)) answers.Usage refl;
}

pub is_request : (words : List (List ℕ)) (asked : Asked) → request_of words ≡ Some asked → request_of words ≡ None → ⊥
is_request words asked some none = let e : Some asked ≡ None = sym some ∙ none in cc

-- a request that puts nothing
pub no_name : (name put : Option (List ℕ)) → put ≡ None → HasName name put
no_name name put none = subst (HasName name) (sym none) tt

pub name_of_request : (words : List (List ℕ)) (asked : Asked) (put : Option (List ℕ)) → request_of words ≡ Some asked → HasName (put_of asked) put → HasName (put_name words) put
name_of_request words asked put some has = subst (λ (o : Option Asked). HasName (option_and_then put_of o) put) (sym some) has

-- a request that puts something under a name
pub any_name : (name : List ℕ) (put : Option (List ℕ)) → HasName (Some name) put
any_name name None = tt
any_name name (Some bytes) = tt

-- a load, which reads nothing
abbrev pub LoadEnds : ℕ → Ending → Type 0
LoadEnds seed ending = Ends (loaded seed) ending.answer ending

abbrev nothing_found : Found
nothing_found = record { circuit = None; trap = None; schedule = None; certificate = None }

abbrev load_stages : ℕ → Found → Result Work Answer → Type 0
load_stages seed found = Is (Ok (loaded seed))

load_finishes : (seed : ℕ) (result : Result Ending Refusal) → IfOk result (LoadEnds seed) → IfErr result (λ (refusal : Refusal). refusal ≡ record { answer = answers.NoMemory; inputs = None })
    → Finishes (load_stages seed nothing_found) (answer_in result)
load_finishes seed (Ok ending) ok err = record { work = loaded seed; is = refl; ends = ok }
load_finishes seed (Err refusal) ok err = inl (ap (λ (r : Refusal). r.answer) err)

load_names : (result : Result Ending Refusal) → IfErr result (λ (refusal : Refusal). refusal ≡ record { answer = answers.NoMemory; inputs = None }) → Names nothing_found result
load_names (Ok ending) err = names_ok nothing_found ending
load_names (Err refusal) err = subst (λ (r : Refusal). Names nothing_found (Err r)) (sym err) (names_early nothing_found answers.NoMemory refl)

pub load_prepared : (before now : ShelfFacts) (seed : ℕ) (schedule : List ℕ) (result : Result Ending Refusal) → IfOk result (LoadEnds seed)
    → IfErr result (λ (refusal : Refusal). refusal ≡ record { answer = answers.NoMemory; inputs = None }) → Prepared (file_of (load seed schedule)) (λ found. Comes found (load seed schedule)) before now result
load_prepared before now seed schedule result ok err = record {
  found = nothing_found;
  is_found = record { circuit = refl; trap = refl; schedule = refl; certificate = refl };
  finishes = load_finishes seed result ok err;
  only = λ known. only_one (load_stages seed nothing_found) (answer_in result) (fixed-one (Ok (loaded seed))) (load_finishes seed result ok err);
  named = load_names result err;
}

-- the names of what was read, for the line of a placement
pub has_names : (found : Found) (refusal : Refusal) → (IsTrue (cites_names refusal.answer) → HasInputs found refusal) → HasNames found refusal.answer (names_of refusal.inputs)
has_names found refusal named cites =
    let all = named cites in
    record {
      inputs = all.inputs;
      are = all.are;
      circuit = ap (λ (i : Option Inputs). option_map (λ (x : Inputs). x.circuit) i) all.is;
      trap = ap (λ (i : Option Inputs). option_map (λ (x : Inputs). x.trap) i) all.is;
    }

-- the line with the names of what was handed over
pub line_with : (before now : SinkFacts) (answer : Answer) (a b : Option Inputs) → a ≡ b → IsReported before now (fault_line (names_of a) answer) → IsReported before now (fault_line (names_of b) answer)
line_with before now answer a b same line = subst (λ (i : Option Inputs). IsReported before now (fault_line (names_of i) answer)) same line

-- a request that puts has a name for it
pub has_any : (name : List ℕ) (put : Option (List ℕ)) → HasName (Some name) put
has_any name None = tt
has_any name (Some bytes) = tt

-- ---- work that was put and written

abbrev same_counts_ok : (names : File → Option (List ℕ)) (before now : ShelfFacts) (ending : Ending) → CountsAll names before now (answer_in (Ok ending)) → SameCounts before now
same_counts_ok names before now ending counts = counts.stays (λ which. no_fault ending which)

pub came_to_work : (words : List (List ℕ)) (before middle now : Devices) (ending : Ending) (answer : Answer) (name : Option (List ℕ))
    → Prepared (name_in words) (λ found. Prepares found words) before.shelf middle.shelf (Ok ending) → OnlyReads before.shelf middle.shelf → CountsAll (name_in words) before.shelf middle.shelf (answer_in (Ok ending))
    → middle.out ≡ before.out → name ≡ put_name words → IsFinished name ending middle now answer → CameToWork words before middle now ending answer
came_to_work words before middle now ending answer name prepared reads counts out named finished = record {
  found = prepared.found;
  is_found = prepared.is_found;
  done = prepared.finishes;
  only = prepared.only;
  reads = reads;
  counts = same_counts_ok (name_in words) before.shelf middle.shelf ending counts;
  out = out;
  finished = subst (λ (n : Option (List ℕ)). IsFinished n ending middle now answer) named finished;
}
