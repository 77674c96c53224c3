-- The schedule of a verification is least, and what exact mode wrote and put is verified.
use Rattle.std.proofs.Common.{◌≡◌, ℕ, ◌≤◌, ◌^◌, List, length, Option, Some, None, Result, Ok, Err, Bool, true, false, cond, refl, sym, ap, subst, ◌∙◌}
use Rattle.std.specs.Prelude.{IfSome}
use Rattle.std.specs.Option.{ok_or, option_map_or}
use Rattle.std.proofs.Math.Dec.{ltb}
use Rattle.std.proofs.lemmas.Bool.{ltb-false, le-ltb}
use Rattle.std.proofs.Math.Nat.{le_trans}
use Rattle.qc_base.specs.declared.ids.Qubit.{Qubit}
use Rattle.circuit_core.specs.Circuit.{CircuitValue, IsCircuit}
use Rattle.trap_parts.specs.Parts.{TrapValue}
use Rattle.trap_model.specs.Trap.{place_count}
use Rattle.trap_parts.specs.Build.{IsTrap}
use Rattle.step_rules.specs.declared.action.Action.{Action}
use Rattle.step_rules.specs.Setting.{SettingValue, setting_of}
use Rattle.step_rules.specs.Placement.{IsPlacement}
use Rattle.step_rules.specs.Play.{Plays, IsLeast}
use Rattle.schedule_text.specs.Text.{schedule_text}
use Rattle.step_vars.specs.Lists.{ion_count}
use Rattle.step_vars.specs.Certifies.{Certifies}
use Rattle.placement.specs.declared.rule.PlaceRule.{PlaceRule}
use Rattle.placement.proofs.Placed.{placed as rule_gives_placement}
use Rattle.derivation_check.specs.declared.cert_fault.CertFault.{CertFault}
use Rattle.exact_search.specs.declared.fault.Count.TheVariants as search_counts
use Rattle.exact_search.specs.declared.fault.Count.{Count as SearchCount}
use Rattle.exact_search.specs.declared.fault.ExactFault.{ExactFault}
use Rattle.exact_search.specs.declared.fault.ExactFault.TheVariants as exacts
use Rattle.exact_search.specs.TooLarge.{above as above_search, too_large as search_too_large}
use Rattle.verify_core.specs.declared.judge.Checked.{Checked}
use Rattle.verify_core.specs.declared.fault.CheckFault.{CheckFault}
use Rattle.verify_core.specs.declared.verify_fault.Count.{Count}
use Rattle.verify_core.specs.declared.verify_fault.Count.TheVariants as verify_counts
use Rattle.verify_core.specs.declared.verify_fault.VerifyFault.{VerifyFault}
use Rattle.verify_core.specs.declared.verify_fault.VerifyFault.TheVariants.{TooLarge}
use Rattle.verify_core.specs.Judging.{Judges}
use Rattle.verify_core.specs.Verifying.{above, too_large as verify_too_large, JudgesCertificate, IsVerified, IsLeastText}
use Rattle.request_words.specs.declared.file.File.TheVariants as files
use Rattle.request_words.specs.Request.{Asked, Search, compile, check, verify, report, load, request_of}
use Rattle.run_answers.specs.declared.answer.Answer.{Answer}
use Rattle.run_answers.specs.declared.answer.Answer.TheVariants as answers
use Rattle.run_stages.specs.declared.inputs.Inputs.{Inputs}
use Rattle.run_stages.specs.Work.{Work, make, fewest, judged, reported, verified, loaded, Ends, EndsSearch}
use Rattle.run_stages.specs.Stages.{Is, Then}
use Rattle.run_stages.specs.Found.{Found}
use Rattle.run_stages.specs.Prepare.{bytes_of, or_refuse, check_refusal, verify_refusal, setting_with, inputs_of, InputsOf, Routed, within_search, as_judged, JudgedFor, CheckedIn, within_verify, as_certified, CertifiedIn, CertifiedOf, VerifiedIn, VerifiedOf, Comes, Prepares}
use Rattle.run_stages.proofs.Stages.{then_ok}
use Rattle.program_run.specs.Run.{Devices, Writes}
use Rattle.program_run.specs.RoundTrip.{IsFoundAgain, IsAccepted}
use Rattle.program_run.proofs.Went.{PlacedBy, went, asked_for, placed_by, routed_work, sought_work}
use Rattle.program_run.proofs.Compiled.{least_written}
use Rattle.program_run.proofs.RoundTrip.{IsReadAgain, circuit_right, trap_right, read_again, comes_by}

-- ---- where a verification comes to work

no_verified_make : (setting other : SettingValue) (steps : List (List Action)) → verified setting steps ≡ make other → ⊥
no_verified_make setting other steps e = cc

no_verified_fewest : (setting other : SettingValue) (steps : List (List Action)) (max budget : ℕ) → verified setting steps ≡ fewest other max budget → ⊥
no_verified_fewest setting other steps max budget e = cc

abbrev WorkOf : Type 0
WorkOf = SettingValue → List (List Action) → Work

same_work : (a b : Work) → ◌≡◌ {A = Result Work Answer} (Ok a) (Ok b) → a ≡ b
same_work a b e = cc

-- no schedule that was judged is verified work
no_judged : (work : WorkOf) (inputs : Inputs) (said : Result Checked CheckFault) (done : Work) → ((setting : SettingValue) (steps : List (List Action)) → done ≡ work setting steps → ⊥) → Ok done ≡ as_judged work inputs said → ⊥
no_judged work inputs (Ok checked) done other e = other (setting_of inputs.trap inputs.circuit checked.placement) checked.schedule (same_work done (work (setting_of inputs.trap inputs.circuit checked.placement) checked.schedule) e)
no_judged work inputs (Err fault) done other e = absurd cc

not_judged_for : (work : WorkOf) (found : Found) (done : Work) → ((setting : SettingValue) (steps : List (List Action)) → done ≡ work setting steps → ⊥) → JudgedFor work found (Ok done) → ⊥
not_judged_for work found done other stages =
    let inputs = went _ _ done stages in
    let bytes = went _ _ done inputs.continues in
    no_judged work inputs.x bytes.continues.judgement done other bytes.continues.outcome_is

same_checked : (a b : Checked) → ◌≡◌ {A = Result Checked Answer} (Ok a) (Ok b) → a ≡ b
same_checked a b e = cc

checked_as : (said : Result Checked CheckFault) (checked : Checked) → Ok checked ≡ or_refuse check_refusal said → said ≡ Ok checked
checked_as (Ok other) checked e = cc
checked_as (Err fault) checked e = absurd cc

within_as : (fault : Option VerifyFault) (checked next : Checked) → ◌≡◌ {A = Result Checked Answer} (Ok next) (option_map_or (λ f. Err (verify_refusal f)) fault (Ok checked)) → (fault ≡ None) × (next ≡ checked)
within_as None checked next e = (refl, same_checked next checked e)
within_as (Some fault) checked next e = absurd cc

-- the schedule that was read and judged, and its certificate
pub record VerifiedBy (inputs : Inputs) (setting : SettingValue) (steps : List (List Action)) : Type 0 where
  pub text : List ℕ
  pub checked : Checked
  pub judges : Judges inputs.trap inputs.circuit text (Ok checked)
  pub setting_is : setting ≡ setting_with inputs checked
  pub steps_is : steps ≡ checked.schedule
  pub cert : List ℕ
  pub is : IsVerified inputs.trap inputs.circuit text cert (length checked.schedule)

same_setting : (setting other : SettingValue) (steps more : List (List Action)) → verified setting steps ≡ verified other more → setting ≡ other
same_setting setting other steps more e = cc

same_steps : (setting other : SettingValue) (steps more : List (List Action)) → verified setting steps ≡ verified other more → steps ≡ more
same_steps setting other steps more e = cc

certified_by : (inputs : Inputs) (checked : Checked) (text cert : List ℕ) (setting : SettingValue) (steps : List (List Action)) (said : Result (Unit {0}) CertFault) → Judges inputs.trap inputs.circuit text (Ok checked)
    → verify_too_large (setting_with inputs checked) (length checked.schedule) ≡ None → JudgesCertificate (setting_with inputs checked) (length checked.schedule) cert said
    → Ok (verified setting steps) ≡ as_certified inputs checked said → VerifiedBy inputs setting steps
certified_by inputs checked text cert setting steps (Ok done) judges small certifies e =
    let same = same_work (verified setting steps) (verified (setting_with inputs checked) checked.schedule) e in
    record {
      text = text;
      checked = checked;
      judges = judges;
      setting_is = same_setting setting (setting_with inputs checked) steps checked.schedule same;
      steps_is = same_steps setting (setting_with inputs checked) steps checked.schedule same;
      cert = cert;
      is = record { checked = checked; schedule = record { legal = judges; small = small }; long = refl; is = certifies };
    }
certified_by inputs checked text cert setting steps (Err fault) judges small certifies e = absurd cc

verified_by : (certificate content : Option (List ℕ)) (inputs : Inputs) (setting : SettingValue) (steps : List (List Action)) → VerifiedOf content certificate inputs (Ok (verified setting steps)) → VerifiedBy inputs setting steps
verified_by certificate content inputs setting steps stages =
    let work = verified setting steps in
    let text = went _ _ work stages in
    let first = went _ _ work text.continues in
    let second = went _ _ work first.continues in
    let third = went _ _ work second.continues in
    let judges : Judges inputs.trap inputs.circuit text.x (Ok first.x) = subst (Judges inputs.trap inputs.circuit text.x) (checked_as first.is.judgement first.x first.is.outcome_is) first.is.is in
    let within = within_as (verify_too_large (setting_with inputs first.x) (length first.x.schedule)) first.x second.x second.is in
    let last = subst (λ (c : Checked). CertifiedIn inputs c third.x (Ok work)) within.1 third.continues in
    certified_by inputs first.x text.x third.x setting steps last.judgement judges within.0 last.is last.outcome_is

abbrev pub AcceptedAreLeast : Type 0
AcceptedAreLeast = (trap : TrapValue) (circuit : CircuitValue) (text bytes : List ℕ) (steps : ℕ) → IsTrap trap → IsCircuit circuit → IsVerified trap circuit text bytes steps → IsLeastText trap circuit text steps

-- the least text is that of the schedule that was read
read_is_least : (inputs : Inputs) (text : List ℕ) (checked : Checked) (steps : ℕ) → Judges inputs.trap inputs.circuit text (Ok checked) → IsLeastText inputs.trap inputs.circuit text steps
    → IsLeast (setting_with inputs checked) checked.schedule
read_is_least inputs text checked steps judges least =
    let same = judges.text.only least.checked.placement least.checked.schedule least.is_text.spells in
    subst (λ (s : List (List Action)). IsLeast (setting_with inputs checked) s) same.1
    (subst (λ (p : List (List Qubit)). IsLeast (setting_of inputs.trap inputs.circuit p) least.checked.schedule) same.0 least.least)

least_by : AcceptedAreLeast → (inputs : Inputs) (setting : SettingValue) (steps : List (List Action)) → IsTrap inputs.trap → IsCircuit inputs.circuit → VerifiedBy inputs setting steps → IsLeast setting steps
least_by accepted inputs setting steps trap circuit by =
    let least = read_is_least inputs by.text by.checked (length by.checked.schedule) by.judges (accepted inputs.trap inputs.circuit by.text by.cert (length by.checked.schedule) trap circuit by.is) in
    subst (λ (s : SettingValue). IsLeast s steps) (sym by.setting_is) (subst (λ (s : List (List Action)). IsLeast (setting_with inputs by.checked) s) (sym by.steps_is) least)

same_inputs : (a b : Inputs) → ◌≡◌ {A = Result Inputs Answer} (Ok a) (Ok b) → a ≡ b
same_inputs a b e = cc

inputs_right : (found : Found) (inputs : Inputs) → InputsOf found.circuit found.trap (Ok inputs) → IsTrap inputs.trap × IsCircuit inputs.circuit
inputs_right found inputs are =
    let first = went _ _ inputs are in
    let second = went _ _ inputs first.continues in
    let same = same_inputs inputs (inputs_of first.x second.x) second.continues in
    let right = trap_right found.trap second.x second.is in
    let well = circuit_right found.circuit first.x first.is in
    subst (λ (i : Inputs). IsTrap i.trap × IsCircuit i.circuit) (sym same) (right.0, well)

no_verified_load : (setting : SettingValue) (steps : List (List Action)) (seed : ℕ) → ◌≡◌ {A = Result Work Answer} (Ok (verified setting steps)) (Ok (loaded seed)) → ⊥
no_verified_load setting steps seed e = cc

comes_least : AcceptedAreLeast → (found : Found) (asked : Asked) (setting : SettingValue) (steps : List (List Action)) → Comes found asked (Ok (verified setting steps)) → IsLeast setting steps
comes_least accepted found (compile circuit trap rule None) setting steps comes =
    let plan = placed_by found rule Routed (verified setting steps) comes in
    absurd (no_verified_make setting (setting_of plan.trap plan.circuit plan.placement) steps (routed_work (setting_of plan.trap plan.circuit plan.placement) (verified setting steps) plan.continues))
comes_least accepted found (compile circuit trap rule (Some exact)) setting steps comes =
    let plan = placed_by found rule (λ s. Is (within_search s exact)) (verified setting steps) comes in
    absurd (no_verified_fewest setting (setting_of plan.trap plan.circuit plan.placement) steps exact.max exact.budget
    ((sought_work (setting_of plan.trap plan.circuit plan.placement) exact (verified setting steps) plan.continues).1))
comes_least accepted found (check circuit trap schedule) setting steps comes = absurd (not_judged_for judged found (verified setting steps) (λ other more e. cc) comes)
comes_least accepted found (verify circuit trap schedule cert) setting steps comes =
    let inputs = went _ _ (verified setting steps) comes in
    let right = inputs_right found inputs.x inputs.is in
    least_by accepted inputs.x setting steps right.0 right.1 (verified_by found.certificate found.schedule inputs.x setting steps inputs.continues)
comes_least accepted found (report circuit trap schedule) setting steps comes = absurd (not_judged_for reported found (verified setting steps) (λ other more e. cc) comes)
comes_least accepted found (load seed schedule) setting steps comes = absurd (no_verified_load setting steps seed comes)

pub verified_least : AcceptedAreLeast → (found : Found) (words : List (List ℕ)) (setting : SettingValue) (steps : List (List Action)) → Prepares found words (Ok (verified setting steps)) → IsLeast setting steps
verified_least accepted found words setting steps prepares =
    let asked = went _ _ (verified setting steps) prepares in
    comes_least accepted found asked.x setting steps asked.continues

-- ---- the limits of a search and of a verification

some_none : {A : Type 0} (a : A) → ◌≡◌ {A = Option A} (Some a) None → ⊥
some_none a e = cc

limit_by : (b : Bool) (fault : ExactFault) (next : Option ExactFault) → cond b (Some fault) next ≡ None → (b ≡ false) × (next ≡ None)
limit_by true fault next e = absurd (some_none fault e)
limit_by false fault next e = (refl, e)

kept : (what : SearchCount) (limit count : ℕ) (next : Option ExactFault) → above_search what limit count next ≡ None → (count ≤ limit) × (next ≡ None)
kept what limit count next e = let parts = limit_by (ltb limit count) (exacts.TooLarge what count) next e in (ltb-false limit count parts.0, parts.1)

passed : (what : Count) (limit count : ℕ) (next : Option VerifyFault) → count ≤ limit → next ≡ None → above what limit count next ≡ None
passed what limit count next few rest = ap (λ (b : Bool). cond b (Some (TooLarge what count)) next) (le-ltb limit count few) ∙ rest

-- what is within the limits of a search
record IsWithinSearch (setting : SettingValue) (max : ℕ) : Type 0 where
  ions : ion_count setting ≤ 16
  places : place_count setting.trap ≤ 48
  ops : length setting.circuit.ops ≤ 200
  most : max ≤ 48

within_limits : (setting : SettingValue) (max : ℕ) → search_too_large setting max ≡ None → IsWithinSearch setting max
within_limits setting max none =
    let last = above_search search_counts.Max 48 max None in
    let third = above_search search_counts.Ops 200 (length setting.circuit.ops) last in
    let second = above_search search_counts.Places 48 (place_count setting.trap) third in
    let ions = kept search_counts.Ions 16 (ion_count setting) second none in
    let places = kept search_counts.Places 48 (place_count setting.trap) third ions.1 in
    let ops = kept search_counts.Ops 200 (length setting.circuit.ops) last places.1 in
    let most = kept search_counts.Max 48 max None ops.1 in
    record { ions = ions.0; places = places.0; ops = ops.0; most = most.0 }

-- with at most as many steps it is within those of a verification
pub within_both : (setting : SettingValue) (max steps : ℕ) → search_too_large setting max ≡ None → steps ≤ max → verify_too_large setting steps ≡ None
within_both setting max steps none few =
    let within = within_limits setting max none in
    let then_steps = above verify_counts.Steps 48 steps None in
    let then_ops = above verify_counts.Ops 200 (length setting.circuit.ops) then_steps in
    let then_places = above verify_counts.Places 48 (place_count setting.trap) then_ops in
    passed verify_counts.Ions 16 (ion_count setting) then_places within.ions
    (passed verify_counts.Places 48 (place_count setting.trap) then_ops within.places
    (passed verify_counts.Ops 200 (length setting.circuit.ops) then_steps within.ops
    (passed verify_counts.Steps 48 steps None (le_trans few within.most) refl)))

-- ---- what was written and put is verified

-- the certificate of the steps that were read
certified_again : (found : Found) (setting : SettingValue) (steps : List (List Action)) (text cert : List ℕ) (again : IsReadAgain found setting steps text) → verify_too_large setting (length steps) ≡ None
    → Certifies setting cert (length steps) → found.certificate ≡ Some cert → length cert ≤ 2 ^ 50
    → Then (InputsOf found.circuit found.trap) (VerifiedOf found.schedule found.certificate) (Ok (verified setting steps))
certified_again found setting steps text cert again small certifies there few =
    let inputs = again.inputs in
    let checked : Checked = record { placement = again.placement; schedule = steps } in
    let here = setting_with inputs checked in
    let work = verified here steps in
    let stages = λ (s : SettingValue). Then (InputsOf found.circuit found.trap) (VerifiedOf found.schedule found.certificate) (Ok (verified s steps)) in
    let within = subst (λ (s : SettingValue). verify_too_large s (length steps) ≡ None) again.setting_is small in
    let holds = subst (λ (s : SettingValue). Certifies s cert (length steps)) again.setting_is certifies in
    let fits : Ok checked ≡ within_verify inputs checked = sym (ap (λ (f : Option VerifyFault). option_map_or (λ x. Err (verify_refusal x)) f (Ok checked)) within) in
    let read : Ok cert ≡ ok_or found.certificate (answers.ReadFault files.Certificate) = sym (ap (λ (c : Option (List ℕ)). ok_or c (answers.ReadFault files.Certificate)) there) in
    subst stages (sym again.setting_is)
    (then_ok (InputsOf found.circuit found.trap) (VerifiedOf found.schedule found.certificate) inputs (Ok work) again.are
    (then_ok (Is (bytes_of files.Schedule found.schedule)) (VerifiedIn found.certificate inputs) text (Ok work) again.read
    (then_ok (CheckedIn inputs text) (λ c. Then (Is (within_verify inputs c)) (CertifiedOf found.certificate inputs)) checked (Ok work) (record { judgement = Ok checked; is = again.judges; outcome_is = refl })
    (then_ok (Is (within_verify inputs checked)) (CertifiedOf found.certificate inputs) checked (Ok work) fits
    (then_ok (Is (ok_or found.certificate (answers.ReadFault files.Certificate))) (CertifiedIn inputs checked) cert (Ok work) read
    (record { judgement = Ok tt; is = record { certifies = holds; within = few }; outcome_is = refl }))))))

abbrev pub HaveShortTexts : Type 0
HaveShortTexts = (trap : TrapValue) (circuit : CircuitValue) (placement : List (List Qubit)) (steps : List (List Action)) → IsTrap trap → IsCircuit circuit → IsPlacement trap circuit placement
    → Plays (setting_of trap circuit placement) steps → place_count trap ≤ 48 → length circuit.ops ≤ 200 → length steps ≤ 48 → length (schedule_text (setting_of trap circuit placement) steps) ≤ 2 ^ 30

-- the text of a schedule within the limits of a search is a file within the limit
text_fits : HaveShortTexts → (found : Found) (rule : PlaceRule) (next : SettingValue → Result Work Answer → Type 0) (work : Work) (plan : PlacedBy found rule next work) (max : ℕ) (steps : List (List Action))
    → search_too_large (setting_of plan.trap plan.circuit plan.placement) max ≡ None → Plays (setting_of plan.trap plan.circuit plan.placement) steps → length steps ≤ max
    → length (schedule_text (setting_of plan.trap plan.circuit plan.placement) steps) ≤ 2 ^ 30
text_fits short found rule next work plan max steps none plays few =
    let right = trap_right found.trap (plan.trap, plan.labels) plan.trap_is in
    let well = circuit_right found.circuit plan.circuit plan.circuit_is in
    let placed = rule_gives_placement plan.trap plan.circuit rule plan.labels plan.placement well right.1 plan.placement_is in
    let within = within_limits (setting_of plan.trap plan.circuit plan.placement) max none in
    short plan.trap plan.circuit plan.placement steps right.0 well placed plays within.places within.ops (le_trans few within.most)

pub certified_verified : HaveShortTexts → (found later : Found) (words verify_words : List (List ℕ)) (circuit trap circuit_again trap_again schedule cert : List ℕ) (rule : PlaceRule) (exact : Search) (before now : Devices)
    → request_of words ≡ Some (compile circuit trap rule (Some exact)) → request_of verify_words ≡ Some (verify circuit_again trap_again schedule cert)
    → (wrote : Writes found words answers.Ok before now) → IsFoundAgain found later wrote.ending.text
    → later.certificate ≡ wrote.ending.put → IfSome wrote.ending.put (λ bytes. length bytes ≤ 2 ^ 50) → IsAccepted verified later verify_words wrote.ending.text
certified_verified short found later words verify_words circuit trap circuit_again trap_again schedule cert rule exact before now request verify_request wrote there cert_there cert_few =
    let next = λ (s : SettingValue). Is (within_search s exact) in
    let work = wrote.done.work in
    let plan = placed_by found rule next work (asked_for found words (compile circuit trap rule (Some exact)) work request wrote.done.is) in
    let setting = setting_of plan.trap plan.circuit plan.placement in
    let sought = sought_work setting exact work plan.continues in
    let ends : EndsSearch setting exact.max exact.budget answers.Ok wrote.ending = subst (λ (w : Work). Ends w answers.Ok wrote.ending) sought.1 wrote.done.ends in
    let is = least_written setting exact.max exact.budget wrote.ending ends in
    let steps = is.schedule in
    let few = subst (λ (text : List ℕ). length text ≤ 2 ^ 30) (sym is.text_is) (text_fits short found rule next work plan exact.max steps sought.0 is.shown.least.plays is.shown.within) in
    let read = read_again found later rule next work plan setting steps wrote.ending.text refl is.shown.least.plays is.text_is there.circuit there.trap there.schedule few in
    record {
      setting = setting;
      steps = steps;
      judges = comes_by later verify_words (verify circuit_again trap_again schedule cert) (verified setting steps) verify_request
          (certified_again later setting steps wrote.ending.text is.put read (within_both setting exact.max (length steps) sought.0 is.shown.within) is.shown.certifies (cert_there ∙ is.put_is)
          (subst (λ (put : Option (List ℕ)). IfSome put (λ bytes. length bytes ≤ 2 ^ 50)) is.put_is cert_few));
      text_is = is.text_is;
    }
