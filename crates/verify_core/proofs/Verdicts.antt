-- A text and the bytes of a certificate have one verdict, and what is verified is least.
use Rattle.std.proofs.Common.{◌≡◌, ℕ, Bool, true, false, cond, zero, suc, ◌-◌, ◌^◌, ◌<◌, ◌≤◌, List, inl, inr, length, Some, None, Ok, Err, refl, sym, ap, ◌∙◌, subst, arith}
use Rattle.std.specs.Prelude.{Option, Result}
use Rattle.std.proofs.Math.Dec.{ltb}
use Rattle.std.proofs.lemmas.Bool.{cases_lt, ltb-false}
use Rattle.sat_base.specs.Certificate.{head_text}
use Rattle.sat_base.proofs.Deriving.{AreDerived-good, lines_refute}
use Rattle.circuit_core.specs.Circuit.{CircuitValue, IsCircuit}
use Rattle.trap_parts.specs.Parts.{TrapValue}
use Rattle.trap_model.specs.Trap.{place_count}
use Rattle.trap_parts.specs.Build.{IsTrap}
use Rattle.step_rules.specs.declared.action.Action.{Action}
use Rattle.step_rules.specs.Setting.{SettingValue, setting_of}
use Rattle.step_rules.specs.Play.{Plays}
use Rattle.derivation_check.specs.declared.cert_fault.CertFault.{CertFault}
use Rattle.derivation_check.specs.Faults.{IsSmall as IsSmallTask}
use Rattle.step_vars.specs.declared.encoding.Encoding.{Encoding}
use Rattle.step_vars.specs.Lists.{ion_count}
use Rattle.step_vars.specs.Encoding.{IsSmall, encoding_of, goal_literal}
use Rattle.step_facts.specs.Run.{IsSetting}
use Rattle.step_models.specs.Models.{EveryScheduleFits, PartsAreSmall}
use Rattle.step_vars.specs.Certifies.{vars_up_to, head_of, asked, IsRefutation, Certifies}
use Rattle.step_vars.proofs.OfSetting.{small_before}
use Rattle.verify_core.specs.declared.judge.Checked.{Checked}
use Rattle.verify_core.specs.declared.fault.CheckFault.{CheckFault}
use Rattle.verify_core.specs.declared.verification.TheConstants.{LIMIT}
use Rattle.verify_core.specs.declared.verify_fault.Count.{Count}
use Rattle.verify_core.specs.declared.verify_fault.Count.TheVariants.{Ions, Places, Ops, Steps}
use Rattle.verify_core.specs.declared.verify_fault.VerifyFault.{VerifyFault}
use Rattle.verify_core.specs.declared.verify_fault.VerifyFault.TheVariants.{Check, TooLarge, Failed, Cert, NoMemory}
use Rattle.verify_core.specs.Judging.{IsLegalText, Judges}
use Rattle.verify_core.specs.Verifying.{above, too_large, task_for, HasCertFault, IsAcceptedCertificate, IsWithinLimits, IsVerified, IsUncertified, Verifies, IsLeastText}
use Rattle.verify_core.proofs.Judging.{OneFault, NotBoth, judged_once}
use Rattle.verify_core.proofs.Certificates.{not_refused, one_fault}

-- the variables and the clauses that a certificate of the text is checked over can be numbered by 31 and 64
-- bits
abbrev pub HaveSmallTasks : TrapValue → CircuitValue → List ℕ → Type 0
HaveSmallTasks trap circuit text =
    (checked : Checked) → IsWithinLimits trap circuit text checked
    → (encoding : Encoding) (bound : ℕ) → length checked.schedule ≡ suc bound
    → IsSmallTask (task_for (setting_of trap circuit checked.placement) encoding bound)

ok_is : (a b : Checked) → ◌≡◌ {A = Result Checked CheckFault} (Ok a) (Ok b) → a ≡ b
ok_is a b e = cc

err_is : (a b : CheckFault) → ◌≡◌ {A = Result Checked CheckFault} (Err a) (Err b) → a ≡ b
err_is a b e = cc

ok_err : (a : Checked) (fault : CheckFault) → ◌≡◌ {A = Result Checked CheckFault} (Ok a) (Err fault) → ⊥
ok_err a fault e = cc

some_is : {A : Type 0} → (a b : A) → Some a ≡ Some b → a ≡ b
some_is a b e = cc

some_none : {A : Type 0} → (a : A) → Some a ≡ None → ⊥
some_none a e = cc

none_some : {A : Type 0} → (a : A) → None ≡ Some a → ⊥
none_some a e = cc

-- ---- within the limits

limit_by : (b : Bool) (fault : VerifyFault) (next : Option VerifyFault) → cond b (Some fault) next ≡ None → (b ≡ false) × (next ≡ None)
limit_by true fault next e = absurd (some_none fault e)
limit_by false fault next e = (refl, e)

limit_kept : (what : Count) (limit count : ℕ) (next : Option VerifyFault) → above what limit count next ≡ None → (count ≤ limit) × (next ≡ None)
limit_kept what limit count next e = let parts = limit_by (ltb limit count) (TooLarge what count) next e in (ltb-false limit count parts.0, parts.1)

pub within_limits : (setting : SettingValue) (steps : ℕ) → too_large setting steps ≡ None → IsSmall setting steps
within_limits setting steps e =
    let ions = limit_kept Ions 16 (ion_count setting) (above Places 48 (place_count setting.trap) (above Ops 200 (length setting.circuit.ops) (above Steps 48 steps None))) e in
    let places = limit_kept Places 48 (place_count setting.trap) (above Ops 200 (length setting.circuit.ops) (above Steps 48 steps None)) ions.1 in
    let ops = limit_kept Ops 200 (length setting.circuit.ops) (above Steps 48 steps None) places.1 in
    let time = limit_kept Steps 48 steps None ops.1 in
    record { ions = ions.0; places = places.0; ops = ops.0; time = time.0 }

-- ---- one verdict

-- the texts are judged alike
same_checked : (one : OneFault) (not_both : NotBoth) (trap : TrapValue) (circuit : CircuitValue) (text : List ℕ) (a b : Checked) → IsLegalText trap circuit text a → IsLegalText trap circuit text b → a ≡ b
same_checked one not_both trap circuit text a b x y = ok_is a b (judged_once one not_both trap circuit text (Ok a) (Ok b) x y)

not_judged : (one : OneFault) (not_both : NotBoth) (trap : TrapValue) (circuit : CircuitValue) (text : List ℕ) (a : Checked) (fault : CheckFault) → IsLegalText trap circuit text a → Judges trap circuit text (Err fault) → ⊥
not_judged one not_both trap circuit text a fault x y = ok_err a fault (judged_once one not_both trap circuit text (Ok a) (Err fault) x y)

abbrev setting_at : TrapValue → CircuitValue → Checked → SettingValue
setting_at trap circuit checked = setting_of trap circuit checked.placement

accepted : (trap : TrapValue) (circuit : CircuitValue) (text bytes : List ℕ) (steps : ℕ) → (has : IsVerified trap circuit text bytes steps)
    → IsAcceptedCertificate (setting_at trap circuit has.checked) (length has.checked.schedule) bytes
accepted trap circuit text bytes steps has =
    subst (λ (n : ℕ). IsAcceptedCertificate (setting_at trap circuit has.checked) n bytes) (sym has.long) has.is

not_too_large : (trap : TrapValue) (circuit : CircuitValue) (text : List ℕ) (a b : Checked) (fault : VerifyFault) → a ≡ b → IsWithinLimits trap circuit text a
    → too_large (setting_at trap circuit b) (length b.schedule) ≡ Some fault → ⊥
not_too_large trap circuit text a b fault same has e =
    none_some fault (sym has.small ∙ ap (λ (checked : Checked). too_large (setting_at trap circuit checked) (length checked.schedule)) same ∙ e)

verified_refused : (one : OneFault) (not_both : NotBoth) (trap : TrapValue) (circuit : CircuitValue) (text bytes : List ℕ) (steps : ℕ) (fault : CertFault)
    → HaveSmallTasks trap circuit text → IsVerified trap circuit text bytes steps → IsUncertified trap circuit text bytes fault → ⊥
verified_refused one not_both trap circuit text bytes steps fault small x y =
    let same = same_checked one not_both trap circuit text y.checked x.checked y.schedule.legal x.schedule.legal in
    let moved = subst (λ (checked : Checked). HasCertFault (setting_at trap circuit checked) (length checked.schedule) bytes fault) same y.is in
    not_refused (setting_at trap circuit x.checked) (length x.checked.schedule) bytes fault (λ encoding rest head. small x.checked x.schedule encoding) (accepted trap circuit text bytes steps x) moved

-- a text and the bytes of a certificate have one verdict
pub one_verdict_each : (one : OneFault) (not_both : NotBoth) (trap : TrapValue) (circuit : CircuitValue) (text bytes : List ℕ) (a b : Result ℕ VerifyFault)
    → HaveSmallTasks trap circuit text → Verifies trap circuit text bytes a → Verifies trap circuit text bytes b → a ≡ b
one_verdict_each one not_both trap circuit text bytes (Ok m) (Ok n) small x y =
    let same = same_checked one not_both trap circuit text x.checked y.checked x.schedule.legal y.schedule.legal in
    ap (λ (k : ℕ). Ok k) (sym x.long ∙ ap (λ (checked : Checked). length checked.schedule) same ∙ y.long)
one_verdict_each one not_both trap circuit text bytes (Ok m) (Err (Check fault)) small x y = absurd (not_judged one not_both trap circuit text x.checked fault x.schedule.legal y)
one_verdict_each one not_both trap circuit text bytes (Ok m) (Err (TooLarge what count)) small x y =
    absurd (not_too_large trap circuit text x.checked y.checked (TooLarge what count) (same_checked one not_both trap circuit text x.checked y.checked x.schedule.legal y.legal) x.schedule y.is)
one_verdict_each one not_both trap circuit text bytes (Ok m) (Err (Cert fault)) small x y = absurd (verified_refused one not_both trap circuit text bytes m fault small x y)
one_verdict_each one not_both trap circuit text bytes (Ok m) (Err Failed) small x y = absurd y
one_verdict_each one not_both trap circuit text bytes (Ok m) (Err NoMemory) small x y = absurd y
one_verdict_each one not_both trap circuit text bytes (Err (Check fault)) (Ok n) small x y = absurd (not_judged one not_both trap circuit text y.checked fault y.schedule.legal x)
one_verdict_each one not_both trap circuit text bytes (Err (Check fault)) (Err (Check other)) small x y =
    ap (λ (f : CheckFault). Err (Check f)) (err_is fault other (judged_once one not_both trap circuit text (Err fault) (Err other) x y))
one_verdict_each one not_both trap circuit text bytes (Err (Check fault)) (Err (TooLarge what count)) small x y = absurd (not_judged one not_both trap circuit text y.checked fault y.legal x)
one_verdict_each one not_both trap circuit text bytes (Err (Check fault)) (Err (Cert other)) small x y = absurd (not_judged one not_both trap circuit text y.checked fault y.schedule.legal x)
one_verdict_each one not_both trap circuit text bytes (Err (Check fault)) (Err Failed) small x y = absurd y
one_verdict_each one not_both trap circuit text bytes (Err (Check fault)) (Err NoMemory) small x y = absurd y
one_verdict_each one not_both trap circuit text bytes (Err (TooLarge what count)) (Ok n) small x y =
    absurd (not_too_large trap circuit text y.checked x.checked (TooLarge what count) (same_checked one not_both trap circuit text y.checked x.checked y.schedule.legal x.legal) y.schedule x.is)
one_verdict_each one not_both trap circuit text bytes (Err (TooLarge what count)) (Err (Check fault)) small x y = absurd (not_judged one not_both trap circuit text x.checked fault x.legal y)
one_verdict_each one not_both trap circuit text bytes (Err (TooLarge what count)) (Err (TooLarge other more)) small x y =
    let same = same_checked one not_both trap circuit text x.checked y.checked x.legal y.legal in
    ap (λ (f : VerifyFault). Err f) (some_is (TooLarge what count) (TooLarge other more)
    (sym x.is ∙ ap (λ (checked : Checked). too_large (setting_at trap circuit checked) (length checked.schedule)) same ∙ y.is))
one_verdict_each one not_both trap circuit text bytes (Err (TooLarge what count)) (Err (Cert fault)) small x y =
    absurd (not_too_large trap circuit text y.checked x.checked (TooLarge what count) (same_checked one not_both trap circuit text y.checked x.checked y.schedule.legal x.legal) y.schedule x.is)
one_verdict_each one not_both trap circuit text bytes (Err (TooLarge what count)) (Err Failed) small x y = absurd y
one_verdict_each one not_both trap circuit text bytes (Err (TooLarge what count)) (Err NoMemory) small x y = absurd y
one_verdict_each one not_both trap circuit text bytes (Err (Cert fault)) (Ok n) small x y = absurd (verified_refused one not_both trap circuit text bytes n fault small y x)
one_verdict_each one not_both trap circuit text bytes (Err (Cert fault)) (Err (Check other)) small x y = absurd (not_judged one not_both trap circuit text x.checked other x.schedule.legal y)
one_verdict_each one not_both trap circuit text bytes (Err (Cert fault)) (Err (TooLarge what count)) small x y =
    absurd (not_too_large trap circuit text x.checked y.checked (TooLarge what count) (same_checked one not_both trap circuit text x.checked y.checked x.schedule.legal y.legal) x.schedule y.is)
one_verdict_each one not_both trap circuit text bytes (Err (Cert fault)) (Err (Cert other)) small x y =
    let same = same_checked one not_both trap circuit text x.checked y.checked x.schedule.legal y.schedule.legal in
    let moved = subst (λ (checked : Checked). HasCertFault (setting_at trap circuit checked) (length checked.schedule) bytes other) (sym same) y.is in
    ap (λ (f : CertFault). Err (Cert f)) (one_fault (setting_at trap circuit x.checked) (length x.checked.schedule) bytes fault other (λ encoding rest head. small x.checked x.schedule encoding) x.is moved)
one_verdict_each one not_both trap circuit text bytes (Err (Cert fault)) (Err Failed) small x y = absurd y
one_verdict_each one not_both trap circuit text bytes (Err (Cert fault)) (Err NoMemory) small x y = absurd y
one_verdict_each one not_both trap circuit text bytes (Err Failed) b small x y = absurd x
one_verdict_each one not_both trap circuit text bytes (Err NoMemory) b small x y = absurd x

-- ---- what is verified is least

none_fits : (setting : SettingValue) (bound : ℕ) (bytes : List ℕ) → (has : IsRefutation setting bytes bound) → EveryScheduleFits setting has.encoding bound
    → (other : List (List Action)) → Plays setting other → length other ≤ bound → ⊥
none_fits setting bound bytes has fits other plays short =
    let fit = fits other plays short in
    let derived = AreDerived-good (vars_up_to setting has.encoding bound) (encoding_of setting has.encoding bound) has.lines has.good in
    lines_refute fit.values (encoding_of setting has.encoding bound) has.lines (goal_literal setting has.encoding bound) derived has.refutes fit.model.clauses fit.model.goal

none_fewer : (setting : SettingValue) (steps : ℕ) (bytes : List ℕ) → Certifies setting bytes steps → ((encoding : Encoding) (bound : ℕ) → steps ≡ suc bound → EveryScheduleFits setting encoding bound)
    → (other : List (List Action)) → Plays setting other → length other < steps → ⊥
none_fewer setting zero bytes has fits other plays less = absurd (omega arith)
none_fewer setting (suc bound) bytes has fits other plays less = none_fits setting bound bytes has (fits has.encoding bound refl) other plays (omega arith)

-- every schedule of every setting within the limits has a model
abbrev pub AllFit : Type 0
AllFit = (setting : SettingValue) (encoding : Encoding) (t : ℕ) → IsSetting setting → IsSmall setting t → EveryScheduleFits setting encoding t

every_fits : AllFit → (trap : TrapValue) (circuit : CircuitValue) (text : List ℕ) (checked : Checked) → IsTrap trap → IsCircuit circuit → IsWithinLimits trap circuit text checked
    → (encoding : Encoding) (bound : ℕ) → length checked.schedule ≡ suc bound → EveryScheduleFits (setting_at trap circuit checked) encoding bound
every_fits fits trap circuit text checked is_trap is_circuit within encoding bound e =
    let setting = setting_at trap circuit checked in
    let long = length checked.schedule in
    let sound : IsSetting setting = record { trap = is_trap; circuit = is_circuit; placement = within.legal.text.spells.placed } in
    fits setting encoding bound sound (small_before setting long bound (omega (arith, e)) (within_limits setting long within.small))

pub verified_is_least : (trap : TrapValue) (circuit : CircuitValue) (text bytes : List ℕ) (steps : ℕ) → AllFit → IsTrap trap → IsCircuit circuit → IsVerified trap circuit text bytes steps
    → IsLeastText trap circuit text steps
verified_is_least trap circuit text bytes steps all is_trap is_circuit has =
    let checked = has.checked in
    let fits = every_fits all trap circuit text checked is_trap is_circuit has.schedule in
    let setting = setting_at trap circuit checked in
    let long = length checked.schedule in
    let accepts = accepted trap circuit text bytes steps has in
    record {
      checked = checked;
      is_text = has.schedule.legal.text;
      least = record {
        plays = has.schedule.legal.plays;
        least = λ other plays. elim (cases_lt (length other) long) [
          | inl less ↦ absurd (none_fewer setting long bytes accepts.certifies fits other plays less)
          | inr more ↦ more
        ];
      };
      long = has.long;
    }

-- ---- what a certificate is checked over is small

-- the parts of every setting within the limits are small
abbrev pub AllAreSmall : Type 0
AllAreSmall = (setting : SettingValue) (encoding : Encoding) (t : ℕ) → IsSetting setting → IsSmall setting t
    → PartsAreSmall setting encoding t

pub tasks_are_small : AllAreSmall → (trap : TrapValue) (circuit : CircuitValue) (text : List ℕ) → IsTrap trap
    → IsCircuit circuit → HaveSmallTasks trap circuit text
tasks_are_small all trap circuit text is_trap is_circuit checked within encoding bound e =
    let setting = setting_of trap circuit checked.placement in
    let long = length checked.schedule in
    let sound : IsSetting setting =
    record { trap = is_trap; circuit = is_circuit; placement = within.legal.text.spells.placed } in
    let parts = all setting encoding bound sound
    (small_before setting long bound (omega (arith, e)) (within_limits setting long within.small)) in
    let limit : LIMIT - length (head_text (head_of encoding (asked (suc bound)))) ≤ 2 ^ 50 = omega arith in
    record { vars = parts.vars; lines = omega (arith, parts.clauses, limit) }
