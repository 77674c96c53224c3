-- A text is judged in one way.
use Rattle.std.proofs.Common.{◌≡◌, ℕ, ◌+◌, ◌≤◌, ◌<◌, List, Ok, Err, sym, ap, ◌∙◌, subst, inl, inr, arith, [], ◌∷◌, ◌++◌, length, length-append}
use Rattle.std.specs.Prelude.{Result, codes, decimal}
use Rattle.std.specs.List.{flat_map}
use Rattle.std.proofs.lemmas.Bool.{cases_lt}
use Rattle.qc_base.specs.declared.ids.Qubit.{Qubit}
use Rattle.circuit_core.specs.Circuit.{CircuitValue}
use Rattle.trap_parts.specs.Parts.{TrapValue}
use Rattle.step_rules.specs.declared.action.Action.{Action}
use Rattle.step_rules.specs.declared.action.Action.TheVariants as actions
use Rattle.step_rules.specs.Setting.{SettingValue, setting_of}
use Rattle.step_rules.specs.Play.{Plays, actions_of}
use Rattle.schedule_play.specs.declared.fault.PlayFault.{PlayFault}
use Rattle.schedule_play.specs.declared.fault.PlayFault.TheVariants as plays
use Rattle.schedule_play.specs.Faults.{IsFault, Explains}
use Rattle.schedule_text.specs.declared.text_fault.TextFault.{TextFault}
use Rattle.schedule_text.specs.declared.text_fault.TextFault.TheVariants as texts
use Rattle.schedule_text.specs.Text.{place_lines, action_line, step_lines}
use Rattle.schedule_text.specs.Reading.{Spells, Refuses, IsBadLine}
use Rattle.verify_core.specs.declared.judge.Checked.{Checked}
use Rattle.verify_core.specs.declared.fault.CheckFault.{CheckFault}
use Rattle.verify_core.specs.declared.fault.CheckFault.TheVariants.{Text, Illegal, NoMemory}
use Rattle.verify_core.specs.Judging.{IsTextOf, IsLegalText, IsIllegalText, Judges, JudgesUnlessMemory, bad_text, illegal}

-- ---- one first bad line

lower_bad : (trap : TrapValue) (circuit : CircuitValue) (bytes : List ℕ) (a b : ℕ) → IsBadLine trap circuit bytes a → IsBadLine trap circuit bytes b → a < b → ⊥
lower_bad trap circuit bytes a b first second less = first.bad (omega (arith, second.within)) (second.before a first.counted less)

antisymmetric : (m n : ℕ) → (m < n → ⊥) → (n < m → ⊥) → m ≡ n
antisymmetric m n below above =
    elim (cases_lt m n) [
      | inl less ↦ absurd (below less)
      | inr more ↦ elim (cases_lt n m) [
        | inl less ↦ absurd (above less)
        | inr other ↦ omega (arith, more, other)
      ]
    ]

one_bad_line : (trap : TrapValue) (circuit : CircuitValue) (bytes : List ℕ) (a b : ℕ) → IsBadLine trap circuit bytes a → IsBadLine trap circuit bytes b → a ≡ b
one_bad_line trap circuit bytes a b first second = antisymmetric a b (λ less. lower_bad trap circuit bytes a b first second less) (λ less. lower_bad trap circuit bytes b a second first less)

-- ---- one judgement

-- a schedule has one first fault
abbrev pub OneFault : Type 0
OneFault = (setting : SettingValue) (steps : List (List Action)) (a b : PlayFault) → IsFault setting steps a → IsFault setting steps b → a ≡ b

-- a schedule that plays has none
abbrev pub NotBoth : Type 0
NotBoth = (setting : SettingValue) (steps : List (List Action)) (fault : PlayFault) → IsFault setting steps fault → Plays setting steps → ⊥

no_text : (trap : TrapValue) (circuit : CircuitValue) (bytes : List ℕ) (line : ℕ) (placement : List (List Qubit)) (steps : List (List Action)) → IsBadLine trap circuit bytes line → IsTextOf trap circuit bytes placement steps → ⊥
no_text trap circuit bytes line placement steps bad text = bad.none (record { placement = placement; steps = steps; spells = text.spells })

same_checked : (a b : Checked) → a.placement ≡ b.placement → a.schedule ≡ b.schedule → a ≡ b
same_checked a b placement schedule =
    ap (λ (p : List (List Qubit)). record { placement = p; schedule = a.schedule }) placement ∙ ap (λ (s : List (List Action)). record { placement = b.placement; schedule = s }) schedule

-- a fault of the pair that a text is of is a fault of the pair that it is found to be of
moved : (trap : TrapValue) (circuit : CircuitValue) (bytes : List ℕ) (placement : List (List Qubit)) (steps : List (List Action)) (fault : PlayFault) → IsTextOf trap circuit bytes placement steps → IsIllegalText trap circuit bytes fault
    → IsFault (setting_of trap circuit placement) steps fault
moved trap circuit bytes placement steps fault text has =
    let same = text.only has.placement has.steps has.text.spells in
    subst (λ (s : List (List Action)). IsFault (setting_of trap circuit placement) s fault) same.1 (subst (λ (p : List (List Qubit)). IsFault (setting_of trap circuit p) has.steps fault) same.0 has.is)

both : (one : OneFault) (not_both : NotBoth) (trap : TrapValue) (circuit : CircuitValue) (bytes : List ℕ) (checked : Checked) (fault : PlayFault) → IsLegalText trap circuit bytes checked → IsIllegalText trap circuit bytes fault → ⊥
both one not_both trap circuit bytes checked fault legal has =
    not_both (setting_of trap circuit checked.placement) checked.schedule fault (moved trap circuit bytes checked.placement checked.schedule fault legal.text has) legal.plays

pub judged_once : (one : OneFault) (not_both : NotBoth) (trap : TrapValue) (circuit : CircuitValue) (bytes : List ℕ) (a b : Result Checked CheckFault) → Judges trap circuit bytes a → Judges trap circuit bytes b → a ≡ b
judged_once one not_both trap circuit bytes (Ok a) (Ok b) p q = let same = q.text.only a.placement a.schedule p.text.spells in ap Ok (same_checked a b same.0 same.1)
judged_once one not_both trap circuit bytes (Ok a) (Err (Text line)) p q = absurd (no_text trap circuit bytes line a.placement a.schedule q p.text)
judged_once one not_both trap circuit bytes (Ok a) (Err (Illegal fault)) p q = absurd (both one not_both trap circuit bytes a fault p q)
judged_once one not_both trap circuit bytes (Ok a) (Err NoMemory) p q = absurd q
judged_once one not_both trap circuit bytes (Err (Text line)) (Ok b) p q = absurd (no_text trap circuit bytes line b.placement b.schedule p q.text)
judged_once one not_both trap circuit bytes (Err (Text line)) (Err (Text other)) p q = ap (λ (n : ℕ). Err (Text n)) (one_bad_line trap circuit bytes line other p q)
judged_once one not_both trap circuit bytes (Err (Text line)) (Err (Illegal fault)) p q = absurd (no_text trap circuit bytes line q.placement q.steps p q.text)
judged_once one not_both trap circuit bytes (Err (Text line)) (Err NoMemory) p q = absurd q
judged_once one not_both trap circuit bytes (Err (Illegal fault)) (Ok b) p q = absurd (both one not_both trap circuit bytes b fault q p)
judged_once one not_both trap circuit bytes (Err (Illegal fault)) (Err (Text line)) p q = absurd (no_text trap circuit bytes line p.placement p.steps q p.text)
judged_once one not_both trap circuit bytes (Err (Illegal fault)) (Err (Illegal other)) p q =
    ap (λ (f : PlayFault). Err (Illegal f)) (one (setting_of trap circuit p.placement) p.steps fault other p.is (moved trap circuit bytes p.placement p.steps other p.text q))
judged_once one not_both trap circuit bytes (Err (Illegal fault)) (Err NoMemory) p q = absurd q
judged_once one not_both trap circuit bytes (Err NoMemory) b p q = absurd p

-- ---- what the reader and the simulator answer

refused_by : (trap : TrapValue) (circuit : CircuitValue) (bytes : List ℕ) (fault : TextFault) → Refuses trap circuit bytes fault → JudgesUnlessMemory trap circuit bytes (Err (bad_text fault))
refused_by trap circuit bytes (texts.Line number) bad = bad
refused_by trap circuit bytes texts.NoMemory bad = tt

pub refused : (trap : TrapValue) (circuit : CircuitValue) (bytes : List ℕ) (fault : TextFault) (outcome : Result Checked CheckFault) → Refuses trap circuit bytes fault → outcome ≡ Err (bad_text fault) → JudgesUnlessMemory trap circuit bytes outcome
refused trap circuit bytes fault outcome refuses is = subst (JudgesUnlessMemory trap circuit bytes) (sym is) (refused_by trap circuit bytes fault refuses)

faulty : (trap : TrapValue) (circuit : CircuitValue) (bytes : List ℕ) (placement : List (List Qubit)) (steps : List (List Action)) (fault : PlayFault) → IsTextOf trap circuit bytes placement steps
    → IsFault (setting_of trap circuit placement) steps fault → IsIllegalText trap circuit bytes fault
faulty trap circuit bytes placement steps fault text is = record { placement = placement; steps = steps; text = text; is = is }

illegal_by : (trap : TrapValue) (circuit : CircuitValue) (bytes : List ℕ) (placement : List (List Qubit)) (steps : List (List Action)) (fault : PlayFault) → IsTextOf trap circuit bytes placement steps
    → Explains (setting_of trap circuit placement) steps fault → JudgesUnlessMemory trap circuit bytes (Err (illegal fault))
illegal_by trap circuit bytes placement steps (plays.Broken step action rule) text is = faulty trap circuit bytes placement steps (plays.Broken step action rule) text is
illegal_by trap circuit bytes placement steps (plays.Shared step first second) text is = faulty trap circuit bytes placement steps (plays.Shared step first second) text is
illegal_by trap circuit bytes placement steps (plays.Early step op needs) text is = faulty trap circuit bytes placement steps (plays.Early step op needs) text is
illegal_by trap circuit bytes placement steps (plays.Twice step op) text is = faulty trap circuit bytes placement steps (plays.Twice step op) text is
illegal_by trap circuit bytes placement steps (plays.Missing op) text is = faulty trap circuit bytes placement steps (plays.Missing op) text is
illegal_by trap circuit bytes placement steps plays.NoMemory text is = tt

pub not_played : (trap : TrapValue) (circuit : CircuitValue) (bytes : List ℕ) (placement : List (List Qubit)) (steps : List (List Action)) (fault : PlayFault) (outcome : Result Checked CheckFault)
    → IsTextOf trap circuit bytes placement steps → Explains (setting_of trap circuit placement) steps fault → outcome ≡ Err (illegal fault) → JudgesUnlessMemory trap circuit bytes outcome
not_played trap circuit bytes placement steps fault outcome text explains is = subst (JudgesUnlessMemory trap circuit bytes) (sym is) (illegal_by trap circuit bytes placement steps fault text explains)

-- ---- each action has a byte of its text at least

line_some : (setting : SettingValue) (action : Action) → 1 ≤ length (action_line setting action)
line_some setting (actions.Split zone end count) = omega arith
line_some setting (actions.Move from to) = omega arith
line_some setting (actions.Cross junction from to) = omega arith
line_some setting (actions.Merge zone end) = omega arith
line_some setting (actions.Swap zone index) = omega arith
line_some setting (actions.Op zone op) = omega arith

step_some : (setting : SettingValue) (step : List Action) → length step ≤ length (flat_map (action_line setting) step)
step_some setting [] = omega arith
step_some setting (action ∷ step) = omega (arith, line_some setting action, step_some setting step, length-append (action_line setting action) (flat_map (action_line setting) step))

steps_some : (setting : SettingValue) (number : ℕ) (steps : List (List Action)) → length (actions_of steps) ≤ length (step_lines setting number steps)
steps_some setting number [] = omega arith
steps_some setting number (step ∷ steps) =
    let head = codes "step " ++ decimal number ++ codes "\n" in
    let step_text = flat_map (action_line setting) step in
    let rest = step_lines setting (number + 1) steps in
    omega (arith, step_some setting step, steps_some setting (number + 1) steps, length-append step (actions_of steps), length-append (head ++ step_text) rest, length-append head step_text)

pub few_actions : (trap : TrapValue) (circuit : CircuitValue) (placement : List (List Qubit)) (steps : List (List Action)) (bytes : List ℕ) → Spells trap circuit placement steps bytes → length (actions_of steps) ≤ length bytes
few_actions trap circuit placement steps bytes spells =
    let setting = setting_of trap circuit placement in
    let head = codes "qccd schedule 1\n" ++ place_lines circuit trap.zones placement ++ codes "steps " ++ decimal (length steps) ++ codes "\n" in
    let body = step_lines setting 1 steps in
    omega (arith, ap length spells.spelled, steps_some setting 1 steps, length-append (head ++ body) (codes "end\n"), length-append head body)
