-- The steps of facts one by one, and the actions of a legal step.
use Rattle.std.proofs.Common.{◌≡◌, ℕ, suc, ◌+◌, ◌-◌, ◌<◌, List, [], ◌∷◌, ◌++◌, length, take, get_or, refl, sym, ap, subst, ◌∙◌, arith, append_assoc, append-nil}
use Rattle.std.specs.Prelude.{All}
use Rattle.std.proofs.lemmas.List.{get_or-take, length-take-le}
use Rattle.std.proofs.lemmas.List.Elements.{All-get_or, All-from_get_or}
use Rattle.qc_base.specs.declared.ids.Ion.{Ion}
use Rattle.trap_parts.specs.Parts.{TrapValue}
use Rattle.step_rules.specs.declared.action.Action.{Action}
use Rattle.step_rules.specs.Setting.{SettingValue}
use Rattle.step_rules.specs.Guards.{Passes, PassesTransport}
use Rattle.step_rules.specs.Steps.{AreApart, IsLegal, after_step}
use Rattle.step_rules.specs.Play.{AreLegal}
use Rattle.step_rules.proofs.Carried.{carried as carried_on, transport_of}
use Rattle.step_facts.specs.Facts.{Facts}
use Rattle.step_facts.specs.ToSchedule.{step_of, steps_from}

-- an action of a legal step still passes its guards after those before it
pub carried : (setting : SettingValue) (trap : TrapValue) (start config : List (List Ion)) (step : List Action)
    (i : ℕ) (d : Action) → trap ≡ setting.trap → IsLegal setting start step → i < length step
    → config ≡ after_step setting.trap start (take i step) → PassesTransport trap config (get_or step i d)
carried setting trap start config step i d same legal within is =
    let action : Action = get_or step i d in
    let P : Action → Type 0 = λ other. AreApart setting.trap other action in
    let apart : All P (take i step) = All-from_get_or P (take i step) d
    (λ k h.
    let below : k < i = omega (arith, length-take-le i step (omega arith)) in
    subst P (sym (get_or-take i step k d below)) (legal.apart k i d below within)) in
    let passes : Passes setting start action = All-get_or (Passes setting start) step i d within legal.passes in
    let after : Passes setting (after_step setting.trap start (take i step)) action =
    carried_on setting start (take i step) action apart passes in
    subst (λ (t : TrapValue). PassesTransport t config action) (sym same)
    (transport_of setting config action (subst (λ c. Passes setting c action) (sym is) after))

-- ---- the steps that are left

-- the next step, and where it leads
pub record IsNextStep (setting : SettingValue) (facts : Facts) (r : ℕ) (before now : List (List Ion))
    (step : List Action) : Type 0 where
  pub taken : step ≡ step_of setting facts (r + 1) before
  pub leads : now ≡ after_step setting.trap before step

next_step : (setting : SettingValue) (facts : Facts) (r t : ℕ) (config : List (List Ion)) → r < t
    → steps_from setting facts r config (t - r)
    ≡ step_of setting facts (r + 1) config
    ∷ steps_from setting facts (r + 1) (after_step setting.trap config (step_of setting facts (r + 1) config))
    (t - (r + 1))
next_step setting facts r t config h =
    let left : t - r ≡ suc (t - (r + 1)) = omega arith in
    let next : r + 1 ≡ suc r = omega arith in
    rw left (rw next refl)

left_steps : (setting : SettingValue) (facts : Facts) (r t : ℕ) (before now : List (List Ion)) (step : List Action)
    → r < t → IsNextStep setting facts r before now step
    → steps_from setting facts r before (t - r) ≡ step ∷ steps_from setting facts (r + 1) now (t - (r + 1))
left_steps setting facts r t before now step h is =
    next_step setting facts r t before h
    ∙ ap (λ s. s ∷ steps_from setting facts (r + 1) (after_step setting.trap before s) (t - (r + 1))) (sym is.taken)
    ∙ ap (λ c. step ∷ steps_from setting facts (r + 1) c (t - (r + 1))) (sym is.leads)

-- with one step more, the steps so far and those that are left are still the whole
pub whole_on : (setting : SettingValue) (facts : Facts) (r t : ℕ) (before now : List (List Ion)) (step : List Action)
    (steps longer whole : List (List Action)) → r < t → IsNextStep setting facts r before now step
    → longer ≡ steps ++ step ∷ [] → steps ++ steps_from setting facts r before (t - r) ≡ whole
    → longer ++ steps_from setting facts (r + 1) now (t - (r + 1)) ≡ whole
whole_on setting facts r t before now step steps longer whole h is added sofar =
    let rest = steps_from setting facts (r + 1) now (t - (r + 1)) in
    ap (λ xs. xs ++ rest) added ∙ append_assoc steps (step ∷ []) rest
    ∙ sym (ap (λ xs. steps ++ xs) (left_steps setting facts r t before now step h is)) ∙ sofar

-- and those that are left are still legal
pub legal_on : (setting : SettingValue) (facts : Facts) (r t : ℕ) (before now : List (List Ion)) (step : List Action)
    → r < t → IsNextStep setting facts r before now step
    → AreLegal setting before (steps_from setting facts r before (t - r))
    → AreLegal setting now (steps_from setting facts (r + 1) now (t - (r + 1)))
legal_on setting facts r t before now step h is legal =
    let rest = steps_from setting facts (r + 1) now (t - (r + 1)) in
    let both : AreLegal setting before (step ∷ rest) =
    subst (AreLegal setting before) (left_steps setting facts r t before now step h is) legal in
    subst (λ c. AreLegal setting c rest) (sym is.leads) both.1

pub legal_now : (setting : SettingValue) (facts : Facts) (r t : ℕ) (config : List (List Ion)) (step : List Action)
    → r < t → step ≡ step_of setting facts (r + 1) config
    → AreLegal setting config (steps_from setting facts r config (t - r)) → IsLegal setting config step
legal_now setting facts r t config step h is legal =
    let now = after_step setting.trap config step in
    let both : AreLegal setting config (step ∷ steps_from setting facts (r + 1) now (t - (r + 1))) =
    subst (AreLegal setting config)
    (left_steps setting facts r t config now step h (record { taken = is; leads = refl })) legal in
    both.0

-- at the end none is left
pub none_left : (setting : SettingValue) (facts : Facts) (r t : ℕ) (config : List (List Ion))
    (steps whole : List (List Action)) → r ≡ t → steps ++ steps_from setting facts r config (t - r) ≡ whole → steps ≡ whole
none_left setting facts r t config steps whole at_end sofar =
    let none : t - r ≡ 0 = omega arith in
    sym (append-nil steps) ∙ sym (ap (λ n. steps ++ steps_from setting facts r config n) none) ∙ sofar
