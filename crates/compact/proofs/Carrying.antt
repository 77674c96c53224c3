-- An action is moved to an earlier step, past steps whose actions work on nothing it works on.
use Rattle.std.proofs.Common.{◌≡◌, ℕ, zero, suc, List, [], ◌∷◌, ◌++◌, drop, get_or, refl, sym, ap, subst, ◌∙◌, arith}
use Rattle.std.specs.Prelude.{All, fold}
use Rattle.std.proofs.lemmas.List.Quantifiers.{all_pairs_push}
use Rattle.std.proofs.lemmas.List.Elements.{All-nil, All-cons, All-head, All-tail, All-push}
use Rattle.qc_base.specs.declared.ids.Ion.{Ion}
use Rattle.trap_parts.specs.Parts.{TrapValue}
use Rattle.step_rules.specs.declared.action.Action.{Action}
use Rattle.step_rules.specs.Setting.{SettingValue}
use Rattle.step_rules.specs.Guards.{Passes, first_broken}
use Rattle.step_rules.specs.Steps.{place, AreApart, IsLegal, after, after_step}
use Rattle.step_rules.specs.Play.{AreLegal, after_steps}
use Rattle.compact.specs.Latest.{put}
use Rattle.step_rules.proofs.Effects.{in_either_order}
use Rattle.step_rules.proofs.Carried.{still_passes, same_guards, untouched}

-- no action of the step works on a spot of that one
abbrev pub IsFree : TrapValue → Action → List Action → Type 0
IsFree trap action step = All (λ (other : Action). AreApart trap other action) step

-- so of several steps
abbrev pub AreFree : TrapValue → Action → List (List Action) → Type 0
AreFree trap action [] = Unit {0}
AreFree trap action (step ∷ steps) = IsFree trap action step × AreFree trap action steps

turned : (trap : TrapValue) (a b : Action) → AreApart trap a b → AreApart trap b a
turned trap a b apart spot in_b in_a = apart spot in_a in_b

free_head : (trap : TrapValue) (action b : Action) (step : List Action) → IsFree trap action (b ∷ step) → AreApart trap b action
free_head trap action b step free = All-head (λ (other : Action). AreApart trap other action) b step free

free_tail : (trap : TrapValue) (action b : Action) (step : List Action) → IsFree trap action (b ∷ step) → IsFree trap action step
free_tail trap action b step free = All-tail (λ (other : Action). AreApart trap other action) b step free

-- ---- past one step

past_step : (trap : TrapValue) (config : List (List Ion)) (action : Action) (step : List Action) → IsFree trap action step → after_step trap (after trap config action) step ≡ after trap (after_step trap config step) action
past_step trap config action [] free = refl
past_step trap config action (b ∷ step) free =
    ap (λ (c : List (List Ion)). after_step trap c step) (sym (in_either_order trap b action (free_head trap action b step free) config))
    ∙ past_step trap (after trap config b) action step (free_tail trap action b step free)

legal_past : (setting : SettingValue) (config : List (List Ion)) (action : Action) (step : List Action) → IsFree setting.trap action step → IsLegal setting config step → IsLegal setting (after setting.trap config action) step
legal_past setting config action step free legal = record {
  passes = λ k d h. still_passes setting config action (get_or step k d) (turned setting.trap (get_or step k d) action (free k d h)) (legal.passes k d h);
  apart = legal.apart;
}

passes_before : (setting : SettingValue) (config : List (List Ion)) (b action : Action) → AreApart setting.trap b action → Passes setting (after setting.trap config b) action → Passes setting config action
passes_before setting config b action apart passes =
    ap first_broken (same_guards setting config (after setting.trap config b) action (λ p there. sym (untouched setting.trap config b p (λ here. apart (place p) here there)))) ∙ passes

passes_before_step : (setting : SettingValue) (config : List (List Ion)) (action : Action) (step : List Action) → IsFree setting.trap action step → Passes setting (after_step setting.trap config step) action → Passes setting config action
passes_before_step setting config action [] free passes = passes
passes_before_step setting config action (b ∷ step) free passes =
    passes_before setting config b action (free_head setting.trap action b step free)
    (passes_before_step setting (after setting.trap config b) action step (free_tail setting.trap action b step free) passes)

-- ---- past several steps

passes_before_steps : (setting : SettingValue) (config : List (List Ion)) (action : Action) (steps : List (List Action)) → AreFree setting.trap action steps → Passes setting (after_steps setting.trap config steps) action → Passes setting config action
passes_before_steps setting config action [] free passes = passes
passes_before_steps setting config action (step ∷ steps) free passes =
    passes_before_step setting config action step free.0
    (passes_before_steps setting (after_step setting.trap config step) action steps free.1 passes)

-- the steps are legal after the action too, and the action may as well come after them
steps_past : (setting : SettingValue) (config : List (List Ion)) (action : Action) (steps : List (List Action)) → AreFree setting.trap action steps → AreLegal setting config steps
    → AreLegal setting (after setting.trap config action) steps × (after_steps setting.trap (after setting.trap config action) steps ≡ after setting.trap (after_steps setting.trap config steps) action)
steps_past setting config action [] free legal = (tt, refl)
steps_past setting config action (step ∷ steps) free legal =
    let moved : after_step setting.trap (after setting.trap config action) step ≡ after setting.trap (after_step setting.trap config step) action = past_step setting.trap config action step free.0 in
    let rest = steps_past setting (after_step setting.trap config step) action steps free.1 legal.1 in (
      (legal_past setting config action step free.0 legal.0, subst (λ (c : List (List Ion)). AreLegal setting c steps) (sym moved) rest.0),
      ap (λ (c : List (List Ion)). after_steps setting.trap c steps) moved ∙ rest.1,
    )

-- ---- one action more in a step

pub fold_push : {A B : Type 0} (f : B → A → B) (c : B) (xs : List A) (x : A) → fold f c (xs ++ x ∷ []) ≡ f (fold f c xs) x
fold_push f c [] x = refl
fold_push f c (y ∷ ys) x = fold_push f (f c y) ys x

legal_push : (setting : SettingValue) (config : List (List Ion)) (step : List Action) (action : Action) → IsLegal setting config step → IsFree setting.trap action step → Passes setting config action → IsLegal setting config (step ++ action ∷ [])
legal_push setting config step action legal free passes = record {
  passes = All-push (Passes setting config) step action legal.passes passes;
  apart = all_pairs_push (AreApart setting.trap) step action legal.apart free;
}

pub legal_alone : (setting : SettingValue) (config : List (List Ion)) (action : Action) → Passes setting config action → IsLegal setting config (action ∷ [])
legal_alone setting config action passes = record {
  passes = All-cons (Passes setting config) action [] passes (All-nil (Passes setting config));
  apart = λ i j d before within. absurd (omega arith);
}

-- ---- one action more in a schedule

pub placed : (setting : SettingValue) (config : List (List Ion)) (steps : List (List Action)) (time : ℕ) (action : Action) → AreLegal setting config steps → AreFree setting.trap action (drop time steps) → Passes setting (after_steps setting.trap config steps) action
    → AreLegal setting config (put steps time action) × (after_steps setting.trap config (put steps time action) ≡ after setting.trap (after_steps setting.trap config steps) action)
placed setting config [] time action legal free passes = ((legal_alone setting config action passes, tt), refl)
placed setting config (step ∷ steps) zero action legal free passes =
    let here : Passes setting (after_step setting.trap config step) action = passes_before_steps setting (after_step setting.trap config step) action steps free.1 passes in
    let grown : after_step setting.trap config (step ++ action ∷ []) ≡ after setting.trap (after_step setting.trap config step) action = fold_push (after setting.trap) config step action in
    let rest = steps_past setting (after_step setting.trap config step) action steps free.1 legal.1 in (
      (
        legal_push setting config step action legal.0 free.0 (passes_before_step setting config action step free.0 here),
        subst (λ (c : List (List Ion)). AreLegal setting c steps) (sym grown) rest.0,
      ),
      ap (λ (c : List (List Ion)). after_steps setting.trap c steps) grown ∙ rest.1,
    )
placed setting config (step ∷ steps) (suc time) action legal free passes =
    let rest = placed setting (after_step setting.trap config step) steps time action legal.1 free passes in
    ((legal.0, rest.0), rest.1)
