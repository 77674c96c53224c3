-- An action of a legal step still passes its guards after those before it.
use Rattle.std.proofs.Common.{◌≡◌, ℕ, ◌<◌, List, length, take, get_or, sym, subst, arith}
use Rattle.std.specs.Prelude.{All}
use Rattle.std.proofs.lemmas.List.{get_or-take, length-take-le}
use Rattle.std.proofs.lemmas.List.Elements.{All-from_get_or}
use Rattle.qc_base.specs.declared.ids.Ion.{Ion}
use Rattle.trap_parts.specs.Parts.{TrapValue}
use Rattle.step_rules.specs.declared.action.Action.{Action}
use Rattle.step_rules.specs.Steps.{AreApart, after_step}
use Rattle.step_rules.specs.Guards.{PassesTransport}
use Rattle.step_rules.proofs.Carried.{carried_transport}
use Rattle.schedule_play.specs.Progress.{MayBeTaken}

pub carried : (trap : TrapValue) (start config : List (List Ion)) (step : List Action) (i : ℕ) (d : Action) → MayBeTaken trap start step → i < length step → config ≡ after_step trap start (take i step) → PassesTransport trap config (get_or step i d)
carried trap start config step i d legal h is =
    let action : Action = get_or step i d in
    let P : Action → Type 0 = λ o. AreApart trap o action in
    let apart : All P (take i step) = All-from_get_or P (take i step) d
    (λ k within. let below : k < i = omega (arith, length-take-le i step (omega arith)) in subst P (sym (get_or-take i step k d below)) (legal.apart k i d below h)) in
    subst (λ (c : List (List Ion)). PassesTransport trap c action) (sym is) (carried_transport trap start (take i step) action apart (legal.passes i d h))
