-- Tallies of actions, one action at a time.
use Rattle.std.proofs.Common.{◌≡◌, ℕ, ◌+◌, List, [], ◌∷◌, ◌++◌, Bool, true, false, sym, ap, refl, ◌∙◌, append_assoc, arith}
use Rattle.std.specs.Prelude.{if◌then◌else◌, fold}
use Rattle.std.proofs.lemmas.List.{append-nil}
use Rattle.qc_base.specs.Counting.{how_many}
use Rattle.step_rules.specs.declared.action.Action.{Action}
use Rattle.schedule_report.specs.declared.tally.Tally.{Tally}
use Rattle.schedule_report.specs.Counts.{capped, total, is_split, is_move, is_cross, is_merge, is_swap, is_operation, tally_of}
use Rattle.schedule_report.specs.Tables.{more, with_action, no_actions}

how_many_push : (p : Action → Bool) (actions : List Action) (action : Action)
    → how_many p (actions ++ action ∷ []) ≡ how_many p actions + (if p action then 1 else 0)
how_many_push p [] action = omega arith
how_many_push p (first ∷ rest) action = omega (arith, how_many_push p rest action)

more_capped : (b : Bool) (n : ℕ) → more b (capped n) ≡ capped (n + (if b then 1 else 0))
more_capped true n = omega arith
more_capped false n = omega arith

more_total : (p : Action → Bool) (actions : List Action) (action : Action)
    → more (p action) (total p actions) ≡ total p (actions ++ action ∷ [])
more_total p actions action = more_capped (p action) (how_many p actions) ∙ ap capped (sym (how_many_push p actions action))

-- one action more
pub with_push : (actions : List Action) (action : Action) → with_action (tally_of actions) action ≡ tally_of (actions ++ action ∷ [])
with_push actions action =
    rw (
      sym (more_total is_split actions action),
      sym (more_total is_move actions action),
      sym (more_total is_cross actions action),
      sym (more_total is_merge actions action),
      sym (more_total is_swap actions action),
      sym (more_total is_operation actions action),
    ) refl

fold_from : (before actions : List Action) → fold with_action (tally_of before) actions ≡ tally_of (before ++ actions)
fold_from before [] = ap tally_of (sym (append-nil before))
fold_from before (action ∷ actions) =
    ap (λ (tally : Tally). fold with_action tally actions) (with_push before action)
    ∙ fold_from (before ++ action ∷ []) actions
    ∙ ap tally_of (append_assoc before (action ∷ []) actions)

pub fold_tally : (actions : List Action) → fold with_action no_actions actions ≡ tally_of actions
fold_tally actions = fold_from [] actions
