use Rattle.std.proofs.Common.{List, ◌∷◌, sym, ap, ◌∙◌}
use Rattle.std.proofs.lemmas.List.{append-nil}
use Rattle.step_rules.specs.Steps.{Spot, place, footprint}
use Rattle.step_rules.specs.Footprint.{place_spots}
use Rattle.step_rules.proofs.conflict.footprint.Goals as goal

pub returns-in-Split : goal.returns-in-Split
returns-in-Split c =
    ap (λ (s : List Spot). place c.in-Split.zone.0 ∷ s) (append-nil (place_spots c.docked.result) ∙ c.docked.ensures) ∙ sym (ap (footprint c.args.trap.now) c.in-Split.is)

pub returns-in-Merge : goal.returns-in-Merge
returns-in-Merge c =
    ap (λ (s : List Spot). place c.in-Merge.zone.0 ∷ s) (append-nil (place_spots c.docked-in-Merge.result) ∙ c.docked-in-Merge.ensures) ∙ sym (ap (footprint c.args.trap.now) c.in-Merge.is)
