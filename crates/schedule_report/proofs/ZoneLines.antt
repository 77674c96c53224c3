-- The lines of zones, one zone at a time.
use Rattle.std.proofs.Common.{◌≡◌, ℕ, ◌+◌, ◌<◌, List, [], ◌∷◌, ◌++◌, length, map, drop, get_or, sym, ap, refl, ◌∙◌}
use Rattle.std.specs.List.{range_with_len}
use Rattle.std.proofs.lemmas.List.{at_drop_more}
use Rattle.std.proofs.lemmas.List.FromFn.{length-map-range_with_len}
use Rattle.trap_parts.specs.declared.parts.ZonePart.{ZonePart}
use Rattle.step_rules.specs.declared.action.Action.{Action}
use Rattle.schedule_report.specs.declared.tally.Tally.{Tally}
use Rattle.schedule_report.specs.Counts.{tally_of, at_zone}
use Rattle.schedule_report.specs.Report.{zone_line, zone_lines}
use Rattle.schedule_report.specs.Tables.{lines_by, zone_tallies}

-- one zone more
pub lines_more : (zones : List ZonePart) (tallies : List Tally) (k : ℕ) (zone : ZonePart) (tally : Tally)
    → k < length zones → k < length tallies → zone ≡ get_or zones k zone → tally ≡ get_or tallies k tally
    → lines_by (drop k zones) (drop k tallies) ≡ zone_line zone.name tally ++ lines_by (drop (k + 1) zones) (drop (k + 1) tallies)
lines_more zones tallies k zone tally in_zones in_tallies is_zone is_tally =
    let rest : List ℕ = lines_by (drop (k + 1) zones) (drop (k + 1) tallies) in
    at_drop_more (λ (xs : List ZonePart). lines_by xs (drop k tallies)) zones k zone in_zones
    ∙ at_drop_more (λ (xs : List Tally). lines_by (get_or zones k zone ∷ drop (k + 1) zones) xs) tallies k tally in_tallies
    ∙ ap (λ (z : ZonePart). zone_line z.name (get_or tallies k tally) ++ rest) (sym is_zone)
    ∙ ap (λ (t : Tally). zone_line zone.name t ++ rest) (sym is_tally)

lines_from : (zones : List ZonePart) (first : ℕ) (actions : List Action)
    → lines_by zones (map (λ (zone : ℕ). tally_of (at_zone zone actions)) (range_with_len first (length zones))) ≡ zone_lines first zones actions
lines_from [] first actions = refl
lines_from (zone ∷ zones) first actions =
    ap (λ (rest : List ℕ). zone_line zone.name (tally_of (at_zone first actions)) ++ rest) (lines_from zones (first + 1) actions)

-- the lines of the zones by their tallies
pub lines_of_tallies : (zones : List ZonePart) (actions : List Action)
    → lines_by zones (zone_tallies (length zones) actions) ≡ zone_lines 0 zones actions
lines_of_tallies zones actions = lines_from zones 0 actions

pub tally_count : (count : ℕ) (actions : List Action) → length (zone_tallies count actions) ≡ count
tally_count count actions = length-map-range_with_len (λ (zone : ℕ). tally_of (at_zone zone actions)) 0 count
