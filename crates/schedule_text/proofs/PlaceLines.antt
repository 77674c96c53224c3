-- Zones without lists have no lines.
use Rattle.std.proofs.Common.{◌≡◌, ℕ, ◌+◌, ◌≤◌, List, [], ◌∷◌, length, drop, refl, sym, ◌∙◌, arith}
use Rattle.std.proofs.lemmas.List.{drop_all}
use Rattle.qc_base.specs.declared.ids.Qubit.{Qubit}
use Rattle.circuit_core.specs.Circuit.{CircuitValue}
use Rattle.trap_parts.specs.declared.parts.ZonePart.{ZonePart}
use Rattle.schedule_text.specs.Text.{place_lines}

pub no_lists : (circuit : CircuitValue) (zones : List ZonePart) → place_lines circuit zones [] ≡ []
no_lists circuit [] = refl
no_lists circuit (zone ∷ zones) = refl

pub no_line : (circuit : CircuitValue) (zones : List ZonePart) (lists : List (List Qubit)) (k : ℕ) → length lists ≤ k
    → place_lines circuit (drop (k + 1) zones) (drop (k + 1) lists) ≡ place_lines circuit (drop k zones) (drop k lists)
no_line circuit zones lists k h = rw (drop_all k lists h, drop_all (k + 1) lists (omega arith)) (no_lists circuit (drop (k + 1) zones) ∙ sym (no_lists circuit (drop k zones)))
