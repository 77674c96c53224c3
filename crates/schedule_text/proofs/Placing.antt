-- The lists of the first zones, and the placements that they can be completed to.
use Rattle.std.proofs.Common.{◌≡◌, ℕ, zero, suc, ◌+◌, ◌-◌, ◌^◌, ◌≤◌, ◌<◌, List, [], ◌∷◌, ◌++◌, length, take, drop, replicate, refl, sym, ap, subst, ◌∙◌, arith, append_assoc, length-append}
use Rattle.std.specs.Prelude.{All, Some, slice_get, decimal, codes}
use Rattle.std.specs.List.{flat_map}
use Rattle.std.specs.Option.{option_map_or}
use Rattle.std.proofs.Math.Seq.{take-append_seam}
use Rattle.std.proofs.lemmas.Grind.{flat_map-append}
use Rattle.std.proofs.lemmas.List.{length-take-le, length-drop, length-replicate, take-append-drop, drop_all}
use Rattle.std.proofs.lemmas.List.Elements.{All-nil, All-append, All-replicate, All-take}
use Rattle.qc_base.specs.declared.ids.Qubit.{Qubit}
use Rattle.circuit_core.specs.Circuit.{CircuitValue, qubit_count}
use Rattle.trap_parts.specs.declared.parts.ZonePart.{ZonePart}
use Rattle.trap_parts.specs.Parts.{TrapValue}
use Rattle.trap_model.specs.Trap.{limit_of, load_of, slot_at}
use Rattle.step_rules.specs.declared.action.Action.{Action}
use Rattle.step_rules.specs.Placement.{IsPlacement, reading_order, times}
use Rattle.step_rules.specs.Setting.{SettingValue, setting_of}
use Rattle.step_rules.proofs.Reading.{times-append}
use Rattle.schedule_text.specs.Text.{place_line, place_lines, action_line, step_lines}
use Rattle.schedule_text.specs.Reading.{IsKnown, BeginsText}
use Rattle.schedule_text.specs.Progress.{Opens, head_text, steps_text, capacity}
use Rattle.schedule_text.specs.ZoneLists.{AreIn}
use Rattle.schedule_text.proofs.PlaceLines.{no_lists}
use Rattle.step_rules.proofs.Accepted.{at_most_once}
use Rattle.step_rules.proofs.Counted.{all_once, counted}
use Rattle.schedule_text.proofs.Counted.{left_of, filled_once, filled_below, filled_length}
use Rattle.schedule_text.proofs.Rooms.{are_in, room_in, in_take, in_drop, in_both, in_capacity, fill, fill_length, fill_in, fill_order}

-- the limit of a place that is no zone
abbrev pub other_limit : TrapValue → ℕ → ℕ
other_limit trap place = option_map_or (load_of trap) (slot_at trap place) 0

pub zones_in : (trap : TrapValue) (lists : List (List Qubit)) → length lists ≤ length trap.zones
    → ((zone : ℕ) (list : List Qubit) → slice_get lists zone ≡ Some list → length list ≤ limit_of trap zone) → AreIn trap.zones lists
zones_in trap lists few room = are_in trap.zones lists (other_limit trap) few room

placement_in : (trap : TrapValue) (circuit : CircuitValue) (placement : List (List Qubit)) → IsPlacement trap circuit placement → AreIn trap.zones placement
placement_in trap circuit placement placed = zones_in trap placement (omega (arith, placed.zones)) placed.room

pub order_parts : (k : ℕ) (lists : List (List Qubit)) → reading_order lists ≡ reading_order (take k lists) ++ reading_order (drop k lists)
order_parts k lists = sym (ap reading_order (take-append-drop k lists)) ∙ flat_map-append (λ list. list) (take k lists) (drop k lists)

-- the lists of all zones are a placement
pub opens_full : (trap : TrapValue) (circuit : CircuitValue) (lists : List (List Qubit)) → Opens trap circuit lists → length lists ≡ length trap.zones → IsPlacement trap circuit lists
opens_full trap circuit lists opened all =
    let none : capacity (drop (length lists) trap.zones) ≡ 0 = ap capacity (drop_all (length lists) trap.zones (omega arith)) in
    record {
      zones = all;
      qubits = opened.qubits;
      once = all_once (qubit_count circuit) (reading_order lists) opened.qubits opened.once (omega (arith, opened.left));
      room = opened.room;
    }

-- the first lists of a placement can be completed
pub placed_opens : (trap : TrapValue) (circuit : CircuitValue) (placement : List (List Qubit)) (k : ℕ) → IsPlacement trap circuit placement → k ≤ length trap.zones → Opens trap circuit (take k placement)
placed_opens trap circuit placement k placed few =
    let n : ℕ = qubit_count circuit in
    let P : Qubit → Type 0 = λ q. q.0 < n in
    let whole : List Qubit = reading_order placement in
    let front : List Qubit = reading_order (take k placement) in
    let back : List Qubit = reading_order (drop k placement) in
    let parts : whole ≡ front ++ back = order_parts k placement in
    let len : length (take k placement) ≡ k = length-take-le k placement (omega (arith, placed.zones)) in
    let are : AreIn trap.zones placement = placement_in trap circuit placement placed in
    let after : length back ≤ capacity (drop k trap.zones) = in_capacity (drop k trap.zones) (drop k placement) (in_drop trap.zones placement k are) in
    record {
      zones = omega (arith, len);
      qubits = subst (All P) (take-append_seam front back) (All-take P (length front) (front ++ back) (subst (All P) parts placed.qubits));
      once = λ j. omega (arith, at_most_once n whole placed.qubits placed.once j, ap (times j) parts, times-append j front back);
      room = λ zone list e. room_in trap.zones (take k placement) zone (other_limit trap zone) list (in_take trap.zones placement k are) e;
      left = omega (arith, counted n whole placed.qubits placed.once, ap length parts, length-append front back, ap (λ (m : ℕ). capacity (drop m trap.zones)) len, after);
    }

-- and others, too
pub record Completes (trap : TrapValue) (circuit : CircuitValue) (lists : List (List Qubit)) : Type 0 where
  pub placement : List (List Qubit)
  pub placed : IsPlacement trap circuit placement
  pub front : take (length lists) placement ≡ lists

pub completes : (trap : TrapValue) (circuit : CircuitValue) (lists : List (List Qubit)) → Opens trap circuit lists → Completes trap circuit lists
completes trap circuit lists opened =
    let n : ℕ = qubit_count circuit in
    let order : List Qubit = reading_order lists in
    let more : List Qubit = left_of n order in
    let after : List ZonePart = drop (length lists) trap.zones in
    let rest : List (List Qubit) = fill after more in
    let few : length more ≤ capacity after = omega (arith, filled_length n order opened.qubits opened.once, opened.left) in
    let whole : reading_order (lists ++ rest) ≡ order ++ more = flat_map-append (λ list. list) lists rest ∙ ap (λ (l : List Qubit). order ++ l) (fill_order after more few) in
    let are : AreIn trap.zones (lists ++ rest) = in_both trap.zones lists rest (zones_in trap lists opened.zones opened.room) (fill_in after more) in
    record {
      placement = lists ++ rest;
      placed = record {
        zones = omega (arith, length-append lists rest, fill_length after more, length-drop (length lists) trap.zones, opened.zones);
        qubits = subst (All (λ (qubit : Qubit). qubit.0 < n)) (sym whole) (filled_below n order opened.qubits);
        once = λ k h. subst (λ (l : List Qubit). times k l ≡ 1) (sym whole) (filled_once n order opened.once k h);
        room = λ zone list e. room_in trap.zones (lists ++ rest) zone (other_limit trap zone) list are e;
      };
      front = take-append_seam lists rest;
    }

-- where there is room for all qubits, nothing read yet can be completed, and else there is no placement
pub opens_none : (trap : TrapValue) (circuit : CircuitValue) → qubit_count circuit ≤ capacity trap.zones → Opens trap circuit []
opens_none trap circuit fits = record {
  zones = omega arith;
  qubits = All-nil (λ (qubit : Qubit). qubit.0 < qubit_count circuit);
  once = λ k. omega arith;
  room = λ zone list e. absurd cc;
  left = omega (arith, fits);
}

pub placed_fits : (trap : TrapValue) (circuit : CircuitValue) (placement : List (List Qubit)) → IsPlacement trap circuit placement → qubit_count circuit ≤ capacity trap.zones
placed_fits trap circuit placement placed =
    omega (arith, counted (qubit_count circuit) (reading_order placement) placed.qubits placed.once, in_capacity trap.zones placement (placement_in trap circuit placement placed))

-- ---- the text of the first zones, and of the first steps

lines_parts : (circuit : CircuitValue) (k : ℕ) (zones : List ZonePart) (lists : List (List Qubit)) → place_lines circuit zones lists ≡ place_lines circuit zones (take k lists) ++ place_lines circuit (drop k zones) (drop k lists)
lines_parts circuit zero zones lists = ap (λ (l : List ℕ). l ++ place_lines circuit zones lists) (sym (no_lists circuit zones))
lines_parts circuit (suc k) [] lists = refl
lines_parts circuit (suc k) (zone ∷ zones) [] = sym (no_lists circuit (drop k zones))
lines_parts circuit (suc k) (zone ∷ zones) (list ∷ lists) =
    ap (λ (l : List ℕ). place_line circuit zone list ++ l) (lines_parts circuit k zones lists)
    ∙ sym (append_assoc (place_line circuit zone list) (place_lines circuit zones (take k lists)) (place_lines circuit (drop k zones) (drop k lists)))

join_head : (head front back word number end steps last all : List ℕ) → all ≡ front ++ back
    → (head ++ front) ++ (back ++ word ++ number ++ end ++ steps ++ last) ≡ head ++ all ++ word ++ number ++ end ++ steps ++ last
join_head head front back word number end steps last all e = rw e (simp append_assoc)

-- the lines of the first zones begin a text
pub head_begins : (trap : TrapValue) (circuit : CircuitValue) (lists : List (List Qubit)) → Opens trap circuit lists → BeginsText trap circuit (head_text trap circuit lists)
head_begins trap circuit lists opened =
    let full : Completes trap circuit lists = completes trap circuit lists opened in
    let placement : List (List Qubit) = full.placement in
    let after : List ℕ = place_lines circuit (drop (length lists) trap.zones) (drop (length lists) placement) in
    let lines : place_lines circuit trap.zones placement ≡ place_lines circuit trap.zones lists ++ after =
    lines_parts circuit (length lists) trap.zones placement ∙ ap (λ (l : List (List Qubit)). place_lines circuit trap.zones l ++ after) full.front in
    record {
      rest = after ++ codes "steps " ++ decimal 0 ++ codes "\n" ++ [] ++ codes "end\n";
      text = record {
        placement = placement;
        steps = [];
        spells = record {
          placed = full.placed;
          known = All-nil (All (IsKnown trap circuit));
          few = omega arith;
          spelled = join_head (codes "qccd schedule 1\n") (place_lines circuit trap.zones lists) after (codes "steps ") (decimal 0) (codes "\n") [] (codes "end\n") (place_lines circuit trap.zones placement) lines;
        };
      };
    }

step_parts : (word number end actions front back : List ℕ) → word ++ number ++ end ++ actions ++ (front ++ back) ≡ word ++ number ++ end ++ actions ++ front ++ back
step_parts word number end actions front back = sym (append_assoc (word ++ number ++ end ++ actions) front back)

pub lines_of : (setting : SettingValue) (number : ℕ) (steps more : List (List Action)) → step_lines setting number (steps ++ more) ≡ step_lines setting number steps ++ step_lines setting (number + length steps) more
lines_of setting number [] more = let same : number ≡ number + 0 = omega arith in ap (λ (n : ℕ). step_lines setting n more) same
lines_of setting number (step ∷ steps) more =
    let next : number + 1 + length steps ≡ number + suc (length steps) = omega arith in
    ap (λ (l : List ℕ). codes "step " ++ decimal number ++ codes "\n" ++ flat_map (action_line setting) step ++ l)
    (lines_of setting (number + 1) steps more ∙ ap (λ (n : ℕ). step_lines setting (number + 1) steps ++ step_lines setting n more) next)
    ∙ step_parts (codes "step ") (decimal number) (codes "\n") (flat_map (action_line setting) step) (step_lines setting (number + 1) steps) (step_lines setting (number + suc (length steps)) more)

join_steps : (head zones word number end front back last all : List ℕ) → all ≡ front ++ back
    → (head ++ zones) ++ (word ++ number ++ end ++ front) ++ (back ++ last) ≡ head ++ zones ++ word ++ number ++ end ++ all ++ last
join_steps head zones word number end front back last all e = rw e (simp append_assoc)

-- and so do they with the first steps of so many
pub steps_begin : (trap : TrapValue) (circuit : CircuitValue) (placement : List (List Qubit)) (count : ℕ) (steps : List (List Action)) → IsPlacement trap circuit placement
    → count < 2 ^ 64 → length steps ≤ count → All (All (IsKnown trap circuit)) steps
    → BeginsText trap circuit (head_text trap circuit placement ++ steps_text (setting_of trap circuit placement) count steps)
steps_begin trap circuit placement count steps placed few more known =
    let setting : SettingValue = setting_of trap circuit placement in
    let Known : List Action → Type 0 = All (IsKnown trap circuit) in
    let empty : List (List Action) = replicate (count - length steps) [] in
    let len : length (steps ++ empty) ≡ count = omega (arith, length-append steps empty, length-replicate {A = List Action} (count - length steps) []) in
    let after : List ℕ = step_lines setting (1 + length steps) empty in
    let zones : List ℕ = place_lines circuit trap.zones placement in
    let all : List ℕ = step_lines setting 1 (steps ++ empty) in
    record {
      rest = after ++ codes "end\n";
      text = record {
        placement = placement;
        steps = steps ++ empty;
        spells = record {
          placed = placed;
          known = All-append Known steps empty known (All-replicate Known (count - length steps) [] (All-nil (IsKnown trap circuit)));
          few = omega (arith, len);
          spelled =
              join_steps (codes "qccd schedule 1\n") zones (codes "steps ") (decimal count) (codes "\n") (step_lines setting 1 steps) after (codes "end\n") all (lines_of setting 1 steps empty)
              ∙ ap (λ (n : ℕ). codes "qccd schedule 1\n" ++ zones ++ codes "steps " ++ decimal n ++ codes "\n" ++ all ++ codes "end\n") (sym len);
        };
      };
    }
