-- What comes next in a text after the lines of the first zones.
use Rattle.std.proofs.Common.{◌≡◌, ℕ, zero, suc, ◌^◌, ◌<◌, ◌≤◌, ◌+◌, List, [], ◌∷◌, ◌++◌, length, take, drop, Some, refl, sym, ap, subst, ◌∙◌, arith, append_assoc}
use Rattle.std.specs.Prelude.{All, slice_get, decimal, codes}
use Rattle.std.proofs.lemmas.Option.{same_Some}
use Rattle.std.proofs.lemmas.Grind.{flat_map-append}
use Rattle.std.proofs.lemmas.List.{append-nil, take_all, drop_all}
use Rattle.std.proofs.lemmas.List.Elements.{All-append}
use Rattle.qc_base.specs.declared.ids.Qubit.{Qubit}
use Rattle.qc_base.proofs.Words.{same_rest}
use Rattle.circuit_core.specs.Circuit.{CircuitValue, IsCircuit, qubit_count}
use Rattle.trap_parts.specs.declared.parts.ZonePart.{ZonePart}
use Rattle.trap_parts.specs.Parts.{TrapValue}
use Rattle.trap_model.specs.Trap.{limit_of}
use Rattle.trap_parts.specs.Build.{IsTrap}
use Rattle.trap_model.proofs.Slots.{slice_get_right}
use Rattle.step_rules.specs.declared.action.Action.{Action}
use Rattle.step_rules.specs.Placement.{IsPlacement, reading_order}
use Rattle.step_rules.specs.Setting.{SettingValue, setting_of}
use Rattle.schedule_text.specs.Text.{place_line, place_lines, step_lines}
use Rattle.schedule_text.specs.Reading.{IsKnown, IsText, BeginsText, IsBadLine}
use Rattle.schedule_text.specs.Progress.{Opens, head_text, capacity, Sticks}
use Rattle.schedule_text.proofs.PlaceLines.{no_lists}
use Rattle.schedule_text.proofs.Names.{zone_free}
use Rattle.schedule_text.proofs.Lines.{literal_free}
use Rattle.schedule_text.proofs.LineWords.{line_end}
use Rattle.schedule_text.proofs.WholeLines.{line_of}
use Rattle.schedule_text.proofs.Codes.{one_place_line, place_is_line, steps_is_line, all_left, all_right}
use Rattle.schedule_text.proofs.Placing.{placed_opens, placed_fits, opens_none, head_begins}
use Rattle.schedule_text.proofs.BadLines.{parted_by, begins_cut, no_text}

-- ---- the first line

pub no_room : (trap : TrapValue) (circuit : CircuitValue) (bytes : List ℕ) → (qubit_count circuit ≤ capacity trap.zones → ⊥) → IsBadLine trap circuit bytes 1
no_room trap circuit bytes full = no_text trap circuit bytes (λ any text. full (placed_fits trap circuit text.placement text.spells.placed))

pub nothing_begins : (trap : TrapValue) (circuit : CircuitValue) → qubit_count circuit ≤ capacity trap.zones → BeginsText trap circuit []
nothing_begins trap circuit fits = begins_cut trap circuit [] (head_text trap circuit []) (head_text trap circuit []) (head_begins trap circuit [] (opens_none trap circuit fits)) refl

-- the lines of the zones, the count of the steps and the steps, each after what is before
grouped : (places count steps : List ℕ)
    → codes "qccd schedule 1\n" ++ places ++ codes "steps " ++ count ++ codes "\n" ++ steps ++ codes "end\n"
    ≡ codes "qccd schedule 1\n" ++ (places ++ ((codes "steps " ++ count ++ codes "\n") ++ (steps ++ codes "end\n")))
grouped places count steps = simp append_assoc

-- what comes after the zones' lines
abbrev pub after_places : SettingValue → List (List Action) → List ℕ
after_places setting steps = (codes "steps " ++ decimal (length steps) ++ codes "\n") ++ (step_lines setting 1 steps ++ codes "end\n")

text_is : (trap : TrapValue) (circuit : CircuitValue) (bytes : List ℕ) (text : IsText trap circuit bytes)
    → bytes ≡ codes "qccd schedule 1\n" ++ (place_lines circuit trap.zones text.placement ++ after_places (setting_of trap circuit text.placement) text.steps)
text_is trap circuit bytes text =
    text.spells.spelled ∙ grouped (place_lines circuit trap.zones text.placement) (decimal (length text.steps)) (step_lines (setting_of trap circuit text.placement) 1 text.steps)

pub head_sticks : (trap : TrapValue) (circuit : CircuitValue) (bytes : List ℕ) → ((rest : List ℕ) → bytes ≡ codes "qccd schedule 1\n" ++ rest → ⊥) → Sticks trap circuit [] bytes
head_sticks trap circuit bytes differs more text = parted_by more bytes (record {
  line = codes "qccd schedule 1\n";
  after = place_lines circuit trap.zones text.placement ++ after_places (setting_of trap circuit text.placement) text.steps;
  is_line = line_of (codes "qccd schedule 1") (literal_free 10 (codes "qccd schedule 1") refl);
  more_is = text_is trap circuit more text;
  differs = differs;
})

-- ---- the lines of the first zones, and those of a text

abbrev pub AreThere : CircuitValue → List (List Qubit) → Type 0
AreThere circuit lists = All (λ (qubit : Qubit). qubit.0 < qubit_count circuit) (reading_order lists)

pub common_places : (circuit : CircuitValue) (zones : List ZonePart) (lists placement : List (List Qubit)) (more after : List ℕ) → IsCircuit circuit → length lists ≤ length zones → length placement ≡ length zones
    → AreThere circuit lists → AreThere circuit placement
    → place_lines circuit zones lists ++ more ≡ place_lines circuit zones placement ++ after
    → (lists ≡ take (length lists) placement) × (more ≡ place_lines circuit (drop (length lists) zones) (drop (length lists) placement) ++ after)
common_places circuit zones [] placement more after c few same all also e = (refl, ap (λ (text : List ℕ). text ++ more) (sym (no_lists circuit zones)) ∙ e)
common_places circuit [] (list ∷ lists) placement more after c few same all also e = absurd (omega (arith, few))
common_places circuit (zone ∷ zones) (list ∷ lists) [] more after c few same all also e = absurd (omega (arith, same))
common_places circuit (zone ∷ zones) (list ∷ lists) (other ∷ placement) more after c few same all also e =
    let P : Qubit → Type 0 = λ qubit. qubit.0 < qubit_count circuit in
    let parts = sym (append_assoc (place_line circuit zone list) (place_lines circuit zones lists) more) ∙ e ∙ append_assoc (place_line circuit zone other) (place_lines circuit zones placement) after in
    let first = one_place_line circuit zone list other _ _ c (all_left P list (reading_order lists) all) (all_left P other (reading_order placement) also) parts in
    let later =
    common_places circuit zones lists placement more after c (omega (arith, few)) (omega (arith, same)) (all_right P list (reading_order lists) all) (all_right P other (reading_order placement) also) first.1 in
    let here : list ≡ other = first.0 in
    let there : lists ≡ take (length lists) placement = later.0 in
    (ap (λ (l : List Qubit). l ∷ lists) here ∙ ap (λ (l : List (List Qubit)). other ∷ l) there, later.1)

after_head : (trap : TrapValue) (circuit : CircuitValue) (lists : List (List Qubit)) (more : List ℕ) → IsCircuit circuit → Opens trap circuit lists → (text : IsText trap circuit (head_text trap circuit lists ++ more))
    → (lists ≡ take (length lists) text.placement)
    × (more ≡ place_lines circuit (drop (length lists) trap.zones) (drop (length lists) text.placement) ++ after_places (setting_of trap circuit text.placement) text.steps)
after_head trap circuit lists more c opened text =
    let head = codes "qccd schedule 1\n" in
    common_places circuit trap.zones lists text.placement more _ c opened.zones text.spells.placed.zones opened.qubits text.spells.placed.qubits
    (same_rest head _ _ (sym (append_assoc head (place_lines circuit trap.zones lists) more) ∙ text_is trap circuit _ text))

-- ---- the line of the next zone

-- the first of more lists, and the zone that it is in
record NextPlace (circuit : CircuitValue) (zone : ZonePart) (zones : List ZonePart) (placement : List (List Qubit)) (k : ℕ) : Type 0 where
  list : List Qubit
  grown : take (suc k) placement ≡ take k placement ++ list ∷ []
  there : All (λ (qubit : Qubit). qubit.0 < qubit_count circuit) list
  after : List ℕ
  lines : place_lines circuit (drop k zones) (drop k placement) ≡ place_line circuit zone list ++ after

next_place : (circuit : CircuitValue) (zone : ZonePart) (zones : List ZonePart) (placement : List (List Qubit)) (k : ℕ) → slice_get zones k ≡ Some zone → length placement ≡ length zones → AreThere circuit placement
    → NextPlace circuit zone zones placement k
next_place circuit zone [] placement k e same also = absurd cc
next_place circuit zone (first ∷ zones) [] k e same also = absurd (omega (arith, same))
next_place circuit zone (first ∷ zones) (list ∷ placement) zero e same also = record {
  list = list;
  grown = refl;
  there = all_left (λ (qubit : Qubit). qubit.0 < qubit_count circuit) list (reading_order placement) also;
  after = place_lines circuit zones placement;
  lines = ap (λ (z : ZonePart). place_line circuit z list ++ place_lines circuit zones placement) (same_Some first zone e);
}
next_place circuit zone (first ∷ zones) (list ∷ placement) (suc k) e same also =
    let P : Qubit → Type 0 = λ qubit. qubit.0 < qubit_count circuit in
    let later = next_place circuit zone zones placement k e (omega (arith, same)) (all_right P list (reading_order placement) also) in
    record {
      list = later.list;
      grown = ap (λ (l : List (List Qubit)). list ∷ l) later.grown;
      there = later.there;
      after = later.after;
      lines = later.lines;
    }

-- a list that may be in the next zone fits there
pub next_fits : (trap : TrapValue) (circuit : CircuitValue) (lists : List (List Qubit)) (zone : ZonePart) (list : List Qubit) → slice_get trap.zones (length lists) ≡ Some zone → Opens trap circuit (lists ++ list ∷ [])
    → length list ≤ zone.capacity
next_fits trap circuit lists zone list at opened =
    let zone_is : limit_of trap (length lists) ≡ zone.capacity = rw at refl in
    let last : length lists + 0 ≡ length lists = omega arith in
    omega (arith, opened.room (length lists) list (slice_get_right lists (list ∷ []) 0 (length lists) last), zone_is)

-- the reader of the next list doesn't find one that may be there
pub list_sticks : (trap : TrapValue) (circuit : CircuitValue) (lists : List (List Qubit)) (zone : ZonePart) (bytes : List ℕ) → IsTrap trap → IsCircuit circuit → Opens trap circuit lists
    → slice_get trap.zones (length lists) ≡ Some zone → length lists < length trap.zones
    → ((list : List Qubit) (rest : List ℕ) → All (λ (qubit : Qubit). qubit.0 < qubit_count circuit) list → bytes ≡ place_line circuit zone list ++ rest → Opens trap circuit (lists ++ list ∷ []) → ⊥)
    → Sticks trap circuit (head_text trap circuit lists) bytes
list_sticks trap circuit lists zone bytes t c opened at within none more text =
    let after = after_head trap circuit lists more c opened text in
    let placement = text.placement in
    let placed : IsPlacement trap circuit placement = text.spells.placed in
    let next = next_place circuit zone trap.zones placement (length lists) at placed.zones placed.qubits in
    let tail = after_places (setting_of trap circuit placement) text.steps in
    let grown : take (suc (length lists)) placement ≡ lists ++ next.list ∷ [] = next.grown ∙ ap (λ (l : List (List Qubit)). l ++ next.list ∷ []) (sym after.0) in
    parted_by more bytes (record {
      line = place_line circuit zone next.list;
      after = next.after ++ tail;
      is_line = place_is_line circuit zone next.list c (zone_free trap (length lists) zone 10 t within at line_end) next.there;
      more_is = after.1 ∙ ap (λ (l : List ℕ). l ++ tail) next.lines ∙ append_assoc (place_line circuit zone next.list) next.after tail;
      differs = λ other e. none next.list other next.there e (subst (Opens trap circuit) grown (placed_opens trap circuit placement (suc (length lists)) placed (omega (arith, within))));
    })

pub order_more : (circuit : CircuitValue) (lists more : List (List Qubit)) (list : List Qubit) → more ≡ lists ++ list ∷ [] → AreThere circuit lists → All (λ (qubit : Qubit). qubit.0 < qubit_count circuit) list → AreThere circuit more
order_more circuit lists more list is all there =
    let P : Qubit → Type 0 = λ qubit. qubit.0 < qubit_count circuit in
    let order : reading_order more ≡ reading_order lists ++ list = ap reading_order is ∙ flat_map-append (λ l. l) lists (list ∷ []) ∙ ap (λ (l : List Qubit). reading_order lists ++ l) (append-nil list) in
    subst (All P) (sym order) (All-append P (reading_order lists) list all there)

-- one more list has one more line
lines_more : (circuit : CircuitValue) (zones : List ZonePart) (lists : List (List Qubit)) (zone : ZonePart) (list : List Qubit) → slice_get zones (length lists) ≡ Some zone
    → place_lines circuit zones (lists ++ list ∷ []) ≡ place_lines circuit zones lists ++ place_line circuit zone list
lines_more circuit [] lists zone list e = absurd cc
lines_more circuit (first ∷ zones) [] zone list e = ap (λ (text : List ℕ). place_line circuit first list ++ text) (no_lists circuit zones) ∙ append-nil (place_line circuit first list) ∙ ap (λ (z : ZonePart). place_line circuit z list) (same_Some first zone e)
lines_more circuit (first ∷ zones) (other ∷ lists) zone list e =
    ap (λ (text : List ℕ). place_line circuit first other ++ text) (lines_more circuit zones lists zone list e) ∙ sym (append_assoc (place_line circuit first other) (place_lines circuit zones lists) (place_line circuit zone list))

pub head_more : (trap : TrapValue) (circuit : CircuitValue) (lists : List (List Qubit)) (zone : ZonePart) (list : List Qubit) (bytes rest : List ℕ) → slice_get trap.zones (length lists) ≡ Some zone → bytes ≡ place_line circuit zone list ++ rest
    → head_text trap circuit (lists ++ list ∷ []) ++ rest ≡ head_text trap circuit lists ++ bytes
head_more trap circuit lists zone list bytes rest at e =
    let head = codes "qccd schedule 1\n" in
    let lines = place_lines circuit trap.zones lists in
    let line = place_line circuit zone list in
    ap (λ (text : List ℕ). (head ++ text) ++ rest) (lines_more circuit trap.zones lists zone list at) ∙ ap (λ (text : List ℕ). text ++ rest) (sym (append_assoc head lines line)) ∙ append_assoc (head ++ lines) line rest
    ∙ ap (λ (text : List ℕ). (head ++ lines) ++ text) (sym e)

pub head_none : (trap : TrapValue) (circuit : CircuitValue) (rest : List ℕ) → codes "qccd schedule 1\n" ++ rest ≡ head_text trap circuit [] ++ rest
head_none trap circuit rest = ap (λ (text : List ℕ). text ++ rest) (sym (append-nil (codes "qccd schedule 1\n")) ∙ ap (λ (text : List ℕ). codes "qccd schedule 1\n" ++ text) (sym (no_lists circuit trap.zones)))

-- ---- the line that counts the steps

-- all lists were read: the text's placement is theirs, and what comes next is what comes after its lines
pub record AfterPlaces (trap : TrapValue) (circuit : CircuitValue) (placement : List (List Qubit)) (more : List ℕ) : Type 0 where
  pub steps : List (List Action)
  pub few : length steps < 2 ^ 64
  pub known : All (All (IsKnown trap circuit)) steps
  pub more_is : more ≡ after_places (setting_of trap circuit placement) steps

pub all_after : (trap : TrapValue) (circuit : CircuitValue) (placement : List (List Qubit)) (more : List ℕ) → IsCircuit circuit → Opens trap circuit placement → length placement ≡ length trap.zones
    → IsText trap circuit (head_text trap circuit placement ++ more) → AfterPlaces trap circuit placement more
all_after trap circuit placement more c opened all text =
    let after = after_head trap circuit placement more c opened text in
    let other = text.placement in
    let none : place_lines circuit (drop (length placement) trap.zones) (drop (length placement) other) ≡ [] =
    ap (λ (zones : List ZonePart). place_lines circuit zones (drop (length placement) other)) (drop_all (length placement) trap.zones (omega (arith, all))) in
    let same : placement ≡ other = after.0 ∙ take_all (length placement) other (omega (arith, all, text.spells.placed.zones)) in
    record {
      steps = text.steps;
      few = text.spells.few;
      known = text.spells.known;
      more_is =
          after.1 ∙ ap (λ (l : List ℕ). l ++ after_places (setting_of trap circuit other) text.steps) none
          ∙ ap (λ (p : List (List Qubit)). after_places (setting_of trap circuit p) text.steps) (sym same);
    }

pub count_sticks : (trap : TrapValue) (circuit : CircuitValue) (placement : List (List Qubit)) (bytes : List ℕ) → IsCircuit circuit → Opens trap circuit placement → length placement ≡ length trap.zones
    → ((count : ℕ) (rest : List ℕ) → count < 2 ^ 64 → bytes ≡ (codes "steps " ++ decimal count ++ codes "\n") ++ rest → ⊥)
    → Sticks trap circuit (head_text trap circuit placement) bytes
count_sticks trap circuit placement bytes c opened all none more text =
    let after = all_after trap circuit placement more c opened all text in
    parted_by more bytes (record {
      line = codes "steps " ++ decimal (length after.steps) ++ codes "\n";
      after = step_lines (setting_of trap circuit placement) 1 after.steps ++ codes "end\n";
      is_line = steps_is_line (length after.steps) after.few;
      more_is = after.more_is;
      differs = λ other e. none (length after.steps) other after.few e;
    })

pub placed_opened : (trap : TrapValue) (circuit : CircuitValue) (placement : List (List Qubit)) → IsPlacement trap circuit placement → Opens trap circuit placement
placed_opened trap circuit placement placed =
    subst (Opens trap circuit) (take_all (length placement) placement (omega arith)) (placed_opens trap circuit placement (length placement) placed (omega (arith, placed.zones)))
