-- A line end is at the end of a line alone.
use Rattle.std.proofs.Common.{◌≡◌, ℕ, suc, ◌+◌, ◌*◌, ◌^◌, ◌<◌, ◌≤◌, List, [], ◌∷◌, ◌++◌, length, Some, refl, sym, ap, subst, ◌∙◌, arith, length-append, append_assoc}
use Rattle.std.specs.Prelude.{decimal, codes, slice_get, ◌==◌}
use Rattle.std.proofs.lemmas.Bool.{cond_both}
use Rattle.std.proofs.lemmas.Option.{get_or_from_slice_get, slice_get_within}
use Rattle.qc_base.specs.declared.ids.End.{End}
use Rattle.qc_base.specs.declared.ids.Qubit.{Qubit}
use Rattle.qc_base.specs.Spelling.{IsFree}
use Rattle.qc_base.proofs.Words.{free_decimal}
use Rattle.circuit_core.specs.declared.op.Op.{Op}
use Rattle.circuit_core.specs.Circuit.{CircuitValue, IsCircuit, IsOpOf}
use Rattle.circuit_core.specs.Op.{qubits_of}
use Rattle.circuit_core.specs.OpText.{op_text}
use Rattle.circuit_core.proofs.Lines.{op_line as op_is_line}
use Rattle.trap_parts.specs.Parts.{TrapValue}
use Rattle.trap_model.specs.Trap.{place_count, place_text}
use Rattle.trap_parts.specs.Build.{IsTrap}
use Rattle.step_rules.specs.declared.action.Action.{Action}
use Rattle.step_rules.specs.declared.action.Action.TheVariants as actions
use Rattle.step_rules.specs.Placement.{IsPlacement, reading_order, place_of, ion_of}
use Rattle.step_rules.specs.Setting.{SettingValue, setting_of}
use Rattle.step_rules.proofs.Placements.{limit_small}
use Rattle.schedule_text.specs.Text.{ions_text, ion_words, end_text, zone_end, two_places, split_line, move_line, cross_line, merge_line, swap_line, performed_line, action_line}
use Rattle.schedule_text.specs.Reading.{IsKnown}
use Rattle.schedule_text.specs.Progress.{IsLine}
use Rattle.schedule_text.proofs.Names.{place_free, junction_text, junction_free}
use Rattle.schedule_text.proofs.Lines.{literal_free, free_append}
use Rattle.schedule_text.proofs.LineWords.{end_sign, line_end, end_free, small_number, op_at, few_ops}

pub line_of : (word : List ℕ) → IsFree 10 word → IsLine (word ++ 10 ∷ [])
line_of word free = record { word = word; free = free; line_is = refl }

none_free : (sign : ℕ) → IsFree sign []
none_free sign k d h = absurd (omega arith)

-- the ions' numbers are small
place_small : (qubit : Qubit) (list : List Qubit) → place_of qubit list ≤ length list
place_small qubit [] = omega arith
place_small qubit (other ∷ list) =
    cond_both (other.0 == qubit.0) 0 (1 + place_of qubit list) (λ n. n ≤ length (other ∷ list)) (λ same. omega arith) (λ differs. omega (arith, place_small qubit list))

few_in_all : (lists : List (List Qubit)) → ((k : ℕ) (list : List Qubit) → slice_get lists k ≡ Some list → length list ≤ 32) → length (reading_order lists) ≤ length lists * 32
few_in_all [] small = omega arith
few_in_all (list ∷ lists) small = omega (arith, length-append list (reading_order lists), small 0 list refl, few_in_all lists (λ k l e. small (suc k) l e))

pub few_ions : (trap : TrapValue) (circuit : CircuitValue) (placement : List (List Qubit)) → IsTrap trap → IsPlacement trap circuit placement → length (reading_order placement) < 2 ^ 64
few_ions trap circuit placement t placed =
    let small : (k : ℕ) (list : List Qubit) → slice_get placement k ≡ Some list → length list ≤ 32 =
    λ k list e.
    let within : k < length placement = slice_get_within placement k list e in
    omega (arith, placed.room k list e, placed.zones, limit_small trap k t (omega (arith, placed.zones))) in
    omega (arith, few_in_all placement small, placed.zones, t.zones)

ions_free : (placement : List (List Qubit)) (list : List Qubit) → length (reading_order placement) < 2 ^ 64 → IsFree 10 (ions_text placement list)
ions_free placement [] few = none_free 10
ions_free placement (qubit ∷ list) few =
    let ion : (ion_of placement qubit).0 < 2 ^ 64 = omega (arith, place_small qubit (reading_order placement)) in
    free_append 10 (codes " " ++ decimal (ion_of placement qubit).0) _
    (free_append 10 (codes " ") (decimal (ion_of placement qubit).0) (literal_free 10 (codes " ") refl) (free_decimal 10 (ion_of placement qubit).0 end_sign ion)) (ions_free placement list few)

zone_end_free : (trap : TrapValue) (zone : ℕ) (end : End) → IsTrap trap → zone < place_count trap → IsFree 10 (zone_end trap zone end)
zone_end_free trap zone end t h =
    free_append 10 (place_text trap zone ++ codes " ") (end_text end) (free_append 10 (place_text trap zone) (codes " ") (place_free trap zone 10 t h line_end) (literal_free 10 (codes " ") refl)) (end_free 10 end line_end)

two_places_free : (trap : TrapValue) (from to : ℕ) → IsTrap trap → from < place_count trap → to < place_count trap → IsFree 10 (two_places trap from to)
two_places_free trap from to t hf ht =
    free_append 10 (place_text trap from ++ codes " ") (place_text trap to) (free_append 10 (place_text trap from) (codes " ") (place_free trap from 10 t hf line_end) (literal_free 10 (codes " ") refl)) (place_free trap to 10 t ht line_end)

-- a word, a text and a space
worded_free : (word text : List ℕ) → IsFree 10 word → IsFree 10 text → IsFree 10 (word ++ text ++ codes " ")
worded_free word text free also = free_append 10 (word ++ text) (codes " ") (free_append 10 word text free also) (literal_free 10 (codes " ") refl)

split_is_line : (trap : TrapValue) (zone : ℕ) (end : End) (count : ℕ) → IsTrap trap → zone < place_count trap → count < 2 ^ 32 → IsLine (split_line trap zone end count)
split_is_line trap zone end count t h few =
    line_of (codes "split " ++ zone_end trap zone end ++ codes " " ++ decimal count)
    (free_append 10 (codes "split " ++ zone_end trap zone end ++ codes " ") (decimal count) (worded_free (codes "split ") (zone_end trap zone end) (literal_free 10 (codes "split ") refl) (zone_end_free trap zone end t h))
    (free_decimal 10 count end_sign (small_number count few)))

move_is_line : (trap : TrapValue) (from to : ℕ) → IsTrap trap → from < place_count trap → to < place_count trap → IsLine (move_line trap from to)
move_is_line trap from to t hf ht =
    line_of (codes "move " ++ two_places trap from to) (free_append 10 (codes "move ") (two_places trap from to) (literal_free 10 (codes "move ") refl) (two_places_free trap from to t hf ht))

cross_is_line : (trap : TrapValue) (junction from to : ℕ) → IsTrap trap → junction < length trap.junctions → from < place_count trap → to < place_count trap → IsLine (cross_line trap junction from to)
cross_is_line trap junction from to t hj hf ht =
    line_of (codes "cross " ++ junction_text trap junction ++ codes " " ++ two_places trap from to)
    (free_append 10 (codes "cross " ++ junction_text trap junction ++ codes " ") (two_places trap from to)
    (worded_free (codes "cross ") (junction_text trap junction) (literal_free 10 (codes "cross ") refl) (junction_free trap junction 10 t hj line_end)) (two_places_free trap from to t hf ht))

merge_is_line : (trap : TrapValue) (zone : ℕ) (end : End) → IsTrap trap → zone < place_count trap → IsLine (merge_line trap zone end)
merge_is_line trap zone end t h =
    line_of (codes "merge " ++ zone_end trap zone end) (free_append 10 (codes "merge ") (zone_end trap zone end) (literal_free 10 (codes "merge ") refl) (zone_end_free trap zone end t h))

swap_is_line : (trap : TrapValue) (zone index : ℕ) → IsTrap trap → zone < place_count trap → index < 2 ^ 32 → IsLine (swap_line trap zone index)
swap_is_line trap zone index t h few =
    line_of (codes "swap " ++ place_text trap zone ++ codes " " ++ decimal index)
    (free_append 10 (codes "swap " ++ place_text trap zone ++ codes " ") (decimal index) (worded_free (codes "swap ") (place_text trap zone) (literal_free 10 (codes "swap ") refl) (place_free trap zone 10 t h line_end))
    (free_decimal 10 index end_sign (small_number index few)))

abbrev op_words : SettingValue → ℕ → Op → List ℕ
op_words setting number op = decimal number ++ codes " ions" ++ ion_words setting.placement op ++ codes " : " ++ op_text setting.circuit op

op_words_free : (setting : SettingValue) (number : ℕ) (op : Op) → IsCircuit setting.circuit → IsOpOf setting.circuit op → length (reading_order setting.placement) < 2 ^ 64 → number < 2 ^ 64
    → IsFree 10 (op_words setting number op)
op_words_free setting number op c on ions few =
    let ions_text = ion_words setting.placement op in
    let counted = free_append 10 (decimal number) (codes " ions") (free_decimal 10 number end_sign few) (literal_free 10 (codes " ions") refl) in
    let listed = free_append 10 (decimal number ++ codes " ions") ions_text counted (ions_free setting.placement (qubits_of op) ions) in
    let colon = free_append 10 (decimal number ++ codes " ions" ++ ions_text) (codes " : ") listed (literal_free 10 (codes " : ") refl) in
    free_append 10 (decimal number ++ codes " ions" ++ ions_text ++ codes " : ") (op_text setting.circuit op) colon (op_is_line setting.circuit op c on)

op_on : (circuit : CircuitValue) (number : ℕ) (op : Op) → IsCircuit circuit → slice_get circuit.ops number ≡ Some op → IsOpOf circuit op
op_on circuit number op c e =
    subst (λ (o : Op). IsOpOf circuit o) (get_or_from_slice_get circuit.ops number op op e) (c.ops number op (slice_get_within circuit.ops number op e))

performed_is_line : (setting : SettingValue) (zone number : ℕ) → IsTrap setting.trap → IsCircuit setting.circuit → length (reading_order setting.placement) < 2 ^ 64
    → zone < place_count setting.trap → number < length setting.circuit.ops → IsLine (performed_line setting zone number)
performed_is_line setting zone number t c ions hz ho =
    let found = op_at setting number ho in
    let front = codes "op " ++ place_text setting.trap zone ++ codes " " in
    let words = op_words setting number found.op in
    record {
      word = front ++ words;
      free =
          free_append 10 front words (worded_free (codes "op ") (place_text setting.trap zone) (literal_free 10 (codes "op ") refl) (place_free setting.trap zone 10 t hz line_end))
          (op_words_free setting number found.op c (op_on setting.circuit number found.op c found.there) ions (few_ops setting.circuit number c ho));
      line_is = ap (λ (text : List ℕ). front ++ text) found.line_is ∙ sym (append_assoc front words (10 ∷ []));
    }

pub action_is_line : (trap : TrapValue) (circuit : CircuitValue) (placement : List (List Qubit)) (action : Action) → IsTrap trap → IsCircuit circuit → length (reading_order placement) < 2 ^ 64 → IsKnown trap circuit action
    → IsLine (action_line (setting_of trap circuit placement) action)
action_is_line trap circuit placement (actions.Split zone end count) t c ions known = split_is_line trap zone.0 end count t known.0 known.1
action_is_line trap circuit placement (actions.Move from to) t c ions known = move_is_line trap from.0 to.0 t known.0 known.1
action_is_line trap circuit placement (actions.Cross junction from to) t c ions known = cross_is_line trap junction.0 from.0 to.0 t known.0 known.1 known.2
action_is_line trap circuit placement (actions.Merge zone end) t c ions known = merge_is_line trap zone.0 end t known
action_is_line trap circuit placement (actions.Swap zone index) t c ions known = swap_is_line trap zone.0 index t known.0 known.1
action_is_line trap circuit placement (actions.Op zone op) t c ions known = performed_is_line (setting_of trap circuit placement) zone.0 op.0 t c ions known.0 known.1
