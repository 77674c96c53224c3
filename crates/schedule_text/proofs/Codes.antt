-- Each line of a text is the line of one thing alone, and says where it ends; so a text is the text of one pair.
use Rattle.std.proofs.Common.{◌≡◌, ℕ, ◌+◌, ◌^◌, ◌<◌, List, [], ◌∷◌, ◌++◌, length, refl, sym, ap, ◌∙◌, arith, length-append, append_assoc}
use Rattle.std.specs.Prelude.{All, decimal, codes}
use Rattle.std.specs.List.{flat_map}
use Rattle.std.proofs.lemmas.Fmt.{decimal_injective}
use Rattle.std.proofs.lemmas.List.{get_or_append_left, get_or-append-add}
use Rattle.std.proofs.lemmas.List.Elements.{All-head, All-tail}
use Rattle.qc_base.specs.declared.ids.Qubit.{Qubit}
use Rattle.qc_base.specs.Spelling.{IsFree}
use Rattle.qc_base.proofs.Words.{free_decimal, same_rest}
use Rattle.circuit_core.specs.Circuit.{CircuitValue, IsCircuit, qubit_count}
use Rattle.circuit_core.specs.Label.{label}
use Rattle.circuit_core.proofs.CircuitLabels.{label_free, label_one, one_qubit}
use Rattle.trap_parts.specs.declared.parts.ZonePart.{ZonePart}
use Rattle.trap_parts.specs.Parts.{TrapValue}
use Rattle.trap_parts.specs.Build.{IsTrap}
use Rattle.step_rules.specs.declared.action.Action.{Action}
use Rattle.step_rules.specs.declared.action.Action.TheVariants as actions
use Rattle.step_rules.specs.Placement.{IsPlacement, reading_order}
use Rattle.step_rules.specs.Setting.{SettingValue, setting_of}
use Rattle.schedule_text.specs.Text.{labels_text, place_line, place_lines, action_line, step_lines}
use Rattle.schedule_text.specs.Reading.{IsKnown, Spells}
use Rattle.schedule_text.specs.Progress.{IsGap, line_text, MayFollow, IsLine}
use Rattle.schedule_text.specs.declared.body_line.BodyLine.{BodyLine}
use Rattle.schedule_text.specs.declared.body_line.BodyLine.TheVariants as lines
use Rattle.schedule_text.proofs.Lines.{literal_free, free_append, last_word, gap_before, parted, parted_at_once}
use Rattle.schedule_text.proofs.LineWords.{end_sign, space, line_end, gap_apart}
use Rattle.schedule_text.proofs.ActionLines.{one_split, one_move, one_cross, one_merge, one_swap, one_performed}
use Rattle.schedule_text.proofs.WholeLines.{line_of, few_ions, action_is_line}
use Rattle.schedule_text.proofs.WordEnds.{labels_free}

-- two numbers before line ends
pub number_line : (a b : ℕ) (rest more : List ℕ) → a < 2 ^ 64 → b < 2 ^ 64 → (decimal a ++ codes "\n") ++ rest ≡ (decimal b ++ codes "\n") ++ more → (a ≡ b) × (rest ≡ more)
number_line a b rest more ha hb e =
    let line = last_word (decimal a) (decimal b) rest more (free_decimal 10 a end_sign ha) (free_decimal 10 b end_sign hb) e in
    (decimal_injective a b ha hb line.0, line.1)

-- what comes after a label begins with a gap
record BeginsGap (text : List ℕ) : Type 0 where
  sign : ℕ
  rest : List ℕ
  gap : IsGap sign
  text_is : text ≡ sign ∷ rest

begins : (circuit : CircuitValue) (list : List Qubit) (rest : List ℕ) → BeginsGap (labels_text circuit list ++ 10 ∷ rest)
begins circuit [] rest = record { sign = 10; rest = rest; gap = line_end; text_is = refl }
begins circuit (qubit ∷ list) rest = record { sign = 32; rest = (label circuit qubit ++ labels_text circuit list) ++ 10 ∷ rest; gap = space; text_is = refl }

one_labels : (circuit : CircuitValue) (list other : List Qubit) (rest more : List ℕ) → IsCircuit circuit
    → All (λ (qubit : Qubit). qubit.0 < qubit_count circuit) list → All (λ (qubit : Qubit). qubit.0 < qubit_count circuit) other
    → labels_text circuit list ++ 10 ∷ rest ≡ labels_text circuit other ++ 10 ∷ more → (list ≡ other) × (rest ≡ more)
one_labels circuit [] [] rest more c all also e = (refl, same_rest (10 ∷ []) rest more e)
one_labels circuit [] (q ∷ other) rest more c all also e = absurd (parted_at_once _ _ _ _ e refl)
one_labels circuit (p ∷ list) [] rest more c all also e = absurd (parted_at_once _ _ _ _ e refl)
one_labels circuit (p ∷ list) (q ∷ other) rest more c all also e =
    let P : Qubit → Type 0 = λ qubit. qubit.0 < qubit_count circuit in
    let there = begins circuit list rest in
    let here = begins circuit other more in
    let after = sym (append_assoc (label circuit p) (labels_text circuit list) (10 ∷ rest)) ∙ same_rest (32 ∷ []) _ _ e ∙ append_assoc (label circuit q) (labels_text circuit other) (10 ∷ more) in
    let parts =
    gap_before there.sign here.sign (label circuit p) (label circuit q) there.rest here.rest
    (label_free circuit p.0 here.sign c (All-head P p list all) (gap_apart here.sign here.gap)) (label_free circuit q.0 there.sign c (All-head P q other also) (gap_apart there.sign there.gap))
    (ap (λ (text : List ℕ). label circuit p ++ text) (sym there.text_is) ∙ after ∙ ap (λ (text : List ℕ). label circuit q ++ text) here.text_is) in
    let first : p ≡ q = one_qubit p q (label_one circuit p.0 q.0 c (All-head P p list all) (All-head P q other also) parts.0) in
    let others = one_labels circuit list other rest more c (All-tail P p list all) (All-tail P q other also) (there.text_is ∙ parts.1 ∙ sym here.text_is) in
    let all_same : list ≡ other = others.0 in
    (cc, others.1)

place_grouped : (name words rest : List ℕ) → (codes "place " ++ name ++ words ++ codes "\n") ++ rest ≡ (codes "place " ++ name) ++ (words ++ 10 ∷ rest)
place_grouped name words rest = simp append_assoc

pub one_place_line : (circuit : CircuitValue) (zone : ZonePart) (list other : List Qubit) (rest more : List ℕ) → IsCircuit circuit
    → All (λ (qubit : Qubit). qubit.0 < qubit_count circuit) list → All (λ (qubit : Qubit). qubit.0 < qubit_count circuit) other
    → place_line circuit zone list ++ rest ≡ place_line circuit zone other ++ more → (list ≡ other) × (rest ≡ more)
one_place_line circuit zone list other rest more c all also e =
    let grouped = sym (place_grouped zone.name (labels_text circuit list) rest) ∙ e ∙ place_grouped zone.name (labels_text circuit other) more in
    one_labels circuit list other rest more c all also (same_rest (codes "place " ++ zone.name) _ _ grouped)

pub one_action_line : (trap : TrapValue) (circuit : CircuitValue) (placement : List (List Qubit)) (a b : Action) (rest more : List ℕ) → IsTrap trap → IsCircuit circuit → IsKnown trap circuit a → IsKnown trap circuit b
    → action_line (setting_of trap circuit placement) a ++ rest ≡ action_line (setting_of trap circuit placement) b ++ more → (a ≡ b) × (rest ≡ more)
one_action_line trap circuit placement (actions.Split zone end count) (actions.Split other also number) rest more t c known too e =
    one_split trap zone other end also count number rest more t known.0 too.0 known.1 too.1 e
one_action_line trap circuit placement (actions.Move from to) (actions.Move start target) rest more t c known too e =
    one_move trap from to start target rest more t known.0 known.1 too.0 too.1 e
one_action_line trap circuit placement (actions.Cross junction from to) (actions.Cross other start target) rest more t c known too e =
    one_cross trap junction other from to start target rest more t known.0 too.0 known.1 known.2 too.1 too.2 e
one_action_line trap circuit placement (actions.Merge zone end) (actions.Merge other also) rest more t c known too e =
    one_merge trap zone other end also rest more t known too e
one_action_line trap circuit placement (actions.Swap zone index) (actions.Swap other number) rest more t c known too e =
    one_swap trap zone other index number rest more t known.0 too.0 known.1 too.1 e
one_action_line trap circuit placement (actions.Op zone op) (actions.Op other also) rest more t c known too e =
    one_performed (setting_of trap circuit placement) zone other op also rest more t c known.0 too.0 known.1 too.1 e
one_action_line trap circuit placement a b rest more t c known too e = absurd (parted _ _ _ _ _ _ e refl)

-- ---- the lines of a body

pub no_step : (setting : SettingValue) (action : Action) (rest more : List ℕ) → action_line setting action ++ rest ≡ codes "step " ++ more → ⊥
no_step setting (actions.Split zone end count) rest more e = parted _ _ _ _ _ _ e refl
no_step setting (actions.Move from to) rest more e = parted _ _ _ _ _ _ e refl
no_step setting (actions.Cross junction from to) rest more e = parted _ _ _ _ _ _ e refl
no_step setting (actions.Merge zone end) rest more e = parted _ _ _ _ _ _ e refl
no_step setting (actions.Swap zone index) rest more e = parted _ _ _ _ _ _ e refl
no_step setting (actions.Op zone op) rest more e = parted _ _ _ _ _ _ e refl

pub no_end : (setting : SettingValue) (action : Action) (rest more : List ℕ) → action_line setting action ++ rest ≡ codes "end\n" ++ more → ⊥
no_end setting (actions.Split zone end count) rest more e = parted _ _ _ _ _ _ e refl
no_end setting (actions.Move from to) rest more e = parted _ _ _ _ _ _ e refl
no_end setting (actions.Cross junction from to) rest more e = parted _ _ _ _ _ _ e refl
no_end setting (actions.Merge zone end) rest more e = parted _ _ _ _ _ _ e refl
no_end setting (actions.Swap zone index) rest more e = parted _ _ _ _ _ _ e refl
no_end setting (actions.Op zone op) rest more e = parted _ _ _ _ _ _ e refl

-- the lines of a body, where the numbers of steps are below the limit
pub one_body_line : (trap : TrapValue) (circuit : CircuitValue) (placement : List (List Qubit)) (count : ℕ) (steps : List (List Action)) (a b : BodyLine) (rest more : List ℕ)
    → IsTrap trap → IsCircuit circuit → count < 2 ^ 64 → MayFollow trap circuit count steps a → MayFollow trap circuit count steps b
    → line_text (setting_of trap circuit placement) (length steps + 1) a ++ rest ≡ line_text (setting_of trap circuit placement) (length steps + 1) b ++ more → (a ≡ b) × (rest ≡ more)
one_body_line trap circuit placement count steps lines.Step lines.Step rest more t c few may also e = (refl, same_rest (codes "step " ++ decimal (length steps + 1) ++ codes "\n") rest more e)
one_body_line trap circuit placement count steps (lines.Act a) (lines.Act b) rest more t c few may also e =
    let one = one_action_line trap circuit placement a b rest more t c may.1 also.1 e in (ap (λ (action : Action). lines.Act action) one.0, one.1)
one_body_line trap circuit placement count steps lines.End lines.End rest more t c few may also e = (refl, same_rest (codes "end\n") rest more e)
one_body_line trap circuit placement count steps lines.Step (lines.Act b) rest more t c few may also e = absurd (no_step (setting_of trap circuit placement) b more _ (sym e))
one_body_line trap circuit placement count steps (lines.Act a) lines.Step rest more t c few may also e = absurd (no_step (setting_of trap circuit placement) a rest _ e)
one_body_line trap circuit placement count steps lines.End (lines.Act b) rest more t c few may also e = absurd (no_end (setting_of trap circuit placement) b more rest (sym e))
one_body_line trap circuit placement count steps (lines.Act a) lines.End rest more t c few may also e = absurd (no_end (setting_of trap circuit placement) a rest more e)
one_body_line trap circuit placement count steps lines.Step lines.End rest more t c few may also e = absurd (parted _ _ _ _ _ _ e refl)
one_body_line trap circuit placement count steps lines.End lines.Step rest more t c few may also e = absurd (parted _ _ _ _ _ _ e refl)

-- ---- each of them is one line

pub place_is_line : (circuit : CircuitValue) (zone : ZonePart) (list : List Qubit) → IsCircuit circuit → IsFree 10 zone.name → All (λ (qubit : Qubit). qubit.0 < qubit_count circuit) list → IsLine (place_line circuit zone list)
place_is_line circuit zone list c named all =
    line_of (codes "place " ++ zone.name ++ labels_text circuit list)
    (free_append 10 (codes "place " ++ zone.name) (labels_text circuit list) (free_append 10 (codes "place ") zone.name (literal_free 10 (codes "place ") refl) named) (labels_free circuit list c all))

pub steps_is_line : (count : ℕ) → count < 2 ^ 64 → IsLine (codes "steps " ++ decimal count ++ codes "\n")
steps_is_line count few =
    line_of (codes "steps " ++ decimal count) (free_append 10 (codes "steps ") (decimal count) (literal_free 10 (codes "steps ") refl) (free_decimal 10 count end_sign few))

pub body_is_line : (trap : TrapValue) (circuit : CircuitValue) (placement : List (List Qubit)) (count : ℕ) (steps : List (List Action)) (line : BodyLine)
    → IsTrap trap → IsCircuit circuit → IsPlacement trap circuit placement → count < 2 ^ 64 → MayFollow trap circuit count steps line → IsLine (line_text (setting_of trap circuit placement) (length steps + 1) line)
body_is_line trap circuit placement count steps lines.Step t c placed few may =
    line_of (codes "step " ++ decimal (length steps + 1))
    (free_append 10 (codes "step ") (decimal (length steps + 1)) (literal_free 10 (codes "step ") refl) (free_decimal 10 (length steps + 1) end_sign (omega arith)))
body_is_line trap circuit placement count steps (lines.Act action) t c placed few may = action_is_line trap circuit placement action t c (few_ions trap circuit placement t placed) may.1
body_is_line trap circuit placement count steps lines.End t c placed few may = line_of (codes "end") (literal_free 10 (codes "end") refl)

-- ---- the lines of the zones

pub all_left : (P : Qubit → Type 0) (xs ys : List Qubit) → All P (xs ++ ys) → All P xs
all_left P xs ys all k d h = rw (← get_or_append_left xs ys d k h) (all k d (omega (arith, length-append xs ys)))

pub all_right : (P : Qubit → Type 0) (xs ys : List Qubit) → All P (xs ++ ys) → All P ys
all_right P xs ys all k d h = rw (← get_or-append-add xs ys k d) (all (length xs + k) d (omega (arith, length-append xs ys)))

one_zone_lines : (circuit : CircuitValue) (zones : List ZonePart) (lists others : List (List Qubit)) (rest more : List ℕ) → IsCircuit circuit → length lists ≡ length zones → length others ≡ length zones
    → All (λ (qubit : Qubit). qubit.0 < qubit_count circuit) (reading_order lists) → All (λ (qubit : Qubit). qubit.0 < qubit_count circuit) (reading_order others)
    → place_lines circuit zones lists ++ rest ≡ place_lines circuit zones others ++ more → (lists ≡ others) × (rest ≡ more)
one_zone_lines circuit [] [] [] rest more c len same all also e = (refl, e)
one_zone_lines circuit [] (list ∷ lists) others rest more c len same all also e = absurd (omega arith)
one_zone_lines circuit [] [] (other ∷ others) rest more c len same all also e = absurd (omega arith)
one_zone_lines circuit (zone ∷ zones) [] others rest more c len same all also e = absurd (omega arith)
one_zone_lines circuit (zone ∷ zones) (list ∷ lists) [] rest more c len same all also e = absurd (omega arith)
one_zone_lines circuit (zone ∷ zones) (list ∷ lists) (other ∷ others) rest more c len same all also e =
    let P : Qubit → Type 0 = λ qubit. qubit.0 < qubit_count circuit in
    let grouped = sym (append_assoc (place_line circuit zone list) (place_lines circuit zones lists) rest) ∙ e ∙ append_assoc (place_line circuit zone other) (place_lines circuit zones others) more in
    let first = one_place_line circuit zone list other _ _ c (all_left P list (reading_order lists) all) (all_left P other (reading_order others) also) grouped in
    let after =
    one_zone_lines circuit zones lists others rest more c (omega arith) (omega arith) (all_right P list (reading_order lists) all) (all_right P other (reading_order others) also) first.1 in
    let here : list ≡ other = first.0 in
    let there : lists ≡ others = after.0 in
    (cc, after.1)

-- ---- the lines of the steps

-- no action's line begins the text
abbrev pub NoAction : SettingValue → List ℕ → Type 0
NoAction setting text = (action : Action) (rest : List ℕ) → action_line setting action ++ rest ≡ text → ⊥

pub one_step : (trap : TrapValue) (circuit : CircuitValue) (placement : List (List Qubit)) (step other : List Action) (rest more : List ℕ) → IsTrap trap → IsCircuit circuit
    → All (IsKnown trap circuit) step → All (IsKnown trap circuit) other → NoAction (setting_of trap circuit placement) rest → NoAction (setting_of trap circuit placement) more
    → flat_map (action_line (setting_of trap circuit placement)) step ++ rest ≡ flat_map (action_line (setting_of trap circuit placement)) other ++ more → (step ≡ other) × (rest ≡ more)
one_step trap circuit placement [] [] rest more t c known also none neither e = (refl, e)
one_step trap circuit placement [] (b ∷ other) rest more t c known also none neither e = absurd (none b _ (sym (append_assoc (action_line (setting_of trap circuit placement) b) _ more) ∙ sym e))
one_step trap circuit placement (a ∷ step) [] rest more t c known also none neither e = absurd (neither a _ (sym (append_assoc (action_line (setting_of trap circuit placement) a) _ rest) ∙ e))
one_step trap circuit placement (a ∷ step) (b ∷ other) rest more t c known also none neither e =
    let setting = setting_of trap circuit placement in
    let P = IsKnown trap circuit in
    let grouped = sym (append_assoc (action_line setting a) (flat_map (action_line setting) step) rest) ∙ e ∙ append_assoc (action_line setting b) (flat_map (action_line setting) other) more in
    let first = one_action_line trap circuit placement a b _ _ t c (All-head P a step known) (All-head P b other also) grouped in
    let after = one_step trap circuit placement step other rest more t c (All-tail P a step known) (All-tail P b other also) none neither first.1 in
    let here : a ≡ b = first.0 in
    let there : step ≡ other = after.0 in
    (cc, after.1)

pub steps_no_action : (setting : SettingValue) (number : ℕ) (steps : List (List Action)) → NoAction setting (step_lines setting number steps ++ codes "end\n")
steps_no_action setting number [] action rest e = no_end setting action rest [] e
steps_no_action setting number (step ∷ steps) action rest e = no_step setting action rest _ e

step_grouped : (head step steps rest : List ℕ) → (head ++ step ++ steps) ++ rest ≡ head ++ (step ++ (steps ++ rest))
step_grouped head step steps rest = simp append_assoc

one_steps : (trap : TrapValue) (circuit : CircuitValue) (placement : List (List Qubit)) (number : ℕ) (steps more : List (List Action)) → IsTrap trap → IsCircuit circuit
    → All (All (IsKnown trap circuit)) steps → All (All (IsKnown trap circuit)) more
    → step_lines (setting_of trap circuit placement) number steps ++ codes "end\n" ≡ step_lines (setting_of trap circuit placement) number more ++ codes "end\n" → steps ≡ more
one_steps trap circuit placement number [] [] t c known also e = refl
one_steps trap circuit placement number [] (other ∷ more) t c known also e = absurd (parted _ _ _ _ _ _ e refl)
one_steps trap circuit placement number (step ∷ steps) [] t c known also e = absurd (parted _ _ _ _ _ _ e refl)
one_steps trap circuit placement number (step ∷ steps) (other ∷ more) t c known also e =
    let setting = setting_of trap circuit placement in
    let P = All (IsKnown trap circuit) in
    let head = codes "step " ++ decimal number ++ codes "\n" in
    let end = codes "end\n" in
    let grouped =
    sym (step_grouped head (flat_map (action_line setting) step) (step_lines setting (number + 1) steps) end) ∙ e
    ∙ step_grouped head (flat_map (action_line setting) other) (step_lines setting (number + 1) more) end in
    let first =
    one_step trap circuit placement step other _ _ t c (All-head P step steps known) (All-head P other more also)
    (steps_no_action setting (number + 1) steps) (steps_no_action setting (number + 1) more) (same_rest head _ _ grouped) in
    let after : steps ≡ more = one_steps trap circuit placement (number + 1) steps more t c (All-tail P step steps known) (All-tail P other more also) first.1 in
    let here : step ≡ other = first.0 in
    cc

-- ---- a text is the text of one pair

text_grouped : (places count steps : List ℕ)
    → codes "qccd schedule 1\n" ++ places ++ codes "steps " ++ count ++ codes "\n" ++ steps ++ codes "end\n"
    ≡ codes "qccd schedule 1\n" ++ (places ++ (codes "steps " ++ ((count ++ codes "\n") ++ (steps ++ codes "end\n"))))
text_grouped places count steps = simp append_assoc

pub one_pair : (trap : TrapValue) (circuit : CircuitValue) (placement other : List (List Qubit)) (steps more : List (List Action)) (bytes : List ℕ) → IsTrap trap → IsCircuit circuit
    → Spells trap circuit placement steps bytes → Spells trap circuit other more bytes → (placement ≡ other) × (steps ≡ more)
one_pair trap circuit placement other steps more bytes t c spells also =
    let setting = setting_of trap circuit placement in
    let lines = place_lines circuit trap.zones placement in
    let others = place_lines circuit trap.zones other in
    let grouped =
    sym (text_grouped lines (decimal (length steps)) (step_lines setting 1 steps)) ∙ sym spells.spelled ∙ also.spelled
    ∙ text_grouped others (decimal (length more)) (step_lines (setting_of trap circuit other) 1 more) in
    let places =
    one_zone_lines circuit trap.zones placement other _ _ c spells.placed.zones also.placed.zones spells.placed.qubits also.placed.qubits (same_rest (codes "qccd schedule 1\n") _ _ grouped) in
    let counted = number_line (length steps) (length more) _ _ spells.few also.few (same_rest (codes "steps ") _ _ places.1) in
    let same : other ≡ placement = sym places.0 in
    let after = counted.1 ∙ ap (λ (p : List (List Qubit)). step_lines (setting_of trap circuit p) 1 more ++ codes "end\n") same in
    (places.0, one_steps trap circuit placement 1 steps more t c spells.known also.known after)
