-- What comes next in a text after some of its steps.
use Rattle.std.proofs.Common.{◌≡◌, ℕ, ◌+◌, ◌^◌, ◌<◌, ◌≤◌, List, [], ◌∷◌, ◌++◌, length, refl, sym, ap, subst, ◌∙◌, arith, append_assoc, length-append}
use Rattle.std.specs.Prelude.{All, decimal, codes}
use Rattle.std.specs.List.{flat_map}
use Rattle.std.proofs.lemmas.Grind.{flat_map-append}
use Rattle.std.proofs.lemmas.List.{append-nil}
use Rattle.std.proofs.lemmas.List.Elements.{All-nil, All-cons, All-append, All-head, All-tail}
use Rattle.qc_base.specs.declared.ids.Qubit.{Qubit}
use Rattle.qc_base.proofs.Words.{same_rest}
use Rattle.circuit_core.specs.Circuit.{CircuitValue, IsCircuit}
use Rattle.trap_parts.specs.Parts.{TrapValue}
use Rattle.trap_parts.specs.Build.{IsTrap}
use Rattle.step_rules.specs.declared.action.Action.{Action}
use Rattle.step_rules.specs.Placement.{IsPlacement}
use Rattle.step_rules.specs.Schedule.{AddsToLast}
use Rattle.step_rules.specs.Setting.{SettingValue, setting_of}
use Rattle.schedule_text.specs.Text.{place_lines, action_line, step_lines}
use Rattle.schedule_text.specs.Reading.{IsKnown, Spells, IsText, BeginsText, Refuses, whole_lines}
use Rattle.schedule_text.specs.Progress.{head_text, steps_text, line_text, MayFollow, Sticks}
use Rattle.schedule_text.specs.declared.body_line.BodyLine.{BodyLine}
use Rattle.schedule_text.specs.declared.body_line.BodyLine.TheVariants as lines
use Rattle.schedule_text.specs.declared.text_fault.TextFault.{TextFault}
use Rattle.schedule_text.specs.declared.text_fault.TextFault.TheVariants.{Line}
use Rattle.schedule_text.proofs.Lines.{parted}
use Rattle.schedule_text.proofs.Codes.{number_line, one_action_line, one_body_line, body_is_line, one_step, no_step, NoAction, steps_no_action}
use Rattle.schedule_text.proofs.Placing.{lines_of, steps_begin}
use Rattle.schedule_text.proofs.BadLines.{parted_by, parted_at_end, refused}
use Rattle.schedule_text.proofs.Follows.{all_after, placed_opened}

-- ---- the next line of a body

-- it may come after the steps that have begun, of so many in all, where the next step has that number
record NextBody (trap : TrapValue) (circuit : CircuitValue) (placement : List (List Qubit)) (count number : ℕ) (begun : List (List Action)) (more : List ℕ) : Type 0 where
  line : BodyLine
  after : List ℕ
  may : MayFollow trap circuit count begun line
  more_is : more ≡ line_text (setting_of trap circuit placement) number line ++ after
  last : line ≡ lines.End → after ≡ []

-- the actions of the last step that has begun are over
next_step : (trap : TrapValue) (circuit : CircuitValue) (placement : List (List Qubit)) (count number : ℕ) (begun steps : List (List Action)) (more : List ℕ) → length begun + length steps ≡ count
    → more ≡ step_lines (setting_of trap circuit placement) number steps ++ codes "end\n" → NextBody trap circuit placement count number begun more
next_step trap circuit placement count number begun [] more all e = record { line = lines.End; after = []; may = omega (arith, all); more_is = e; last = λ same. refl }
next_step trap circuit placement count number begun (step ∷ steps) more all e =
    let setting = setting_of trap circuit placement in
    let head = codes "step " ++ decimal number ++ codes "\n" in
    let actions = flat_map (action_line setting) step in
    let later = step_lines setting (number + 1) steps in
    record {
      line = lines.Step;
      after = actions ++ (later ++ codes "end\n");
      may = omega (arith, all);
      more_is = e ∙ append_assoc (head ++ actions) later (codes "end\n") ∙ append_assoc head actions (later ++ codes "end\n");
      last = λ same. absurd cc;
    }

-- an action more, or they are over
next_action : (trap : TrapValue) (circuit : CircuitValue) (placement : List (List Qubit)) (count number : ℕ) (begun : List (List Action)) (step other : List Action) (steps : List (List Action)) (more : List ℕ)
    → IsTrap trap → IsCircuit circuit → 0 < length begun → length begun + length steps ≡ count → All (IsKnown trap circuit) step → All (IsKnown trap circuit) other
    → flat_map (action_line (setting_of trap circuit placement)) step ++ more
    ≡ flat_map (action_line (setting_of trap circuit placement)) other ++ (step_lines (setting_of trap circuit placement) number steps ++ codes "end\n")
    → NextBody trap circuit placement count number begun more
next_action trap circuit placement count number begun [] [] steps more t c some all known also e = next_step trap circuit placement count number begun steps more all e
next_action trap circuit placement count number begun [] (action ∷ other) steps more t c some all known also e =
    let setting = setting_of trap circuit placement in
    record {
      line = lines.Act action;
      after = flat_map (action_line setting) other ++ (step_lines setting number steps ++ codes "end\n");
      may = (some, All-head (IsKnown trap circuit) action other also);
      more_is = e ∙ append_assoc (action_line setting action) (flat_map (action_line setting) other) _;
      last = λ same. absurd cc;
    }
next_action trap circuit placement count number begun (action ∷ step) [] steps more t c some all known also e =
    let setting = setting_of trap circuit placement in
    absurd (steps_no_action setting number steps action _ (sym (append_assoc (action_line setting action) (flat_map (action_line setting) step) more) ∙ e))
next_action trap circuit placement count number begun (a ∷ step) (b ∷ other) steps more t c some all known also e =
    let setting = setting_of trap circuit placement in
    let P = IsKnown trap circuit in
    let parts = sym (append_assoc (action_line setting a) (flat_map (action_line setting) step) more) ∙ e ∙ append_assoc (action_line setting b) (flat_map (action_line setting) other) _ in
    let first = one_action_line trap circuit placement a b _ _ t c (All-head P a step known) (All-head P b other also) parts in
    next_action trap circuit placement count number begun step other steps more t c some all (All-tail P a step known) (All-tail P b other also) first.1

step_parts : (head step steps rest : List ℕ) → (head ++ step ++ steps) ++ rest ≡ head ++ (step ++ (steps ++ rest))
step_parts head step steps rest = simp append_assoc

-- after steps that have begun in a text, too
next_body : (trap : TrapValue) (circuit : CircuitValue) (placement : List (List Qubit)) (count number next : ℕ) (begun steps others : List (List Action)) (more : List ℕ) → IsTrap trap → IsCircuit circuit
    → next ≡ number + length steps → length begun + length others ≡ count + length steps → length steps ≤ length begun → All (All (IsKnown trap circuit)) steps → All (All (IsKnown trap circuit)) others
    → step_lines (setting_of trap circuit placement) number steps ++ more ≡ step_lines (setting_of trap circuit placement) number others ++ codes "end\n"
    → NextBody trap circuit placement count next begun more
next_body trap circuit placement count number next begun [] others more t c at all few known also e =
    let same : number ≡ next = omega (arith, at) in
    next_step trap circuit placement count next begun others more (omega (arith, all)) (e ∙ ap (λ (n : ℕ). step_lines (setting_of trap circuit placement) n others ++ codes "end\n") same)
next_body trap circuit placement count number next begun (step ∷ steps) [] more t c at all few known also e = absurd (parted _ _ _ _ _ _ e refl)
next_body trap circuit placement count number next begun (step ∷ []) (other ∷ others) more t c at all few known also e =
    let setting = setting_of trap circuit placement in
    let P = All (IsKnown trap circuit) in
    let head = codes "step " ++ decimal number ++ codes "\n" in
    let same : number + 1 ≡ next = omega (arith, at) in
    let parts =
    sym (step_parts head (flat_map (action_line setting) step) [] more) ∙ e ∙ step_parts head (flat_map (action_line setting) other) (step_lines setting (number + 1) others) (codes "end\n")
    ∙ ap (λ (n : ℕ). head ++ (flat_map (action_line setting) other ++ (step_lines setting n others ++ codes "end\n"))) same in
    next_action trap circuit placement count next begun step other others more t c (omega (arith, few)) (omega (arith, all)) (All-head P step [] known) (All-head P other others also) (same_rest head _ _ parts)
next_body trap circuit placement count number next begun (step ∷ second ∷ steps) (other ∷ others) more t c at all few known also e =
    let setting = setting_of trap circuit placement in
    let P = All (IsKnown trap circuit) in
    let head = codes "step " ++ decimal number ++ codes "\n" in
    let later = second ∷ steps in
    let parts =
    sym (step_parts head (flat_map (action_line setting) step) (step_lines setting (number + 1) later) more) ∙ e
    ∙ step_parts head (flat_map (action_line setting) other) (step_lines setting (number + 1) others) (codes "end\n") in
    let none : NoAction setting (step_lines setting (number + 1) later ++ more) = λ action rest f. no_step setting action rest _ f in
    let first =
    one_step trap circuit placement step other _ _ t c (All-head P step later known) (All-head P other others also) none (steps_no_action setting (number + 1) others) (same_rest head _ _ parts) in
    next_body trap circuit placement count (number + 1) next begun later others more t c (omega (arith, at)) (omega (arith, all)) (omega (arith, few)) (All-tail P step later known) (All-tail P other others also) first.1

count_parts : (word number rest : List ℕ) → (word ++ number ++ codes "\n") ++ rest ≡ word ++ ((number ++ codes "\n") ++ rest)
count_parts word number rest = simp append_assoc

-- the same of whole texts
next_line : (trap : TrapValue) (circuit : CircuitValue) (placement : List (List Qubit)) (count : ℕ) (steps : List (List Action)) (more : List ℕ) → IsTrap trap → IsCircuit circuit → IsPlacement trap circuit placement
    → count < 2 ^ 64 → All (All (IsKnown trap circuit)) steps
    → IsText trap circuit ((head_text trap circuit placement ++ steps_text (setting_of trap circuit placement) count steps) ++ more)
    → NextBody trap circuit placement count (length steps + 1) steps more
next_line trap circuit placement count steps more t c placed few known text =
    let setting = setting_of trap circuit placement in
    let head = head_text trap circuit placement in
    let after =
    all_after trap circuit placement (steps_text setting count steps ++ more) c (placed_opened trap circuit placement placed) placed.zones
    (subst (IsText trap circuit) (append_assoc head (steps_text setting count steps) more) text) in
    let others = after.steps in
    let lines = step_lines setting 1 steps ++ more in
    let other_lines = step_lines setting 1 others ++ codes "end\n" in
    let parts =
    sym (count_parts (codes "steps ") (decimal count) lines) ∙ sym (append_assoc (codes "steps " ++ decimal count ++ codes "\n") (step_lines setting 1 steps) more) ∙ after.more_is
    ∙ count_parts (codes "steps ") (decimal (length others)) other_lines in
    let counted = number_line count (length others) lines other_lines few after.few (same_rest (codes "steps ") _ _ parts) in
    next_body trap circuit placement count 1 (length steps + 1) steps steps others more t c (omega arith) (omega (arith, counted.0)) (omega arith) known after.known counted.1

pub body_sticks : (trap : TrapValue) (circuit : CircuitValue) (placement : List (List Qubit)) (count : ℕ) (steps : List (List Action)) (bytes : List ℕ) → IsTrap trap → IsCircuit circuit
    → IsPlacement trap circuit placement → count < 2 ^ 64 → All (All (IsKnown trap circuit)) steps
    → ((line : BodyLine) (rest : List ℕ) → MayFollow trap circuit count steps line → bytes ≡ line_text (setting_of trap circuit placement) (length steps + 1) line ++ rest → ⊥)
    → Sticks trap circuit (head_text trap circuit placement ++ steps_text (setting_of trap circuit placement) count steps) bytes
body_sticks trap circuit placement count steps bytes t c placed few known none more text =
    let next = next_line trap circuit placement count steps more t c placed few known text in
    parted_by more bytes (record {
      line = line_text (setting_of trap circuit placement) (length steps + 1) next.line;
      after = next.after;
      is_line = body_is_line trap circuit placement count steps next.line t c placed few next.may;
      more_is = next.more_is;
      differs = λ other e. none next.line other next.may e;
    })

-- after the last line nothing comes
pub end_sticks : (trap : TrapValue) (circuit : CircuitValue) (placement : List (List Qubit)) (count : ℕ) (steps : List (List Action)) (bytes : List ℕ) → IsTrap trap → IsCircuit circuit
    → IsPlacement trap circuit placement → count < 2 ^ 64 → length steps ≡ count → All (All (IsKnown trap circuit)) steps → 0 < length bytes
    → Sticks trap circuit ((head_text trap circuit placement ++ steps_text (setting_of trap circuit placement) count steps) ++ codes "end\n") bytes
end_sticks trap circuit placement count steps bytes t c placed few all known some more text =
    let front = head_text trap circuit placement ++ steps_text (setting_of trap circuit placement) count steps in
    let next = next_line trap circuit placement count steps (codes "end\n" ++ more) t c placed few known (subst (IsText trap circuit) (append_assoc front (codes "end\n") more) text) in
    let one = one_body_line trap circuit placement count steps lines.End next.line more next.after t c few all next.may next.more_is in
    parted_at_end more bytes (one.1 ∙ next.last (sym one.0)) (λ none. omega (arith, ap length none, some))

-- ---- the steps with one line more

step_more : (setting : SettingValue) (steps : List (List Action)) → step_lines setting 1 (steps ++ [] ∷ []) ≡ step_lines setting 1 steps ++ line_text setting (length steps + 1) lines.Step
step_more setting steps =
    let same : 1 + length steps ≡ length steps + 1 = omega arith in
    let head : ℕ → List ℕ = λ n. codes "step " ++ decimal n ++ codes "\n" in
    lines_of setting 1 steps ([] ∷ []) ∙ ap (λ (l : List ℕ). step_lines setting 1 steps ++ l) (append-nil (head (1 + length steps) ++ []) ∙ append-nil (head (1 + length steps)))
    ∙ ap (λ (n : ℕ). step_lines setting 1 steps ++ head n) same

last_more : (setting : SettingValue) (number : ℕ) (step : List Action) (action : Action) → step_lines setting number ((step ++ action ∷ []) ∷ []) ≡ step_lines setting number (step ∷ []) ++ action_line setting action
last_more setting number step action =
    let head = codes "step " ++ decimal number ++ codes "\n" in
    let line = action_line setting action in
    let actions = flat_map (action_line setting) step in
    append-nil (head ++ flat_map (action_line setting) (step ++ action ∷ []))
    ∙ ap (λ (l : List ℕ). head ++ l) (flat_map-append (action_line setting) step (action ∷ []) ∙ ap (λ (l : List ℕ). actions ++ l) (append-nil line)) ∙ sym (append_assoc head actions line)
    ∙ ap (λ (l : List ℕ). l ++ line) (sym (append-nil (head ++ actions)))

-- the last of some steps, and those in front
record LastStep (steps : List (List Action)) : Type 0 where
  front : List (List Action)
  step : List Action
  parts : steps ≡ front ++ step ∷ []

last_step : (steps : List (List Action)) → 0 < length steps → LastStep steps
last_step [] some = absurd (omega (arith, some))
last_step (step ∷ []) some = record { front = []; step = step; parts = refl }
last_step (step ∷ second ∷ steps) some =
    let later = last_step (second ∷ steps) (omega arith) in record { front = step ∷ later.front; step = later.step; parts = ap (λ (l : List (List Action)). step ∷ l) later.parts }

action_more : (setting : SettingValue) (front : List (List Action)) (step : List Action) (action : Action)
    → step_lines setting 1 (front ++ (step ++ action ∷ []) ∷ []) ≡ step_lines setting 1 (front ++ step ∷ []) ++ action_line setting action
action_more setting front step action =
    let n : ℕ = 1 + length front in
    let before = step_lines setting 1 front in
    lines_of setting 1 front ((step ++ action ∷ []) ∷ []) ∙ ap (λ (l : List ℕ). before ++ l) (last_more setting n step action)
    ∙ sym (append_assoc before (step_lines setting n (step ∷ [])) (action_line setting action)) ∙ ap (λ (l : List ℕ). l ++ action_line setting action) (sym (lines_of setting 1 front (step ∷ [])))

-- steps that were read, so many in all and the bytes after them
pub record Read (trap : TrapValue) (circuit : CircuitValue) (placement : List (List Qubit)) (count : ℕ) (steps : List (List Action)) (rest bytes : List ℕ) : Type 0 where
  pub parts : bytes ≡ (head_text trap circuit placement ++ steps_text (setting_of trap circuit placement) count steps) ++ rest
  pub known : All (All (IsKnown trap circuit)) steps
  pub few : length steps ≤ count

move_line : (head count steps line rest bytes all : List ℕ) → bytes ≡ (head ++ (count ++ steps)) ++ (line ++ rest) → all ≡ steps ++ line → bytes ≡ (head ++ (count ++ all)) ++ rest
move_line head count steps line rest bytes all e f = e ∙ rw f (simp append_assoc)

-- one more line was read
moved : (trap : TrapValue) (circuit : CircuitValue) (placement : List (List Qubit)) (count : ℕ) (steps more : List (List Action)) (line : BodyLine) (bytes before rest : List ℕ)
    → Read trap circuit placement count steps before bytes → before ≡ line_text (setting_of trap circuit placement) (length steps + 1) line ++ rest
    → step_lines (setting_of trap circuit placement) 1 more ≡ step_lines (setting_of trap circuit placement) 1 steps ++ line_text (setting_of trap circuit placement) (length steps + 1) line
    → bytes ≡ (head_text trap circuit placement ++ steps_text (setting_of trap circuit placement) count more) ++ rest
moved trap circuit placement count steps more line bytes before rest read e f =
    let setting = setting_of trap circuit placement in
    let front = head_text trap circuit placement ++ steps_text setting count steps in
    move_line (head_text trap circuit placement) (codes "steps " ++ decimal count ++ codes "\n") (step_lines setting 1 steps) (line_text setting (length steps + 1) line) rest bytes (step_lines setting 1 more)
    (read.parts ∙ ap (λ (l : List ℕ). front ++ l) e) f

pub read_step : (trap : TrapValue) (circuit : CircuitValue) (placement : List (List Qubit)) (count : ℕ) (steps : List (List Action)) (bytes before rest : List ℕ)
    → Read trap circuit placement count steps before bytes → before ≡ line_text (setting_of trap circuit placement) (length steps + 1) lines.Step ++ rest → length steps < count
    → Read trap circuit placement count (steps ++ [] ∷ []) rest bytes
read_step trap circuit placement count steps bytes before rest read e fewer = record {
  parts = moved trap circuit placement count steps (steps ++ [] ∷ []) lines.Step bytes before rest read e (step_more (setting_of trap circuit placement) steps);
  known = All-append (All (IsKnown trap circuit)) steps ([] ∷ []) read.known (All-cons (All (IsKnown trap circuit)) [] [] (All-nil (IsKnown trap circuit)) (All-nil (All (IsKnown trap circuit))));
  few = omega (arith, length-append steps ([] ∷ []), fewer);
}

all_front : (P : List Action → Type 0) (front : List (List Action)) (last : List Action) → All P (front ++ last ∷ []) → All P front × P last
all_front P [] last all = (All-nil P, All-head P last [] all)
all_front P (first ∷ front) last all =
    let later = all_front P front last (All-tail P first (front ++ last ∷ []) all) in (All-cons P first front (All-head P first (front ++ last ∷ []) all) later.0, later.1)

pub read_action : (trap : TrapValue) (circuit : CircuitValue) (placement : List (List Qubit)) (count : ℕ) (steps more : List (List Action)) (action : Action) (bytes before rest : List ℕ)
    → Read trap circuit placement count steps before bytes → before ≡ line_text (setting_of trap circuit placement) (length steps + 1) (lines.Act action) ++ rest
    → 0 < length steps → IsKnown trap circuit action → AddsToLast steps more action → Read trap circuit placement count more rest bytes
read_action trap circuit placement count steps more action bytes before rest read e some is_known adds =
    let setting = setting_of trap circuit placement in
    let P = IsKnown trap circuit in
    let last = last_step steps some in
    let same : more ≡ last.front ++ (last.step ++ action ∷ []) ∷ [] = adds last.front last.step last.parts in
    let known = all_front (All P) last.front last.step (subst (All (All P)) last.parts read.known) in
    let longer : All P (last.step ++ action ∷ []) = All-append P last.step (action ∷ []) known.1 (All-cons P action [] is_known (All-nil P)) in
    record {
      parts =
          moved trap circuit placement count steps more (lines.Act action) bytes before rest read e
          (ap (step_lines setting 1) same ∙ action_more setting last.front last.step action ∙ ap (λ (s : List (List Action)). step_lines setting 1 s ++ action_line setting action) (sym last.parts));
      known =
          subst (All (All P)) (sym same)
          (All-append (All P) last.front ((last.step ++ action ∷ []) ∷ []) known.0 (All-cons (All P) (last.step ++ action ∷ []) [] longer (All-nil (All P))));
      few = omega (arith, read.few, ap length same, ap length last.parts, length-append last.front (last.step ∷ []), length-append last.front ((last.step ++ action ∷ []) ∷ []));
    }

-- ---- the whole text

whole_parts : (head zones word number end steps last : List ℕ) → ((head ++ zones) ++ (word ++ number ++ end ++ steps)) ++ last ≡ head ++ zones ++ word ++ number ++ end ++ steps ++ last
whole_parts head zones word number end steps last = simp append_assoc

pub spelled : (trap : TrapValue) (circuit : CircuitValue) (placement : List (List Qubit)) (count : ℕ) (steps : List (List Action)) (bytes before : List ℕ) → IsPlacement trap circuit placement → count < 2 ^ 64
    → length steps ≡ count → Read trap circuit placement count steps before bytes → before ≡ codes "end\n" → Spells trap circuit placement steps bytes
spelled trap circuit placement count steps bytes before placed few all read e =
    let setting = setting_of trap circuit placement in
    let zones = place_lines circuit trap.zones placement in
    record {
      placed = placed;
      known = read.known;
      few = omega (arith, few, all);
      spelled =
          read.parts ∙ ap (λ (l : List ℕ). (head_text trap circuit placement ++ steps_text setting count steps) ++ l) e
          ∙ whole_parts (codes "qccd schedule 1\n") zones (codes "steps ") (decimal count) (codes "\n") (step_lines setting 1 steps) (codes "end\n")
          ∙ ap (λ (n : ℕ). codes "qccd schedule 1\n" ++ zones ++ codes "steps " ++ decimal n ++ codes "\n" ++ step_lines setting 1 steps ++ codes "end\n") (sym all);
    }

pub whole_begins : (trap : TrapValue) (circuit : CircuitValue) (placement : List (List Qubit)) (count : ℕ) (steps : List (List Action)) → IsPlacement trap circuit placement → count < 2 ^ 64 → length steps ≡ count
    → All (All (IsKnown trap circuit)) steps
    → BeginsText trap circuit ((head_text trap circuit placement ++ steps_text (setting_of trap circuit placement) count steps) ++ codes "end\n")
whole_begins trap circuit placement count steps placed few all known =
    let whole = (head_text trap circuit placement ++ steps_text (setting_of trap circuit placement) count steps) ++ codes "end\n" in
    let read : Read trap circuit placement count steps (codes "end\n") whole = record { parts = refl; known = known; few = omega (arith, all) } in
    record {
      rest = [];
      text = record {
        placement = placement;
        steps = steps;
        spells = spelled trap circuit placement count steps (whole ++ []) (codes "end\n") placed few all (subst (Read trap circuit placement count steps (codes "end\n")) (sym (append-nil whole)) read) refl;
      };
    }

-- ---- what the reader meets

-- the bad line is the one at which the rest begins
abbrev pub Blames : List ℕ → List ℕ → TextFault → Type 0
Blames bytes rest fault = (front : List ℕ) → bytes ≡ front ++ rest → fault ≡ Line (whole_lines front + 1)

-- no line is found
pub none_found : (trap : TrapValue) (circuit : CircuitValue) (placement : List (List Qubit)) (count number : ℕ) (steps : List (List Action)) (bytes rest : List ℕ) (fault : TextFault)
    → IsTrap trap → IsCircuit circuit → IsPlacement trap circuit placement → count < 2 ^ 64 → Read trap circuit placement count steps rest bytes → length steps ≡ number
    → ((line : BodyLine) (after : List ℕ) → MayFollow trap circuit count steps line → rest ≡ line_text (setting_of trap circuit placement) (number + 1) line ++ after → ⊥)
    → Blames bytes rest fault → Refuses trap circuit bytes fault
none_found trap circuit placement count number steps bytes rest fault t c placed few read at none blames =
    let setting = setting_of trap circuit placement in
    let front = head_text trap circuit placement ++ steps_text setting count steps in
    refused trap circuit front rest bytes fault read.parts (steps_begin trap circuit placement count steps placed few read.few read.known)
    (body_sticks trap circuit placement count steps rest t c placed few read.known
    (λ line after may e. none line after may (e ∙ ap (λ (n : ℕ). line_text setting (n + 1) line ++ after) at)))
    (blames front read.parts)

-- the last line is found, and bytes after it
pub more_found : (trap : TrapValue) (circuit : CircuitValue) (placement : List (List Qubit)) (count number : ℕ) (steps : List (List Action)) (line : BodyLine) (bytes before rest : List ℕ) (fault : TextFault)
    → IsTrap trap → IsCircuit circuit → IsPlacement trap circuit placement → count < 2 ^ 64 → Read trap circuit placement count steps before bytes
    → before ≡ line_text (setting_of trap circuit placement) number line ++ rest → MayFollow trap circuit count steps line → line ≡ lines.End → 0 < length rest
    → Blames bytes rest fault → Refuses trap circuit bytes fault
more_found trap circuit placement count number steps line bytes before rest fault t c placed few read e may is some blames =
    let setting = setting_of trap circuit placement in
    let front = head_text trap circuit placement ++ steps_text setting count steps in
    let all : length steps ≡ count = subst (MayFollow trap circuit count steps) is may in
    let parts : bytes ≡ (front ++ codes "end\n") ++ rest =
    read.parts ∙ ap (λ (text : List ℕ). front ++ text) (e ∙ ap (λ (l : BodyLine). line_text setting number l ++ rest) is) ∙ sym (append_assoc front (codes "end\n") rest) in
    refused trap circuit (front ++ codes "end\n") rest bytes fault parts (whole_begins trap circuit placement count steps placed few all read.known)
    (end_sticks trap circuit placement count steps rest t c placed few all read.known some) (blames (front ++ codes "end\n") parts)

-- a step is found
pub step_found : (trap : TrapValue) (circuit : CircuitValue) (placement : List (List Qubit)) (count number : ℕ) (steps more : List (List Action)) (line : BodyLine) (bytes before rest : List ℕ)
    → Read trap circuit placement count steps before bytes → length steps ≡ number → before ≡ line_text (setting_of trap circuit placement) (number + 1) line ++ rest
    → MayFollow trap circuit count steps line → line ≡ lines.Step → more ≡ steps ++ [] ∷ [] → Read trap circuit placement count more rest bytes
step_found trap circuit placement count number steps more line bytes before rest read at e may is grown =
    let setting = setting_of trap circuit placement in
    let same : before ≡ line_text setting (length steps + 1) lines.Step ++ rest =
    e ∙ ap (λ (l : BodyLine). line_text setting (number + 1) l ++ rest) is ∙ ap (λ (n : ℕ). line_text setting (n + 1) lines.Step ++ rest) (sym at) in
    subst (λ (s : List (List Action)). Read trap circuit placement count s rest bytes) (sym grown)
    (read_step trap circuit placement count steps bytes before rest read same (subst (MayFollow trap circuit count steps) is may))

-- an action is found
pub action_found : (trap : TrapValue) (circuit : CircuitValue) (placement : List (List Qubit)) (count number : ℕ) (steps more : List (List Action)) (line : BodyLine) (action : Action) (bytes before rest : List ℕ)
    → Read trap circuit placement count steps before bytes → length steps ≡ number → before ≡ line_text (setting_of trap circuit placement) (number + 1) line ++ rest
    → MayFollow trap circuit count steps line → line ≡ lines.Act action → AddsToLast steps more action → Read trap circuit placement count more rest bytes
action_found trap circuit placement count number steps more line action bytes before rest read at e may is adds =
    let setting = setting_of trap circuit placement in
    let same : before ≡ line_text setting (length steps + 1) (lines.Act action) ++ rest =
    e ∙ ap (λ (l : BodyLine). line_text setting (number + 1) l ++ rest) is ∙ ap (λ (n : ℕ). line_text setting (n + 1) (lines.Act action) ++ rest) (sym at) in
    let may_act : (0 < length steps) × IsKnown trap circuit action = subst (MayFollow trap circuit count steps) is may in
    read_action trap circuit placement count steps more action bytes before rest read same may_act.0 may_act.1 adds
