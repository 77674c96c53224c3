-- What a search ends with.
use Rattle.std.proofs.Common.{◌≡◌, ℕ, zero, suc, ◌+◌, ◌<◌, ◌≤◌, ◌^◌, List, [], length, take, Option, Some, None, Result, Ok, Err, refl, sym, ap, ◌∙◌, subst, inl, inr, arith}
use Rattle.std.specs.Prelude.{Bool, true, false, cond, IfOk}
use Rattle.std.proofs.Math.Dec.{ltb}
use Rattle.std.proofs.lemmas.Bool.{ltb-false}
use Rattle.std.proofs.lemmas.List.{length-take-le, length-map, append-nil}
use Rattle.std.specs.Option.{option_map_or}
use Rattle.qc_base.specs.declared.ids.Qubit.{Qubit}
use Rattle.sat_base.specs.declared.certificate.Head.{Head}
use Rattle.sat_base.specs.declared.certificate.Bound.{Bound}
use Rattle.sat_base.specs.declared.certificate.Bound.TheVariants.{Refutes, Nothing, Open}
use Rattle.sat_base.specs.Derivation.{Line}
use Rattle.sat_base.specs.Certificate.{certificate_text}
use Rattle.derivation_log.specs.Log.{Lines}
use Rattle.derivation_log.specs.Printing.{first_lines, line_of, Covers}
use Rattle.step_rules.specs.declared.action.Action.{Action}
use Rattle.step_rules.specs.Setting.{SettingValue, setting_of}
use Rattle.schedule_text.specs.Text.{schedule_text}
use Rattle.step_vars.specs.declared.encoding.Encoding.TheVariants.{Counter}
use Rattle.step_vars.specs.Encoding.{encoding_of}
use Rattle.step_vars.specs.Certifies.{vars_up_to, head_of, asked, Certifies}
use Rattle.trap_model.specs.Trap.{place_count}
use Rattle.step_vars.specs.Lists.{ion_count}
use Rattle.exact_search.specs.declared.fault.Count.TheVariants as counts
use Rattle.exact_search.specs.declared.fault.ExactFault.{ExactFault}
use Rattle.exact_search.specs.declared.fault.ExactFault.TheVariants as exacts
use Rattle.exact_search.specs.TooLarge.{too_large}
use Rattle.exact_search.specs.Found.{Answers, HasLines, IsLeastFound, IsNoneWithin, IsSpent, RefutesFewer}
use Rattle.request_words.specs.Request.{Search}
use Rattle.run_answers.specs.declared.answer.Answer.{Answer}
use Rattle.run_answers.specs.declared.answer.Answer.TheVariants as answers
use Rattle.run_stages.specs.declared.ending.Ending.{Ending}
use Rattle.run_stages.specs.Exact.{HasFreshLines, RefutesFewerByFresh}
use Rattle.run_stages.specs.Putting.{EndsWith}
use Rattle.run_stages.specs.Stages.{Is}
use Rattle.run_stages.specs.Work.{fewest, Ends}
use Rattle.run_stages.specs.declared.inputs.Inputs.{Inputs}
use Rattle.placement.specs.declared.fault.PlaceFault.{PlaceFault}
use Rattle.placement.specs.declared.rule.PlaceRule.{PlaceRule}
use Rattle.placement.specs.Placing.{place_by}
use Rattle.placement.specs.Faults.{Answers as PlaceAnswers}
use Rattle.exact_search.proofs.Certify.{counted, no_line}
use Rattle.run_stages.specs.Prepare.{search_refusal, within_search, Sought as SoughtFrom}
use Rattle.run_stages.specs.Loading.{Finishes, place_refusal}
use Rattle.run_stages.proofs.Plans.{from_ok, from_err}

-- ---- certificates with fresh lines

pub fresh_lines : (setting : SettingValue) (says : Bound) (bound : ℕ) (log : Lines) (axioms lines : ℕ) → HasLines setting bound log axioms lines
    → HasFreshLines setting says bound (first_lines log axioms lines) (certificate_text (head_of Counter says) axioms (first_lines log axioms lines))
fresh_lines setting says bound log axioms lines has =
    let same = counted setting bound log axioms lines has in
    let all = first_lines log axioms lines in
    record {
      text = ap (λ (n : ℕ). certificate_text (head_of Counter says) n all) (sym same);
      are = has.are;
    }

first_count : (log : Lines) (axioms lines : ℕ) → lines ≤ length log.derived → length (first_lines log axioms lines) ≡ lines
first_count log axioms lines within = length-map (take lines log.derived) (line_of axioms) ∙ length-take-le lines log.derived within

-- no more lines than the budget, where no more were derived
first_few : (log : Lines) (axioms lines budget : ℕ) → lines ≤ length log.derived → length log.derived ≤ budget → length (first_lines log axioms lines) ≤ budget
first_few log axioms lines budget within few = omega (arith, first_count log axioms lines within, within, few)

pub fewer_by_fresh : (setting : SettingValue) (steps budget : ℕ) (log : Lines) (axioms lines : ℕ) → RefutesFewer setting steps log axioms lines → length log.derived ≤ budget
    → RefutesFewerByFresh setting steps budget (certificate_text (head_of Counter (asked steps)) axioms (first_lines log axioms lines))
fewer_by_fresh setting zero budget log axioms lines none few =
    ap (λ (all : List Line). certificate_text (head_of Counter Nothing) axioms all) (no_line log axioms lines none.1) ∙ append-nil _
fewer_by_fresh setting (suc bound) budget log axioms lines has few = record {
  lines = first_lines log axioms lines;
  are = fresh_lines setting (Refutes bound) bound log axioms lines has.over;
  few = first_few log axioms lines budget has.over.covers.lines_there few;
  ends = has.ends;
}

-- the lines of a search can be printed
pub covers_fewer : (setting : SettingValue) (steps : ℕ) (log : Lines) (axioms lines : ℕ) → RefutesFewer setting steps log axioms lines → Covers log axioms lines
covers_fewer setting zero log axioms lines none =
    subst (λ (n : ℕ). Covers log n lines) (sym none.0) (subst (λ (n : ℕ). Covers log 0 n) (sym none.1)
    (record { axioms_there = omega arith; lines_there = omega arith; hints_there = λ j d less. absurd (omega (arith, less)) }))
covers_fewer setting (suc bound) log axioms lines has = has.over.covers

-- ---- what a search ends with

abbrev pub Certify : Type 0
Certify = (setting : SettingValue) (steps : ℕ) (log : Lines) (axioms lines : ℕ) → steps < 2 ^ 32 → RefutesFewer setting steps log axioms lines
    → Certifies setting (certificate_text (head_of Counter (asked steps)) axioms (first_lines log axioms lines)) steps

pub least_ends : (certify : Certify) (setting : SettingValue) (max budget : ℕ) (schedule : List (List Action)) (log : Lines) (axioms lines : ℕ) (ending : Ending) → max ≤ 48 → IsLeastFound setting max budget schedule log axioms lines
    → EndsWith answers.Ok (certificate_text (head_of Counter (asked (length schedule))) axioms (first_lines log axioms lines)) (schedule_text setting schedule) ending
    → Ends (fewest setting max budget) ending.answer ending
least_ends certify setting max budget schedule log axioms lines ending few found ends = inl (
  ends.answer_is,
  record {
    schedule = schedule;
    text_is = ends.text_is;
    put = certificate_text (head_of Counter (asked (length schedule))) axioms (first_lines log axioms lines);
    put_is = ends.put_is;
    shown = record {
      least = found.least;
      within = found.within;
      certifies = certify setting (length schedule) log axioms lines (omega (arith, few, found.within)) found.fewer;
      fresh = fewer_by_fresh setting (length schedule) budget log axioms lines found.fewer found.few;
    };
  },
)

pub none_ends : (setting : SettingValue) (max budget : ℕ) (log : Lines) (lines : ℕ) (ending : Ending) → IsNoneWithin setting max budget log lines
    → EndsWith (answers.NoneWithin max) (certificate_text (head_of Counter (Refutes max)) (length log.axioms) (first_lines log (length log.axioms) lines)) [] ending
    → Ends (fewest setting max budget) ending.answer ending
none_ends setting max budget log lines ending found ends = inr (inl (
  ends.answer_is,
  record {
    none = λ within. found.none within.schedule within.plays within.within;
    text_is = ends.text_is;
    put = certificate_text (head_of Counter (Refutes max)) (length log.axioms) (first_lines log (length log.axioms) lines);
    put_is = ends.put_is;
    refutes = record {
      lines = first_lines log (length log.axioms) lines;
      are = fresh_lines setting (Refutes max) max log (length log.axioms) lines found.refutation.over;
      few = first_few log (length log.axioms) lines budget found.refutation.over.covers.lines_there found.few;
      ends = found.refutation.ends;
    };
  },
))

pub spent_ends : (setting : SettingValue) (max budget : ℕ) (log : Lines) (bound lines : ℕ) (ending : Ending) → IsSpent setting max budget log bound → lines ≡ length log.derived
    → EndsWith (answers.Budget budget) (certificate_text (head_of Counter (Open bound)) (length log.axioms) (first_lines log (length log.axioms) lines)) [] ending
    → Ends (fewest setting max budget) ending.answer ending
spent_ends setting max budget log bound lines ending found all ends =
    let same : lines ≡ budget = all ∙ found.spent in
    let text = certificate_text (head_of Counter (Open bound)) (length log.axioms) (first_lines log (length log.axioms) budget) in
    inr (inr (
      ends.answer_is,
      record {
        few = found.few;
        text_is = ends.text_is;
        put = text;
        put_is = subst (λ (n : ℕ). ending.put ≡ Some (certificate_text (head_of Counter (Open bound)) (length log.axioms) (first_lines log (length log.axioms) n))) same ends.put_is;
        open_at = record {
          bound = bound;
          within = found.within;
          lines = first_lines log (length log.axioms) budget;
          are = fresh_lines setting (Open bound) bound log (length log.axioms) budget found.lines;
          spent = first_count log (length log.axioms) budget found.lines.covers.lines_there;
          lower = found.below;
          left = found.left;
        };
      },
    ))

-- a text, and a certificate that is put
pub shortest_ends : (setting : SettingValue) (schedule : List (List Action)) (log : Lines) (axioms lines steps : ℕ) (says : Bound) (head : Head) (bytes put text : List ℕ) → steps ≡ length schedule → says ≡ asked steps
    → head ≡ head_of Counter says → bytes ≡ certificate_text head axioms (first_lines log axioms lines) → put ≡ bytes → text ≡ schedule_text setting schedule
    → EndsWith answers.Ok (certificate_text (head_of Counter (asked (length schedule))) axioms (first_lines log axioms lines)) (schedule_text setting schedule)
    (record { answer = answers.Ok; put = Some put; text = text })
shortest_ends setting schedule log axioms lines steps says head bytes put text steps_is says_is head_is bytes_is put_is text_is =
    let same : head ≡ head_of Counter (asked (length schedule)) = head_is ∙ ap (head_of Counter) (says_is ∙ ap asked steps_is) in
    record {
      answer_is = refl;
      put_is = ap (λ (b : List ℕ). Some b) (put_is ∙ bytes_is ∙ ap (λ (h : Head). certificate_text h axioms (first_lines log axioms lines)) same);
      text_is = text_is;
    }

-- ---- the same of an answer, where memory may run out

pub least_found : {E : Type 0} (certify : Certify) (setting : SettingValue) (max budget : ℕ) (schedule : List (List Action)) (log : Lines) (axioms lines : ℕ) (result : Result Ending E) → max ≤ 48
    → IsLeastFound setting max budget schedule log axioms lines
    → IfOk result (λ ending. EndsWith answers.Ok (certificate_text (head_of Counter (asked (length schedule))) axioms (first_lines log axioms lines)) (schedule_text setting schedule) ending)
    → IfOk result (λ ending. Ends (fewest setting max budget) ending.answer ending)
least_found certify setting max budget schedule log axioms lines (Ok ending) few found ends = least_ends certify setting max budget schedule log axioms lines ending few found ends
least_found certify setting max budget schedule log axioms lines (Err fault) few found ends = tt

pub none_found : {E : Type 0} (setting : SettingValue) (max budget : ℕ) (log : Lines) (lines : ℕ) (result : Result Ending E) → IsNoneWithin setting max budget log lines
    → IfOk result (λ ending. EndsWith (answers.NoneWithin max) (certificate_text (head_of Counter (Refutes max)) (length log.axioms) (first_lines log (length log.axioms) lines)) [] ending)
    → IfOk result (λ ending. Ends (fewest setting max budget) ending.answer ending)
none_found setting max budget log lines (Ok ending) found ends = none_ends setting max budget log lines ending found ends
none_found setting max budget log lines (Err fault) found ends = tt

pub spent_found : {E : Type 0} (setting : SettingValue) (max budget : ℕ) (log : Lines) (bound lines : ℕ) (result : Result Ending E) → IsSpent setting max budget log bound → lines ≡ length log.derived
    → IfOk result (λ ending. EndsWith (answers.Budget budget) (certificate_text (head_of Counter (Open bound)) (length log.axioms) (first_lines log (length log.axioms) lines)) [] ending)
    → IfOk result (λ ending. Ends (fewest setting max budget) ending.answer ending)
spent_found setting max budget log bound lines (Ok ending) found all ends = spent_ends setting max budget log bound lines ending found all ends
spent_found setting max budget log bound lines (Err fault) found all ends = tt

-- the lines that spent the budget can be printed
pub covers_spent : (setting : SettingValue) (max budget : ℕ) (log : Lines) (bound lines : ℕ) → IsSpent setting max budget log bound → lines ≡ length log.derived → Covers log (length log.axioms) lines
covers_spent setting max budget log bound lines found all = subst (λ (n : ℕ). Covers log (length log.axioms) n) (sym (all ∙ found.spent)) found.lines.covers

-- ---- limits

next_of : (b : Bool) (fault : ExactFault) (next : Option ExactFault) → cond b (Some fault) next ≡ None → next ≡ None
next_of true fault next e = absurd cc
next_of false fault next e = e

within_last : (b : Bool) (fault : ExactFault) → cond b (Some fault) None ≡ None → b ≡ false
within_last true fault e = absurd cc
within_last false fault e = refl

-- within the limits, at most 48 steps are asked for
pub few_steps : (setting : SettingValue) (max : ℕ) → too_large setting max ≡ None → max ≤ 48
few_steps setting max small =
    let places = next_of (ltb 16 (ion_count setting)) (exacts.TooLarge counts.Ions (ion_count setting)) _ small in
    let ops = next_of (ltb 48 (place_count setting.trap)) (exacts.TooLarge counts.Places (place_count setting.trap)) _ places in
    let last = next_of (ltb 200 (length setting.circuit.ops)) (exacts.TooLarge counts.Ops (length setting.circuit.ops)) _ ops in
    ltb-false 48 max (within_last (ltb 48 max) (exacts.TooLarge counts.Max max) last)

pub within_limits : (setting : SettingValue) (exact : Search) (ending : Ending) → too_large setting exact.max ≡ None → Ends (fewest setting exact.max exact.budget) ending.answer ending
    → Finishes (Is (within_search setting exact)) (Ok ending)
within_limits setting exact ending small ends = record {
  work = fewest setting exact.max exact.budget;
  is = sym (ap (λ (fault : Option ExactFault). option_map_or (λ f. Err (search_refusal f)) fault (Ok (fewest setting exact.max exact.budget))) small);
  ends = ends;
}

too_large_ends : (setting : SettingValue) (exact : Search) (budget : ℕ) (fault : ExactFault) → Answers setting exact.max budget (Err fault) → Finishes (Is (within_search setting exact)) (Err (search_refusal fault))
too_large_ends setting exact budget (exacts.TooLarge what count) said =
    inr (sym (ap (λ (fault : Option ExactFault). option_map_or (λ f. Err (search_refusal f)) fault (Ok (fewest setting exact.max exact.budget))) said))
too_large_ends setting exact budget exacts.NoMemory said = inl refl

pub limits_err : (setting : SettingValue) (exact : Search) (budget : ℕ) (fault : ExactFault) (answer : Answer) → Answers setting exact.max budget (Err fault) → answer ≡ search_refusal fault
    → Finishes (Is (within_search setting exact)) (Err answer)
limits_err setting exact budget fault answer said is = subst (λ (a : Answer). Finishes (Is (within_search setting exact)) (Err a)) (sym is) (too_large_ends setting exact budget fault said)

-- ---- from the placement on

pub sought_ok : (rule : PlaceRule) (exact : Search) (inputs : Inputs) (placement : List (List Qubit)) (r : Result Ending Answer) → place_by inputs.trap inputs.circuit rule inputs.labels ≡ Ok placement
    → Finishes (Is (within_search (setting_of inputs.trap inputs.circuit placement) exact)) r → Finishes (SoughtFrom rule exact inputs) r
sought_ok rule exact = from_ok rule (λ setting. Is (within_search setting exact))

pub sought_err : (rule : PlaceRule) (exact : Search) (inputs : Inputs) (fault : PlaceFault) (answer : Answer) → PlaceAnswers {X = List (List Qubit)} (Err fault) (place_by inputs.trap inputs.circuit rule inputs.labels)
    → answer ≡ place_refusal fault → Finishes (SoughtFrom rule exact inputs) (Err answer)
sought_err rule exact = from_err rule (λ setting. Is (within_search setting exact))
