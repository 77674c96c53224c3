-- The schedule of facts performs the circuit: each operation once, and in its order.
use Rattle.std.proofs.Common.{◌≡◌, ℕ, zero, suc, ◌+◌, ◌<◌, ◌≤◌, Bool, true, false, cond, List, [], ◌∷◌, ◌++◌, length, Some, refl, sym, ap, subst, ◌∙◌, inl, inr, arith}
use Rattle.std.specs.Prelude.{Contains, IsTrue, Option, None, if◌then◌else◌, slice_get, ◌==◌, ◌⊎◌}
use Rattle.std.specs.Option.{option_map_or}
use Rattle.std.specs.List.{list_any}
use Rattle.std.proofs.lemmas.Bool.{cases_lt, cases_eq, eq-eqb, eqb-true, both_ways}
use Rattle.std.proofs.lemmas.Option.{same_Some, slice_get_within, get_or_from_slice_get}
use Rattle.std.proofs.lemmas.List.Elements.{All-contains}
use Rattle.qc_base.specs.declared.ids.Qubit.{Qubit}
use Rattle.qc_base.specs.declared.ids.JunctionId.{JunctionId}
use Rattle.qc_base.specs.declared.ids.Ion.{Ion}
use Rattle.qc_base.specs.Counting.{how_many}
use Rattle.circuit_core.specs.declared.op.Op.{Op}
use Rattle.circuit_core.specs.Circuit.{qubit_count, IsOpOf}
use Rattle.circuit_core.specs.Op.{qubits_of}
use Rattle.circuit_core.specs.Order.{Forced, is_performed}
use Rattle.circuit_core.proofs.Forcing.{forced_iff}
use Rattle.trap_model.specs.Trap.{place_count}
use Rattle.trap_model.specs.declared.channel.Channel.{Channel}
use Rattle.trap_model.specs.declared.channel.Kind.{Kind}
use Rattle.trap_model.specs.declared.channel.Kind.TheVariants.{Split, Move, Cross, Merge}
use Rattle.ion_chain.specs.Transfer.{list_at}
use Rattle.step_rules.specs.ActionChannel.{action_by}
use Rattle.step_rules.specs.declared.action.Action.{Action}
use Rattle.step_rules.specs.Placement.{ion_of, start_of}
use Rattle.step_rules.specs.Setting.{SettingValue}
use Rattle.step_rules.specs.Steps.{after_step}
use Rattle.step_rules.specs.Play.{performs, actions_of, PerformsIn, Performs}
use Rattle.step_vars.specs.Items.{done_item}
use Rattle.step_vars.specs.Lists.{ion_count, is_ion_of, is_there}
use Rattle.step_facts.specs.Facts.{Facts, IsAt, IsDone, IsPerformedIn}
use Rattle.step_facts.specs.Activities.{Activity, passage, exchange, operation, IsActivity, item_of, activities_of}
use Rattle.step_facts.specs.Properties.{IsPerformed, OnePlace, IonsAreInZone}
use Rattle.step_facts.specs.Run.{IsSetting, IsStep, IsRun}
use Rattle.step_facts.specs.ToSchedule.{action_of, happens, happening, passing_count, step_of, steps_from, schedule_of}
use Rattle.step_facts.proofs.Lists.{Contains-filter, AreDifferent-filter, list_any-found, at_most_one-from, exactly_one, how_many-append, how_many-map, how_many-some, how_many_pass}
use Rattle.step_facts.proofs.Bounds.{there-activity, different_activities}
use Rattle.step_facts.proofs.Configs.{sound-one_place, sound-start, starts_at-list}
use Rattle.step_facts.proofs.Guards.{performed_op, ion-known, any_same}
use Rattle.step_facts.proofs.Footprints.{IsActionOf, step-action}

-- ---- one zone

some_qubit : (qubits : List Qubit) → 1 ≤ length qubits → (qubit : Qubit) × Contains qubits qubit
some_qubit [] some = absurd (omega arith)
some_qubit (qubit ∷ qubits) some = (qubit, (0, omega arith, refl))

-- an operation that is no barrier has an ion
pub some-ion : (setting : SettingValue) (g : ℕ) → IsSetting setting → IsTrue (is_performed setting.circuit g)
    → (i : ℕ) × (i < ion_count setting) × IsTrue (is_ion_of setting g i)
some-ion setting g sound is =
    let found = performed_op setting.circuit.ops (slice_get setting.circuit.ops g) is in
    let op : Op = found.0 in
    let known : IsOpOf setting.circuit op =
    subst (IsOpOf setting.circuit) (get_or_from_slice_get setting.circuit.ops g op op found.1)
    (sound.circuit.ops g op (slice_get_within setting.circuit.ops g op found.1)) in
    let first = some_qubit (qubits_of op) known.some in
    let qubit : Qubit = first.0 in (
      (ion_of setting.placement qubit).0,
      ion-known setting qubit sound (All-contains (λ (q : Qubit). q.0 < qubit_count setting.circuit) (qubits_of op) qubit known.qubits first.1),
      ap (λ (o : Option Op). option_map_or (λ (it : Op). list_any (λ (q : Qubit). (ion_of setting.placement qubit).0 == (ion_of setting.placement q).0) (qubits_of it)) o false) found.1
          ∙ any_same setting.placement (qubits_of op) qubit first.1,
    )

-- so only one zone performs it in a step
pub one-zone : (setting : SettingValue) (facts : Facts) (r t g y z : ℕ) → IsSetting setting → OnePlace setting facts r
    → IonsAreInZone setting facts r t
    → IsActivity setting (operation g y) → IsActivity setting (operation g z) → IsPerformedIn facts g y t
    → IsPerformedIn facts g z t → y ≡ z
one-zone setting facts r t g y z sound one in_zone y_able z_able y_performs z_performs =
    let ion = some-ion setting g sound y_able.0 in
    one ion.0 y z ion.1 (omega (arith, y_able.2)) (omega (arith, z_able.2))
    (in_zone g y ion.0 y_able ion.1 ion.2 y_performs) (in_zone g z ion.0 z_able ion.1 ion.2 z_performs)

-- ---- how often a step performs an operation

-- what passes ions performs none
none_performed : (g : ℕ) (kind : Kind) (junction : Option JunctionId) (channel : Channel) (count : ℕ)
    → performs g (action_by kind junction channel count) ≡ false
none_performed g Split junction channel count = refl
none_performed g Move junction channel count = refl
none_performed g Cross None channel count = refl
none_performed g Cross (Some junction) channel count = refl
none_performed g Merge junction channel count = refl

-- only an operation performs itself
performs_itself : (facts : Facts) (t : ℕ) (config : List (List Ion)) (g : ℕ) (a : Activity)
    → performs g (action_of facts t config a) ≡ true → (z : ℕ) × (a ≡ operation g z)
performs_itself facts t config g (passage c channel) is =
    absurd (both_ways (performs g (action_of facts t config (passage c channel)))
    (none_performed g channel.kind channel.junction channel (passing_count facts c t (list_at config channel.from.0))) is)
performs_itself facts t config g (exchange i j z) is = absurd cc
performs_itself facts t config g (operation h z) is = (z, ap (λ (n : ℕ). operation n z) (eqb-true h g is))

-- an action of the step of facts performs it exactly where a zone does by the facts
pub performs-step : (setting : SettingValue) (facts : Facts) (t : ℕ) (config : List (List Ion)) (g : ℕ)
    → 1 ≤ how_many (performs g) (step_of setting facts t config)
    → IsPerformed setting facts g t
performs-step setting facts t config g some =
    let it = list_any-found (performs g) (step_of setting facts t config) (how_many-some (performs g) (step_of setting facts t config) some) in
    let by : IsActionOf setting facts t config it.member = step-action setting facts t config it.member it.there in
    let zone = performs_itself facts t config g by.activity (ap (performs g) by.is ∙ it.passes) in
    record {
      zone = zone.0;
      able = subst (IsActivity setting) zone.1 by.there;
      performs = subst (λ (a : Activity). facts (item_of t a) ≡ true) zone.1 by.happens;
    }

-- of what happens in a step, one activity at most performs it
same_operation : (setting : SettingValue) (facts : Facts) (r t : ℕ) (config : List (List Ion)) (g : ℕ) (a b : Activity)
    → IsSetting setting → OnePlace setting facts r → IonsAreInZone setting facts r t
    → IsActivity setting a → IsActivity setting b → facts (item_of t a) ≡ true → facts (item_of t b) ≡ true
    → performs g (action_of facts t config a) ≡ true → performs g (action_of facts t config b) ≡ true → a ≡ b
same_operation setting facts r t config g a b sound one in_zone a_is b_is a_happens b_happens a_performs b_performs =
    let first = performs_itself facts t config g a a_performs in
    let second = performs_itself facts t config g b b_performs in
    let zone : first.0 ≡ second.0 =
    one-zone setting facts r t g first.0 second.0 sound one in_zone (subst (IsActivity setting) first.1 a_is) (subst (IsActivity setting) second.1 b_is)
    (subst (λ (x : Activity). facts (item_of t x) ≡ true) first.1 a_happens) (subst (λ (x : Activity). facts (item_of t x) ≡ true) second.1 b_happens) in
    first.1 ∙ ap (operation g) zone ∙ sym second.1

-- how often the step performs it
pub performs-count : (setting : SettingValue) (facts : Facts) (r t : ℕ) (config : List (List Ion)) (g : ℕ)
    → IsSetting setting → OnePlace setting facts r → IonsAreInZone setting facts r t
    → IsPerformed setting facts g t → how_many (performs g) (step_of setting facts t config) ≡ 1
performs-count setting facts r t config g sound one in_zone performed =
    let test = λ (a : Activity). performs g (action_of facts t config a) in
    let done : List Activity = happening setting facts t in
    let few : how_many test done ≤ 1 =
    at_most_one-from test done (AreDifferent-filter (happens facts t) (activities_of setting) (different_activities setting))
    (λ a b a_in b_in a_is b_is.
    let first = (Contains-filter (happens facts t) (activities_of setting) a).0 a_in in
    let second = (Contains-filter (happens facts t) (activities_of setting) b).0 b_in in
    same_operation setting facts r t config g a b sound one in_zone ((there-activity setting a).0 first.0) ((there-activity setting b).0 second.0) first.1 second.1 a_is b_is) in
    let there : Contains done (operation g performed.zone) =
    (Contains-filter (happens facts t) (activities_of setting) (operation g performed.zone)).1
    ((there-activity setting (operation g performed.zone)).1 performed.able, performed.performs) in
    how_many-map (performs g) (action_of facts t config) done ∙ exactly_one test done (operation g performed.zone) few there (eq-eqb g g refl)

-- ---- from time to time

begins_there : (setting : SettingValue) (facts : Facts) (t i p : ℕ) → IsRun setting facts t → i < ion_count setting
    → p < place_count setting.trap → IsAt facts i p 0
    → is_there i (list_at (start_of setting.trap setting.placement) p) ≡ true
begins_there setting facts t i p run known p_known at_p = sym (starts_at-list setting i p) ∙ sym (run.start.places i p known p_known) ∙ at_p

-- an ion is in one place at each time
pub one-place : (setting : SettingValue) (facts : Facts) (t r : ℕ) → IsSetting setting → IsRun setting facts t → r ≤ t
    → OnePlace setting facts r
one-place setting facts t zero sound run within i p q known p_known q_known at_p at_q =
    sound-one_place setting (start_of setting.trap setting.placement) i p q (sound-start setting sound)
    (begins_there setting facts t i p run known p_known at_p) (begins_there setting facts t i q run known q_known at_q)
one-place setting facts t (suc r) sound run within i p q known p_known q_known at_p at_q =
    (run.steps r (omega arith)).one_place i p q known p_known q_known at_p at_q

-- what is done at a time is done at each later one
pub stays-done : (setting : SettingValue) (facts : Facts) (t r s g : ℕ) → IsRun setting facts t
    → IsTrue (is_performed setting.circuit g) → r ≤ s → s ≤ t → IsDone facts g r → IsDone facts g s
stays-done setting facts t r zero g run is before within done =
    let same : r ≡ 0 = omega arith in
    subst (IsDone facts g) same done
stays-done setting facts t r (suc s) g run is before within done = elim (cases_eq r (suc s)) [
  | inl same ↦ subst (IsDone facts g) same done
  | inr other ↦ ((run.steps s (omega arith)).done g is).0 (stays-done setting facts t r s g run is (omega arith) (omega arith) done)
]

abbrev pub times_done : Facts → ℕ → ℕ → ℕ
times_done facts g t = if facts (done_item g t) then 1 else 0

-- one that is performed wasn't done before and is done then, and all others stay as they are
counted_once : (before now : Bool) (times : ℕ) → (before ≡ true → now ≡ true)
    → (1 ≤ times → (before ≡ false) × (now ≡ true) × (times ≡ 1))
    → (now ≡ true → (before ≡ true) ⊎ (1 ≤ times)) → cond before 1 0 + times ≡ cond now 1 0
counted_once true true zero stays once by = refl
counted_once true false zero stays once by = let now = stays refl in absurd cc
counted_once false true zero stays once by = elim (by refl) [ inl was ↦ absurd cc | inr some ↦ absurd (omega arith) ]
counted_once false false zero stays once by = refl
counted_once before now (suc times) stays once by =
    let it = once (omega arith) in
    rw (it.0, it.1) (omega (arith, it.2))

performs_next : (setting : SettingValue) (facts : Facts) (r : ℕ) (config : List (List Ion)) (g : ℕ) → IsSetting setting
    → OnePlace setting facts r → IsStep setting facts r (suc r)
    → IsTrue (is_performed setting.circuit g)
    → times_done facts g r + how_many (performs g) (step_of setting facts (suc r) config) ≡ times_done facts g (suc r)
performs_next setting facts r config g sound one is_step is =
    counted_once (facts (done_item g r)) (facts (done_item g (suc r))) (how_many (performs g) (step_of setting facts (suc r) config)) (is_step.done g is).0
    (λ some.
    let it : IsPerformed setting facts g (suc r) = performs-step setting facts (suc r) config g some in
    let once = is_step.once g it.zone it.able it.performs in
    (once.0, once.1, performs-count setting facts r (suc r) config g sound one is_step.ions_in_zone it))
    (λ now. elim ((is_step.done g is).1 now) [
      | inl was ↦ inl was
      | inr performed ↦ inr (omega (arith, performs-count setting facts r (suc r) config g sound one is_step.ions_in_zone performed))
    ])

added : (before here later now last all : ℕ) → all ≡ here + later → before + here ≡ now → now + later ≡ last
    → before + all ≡ last
added before here later now last all parts first rest = omega arith

-- how often the steps from time r on perform it
pub performs-from : (setting : SettingValue) (facts : Facts) (t r count : ℕ) (config : List (List Ion)) (g : ℕ)
    → IsSetting setting → IsRun setting facts t → r + count ≤ t
    → IsTrue (is_performed setting.circuit g)
    → times_done facts g r + how_many (performs g) (actions_of (steps_from setting facts r config count)) ≡ times_done facts g (r + count)
performs-from setting facts t r zero config g sound run within is =
    let same : r ≡ r + 0 = omega arith in
    let none : times_done facts g r + 0 ≡ times_done facts g r = omega arith in
    none ∙ ap (times_done facts g) same
performs-from setting facts t r (suc count) config g sound run within is =
    let step : List Action = step_of setting facts (suc r) config in
    let next : List (List Ion) = after_step setting.trap config step in
    let later : List Action = actions_of (steps_from setting facts (suc r) next count) in
    let parts : how_many (performs g) (step ++ later) ≡ how_many (performs g) step + how_many (performs g) later = how_many-append (performs g) step later in
    let here : times_done facts g r + how_many (performs g) step ≡ times_done facts g (suc r) =
    performs_next setting facts r config g sound (one-place setting facts t r sound run (omega arith)) (run.steps r (omega arith)) is in
    let rest : times_done facts g (suc r) + how_many (performs g) later ≡ times_done facts g (suc r + count) =
    performs-from setting facts t (suc r) count next g sound run (omega arith) is in
    let same : suc r + count ≡ r + suc count = omega arith in
    added (times_done facts g r) (how_many (performs g) step) (how_many (performs g) later) (times_done facts g (suc r)) (times_done facts g (suc r + count)) (how_many (performs g) (step ++ later)) parts here rest
    ∙ ap (times_done facts g) same

-- a step that performs it, by the facts
pub performs-in : (setting : SettingValue) (facts : Facts) (r count : ℕ) (config : List (List Ion)) (g s : ℕ)
    → PerformsIn (steps_from setting facts r config count) g s
    → (s < count) × IsPerformed setting facts g (suc (r + s))
performs-in setting facts r zero config g s it = let at = it.at_time in absurd cc
performs-in setting facts r (suc count) config g zero it =
    let step : List Action = step_of setting facts (suc r) config in
    let same : it.step ≡ step = sym (same_Some step it.step it.at_time) in
    let there : Contains step it.action = subst (λ (l : List Action). Contains l it.action) same it.in_step in
    let time : suc r ≡ suc (r + 0) = omega arith in
    (omega arith, subst (IsPerformed setting facts g) time (performs-step setting facts (suc r) config g (how_many_pass (performs g) step it.action there it.is)))
performs-in setting facts r (suc count) config g (suc s) it =
    let next : List (List Ion) = after_step setting.trap config (step_of setting facts (suc r) config) in
    let later = performs-in setting facts (suc r) count next g s (record { step = it.step; action = it.action; at_time = it.at_time; in_step = it.in_step; is = it.is }) in
    let time : suc (suc r + s) ≡ suc (r + suc s) = omega arith in
    (omega (arith, later.0), subst (IsPerformed setting facts g) time later.1)

-- ---- the whole circuit

-- all operations are done at the last time
all_done : (setting : SettingValue) (facts : Facts) (t g : ℕ) → IsRun setting facts t
    → IsTrue (is_performed setting.circuit g) → IsDone facts g t
all_done setting facts t g run is = run.goals t (omega arith) g is run.goal

performs_once : (setting : SettingValue) (facts : Facts) (t g : ℕ) → IsSetting setting → IsRun setting facts t
    → IsTrue (is_performed setting.circuit g)
    → how_many (performs g) (actions_of (schedule_of setting facts t)) ≡ 1
performs_once setting facts t g sound run is =
    let from : times_done facts g 0 + how_many (performs g) (actions_of (schedule_of setting facts t)) ≡ times_done facts g (0 + t) =
    performs-from setting facts t 0 t (start_of setting.trap setting.placement) g sound run (omega arith) is in
    let first : times_done facts g 0 ≡ 0 = ap (λ (b : Bool). cond b 1 0) (run.start.undone g is) in
    let time : 0 + t ≡ t = omega arith in
    let last : times_done facts g (0 + t) ≡ 1 = ap (times_done facts g) time ∙ ap (λ (b : Bool). cond b 1 0) (all_done setting facts t g run is) in
    omega (arith, from, first, last)

-- a step of the schedule that performs it, by the facts
performed_in : (setting : SettingValue) (facts : Facts) (t g s : ℕ) → PerformsIn (schedule_of setting facts t) g s
    → (s < t) × IsPerformed setting facts g (suc s)
performed_in setting facts t g s it =
    let by = performs-in setting facts 0 t (start_of setting.trap setting.placement) g s it in
    let time : 0 + s ≡ s = omega arith in
    (by.0, subst (λ (n : ℕ). IsPerformed setting facts g (suc n)) time by.1)

-- what has to come before it was performed in an earlier step
earlier_step : (setting : SettingValue) (facts : Facts) (t g h s u : ℕ) → IsSetting setting → IsRun setting facts t
    → Forced setting.circuit g h
    → PerformsIn (schedule_of setting facts t) g s → PerformsIn (schedule_of setting facts t) h u → s < u
earlier_step setting facts t g h s u sound run forced g_in h_in =
    let first = performed_in setting facts t g s g_in in
    let second = performed_in setting facts t h u h_in in
    let g_once = (run.steps s first.0).once g first.1.zone first.1.able first.1.performs in
    let h_once = (run.steps u second.0).once h second.1.zone second.1.able second.1.performs in
    let done : IsDone facts g u = (run.steps u second.0).in_order h g second.1.able.0 first.1.able.0 ((forced_iff setting.circuit g h).1 forced) h_once.1 in
    elim (cases_lt s u) [
      | inl before ↦ before
      | inr not ↦ absurd (both_ways (facts (done_item g s)) g_once.0 (stays-done setting facts t u s g run first.1.able.0 not (omega (arith, first.0)) done))
    ]

pub schedule-performs : (setting : SettingValue) (facts : Facts) (t : ℕ) → IsSetting setting → IsRun setting facts t
    → Performs setting.circuit (schedule_of setting facts t)
schedule-performs setting facts t sound run = record {
  once = λ g is. performs_once setting facts t g sound run is;
  in_order = λ g h forced s u. earlier_step setting facts t g h s u sound run forced;
}
