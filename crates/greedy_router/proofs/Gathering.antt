-- The ions of one operation come together, and the operation is the next one.
use Rattle.std.proofs.Common.{◌≡◌, ℕ, ◌+◌, ◌<◌, ◌≤◌, List, [], ◌∷◌, ◌++◌, length, get_or, true, Some, None, sym, subst, ◌∙◌, arith}
use Rattle.std.specs.Prelude.{Option, IfSome, slice_get}
use Rattle.qc_base.specs.declared.ids.Ion.{Ion}
use Rattle.qc_base.specs.declared.ids.OpId.{OpId}
use Rattle.trap_model.specs.Trap.{is_able, limit_of}
use Rattle.ion_chain.specs.Transfer.{list_at}
use Rattle.gate_order.specs.Ready.{ReadyValue, AreReady, IsReady}
use Rattle.step_rules.specs.Setting.{SettingValue}
use Rattle.greedy_router.specs.declared.job.Job.{Job}
use Rattle.greedy_router.specs.declared.traffic.Traffic.{Traffic}
use Rattle.greedy_router.specs.Places.{count_of, home_of, HasFree, AllHaveFree}
use Rattle.greedy_router.specs.Routing.{MapValue, IsMap, IsWithin}
use Rattle.greedy_router.specs.Serial.{ops_of}
use Rattle.greedy_router.specs.Traffic.{IsTraffic, Flows, Travels, Gathers, Comes, ready_after}
use Rattle.greedy_router.proofs.Spare.{another_roomy}
use Rattle.greedy_router.proofs.Crowds.{others_free}
use Rattle.greedy_router.proofs.Rounds.{stays_there, comes_there, home_present, together_in, job_in_homes, next_here, fewer_undone}
use Rattle.greedy_router.proofs.Undone.{undone}

-- where a zone has fewer than two free places, some zone has three
pub roomy_somewhere : (setting : SettingValue) (traffic : Traffic) (zone : ℕ) → IsTraffic setting traffic → zone < length setting.trap.zones
    → limit_of setting.trap zone < length (list_at traffic.played.config.lists zone) + 2
    → ((other : ℕ) → other < length setting.trap.zones → ¬ HasFree setting.trap traffic.played.config.lists 3 other) → ⊥
roomy_somewhere setting traffic zone is within tight none =
    another_roomy setting.trap traffic.played.config.lists zone is.calm
    (λ other there. is.played.config.within other (omega (arith, there))) within tight none

pub gathered_one : (map : MapValue) (old new : Traffic) (zone op : ℕ) (job : Job) → IsMap map → slice_get map.jobs op ≡ Some (Some job) → IsTraffic map.setting old
    → AllHaveFree map.setting.trap old.played.config.lists 2 → is_able map.setting.trap zone job.need ≡ true → job.second ≡ None
    → Travels map.setting old new job.first.0 (home_of old.homes.items job.first.0) zone → Gathers map.setting old new zone op
gathered_one map old new zone op job is at traffic free able alone travels =
    let within : IsWithin (length old.homes.items) job = job_in_homes map op job (length old.homes.items) is at traffic.len in
    let from : ℕ = home_of old.homes.items job.first.0 in
    record {
      flows = travels.flows;
      uncrowded = record {
        zone = zone;
        others = others_free map.setting.trap old.played.config.lists new.played.config.lists job.first.0 from zone 2 travels.moved (λ other there apart. free other there);
      };
      together = together_in map new.played.config.lists zone op job is at able
          (comes_there old.played.config.lists new.played.config.lists job.first.0 from zone travels.moved
          (home_present map.setting.trap old.played.config.lists old.homes.items job.first.0 traffic.homes within.0))
          (subst (λ (second : Option Ion). IfSome second (λ (ion : Ion). 1 ≤ count_of ion.0 (list_at new.played.config.lists zone))) (sym alone) tt);
    }

pub gathered_two : (map : MapValue) (old middle new : Traffic) (zone op : ℕ) (job : Job) (second : Ion) → IsMap map → slice_get map.jobs op ≡ Some (Some job) → IsTraffic map.setting old
    → AllHaveFree map.setting.trap old.played.config.lists 2 → is_able map.setting.trap zone job.need ≡ true → job.second ≡ Some second
    → Travels map.setting old middle job.first.0 (home_of old.homes.items job.first.0) zone
    → Travels map.setting middle new second.0 (home_of middle.homes.items second.0) zone → Gathers map.setting old new zone op
gathered_two map old middle new zone op job second is at traffic free able two first last =
    let within : IsWithin (length old.homes.items) job = job_in_homes map op job (length old.homes.items) is at traffic.len in
    let also : IsWithin (length middle.homes.items) job = job_in_homes map op job (length middle.homes.items) is at first.flows.traffic.len in
    let second_within : second.0 < length middle.homes.items =
    subst (λ (it : Option Ion). IfSome it (λ (ion : Ion). ion.0 < length middle.homes.items)) two also.1 in
    let from : ℕ = home_of old.homes.items job.first.0 in
    let from_second : ℕ = home_of middle.homes.items second.0 in
    let a = old.played.config.lists in
    let b = middle.played.config.lists in
    let c = new.played.config.lists in
    record {
      flows = record { traffic = last.flows.traffic; travels = last.flows.travels; ops = last.flows.ops ∙ first.flows.ops };
      uncrowded = record {
        zone = zone;
        others = others_free map.setting.trap b c second.0 from_second zone 2 last.moved
            (others_free map.setting.trap a b job.first.0 from zone 2 first.moved (λ other there apart. free other there));
      };
      together = together_in map c zone op job is at able
          (stays_there b c second.0 job.first.0 from_second zone last.moved
          (comes_there a b job.first.0 from zone first.moved (home_present map.setting.trap a old.homes.items job.first.0 traffic.homes within.0)))
          (subst (λ (it : Option Ion). IfSome it (λ (ion : Ion). 1 ≤ count_of ion.0 (list_at c zone))) (sym two)
          (comes_there b c second.0 from_second zone last.moved (home_present map.setting.trap b middle.homes.items second.0 first.flows.traffic.homes second_within)));
    }

-- what is ready stays ready while ions travel
pub ready_still : (setting : SettingValue) (old new : Traffic) (ready : List OpId) → ops_of new.played.actions.items ≡ ops_of old.played.actions.items
    → AreReady (ready_after setting old.played.actions.items) ready → AreReady (ready_after setting new.played.actions.items) ready
ready_still setting old new ready same are =
    let value : List OpId → ReadyValue = λ done. record { circuit = setting.circuit; done = done } in
    subst (λ (done : List OpId). AreReady (value done) ready) (sym same) are

-- the least ready operation is the next one where its ions came together
pub gathered_next : (setting : SettingValue) (old middle new : Traffic) (ready : List OpId) (op : OpId) (zone : ℕ) → Flows setting old middle → Gathers setting middle new zone op.0
    → AreReady (ready_after setting old.played.actions.items) ready → 0 < length ready → op ≡ get_or ready 0 op → Comes setting old new zone op.0
gathered_next setting old middle new ready op zone flows gathers are some is =
    let same = gathers.flows.ops ∙ flows.ops in
    record {
      traffic = gathers.flows.traffic;
      ops = same;
      uncrowded = gathers.uncrowded;
      next = next_here setting new.played.actions.items new.played.config.lists ready 0 op zone gathers.flows.traffic.played.after (ready_still setting old new ready same are) some is gathers.together
          (λ k before h. absurd (omega (arith, h)));
    }

-- once the operation that comes next is performed, fewer are left
pub undone_after : (setting : SettingValue) (old new : Traffic) (value : ReadyValue) (zone : ℕ) (op : OpId) → value ≡ ready_after setting old.played.actions.items → Comes setting old new zone op.0
    → undone (length setting.circuit.ops) (value.done ++ op ∷ []) < undone (length setting.circuit.ops) value.done
undone_after setting old new value zone op is comes =
    let count : ℕ = length setting.circuit.ops in
    let ready : IsReady setting.circuit (ops_of old.played.actions.items) op.0 = subst (λ (done : List OpId). IsReady setting.circuit done op.0) comes.ops comes.next.possible.ready in
    subst (λ (v : ReadyValue). undone count (v.done ++ op ∷ []) < undone count v.done) (sym is) (fewer_undone setting.circuit (ops_of old.played.actions.items) op ready)
