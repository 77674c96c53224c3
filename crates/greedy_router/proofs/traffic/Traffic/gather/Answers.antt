use Rattle.std.proofs.Common.{◌≡◌, ℕ, ◌<◌, length, true, subst}
use Rattle.std.specs.Prelude.{Option, IfSome}
use Rattle.std.proofs.lemmas.Bool.{some_since}
use Rattle.std.proofs.lemmas.Option.{MatchOption-at_some}
use Rattle.qc_base.specs.declared.ids.Ion.{Ion}
use Rattle.qc_base.specs.declared.ids.PlaceId.{PlaceId}
use Rattle.trap_model.specs.Trap.{is_able}
use Rattle.greedy_router.proofs.Rounds.{job_in_homes, able_somewhere}
use Rattle.greedy_router.proofs.Gathering.{gathered_one, gathered_two}
use Rattle.greedy_router.proofs.traffic.Traffic.gather.Goals as goal

pub nearest_able-requires-clause-job : goal.nearest_able-requires-clause-job
nearest_able-requires-clause-job c = job_in_homes c.args.map.now c.args.op.0 c.job-job.result (length c.args.self.now.homes.items) c.requires.map c.job-job.ensures c.requires.traffic.len

pub unwrap-zone-requires : goal.unwrap-zone-requires
unwrap-zone-requires c =
    some_since c.nearest_able.result
    ((zone : ℕ) → zone < length c.args.map.now.setting.trap.zones → ¬ is_able c.args.map.now.setting.trap zone c.job-job.result.need ≡ true)
    (λ (zone : PlaceId). (zone.0 < length c.args.map.now.setting.trap.zones) × (is_able c.args.map.now.setting.trap zone.0 c.job-job.result.need ≡ true)) c.nearest_able.ensures
    (able_somewhere c.args.map.now c.args.op.0 c.job-job.result c.requires.map c.requires.performed c.job-job.ensures)

pub travel-requires-clause-ion : goal.travel-requires-clause-ion
travel-requires-clause-ion c = (job_in_homes c.args.map.now c.args.op.0 c.job-job.result (length c.args.self.now.homes.items) c.requires.map c.job-job.ensures c.requires.traffic.len).0

pub travel-requires-in-Some-clause-ion : goal.travel-requires-in-Some-clause-ion
travel-requires-in-Some-clause-ion c =
    let within = job_in_homes c.args.map.now c.args.op.0 c.job-job.result (length c.travel.new.self.homes.items) c.requires.map c.job-job.ensures c.in_ok-travel.ensures.flows.traffic.len in
    subst (λ (second : Option Ion). IfSome second (λ (ion : Ion). ion.0 < length c.travel.new.self.homes.items)) c.in-Some.is within.1

pub returns-in_ok-travel-2 : goal.returns-in_ok-travel-2
returns-in_ok-travel-2 c =
    let able : is_able c.args.map.now.setting.trap c.unwrap-zone.result.0 c.job-job.result.need ≡ true = (MatchOption-at_some
    ((zone : ℕ) → zone < length c.args.map.now.setting.trap.zones → ¬ is_able c.args.map.now.setting.trap zone c.job-job.result.need ≡ true)
    (λ (zone : PlaceId). (zone.0 < length c.args.map.now.setting.trap.zones) × (is_able c.args.map.now.setting.trap zone.0 c.job-job.result.need ≡ true))
    c.unwrap-zone.result c.unwrap-zone.ensures c.nearest_able.ensures).1 in
    gathered_two c.args.map.now c.args.self.now c.travel.new.self c.travel-in-Some.new.self c.unwrap-zone.result.0 c.args.op.0 c.job-job.result c.in-Some.second c.requires.map c.job-job.ensures
    c.requires.traffic c.requires.free able c.in-Some.is c.in_ok-travel.ensures c.in_ok-travel-2.ensures

pub returns-in_default : goal.returns-in_default
returns-in_default c =
    let able : is_able c.args.map.now.setting.trap c.unwrap-zone.result.0 c.job-job.result.need ≡ true = (MatchOption-at_some
    ((zone : ℕ) → zone < length c.args.map.now.setting.trap.zones → ¬ is_able c.args.map.now.setting.trap zone c.job-job.result.need ≡ true)
    (λ (zone : PlaceId). (zone.0 < length c.args.map.now.setting.trap.zones) × (is_able c.args.map.now.setting.trap zone.0 c.job-job.result.need ≡ true))
    c.unwrap-zone.result c.unwrap-zone.ensures c.nearest_able.ensures).1 in
    gathered_one c.args.map.now c.args.self.now c.travel.new.self c.unwrap-zone.result.0 c.args.op.0 c.job-job.result c.requires.map c.job-job.ensures
    c.requires.traffic c.requires.free able c.in_default.is c.in_ok-travel.ensures
