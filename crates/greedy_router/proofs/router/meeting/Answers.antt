use Rattle.std.proofs.Common.{◌≡◌, ℕ, ◌<◌, length, true, sym, ap, subst, ◌∙◌, arith}
use Rattle.std.specs.Prelude.{Option, IfSome}
use Rattle.std.proofs.lemmas.Bool.{both_ways, not-true, not-false, eqb-true, eqb-false}
use Rattle.qc_base.specs.declared.ids.Ion.{Ion}
use Rattle.trap_parts.specs.Parts.{TrapValue}
use Rattle.trap_model.specs.Trap.{is_able}
use Rattle.greedy_router.specs.Places.{home_of}
use Rattle.greedy_router.proofs.Rounds.{job_in_homes, home_of_together, together_at_home}
use Rattle.greedy_router.proofs.router.meeting.Goals.{in-Some+else-ne, in_default}
use Rattle.greedy_router.proofs.router.meeting.Goals as goal

pub home-zone-requires : goal.home-zone-requires
home-zone-requires c = (job_in_homes c.args.map.now c.args.op.0 c.job-job.result (length c.args.traffic.now.homes.items) c.requires.map c.job-job.ensures c.requires.traffic.len).0

pub home-requires : goal.home-requires
home-requires c =
    subst (λ (second : Option Ion). IfSome second (λ (ion : Ion). ion.0 < length c.args.traffic.now.homes.items)) c.in-Some.is
    (job_in_homes c.args.map.now c.args.op.0 c.job-job.result (length c.args.traffic.now.homes.items) c.requires.map c.job-job.ensures c.requires.traffic.len).1

pub returns-then-ne : goal.returns-then-ne
returns-then-ne c = λ zone together.
    let home = home_of_together c.args.map.now c.args.traffic.now.played.config.lists c.args.traffic.now.homes.items zone c.args.op.0 c.job-job.result c.requires.map c.job-job.ensures c.requires.traffic.homes
    (job_in_homes c.args.map.now c.args.op.0 c.job-job.result (length c.args.traffic.now.homes.items) c.requires.map c.job-job.ensures c.requires.traffic.len) together in
    let second : zone ≡ home_of c.args.traffic.now.homes.items c.in-Some.second.0 =
    subst (λ (second : Option Ion). IfSome second (λ (ion : Ion). zone ≡ home_of c.args.traffic.now.homes.items ion.0)) c.in-Some.is home.second in
    eqb-false c.home.result.0 c.home-zone.result.0 (not-true _ (sym c.if-ne.ensures)) (c.home.ensures ∙ sym second ∙ home.first ∙ sym c.home-zone.ensures)

pub able-requires : goal.able-requires
able-requires c =
    let there = (c.requires.traffic.homes.present c.job-job.result.first.0 (job_in_homes c.args.map.now c.args.op.0 c.job-job.result (length c.args.traffic.now.homes.items) c.requires.map c.job-job.ensures c.requires.traffic.len).0).there in
    omega (arith, there, ap (λ (trap : TrapValue). length trap.zones) c.trap.ensures, c.home-zone.ensures)

pub returns-then-not-able : goal.returns-then-not-able
returns-then-not-able c = λ zone together.
    let home = home_of_together c.args.map.now c.args.traffic.now.played.config.lists c.args.traffic.now.homes.items zone c.args.op.0 c.job-job.result c.requires.map c.job-job.ensures c.requires.traffic.homes
    (job_in_homes c.args.map.now c.args.op.0 c.job-job.result (length c.args.traffic.now.homes.items) c.requires.map c.job-job.ensures c.requires.traffic.len) together in
    both_ways (is_able c.args.map.now.setting.trap c.home-zone.result.0 c.job-job.result.need)
    (ap (λ (trap : TrapValue). is_able trap c.home-zone.result.0 c.job-job.result.need) (sym c.trap.ensures) ∙ sym c.if-not-able.ensures)
    (subst (λ (place : ℕ). is_able c.args.map.now.setting.trap place c.job-job.result.need ≡ true) (home.first ∙ sym c.home-zone.ensures) home.able)

pub returns : goal.returns
returns c =
    let place : ℕ = c.home-zone.result.0 in
    let second : IfSome c.job-job.result.second (λ (ion : Ion). place ≡ home_of c.args.traffic.now.homes.items ion.0) = elim c.match-job.branch [
      | in-Some+else-ne w ↦ subst (λ (second : Option Ion). IfSome second (λ (ion : Ion). place ≡ home_of c.args.traffic.now.homes.items ion.0)) (sym w.in-Some.is)
          (sym (eqb-true w.home.result.0 place (not-false _ (sym w.if-ne.ensures))) ∙ w.home.ensures)
      | in_default w ↦ subst (λ (second : Option Ion). IfSome second (λ (ion : Ion). place ≡ home_of c.args.traffic.now.homes.items ion.0)) (sym w.in_default.is) tt
    ] in
    together_at_home c.args.map.now c.args.traffic.now.played.config.lists c.args.traffic.now.homes.items place c.args.op.0 c.job-job.result c.requires.map c.job-job.ensures c.requires.traffic.homes
    (job_in_homes c.args.map.now c.args.op.0 c.job-job.result (length c.args.traffic.now.homes.items) c.requires.map c.job-job.ensures c.requires.traffic.len)
    (record {
      first = c.home-zone.ensures;
      second = second;
      able = ap (λ (trap : TrapValue). is_able trap place c.job-job.result.need) (sym c.trap.ensures) ∙ sym c.if-not-able.ensures;
    })
