use Rattle.std.proofs.Common.{◌≡◌, ℕ, get_or, sym, ap, subst, ◌∙◌, inl, inr, arith}
use Rattle.std.proofs.lemmas.Bool.{cases_lt}
use Rattle.std.proofs.lemmas.List.{get_or_default}
use Rattle.std.proofs.lemmas.Option.{get_or_from_slice_get}
use Rattle.qc_base.specs.declared.ids.OpId.{OpId}
use Rattle.gate_order.specs.Keeping.{op as op_of}
use Rattle.greedy_router.specs.Serial.{IsTogether}
use Rattle.greedy_router.proofs.Rounds.{next_here, none_possible}
use Rattle.greedy_router.proofs.router.together.Goals as goal

pub returns-in-Some : goal.returns-in-Some
returns-in-Some c =
    let op : OpId = get_or c.args.ready.now c.loop-op.op-index (op_of 0) in
    next_here c.args.map.now.setting c.args.traffic.now.played.actions.items c.args.traffic.now.played.config.lists c.args.ready.now c.loop-op.op-index op c.in-Some.zone.0 c.requires.traffic.played.after
    c.requires.ready c.loop-op-test.true (get_or_default c.args.ready.now c.loop-op.op-index (op_of 0) op c.loop-op-test.true) c.in-Some.ensures c.loop-op.invariant

pub loop-op-preserved : goal.loop-op-preserved
loop-op-preserved c = λ k op h there zone together. elim (cases_lt k c.loop-op.op-index) [
  | inl before ↦ c.loop-op.invariant k op before there zone together
  | inr late ↦ (
      let same : k ≡ c.loop-op.op-index = omega (arith, h, late) in
      let here : op.0 ≡ (get_or c.args.ready.now c.loop-op.op-index (op_of 0)).0 =
      sym (ap (λ (o : OpId). o.0) (get_or_from_slice_get c.args.ready.now k op (op_of 0) there)) ∙ ap (λ (j : ℕ). (get_or c.args.ready.now j (op_of 0)).0) same in
      c.in_default.ensures zone (subst (λ (number : ℕ). IsTogether c.args.map.now.setting c.args.traffic.now.played.config.lists zone number) here together)
      )
]

pub returns : goal.returns
returns c =
    none_possible c.args.map.now.setting c.args.traffic.now.played.actions.items c.args.traffic.now.played.config.lists c.args.ready.now c.requires.traffic.played.after c.requires.ready
    (λ k op within there zone. c.loop-op.invariant k op (omega (arith, within, c.loop-op-test.false)) there zone)
