use Rattle.std.proofs.Common.{◌≡◌, ℕ, ◌<◌, List, ◌∷◌, [], ◌++◌, length, sym, ap, subst, arith}
use Rattle.std.proofs.lemmas.Bool.{eqb-false}
use Rattle.qc_base.specs.declared.ids.OpId.{OpId}
use Rattle.gate_order.specs.Ready.{ReadyValue}
use Rattle.greedy_router.proofs.Undone.{undone}
use Rattle.greedy_router.proofs.Rounds.{some_ready}
use Rattle.greedy_router.proofs.Gathering.{undone_after}
use Rattle.greedy_router.proofs.router.perform_all.Goals as goal

pub next-requires-clause-some : goal.next-requires-clause-some
next-requires-clause-some c =
    let some : length c.ready.result.now ≡ 0 → ⊥ = eqb-false (length c.ready.result.now) 0 (sym c.loop-map-test.ensures) in
    some_ready c.loop-map.ready c.ready.result.now c.ready-in-loop-map.result.now c.ready.ensures c.ready-in-loop-map.ensures (omega (arith, some))

pub loop-map-smaller : goal.loop-map-smaller
loop-map-smaller c =
    let count : ℕ = length c.args.map.now.setting.circuit.ops in
    let done : c.done.new.self.done ≡ c.loop-map.ready.done ++ c.in_ok-turn.turn.op ∷ [] = ap (λ (value : ReadyValue). value.done) c.done.ensures in
    subst (λ (ops : List OpId). undone count ops < undone count c.loop-map.ready.done) (sym done)
    (undone_after c.args.map.now.setting c.loop-map.traffic c.next.new.traffic c.loop-map.ready c.in_ok-turn.turn.zone.0 c.in_ok-turn.turn.op c.loop-map.invariant.ready c.in_ok-turn.ensures)
