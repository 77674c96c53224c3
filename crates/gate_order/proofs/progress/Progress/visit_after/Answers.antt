use Rattle.std.proofs.Common.{◌+◌, ◌<◌, ℕ, List, length, drop, refl, sym, ap, subst, ◌∙◌, arith}
use Rattle.std.specs.Prelude.{slice_index, slice_index_or}
use Rattle.std.proofs.lemmas.List.{drop_more, drop_all}
use Rattle.qc_base.specs.declared.ids.OpId.{OpId}
use Rattle.gate_order.specs.Keeping.{op, IsVisiting}
use Rattle.gate_order.proofs.Visits.{read_within, read_row, row_known, visiting_start, visiting_more, visiting_end, settled_stays, settled_longer}
use Rattle.gate_order.proofs.progress.Progress.visit_after.Goals as goal

pub bounds-after-op : goal.bounds-after-op
bounds-after-op c =
    let within : c.args.head < length c.args.self.now.settled.items = omega (arith, c.requires.head, c.args.self.now.settled.ok.0) in
    read_within c.args.circuit.now c.args.nearest.now c.args.after.now c.args.self.now c.args.head c.index-op.result.now c.requires.kept c.requires.after within c.index-op.ensures

pub loop-next-init : goal.loop-next-init
loop-next-init c =
    let within : c.args.head < length c.args.self.now.settled.items = omega (arith, c.requires.head, c.args.self.now.settled.ok.0) in
    let current : ℕ = (slice_index_or c.args.self.now.settled.items c.args.head (op 0)).0 in
    record {
      kept = c.requires.kept;
      visiting = subst (λ (l : List ℕ). IsVisiting c.args.nearest.now c.args.self.now c.args.head current l)
          (sym (read_row c.args.circuit.now c.args.nearest.now c.args.after.now c.args.self.now c.args.head c.index-op.result.now c.index-after-op.result c.items-next-items.result.now c.requires.kept c.requires.after within c.index-op.ensures
          c.index-after-op.is c.items-next-items.ensures))
          (visiting_start c.args.nearest.now c.args.after.now c.args.head current c.args.self.now c.requires.after c.requires.blocked);
      done = refl;
      len = omega arith;
      same = refl;
    }

pub visit-requires-clause-op : goal.visit-requires-clause-op
visit-requires-clause-op c =
    let within : c.args.head < length c.args.self.now.settled.items = omega (arith, c.requires.head, c.args.self.now.settled.ok.0) in
    row_known c.args.nearest.now c.args.after.now (slice_index_or c.args.self.now.settled.items c.args.head (op 0)).0 c.loop-next.next-index c.items-next-items.result.now c.requires.after
    (read_row c.args.circuit.now c.args.nearest.now c.args.after.now c.args.self.now c.args.head c.index-op.result.now c.index-after-op.result c.items-next-items.result.now c.requires.kept c.requires.after within c.index-op.ensures
    c.index-after-op.is c.items-next-items.ensures)
    c.loop-next-test.true

pub loop-next-preserved : goal.loop-next-preserved
loop-next-preserved c =
    let current : ℕ = (slice_index_or c.args.self.now.settled.items c.args.head (op 0)).0 in
    let number : ℕ = slice_index c.items-next-items.result.now c.loop-next.next-index in
    let rest : List ℕ = drop (c.loop-next.next-index + 1) c.items-next-items.result.now in
    let within : c.args.head < length c.loop-next.self.settled.items = omega (arith, c.requires.head, c.args.self.now.settled.ok.0, c.loop-next.invariant.len) in
    record {
      kept = c.visit.ensures.kept;
      visiting = visiting_more c.args.circuit.now c.args.nearest.now number c.args.head current rest c.loop-next.self c.visit.new.self c.loop-next.invariant.kept.state c.visit.ensures.visited within c.loop-next.invariant.same
          (subst (λ (l : List ℕ). IsVisiting c.args.nearest.now c.loop-next.self c.args.head current l) (drop_more c.items-next-items.result.now c.loop-next.next-index 0 c.loop-next-test.true) c.loop-next.invariant.visiting);
      done = c.visit.ensures.visited.done ∙ c.loop-next.invariant.done;
      len = omega (arith, c.loop-next.invariant.len, settled_longer c.args.circuit.now c.args.nearest.now number c.loop-next.self c.visit.new.self c.visit.ensures.visited);
      same = ap (λ (it : OpId). it.0) (settled_stays c.args.circuit.now c.args.nearest.now number c.args.head c.loop-next.self c.visit.new.self c.visit.ensures.visited within) ∙ c.loop-next.invariant.same;
    }

pub returns-clause-blocked : goal.returns-clause-blocked
returns-clause-blocked c =
    let current : ℕ = (slice_index_or c.args.self.now.settled.items c.args.head (op 0)).0 in
    visiting_end c.args.nearest.now c.args.head current c.loop-next.self c.loop-next.invariant.same
    (subst (λ (l : List ℕ). IsVisiting c.args.nearest.now c.loop-next.self c.args.head current l) (drop_all c.loop-next.next-index c.items-next-items.result.now c.loop-next-test.false) c.loop-next.invariant.visiting)
