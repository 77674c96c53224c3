use Rattle.std.proofs.Common.{List, arith, refl, subst}
use Rattle.qc_base.specs.declared.ids.OpId.{OpId}
use Rattle.gate_order.specs.Keeping.{IsPlace}
use Rattle.gate_order.proofs.Ascending.{IsFound, found_at}
use Rattle.gate_order.proofs.progress.Progress.take.Goals as goal

pub remove-requires : goal.remove-requires
remove-requires c =
    let place = subst (λ (l : List OpId). IsPlace l c.args.op c.place_of-place.result) c.deref.ensures.value c.place_of-place.ensures in
    let found : IsFound c.args.self.now.ready.items c.args.op c.place_of-place.result = found_at c.args.self.now.ready.items c.place_of-place.result c.args.op.0 c.requires.ascending place c.requires.ready in
    omega (arith, found.within, c.args.self.now.ready.ok.0)

pub returns : goal.returns
returns c =
    let place = subst (λ (l : List OpId). IsPlace l c.args.op c.place_of-place.result) c.deref.ensures.value c.place_of-place.ensures in
    let found : IsFound c.args.self.now.ready.items c.args.op c.place_of-place.result = found_at c.args.self.now.ready.items c.place_of-place.result c.args.op.0 c.requires.ascending place c.requires.ready in
    record {
      place = c.place_of-place.result;
      within = found.within;
      is = found.is;
      seen = refl;
      flags = refl;
      settled = refl;
      ready = c.remove.ensures.items;
      settled_room = refl;
      ready_room = c.remove.ensures.capacity;
    }
