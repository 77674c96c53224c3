use Rattle.std.proofs.Common.{arith, sym}
use Rattle.std.specs.Str.{bytes_eq}
use Rattle.trap_parts.proofs.Known.{position_at}
use Rattle.trap_model.proofs.trap.Trap.junction_named.Goals as goal

pub overflow_cast-result : goal.overflow_cast-result
overflow_cast-result c =
    let within = position_at (λ junction. bytes_eq junction c.args.text.now) c.self.inside.parts.junctions.items c.in_ok-junction.junction (sym c.in_ok-junction.ensures) in
    omega (arith, within, c.self.invariant.sound.junctions)
