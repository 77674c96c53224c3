use Rattle.std.proofs.Common.{ap, arith}
use Rattle.watch_lists.specs.Watched.{Watched}
use Rattle.cdcl.specs.Linked.{Linked}
use Rattle.cdcl.proofs.Links.{tied_vars}
use Rattle.cdcl.proofs.linked.Linked.add_vars.Goals as goal

pub invariant_of-self-2 : goal.invariant_of-self-2
invariant_of-self-2 c =
    let old = c.self.invariant in
    let ok = c.in_ok-add_vars.ensures.ok in
    let vars = ap (λ (w : Watched). w.vars) ok in
    let view = ap (λ (l : Linked). l.watched.vars) c.self.view_is in
    let fits = c.requires in (
      tied_vars c.self.inside.watches c.add_vars.new.self c.self.inside.literals.items old.0 (ap (λ (w : Watched). w.clauses) ok) c.in_ok-add_vars.ensures.empty c.in_ok-add_vars.ensures.others,
      omega (arith, old.1),
      omega (arith, old.1, old.2),
    )
