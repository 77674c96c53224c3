use Rattle.std.proofs.Common.{◌≤◌, Some, sym, subst}
use Rattle.sat_base.specs.Literal.{Literal}
use Rattle.sat_base.specs.Clauses.{Has, EachVariable}
use Rattle.sat_base.proofs.Clauses.{EachVariable-has}
use Rattle.solver_trail.specs.Trail.{Trail, literals_of}
use Rattle.solver_trail.proofs.Trails.{value_open}
use Rattle.cdcl.proofs.Lines.{named_line}
use Rattle.cdcl.proofs.Guards.{open_here, one_assigned, last_has}
use Rattle.cdcl.proofs.propagation.look.Goals as goal

pub free_literal-requires : goal.free_literal-requires
free_literal-requires c = subst (EachVariable (λ var. var ≤ c.args.values.now.vars)) (sym c.clause.ensures) (named_line (λ var. var ≤ c.args.values.now.vars) c.args.log.now c.args.line c.requires.named)

pub is_true-requires : goal.is_true-requires
is_true-requires c = subst (λ (l : Literal). l.var ≤ c.args.values.now.vars) (sym c.negated.ensures) (EachVariable-has (λ var. var ≤ c.args.values.now.vars) _ c.args.other (named_line (λ var. var ≤ c.args.values.now.vars) c.args.log.now c.args.line c.requires.named) c.requires.has)

pub assign-requires-clause-within : goal.assign-requires-clause-within
assign-requires-clause-within c = EachVariable-has (λ var. var ≤ c.args.values.now.vars) _ c.args.other (named_line (λ var. var ≤ c.args.values.now.vars) c.args.log.now c.args.line c.requires.named) c.requires.has

pub assign-requires-clause-unassigned : goal.assign-requires-clause-unassigned
assign-requires-clause-unassigned c =
    let set = literals_of c.args.values.now.entries in
    value_open c.args.values.now.entries c.args.other.var (open_here set c.args.other c.is_true.result c.negated.result c.requires.not_true c.is_true.ensures c.negated.ensures c.if-is_true.false)

pub returns-clause-propagates : goal.returns-clause-propagates
returns-clause-propagates c =
    let set = literals_of c.args.values.now.entries in
    let unassigned = open_here set c.args.other c.is_true.result c.negated.result c.requires.not_true c.is_true.ensures c.negated.ensures c.if-is_true.false in
    one_assigned c.args.log.now c.args.values.now c.assign.new.self c.args.other c.args.line c.clause.result.now c.requires.is_line c.requires.has unassigned c.clause.ensures c.in_default.ensures.none c.assign.ensures

pub returns-clause-comes : goal.returns-clause-comes
returns-clause-comes c =
    subst (λ (t : Trail). Has (literals_of t.entries) c.args.other) (sym c.assign.ensures) (last_has c.args.values.now.entries (record { literal = c.args.other; level = c.args.values.now.level; reason = Some c.args.line }))
