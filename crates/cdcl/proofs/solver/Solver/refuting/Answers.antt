use Rattle.std.proofs.Common.{◌≡◌, ℕ, ◌+◌, ◌-◌, [], length, get_or, sym, ap, ◌∙◌, subst, arith}
use Rattle.std.proofs.lemmas.List.{get_or_default, length-map}
use Rattle.sat_base.specs.Clauses.{clause_at}
use Rattle.sat_base.specs.Derivation.{Refutes}
use Rattle.derivation_log.specs.Log.{Derived, clauses_of}
use Rattle.cdcl.specs.Solver.{SolverState}
use Rattle.cdcl.proofs.solver.Solver.refuting.Goals as goal

pub returns-clause-none : goal.returns-clause-none
returns-clause-none g c = λ (k, clause, within, is, refutes).
    let lines = c.args.self.now.log.derived in
    let count : c.derived-index-end.result ≡ length lines = c.derived-index-end.ensures ∙ ap (λ (s : SolverState). length s.log.derived) c.self.view_is in
    let test = c.loop-index-test.false in
    let len = length-map lines (λ (line : Derived). line.clause) in
    let one : k + 1 - 1 ≡ k = omega arith in
    let read : clause ≡ clause_at (clauses_of lines) (k + 1) = sym is ∙ get_or_default (clauses_of lines) k clause [] within ∙ ap (λ (j : ℕ). get_or (clauses_of lines) j []) (sym one) in
    c.loop-index.invariant k (omega arith) (subst (Refutes c.args.goal) read refutes)
