use Rattle.std.proofs.Common.{◌≡◌, ◌+◌, ◌++◌, Some, take, refl, sym, ◌∙◌, subst, arith}
use Rattle.std.specs.Prelude.{position, ◌==◌}
use Rattle.std.proofs.lemmas.List.{take-append-drop}
use Rattle.std.proofs.lemmas.List.Quantifiers.{position-Some}
use Rattle.std.proofs.lemmas.Result.{err_from_is_err_and}
use Rattle.derivation_check.specs.Progress.{Progress}
use Rattle.derivation_check.proofs.Taking.{TookUpTo, line_word, line_free, took_more, took_all, fault_after, free_none}
use Rattle.derivation_check.proofs.checker.Checker.take_lines.Goals as goal

pub returns-in_err-take_line-clause-err : goal.returns-in_err-take_line-clause-err
returns-in_err-take_line-clause-err c =
    let rest = c.loop-end.rest.now in
    let line = c.split_at.result.0.now in
    let found : position (λ byte. byte == 10) rest ≡ Some c.in-Some.end = sym c.in-Some.ensures in
    let parts : rest ≡ line ++ c.split_at.result.1.now = sym (take-append-drop (c.in-Some.end + 1) rest) ∙ (λ i. (sym c.split_at.ensures.front i) ++ (sym c.split_at.ensures.back i)) in
    let is = line_word rest line c.split_at.result.1.now c.in-Some.end found (let inside = position-Some (λ byte. byte == 10) rest c.in-Some.end 0 found in omega (arith, inside.0)) c.split_at.ensures.front in
    let p = err_from_is_err_and c.from_residual.result c.from_residual.ensures.1 in
    rw (p.1, p.2) (fault_after c.args.self.now c.loop-end.self c.args.bytes.now rest line c.split_at.result.1.now (take c.in-Some.end rest) _ c.loop-end.invariant parts is (line_free rest c.in-Some.end found) c.in_err-take_line.ensures.err)

pub loop-end-preserved : goal.loop-end-preserved
loop-end-preserved c =
    let rest = c.loop-end.rest.now in
    let line = c.split_at.result.0.now in
    let found : position (λ byte. byte == 10) rest ≡ Some c.in-Some.end = sym c.in-Some.ensures in
    let parts : rest ≡ line ++ c.split_at.result.1.now = sym (take-append-drop (c.in-Some.end + 1) rest) ∙ (λ i. (sym c.split_at.ensures.front i) ++ (sym c.split_at.ensures.back i)) in
    let is = line_word rest line c.split_at.result.1.now c.in-Some.end found (let inside = position-Some (λ byte. byte == 10) rest c.in-Some.end 0 found in omega (arith, inside.0)) c.split_at.ensures.front in
    took_more c.args.self.now c.loop-end.self c.take_line.new.self c.args.bytes.now rest line c.split_at.result.1.now (take c.in-Some.end rest) c.loop-end.invariant parts is (line_free rest c.in-Some.end found) c.in_ok-take_line.ensures.ok c.take_line.ensures.same

pub returns-clause-ok : goal.returns-clause-ok
returns-clause-ok c =
    let now : Progress = record { clauses = c.self.inside.clauses; axioms = c.self.inside.axioms; vars = c.self.inside.vars; limit = c.self.inside.limit; fed = c.self.inside.fed; place = c.self.inside.place; pending = c.self.inside.pending.items; stopped = c.self.inside.stopped } in
    let rest = c.loop-end.rest.now in
    took_all c.args.self.now now _ c.args.bytes.now rest (subst (TookUpTo c.args.self.now c.args.bytes.now rest) (sym c.self.view_is) c.loop-end.invariant) (free_none rest (sym c.in_default.ensures)) refl refl refl refl c.in_ok-extend_from_slice.ensures.items
