use Rattle.std.proofs.Common.{◌≡◌, ℕ, ◌+◌, List, [], ◌∷◌, ◌++◌, length, refl, sym, ap, ◌∙◌, subst}
use Rattle.std.proofs.lemmas.Bool.{MatchBool-at_true, MatchBool-at_false, both_ways}
use Rattle.sat_base.specs.Literal.{Literal}
use Rattle.sat_base.specs.Clauses.{HasDistinctVariables}
use Rattle.sat_base.specs.Derivation.{Line, IsGood}
use Rattle.sat_base.proofs.Sets.{HasDistinctVariables-ascending}
use Rattle.derivation_check.specs.Progress.{Progress, Accepts}
use Rattle.derivation_check.proofs.Accepting.{malformed_line, bad_line, accepted}
use Rattle.derivation_check.proofs.checker.Checker.take_line.Goals as goal

abbrev line_of : List Literal → List ℕ → Line
line_of clause hints = record { clause = clause; hints = hints }

pub returns-then-not-branch-clause-err : goal.returns-then-not-branch-clause-err
returns-then-not-branch-clause-err c = λ task before word is free accepts.
    let old : Progress = record { clauses = c.self.inside.clauses; axioms = c.self.inside.axioms; vars = c.self.inside.vars; limit = c.self.inside.limit; fed = c.self.inside.fed; place = c.self.inside.place; pending = c.self.inside.pending.items; stopped = c.self.inside.stopped } in
    let number : c.in-Some.number ≡ length c.self.inside.clauses + 1 = c.in-Some.ensures.1 ∙ ap (λ (n : ℕ). n + 1) c.len.ensures in
    let text : c.deref.result.now ≡ c.self.inside.pending.items ++ c.args.bytes.now = c.deref.ensures.value ∙ c.in_ok-extend_from_slice.ensures.items in
    malformed_line task before c.args.bytes.now word old c.in-Some.number (subst (Accepts task before) (sym c.self.view_is) accepts) is free number
    (λ line form e. MatchBool-at_false _ _ c.if-not-branch.true c.in_ok-read_line.ensures line form (text ∙ e))

pub is_good-requires-clause-distinct : goal.is_good-requires-clause-distinct
is_good-requires-clause-distinct c =
    let form = (MatchBool-at_true _ _ c.if-not-branch.false c.in_ok-read_line.ensures).0 in
    subst HasDistinctVariables (sym c.deref-2.ensures.value) (HasDistinctVariables-ascending c.read_line.new.lits.items form.ascending)

pub push-requires : goal.push-requires
push-requires c =
    let form = (MatchBool-at_true _ _ c.if-not-branch.false c.in_ok-read_line.ensures).0 in
    subst HasDistinctVariables (sym c.deref-4.ensures.value) (HasDistinctVariables-ascending c.read_line.new.lits.items form.ascending)

pub returns-then-not-branch-2-clause-err : goal.returns-then-not-branch-2-clause-err
returns-then-not-branch-2-clause-err c = λ task before word is free accepts.
    let old : Progress = record { clauses = c.self.inside.clauses; axioms = c.self.inside.axioms; vars = c.self.inside.vars; limit = c.self.inside.limit; fed = c.self.inside.fed; place = c.self.inside.place; pending = c.self.inside.pending.items; stopped = c.self.inside.stopped } in
    let line : Line = record { clause = c.read_line.new.lits.items; hints = c.read_line.new.hints.items } in
    let number : c.in-Some.number ≡ length c.self.inside.clauses + 1 = c.in-Some.ensures.1 ∙ ap (λ (n : ℕ). n + 1) c.len.ensures in
    let text : c.deref.result.now ≡ c.self.inside.pending.items ++ c.args.bytes.now = c.deref.ensures.value ∙ c.in_ok-extend_from_slice.ensures.items in
    let read = MatchBool-at_true _ _ c.if-not-branch.false c.in_ok-read_line.ensures in
    bad_line task before c.args.bytes.now old c.in-Some.number line (subst (Accepts task before) (sym c.self.view_is) accepts) number read.0 (sym text ∙ read.1)
    (λ good.
    let same : line_of c.deref-2.result.now c.deref-3.result.now ≡ line = λ i. line_of (c.deref-2.ensures.value i) (c.deref-3.ensures.value i) in
    both_ways _ c.if-not-branch-2.true (c.in_ok-is_good.ensures.1 (subst (IsGood c.self.inside.vars c.self.inside.clauses) (sym same) good)))

pub returns-clause-ok : goal.returns-clause-ok
returns-clause-ok c = λ task before word is free accepts.
    let old : Progress = record { clauses = c.self.inside.clauses; axioms = c.self.inside.axioms; vars = c.self.inside.vars; limit = c.self.inside.limit; fed = c.self.inside.fed; place = c.self.inside.place; pending = c.self.inside.pending.items; stopped = c.self.inside.stopped } in
    let line : Line = record { clause = c.read_line.new.lits.items; hints = c.read_line.new.hints.items } in
    let number : c.in-Some.number ≡ length c.self.inside.clauses + 1 = c.in-Some.ensures.1 ∙ ap (λ (n : ℕ). n + 1) c.len.ensures in
    let text : c.deref.result.now ≡ c.self.inside.pending.items ++ c.args.bytes.now = c.deref.ensures.value ∙ c.in_ok-extend_from_slice.ensures.items in
    let read = MatchBool-at_true _ _ c.if-not-branch.false c.in_ok-read_line.ensures in
    let same : line_of c.deref-2.result.now c.deref-3.result.now ≡ line = λ i. line_of (c.deref-2.ensures.value i) (c.deref-3.ensures.value i) in
    accepted task before c.args.bytes.now old _ c.in-Some.number line (subst (Accepts task before) (sym c.self.view_is) accepts) number read.0 (sym text ∙ read.1)
    (subst (IsGood c.self.inside.vars c.self.inside.clauses) same (c.in_ok-is_good.ensures.0 c.if-not-branch-2.false))
    (c.in_ok-push.ensures.ok ∙ ap (λ (lits : List Literal). c.self.inside.clauses ++ lits ∷ []) c.deref-4.ensures.value)
    refl refl c.in-Some-checked_add.ensures.1 c.clear.ensures.items
