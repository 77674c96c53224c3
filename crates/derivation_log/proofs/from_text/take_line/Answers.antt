use Rattle.std.proofs.Common.{◌≡◌, ℕ, ◌+◌, ◌<◌, ◌^◌, List, ◌++◌, length, map, refl, sym, ap, ◌∙◌, subst, arith}
use Rattle.std.proofs.lemmas.Bool.{MatchBool-at_true, MatchBool-at_false}
use Rattle.sat_base.specs.Literal.{Literal}
use Rattle.sat_base.specs.Clauses.{HasDistinctVariables}
use Rattle.sat_base.specs.Derivation.{Line, IsGood}
use Rattle.sat_base.proofs.Sets.{HasDistinctVariables-ascending}
use Rattle.derivation_log.specs.declared.line_id.LineId.{LineId}
use Rattle.derivation_log.specs.Log.{Derived, clauses_of, Follows}
use Rattle.derivation_log.specs.Reading.{id_of, HasNoLine}
use Rattle.derivation_log.proofs.FromText.{no_feed, no_such_line, line_follows}
use Rattle.derivation_log.proofs.from_text.take_line.Goals as goal

abbrev line_of : List Literal → List ℕ → Line
line_of clause hints = record { clause = clause; hints = hints }

abbrev derived_with : List Literal → List LineId → Derived
derived_with clause hints = record { clause = clause; hints = hints }

pub returns-in_default-split_line-clause-err : goal.returns-in_default-split_line-clause-err
returns-in_default-split_line-clause-err c =
    let number : c.in-Some.number ≡ length c.args.reader.now.clauses + 1 = c.in-Some.ensures.1 ∙ ap (λ (n : ℕ). n + 1) c.len.ensures in
    let small : c.in-Some.number < 2 ^ 64 = omega (arith, c.in-Some.ensures.0, c.in-Some.ensures.1) in
    (refl, subst (λ (n : ℕ). HasNoLine c.args.vars n c.args.bytes.now) number (no_feed c.args.vars c.in-Some.number c.args.bytes.now c.requires.few small (λ word rest free e. c.in_default-split_line.ensures.only word rest free e)))

pub returns-then-not-branch-clause-err : goal.returns-then-not-branch-clause-err
returns-then-not-branch-clause-err c =
    let number : c.in-Some.number ≡ length c.args.reader.now.clauses + 1 = c.in-Some.ensures.1 ∙ ap (λ (n : ℕ). n + 1) c.len.ensures in
    let small : c.in-Some.number < 2 ^ 64 = omega (arith, c.in-Some.ensures.0, c.in-Some.ensures.1) in (
      refl,
      subst (λ (n : ℕ). HasNoLine c.args.vars n c.args.bytes.now) number (no_such_line c.args.vars c.in-Some.number c.args.bytes.now c.in-Some-split_line.line.now c.requires.few small
          (λ word rest free e. c.in-Some-split_line.ensures.only word rest free e) (λ line form e. MatchBool-at_false _ _ c.if-not-branch.true c.in_ok-read_line.ensures line form e)),
    )

pub is_good-requires-clause-distinct : goal.is_good-requires-clause-distinct
is_good-requires-clause-distinct c =
    let form = (MatchBool-at_true _ _ c.if-not-branch.false c.in_ok-read_line.ensures).0 in
    subst HasDistinctVariables (sym c.deref.ensures.value) (HasDistinctVariables-ascending c.read_line.new.lits.items form.ascending)

pub push-requires : goal.push-requires
push-requires c =
    let form = (MatchBool-at_true _ _ c.if-not-branch.false c.in_ok-read_line.ensures).0 in
    subst HasDistinctVariables (sym c.deref-4.ensures.value) (HasDistinctVariables-ascending c.read_line.new.lits.items form.ascending)

pub add-requires : goal.add-requires
add-requires c =
    let log = c.args.log.now in
    let line : Line = line_of c.read_line.new.lits.items c.read_line.new.hints.items in
    let form = (MatchBool-at_true _ _ c.if-not-branch.false c.in_ok-read_line.ensures).0 in
    let same : line_of c.deref.result.now c.deref-2.result.now ≡ line = λ i. line_of (c.deref.ensures.value i) (c.deref-2.ensures.value i) in
    let judged : IsGood c.args.vars c.args.reader.now.clauses line = subst (IsGood c.args.vars c.args.reader.now.clauses) same (c.in_ok-is_good.ensures.0 c.if-not-branch-2.false) in
    let good : IsGood c.args.vars (log.axioms ++ clauses_of log.derived) line = subst (λ (cs : List (List Literal)). IsGood c.args.vars cs line) c.requires.clauses judged in
    let clause : c.deref-5.result.now ≡ c.read_line.new.lits.items = c.deref-5.ensures.value in
    let hints : c.deref-6.result.now ≡ map (id_of (length log.axioms)) c.read_line.new.hints.items = c.deref-6.ensures.value ∙ c.in_ok-name_lines.ensures ∙ (λ i. map (id_of (c.axioms.ensures.axioms i)) (c.deref-3.ensures.value i)) in
    let is : derived_with c.deref-5.result.now c.deref-6.result.now ≡ derived_with c.read_line.new.lits.items (map (id_of (length log.axioms)) c.read_line.new.hints.items) = λ i. derived_with (clause i) (hints i) in
    subst (Follows log) (sym is) (line_follows log.axioms log.derived c.args.vars line form.ascending good)
