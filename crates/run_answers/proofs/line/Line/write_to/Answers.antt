use Rattle.std.proofs.Common.{◌≡◌, List, ℕ, ◌++◌, sym, ◌∙◌, subst}
use Rattle.std.specs.Prelude.{codes, OnOk, OnErr}
use Rattle.std.specs.List.{flat_map}
use Rattle.qc_base.specs.Sink.{Took, TookPart}
use Rattle.run_answers.specs.Line.{line_text}
use Rattle.run_answers.proofs.Writing.{on_fault, on_both, on_second, part_of_first, some_text}
use Rattle.run_answers.proofs.line.Line.write_to.Goals as goal

abbrev front : List (List ℕ) → List ℕ
front texts = codes "qccd: " ++ flat_map (λ (t : List ℕ). t) texts

pub returns-in_err-write_front-clause-err : goal.returns-in_err-write_front-clause-err
returns-in_err-write_front-clause-err g c =
    let sink = g.K.Sink in
    let line = some_text c.self.inside.pieces.items c.args.self.now c.self.view_is (sym c.is_empty.ensures ∙ c.if-is_empty.false) in
    on_fault c.from_residual.result
    (subst (λ (l : List ℕ). TookPart (sink.taken c.args.sink.now) (sink.taken c.write_front.new.sink) l) line
    (part_of_first (sink.taken c.args.sink.now) (sink.taken c.write_front.new.sink) (front c.args.self.now) (codes "\n") c.in_err-write_front.ensures.err))

pub returns-clause-ok : goal.returns-clause-ok
returns-clause-ok g c =
    let sink = g.K.Sink in
    let line = some_text c.self.inside.pieces.items c.args.self.now c.self.view_is (sym c.is_empty.ensures ∙ c.if-is_empty.false) in
    subst (λ (l : List ℕ). OnOk c.write_all.result (Took (sink.taken c.args.sink.now) (sink.taken c.write_all.new.sink) l)) line
    (on_both c.write_all.result (sink.taken c.args.sink.now) (sink.taken c.write_front.new.sink) (sink.taken c.write_all.new.sink) (front c.args.self.now) (codes "\n") c.in_ok-write_front.ensures.ok c.write_all.ensures.ok)

pub returns-clause-err : goal.returns-clause-err
returns-clause-err g c =
    let sink = g.K.Sink in
    let line = some_text c.self.inside.pieces.items c.args.self.now c.self.view_is (sym c.is_empty.ensures ∙ c.if-is_empty.false) in
    subst (λ (l : List ℕ). OnErr c.write_all.result (TookPart (sink.taken c.args.sink.now) (sink.taken c.write_all.new.sink) l)) line
    (on_second c.write_all.result (sink.taken c.args.sink.now) (sink.taken c.write_front.new.sink) (sink.taken c.write_all.new.sink) (front c.args.self.now) (codes "\n") c.in_ok-write_front.ensures.ok c.write_all.ensures.err)
