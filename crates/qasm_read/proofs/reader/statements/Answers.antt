use Rattle.std.proofs.Common.{◌≡◌, List, None, Some, Ok, sym, subst}
use Rattle.qasm_read.specs.declared.statement.Placed.{Placed}
use Rattle.qasm_read.specs.Forms.{each, place_of}
use Rattle.qasm_read.specs.Reading.{statement_at}
use Rattle.qasm_read.specs.Expressions.{exp_at}
use Rattle.qasm_read.specs.Program.{AnswersAfter}
use Rattle.qasm_read.proofs.Readers.{Took}
use Rattle.qasm_read.proofs.ProgramLaws.{other_form, cut_placed, short_statement, one_more, ends_well, ends_large, stops_large, stops_here}
use Rattle.qasm_read.proofs.reader.statements.Goals as goal

pub loop-at-smaller : goal.loop-at-smaller
loop-at-smaller g c = short_statement c.loop-at.tokens c.in-Ok.statement c.statement.new.tokens c.in-Ok.ensures

pub loop-at-preserved : goal.loop-at-preserved
loop-at-preserved g c =
    let here : place_of c.loop-at.tokens.placed ≡ Some c.in-Some.at = cc in
    subst (λ (ss : List Placed). Took (each cut_placed ss) c.args.tokens.now c.statement.new.tokens) (sym c.in_ok-push-in-Ok.ensures.items)
    (one_more c.loop-at.statements.items c.in-Ok.statement c.in-Some.at c.args.tokens.now c.loop-at.tokens c.statement.new.tokens c.loop-at.invariant here c.in-Ok.ensures)

pub returns-in-Some-large : goal.returns-in-Some-large
returns-in-Some-large g c =
    let marked : c.loop-at.tokens.large ≡ Some c.in-Some-large.at = cc in
    stops_large c.loop-at.statements.items c.in-Some-large.at c.args.tokens.now c.loop-at.tokens c.requires c.loop-at.invariant (other_form c.in-Err-OtherForm.field-0 c.statement.new.tokens (statement_at exp_at c.loop-at.tokens) c.in-Err-OtherForm.field-0-is c.in-Err-OtherForm.ensures) marked

pub returns-in-None : goal.returns-in-None
returns-in-None g c =
    let here : place_of c.loop-at.tokens.placed ≡ Some c.in-Some.at = cc in
    let none : c.loop-at.tokens.large ≡ None = cc in
    stops_here c.loop-at.statements.items c.in-Some.at c.args.tokens.now c.loop-at.tokens c.requires c.loop-at.invariant (other_form c.in-Err-OtherForm.field-0 c.statement.new.tokens (statement_at exp_at c.loop-at.tokens) c.in-Err-OtherForm.field-0-is c.in-Err-OtherForm.ensures) none here

pub returns-in-Some-large-2 : goal.returns-in-Some-large-2
returns-in-Some-large-2 g c =
    let end : place_of c.loop-at.tokens.placed ≡ None = cc in
    let marked : c.loop-at.tokens.large ≡ Some c.in-Some-large-2.at = cc in
    ends_large c.loop-at.statements.items c.in-Some-large-2.at c.args.tokens.now c.loop-at.tokens c.requires c.loop-at.invariant end marked

pub returns-in-None-large : goal.returns-in-None-large
returns-in-None-large g c =
    let end : place_of c.loop-at.tokens.placed ≡ None = cc in
    let none : c.loop-at.tokens.large ≡ None = cc in
    subst (λ (ss : List Placed). AnswersAfter c.args.tokens.now.placed (Ok ss)) (sym c.from_vec.ensures) (ends_well c.loop-at.statements.items c.args.tokens.now c.loop-at.tokens c.requires c.loop-at.invariant end none)
