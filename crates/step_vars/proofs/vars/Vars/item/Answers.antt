use Rattle.std.proofs.Common.{◌+◌, ◌<◌, ◌≤◌, ap, ◌∙◌, arith}
use Rattle.step_vars.specs.Numbering.{before}
use Rattle.step_vars.specs.Encoding.{VarsValue}
use Rattle.step_vars.proofs.Inverse.{item_none_zero, item_none_late, item_here, found_number, number_in_to_item}
use Rattle.step_vars.proofs.vars.Vars.item.Goals as goal

pub returns-then-var-eq0-clause-item : goal.returns-then-var-eq0-clause-item
returns-then-var-eq0-clause-item c = item_none_zero c.args.self.now c.args.var c.if-var-eq0.true

pub returns-then-var-eq0-clause-only : goal.returns-then-var-eq0-clause-only
returns-then-var-eq0-clause-only c = λ item e.
    item_none_zero c.args.self.now c.args.var c.if-var-eq0.true ∙ number_in_to_item c.args.self.now item c.args.var e

pub returns-then-var-last-clause-only : goal.returns-then-var-last-clause-only
returns-then-var-last-clause-only c = λ item e.
    let vars = c.args.self.now in
    let steps = ap (λ (v : VarsValue). before vars.numbering (v.steps + 1)) c.self.view_is in
    let late : before vars.numbering (vars.steps + 1) < c.args.var = omega (arith, c.count-last.ensures.count, steps, c.if-var-last.true) in
    item_none_late vars c.args.var late ∙ number_in_to_item vars item c.args.var e

pub returns : goal.returns
returns c =
    let vars = c.args.self.now in
    let steps = ap (λ (v : VarsValue). before vars.numbering (v.steps + 1)) c.self.view_is in
    let within : c.args.var ≤ before vars.numbering (vars.steps + 1) = omega (arith, c.count-last.ensures.count, steps, c.if-var-last.false) in
    let here = item_here vars c.args.var c.part_at.result c.place_at.result c.item_at.result (omega arith) within
    c.part_at.ensures c.place_at.ensures c.item_at.ensures.at in
    record {
      item = here;
      found = found_number vars c.args.var c.item_at.result c.item_at.ensures.own here;
      only = λ item e. here ∙ number_in_to_item vars item c.args.var e;
    }
