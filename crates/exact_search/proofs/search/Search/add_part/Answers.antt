use Rattle.std.proofs.Common.{arith}
use Rattle.exact_search.proofs.Tasks.{part_names, vars_grow}
use Rattle.exact_search.proofs.Adding.{vars_after, added}
use Rattle.exact_search.proofs.search.Search.add_part.Goals as goal

pub add_clauses-requires : goal.add_clauses-requires
add_clauses-requires c =
    let setting = c.args.task.now.setting in
    let count = vars_after setting c.args.bound c.vars_up_to.result c.vars_before.result c.args.self.now.solver c.add_vars.new.self c.requires.refuted.vars c.vars_up_to.ensures.count c.vars_before.ensures c.in_ok-add_vars.ensures.ok in
    part_names setting c.args.bound c.add_vars.new.self.trail.vars c.in_ok-part.part count c.in_ok-part.ensures c.vars_up_to.ensures.names

pub returns : goal.returns
returns c =
    let setting = c.args.task.now.setting in
    let old = c.args.self.now.solver in
    let count = vars_after setting c.args.bound c.vars_up_to.result c.vars_before.result old c.add_vars.new.self c.requires.refuted.vars c.vars_up_to.ensures.count c.vars_before.ensures c.in_ok-add_vars.ensures.ok in
    added c.args.task.now c.args.bound _ old c.add_vars.new.self c.add_clauses.new.solver c.args.self.now.shown c.in_ok-part.part c.requires.refuted c.in_ok-part.ensures
    c.in_ok-add_vars.ensures.ok c.in_ok-add_clauses.ensures.log c.in_ok-add_clauses.ensures.vars count c.vars_up_to.ensures.names

pub overflow_sub-vars : goal.overflow_sub-vars
overflow_sub-vars c = omega (arith, c.vars_before.ensures, c.vars_up_to.ensures.count, vars_grow c.args.task.now.setting c.args.bound)

pub add_vars-requires : goal.add_vars-requires
add_vars-requires c =
    let setting = c.args.task.now.setting in
    let small = c.vars_up_to.ensures.small in
    omega (arith, c.requires.refuted.vars, c.vars_before.ensures, c.vars_up_to.ensures.count, small, vars_grow setting c.args.bound)
