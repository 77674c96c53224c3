use Rattle.std.proofs.Common.{arith}
use Rattle.run_stages.proofs.Searches.{least_found, none_found, spent_found, covers_spent}
use Rattle.run_stages.proofs.exact.ending_of.Goals as goal

pub shortest-requires-clause-fewer : goal.shortest-requires-clause-fewer
shortest-requires-clause-fewer c = (rw c.in-Least.is at c.requires.found).fewer

pub shortest-requires-clause-few : goal.shortest-requires-clause-few
shortest-requires-clause-few c =
    let found = rw c.in-Least.is at c.requires.found in
    omega (arith, c.requires.few, found.within)

pub returns-in-Least : goal.returns-in-Least
returns-in-Least c =
    least_found c.found_lines_certify.ensures c.args.setting.now c.args.max c.args.budget c.in-Least.schedule c.in-Least.log c.in-Least.axioms c.in-Least.lines c.shortest.result
    c.requires.few (rw c.in-Least.is at c.requires.found) c.shortest.ensures

pub unfound-requires : goal.unfound-requires
unfound-requires c = (rw c.in-NoneWithin.is at c.requires.found).refutation.over.covers

pub returns-in-NoneWithin : goal.returns-in-NoneWithin
returns-in-NoneWithin c =
    none_found c.args.setting.now c.args.max c.args.budget c.in-NoneWithin.log c.in-NoneWithin.lines c.unfound.result
    (rw c.in-NoneWithin.is at c.requires.found) c.unfound.ensures

pub unfound-requires-in-Spent : goal.unfound-requires-in-Spent
unfound-requires-in-Spent c =
    covers_spent c.args.setting.now c.args.max c.args.budget c.in-Spent.log c.in-Spent.bound c.derived-lines.result (rw c.in-Spent.is at c.requires.found) c.derived-lines.ensures

pub returns-in-Spent : goal.returns-in-Spent
returns-in-Spent c =
    spent_found c.args.setting.now c.args.max c.args.budget c.in-Spent.log c.in-Spent.bound c.derived-lines.result c.unfound-in-Spent.result
    (rw c.in-Spent.is at c.requires.found) c.derived-lines.ensures c.unfound-in-Spent.ensures
