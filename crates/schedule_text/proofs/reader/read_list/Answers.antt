use Rattle.std.proofs.Common.{◌≡◌, List, [], ◌∷◌, ◌++◌, ap, sym, subst, ◌∙◌}
use Rattle.std.proofs.lemmas.Bool.{false≢true}
use Rattle.qc_base.specs.declared.ids.Qubit.{Qubit}
use Rattle.schedule_text.specs.Progress.{Opens, head_text}
use Rattle.schedule_text.proofs.Follows.{list_sticks, next_fits, order_more, head_more}
use Rattle.schedule_text.proofs.reader.read_list.Goals as goal

pub returns-in_default-clause-grown : goal.returns-in_default-clause-grown
returns-in_default-clause-grown c =
    list_sticks c.args.trap.now c.args.circuit.now c.args.lists.now.items c.args.zone.now c.args.bytes.now c.requires.trap c.requires.circuit c.requires.opened c.requires.next c.requires.within
    (λ list rest there e opened. absurd (rw c.in_default.is at (c.in_ok-list.ensures.only list rest (next_fits c.args.trap.now c.args.circuit.now c.args.lists.now.items c.args.zone.now list c.requires.next opened) there e)))

pub is_open-requires-clause-qubits : goal.is_open-requires-clause-qubits
is_open-requires-clause-qubits c =
    let there = rw c.in-Some.is at c.in_ok-list.ensures.there in
    order_more c.args.circuit.now c.args.lists.now.items c.deref.result.now c.in-Some.list (c.deref.ensures.value ∙ c.in_ok-push.ensures.items) c.requires.opened.qubits there

pub returns-then-branch-clause-grown : goal.returns-then-branch-clause-grown
returns-then-branch-clause-grown c =
    let found = rw c.in-Some.is at c.in_ok-list.ensures.found in
    ap (λ (lists : List (List Qubit)). head_text c.args.trap.now c.args.circuit.now lists ++ c.in-Some.rest.now) c.in_ok-push.ensures.items
    ∙ head_more c.args.trap.now c.args.circuit.now c.args.lists.now.items c.args.zone.now c.in-Some.list c.args.bytes.now c.in-Some.rest.now c.requires.next found

pub returns-else-branch-clause-grown : goal.returns-else-branch-clause-grown
returns-else-branch-clause-grown c =
    list_sticks c.args.trap.now c.args.circuit.now c.args.lists.now.items c.args.zone.now c.args.bytes.now c.requires.trap c.requires.circuit c.requires.opened c.requires.next c.requires.within
    (λ list rest there e opened.
    let fits = next_fits c.args.trap.now c.args.circuit.now c.args.lists.now.items c.args.zone.now list c.requires.next opened in
    let read = rw c.in-Some.is at (c.in_ok-list.ensures.only list rest fits there e) in
    let lists : c.deref.result.now ≡ c.args.lists.now.items ++ list ∷ [] =
    c.deref.ensures.value ∙ c.in_ok-push.ensures.items ∙ ap (λ (l : List Qubit). c.args.lists.now.items ++ l ∷ []) read.0 in
    let opens = c.in_ok-is_open.ensures.1 (subst (Opens c.args.trap.now c.args.circuit.now) (sym lists) opened) in
    absurd (false≢true (rw c.if-branch.false at opens)))
