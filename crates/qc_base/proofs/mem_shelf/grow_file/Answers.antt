use Rattle.std.proofs.Common.{◌≡◌, Some, None, sym}
use Rattle.std.specs.Prelude.{position}
use Rattle.qc_base.proofs.Files.{named, grown_at, grown_end}
use Rattle.qc_base.proofs.mem_shelf.grow_file.Goals as goal

pub returns-in_ok-grow-in-Some-clause-ok : goal.returns-in_ok-grow-in-Some-clause-ok
returns-in_ok-grow-in-Some-clause-ok c =
    let files = c.args.files.now.items in
    let name = c.args.name.now in
    let at : position (named name) files ≡ Some c.in-Some.place = sym (rw c.deref.ensures.value at c.in-Some.ensures) in
    grown_at files name c.in-Some.place c.args.bytes c.index_mut.result.now c.grow.new.self at c.index_mut.ensures.value c.in_ok-grow-in-Some.ensures.ok

pub returns-in_ok-push-in-None-clause-ok : goal.returns-in_ok-push-in-None-clause-ok
returns-in_ok-push-in-None-clause-ok c =
    let files = c.args.files.now.items in
    let name = c.args.name.now in
    let none : position (named name) files ≡ None = sym (rw c.deref.ensures.value at c.in-None.ensures) in
    rw c.in_ok-push-in-None.ensures.items (grown_end files name c.args.bytes c.in_ok-file-in-None.file none c.in_ok-file-in-None.ensures)
