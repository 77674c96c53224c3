use Rattle.std.proofs.Common.{◌≡◌, Some, None, sym, refl}
use Rattle.std.specs.Prelude.{position}
use Rattle.std.proofs.lemmas.Result.{on_ok_weaker}
use Rattle.qc_base.proofs.Files.{named, file_at, found_none, put_at}
use Rattle.qc_base.proofs.mem_shelf.put_file.Goals as goal

pub returns-in-Some-clause-ok : goal.returns-in-Some-clause-ok
returns-in-Some-clause-ok c =
    let files = c.args.files.now.items in
    let name = c.args.name.now in
    let at : position (named name) files ≡ Some c.in-Some.place = sym (rw c.deref.ensures.value at c.in-Some.ensures) in
    on_ok_weaker c.put.result (put_at files name c.args.piece.now c.in-Some.place c.args.from c.index_mut.result.now c.put.new.self at c.index_mut.ensures.value) c.put.ensures.ok

pub returns-in-Some-clause-full : goal.returns-in-Some-clause-full
returns-in-Some-clause-full c =
    let files = c.args.files.now.items in
    let name = c.args.name.now in
    let at : position (named name) files ≡ Some c.in-Some.place = sym (rw c.deref.ensures.value at c.in-Some.ensures) in
    rw (file_at files name c.in-Some.place c.index_mut.result.now at c.index_mut.ensures.value) c.put.ensures.full

pub returns-in-None-clause-full : goal.returns-in-None-clause-full
returns-in-None-clause-full c =
    let files = c.args.files.now.items in
    let name = c.args.name.now in
    let none : position (named name) files ≡ None = sym (rw c.deref.ensures.value at c.in-None.ensures) in
    rw (found_none files name none) ((λ _. tt), (λ _. refl))
