use Rattle.std.proofs.Common.{◌≡◌, Some, None, sym, ap, ◌∙◌}
use Rattle.std.specs.Prelude.{position}
use Rattle.qc_base.specs.MemShelf.{Shelved, content_in, content_of}
use Rattle.qc_base.proofs.Files.{named, file_at, found_none}
use Rattle.qc_base.proofs.mem_shelf.MemShelf.content.Goals as goal

pub returns-in-Some : goal.returns-in-Some
returns-in-Some c =
    let files = c.self.inside.files.items in
    let name = c.args.name.now in
    let at : position (named name) files ≡ Some c.in-Some.place = sym (rw c.deref.ensures.value at c.in-Some.ensures) in
    c.content.ensures ∙ sym (ap content_in (file_at files name c.in-Some.place c.index.result.now at c.index.ensures)) ∙ ap (λ (shelf : Shelved). content_of shelf.files name) c.self.view_is

pub returns-in-None : goal.returns-in-None
returns-in-None c =
    let files = c.self.inside.files.items in
    let name = c.args.name.now in
    let none : position (named name) files ≡ None = sym (rw c.deref.ensures.value at c.in-None.ensures) in
    sym (ap content_in (found_none files name none)) ∙ ap (λ (shelf : Shelved). content_of shelf.files name) c.self.view_is
