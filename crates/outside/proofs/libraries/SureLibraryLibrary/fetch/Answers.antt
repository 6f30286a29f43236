use Rattle.outside.proofs.Files.{fetched_found}
use Rattle.outside.proofs.libraries.SureLibraryLibrary.fetch.Goals as goal

pub returns-clause-held : goal.returns-clause-held
returns-clause-held c =
    let content = c.in-Some.content.now in
    let bytes = c.in_ok-bytes.bytes.items in
    fetched_found c.args.name.now c.args.self.now.contents content c.min-len.result bytes c.in-Some.ensures.value
    (cc) (rw c.deref.ensures.value at c.in_ok-bytes.ensures.items)
