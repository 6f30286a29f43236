use Rattle.std.proofs.Common.{◌<◌, List, length, sym, ◌∙◌, ap, subst}
use Rattle.std.specs.Str.{bytes_eq}
use Rattle.bdl_load.specs.declared.files.LoadedFile.{LoadedFile}
use Rattle.bdl_load.proofs.FilesSoFar.{among_files}
use Rattle.bdl_load.proofs.loader.Loader.is_loaded.Goals as goal

pub returns-then-eq : goal.returns-then-eq
returns-then-eq c =
    let files : List LoadedFile = c.args.self.now.files.items in
    let within : c.loop-file.file-index < length files = subst (λ (files : List LoadedFile). c.loop-file.file-index < length files) c.deref-file-items.ensures.value c.loop-file-test.true in
    let named = ap (bytes_eq c.args.name.now) (sym c.as_str.ensures.value) ∙ sym c.if-eq.ensures in
    let at = rw c.deref-file-items.ensures.value at c.file-item.is in
    sym (among_files c.args.name.now files c.loop-file.file-index c.file-item.result within at named)
