use Rattle.std.proofs.Common.{◌≡◌, ◌+◌, ◌-◌, take, drop, refl, length-append, length-drop, arith}
use Rattle.std.proofs.lemmas.List.{drop_all}
use Rattle.outside.proofs.Pieces.{front_read}
use Rattle.outside.proofs.in_memory.SureSourceSource.read.Goals as goal

pub returns-clause-bytes : goal.returns-clause-bytes
returns-clause-bytes c =
    let content = c.args.self.now.content.items in
    let at = c.args.self.now.at in
    let count = c.min-count.result in
    let new = c.copy_from_slice.new.self in
    let after : new ≡ take (at + count - at) (drop at content) = rw c.deref.ensures.value at c.copy_from_slice.ensures.after in (
      front_read content c.args.into.now new at count (at + count - at) (omega arith) refl after,
      λ none room. drop_all (at + count) content (omega (arith, length-append new (drop count c.args.into.now), length-drop count c.args.into.now)),
    )
