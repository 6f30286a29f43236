use Rattle.std.proofs.Common.{◌≡◌, ◌≤◌, ◌⊎◌, inl, inr, length, sym, arith}
use Rattle.std.proofs.lemmas.List.{take_rest}
use Rattle.std.specs.declared.cmp.Ordering.TheVariants.{Equal}
use Rattle.bag_model.specs.Scalars.{scalar_cmp}
use Rattle.scalar_types.specs.Scalars.{value_of}
use Rattle.bag_value.proofs.Merging.{brought_alike, brought_ends}
use Rattle.bag_value.proofs.merges.brought.Goals as goal
use Rattle.bag_value.proofs.merges.brought.Goals.{then-loop-i-test+else-j-theirs, else-loop-i-test}

pub joined-requires : goal.joined-requires
joined-requires c =
    let e = c.index-ours-i.result in
    let f = c.index-theirs-j.result in
    let tie : scalar_cmp (value_of e.key) (value_of f.key) ≡ Equal = sym c.in-Equal.ensures in
    brought_alike c.args.ours.now c.args.theirs.now c.loop-i.i c.loop-i.j e f (omega arith) (omega arith) c.index-ours-i.is c.index-theirs-j.is c.requires tie

pub returns : goal.returns
returns c =
    let ours = c.args.ours.now in
    let theirs = c.args.theirs.now in
    let over : (length ours ≤ c.loop-i.i) ⊎ (length theirs ≤ c.loop-i.j) = elim c.loop-i-test.branch [ then-loop-i-test+else-j-theirs w ↦ inr (omega arith) | else-loop-i-test w ↦ inl (omega arith) ] in
    rw (c.in_ok-append.ensures, take_rest) (brought_ends ours theirs c.loop-i.news.items c.loop-i.i c.loop-i.j over c.loop-i.invariant.so_far)
