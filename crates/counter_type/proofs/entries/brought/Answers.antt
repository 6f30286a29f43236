use Rattle.std.proofs.Common.{◌≡◌, ◌≤◌, ◌⊎◌, inl, inr, length, sym, arith}
use Rattle.std.proofs.lemmas.List.{take_rest}
use Rattle.std.specs.declared.cmp.Ordering.TheVariants.{Equal}
use Rattle.context_model.specs.KeyedMerge.{brings}
use Rattle.context_model.proofs.MergeLaws.{IsIn-keys_of}
use Rattle.context_model.proofs.MergeSteps.{brings_rest}
use Rattle.context_model.proofs.Search.{IsAt-place}
use Rattle.counter_type.proofs.EntryLaws.{tied_alike}
use Rattle.counter_type.proofs.entries.brought.Goals as goal
use Rattle.counter_type.proofs.entries.brought.Goals.{then-loop-i-test+else-j-theirs, else-loop-i-test}

pub compare-requires-clause-a_fits : goal.compare-requires-clause-a_fits
compare-requires-clause-a_fits g c =
    let e = c.index-ours-i.result in
    let ours = c.args.ours.now in
    c.requires.ours.keys.fit e.0 (IsIn-keys_of ours e.0 e.1 (IsAt-place ours c.loop-i.i e (omega arith) c.index-ours-i.is))

pub compare-requires-clause-b_fits : goal.compare-requires-clause-b_fits
compare-requires-clause-b_fits g c =
    let e = c.index-theirs-j.result in
    let theirs = c.args.theirs.now in
    c.requires.theirs.keys.fit e.0 (IsIn-keys_of theirs e.0 e.1 (IsAt-place theirs c.loop-i.j e (omega arith) c.index-theirs-j.is))

pub join_of-requires : goal.join_of-requires
join_of-requires g c =
    let keys = c.args.keys.now in
    let e = c.index-ours-i.result in
    let d = c.index-theirs-j.result in
    let ours = c.args.ours.now in
    let theirs = c.args.theirs.now in
    let tie : g.K.Keys.order keys e.0 d.0 ≡ Equal = sym c.in-Equal.ensures in
    tied_alike (g.K.Keys.fits keys) (g.K.Keys.order keys) (g.met.K.Keys.exact keys) g.L.Lattice.proper g.L.Lattice.alike
    ours theirs c.requires.ours c.requires.theirs c.requires.alike e.0 d.0 e.1 d.1
    (IsAt-place ours c.loop-i.i e (omega arith) c.index-ours-i.is) (IsAt-place theirs c.loop-i.j d (omega arith) c.index-theirs-j.is) tie

pub returns : goal.returns
returns g c =
    let ours = c.args.ours.now in
    let theirs = c.args.theirs.now in
    let order = g.K.Keys.order c.args.keys.now in
    let joined = g.L.Lattice.joined in
    let over : (length ours ≤ c.loop-i.i) ⊎ (length theirs ≤ c.loop-i.j) = elim c.loop-i-test.branch [ then-loop-i-test+else-j-theirs w ↦ inr (omega arith) | else-loop-i-test w ↦ inl (omega arith) ] in
    rw (c.in_ok-append.ensures, take_rest) (brings_rest order joined ours theirs c.loop-i.i c.loop-i.j c.loop-i.news.items (brings order joined ours theirs) over c.loop-i.invariant.so_far)
