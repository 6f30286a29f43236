use Rattle.std.proofs.Common.{◌≡◌, List, length, take, set, get_or, length-set, ◌+◌, Vec, Global, sym, subst, ap, ◌∙◌}
use Rattle.std.proofs.lemmas.List.{take_more, take_all}
use Rattle.std.proofs.lemmas.Option.{slice_get-get_or}
use Rattle.bdl_check.specs.declared.sizes.Size.{Size}
use Rattle.bdl_check.specs.DeclarationViews.{placed_of}
use Rattle.bdl_check.specs.Recursion.{uses}
use Rattle.bdl_check.specs.Sizes.{AreKnown}
use Rattle.bdl_check.proofs.Soundness.{faultless_passes, numbered_passes}
use Rattle.bdl_check.proofs.OrderSizes.{AreDone, known_uses, done_more, done_none, all_done, none_done}
use Rattle.bdl_check.proofs.sizes.sizes_of.Goals as goal
use Rattle.bdl_check.proofs.sizes.sizes_of.Goals.{in-Some, in_default}

pub loop-number-init : goal.loop-number-init
loop-number-init c = record {
  count = sym c.in_ok-sizes.sizes.ok.0 ∙ c.in_ok-sizes.ensures.len ∙ c.len.ensures;
  done = none_done c.args.declarations.now c.in_ok-sizes.sizes.items;
}

pub decl_size-requires-clause-known : goal.decl_size-requires-clause-known
decl_size-requires-clause-known c =
    let ds = c.args.declarations.now in
    subst (λ (sizes : List Size). AreKnown ds sizes (uses c.in-Some.declaration.decl.now)) (sym c.deref.ensures.value)
    (known_uses ds c.loop-number.sizes.items c.args.order.now c.loop-number.number-index _ (placed_of c.in-Some.declaration) c.requires.order
    c.loop-number.invariant.done (slice_get-get_or c.args.order.now c.loop-number.number-index 0 c.loop-number-test.true) (sym c.in-Some.ensures))

pub decl_size-requires-clause-passes : goal.decl_size-requires-clause-passes
decl_size-requires-clause-passes c = numbered_passes c.args.declarations.now _ (placed_of c.in-Some.declaration)
    (faultless_passes c.args.declarations.now c.requires.sound) (sym c.in-Some.ensures)

pub loop-number-preserved : goal.loop-number-preserved
loop-number-preserved c =
    let ds = c.args.declarations.now in
    let i = c.loop-number.number-index in
    let order = c.args.order.now in
    let number = get_or order i 0 in
    let before = c.loop-number.sizes.items in
    let more = take_more order i 0 c.loop-number-test.true in
    elim c.match-get.branch [
      | in-Some w ↦ (
          let written : c.match-get.sizes.items ≡ set before number w.decl_size.result = ap (λ (v : Vec Size Global). v.items) w.sizes-is in
          record {
            count = ap length written ∙ length-set before number w.decl_size.result ∙ c.loop-number.invariant.count;
            done = subst (λ (sizes : List Size). AreDone ds sizes (take (i + 1) order)) (sym written)
                (subst (AreDone ds (set before number w.decl_size.result)) (sym more)
                (done_more ds before (take i order) number (placed_of w.in-Some.declaration) w.decl_size.result (sym w.in-Some.ensures)
                w.decl_size.ensures c.loop-number.invariant.done));
          }
          )
      | in_default w ↦ (
          let same : c.match-get.sizes.items ≡ before = ap (λ (v : Vec Size Global). v.items) w.sizes-is in
          record {
            count = ap length same ∙ c.loop-number.invariant.count;
            done = subst (λ (sizes : List Size). AreDone ds sizes (take (i + 1) order)) (sym same)
                (subst (AreDone ds before) (sym more)
                (done_none ds before (take i order) number (sym w.in_default.ensures) c.loop-number.invariant.done));
          }
          )
    ]

pub returns : goal.returns
returns c =
    let ds = c.args.declarations.now in
    all_done ds c.loop-number.sizes.items c.args.order.now c.requires.order c.loop-number.invariant.count
    (subst (AreDone ds c.loop-number.sizes.items) (take_all c.loop-number.number-index c.args.order.now c.loop-number-test.false)
    c.loop-number.invariant.done)
