use Rattle.std.proofs.Common.{◌≡◌, ℕ, ◌<◌, length, slice_index, sym, ap, ◌∙◌, subst, arith}
use Rattle.std.proofs.lemmas.List.{take_all}
use Rattle.par_ranks.proofs.Putting.{ArePutFrom, none_put, one_put, all_put, popped, emptied}
use Rattle.par_ranks.proofs.rows.put.Goals as goal

pub loop-list-init : goal.loop-list-init
loop-list-init c =
    let made = c.args.made.items in
    record { few = omega arith; front = sym (take_all (length made) made (omega arith)); put = none_put c.args.steps.now made c.args.lists.now.items c.requires.as_many }

pub loop-list-preserved : goal.loop-list-preserved
loop-list-preserved c =
    let made = c.args.made.items in
    let rest = c.pop.new.self.items in
    let steps = c.args.steps.now in
    let old = c.args.lists.now.items in
    let lists = c.loop-list.lists.items in
    let before = c.loop-list.invariant in
    let own = popped c.loop-list.made.items made rest c.in-Some.list before.few before.front c.in-Some.ensures.items in
    let place : c.len.result ≡ length rest = c.len.ensures ∙ c.pop.new.self.ok.0 in
    let less = own.one_less in
    let many = c.requires.as_many in
    let few = before.few in
    let here : length rest < length steps = omega (arith, less, few, many) in
    let within = c.requires.within c.len.result 0 (omega (arith, place, here)) in
    let as_many = before.put.as_many in
    record {
      few = own.few;
      front = own.front;
      put = one_put (length rest) steps made old lists (slice_index steps c.len.result) c.in-Some.list here as_many (ap (slice_index steps) place) (omega (arith, within, as_many)) own.own
          (subst (λ (m : ℕ). ArePutFrom m steps made old lists) less before.put);
    }

pub returns : goal.returns
returns c =
    let none : length c.loop-list.made.items ≡ 0 = sym c.loop-list.made.ok.0 ∙ emptied c.pop.result c.loop-list.made.len c.in_default.is c.pop.ensures.variant in
    all_put c.args.steps.now c.args.made.items c.args.lists.now.items c.loop-list.lists.items
    (subst (λ (m : ℕ). ArePutFrom m c.args.steps.now c.args.made.items c.args.lists.now.items c.loop-list.lists.items) none c.loop-list.invariant.put)
