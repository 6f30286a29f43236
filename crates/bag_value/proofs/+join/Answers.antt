use Rattle.std.proofs.Common.{◌≡◌, ◌<◌, ◌≤◌, ◌⊎◌, inl, inr, ◌++◌, drop, length, sym, ap, ◌∙◌, subst, arith}
use Rattle.std.proofs.lemmas.List.{take_rest}
use Rattle.std.specs.declared.cmp.Ordering.TheVariants.{Equal}
use Rattle.bag_model.specs.Joins.{AlikeEntries, Proper, AreProper}
use Rattle.bag_model.specs.Scalars.{scalar_cmp}
use Rattle.bag_model.specs.Values as model
use Rattle.bag_model.specs.Values.{value_count_of_entries, value_count_of_values}
use Rattle.scalar_types.specs.Scalars.{value_of}
use Rattle.bag_value.specs.Vals.{plain_values, plain_entries}
use Rattle.bag_value.proofs.Joining.{entries_alike, entries_whole, entries_proper, entry_falls, within_second, values_alike, values_step, values_whole, values_proper, value_falls}
use Rattle.bag_value.proofs.+join.Goals as goal
use Rattle.bag_value.proofs.+join.Goals.{lists::Entries::joined-then-loop-i-test+else-j-theirs, lists::Entries::joined-else-loop-i-test}

pub lists::Entries::joined-joined-requires : goal.lists::Entries::joined-joined-requires
lists::Entries::joined-joined-requires t c =
    let es = c.as_slice-ours.result.now in
    let fs = c.as_slice-theirs.result.now in
    let e = c.index-ours-i.result in
    let f = c.index-theirs-j.result in
    let a : plain_entries es ≡ c.args.self.now = ap plain_entries c.as_slice-ours.ensures.value ∙ c.self.view_is in
    let b : plain_entries fs ≡ c.args.other.now = ap plain_entries c.as_slice-theirs.ensures.value ∙ c.other.view_is in
    let alike : AlikeEntries (plain_entries es) (plain_entries fs) =
    subst (λ (x : model.Entries). AlikeEntries x (plain_entries fs)) (sym a) (subst (λ (x : model.Entries). AlikeEntries c.args.self.now x) (sym b) c.requires)
    in
    let tie : scalar_cmp (value_of e.key) (value_of f.key) ≡ Equal = sym c.in-Equal.ensures in
    let first : c.loop-i.i < length es = omega arith in
    let second : c.loop-i.j < length fs = omega arith in (
      omega (arith, entry_falls es c.loop-i.i e first c.index-ours-i.is, ap value_count_of_entries a),
      entries_alike es fs c.loop-i.i c.loop-i.j e f first second c.index-ours-i.is c.index-theirs-j.is c.loop-i.items.items c.loop-i.invariant.so_far alike tie,
    )

pub lists::Entries::joined-invariant_of-result : goal.lists::Entries::joined-invariant_of-result
lists::Entries::joined-invariant_of-result t c =
    let es = c.as_slice-ours.result.now in
    let fs = c.as_slice-theirs.result.now in
    let a : plain_entries es ≡ c.args.self.now = ap plain_entries c.as_slice-ours.ensures.value ∙ c.self.view_is in
    let b : plain_entries fs ≡ c.args.other.now = ap plain_entries c.as_slice-theirs.ensures.value ∙ c.other.view_is in
    let over : (length es ≤ c.loop-i.i) ⊎ (length fs ≤ c.loop-i.j) =
    elim c.loop-i-test.branch [ lists::Entries::joined-then-loop-i-test+else-j-theirs w ↦ inr (omega arith) | lists::Entries::joined-else-loop-i-test w ↦ inl (omega arith) ]
    in
    let first : c.append.new.into.items ≡ c.loop-i.items.items ++ drop c.loop-i.i es = c.in_ok-append.ensures ∙ ap (λ l. c.loop-i.items.items ++ l) (take_rest es c.loop-i.i) in
    let second : c.append-2.new.into.items ≡ c.append.new.into.items ++ drop c.loop-i.j fs = c.in_ok-append-2.ensures ∙ ap (λ l. c.append.new.into.items ++ l) (take_rest fs c.loop-i.j) in
    let out : c.append-2.new.into.items ≡ (c.loop-i.items.items ++ drop c.loop-i.i es) ++ drop c.loop-i.j fs = second ∙ ap (λ l. l ++ drop c.loop-i.j fs) first in
    entries_proper c.args.self.now c.args.other.now (plain_entries c.append-2.new.into.items)
    (subst (λ (x : model.Entries). Proper (model.Value.Map x)) c.self.view_is c.self.invariant)
    (subst (λ (x : model.Entries). Proper (model.Value.Map x)) c.other.view_is c.other.invariant)
    c.requires
    (ap plain_entries out ∙ entries_whole c.args.self.now c.args.other.now es fs c.loop-i.items.items c.loop-i.i c.loop-i.j a b over c.loop-i.invariant.so_far)

pub lists::Entries::joined-returns : goal.lists::Entries::joined-returns
lists::Entries::joined-returns t c =
    let es = c.as_slice-ours.result.now in
    let fs = c.as_slice-theirs.result.now in
    let a : plain_entries es ≡ c.args.self.now = ap plain_entries c.as_slice-ours.ensures.value ∙ c.self.view_is in
    let b : plain_entries fs ≡ c.args.other.now = ap plain_entries c.as_slice-theirs.ensures.value ∙ c.other.view_is in
    let over : (length es ≤ c.loop-i.i) ⊎ (length fs ≤ c.loop-i.j) =
    elim c.loop-i-test.branch [ lists::Entries::joined-then-loop-i-test+else-j-theirs w ↦ inr (omega arith) | lists::Entries::joined-else-loop-i-test w ↦ inl (omega arith) ]
    in
    let first : c.append.new.into.items ≡ c.loop-i.items.items ++ drop c.loop-i.i es = c.in_ok-append.ensures ∙ ap (λ l. c.loop-i.items.items ++ l) (take_rest es c.loop-i.i) in
    let second : c.append-2.new.into.items ≡ c.append.new.into.items ++ drop c.loop-i.j fs = c.in_ok-append-2.ensures ∙ ap (λ l. c.append.new.into.items ++ l) (take_rest fs c.loop-i.j) in
    let out : c.append-2.new.into.items ≡ (c.loop-i.items.items ++ drop c.loop-i.i es) ++ drop c.loop-i.j fs = second ∙ ap (λ l. l ++ drop c.loop-i.j fs) first in
    ap plain_entries out ∙ entries_whole c.args.self.now c.args.other.now es fs c.loop-i.items.items c.loop-i.i c.loop-i.j a b over c.loop-i.invariant.so_far

pub lists::Vals::joined-joined-requires : goal.lists::Vals::joined-joined-requires
lists::Vals::joined-joined-requires t c =
    let vs = c.as_slice-ours.result.now in
    let ws = c.as_slice-theirs.result.now in
    let at = c.loop-at.at in
    let first : at < length vs = omega arith in
    let a : plain_values vs ≡ c.args.self.now = ap plain_values c.as_slice-ours.ensures.value ∙ c.self.view_is in (
      omega (arith, value_falls vs at c.index-ours-at.result first c.index-ours-at.is, ap value_count_of_values a),
      (values_alike vs ws at c.index-ours-at.result c.index-theirs-at.result first (within_second vs ws at first c.loop-at.invariant.alike) c.index-ours-at.is c.index-theirs-at.is c.loop-at.invariant.alike).0,
    )

pub lists::Vals::joined-loop-at-preserved : goal.lists::Vals::joined-loop-at-preserved
lists::Vals::joined-loop-at-preserved t c =
    let vs = c.as_slice-ours.result.now in
    let ws = c.as_slice-theirs.result.now in
    let at = c.loop-at.at in
    let v = c.index-ours-at.result in
    let w = c.index-theirs-at.result in
    let first : at < length vs = omega arith in
    let second : at < length ws = within_second vs ws at first c.loop-at.invariant.alike in
    record {
      alike = (values_alike vs ws at v w first second c.index-ours-at.is c.index-theirs-at.is c.loop-at.invariant.alike).1;
      so_far = rw c.in_ok-push.ensures.items (values_step vs ws at v w first second c.index-ours-at.is c.index-theirs-at.is c.loop-at.items.items c.in_ok-joined.field-0 c.in_ok-joined.ensures c.loop-at.invariant.so_far);
    }

pub lists::Vals::joined-invariant_of-result : goal.lists::Vals::joined-invariant_of-result
lists::Vals::joined-invariant_of-result t c =
    let vs = c.as_slice-ours.result.now in
    let ws = c.as_slice-theirs.result.now in
    let a : plain_values vs ≡ c.args.self.now = ap plain_values c.as_slice-ours.ensures.value ∙ c.self.view_is in
    let b : plain_values ws ≡ c.args.other.now = ap plain_values c.as_slice-theirs.ensures.value ∙ c.other.view_is in
    values_proper c.args.self.now c.args.other.now (plain_values c.loop-at.items.items)
    (subst AreProper c.self.view_is c.self.invariant) (subst AreProper c.other.view_is c.other.invariant) c.requires
    (values_whole c.args.self.now c.args.other.now vs ws c.loop-at.items.items c.loop-at.at a b (omega arith) c.loop-at.invariant.so_far)

pub lists::Vals::joined-returns : goal.lists::Vals::joined-returns
lists::Vals::joined-returns t c =
    let vs = c.as_slice-ours.result.now in
    let ws = c.as_slice-theirs.result.now in
    let a : plain_values vs ≡ c.args.self.now = ap plain_values c.as_slice-ours.ensures.value ∙ c.self.view_is in
    let b : plain_values ws ≡ c.args.other.now = ap plain_values c.as_slice-theirs.ensures.value ∙ c.other.view_is in
    values_whole c.args.self.now c.args.other.now vs ws c.loop-at.items.items c.loop-at.at a b (omega arith) c.loop-at.invariant.so_far
