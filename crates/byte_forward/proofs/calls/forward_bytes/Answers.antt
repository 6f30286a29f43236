use Rattle.std.proofs.Common.{◌≡◌, ◌+◌, ◌<◌, ◌≤◌, List, [], ◌∷◌, length, false, true, refl, sym, ap, ◌∙◌, subst, arith}
use Rattle.std.proofs.lemmas.Bool.{false≢true}
use Rattle.context_model.specs.Framing.{frames, has_long, size_of, AreWithin}
use Rattle.context_model.specs.GreedyMerge.{greedy_merge}
use Rattle.context_model.specs.Orders.{atom_cmp}
use Rattle.context_model.specs.Trimmed.{trimmed}
use Rattle.byte_forward.specs.Calls.{IsCutMergeOf}
use Rattle.byte_forward.specs.Contexts.{IsFaultAt}
use Rattle.byte_forward.specs.Cutting.{IsUnderWay}
use Rattle.byte_forward.specs.Room.{WritesBytes}
use Rattle.byte_forward.proofs.Fitting.{merged_narrow, trimmed_narrow}
use Rattle.byte_forward.proofs.Made.{writes_weaker, cut_same, merged_atoms, merge_of_two, cut_merge_fits, narrow_frames, writes_whole}
use Rattle.byte_forward.proofs.calls.forward_bytes.Goals as goal
use Rattle.byte_forward.proofs.calls.forward_bytes.Goals.{then-first_long, else-first_long}

pub put_merge-requires : goal.put_merge-requires
put_merge-requires c =
    let a = c.in_ok-first_long.ensures.found in
    let b = c.in_ok-second_long.ensures.found in
    let whole = c.if-fits_whole.ensures refl in
    let own = narrow_frames a.0 c.args.first.now a.1 whole.1 in
    let other = narrow_frames b.0 c.args.second.now b.1 whole.2 in (
      a.0,
      b.0,
      subst (λ form. AreWithin form a.0 × (c.args.first.now ≡ frames form a.0)) (sym whole.0) own,
      subst (λ form. AreWithin form b.0 × (c.args.second.now ≡ frames form b.0)) (sym whole.0) other,
      refl,
      omega (arith, whole.3, c.min.ensures),
    )

pub returns-then-fits_whole : goal.returns-then-fits_whole
returns-then-fits_whole c =
    let a = c.in_ok-first_long.ensures.found in
    let b = c.in_ok-second_long.ensures.found in
    let whole = c.if-fits_whole.ensures refl in
    let own = narrow_frames a.0 c.args.first.now a.1 whole.1 in
    let other = narrow_frames b.0 c.args.second.now b.1 whole.2 in
    writes_whole c.args.form a.0 b.0 c.args.first.now c.args.second.now a.1 b.1 whole.0 whole.1 whole.2 c.args.budget (omega (arith, whole.3, c.min.ensures))
    c.args.room.now c.put_merge.new.room c.put_merge.result
    (c.put_merge.ensures a.0 b.0
    (subst (λ form. AreWithin form a.0 × (c.args.first.now ≡ frames form a.0)) (sym whole.0) own)
    (subst (λ form. AreWithin form b.0 × (c.args.second.now ≡ frames form b.0)) (sym whole.0) other))

pub write_cut-requires : goal.write_cut-requires
write_cut-requires c =
    let form = c.args.form in
    let budget = c.args.budget in
    let a = c.in_ok-first_long.ensures.found in
    let b = c.in_ok-second_long.ensures.found in
    let merged = greedy_merge atom_cmp a.0 b.0 in
    let come = c.of.ensures a.0 b.0 a.1 b.1 in
    let cut = c.of-cut.ensures.list merged come (merged_atoms a.0 b.0 c.args.first.now c.args.second.now a.1 b.1) in
    let size = cut_merge_fits a.0 b.0 c.args.first.now c.args.second.now a.1 b.1 form budget c.requires in
    let asked = ap (λ f. size_of f (trimmed form merged budget)) c.of-cut.ensures.form in (
      trimmed form merged budget,
      cut,
      λ none. (
          let narrow : (c.in_ok-first_long.first_long ≡ false) × (c.in_ok-second_long.second_long ≡ false) = elim c.if-first_long.branch [
            | then-first_long w ↦ absurd (false≢true (sym none ∙ w.write_cut-is ∙ w.if-first_long.true))
            | else-first_long w ↦ (w.if-first_long.false, sym w.write_cut-is ∙ none)
          ] in
          trimmed_narrow form merged budget (merged_narrow a.0 b.0 (sym a.2 ∙ narrow.0) (sym b.2 ∙ narrow.1))
          ),
      omega (arith, size, asked),
    )

pub returns : goal.returns
returns c =
    let form = c.args.form in
    let budget = c.args.budget in
    let inputs = c.args.first.now ∷ c.args.second.now ∷ [] in
    let a = c.in_ok-first_long.ensures.found in
    let b = c.in_ok-second_long.ensures.found in
    let merged = greedy_merge atom_cmp a.0 b.0 in
    let come = c.of.ensures a.0 b.0 a.1 b.1 in
    let cut = c.of-cut.ensures.list merged come (merged_atoms a.0 b.0 c.args.first.now c.args.second.now a.1 b.1) in
    let is = merge_of_two a.0 b.0 c.args.first.now c.args.second.now a.1 b.1 in
    let written = subst (λ f. WritesBytes f (IsUnderWay [] c.of-cut.result) (λ _ _ _. ⊥) c.args.room.now c.write_cut.new.room c.write_cut.result) c.of-cut.ensures.form c.write_cut.ensures in
    writes_weaker form (IsUnderWay [] c.of-cut.result) (IsCutMergeOf form budget inputs) (λ _ _ _. ⊥) (IsFaultAt inputs) c.args.room.now c.write_cut.new.room c.write_cut.result
    (λ list f. (merged, is, cut_same c.of-cut.result list (trimmed form merged budget) f cut)) (λ _ _ _ none. absurd none) written
