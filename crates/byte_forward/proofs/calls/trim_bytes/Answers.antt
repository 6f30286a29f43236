use Rattle.std.proofs.Common.{◌≡◌, ◌+◌, ◌<◌, ◌≤◌, List, [], ◌∷◌, length, false, true, refl, sym, ap, ◌∙◌, subst, arith}
use Rattle.context_model.specs.Framing.{has_long, size_of}
use Rattle.context_model.specs.GreedyMerge.{greedy_merge}
use Rattle.context_model.specs.Orders.{atom_cmp}
use Rattle.context_model.specs.Trimmed.{trimmed}
use Rattle.context_model.proofs.Rising.{greedy-right_empty}
use Rattle.byte_forward.specs.Calls.{IsTrimOf}
use Rattle.byte_forward.specs.Contexts.{IsFaultAt}
use Rattle.byte_forward.specs.Cutting.{IsUnderWay}
use Rattle.byte_forward.specs.Merging.{IsToCome}
use Rattle.byte_forward.specs.Room.{WritesBytes}
use Rattle.byte_forward.proofs.Fitting.{trimmed_narrow, trimmed_less, context_len, size_le}
use Rattle.byte_forward.proofs.Made.{no_bytes, writes_own, writes_weaker, cut_same}
use Rattle.byte_forward.proofs.calls.trim_bytes.Goals as goal

pub put_bytes-requires : goal.put_bytes-requires
put_bytes-requires c =
    let whole = c.if-fits_as_is.ensures refl in
    omega (arith, whole.1, c.min.ensures)

pub returns-then-fits_as_is : goal.returns-then-fits_as_is
returns-then-fits_as_is c =
    let a = c.in_ok-long.ensures.found in
    let whole = c.if-fits_as_is.ensures refl in
    writes_own c.args.form a.0 c.args.context.now a.1 whole.0 c.args.budget (omega (arith, whole.1, c.min.ensures)) c.args.room.now c.put_bytes.new.room c.put_bytes.result c.put_bytes.ensures

pub write_cut-requires : goal.write_cut-requires
write_cut-requires c =
    let form = c.args.form in
    let budget = c.args.budget in
    let a = c.in_ok-long.ensures.found in
    let come : IsToCome c.of.result a.0 = subst (IsToCome c.of.result) (greedy-right_empty atom_cmp a.0) (c.of.ensures a.0 [] a.1 no_bytes) in
    let cut = c.of-cut.ensures.list a.0 come a.1.0 in
    let less = trimmed_less form a.0 budget c.requires in
    let size = size_le form a.0 a.1.0 in
    let count = context_len a.0 c.args.context.now a.1 in
    let asked = ap (λ f. size_of f (trimmed form a.0 budget)) c.of-cut.ensures.form in
    (trimmed form a.0 budget, cut, λ none. trimmed_narrow form a.0 budget (sym a.2 ∙ none), omega (arith, asked))

pub returns : goal.returns
returns c =
    let form = c.args.form in
    let budget = c.args.budget in
    let inputs = c.args.context.now ∷ [] in
    let a = c.in_ok-long.ensures.found in
    let come : IsToCome c.of.result a.0 = subst (IsToCome c.of.result) (greedy-right_empty atom_cmp a.0) (c.of.ensures a.0 [] a.1 no_bytes) in
    let cut = c.of-cut.ensures.list a.0 come a.1.0 in
    let written = subst (λ f. WritesBytes f (IsUnderWay [] c.of-cut.result) (λ _ _ _. ⊥) c.args.room.now c.write_cut.new.room c.write_cut.result) c.of-cut.ensures.form c.write_cut.ensures in
    writes_weaker form (IsUnderWay [] c.of-cut.result) (IsTrimOf form budget c.args.context.now) (λ _ _ _. ⊥) (IsFaultAt inputs) c.args.room.now c.write_cut.new.room c.write_cut.result
    (λ list f. (a.0, a.1, cut_same c.of-cut.result list (trimmed form a.0 budget) f cut)) (λ _ _ _ none. absurd none) written
