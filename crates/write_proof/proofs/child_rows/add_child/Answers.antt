use Rattle.std.proofs.Common.{◌≡◌, ◌+◌, ◌<◌, ℕ, List, [], ◌∷◌, ◌++◌, length, take, get_or, set, refl, sym, ap, ◌∙◌, subst, arith}
use Rattle.std.proofs.lemmas.List.{get_or_read}
use Rattle.write_proof.specs.ChildRows.{AreAdded, child_row_at}
use Rattle.write_proof.proofs.ChildRows.{added_none, added_more}
use Rattle.write_proof.proofs.Reached.{place_in}
use Rattle.write_proof.proofs.child_rows.add_child.Goals as goal

pub loop-parent-init : goal.loop-parent-init
loop-parent-init c = added_none c.args.child c.args.rows.now.items

pub index_mut-requires : goal.index_mut-requires
index_mut-requires c =
    let ks = c.args.parents.now in
    let i = c.loop-parent.parent-index in
    let asked = c.requires (get_or ks i 0) (place_in i ks (get_or ks i 0) (omega arith) refl) in
    let many = c.loop-parent.invariant.as_many in
    let long = c.loop-parent.rows.ok.0 in
    omega (arith, asked, many, long)

pub loop-parent-preserved : goal.loop-parent-preserved
loop-parent-preserved c =
    let ks = c.args.parents.now in
    let i = c.loop-parent.parent-index in
    let k = get_or ks i 0 in
    let now = c.loop-parent.rows.items in
    let within : k < length now = (let asked = c.requires k (place_in i ks k (omega arith) refl) in let many = c.loop-parent.invariant.as_many in omega (arith, asked, many)) in
    let longer : c.push.new.self ≡ child_row_at now k ++ c.args.child ∷ [] =
    c.in_ok-push.ensures.ok ∙ ap (λ (row : List ℕ). row ++ c.args.child ∷ []) (get_or_read now k c.index_mut.result.now within c.index_mut.ensures.value [])
    in
    subst (λ (row : List ℕ). AreAdded (take (i + 1) ks) c.args.child c.args.rows.now.items (set now k row)) (sym longer)
    (added_more c.args.child c.args.rows.now.items now ks i (omega arith) within c.loop-parent.invariant)
