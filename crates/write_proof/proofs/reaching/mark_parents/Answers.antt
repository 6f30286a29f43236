use Rattle.std.proofs.Common.{◌≡◌, ◌<◌, ℕ, List, Option, Some, None, length, get_or, set, refl, arith, length-set, get_or-set_same, get_or-set_other}
use Rattle.write_proof.specs.Reaching.{child_at}
use Rattle.write_proof.proofs.Reached.{place_in, marked_more}
use Rattle.write_proof.proofs.reaching.mark_parents.Goals as goal

here : (children : List (Option ℕ)) (k : ℕ) (child : ℕ) → k < length children → child_at (set children k (Some child)) k ≡ Some child
here children k child l = get_or-set_same children k (Some child) None l

apart : (children : List (Option ℕ)) (k w : ℕ) (child : ℕ) → (w ≡ k → ⊥) → child_at (set children k (Some child)) w ≡ child_at children w
apart children k w child other = get_or-set_other children k w (Some child) None other

pub loop-parent-preserved : goal.loop-parent-preserved
loop-parent-preserved c =
    let ks = c.args.parents.now in
    let i = c.loop-parent.parent-index in
    let k = get_or ks i 0 in
    let now = c.loop-parent.children.items in
    let within : k < length now = (let asked = c.requires k (place_in i ks k (omega arith) refl) in let many = c.loop-parent.invariant.as_many in omega (arith, asked, many)) in
    marked_more c.args.child c.args.children.now.items ks i k now (set now k (Some c.args.child)) (omega arith) refl c.loop-parent.invariant (length-set now k (Some c.args.child))
    (here now k c.args.child within) (λ w other. apart now k w c.args.child other)

pub index_mut-requires : goal.index_mut-requires
index_mut-requires c =
    let ks = c.args.parents.now in
    let i = c.loop-parent.parent-index in
    let asked = c.requires (get_or ks i 0) (place_in i ks (get_or ks i 0) (omega arith) refl) in
    let many = c.loop-parent.invariant.as_many in
    let long = c.loop-parent.children.ok.0 in
    omega (arith, asked, many, long)
