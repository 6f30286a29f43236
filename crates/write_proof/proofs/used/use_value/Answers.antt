use Rattle.std.proofs.Common.{inl, inr, ◌∷◌, map, refl, sym, subst}
use Rattle.bag_value.specs.Vals.{plain}
use Rattle.write_proof.specs.Together.{AreOfOneShape, HaveOneJoin, IsSaidBy}
use Rattle.write_proof.proofs.used.use_value.Goals as goal

pub add_part-requires : goal.add_part-requires
add_part-requires c = subst (λ v. AreOfOneShape (plain v ∷ map plain c.args.used.now.parts.items)) (sym c.in_ok-own.ensures) c.requires

pub returns : goal.returns
returns c =
    let own = plain c.args.value.now in
    let parts = c.args.used.now.parts.items in
    let more : IsSaidBy (plain c.args.value.now) (map plain c.args.used.now.parts.items) → ⊥ = λ said. (let bad = c.in_ok-is_said_by_parts.ensures.1 (subst (λ l. IsSaidBy own (map plain l)) (sym c.deref.ensures.value) said) in cc (bad, c.if-branch.false)) in
    inl (more, c.in_ok-push.ensures.items, subst (λ v. HaveOneJoin (plain v ∷ map plain parts) (map plain c.add_part.new.parts.items)) c.in_ok-own.ensures c.in_ok-add_part.ensures)

pub returns-then-branch : goal.returns-then-branch
returns-then-branch c = inr (subst (λ l. IsSaidBy (plain c.args.value.now) (map plain l)) c.deref.ensures.value (c.in_ok-is_said_by_parts.ensures.0 c.if-branch.true), refl, refl)
