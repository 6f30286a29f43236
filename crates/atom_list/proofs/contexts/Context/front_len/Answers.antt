use Rattle.std.proofs.Common.{◌≡◌, ℕ, ◌==◌, List, [], length, slice_get, option_copied, Some, true, false, sym, ap, ◌∙◌, arith, inl, inr, eqb-true, eq-eqb, below_more}
use Rattle.std.proofs.lemmas.List.{nil_from_length}
use Rattle.context_model.specs.Ended.{front_of}
use Rattle.context_model.proofs.Places.{length-front_of}
use Rattle.atom_list.proofs.contexts.Context.front_len.Goals as goal

pub returns-then-is_empty : goal.returns-then-is_empty
returns-then-is_empty c =
    let list : List (List ℕ) = c.list-list.result.now in
    let there : slice_get list c.loop-at.at ≡ Some c.unwrap.result.now = sym c.get.ensures.value ∙ ap option_copied c.unwrap.ensures in
    let none : c.unwrap.result.now ≡ [] = nil_from_length c.unwrap.result.now (eqb-true (length c.unwrap.result.now) 0 (sym c.if-is_empty.ensures)) in
    length-front_of list c.loop-at.at (omega (arith, c.len-at-end.ensures.len, c.loop-at-test.true)) c.loop-at.invariant (inl (there ∙ ap Some none))
    ∙ ap (λ v. length (front_of v)) c.list-list.ensures.list

empty_not : (atom : List ℕ) → false ≡ (length atom == 0) → atom ≡ [] → ⊥
empty_not atom e h = let t : (length atom == 0) ≡ true = eq-eqb (length atom) 0 (ap length h) in let clash : false ≡ true = e ∙ t in cc

pub loop-at-preserved : goal.loop-at-preserved
loop-at-preserved c = below_more _ _ c.loop-at.invariant
    (λ e.
    let there : slice_get c.list-list.result.now c.loop-at.at ≡ Some c.unwrap.result.now = sym c.get.ensures.value ∙ ap option_copied c.unwrap.ensures in
    let one : Some c.unwrap.result.now ≡ Some [] = sym there ∙ e in
    let atom : c.unwrap.result.now ≡ [] = cc in
    empty_not c.unwrap.result.now c.if-is_empty.ensures atom)

pub returns : goal.returns
returns c =
    c.len.ensures.len
    ∙ length-front_of c.list-list.result.now (length c.list-list.result.now) (omega arith) (λ k h. c.loop-at.invariant k (omega (arith, c.loop-at-test.false, c.len-at-end.ensures.len))) (inr (omega arith))
    ∙ ap (λ v. length (front_of v)) c.list-list.ensures.list
