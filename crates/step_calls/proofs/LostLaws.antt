-- The context of one marker.
use Rattle.std.proofs.Common.{◌≡◌, inl, inr, ℕ, List, [], ◌∷◌, ◌++◌, refl, lit≤}
use Rattle.context_model.specs.Atoms.{Atom, AreAtoms}
use Rattle.context_model.specs.Orders.{Path}
use Rattle.context_model.specs.WellFormed.{IsWellFormed}
use Rattle.context_model.specs.ContextFault.{IsContextOf}
use Rattle.context_model.specs.Ended.{IsEnded}
use Rattle.context_model.specs.Framing.{base_128}
use Rattle.context_model.specs.Kinds.Kind.{Marker}
use Rattle.context_model.specs.Varints.{unsigned_form, unsigned_tail, unsigned_varint}
use Rattle.context_model.proofs.MergedLaws.{same_end}
use Rattle.bag_model.specs.Readings.{PathsOf, SaysValues}
use Rattle.bag_model.specs.Shapes.{Nodes}
use Rattle.bag_model.specs.Values.{bottoms}
use Rattle.bag_model.proofs.OfShape.{ReadsEach-none}
use Rattle.bag_model.proofs.PathSets.{SameBelow}
use Rattle.bag_model.proofs.Unions.{ReadsEach-alike}
use Rattle.step_calls.specs.Laws.{lost, NothingIsEnded}

atoms : AreAtoms lost
atoms = (lit≤ tt, tt)

well_formed : IsWellFormed lost
well_formed = record { kinds = (record { kind = Marker; fits = tt; spelled = refl }, tt); levels = tt; order = tt }

in_one : IsContextOf lost (0 ∷ [])
unfolding base_128
in_one = (atoms, well_formed, refl)

in_two : IsContextOf lost (255 ∷ 255 ∷ 255 ∷ 2 ∷ 0 ∷ 0 ∷ 0 ∷ 0 ∷ 0 ∷ 0 ∷ 0 ∷ 1 ∷ 0 ∷ [])
unfolding base_128 unsigned_varint unsigned_form unsigned_tail
in_two = (atoms, well_formed, refl)

-- No other path than the marker's is one of it.
alone : SameBelow [] (λ _. ⊥) (PathsOf lost)
alone = ((λ p b bytes none. absurd none), λ p b bytes i. by p b bytes i)
  where
    by : (p : Path) (b : ℕ) (bytes : List ℕ) → PathsOf lost (p ++ (b ∷ bytes) ∷ []) → ⊥
    by p b bytes (inl e) = let same : b ∷ bytes ≡ [] = (same_end p [] (b ∷ bytes) [] e).1 in cc same
    by p b bytes (inr none) = none

nothing_ended : (s : Path) → IsEnded lost s → ⊥
nothing_ended s (inl none) = none (inl refl)
nothing_ended s (inr (q, i, beyond)) = i

pub nothing_is_ended : NothingIsEnded
nothing_is_ended = record {
  one = in_one;
  two = in_two;
  ended = λ s _ e. nothing_ended s e;
  bottom = λ nodes. ReadsEach-alike nodes (λ _. ⊥) (PathsOf lost) [] (bottoms nodes) alone (ReadsEach-none nodes (λ _. ⊥) [] (λ r none. none));
}
