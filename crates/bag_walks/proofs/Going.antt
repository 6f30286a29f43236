-- Of the data after a path all but the first go, or all but the last, whatever markers are between
-- them.
use Rattle.std.proofs.Common.{◌≡◌, inl, inr, ◌↔◌, ℕ, ◌<◌, ◌≤◌, List, ◌∷◌, length, Less, Equal, Greater, sym, ap, ◌∙◌, arith}
use Rattle.std.specs.Ordering.{ordering_reverse}
use Rattle.std.proofs.lemmas.Bool.{cases_order}
use Rattle.std.proofs.lemmas.Cmp.{tied_itself}
use Rattle.context_model.specs.Atoms.{Atom}
use Rattle.context_model.specs.Orders.{Path, atom_cmp}
use Rattle.context_model.specs.Paths.{atom_at}
use Rattle.context_model.proofs.OrderLaws.{atoms_total}
use Rattle.context_model.proofs.PlacesOf.{last_is}
use Rattle.bag_model.specs.NormalForm.{Keeping, LeastDatum, GreatestDatum, GivesWay}
use Rattle.bag_walks.specs.Parts.{IsBehind, IsDataPart, Stands}
use Rattle.bag_walks.specs.Gathering.{IsDatumAt}
use Rattle.bag_walks.specs.SupersededPlaces.{GoesAt, IsLater, IsEarlier}
use Rattle.bag_walks.proofs.Inside.{datum_there}
use Rattle.bag_walks.proofs.Bridge.{data_are}
use Rattle.bag_walks.proofs.Gathering.{datum_before}

-- no payload comes before itself, and of two only one comes before the other
not_same : (x y : List ℕ) → 0 ∷ x ≡ 0 ∷ y → atom_cmp x y ≡ Less → ⊥
not_same x y e l =
    let same : x ≡ y = cc in
    let tie : atom_cmp x y ≡ Equal = ap (atom_cmp x) (sym same) ∙ tied_itself atoms_total x in
    let clash : Less ≡ Equal = sym l ∙ tie in
    cc

not_both : (x y : List ℕ) → atom_cmp x y ≡ Less → atom_cmp y x ≡ Less → ⊥
not_both x y l m = let back : atom_cmp x y ≡ Greater = atoms_total.antisymm x y ∙ ap ordering_reverse m in let clash : Less ≡ Greater = sym l ∙ back in cc

module _ (list : List Atom) (q : Path) (from to : ℕ) (behind : IsBehind list q from) (its : IsDataPart list from to) (k : ℕ) (l : from ≤ k) (m : k < to) where
  inside : k < length list
  inside = omega (arith, m, its.part.within)

  -- the atom at the place of a datum
  atom_is : (keep : Keeping) (g : GoesAt keep list q k) → atom_at list k ≡ 0 ∷ g.mine
  atom_is keep g = last_is list k q (0 ∷ g.mine) inside g.is

  -- the other one is in the part too
  other_stands : (keep : Keeping) (g : GoesAt keep list q k) → Stands list (0 ∷ g.other) from to
  other_stands keep g = (data_are list q from to g.other behind its).0 g.stands

  datum_of : (place : ℕ) (x : List ℕ) → place < to → atom_at list place ≡ 0 ∷ x → IsDatumAt list place
  datum_of place x n e = (omega (arith, n, its.part.within), (x, e))

  -- two data of the part, one that goes and one that doesn't
  goes : (keep : Keeping) (mine other : List ℕ) (place : ℕ) → atom_at list k ≡ 0 ∷ mine → from ≤ place → place < to → atom_at list place ≡ 0 ∷ other → GivesWay keep mine other → GoesAt keep list q k
  goes keep mine other place e f g d way = record {
    mine = mine;
    other = other;
    is = datum_there list q from to k mine behind its.part l m e;
    stands = (data_are list q from to other behind its).1 (record { place = place; from_on = f; up_to = g; atom = d });
    way = way;
  }

  pub least_goes : GoesAt LeastDatum list q k ↔ IsLater list from k
  least_goes = (λ g. there g (other_stands LeastDatum g), λ s. back s)
    where
      there : (g : GoesAt LeastDatum list q k) → Stands list (0 ∷ g.other) from to → IsLater list from k
      there g s = elim (cases_order s.place k) [
        | inl same ↦ absurd (not_same g.other g.mine (sym s.atom ∙ ap (atom_at list) same ∙ atom_is LeastDatum g) g.way)
        | inr (inl less) ↦ record { datum = datum_of k g.mine m (atom_is LeastDatum g); earlier = s.place; from_on = s.from_on; before = less; first = datum_of s.place g.other s.up_to s.atom }
        | inr (inr more) ↦ absurd (not_both g.mine g.other (datum_before list q from to k s.place g.mine g.other behind its.part l more s.up_to (atom_is LeastDatum g) s.atom) g.way)
      ]

      back : IsLater list from k → GoesAt LeastDatum list q k
      back s =
          let mine = (s.datum).1 in
          let other = (s.first).1 in
          goes LeastDatum mine.0 other.0 s.earlier mine.1 s.from_on (omega (arith, s.before, m)) other.1
          (datum_before list q from to s.earlier k other.0 mine.0 behind its.part s.from_on s.before m other.1 mine.1)

  pub greatest_goes : GoesAt GreatestDatum list q k ↔ IsEarlier list to k
  greatest_goes = (λ g. there g (other_stands GreatestDatum g), λ s. back s)
    where
      there : (g : GoesAt GreatestDatum list q k) → Stands list (0 ∷ g.other) from to → IsEarlier list to k
      there g s = elim (cases_order s.place k) [
        | inl same ↦ absurd (not_same g.mine g.other (sym (atom_is GreatestDatum g) ∙ ap (atom_at list) (sym same) ∙ s.atom) g.way)
        | inr (inl less) ↦ absurd (not_both g.other g.mine (datum_before list q from to s.place k g.other g.mine behind its.part s.from_on less m s.atom (atom_is GreatestDatum g)) g.way)
        | inr (inr more) ↦ record { datum = datum_of k g.mine m (atom_is GreatestDatum g); later = s.place; behind = more; up_to = s.up_to; last = datum_of s.place g.other s.up_to s.atom }
      ]

      back : IsEarlier list to k → GoesAt GreatestDatum list q k
      back s =
          let mine = (s.datum).1 in
          let other = (s.last).1 in
          goes GreatestDatum mine.0 other.0 s.later mine.1 (omega (arith, l, s.behind)) s.up_to other.1
          (datum_before list q from to k s.later mine.0 other.0 behind its.part l s.behind s.up_to mine.1 other.1)
