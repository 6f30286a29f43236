-- Of the data after a path all after the first give way, or all before the last.
use Rattle.std.proofs.Common.{◌≡◌, ◌↔◌, inl, inr, ℕ, ◌+◌, ◌<◌, ◌≤◌, List, ◌∷◌, length, Some, sym, ap, ◌∙◌, subst, arith}
use Rattle.std.proofs.lemmas.Bool.{cases_order}
use Rattle.context_model.specs.Atoms.{Atom}
use Rattle.context_model.specs.Orders.{Path, path_cmp, IsIn}
use Rattle.context_model.specs.Paths.{path_at, paths}
use Rattle.context_model.specs.WellFormed.{IsWellFormed}
use Rattle.context_model.proofs.PlacesOf.{path_there, paths_rise, last_is}
use Rattle.bag_model.specs.NormalForm.{Keeping, LeastDatum, GreatestDatum}
use Rattle.bag_walks.specs.Parts.{IsBehind, IsDataPart, Stands}
use Rattle.bag_walks.specs.Gathering.{IsDatumAt, IsFirstDatum, IsLastDatum}
use Rattle.bag_walks.specs.SupersededPlaces.{IsLater, IsEarlier}
use Rattle.bag_walks.proofs.Bridge.{data_are, no_less}
use Rattle.bag_walks.proofs.Inside.{datum_there}
use Rattle.bag_walks.proofs.Going.{least_goes, greatest_goes}
use Rattle.bag_normal.specs.Known.{GivesWayAt}
use Rattle.bag_normal.specs.Data.{IsDatumBetween}

-- Two places with one path are one.
one_place : (list : List Atom) (i j : ℕ) → IsWellFormed list → i < length list → j < length list → path_at list i ≡ path_at list j → i ≡ j
one_place list i j w l m same = elim (cases_order i j) [
  | inl e ↦ e
  | inr (inl less) ↦ absurd (no_less (path_at list i) (ap (path_cmp (path_at list i)) same ∙ paths_rise list w i j less m))
  | inr (inr more) ↦ absurd (no_less (path_at list j) (ap (path_cmp (path_at list j)) (sym same) ∙ paths_rise list w j i more l))
]

module _ (list : List Atom) (q : Path) (from to : ℕ) (behind : IsBehind list q from) (its : IsDataPart list from to) where
  -- What gives way at q is in the part.
  in_part : (keep : Keeping) (k : ℕ) → GivesWayAt keep list q k → (from ≤ k) × (k < to)
  in_part keep k g =
      let s : Stands list (0 ∷ g.goes.mine) from to = (data_are list q from to g.goes.mine behind its).0 (subst (λ p. IsIn p (paths list)) g.goes.is (path_there list k g.within)) in
      let inside : s.place < length list = omega (arith, s.up_to, its.part.within) in
      let same : k ≡ s.place = one_place list k s.place behind.well_formed g.within inside (g.goes.is ∙ sym (datum_there list q from to s.place g.goes.mine behind its.part s.from_on s.up_to s.atom)) in
      (omega (arith, same, s.from_on), omega (arith, same, s.up_to))

  -- The first datum is kept, and all later ones give way.
  pub later_give_way : (first : ℕ) → IsFirstDatum list from to (Some first) → (k : ℕ) → IsDatumBetween list (first + 1) to k ↔ GivesWayAt LeastDatum list q k
  later_give_way first is k = (there, back)
    where
      there : IsDatumBetween list (first + 1) to k → GivesWayAt LeastDatum list q k
      there d = record {
        within = d.datum.0;
        goes = (least_goes list q from to behind its k (omega (arith, is.0, d.from_on)) d.up_to).1
            (record { datum = d.datum; earlier = first; from_on = is.0; before = omega (arith, d.from_on); first = is.2 });
      }

      back : GivesWayAt LeastDatum list q k → IsDatumBetween list (first + 1) to k
      back g =
          let (l, m) = in_part LeastDatum k g in
          let late : IsLater list from k = (least_goes list q from to behind its k l m).0 g.goes in
          record {
            from_on = elim (cases_order late.earlier first) [
              | inl same ↦ omega (arith, same, late.before)
              | inr (inl less) ↦ absurd (is.3 late.earlier late.from_on less late.first)
              | inr (inr more) ↦ omega (arith, more, late.before)
            ];
            up_to = m;
            datum = late.datum;
          }

  pub none_give_way : (keep : Keeping) → ((k : ℕ) → from ≤ k → k < to → IsDatumAt list k → ⊥) → (k : ℕ) → GivesWayAt keep list q k → ⊥
  none_give_way keep none k g =
      let (l, m) = in_part keep k g in
      none k l m (g.within, (g.goes.mine, last_is list k q (0 ∷ g.goes.mine) g.within g.goes.is))

  -- The last datum is kept, and all earlier ones give way.
  pub earlier_give_way : (last : ℕ) → IsLastDatum list from to (Some last) → (k : ℕ) → IsDatumBetween list from last k ↔ GivesWayAt GreatestDatum list q k
  earlier_give_way last is k = (there, back)
    where
      there : IsDatumBetween list from last k → GivesWayAt GreatestDatum list q k
      there d = record {
        within = d.datum.0;
        goes = (greatest_goes list q from to behind its k d.from_on (omega (arith, is.1, d.up_to))).1
            (record { datum = d.datum; later = last; behind = d.up_to; up_to = is.1; last = is.2 });
      }

      back : GivesWayAt GreatestDatum list q k → IsDatumBetween list from last k
      back g =
          let (l, m) = in_part GreatestDatum k g in
          let early : IsEarlier list to k = (greatest_goes list q from to behind its k l m).0 g.goes in
          record {
            from_on = l;
            up_to = elim (cases_order early.later last) [
              | inl same ↦ omega (arith, same, early.behind)
              | inr (inl less) ↦ omega (arith, less, early.behind)
              | inr (inr more) ↦ absurd (is.3 early.later more early.up_to early.last)
            ];
            datum = early.datum;
          }
