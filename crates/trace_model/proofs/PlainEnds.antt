-- Paths that end in a marker, and paths that don't.
use Rattle.std.proofs.Common.{◌≡◌, ◌≢◌, ℕ, List, [], ◌∷◌, ◌++◌, take, Some, refl, sym, ap, ◌∙◌, subst}
use Rattle.std.specs.List.{slice_get}
use Rattle.context_model.specs.Atoms.{Atom}
use Rattle.context_model.specs.Orders.{Path}
use Rattle.context_model.specs.Paths.{last_path_after}
use Rattle.context_model.specs.Ended.{HasMarker}
use Rattle.context_model.specs.Merged.{last_atom}
use Rattle.context_model.proofs.Following.{path_after-marker}
use Rattle.context_model.proofs.Places.{path_of_place, marker_at, marker_place}
use Rattle.context_model.proofs.MergedLaws.{same_end}
use Rattle.context_model.proofs.MergedMarkers.{HasMarkerBehind-path}
use Rattle.bag_model.specs.Readings.{PathsOf}
use Rattle.trace_model.proofs.LayoutFronts.{EndsPlainly}

-- A list with a marker has a path that ends in one, and back.
pub marker_path : (list : List Atom) → HasMarker list → (q : Path) × PathsOf list (q ++ [] ∷ [])
marker_path list m = by (marker_place list m)
  where
    by : (i : ℕ) × (slice_get list i ≡ Some []) → (q : Path) × PathsOf list (q ++ [] ∷ [])
    by s =
        let before : Path = last_path_after [] (take s.0 list) in
        (before, subst (PathsOf list) (path_after-marker before) (path_of_place [] list s.0 [] s.1))

pub marker_back : (list : List Atom) (q : Path) → PathsOf list (q ++ [] ∷ []) → HasMarker list
marker_back list q i = let m = (HasMarkerBehind-path list q).1 i in marker_at list m.place m.there

-- A path doesn't end both ways.
pub plain_or_marker : (p q : Path) (b : ℕ) (bytes : List ℕ) → p ++ (b ∷ bytes) ∷ [] ≡ q ++ [] ∷ [] → ⊥
plain_or_marker p q b bytes e = let same : b ∷ bytes ≡ [] = (same_end p q (b ∷ bytes) [] e).1 in cc

last_end : (p : Path) (a : Atom) → last_atom (p ++ a ∷ []) ≡ a
last_end [] a = refl
last_end (x ∷ []) a = refl
last_end (x ∷ y ∷ p) a = last_end (y ∷ p) a

-- A path ends in no marker exactly where its last atom is none.
pub plain_last : (p : Path) (b : ℕ) (bytes : List ℕ) → last_atom (p ++ (b ∷ bytes) ∷ []) ≢ []
plain_last p b bytes e = let same : b ∷ bytes ≡ [] = sym (last_end p (b ∷ bytes)) ∙ e in cc

pub ends_plainly : (p : Path) → last_atom p ≢ [] → EndsPlainly p
ends_plainly [] n = absurd (n refl)
ends_plainly ([] ∷ []) n = absurd (n refl)
ends_plainly ((b ∷ bytes) ∷ []) n = ([], b, bytes, refl)
ends_plainly (x ∷ y ∷ p) n = by (ends_plainly (y ∷ p) n)
  where
    by : EndsPlainly (y ∷ p) → EndsPlainly (x ∷ y ∷ p)
    by s = (x ∷ s.0, s.1, s.2, ap (λ l. x ∷ l) s.3)
