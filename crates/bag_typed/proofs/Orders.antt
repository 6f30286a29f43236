-- What is below one header, and below another that comes later.
use Rattle.std.proofs.Common.{◌≡◌, ℕ, ◌<◌, List, [], ◌∷◌, ◌++◌, length, Less, sym, ap, ◌∙◌, subst}
use Rattle.std.specs.Ordering.{ordering_then}
use Rattle.std.proofs.lemmas.Cmp.{tied_itself}
use Rattle.context_model.specs.Atoms.{Atom}
use Rattle.context_model.specs.Orders.{Path, atom_cmp, path_cmp, IsIn}
use Rattle.context_model.specs.Paths.{path_at, paths}
use Rattle.context_model.specs.WellFormed.{IsWellFormed}
use Rattle.context_model.proofs.OrderLaws.{atoms_total, paths_total}
use Rattle.context_model.proofs.PlacesOf.{path_there, paths_rise, front_is_path}
use Rattle.bag_model.specs.Readings.{PathsOf}
use Rattle.bag_walks.proofs.Bridge.{no_less}

-- The path begins with q and the header h.
abbrev pub StandsUnder : Path → Atom → Path → Type 0
StandsUnder q h p = (r : Path) × (p ≡ q ++ h ∷ r)

-- Below a lesser header all paths come first.
pub lesser_header : (q r s : Path) (h g : Atom) → atom_cmp h g ≡ Less → path_cmp (q ++ h ∷ r) (q ++ g ∷ s) ≡ Less
lesser_header [] r s h g less = ap (λ o. ordering_then o (path_cmp r s)) less
lesser_header (x ∷ q) r s h g less = ap (λ o. ordering_then o (path_cmp (q ++ h ∷ r) (q ++ g ∷ s))) (tied_itself atoms_total x) ∙ lesser_header q r s h g less

-- So nothing below a greater header is before what is below a lesser one.
pub no_greater_before : (list : List Atom) (q : Path) (h g : Atom) (k place : ℕ) → IsWellFormed list → place < length list → StandsUnder q h (path_at list place)
    → StandsUnder q g (path_at list k) → atom_cmp h g ≡ Less → k < place → ⊥
no_greater_before list q h g k place w within (r, under) (s, other) less before =
    no_less (path_at list k) (paths_total.trans (path_at list k) (path_at list place) (path_at list k) (paths_rise list w k place before within)
    (subst (λ p. path_cmp p (path_at list k) ≡ Less) (sym under) (subst (λ p. path_cmp (q ++ h ∷ r) p ≡ Less) (sym other) (lesser_header q r s h g less))))

-- The header of what is below it is a path of the list.
pub header_of_under : (list : List Atom) (q : Path) (h : Atom) (k : ℕ) → k < length list → StandsUnder q h (path_at list k) → PathsOf list (q ++ h ∷ [])
header_of_under list q h k within (r, under) = front_is_path list q r h (subst (λ p. IsIn p (paths list)) under (path_there list k within))
