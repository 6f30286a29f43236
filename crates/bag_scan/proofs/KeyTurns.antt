-- One turn of a walk over the keys after a path, where the next key is there.
use Rattle.std.proofs.Common.{◌≡◌, ℕ, ◌+◌, ◌<◌, List, length, refl, sym, ap, ◌∙◌, subst, arith}
use Rattle.context_model.specs.Atoms.{Atom}
use Rattle.context_model.specs.Kinds.{atom_of}
use Rattle.context_model.specs.Kinds.Kind.{Keyed}
use Rattle.context_model.specs.Orders.{Path, IsIn}
use Rattle.context_model.specs.Paths.{level, paths, path_before}
use Rattle.context_model.proofs.PlacesOf.{path_there}
use Rattle.bag_model.specs.Readings.{PathsOf, key_path}
use Rattle.bag_walks.specs.Parts.{IsBehind, StaysBelow, IsSegment}
use Rattle.bag_walks.proofs.Sets.{key_header}
use Rattle.bag_walks.proofs.Turns.{stays_whole, stays_higher, stays_over, header_below, level_below}
use Rattle.bag_scan.specs.Searches.{IsKeyFound}

-- The header of the next key is right before a place: what a call on what is below the key asks
-- for, and that the walk stays below q up to the header, over it, and past what is below the key.
pub record KeyTurn (list : List Atom) (q : Path) (from depth place : ℕ) (key : List ℕ) (start : ℕ) : Type 0 where
  pub found : IsKeyFound list (length q) place key start
  pub stands : PathsOf list (key_path q key)
  pub below : IsBehind list (key_path q key) start
  pub starts : IsBehind list (path_before list start) start
  pub deeper : length (path_before list start) ≡ depth + 1
  pub come : StaysBelow list (length q) from found.place
  pub over : StaysBelow list (length q) from start
  pub past : (stop : ℕ) → IsSegment list (depth + 1) start stop → StaysBelow list (length q) from stop

module _ (list : List Atom) (q : Path) (from place : ℕ) (few : length q < 16) (behind : IsBehind list q from) (stays : StaysBelow list (length q) from place) (key : List ℕ) (start : ℕ) where
  own_turn : IsKeyFound list (length q) place key start → KeyTurn list q from (length q) place key start
  own_turn found =
      let header = key_header (length q) key few in
      let come = stays_whole list (length q) from place found.place stays found.before.stays in
      let over = subst (StaysBelow list (length q) from) (sym found.next) (stays_over list (length q) from found.place come found.within (ap level found.is ∙ header.1)) in
      let below : IsBehind list (key_path q key) start =
      subst (IsBehind list (key_path q key)) (sym found.next) (header_below list q from found.place (atom_of (Keyed (length q) key)) behind come found.within found.is header.0 header.1) in
      record {
        found = found;
        stands = subst (λ p. IsIn p (paths list)) (ap (path_before list) (sym found.next) ∙ below.path) (path_there list found.place found.within);
        below = below;
        starts = subst (λ p. IsBehind list p start) (sym below.path) below;
        deeper = level_below list q (length q) start (atom_of (Keyed (length q) key)) refl below;
        come = come;
        over = over;
        past = λ stop segment. stays_whole list (length q) from start stop over (stays_higher list (length q + 1) (length q) start stop (omega arith) segment.part);
      }

pub key_turn : (list : List Atom) (q : Path) (from depth place : ℕ) → length q ≡ depth → depth < 16 → IsBehind list q from → StaysBelow list (length q) from place → (key : List ℕ) (start : ℕ)
    → IsKeyFound list depth place key start → KeyTurn list q from depth place key start
key_turn list q from depth place own few behind stays key start =
    subst (λ d. d < 16 → IsKeyFound list d place key start → KeyTurn list q from d place key start) own (λ f found. own_turn list q from place f behind stays key start found) few
