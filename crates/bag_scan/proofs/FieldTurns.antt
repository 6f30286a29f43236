-- One turn of a walk over the fields of a bag: the header of the next field is sought, and found or not.
use Rattle.std.proofs.Common.{◌≡◌, ℕ, ◌+◌, ◌≤◌, List, length, true, Less, Some, refl, sym, subst, arith}
use Rattle.std.specs.List.{slice_get}
use Rattle.context_model.specs.Atoms.{Atom}
use Rattle.context_model.specs.Kinds.{atom_of}
use Rattle.context_model.specs.Kinds.Kind.{Indexed}
use Rattle.context_model.specs.Orders.{Path, atom_cmp}
use Rattle.context_model.specs.Paths.{is_header, level, path_before}
use Rattle.bag_model.specs.Readings.{PathsOf, node_path}
use Rattle.bag_model.specs.Shapes.{Nodes, Field, fields}
use Rattle.bag_model.specs.Tables.{IsShape, AreFields, levels, levels_under}
use Rattle.bag_model.proofs.LayoutLaws.{field_wide}
use Rattle.bag_model.proofs.PathLaws.{is_field}
use Rattle.bag_model.proofs.SlotsBelow.{get_in}
use Rattle.bag_walks.specs.Parts.{IsBehind, StaysBelow, IsSegment}
use Rattle.bag_walks.specs.Searches.{HasPassed, IsSought, IsFirstBeyond}
use Rattle.bag_walks.proofs.Absent.{IsBare}
use Rattle.bag_walks.proofs.Sets.{index_header}
use Rattle.bag_walks.proofs.Stops.{absent_is_first}
use Rattle.bag_walks.proofs.Turns.{index_order, stays_none, passed_none, sought_whole, level_below, found_behind, found_next, found_stays, absent_next, absent_bare}
use Rattle.bag_scan.specs.Searches.{IsFoundBehind, IsMissing}
use Rattle.field_table.proofs.Held.{levels_there}
use Rattle.field_table.proofs.Numbers.{numbers_rise}

-- The walk has come to a place before the field with this number of fields before it: what is on
-- the way is below the bag, and comes before the field's header.
pub record IsBefore (list : List Atom) (depth : ℕ) (nodes : Nodes) (from i place : ℕ) : Type 0 where
  pub stays : StaysBelow list depth from place
  pub passed : (f : Field) → slice_get (fields nodes) i ≡ Some f → HasPassed list depth (atom_of (Indexed depth f.number)) from place

-- At first it has come nowhere.
pub before_first : (list : List Atom) (depth : ℕ) (nodes : Nodes) (from : ℕ) → from ≤ length list → IsBefore list depth nodes from 0 from
before_first list depth nodes from within = record {
  stays = stays_none list depth from within;
  passed = λ f e. passed_none list depth (atom_of (Indexed depth f.number)) from within;
}

-- The header of the next field is right before a place: what a call on the field asks for, and that
-- after its segment the walk has come to the field after it.
pub record FieldTurn (list : List Atom) (q : Path) (from depth : ℕ) (nodes : Nodes) (i : ℕ) (f : Field) (start : ℕ) : Type 0 where
  pub path : path_before list start ≡ node_path q f.number
  pub starts : IsBehind list (path_before list start) start
  pub deeper : length (path_before list start) ≡ depth + 1
  pub shape : IsShape f.shape
  pub room : depth + 1 + levels_under f.shape ≤ 16
  pub passed : (stop : ℕ) → IsSegment list (depth + 1) start stop → IsBefore list depth nodes from (i + 1) stop

-- It isn't there: nothing is at the field's path or below it, the paths beyond it begin where the
-- search stopped, and there the walk has come to the field after it.
pub record FieldGap (list : List Atom) (q : Path) (from depth : ℕ) (nodes : Nodes) (i : ℕ) (f : Field) (stop : ℕ) : Type 0 where
  pub bare : IsBare (PathsOf list) (node_path q f.number)
  pub beyond : IsFirstBeyond list (node_path q f.number) stop
  pub passed : IsBefore list depth nodes from (i + 1) stop

-- ---- at the level of the path

module _ (list : List Atom) (q : Path) (from : ℕ) (nodes : Nodes) (i : ℕ) (f : Field) (place : ℕ) (behind : IsBehind list q from)
    (are : AreFields nodes) (room : length q + levels nodes ≤ 16) (there : slice_get (fields nodes) i ≡ Some f) (come : IsBefore list (length q) nodes from i place) where
  abbrev h : Atom
  h = atom_of (Indexed (length q) f.number)

  is_one : (is_header h ≡ true) × (level h ≡ length q)
  is_one = index_header (length q) f.number (omega (arith, room, levels_there nodes i f there))

  passed : HasPassed list (length q) h from place
  passed = come.passed f there

  later : (g : Field) → slice_get (fields nodes) (i + 1) ≡ Some g → atom_cmp h (atom_of (Indexed (length q) g.number)) ≡ Less
  later g e = index_order (length q) f.number g.number (numbers_rise nodes i (i + 1) f g are (omega arith) there e) (field_wide nodes g are (get_in (fields nodes) (i + 1) g e))

  own_turn : (start : ℕ) → IsFoundBehind list (length q) h place start → FieldTurn list q from (length q) nodes i f start
  own_turn start found =
      let below : IsBehind list (node_path q f.number) start =
      subst (IsBehind list (node_path q f.number)) (sym found.next) (found_behind list q from place found.place h behind is_one.0 is_one.1 passed found.sought found.within found.there) in
      record {
        path = below.path;
        starts = subst (λ p. IsBehind list p start) (sym below.path) below;
        deeper = level_below list q (length q) start h refl below;
        shape = (is_field nodes i f are there).1;
        room = omega (arith, room, levels_there nodes i f there);
        passed = λ stop segment.
            let seg : IsSegment list (length q + 1) (found.place + 1) stop = subst (λ n. IsSegment list (length q + 1) n stop) found.next segment in
            record {
              stays = found_stays list q from place found.place h behind is_one.0 is_one.1 passed found.sought found.within found.there stop seg;
              passed = λ g e. found_next list q from place found.place h behind is_one.0 is_one.1 passed found.sought found.within found.there stop (atom_of (Indexed (length q) g.number)) (later g e) seg;
            };
      }

  own_gap : (stop : ℕ) → IsMissing list (length q) h place stop → FieldGap list q from (length q) nodes i f stop
  own_gap stop missing =
      let whole : IsSought list (length q) h from stop = sought_whole list (length q) h from place stop passed missing.sought in
      record {
        bare = absent_bare list q from place stop h behind is_one.0 is_one.1 passed missing.sought missing.other;
        beyond = absent_is_first list q h from stop behind is_one.0 whole (λ within own. missing.other within);
        passed = record {
          stays = whole.before.stays;
          passed = λ g e. absent_next list q from place stop h behind is_one.0 is_one.1 passed missing.sought missing.other (atom_of (Indexed (length q) g.number)) (later g e);
        };
      }

-- ---- at the level and for the number of the search

module _ (list : List Atom) (q : Path) (from depth : ℕ) (nodes : Nodes) (i : ℕ) (f : Field) (place : ℕ) (own : length q ≡ depth) (behind : IsBehind list q from)
    (are : AreFields nodes) (room : depth + levels nodes ≤ 16) (there : slice_get (fields nodes) i ≡ Some f) (come : IsBefore list depth nodes from i place) (n : ℕ) (number : n ≡ f.number) where
  pub field_turn : (start : ℕ) → IsFoundBehind list depth (atom_of (Indexed depth n)) place start → FieldTurn list q from depth nodes i f start
  field_turn start found =
      subst (λ d. d + levels nodes ≤ 16 → IsBefore list d nodes from i place → IsFoundBehind list d (atom_of (Indexed d f.number)) place start → FieldTurn list q from d nodes i f start) own
      (λ r c at. own_turn list q from nodes i f place behind are r there c start at) room come (subst (λ m. IsFoundBehind list depth (atom_of (Indexed depth m)) place start) number found)

  pub field_gap : (stop : ℕ) → IsMissing list depth (atom_of (Indexed depth n)) place stop → FieldGap list q from depth nodes i f stop
  field_gap stop missing =
      subst (λ d. d + levels nodes ≤ 16 → IsBefore list d nodes from i place → IsMissing list d (atom_of (Indexed d f.number)) place stop → FieldGap list q from d nodes i f stop) own
      (λ r c at. own_gap list q from nodes i f place behind are r there c stop at) room come (subst (λ m. IsMissing list depth (atom_of (Indexed depth m)) place stop) number missing)
