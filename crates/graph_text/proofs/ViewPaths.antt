-- The paths of views, and the ranges that they find.
use Rattle.std.proofs.Common.{◌≡◌, ◌↔◌, inl, inr, ℕ, zero, suc, ◌<◌, ◌≤◌, List, [], ◌∷◌, ◌++◌, length, Some, None, refl, sym, subst, arith}
use Rattle.std.specs.List.{slice_get}
use Rattle.std.specs.Ordering.{nat_cmp}
use Rattle.context_model.specs.Orders.{IsIn, Rises}
use Rattle.bag_model.specs.Shapes.{Nodes}
use Rattle.bag_model.specs.Slots.{slots_of, FindsRange, IsInRange, range_of}
use Rattle.bag_model.specs.Tables.{IsTable}
use Rattle.bag_model.proofs.NamePathLaws.{ranges_are_exact}
use Rattle.bag_model.proofs.PathLaws.{reached_bound}
use Rattle.graph_text.specs.Additions.{InSome, AreRangesOf, AreSlotsOf}

-- A path finds a range or none.
pub finds_apart : (table : Nodes) (path : List ℕ) (range : ℕ × ℕ) → FindsRange table path (Some range) → FindsRange table path None → ⊥
finds_apart table path range (None, one, is) other = cc is
finds_apart table path range (Some found, one, is) (Some field, none, same) = cc same
finds_apart table path range (Some found, one, is) (None, none, same) =
    let (name, names, dots, reached) = one in none name names found.0 found.1 reached dots

-- A path has its ranges, each with the same slots.
pub finds_within : (table : Nodes) (path : List ℕ) (range : ℕ × ℕ) → FindsRange table path (Some range) → range.1 ≤ length (slots_of table)
finds_within table path range (None, one, is) = cc is
finds_within table path range (Some found, one, is) =
    let (name, names, dots, reached) = one in
    let end = reached_bound table name names found.0 found.1 reached in
    let same : range ≡ range_of found = cc is in
    subst (λ r. r.1 ≤ length (slots_of table)) (sym same) end

has_slot : {A : Type 0} (xs : List A) (n : ℕ) → n < length xs → (x : A) × (slice_get xs n ≡ Some x)
has_slot [] n h = absurd (omega arith)
has_slot (x ∷ xs) zero h = (x, refl)
has_slot (x ∷ xs) (suc n) h = has_slot xs n (omega arith)

pub finds_one : (table : Nodes) → IsTable table → (path : List ℕ) (a b : ℕ × ℕ) (slot : ℕ)
    → FindsRange table path (Some a) → FindsRange table path (Some b) → IsInRange (Some a) slot → IsInRange (Some b) slot
finds_one table is path a b slot f g within =
    let end = finds_within table path a f in
    let (at, there) = has_slot (slots_of table) slot (omega (arith, within.1)) in
    (ranges_are_exact table path (Some b) slot at is g there).1 ((ranges_are_exact table path (Some a) slot at is f there).0 within)

-- ---- ranges that are those of paths

pub ranges_push : (table : Nodes) (paths : List (List ℕ)) (ranges : List (ℕ × ℕ)) (path : List ℕ) (range : ℕ × ℕ)
    → AreRangesOf table paths ranges → FindsRange table path (Some range) → AreRangesOf table (paths ++ path ∷ []) (ranges ++ range ∷ [])
ranges_push table [] [] path range all finds = (finds, tt)
ranges_push table [] (r ∷ ranges) path range all finds = absurd all
ranges_push table (p ∷ paths) [] path range all finds = absurd all
ranges_push table (p ∷ paths) (r ∷ ranges) path range all finds = (all.0, ranges_push table paths ranges path range all.1 finds)

path_of_range : (table : Nodes) (paths : List (List ℕ)) (ranges : List (ℕ × ℕ)) → AreRangesOf table paths ranges
    → (range : ℕ × ℕ) → IsIn range ranges → (path : List ℕ) × IsIn path paths × FindsRange table path (Some range)
path_of_range table [] [] all range i = absurd i
path_of_range table [] (r ∷ ranges) all range i = absurd all
path_of_range table (p ∷ paths) [] all range i = absurd i
path_of_range table (p ∷ paths) (r ∷ ranges) all range (inl e) = (p, inl refl, subst (λ r. FindsRange table p (Some r)) (sym e) all.0)
path_of_range table (p ∷ paths) (r ∷ ranges) all range (inr i) =
    let (path, among, finds) = path_of_range table paths ranges all.1 range i in (path, inr among, finds)

range_of_path : (table : Nodes) (paths : List (List ℕ)) (ranges : List (ℕ × ℕ)) → AreRangesOf table paths ranges
    → (path : List ℕ) → IsIn path paths → (range : ℕ × ℕ) × IsIn range ranges × FindsRange table path (Some range)
range_of_path table [] ranges all path i = absurd i
range_of_path table (p ∷ paths) [] all path i = absurd all
range_of_path table (p ∷ paths) (r ∷ ranges) all path (inl e) = (r, inl refl, subst (λ q. FindsRange table q (Some r)) (sym e) all.0)
range_of_path table (p ∷ paths) (r ∷ ranges) all path (inr i) =
    let (range, among, finds) = range_of_path table paths ranges all.1 path i in (range, inr among, finds)

-- No path with a range finds none.
pub none_missed : (table : Nodes) (paths : List (List ℕ)) (ranges : List (ℕ × ℕ)) → AreRangesOf table paths ranges
    → (path : List ℕ) → IsIn path paths → FindsRange table path None → ⊥
none_missed table paths ranges all path i none =
    let (range, among, finds) = range_of_path table paths ranges all path i in finds_apart table path range finds none

-- The slots in the ranges are those of the paths.
slots_from_ranges : (table : Nodes) → IsTable table → (paths : List (List ℕ)) (ranges : List (ℕ × ℕ)) → AreRangesOf table paths ranges
    → (slot : ℕ) → InSome ranges slot ↔ ((path : List ℕ) × (range : ℕ × ℕ) × IsIn path paths × FindsRange table path (Some range) × IsInRange (Some range) slot)
slots_from_ranges table is paths ranges all slot = (to, from)
  where
    to : InSome ranges slot → (path : List ℕ) × (range : ℕ × ℕ) × IsIn path paths × FindsRange table path (Some range) × IsInRange (Some range) slot
    to (range, among, within) = let (path, named, finds) = path_of_range table paths ranges all range among in (path, range, named, finds, within)

    from : (path : List ℕ) × (range : ℕ × ℕ) × IsIn path paths × FindsRange table path (Some range) × IsInRange (Some range) slot → InSome ranges slot
    from (path, range, named, finds, within) =
        let (other, among, found) = range_of_path table paths ranges all path named in (other, among, finds_one table is path range other slot finds found within)

pub are_slots_of : (table : Nodes) → IsTable table → (paths : List (List ℕ)) (ranges : List (ℕ × ℕ)) → AreRangesOf table paths ranges
    → (slots : List ℕ) → Rises nat_cmp slots → ((slot : ℕ) → IsIn slot slots ↔ InSome ranges slot) → AreSlotsOf table paths slots
are_slots_of table is paths ranges all slots rises each = record {
  rises = rises;
  each = λ slot. let named = slots_from_ranges table is paths ranges all slot in (λ i. named.0 ((each slot).0 i), λ found. (each slot).1 (named.1 found));
}
