-- The way to a slot along the numbers of its fields.
use Rattle.std.proofs.Common.{◌≡◌, ℕ, zero, suc, ◌+◌, ◌<◌, ◌≤◌, true, List, [], ◌∷◌, ◌++◌, length, take, Option, Some, None, refl, sym, ap, ◌∙◌, subst, length-take-le, arith}
use Rattle.std.specs.List.{slice_get}
use Rattle.context_model.specs.Atoms.{Atom}
use Rattle.context_model.specs.Ended.{field_path_from, field_path}
use Rattle.context_model.specs.Kinds.{atom_of}
use Rattle.context_model.specs.Kinds.Kind.{Indexed}
use Rattle.context_model.specs.Orders.{Path}
use Rattle.context_model.specs.Paths.{is_header, level}
use Rattle.context_model.proofs.FieldPaths.{length-field_path}
use Rattle.bag_model.specs.Readings.{PathsOf}
use Rattle.bag_walks.specs.Parts.{IsBehind}
use Rattle.bag_walks.specs.Slots.{IsSpanOf}
use Rattle.bag_walks.proofs.Absent.{IsBare}
use Rattle.bag_walks.proofs.Bridge.{none_below}
use Rattle.bag_walks.proofs.Sets.{index_header}
use Rattle.bag_walks.proofs.Turns.{passed_none, found_behind, absent_bare}
use Rattle.bag_scan.specs.Searches.{IsFoundBehind, IsMissing}
use Rattle.bag_decode.specs.Slots.{IsPlaceBehind}
use Rattle.bag_decode.proofs.Fields.{take_next}

field_path-push : (n : ℕ) (numbers : List ℕ) (number : ℕ) → field_path_from n (numbers ++ number ∷ []) ≡ field_path_from n numbers ++ atom_of (Indexed (n + length numbers) number) ∷ []
field_path-push n [] number = let e : n ≡ n + 0 = omega arith in ap (λ m. atom_of (Indexed m number) ∷ []) e
field_path-push n (first ∷ numbers) number =
    let e : suc n + length numbers ≡ n + suc (length numbers) = omega arith in
    ap (λ q. atom_of (Indexed n first) ∷ q) (field_path-push (suc n) numbers number ∙ ap (λ m. field_path_from (suc n) numbers ++ atom_of (Indexed m number) ∷ []) e)

-- The path of the first fields on the way is a prefix of the whole path.
field_path-front : (n k : ℕ) (numbers : List ℕ) → (rest : Path) × (field_path_from n numbers ≡ field_path_from n (take k numbers) ++ rest)
field_path-front n zero numbers = (field_path_from n numbers, refl)
field_path-front n (suc k) [] = ([], refl)
field_path-front n (suc k) (number ∷ numbers) = let (rest, is) = field_path-front (suc n) k numbers in (rest, ap (λ q. atom_of (Indexed n number) ∷ q) is)

module _ (list : List Atom) (numbers : List ℕ) (k place number : ℕ) (few : length numbers ≤ 16) (within : k < length numbers) (here : slice_get numbers k ≡ Some number)
    (behind : IsBehind list (field_path (take k numbers)) place) where
  abbrev q : Path
  q = field_path (take k numbers)

  own : length q ≡ k
  own = length-field_path 0 (take k numbers) ∙ length-take-le k numbers (omega arith)

  abbrev h : Atom
  h = atom_of (Indexed (length q) number)

  is_one : (is_header h ≡ true) × (level h ≡ length q)
  is_one = index_header (length q) number (omega (arith, own))

  next_path : field_path (take (k + 1) numbers) ≡ q ++ h ∷ []
  next_path =
      ap field_path (take_next numbers k number here)
      ∙ field_path-push 0 (take k numbers) number
      ∙ ap (λ m. q ++ atom_of (Indexed m number) ∷ []) (let e : 0 + length (take k numbers) ≡ length q = omega (arith, length-field_path 0 (take k numbers)) in e)

  -- The header of the next field on the way is there.
  pub way_found : (next : ℕ) → IsFoundBehind list k (atom_of (Indexed k number)) place next → IsBehind list (field_path (take (k + 1) numbers)) next
  way_found next there =
      let found : IsFoundBehind list (length q) h place next = subst (λ n. IsFoundBehind list n (atom_of (Indexed n number)) place next) (sym own) there in
      subst (λ p. IsBehind list p next) (sym next_path) (subst (IsBehind list (q ++ h ∷ [])) (sym found.next)
      (found_behind list q place place found.place h behind is_one.0 is_one.1 (passed_none list (length q) h place behind.within) found.sought found.within found.there))

  -- It isn't, so that of the slot isn't either.
  pub way_missing : (stop : ℕ) → IsMissing list k (atom_of (Indexed k number)) place stop → PathsOf list (field_path numbers) → ⊥
  way_missing stop there i =
      let none : IsMissing list (length q) h place stop = subst (λ n. IsMissing list n (atom_of (Indexed n number)) place stop) (sym own) there in
      let bare = absent_bare list q place place stop h behind is_one.0 is_one.1 (passed_none list (length q) h place behind.within) none.sought none.other in
      let (rest, is) = field_path-front 0 (k + 1) numbers in
      bare rest (subst (PathsOf list) (is ∙ ap (λ p. p ++ rest) next_path) i)

-- ---- where no header of a slot is

last_of : (a : Atom) (s : Path) → (q : Path) × (h : Atom) × (a ∷ s ≡ q ++ h ∷ [])
last_of a [] = ([], a, refl)
last_of a (b ∷ s) = let (q, h, is) = last_of b s in (a ∷ q, h, ap (λ p. a ∷ p) is)

-- Where a path that isn't empty isn't there, there is nothing below it.
pub bare_path : (list : List Atom) (s : Path) → 0 < length s → (PathsOf list s → ⊥) → IsBare (PathsOf list) s
bare_path list [] some none = absurd (omega arith)
bare_path list (a ∷ s) some none =
    let (q, h, is) = last_of a s in
    subst (IsBare (PathsOf list)) (sym is) (none_below list q h (λ i. none (subst (PathsOf list) (sym is) i)))

-- A span begins after the slot's header.
pub span_place : (list : List Atom) (numbers : List ℕ) (from : Option ℕ) (stop : ℕ) → IsSpanOf list (field_path numbers) from stop → IsPlaceBehind list numbers from
span_place list numbers None stop is = is.0
span_place list numbers (Some from) stop is = is.0
