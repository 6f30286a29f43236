-- The way to a slot along the numbers of its fields.
use Rattle.std.proofs.Common.{◌≡◌, ℕ, zero, suc, ◌+◌, ◌<◌, ◌≤◌, true, List, [], ◌∷◌, ◌++◌, length, take, drop, Some, add-one, append-nil, append_assoc, sym, ap, ◌∙◌, subst, length-take-le, arith}
use Rattle.std.proofs.lemmas.List.{take-append-drop}
use Rattle.std.specs.List.{slice_get}
use Rattle.context_model.specs.Atoms.{Atom}
use Rattle.context_model.specs.Ended.{field_path_from, field_path}
use Rattle.context_model.specs.Kinds.{atom_of}
use Rattle.context_model.specs.Kinds.Kind.{Indexed}
use Rattle.context_model.specs.Orders.{Path}
use Rattle.context_model.specs.Paths.{is_header, level}
use Rattle.context_model.proofs.FieldPaths.{length-field_path}
use Rattle.bag_model.specs.Readings.{node_path}
use Rattle.bag_walks.specs.Parts.{IsBehind}
use Rattle.bag_walks.proofs.Sets.{index_header}
use Rattle.bag_walks.proofs.Stops.{absent_is_first}
use Rattle.bag_walks.proofs.Turns.{passed_none, found_behind, absent_bare}
use Rattle.bag_scan.specs.Searches.{IsFoundBehind, IsMissing}
use Rattle.place_calls.specs.Found.{IsAbsentAt}
use Rattle.place_calls.proofs.FoundLaws.{gap_below}

take_more : {A : Type 0} (xs : List A) (k : ℕ) (x : A) → slice_get xs k ≡ Some x → take (suc k) xs ≡ take k xs ++ x ∷ []
take_more [] k x e = absurd (cc e)
take_more (y ∷ xs) zero x e = let same : y ≡ x = cc e in ap (λ z. z ∷ []) same
take_more (y ∷ xs) (suc k) x e = ap (λ l. y ∷ l) (take_more xs k x e)

-- One number more.
pub take_next : {A : Type 0} (xs : List A) (k : ℕ) (x : A) → slice_get xs k ≡ Some x → take (k + 1) xs ≡ take k xs ++ x ∷ []
take_next xs k x e = ap (λ n. take n xs) (add-one k) ∙ take_more xs k x e

path_push : (n : ℕ) (numbers : List ℕ) (number : ℕ) → field_path_from n (numbers ++ number ∷ []) ≡ field_path_from n numbers ++ atom_of (Indexed (n + length numbers) number) ∷ []
path_push n [] number = let e : n ≡ n + 0 = omega arith in ap (λ m. atom_of (Indexed m number) ∷ []) e
path_push n (first ∷ numbers) number =
    let e : suc n + length numbers ≡ n + suc (length numbers) = omega arith in
    ap (λ q. atom_of (Indexed n first) ∷ q) (path_push (suc n) numbers number ∙ ap (λ m. field_path_from (suc n) numbers ++ atom_of (Indexed m number) ∷ []) e)

-- The path of one number more is that of a field below.
path_next : (numbers : List ℕ) (number : ℕ) → field_path (numbers ++ number ∷ []) ≡ node_path (field_path numbers) number
path_next numbers number =
    path_push 0 numbers number ∙ ap (λ m. field_path numbers ++ atom_of (Indexed m number) ∷ []) (let e : 0 + length numbers ≡ length (field_path numbers) = omega (arith, length-field_path 0 numbers) in e)

-- Where a field isn't there, none below it is.
gap_on : (list : List Atom) (numbers rest : List ℕ) (stop : ℕ) → IsAbsentAt list (field_path numbers) stop → IsAbsentAt list (field_path (numbers ++ rest)) stop
gap_on list numbers [] stop gap = subst (λ (ns : List ℕ). IsAbsentAt list (field_path ns) stop) (sym (append-nil numbers)) gap
gap_on list numbers (number ∷ rest) stop gap =
    subst (λ (ns : List ℕ). IsAbsentAt list (field_path ns) stop) (append_assoc numbers (number ∷ []) rest)
    (gap_on list (numbers ++ number ∷ []) rest stop (subst (λ p. IsAbsentAt list p stop) (sym (path_next numbers number)) (gap_below list (field_path numbers) stop number gap)))

module _ (list : List Atom) (numbers : List ℕ) (k place number : ℕ) (few : length numbers ≤ 16) (within : k < length numbers) (here : slice_get numbers k ≡ Some number)
    (behind : IsBehind list (field_path (take k numbers)) place) where
  abbrev q : Path
  q = field_path (take k numbers)

  own : length q ≡ k
  own = length-field_path 0 (take k numbers) ∙ length-take-le k numbers (omega arith)

  abbrev h : Atom
  h = atom_of (Indexed (length q) number)

  is_one : (is_header h ≡ true) × (level h ≡ length q)
  is_one = index_header (length q) number (omega (arith, own))

  next_path : field_path (take (k + 1) numbers) ≡ q ++ h ∷ []
  next_path = ap field_path (take_next numbers k number here) ∙ path_next (take k numbers) number

  -- The header of the next field on the way is there.
  pub way_found : (next : ℕ) → IsFoundBehind list k (atom_of (Indexed k number)) place next → IsBehind list (field_path (take (k + 1) numbers)) next
  way_found next there =
      let found : IsFoundBehind list (length q) h place next = subst (λ n. IsFoundBehind list n (atom_of (Indexed n number)) place next) (sym own) there in
      subst (λ p. IsBehind list p next) (sym next_path) (subst (IsBehind list (q ++ h ∷ [])) (sym found.next)
      (found_behind list q place place found.place h behind is_one.0 is_one.1 (passed_none list (length q) h place behind.within) found.sought found.within found.there))

  -- It isn't, so the field at the end of the way isn't either.
  pub way_missing : (stop : ℕ) → IsMissing list k (atom_of (Indexed k number)) place stop → IsAbsentAt list (field_path numbers) stop
  way_missing stop there =
      let none : IsMissing list (length q) h place stop = subst (λ n. IsMissing list n (atom_of (Indexed n number)) place stop) (sym own) there in
      let gap : IsAbsentAt list (q ++ h ∷ []) stop = record {
        bare = absent_bare list q place place stop h behind is_one.0 is_one.1 (passed_none list (length q) h place behind.within) none.sought none.other;
        first = absent_is_first list q h place stop behind is_one.0 none.sought (λ inside depth same. none.other inside same);
      } in
      subst (λ (ns : List ℕ). IsAbsentAt list (field_path ns) stop) (take-append-drop (k + 1) numbers)
      (gap_on list (take (k + 1) numbers) (drop (k + 1) numbers) stop (subst (λ p. IsAbsentAt list p stop) (sym next_path) gap))
