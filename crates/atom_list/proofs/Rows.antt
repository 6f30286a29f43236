-- Frames that follow one another in a buffer, as they are found one by one.
use Rattle.std.proofs.Common.{◌≡◌, ℕ, ◌+◌, ◌*◌, ◌-◌, ◌<◌, ◌≤◌, List, [], ◌∷◌, ◌++◌, length, take, drop, get_or, slice_get, slice_range, Some, inl, inr, refl, sym, ◌∙◌, ap, subst, arith}
use Rattle.std.proofs.lemmas.List.{append-nil, drop-drop, length-map, length-take-le, length-drop, length-take, take_at, take-append-drop, take_more, take-map, take-take, drop-map, get_or-map}
use Rattle.std.proofs.lemmas.List.Edits.{between_more}
use Rattle.std.proofs.lemmas.Option.{get_or_from_slice_get, slice_get_within}
use Rattle.std.proofs.lemmas.Slice.{between_is}
use Rattle.context_model.specs.declared.TheConstants.{ATOM_MAX}
use Rattle.context_model.specs.Atoms.{Atom}
use Rattle.context_model.specs.declared.Form.TheVariants.{One}
use Rattle.context_model.specs.Framing.{frame, frames}
use Rattle.context_model.proofs.FramingLaws.{frames-append}
use Rattle.atom_list.specs.Builder.{byte_room_for}
use Rattle.atom_list.specs.Starts.{first_atom, atom_framed_at, atoms_at, AreStarts, BeginsFrame, starts_from, IsPieceOf, IsFrameRow}
use Rattle.atom_list.proofs.Frames.{first_atom-framed}
use Rattle.atom_list.proofs.Flat.{length-starts_from, starts_at, starts_from-append, take_split}
use Rattle.atom_list.proofs.Building.{AreAtoms-append}
use Rattle.atom_list.proofs.Rooms.{room_of-append, room_of-size}

-- A part and what is right after it.
part_more : (bytes front rest : List ℕ) (first end : ℕ) → first ≤ end → drop end bytes ≡ front ++ rest → slice_range bytes first (end + length front) ≡ slice_range bytes first end ++ front
part_more bytes front rest first end order e =
    let there : first + (end - first) ≡ end = omega arith in
    let many : end + length front - first - (end - first) ≡ length front = omega arith in
    take_split (end - first) (end + length front - first) (drop first bytes) (omega arith)
    ∙ ap (λ v. slice_range bytes first end ++ take (end + length front - first - (end - first)) v) (drop-drop (end - first) first bytes ∙ ap (λ n. drop n bytes) there ∙ e)
    ∙ ap (λ n. slice_range bytes first end ++ take n (front ++ rest)) many ∙ ap (λ v. slice_range bytes first end ++ v) (take_at front rest (length front) refl)

-- A piece with the frame right after it.
pub piece_more : (bytes : List ℕ) (first end : ℕ) (starts : List ℕ) (list : List Atom) (x : Atom) (rest : List ℕ) → first ≤ end → end ≤ length bytes
    → IsPieceOf (slice_range bytes first end) first starts list → length x ≤ ATOM_MAX → drop end bytes ≡ frame One x ++ rest
    → IsPieceOf (slice_range bytes first (end + length (frame One x))) first (starts ++ end ∷ []) (list ++ x ∷ [])
piece_more bytes first end starts list x rest order within piece short e =
    let long : end - first ≡ length (frames One list) = sym (length-take-le (end - first) (drop first bytes) (omega (arith, length-drop first bytes))) ∙ ap length piece.framed in
    let place : end ≡ first + length (frames One list) = omega arith in
    record {
      short = AreAtoms-append list (x ∷ []) piece.short (short, tt);
      framed = part_more bytes (frame One x) rest first end order e ∙ ap (λ v. v ++ frame One x) piece.framed ∙ ap (λ v. frames One list ++ v) (sym (append-nil (frame One x))) ∙ sym (frames-append One list (x ∷ []));
      there = ap (λ v. v ++ end ∷ []) piece.there ∙ ap (λ n. starts_from first list ++ n ∷ []) place ∙ sym (starts_from-append first list (x ∷ []));
    }

-- ---- rows

pub row_none : (bytes starts : List ℕ) (end : ℕ) → end ≡ get_or starts 0 0 → IsFrameRow bytes starts 0 end
row_none bytes starts end e =
    let none : end - get_or starts 0 0 ≡ 0 = omega arith in
    record {
      piece = record { short = tt; framed = ap (λ n. take n (drop (get_or starts 0 0) bytes)) none; there = refl };
      order = omega arith;
      within = λ some. absurd (omega arith);
    }

-- Before the end of the buffer each start is that of a frame.
pub begins_before : (bytes starts : List ℕ) (k d : ℕ) → AreStarts bytes starts → k < length starts → get_or starts k d < length bytes → BeginsFrame (drop (get_or starts k d) bytes)
begins_before bytes starts k d fit below before = elim (starts_at bytes starts k d fit below) [
  | inl behind ↦ absurd (omega arith)
  | inr begins ↦ begins
]

pub row_more : (bytes starts : List ℕ) (count end end' : ℕ) → AreStarts bytes starts → IsFrameRow bytes starts count end → count < length starts → get_or starts count 0 ≡ end → end < length bytes
    → end' ≡ end + length (frame One (atom_framed_at bytes end)) → end' ≤ length bytes → IsFrameRow bytes starts (count + 1) end'
row_more bytes starts count end end' fit row below next before e within =
    let list = atoms_at bytes starts in
    let first = get_or starts 0 0 in
    let begins : BeginsFrame (drop end bytes) = subst (λ n. BeginsFrame (drop n bytes)) next (begins_before bytes starts count 0 fit below (omega arith)) in
    let one : atom_framed_at bytes end ≡ begins.0 = ap first_atom begins.3 ∙ first_atom-framed begins.0 begins.1 begins.2 in
    let ends : end + length (frame One begins.0) ≡ end' = ap (λ v. end + length (frame One v)) (sym one) ∙ sym e in
    let atom : get_or list count [] ≡ begins.0 = get_or-map (atom_framed_at bytes) starts count 0 [] below ∙ ap (atom_framed_at bytes) next ∙ one in
    let starts_more : take (count + 1) starts ≡ take count starts ++ end ∷ [] = take_more starts count 0 below ∙ ap (λ n. take count starts ++ n ∷ []) next in
    let list_more : take (count + 1) list ≡ take count list ++ begins.0 ∷ [] = take_more list count [] (omega (arith, length-map starts (atom_framed_at bytes))) ∙ ap (λ v. take count list ++ v ∷ []) atom in
    let more = piece_more bytes first end (take count starts) (take count list) begins.0 begins.1 row.order (omega arith) row.piece begins.2 begins.3 in
    record {
      piece = subst (λ n. IsPieceOf (slice_range bytes first n) first (take (count + 1) starts) (take (count + 1) list)) ends
          (subst (λ v. IsPieceOf (slice_range bytes first (end + length (frame One begins.0))) first v (take (count + 1) list)) (sym starts_more)
          (subst (λ v. IsPieceOf (slice_range bytes first (end + length (frame One begins.0))) first (take count starts ++ end ∷ []) v) (sym list_more) more));
      order = omega (arith, row.order);
      within = λ some. within;
    }

-- The atoms of a row that was found among some starts of a list are a part of it.
pub row_part : (bytes starts : List ℕ) (list : List Atom) (from to n : ℕ) → atoms_at bytes starts ≡ list → n ≤ length (slice_range starts from to)
    → take n (atoms_at bytes (slice_range starts from to)) ≡ slice_range list from (from + length (take n (slice_range starts from to)))
row_part bytes starts list from to n view few =
    let seen = slice_range starts from to in
    let fewer : n ≤ to - from = omega (arith, length-take (to - from) (drop from starts)) in
    let many : n ≡ from + length (take n seen) - from = omega (arith, length-take-le n seen few) in
    take-map (atom_framed_at bytes) n seen ∙ ap (atoms_at bytes) (take-take n (to - from) (drop from starts) fewer) ∙ sym (take-map (atom_framed_at bytes) n (drop from starts))
    ∙ ap (take n) (sym (drop-map (atom_framed_at bytes) from starts) ∙ ap (drop from) view) ∙ ap (λ m. take m (drop from list)) many

-- ---- runs that are gone over part by part

-- A run is its first part and what follows it.
pub run_parts : (list : List Atom) (from at to : ℕ) → from ≤ at → at ≤ to → slice_range list from to ≡ slice_range list from at ++ slice_range list at to
run_parts list from at to order within =
    let back = drop from list in
    let there : from + (at - from) ≡ at = omega arith in
    let many : to - from - (at - from) ≡ to - at = omega arith in
    sym (take-append-drop (at - from) (take (to - from) back)) ∙ ap (λ v. v ++ drop (at - from) (take (to - from) back)) (take-take (at - from) (to - from) back (omega arith))
    ∙ ap (λ v. slice_range list from at ++ v) (sym (between_is back (at - from) (to - from)) ∙ ap (take (to - from - (at - from))) (drop-drop (at - from) from list ∙ ap (λ n. drop n list) there) ∙ ap (λ n. take n (drop at list)) many)

pub room_of-parts : (list : List Atom) (from at to : ℕ) → from ≤ at → at ≤ to → byte_room_for (slice_range list from to) ≡ byte_room_for (slice_range list from at) + byte_room_for (slice_range list at to)
room_of-parts list from at to order within = ap byte_room_for (run_parts list from at to order within) ∙ room_of-append (slice_range list from at) (slice_range list at to)

-- A run of one atom.
pub run_of_one : (list : List Atom) (at : ℕ) (x : Atom) → slice_get list at ≡ Some x → slice_range list at (at + 1) ≡ x ∷ []
run_of_one list at x there =
    let within : at < length list = slice_get_within list at x there in
    let none : at - at ≡ 0 = omega arith in
    between_more list at at [] (omega arith) within ∙ ap (λ n. take n (drop at list) ++ get_or list at [] ∷ []) none ∙ ap (λ v. v ∷ []) (get_or_from_slice_get list at x [] there)

pub room_of-one : (list : List Atom) (at : ℕ) (x : Atom) → slice_get list at ≡ Some x → byte_room_for (slice_range list at (at + 1)) ≡ length x + 3
room_of-one list at x there = ap byte_room_for (run_of_one list at x there) ∙ (omega arith)

-- The room of frames that follow one another, by their bytes.
pub room_of-piece : (list : List Atom) (bytes : List ℕ) (at : ℕ) (starts : List ℕ) → IsPieceOf bytes at starts list → (length bytes ≤ byte_room_for list) × (byte_room_for list ≤ length bytes + 2 * length starts)
room_of-piece list bytes at starts piece =
    let size = room_of-size list in
    let long : length bytes ≡ length (frames One list) = ap length piece.framed in
    let many : length starts ≡ length list = ap length piece.there ∙ length-starts_from at list in
    (omega arith, omega arith)
