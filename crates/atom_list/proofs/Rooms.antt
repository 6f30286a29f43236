-- The room for bytes that lists are given.
use Rattle.std.proofs.Common.{◌≡◌, ℕ, ◌+◌, ◌*◌, ◌^◌, ◌-◌, ◌<◌, ◌≤◌, List, [], ◌∷◌, ◌++◌, length, take, drop, slice_range, sym, ◌∙◌, ap, length-append, arith}
use Rattle.std.proofs.lemmas.List.{take-append-drop, take-take}
use Rattle.context_model.specs.Atoms.{Atom, AreAtoms}
use Rattle.context_model.specs.declared.Form.TheVariants.{One, Two}
use Rattle.context_model.specs.Framing.{base_128, frame, frames}
use Rattle.context_model.proofs.FramingLaws.{length-base_128, frames_lens}
use Rattle.atom_list.specs.Builder.{byte_room_for}

pub room_of-append : (xs ys : List Atom) → byte_room_for (xs ++ ys) ≡ byte_room_for xs + byte_room_for ys
room_of-append [] ys = omega arith
room_of-append (x ∷ xs) ys = omega (arith, room_of-append xs ys)

-- The room of a list is its size, and at most two bytes an atom more.
pub room_of-size : (list : List Atom) → (length (frames One list) ≤ byte_room_for list) × (byte_room_for list ≤ length (frames One list) + 2 * length list)
room_of-size [] = (omega arith, omega arith)
room_of-size (x ∷ list) =
    let rest = room_of-size list in
    let code = length-base_128 (length x) in
    let long : length (frame One x) ≡ length (base_128 (length x)) + length x = length-append (base_128 (length x)) x in
    let size : length (frames One (x ∷ list)) ≡ length (frame One x) + length (frames One list) = length-append (frame One x) (frames One list) in
    (omega arith, omega arith)

pub room_of-front : (m n : ℕ) (list : List Atom) → m ≤ n → byte_room_for (take m list) ≤ byte_room_for (take n list)
room_of-front m n list below =
    let e : byte_room_for (take n list) ≡ byte_room_for (take m list) + byte_room_for (drop m (take n list)) =
    ap byte_room_for (sym (take-append-drop m (take n list))) ∙ room_of-append (take m (take n list)) (drop m (take n list)) ∙ ap (λ v. byte_room_for v + byte_room_for (drop m (take n list))) (take-take m n list below) in
    omega arith

-- A longer run.
pub room_of-longer : (list : List Atom) (from m n : ℕ) → m ≤ n → byte_room_for (slice_range list from m) ≤ byte_room_for (slice_range list from n)
room_of-longer list from m n below = room_of-front (m - from) (n - from) (drop from list) (omega arith)

-- The room of a list whose frames are short, and two bytes more an atom.
pub room_light : (list : List Atom) → AreAtoms list → length (frames Two list) < 2 ^ 32 → (length list < 2 ^ 32) × (byte_room_for list + 2 * length list < 2 ^ 35)
room_light list short light =
    let same = frames_lens list short in
    let size = room_of-size list in
    let few = few_frames list in
    (omega arith, omega arith)
  where
    -- Each frame has a byte at least.
    few_frames : (list : List Atom) → length list ≤ length (frames One list)
    few_frames [] = omega arith
    few_frames (x ∷ list) =
        let rest = few_frames list in
        let code = length-base_128 (length x) in
        let long : length (frame One x) ≡ length (base_128 (length x)) + length x = length-append (base_128 (length x)) x in
        let size : length (frames One (x ∷ list)) ≡ length (frame One x) + length (frames One list) = length-append (frame One x) (frames One list) in
        omega arith
