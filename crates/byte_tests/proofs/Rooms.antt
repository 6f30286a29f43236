-- The room of atoms.
use Rattle.std.proofs.Common.{◌≡◌, ℕ, ◌+◌, ◌-◌, ◌≤◌, List, [], ◌∷◌, ◌++◌, take, drop, slice_range, ap, arith}
use Rattle.std.proofs.lemmas.List.{take-append-drop}
use Rattle.context_model.specs.Atoms.{Atom}
use Rattle.atom_list.specs.Builder.{byte_room_for}

room_of-append : (xs ys : List Atom) → byte_room_for (xs ++ ys) ≡ byte_room_for xs + byte_room_for ys
room_of-append [] ys = omega arith
room_of-append (x ∷ xs) ys = omega (arith, room_of-append xs ys)

-- A run takes no more room than its list.
pub room_of_run : (list : List Atom) (from to : ℕ) → byte_room_for (slice_range list from to) ≤ byte_room_for list
room_of_run list from to =
    let behind = drop from list in
    omega (arith, ap byte_room_for (take-append-drop from list), ap byte_room_for (take-append-drop (to - from) behind), room_of-append (take from list) behind, room_of-append (take (to - from) behind) (drop (to - from) behind))
