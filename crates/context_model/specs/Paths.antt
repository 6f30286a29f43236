-- The path of each atom of a list: the headers around it, and then the atom itself.
use Rattle.std.specs.Prelude.{ℕ, suc, ◌+◌, ◌-◌, ◌/◌, Bool, false, cond, nat_le, List, [], ◌∷◌, ◌++◌, length, take, slice_index_or}
use Rattle.context_model.specs.Atoms.{Atom}
use Rattle.context_model.specs.Orders.{Path}

-- A header has a first byte of at least 128.
abbrev pub is_header : Atom → Bool
is_header [] = false
is_header (b ∷ bytes) = nat_le 128 b

-- The level of a header: its first byte is 248 or 249 at level 0, and falls by 8 a level.
abbrev pub level : Atom → ℕ
level [] = 0
level (b ∷ bytes) = (255 - b) / 8

-- How many headers a path begins with.
abbrev pub header_count : Path → ℕ
header_count [] = 0
header_count (a ∷ q) = cond (is_header a) (suc (header_count q)) 0

-- How many atoms of the path q of the atom just before are in the next atom's path: all of them for
-- a marker, the headers for a datum, and as many as its level for a header.
abbrev pub depth_after : Path → Atom → ℕ
depth_after q [] = length q
depth_after q (b ∷ bytes) = cond (nat_le 128 b) (level (b ∷ bytes)) (header_count q)

-- The path of an atom that follows one with the path q.
abbrev pub path_after : Path → Atom → Path
path_after q a = take (depth_after q a) q ++ a ∷ []

-- The paths of atoms that follow one with the path q.
abbrev pub paths_after : Path → List Atom → List Path
paths_after q [] = []
paths_after q (a ∷ list) = path_after q a ∷ paths_after (path_after q a) list

-- The path of each atom of a list.
abbrev pub paths : List Atom → List Path
paths = paths_after []

-- The path of the last atom after one with the path q, and q itself where there is none.
abbrev pub last_path_after : Path → List Atom → Path
last_path_after q [] = q
last_path_after q (a ∷ list) = last_path_after (path_after q a) list

-- The atom at a place.
abbrev pub atom_at : List Atom → ℕ → Atom
atom_at list at = slice_index_or list at []

-- The path of the atom before a place, and the empty path before the first.
abbrev pub path_before : List Atom → ℕ → Path
path_before list at = last_path_after [] (take at list)

-- The path of the atom at a place.
abbrev pub path_at : List Atom → ℕ → Path
path_at list at = path_before list (at + 1)
