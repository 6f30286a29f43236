-- The order of atoms and of paths, and lists in order.
use Rattle.std.specs.Prelude.{◌≡◌, ◌⊎◌, List, [], ◌∷◌}
use Rattle.std.specs.declared.cmp.Ordering.{Ordering}
use Rattle.std.specs.declared.cmp.Ordering.TheVariants.{Less, Equal, Greater}
use Rattle.std.specs.Ordering.{nat_cmp}
use Rattle.std.specs.Cmp.Lexicographic.{slice_cmp}
use Rattle.context_model.specs.Atoms.{Atom}

-- A path is a list of atoms: the headers around an atom, and then the atom itself.
abbrev pub Path : Type 0
Path = List Atom

-- The order of atoms: byte by byte, and an atom before each longer one that begins with it.
abbrev pub atom_cmp : Atom → Atom → Ordering
atom_cmp = slice_cmp nat_cmp

-- The order of paths: atom by atom, likewise.
abbrev pub path_cmp : Path → Path → Ordering
path_cmp = slice_cmp atom_cmp

-- x is one of the elements.
abbrev pub IsIn : {K : Type 0} → K → List K → Type 0
IsIn x [] = ⊥
IsIn x (y ∷ ys) = (x ≡ y) ⊎ IsIn x ys

-- Each element comes before the next.
abbrev pub Rises : {K : Type 0} → (K → K → Ordering) → List K → Type 0
Rises R [] = Unit {0}
Rises R (x ∷ []) = Unit {0}
Rises R (x ∷ y ∷ ys) = (R x y ≡ Less) × Rises R (y ∷ ys)

-- The first where the order says less, the second where it says equal, the third where it says
-- greater.
abbrev pub by_order : {A : Type 0} → Ordering → A → A → A → A
by_order Less a b c = a
by_order Equal a b c = b
by_order Greater a b c = c
