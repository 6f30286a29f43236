-- What is read where there is nothing.
use Rattle.std.proofs.Common.{[], ◌∷◌, ◌++◌, refl, subst, append_assoc}
use Rattle.context_model.specs.Atoms.{Atom}
use Rattle.context_model.specs.Kinds.{atom_of}
use Rattle.context_model.specs.Kinds.Kind.{Datum}
use Rattle.context_model.specs.Orders.{Path}
use Rattle.bag_model.specs.Readings.{node_path, Reads, ReadsEach}
use Rattle.bag_model.specs.Shapes.{Shape, Nodes, Taint, Scalar, Set, Counter, Map, Bag, no_node, node}
use Rattle.bag_model.specs.Values.{bottom, bottoms}

-- There is nothing at q or below it.
abbrev pub IsBare : (Path → Type 0) → Path → Type 0
IsBare P q = (r : Path) → P (q ++ r) → ⊥

bare_child : (P : Path → Type 0) (q : Path) (h : Atom) → IsBare P q → IsBare P (q ++ h ∷ [])
bare_child P q h bare r p = bare (h ∷ r) (subst P (append_assoc q (h ∷ []) r) p)

-- Where there is nothing, bottom is read.
mutual
  pub Reads-bare : (shape : Shape) (P : Path → Type 0) (q : Path) → IsBare P q → Reads shape P q (bottom shape)
  Reads-bare Taint P q bare = ((λ t. cc), λ (payload, p). absurd (bare (atom_of (Datum payload) ∷ []) p))
  Reads-bare (Scalar pick kind) P q bare = (refl, λ w h. bare _ h.1)
  Reads-bare (Set kind) P q bare = (refl, tt, λ v. ((λ none. absurd none), λ h. absurd (bare _ h.1)))
  Reads-bare Counter P q bare = (tt, λ writer. ((λ none. absurd none), λ p. absurd (bare _ p)), tt)
  Reads-bare (Map kind shape) P q bare = (tt, λ key. ((λ none. absurd none), λ h. absurd (bare _ h.1)), tt)
  Reads-bare (Bag nodes) P q bare = ReadsEach-bare nodes P q bare

  pub ReadsEach-bare : (nodes : Nodes) (P : Path → Type 0) (q : Path) → IsBare P q → ReadsEach nodes P q (bottoms nodes)
  ReadsEach-bare no_node P q bare = tt
  ReadsEach-bare (node name number shape nodes) P q bare = (Reads-bare shape P (node_path q number) (bare_child P q _ bare), ReadsEach-bare nodes P q bare)
