-- Accessors that are made one after another.
use Rattle.std.proofs.Common.{◌≡◌, ℕ, List, Some}
use Rattle.std.specs.List.{slice_get}
use Rattle.bag_model.specs.Shapes.{Nodes}
use Rattle.accessor_gen.specs.Finding.{IsAccessorOf}
use Rattle.accessor_gen.specs.declared.access.Accessor.{Accessor}

-- Each has its place as the number of its slot.
abbrev pub EachAtPlace : Nodes → List Accessor → Type 0
EachAtPlace nodes made = (place : ℕ) (accessor : Accessor) → slice_get made place ≡ Some accessor → (accessor.slot ≡ place) × IsAccessorOf nodes accessor
