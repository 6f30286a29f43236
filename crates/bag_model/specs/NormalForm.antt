-- Normal form: a list without the data to which others of their place are preferred.
use Rattle.std.specs.Prelude.{◌≡◌, ◌↔◌, ℕ, ◌<◌, ◌⊎◌, List, length, slice_get, Some}
use Rattle.std.specs.declared.cmp.Ordering.TheVariants.{Less}
use Rattle.std.specs.Ordering.{nat_cmp}
use Rattle.context_model.specs.Atoms.{Atom}
use Rattle.context_model.specs.Orders.{Path, atom_cmp, IsIn, Rises}
use Rattle.context_model.specs.Paths.{path_at}
use Rattle.context_model.specs.Ended.{field_path}
use Rattle.context_model.specs.WithoutData.{without}
use Rattle.bag_model.specs.declared.Pick.{Pick}
use Rattle.bag_model.specs.declared.Pick.TheVariants.{Least, Greatest}
use Rattle.bag_model.specs.Shapes.{Shape, Nodes, Taint, Scalar, Set, Counter, Map, Bag, no_node, node}
use Rattle.bag_model.specs.Slots.{SlotAt, slots_of}
use Rattle.bag_model.specs.Views.{View, Knows}
use Rattle.bag_model.specs.Readings.{datum_path, key_path, node_path, PathsOf}
use Rattle.bag_model.specs.Typed.{IsSpelling}

-- Which of the data of one place normal form keeps: each of them, the first by bytes, or the last.
pub data Keeping : Type 0 where
  EachDatum LeastDatum GreatestDatum : Keeping

-- Of a scalar's data normal form keeps the one that stays.
abbrev pub kept_by : Pick → Keeping
kept_by Least = LeastDatum
kept_by Greatest = GreatestDatum

-- Data are read at p for a field of this shape at q, and normal form keeps these of them. Below a
-- map's key no data are read where the key is no spelling of a key of the map's kind: there normal
-- form keeps all.
abbrev mutual
  pub HoldsData : Shape → Path → Keeping → Path → Type 0
  HoldsData Taint q keep p = (keep ≡ EachDatum) × (p ≡ q)
  HoldsData (Scalar pick kind) q keep p = (keep ≡ kept_by pick) × (p ≡ q)
  HoldsData (Set kind) q keep p = (keep ≡ EachDatum) × (p ≡ q)
  HoldsData Counter q keep p =
      (keep ≡ GreatestDatum) × ((writer : List ℕ) × (p ≡ key_path q writer))
  HoldsData (Map kind shape) q keep p =
      (key : List ℕ) × IsSpelling kind key × HoldsData shape (key_path q key) keep p
  HoldsData (Bag nodes) q keep p = SomeHoldsData nodes q keep p

  -- Data are read at p for some field of a bag at q, and normal form keeps these of them.
  pub SomeHoldsData : Nodes → Path → Keeping → Path → Type 0
  SomeHoldsData no_node q keep p = ⊥
  SomeHoldsData (node name number shape nodes) q keep p =
      HoldsData shape (node_path q number) keep p ⊎ SomeHoldsData nodes q keep p

-- A datum with the first payload gives way to one with the second at its place.
abbrev pub GivesWay : Keeping → List ℕ → List ℕ → Type 0
GivesWay EachDatum mine other = ⊥
GivesWay LeastDatum mine other = atom_cmp other mine ≡ Less
GivesWay GreatestDatum mine other = atom_cmp mine other ≡ Less

-- p is a datum that gives way to another one of P at its place, in a slot that the view knows.
pub record IsSuperseded (nodes : Nodes) (view : View) (P : Path → Type 0) (p : Path) : Type 0 where
  pub slot : ℕ
  pub at : SlotAt
  pub knows : Knows view slot
  pub there : slice_get (slots_of nodes) slot ≡ Some at
  pub place : Path
  pub keep : Keeping
  pub holds : HoldsData at.shape (field_path at.numbers) keep place
  pub mine : List ℕ
  pub other : List ℕ
  pub is : p ≡ datum_path place mine
  pub stands : P (datum_path place other)
  pub way : GivesWay keep mine other

-- The atom at this place of the list is a datum that is superseded.
abbrev pub IsSupersededAt : Nodes → View → List Atom → ℕ → Type 0
IsSupersededAt nodes view list place =
    (place < length list) × IsSuperseded nodes view (PathsOf list) (path_at list place)

-- The normal form of a list for a view: the list without the data that are superseded, all else in
-- order. The places of these are gone.
pub record IsNormalOf (nodes : Nodes) (view : View) (list normal : List Atom) : Type 0 where
  pub gone : List ℕ
  pub rises : Rises nat_cmp gone
  pub exact : (place : ℕ) → IsIn place gone ↔ IsSupersededAt nodes view list place
  pub left : normal ≡ without gone list
