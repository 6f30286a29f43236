-- The fields of a bag as they are kept: in order, with the two indexes over them.
use Rattle.std.specs.Prelude.{◌≡◌, ◌≢◌, ℕ, ◌-◌, ◌^◌, ◌+◌, ◌<◌, ◌≤◌, zero, suc, min, List, [], ◌∷◌, map, length, get_or, Option, Some, None}
use Rattle.std.specs.List.{slice_get, slice_index}
use Rattle.std.specs.Cmp.Lexicographic.{slice_cmp}
use Rattle.std.specs.Ordering.{nat_cmp}
use Rattle.std.specs.declared.cmp.Ordering.TheVariants.{Less, Greater}
use Rattle.context_model.specs.Orders.{IsIn}
use Rattle.bag_model.specs.declared.TheConstants.{FIELDS_MAX}
use Rattle.bag_model.specs.declared.Pick.{Pick}
use Rattle.bag_model.specs.Scalars as scalars
use Rattle.bag_model.specs.Shapes as model
use Rattle.bag_model.specs.Slots.{slot_count, slots_of, starts}
use Rattle.bag_model.specs.Tables.{AreFields}

mutual
  -- A shape, with the indexes of all bags in it.
  pub data Kept : Type 0 where
    Taint : Kept
    Scalar : Pick → scalars.ScalarKind → Kept
    Set : scalars.ScalarKind → Kept
    Counter : Kept
    Map : scalars.ScalarKind → Kept → Kept
    Bag : KeptBag → Kept

  -- The fields, how many slots there are up to the end of each, and the places of the fields by
  -- name.
  pub data KeptBag : Type 0 where
    kept : KeptNodes → List ℕ → List ℕ → KeptBag

  -- The fields, each with its name, its number and its shape.
  pub data KeptNodes : Type 0 where
    no_node : KeptNodes
    node : List ℕ → ℕ → Kept → KeptNodes → KeptNodes

-- A field by itself.
pub record KeptField : Type 0 where
  pub name : List ℕ
  pub number : ℕ
  pub shape : Kept

-- Fields by themselves as the fields of a bag.
abbrev pub kept_nodes : List KeptField → KeptNodes
kept_nodes [] = no_node
kept_nodes (field ∷ list) = node field.name field.number field.shape (kept_nodes list)

-- A kept shape without its indexes.
abbrev mutual
  pub plain_shape : Kept → model.Shape
  plain_shape Taint = model.Shape.Taint
  plain_shape (Scalar pick kind) = model.Shape.Scalar pick kind
  plain_shape (Set kind) = model.Shape.Set kind
  plain_shape Counter = model.Shape.Counter
  plain_shape (Map key value) = model.Shape.Map key (plain_shape value)
  plain_shape (Bag bag) = model.Shape.Bag (plain_bag bag)

  -- The fields of a kept bag without their indexes.
  pub plain_bag : KeptBag → model.Nodes
  plain_bag (kept nodes ends by_name) = plain_nodes nodes

  -- Kept fields without their indexes.
  pub plain_nodes : KeptNodes → model.Nodes
  plain_nodes no_node = model.Nodes.no_node
  plain_nodes (node name number shape nodes) =
      model.Nodes.node name number (plain_shape shape) (plain_nodes nodes)

-- The greatest number that is kept; counts stop there.
abbrev pub capped : ℕ → ℕ
capped n = min n (2 ^ 64 - 1)

-- How many slots there are up to the end of each field, where `before` slots come before the first.
abbrev pub ends_after : ℕ → List model.Field → List ℕ
ends_after before [] = []
ends_after before (field ∷ list) =
    capped (before + slot_count field.shape) ∷ ends_after (before + slot_count field.shape) list

-- The name of a field.
abbrev pub name : model.Field → List ℕ
name field = field.name

-- The places of all names, in any order.
pub record HasPlaces (names : List (List ℕ)) (places : List ℕ) : Type 0 where
  pub all : (place : ℕ) → place < length names → IsIn place places
  pub below : (k : ℕ) → k < length places → slice_index places k < length names

-- The places of all names, in the order of the names.
pub record IsNameOrder (names : List (List ℕ)) (places : List ℕ) : Type 0 where
  pub places_are : HasPlaces names places
  pub sorted : (i j : ℕ) → i < j → j < length places
      → slice_cmp nat_cmp (get_or names (slice_index places i) [])
      (get_or names (slice_index places j) []) ≢ Greater

-- The places of the bag's fields are in the order of their names.
abbrev pub IsInOrder : KeptBag → Type 0
IsInOrder (kept nodes ends by_name) =
    IsNameOrder (map name (model.fields (plain_nodes nodes))) by_name

-- In a field of this shape the indexes of each bag are those of its fields, and in the order of
-- names.
abbrev mutual
  pub IsKept : Kept → Type 0
  IsKept Taint = Unit {0}
  IsKept (Scalar pick kind) = Unit {0}
  IsKept (Set kind) = Unit {0}
  IsKept Counter = Unit {0}
  IsKept (Map key value) = IsKept value
  IsKept (Bag bag) = IsKeptBag bag × IsInOrder bag

  -- The indexes of a bag are those of its fields, and those of each bag inside are too, and in the
  -- order of names.
  pub IsKeptBag : KeptBag → Type 0
  IsKeptBag (kept nodes ends by_name) =
      (ends ≡ ends_after 0 (model.fields (plain_nodes nodes)))
      × HasPlaces (map name (model.fields (plain_nodes nodes))) by_name × AreKept nodes

  -- In each of these fields the indexes of each bag are those of its fields, and in the order of
  -- names.
  pub AreKept : KeptNodes → Type 0
  AreKept no_node = Unit {0}
  AreKept (node name number shape nodes) = IsKept shape × AreKept nodes

-- In a shape that no field has yet the indexes of each bag are those of its fields; the places in
-- its own bag may be in any order.
abbrev pub IsLoose : Kept → Type 0
IsLoose Taint = Unit {0}
IsLoose (Scalar pick kind) = Unit {0}
IsLoose (Set kind) = Unit {0}
IsLoose Counter = Unit {0}
IsLoose (Map key value) = IsLoose value
IsLoose (Bag bag) = IsKeptBag bag

-- The index of a bag by slots: how many there are up to the end of each field.
abbrev pub ends_of : KeptBag → List ℕ
ends_of (kept nodes ends by_name) = ends

-- The rank is the number of names that are less than this one.
pub record IsRank (names : List (List ℕ)) (places : List ℕ) (name : List ℕ)
    (rank : ℕ) : Type 0 where
  pub within : rank ≤ length places
  pub before : (k : ℕ) → k < rank
      → slice_cmp nat_cmp (get_or names (slice_index places k) []) name ≡ Less
  pub behind : (k : ℕ) → rank ≤ k → k < length places
      → slice_cmp nat_cmp (get_or names (slice_index places k) []) name ≢ Less

-- The place of a name, or none where it isn't among them.
abbrev pub IsPlaceOf : List (List ℕ) → List ℕ → Option ℕ → Type 0
IsPlaceOf names name (Some place) = slice_get names place ≡ Some name
IsPlaceOf names name None = (place : ℕ) → slice_get names place ≢ Some name

-- The field with this number and its place, or none where no field has it.
abbrev pub FindsNumber : List model.Field → ℕ → Option (ℕ × model.Field) → Type 0
FindsNumber list number (Some found) =
    (slice_get list found.0 ≡ Some found.1) × (found.1.number ≡ number)
FindsNumber list number None =
    (place : ℕ) (field : model.Field) → slice_get list place ≡ Some field → field.number ≢ number

-- What look-ups rest on: the fields are a bag's, the indexes are right and in order, and all
-- numbers of slots are kept.
pub record IsReady (bag : KeptBag) : Type 0 where
  pub fields : AreFields (plain_bag bag)
  pub indexed : IsKeptBag bag
  pub in_order : IsInOrder bag
  pub small : length (slots_of (plain_bag bag)) ≤ FIELDS_MAX

-- How many slots there are before the field at this place, as the ends say.
abbrev pub start_at : List ℕ → ℕ → ℕ
start_at ends zero = 0
start_at ends (suc place) = slice_index ends place

-- The field at this place holds the slot with this number.
pub record Holds (nodes : model.Nodes) (slot place : ℕ) : Type 0 where
  pub within : place < length (model.fields nodes)
  pub from : starts (model.fields nodes) place ≤ slot
  pub upto : slot < starts (model.fields nodes) (suc place)
