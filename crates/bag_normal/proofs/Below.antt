-- What is superseded in a field of each shape.
use Rattle.std.proofs.Common.{◌≡◌, inl, inr, ◌↔◌, ℕ, zero, suc, List, [], ◌∷◌, ◌++◌, length, slice_get, Some, refl, sym, ◌∙◌, subst, append_assoc}
use Rattle.context_model.specs.Atoms.{Atom}
use Rattle.context_model.specs.Kinds.{atom_of}
use Rattle.context_model.specs.Kinds.Kind.{Indexed, Keyed}
use Rattle.context_model.specs.Orders.{Path, IsIn}
use Rattle.context_model.specs.Paths.{paths}
use Rattle.context_model.proofs.PlacesOf.{path_there, front_is_path}
use Rattle.bag_model.specs.declared.Pick.{Pick}
use Rattle.bag_model.specs.NormalForm.{Keeping, GreatestDatum, kept_by, HoldsData, SomeHoldsData}
use Rattle.bag_model.specs.Readings.{PathsOf, key_path, node_path}
use Rattle.bag_model.specs.Scalars.{ScalarKind}
use Rattle.bag_model.specs.Typed.{IsSpelling}
use Rattle.bag_model.specs.Shapes.{Shape, Nodes, Field, fields, Scalar, Counter, Map, Bag, no_node, node}
use Rattle.bag_model.proofs.DataPlaces.{HoldsData-below}
use Rattle.bag_model.proofs.PathsApart.{key_one}
use Rattle.bag_normal.specs.Known.{GivesWayAt, IsSupersededIn, HoldsAtKey}
use Rattle.bag_normal.proofs.FieldHeaders.{HoldsAtField}

-- ---- one path, or one after each key

pub scalar_is : (pick : Pick) (kind : ScalarKind) (list : List Atom) (q : Path) (place : ℕ) → GivesWayAt (kept_by pick) list q place ↔ IsSupersededIn (Scalar pick kind) list q place
scalar_is pick kind list q place = (
  λ w. record { keep = kept_by pick; path = q; holds = (refl, refl); way = w },
  λ s. subst (λ k. GivesWayAt k list q place) s.holds.0 (subst (λ p. GivesWayAt s.keep list p place) s.holds.1 s.way),
)

pub counter_is : (list : List Atom) (q : Path) (place : ℕ) → HoldsAtKey (GivesWayAt GreatestDatum list) q place ↔ IsSupersededIn Counter list q place
counter_is list q place = (
  λ h. record { keep = GreatestDatum; path = key_path q h.key; holds = (refl, (h.key, refl)); way = h.holds },
  λ s. record {
    key = s.holds.1.0;
    holds = subst (λ k. GivesWayAt k list (key_path q s.holds.1.0) place) s.holds.0 (subst (λ p. GivesWayAt s.keep list p place) s.holds.1.1 s.way);
  },
)

-- p is the path of a spelled key after q, and the place is superseded in the value there.
pub record IsSupersededAtKey (kind : ScalarKind) (shape : Shape) (list : List Atom) (q p : Path) (place : ℕ) : Type 0 where
  pub key : List ℕ
  pub spelled : IsSpelling kind key
  pub is : p ≡ key_path q key
  pub holds : IsSupersededIn shape list p place

pub map_is : (kind : ScalarKind) (shape : Shape) (list : List Atom) (q : Path) (place : ℕ) → HoldsAtKey (IsSupersededAtKey kind shape list q) q place ↔ IsSupersededIn (Map kind shape) list q place
map_is kind shape list q place = (
  λ h. let s = h.holds in record {
    keep = s.holds.keep;
    path = s.holds.path;
    holds = (s.key, s.spelled, subst (λ p. HoldsData shape p s.holds.keep s.holds.path) s.is s.holds.holds);
    way = s.holds.way;
  },
  λ s. record {
    key = s.holds.0;
    holds = record { key = s.holds.0; spelled = s.holds.1; is = refl; holds = record { keep = s.keep; path = s.path; holds = s.holds.2; way = s.way } };
  },
)

-- At a key that is a spelling goes what is superseded in its value, and at one that is none nothing goes.
module _ (kind : ScalarKind) (shape : Shape) (list : List Atom) (q p : Path) (key : List ℕ) (is : p ≡ key_path q key) where
  pub at_spelling : IsSpelling kind key → (place : ℕ) → IsSupersededIn shape list p place ↔ IsSupersededAtKey kind shape list q p place
  at_spelling spelled place = (λ s. record { key = key; spelled = spelled; is = is; holds = s }, λ s. s.holds)

  pub at_none : (IsSpelling kind key → ⊥) → (place : ℕ) → IsSupersededAtKey kind shape list q p place → ⊥
  at_none none place s = none (subst (IsSpelling kind) (key_one q s.key key (sym s.is ∙ is)) s.spelled)

-- ---- some field of a bag

-- Some field holds data at the path.
record HasHolder (nodes : Nodes) (q : Path) (keep : Keeping) (p : Path) : Type 0 where
  index : ℕ
  field : Field
  there : slice_get (fields nodes) index ≡ Some field
  holds : HoldsData field.shape (node_path q field.number) keep p

holder_of : (nodes : Nodes) (q : Path) (keep : Keeping) (p : Path) → SomeHoldsData nodes q keep p → HasHolder nodes q keep p
holder_of no_node q keep p none = absurd none
holder_of (node name number shape nodes) q keep p (inl h) = record { index = 0; field = record { name = name; number = number; shape = shape }; there = refl; holds = h }
holder_of (node name number shape nodes) q keep p (inr h) =
    let s = holder_of nodes q keep p h in record { index = suc s.index; field = s.field; there = s.there; holds = s.holds }

holder_back : (nodes : Nodes) (q : Path) (keep : Keeping) (p : Path) (i : ℕ) (f : Field) → slice_get (fields nodes) i ≡ Some f → HoldsData f.shape (node_path q f.number) keep p → SomeHoldsData nodes q keep p
holder_back no_node q keep p i f e h = cc
holder_back (node name number shape nodes) q keep p zero f e h =
    let same : record { name = name; number = number; shape = shape } ≡ f = cc in
    inl (subst (λ (g : Field). HoldsData g.shape (node_path q g.number) keep p) (sym same) h)
holder_back (node name number shape nodes) q keep p (suc i) f e h = inr (holder_back nodes q keep p i f e h)

-- It is superseded in a field of this shape, whatever its place.
abbrev pub InField : List Atom → ℕ → Field → Path → ℕ → Type 0
InField list at field p place = IsSupersededIn field.shape list p place

pub bag_is : (nodes : Nodes) (list : List Atom) (q : Path) (place : ℕ) → HoldsAtField nodes (InField list) q place ↔ IsSupersededIn (Bag nodes) list q place
bag_is nodes list q place = (
  λ s. record { keep = s.holds.keep; path = s.holds.path; holds = holder_back nodes q s.holds.keep s.holds.path s.at s.field s.there s.holds.holds; way = s.holds.way },
  λ s. let h = holder_of nodes q s.keep s.path s.holds in
      record { at = h.index; field = h.field; there = h.there; holds = record { keep = s.keep; path = s.path; holds = h.holds; way = s.way } },
)

-- ---- what is superseded is below the field's header

pub gives_way_below : (keep : Keeping) (list : List Atom) (q r : Path) (h : Atom) (place : ℕ) → GivesWayAt keep list (q ++ h ∷ r) place → PathsOf list (q ++ h ∷ [])
gives_way_below keep list q r h place w =
    front_is_path list q (r ++ (0 ∷ w.goes.mine) ∷ []) h
    (subst (λ p. IsIn p (paths list)) (w.goes.is ∙ append_assoc q (h ∷ r) ((0 ∷ w.goes.mine) ∷ [])) (path_there list place w.within))

pub superseded_below : (shape : Shape) (list : List Atom) (q : Path) (h : Atom) (place : ℕ) → IsSupersededIn shape list (q ++ h ∷ []) place → PathsOf list (q ++ h ∷ [])
superseded_below shape list q h place s =
    let (r, e) = HoldsData-below shape (q ++ h ∷ []) s.keep s.path s.holds in
    gives_way_below s.keep list q r h place (subst (λ p. GivesWayAt s.keep list p place) (e ∙ append_assoc q (h ∷ []) r) s.way)

pub key_gives_way : (keep : Keeping) (list : List Atom) (q : Path) (key : List ℕ) (place : ℕ) → GivesWayAt keep list (key_path q key) place → PathsOf list (key_path q key)
key_gives_way keep list q key place w = gives_way_below keep list q [] (atom_of (Keyed (length q) key)) place w

pub key_superseded : (shape : Shape) (list : List Atom) (q : Path) (key : List ℕ) (place : ℕ) → IsSupersededIn shape list (key_path q key) place → PathsOf list (key_path q key)
key_superseded shape list q key place s = superseded_below shape list q (atom_of (Keyed (length q) key)) place s

pub node_superseded : (shape : Shape) (list : List Atom) (q : Path) (number place : ℕ) → IsSupersededIn shape list (node_path q number) place → PathsOf list (node_path q number)
node_superseded shape list q number place s = superseded_below shape list q (atom_of (Indexed (length q) number)) place s
