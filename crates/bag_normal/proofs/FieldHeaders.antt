-- One turn of a walk over the fields of a bag, as the list has them: the next field is found, or there is none.
use Rattle.std.proofs.Common.{◌≡◌, ℕ, ◌+◌, ◌≤◌, true, List, [], ◌∷◌, ◌++◌, length, Some, sym, ap, ◌∙◌, subst, arith}
use Rattle.std.specs.List.{slice_get}
use Rattle.context_model.specs.Atoms.{Atom}
use Rattle.context_model.specs.Kinds.{atom_of}
use Rattle.context_model.specs.Kinds.Kind.{Indexed}
use Rattle.context_model.specs.Orders.{Path}
use Rattle.context_model.specs.Paths.{is_header, level, atom_at, path_before}
use Rattle.bag_model.specs.Readings.{PathsOf, node_path}
use Rattle.bag_model.specs.Shapes.{Nodes, Field, fields}
use Rattle.bag_model.specs.Tables.{IsShape, AreFields, levels, levels_under}
use Rattle.bag_model.proofs.PathLaws.{is_field}
use Rattle.bag_walks.specs.Parts.{IsBehind, StaysBelow}
use Rattle.bag_walks.proofs.Turns.{level_below}
use Rattle.bag_scan.proofs.FieldHeaders.{one_field, heads_level}
use Rattle.field_table.proofs.Held.{levels_there}
use Rattle.bag_normal.specs.Data.{AddsPlaces}
use Rattle.bag_scan.specs.Headers.{IsFieldHeader, PassesNoField, IsFieldFound, HasNoField}
use Rattle.bag_normal.proofs.Turns.{PassesNone, HoldsAtWanted, AddsBehind, header_below_own, headers_more, headers_all}
use Rattle.bag_normal.proofs.Places.{adds_same}

-- The header of some field.
pub record HeadsField (nodes : Nodes) (depth : ℕ) (header : Atom) : Type 0 where
  pub at : ℕ
  pub field : Field
  pub heads : IsFieldHeader nodes depth header at field

-- R holds of the field with the header, and of the place, where its path is that of the header
-- after q.
pub record AtField (nodes : Nodes) (depth : ℕ) (R : ℕ → Field → Path → ℕ → Type 0) (q : Path) (header : Atom) (place : ℕ) : Type 0 where
  pub at : ℕ
  pub field : Field
  pub heads : IsFieldHeader nodes depth header at field
  pub holds : R at field (q ++ header ∷ []) place

-- R holds of some field after q, and of the place.
pub record HoldsAtField (nodes : Nodes) (R : ℕ → Field → Path → ℕ → Type 0) (q : Path) (place : ℕ) : Type 0 where
  pub at : ℕ
  pub field : Field
  pub there : slice_get (fields nodes) at ≡ Some field
  pub holds : R at field (node_path q field.number) place

-- What was added at the fields up to a place.
abbrev pub AddsFields : Nodes → (ℕ → Field → Path → ℕ → Type 0) → List Atom → Path → ℕ → ℕ → ℕ → List ℕ → List ℕ → Type 0
AddsFields nodes R list q depth from to before after = AddsBehind (HeadsField nodes depth) (AtField nodes depth R q) list depth from to before after

-- The header of the next field is right before a place: what a call on the field asks for, and that
-- what is added there is added to that at the earlier fields.
pub record FieldTurn (nodes : Nodes) (R : ℕ → Field → Path → ℕ → Type 0) (list : List Atom) (q : Path) (depth from at : ℕ) (before gone : List ℕ) (i : ℕ) (f : Field) (start : ℕ) : Type 0 where
  pub starts : IsBehind list (path_before list start) start
  pub deeper : length (path_before list start) ≡ depth + 1
  pub shape : IsShape f.shape
  pub room : depth + 1 + levels_under f.shape ≤ 16
  pub on : at ≤ start
  pub more : (stop : ℕ) → StaysBelow list (depth + 1) start stop → (after : List ℕ) → AddsPlaces (R i f (path_before list start)) gone after → AddsFields nodes R list q depth from stop before after

module _ (nodes : Nodes) (R : ℕ → Field → Path → ℕ → Type 0) (list : List Atom) (q : Path) (depth from at : ℕ) (own : length q ≡ depth) (are : AreFields nodes)
    (room : depth + levels nodes ≤ 16) (behind : IsBehind list q from) (before gone : List ℕ) (come : AddsFields nodes R list q depth from at before gone) where
  at_level : (h : Atom) → HeadsField nodes depth h → (is_header h ≡ true) × (level h ≡ depth)
  at_level h w = heads_level nodes depth h w.at w.field room w.heads

  passes : (to : ℕ) → PassesNoField nodes list depth at to → PassesNone (HeadsField nodes depth) list depth at to
  passes to p = record { stays = p.stays; none = λ k l m w. p.none k w.at w.field l m w.heads }

  -- ---- the next field is before a place

  module _ (i : ℕ) (f : Field) (start : ℕ) (found : IsFieldFound nodes list depth at i f start) where
    wanted : HeadsField nodes depth (atom_at list found.place)
    wanted = record { at = i; field = f; heads = found.header }

    below : IsBehind list (q ++ atom_at list found.place ∷ []) start
    below =
        subst (IsBehind list (q ++ atom_at list found.place ∷ [])) (sym found.next)
        (header_below_own (HeadsField nodes depth) (AtField nodes depth R q) list q depth from at own at_level behind before gone come found.place (passes found.place found.before) found.within wanted)

    fields_more : (stop : ℕ) → StaysBelow list (depth + 1) start stop → (after : List ℕ) → AddsPlaces (R i f (path_before list start)) gone after → AddsFields nodes R list q depth from stop before after
    fields_more stop deep after adds =
        headers_more (HeadsField nodes depth) (AtField nodes depth R q) list q depth from at own at_level behind before gone come found.place (passes found.place found.before) found.within wanted
        stop (subst (λ n. StaysBelow list (depth + 1) n stop) found.next deep) after
        (adds_same (R i f (path_before list start)) (AtField nodes depth R q (atom_at list found.place)) gone after (λ p. (
          λ r. record { at = i; field = f; heads = found.header; holds = subst (λ v. R i f v p) below.path r },
          λ s. back p s,
        )) adds)
      where
        back : (p : ℕ) → AtField nodes depth R q (atom_at list found.place) p → R i f (path_before list start) p
        back p s =
            let same : s.at ≡ i = one_field nodes depth (atom_at list found.place) s.at i s.field f are s.heads found.header in
            let there : slice_get (fields nodes) i ≡ Some s.field = subst (λ n. slice_get (fields nodes) n ≡ Some s.field) same s.heads.there in
            let one : s.field ≡ f = (let e : Some s.field ≡ Some f = sym there ∙ found.header.there in cc e) in
            subst (λ v. R i f v p) (sym below.path) (subst (λ g. R i g (q ++ atom_at list found.place ∷ []) p) one (subst (λ n. R n s.field (q ++ atom_at list found.place ∷ []) p) same s.holds))

    pub field_turn : FieldTurn nodes R list q depth from at before gone i f start
    field_turn = record {
      starts = subst (λ p. IsBehind list p start) (sym below.path) below;
      deeper = level_below list q depth start (atom_at list found.place) own below;
      shape = (is_field nodes i f are found.header.there).1;
      room = omega (arith, levels_there nodes i f found.header.there, room);
      on = omega (arith, found.before.stays.rises, found.next);
      more = fields_more;
    }

  -- ---- there is none

  module _ (stop : ℕ) (missing : HasNoField nodes list depth at stop) where
    -- Then what was added is all.
    pub fields_all : ((i : ℕ) (f : Field) (p : ℕ) → R i f (node_path q f.number) p → PathsOf list (node_path q f.number)) → AddsPlaces (HoldsAtField nodes R q) before gone
    fields_all below =
        adds_same (HoldsAtWanted (HeadsField nodes depth) (AtField nodes depth R q)) (HoldsAtField nodes R q) before gone (λ p. (
          λ s. record { at = s.holds.at; field = s.holds.field; there = s.holds.heads.there; holds = subst (λ h. R s.holds.at s.holds.field (q ++ h ∷ []) p) (its s.header s.holds.at s.holds.field s.holds.heads) s.holds.holds },
          λ s. let heads : IsFieldHeader nodes depth (atom_of (Indexed (length q) s.field.number)) s.at s.field = record { there = s.there; is = ap (λ d. atom_of (Indexed d s.field.number)) own } in
              record {
                header = atom_of (Indexed (length q) s.field.number);
                wanted = record { at = s.at; field = s.field; heads = heads };
                holds = record { at = s.at; field = s.field; heads = heads; holds = s.holds };
              },
        ))
        (headers_all (HeadsField nodes depth) (AtField nodes depth R q) list q depth from at own at_level behind before gone come stop (passes stop missing.before) missing.segment
        (λ h p w s. subst (λ g. PathsOf list (q ++ g ∷ [])) (sym (its h s.at s.field s.heads))
        (below s.at s.field p (subst (λ g. R s.at s.field (q ++ g ∷ []) p) (its h s.at s.field s.heads) s.holds))))
      where
        its : (h : Atom) (i : ℕ) (f : Field) → IsFieldHeader nodes depth h i f → h ≡ atom_of (Indexed (length q) f.number)
        its h i f heads = heads.is ∙ ap (λ d. atom_of (Indexed d f.number)) (sym own)
