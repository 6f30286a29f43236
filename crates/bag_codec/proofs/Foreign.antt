-- Lists that differ in foreign paths and markers alone say the same.
use Rattle.std.proofs.Common.{◌≡◌, ◌≢◌, inl, inr, ℕ, ◌-◌, ◌*◌, List, [], ◌∷◌, ◌++◌, length, sym, ap, ◌∙◌}
use Rattle.context_model.specs.Atoms.{Atom}
use Rattle.context_model.specs.Merged.{last_atom}
use Rattle.context_model.specs.Orders.{Path}
use Rattle.context_model.specs.Varints.{unsigned_varint}
use Rattle.bag_model.specs.Encodings.{IsUsed, AreUsed}
use Rattle.bag_model.specs.Readings.{key_path, node_path, PathsOf}
use Rattle.bag_model.specs.Shapes.{Shape, Nodes, Taint, Scalar, Set, Counter, Map, Bag, no_node, node}
use Rattle.bag_model.proofs.ForeignLaws.{encoding_not_foreign, foreign_unread}
use Rattle.bag_codec.specs.Laws.{HasNamed, ForeignIsUnread}
use Rattle.bag_codec.proofs.Layouts.{last_is}

-- A path that ends with an atom of a byte or more is no marker's.
no_marker : (q p : Path) (first : ℕ) (bytes : List ℕ) → p ≡ q ++ (first ∷ bytes) ∷ [] → last_atom p ≢ []
no_marker q p first bytes e none = let same : first ∷ bytes ≡ [] = sym (last_is q (first ∷ bytes)) ∙ sym (ap last_atom e) ∙ none in cc same

mutual
  used_no_marker : (shape : Shape) (q p : Path) → IsUsed shape q p → last_atom p ≢ []
  used_no_marker Taint q p u = no_marker q p 0 u.0 u.1
  used_no_marker (Scalar pick kind) q p u = no_marker q p 0 u.0 u.1
  used_no_marker (Set kind) q p u = no_marker q p 0 u.0 u.1
  used_no_marker Counter q p u =
      elim u.1 [
        | inl e ↦ no_marker q p (249 - 8 * length q) u.0 e
        | inr d ↦ no_marker (key_path q u.0) p 0 d.0 d.1
      ]
  used_no_marker (Map kind shape) q p u =
      elim u.1 [
        | inl e ↦ no_marker q p (249 - 8 * length q) u.0 e
        | inr d ↦ used_no_marker shape (key_path q u.0) p d
      ]
  used_no_marker (Bag nodes) q p u = each_no_marker nodes q p u

  each_no_marker : (nodes : Nodes) (q p : Path) → AreUsed nodes q p → last_atom p ≢ []
  each_no_marker no_node q p u = absurd u
  each_no_marker (node name number shape nodes) q p u =
      elim u [
        | inl e ↦ no_marker q p (248 - 8 * length q) (unsigned_varint number) e
        | inr d ↦ elim d [ inl i ↦ used_no_marker shape (node_path q number) p i | inr i ↦ each_no_marker nodes q p i ]
      ]

-- A path that the table names is one of the other list.
named : (nodes : Nodes) (a b : List Atom) → HasNamed nodes a b → (p : Path) → AreUsed nodes [] p → PathsOf a p → PathsOf b p
named nodes a b has p used i = has p i (each_no_marker nodes [] p used) (λ f. f.2 used)

pub foreign_is_unread : ForeignIsUnread
foreign_is_unread = record {
  unread = λ nodes a b vs there back says. foreign_unread nodes a b vs (λ p used. (named nodes a b there p used, named nodes b a back p used)) says;
  none = encoding_not_foreign;
}
