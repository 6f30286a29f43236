-- What a list of atoms says fits atoms again.
use Rattle.std.proofs.Common.{inl, inr, ◌-◌, ◌*◌, ◌≤◌, List, [], ◌∷◌, ◌++◌, length, take, Some, None, sym, ap, subst, ◌∙◌}
use Rattle.context_model.specs.declared.TheConstants.{ATOM_MAX}
use Rattle.context_model.specs.Atoms.{Atom, AreAtoms}
use Rattle.context_model.specs.Merged.{last_atom}
use Rattle.context_model.specs.Orders.{Path, IsIn}
use Rattle.context_model.specs.Paths.{depth_after, path_after, paths_after}
use Rattle.context_model.proofs.GreedyElements.{All-from}
use Rattle.context_model.proofs.MergeLaws.{EachPair-at, EachPair-from, IsIn-keys_of}
use Rattle.bag_model.specs.Readings.{key_path, node_path, PathsOf, Reads, ReadsEach}
use Rattle.bag_model.specs.Scalars.{spelling}
use Rattle.bag_model.specs.Shapes as shapes
use Rattle.bag_model.specs.Shapes.{Shape, Nodes, no_node, node}
use Rattle.bag_model.specs.Values.{Value, Values, Taint, Scalar, Set, Counter, Map, Bag, no_value, value, pairs}
use Rattle.bag_codec.specs.Encodable.{HasRoom, FitsAtom, IsEncodable, AreEncodable}
use Rattle.bag_codec.proofs.Layouts.{Fits, last_is, room_behind}

-- The last atom of each path of a list of atoms is within the limit.
fits_after : (q : Path) (list : List Atom) (p : Path) → AreAtoms list → IsIn p (paths_after q list) → Fits p
fits_after q [] p all none = absurd none
fits_after q (a ∷ list) p all (inl e) =
    subst (λ (b : Atom). length b ≤ ATOM_MAX) (sym (ap last_atom e ∙ last_is (take (depth_after q a) q) a)) all.0
fits_after q (a ∷ list) p all (inr i) = fits_after (path_after q a) list p all.1 i

pub paths_fit : (list : List Atom) (p : Path) → AreAtoms list → PathsOf list p → Fits p
paths_fit list p all i = fits_after [] list p all i

module _ (P : Path → Type 0) (fits : (p : Path) → P p → Fits p) where
  mutual
    -- What is said by paths that fit can be encoded.
    pub read_encodable : (shape : Shape) (q : Path) (v : Value) → Reads shape P q v → IsEncodable shape v
    read_encodable shapes.Taint q (Taint on) r = tt
    read_encodable shapes.Taint q v r = absurd r
    read_encodable (shapes.Scalar pick kind) q (Scalar own None) r = r.0
    read_encodable (shapes.Scalar pick kind) q (Scalar own (Some v)) r = (r.0, (r.1.0.0, room_behind q 0 (spelling kind v) (fits (q ++ (0 ∷ spelling kind v) ∷ []) r.1.0.1)))
    read_encodable (shapes.Scalar pick kind) q v r = absurd r
    read_encodable (shapes.Set kind) q (Set own vs) r = (
      r.0,
      All-from (FitsAtom kind) vs
          (λ v i. let h = (r.2 v).0 i in (h.0, room_behind q 0 (spelling kind v) (fits (q ++ (0 ∷ spelling kind v) ∷ []) h.1))),
    )
    read_encodable (shapes.Set kind) q v r = absurd r
    read_encodable shapes.Counter q (Counter counts) r =
        EachPair-from (λ writer n. HasRoom writer) counts
        (λ writer n at. room_behind q (249 - 8 * length q) writer (fits (key_path q writer) ((r.1 writer).0 (IsIn-keys_of counts writer n at))))
    read_encodable shapes.Counter q v r = absurd r
    read_encodable (shapes.Map kind shape) q (Map es) r =
        EachPair-from (λ key v. FitsAtom kind key × IsEncodable shape v) (pairs es)
        (λ key v at.
        let path = key_path q (spelling kind key) in
        let own = (r.1 key).0 (IsIn-keys_of (pairs es) key v at) in (
          (own.0, room_behind q (249 - 8 * length q) (spelling kind key) (fits path own.1)),
          read_encodable shape path v (EachPair-at (λ key v. Reads shape P (key_path q (spelling kind key)) v) (pairs es) key v r.2 at),
        ))
    read_encodable (shapes.Map kind shape) q v r = absurd r
    read_encodable (shapes.Bag nodes) q (Bag vs) r = read_each_encodable nodes q vs r
    read_encodable (shapes.Bag nodes) q v r = absurd r

    pub read_each_encodable : (nodes : Nodes) (q : Path) (vs : Values) → ReadsEach nodes P q vs → AreEncodable nodes vs
    read_each_encodable no_node q no_value r = tt
    read_each_encodable no_node q (value v vs) r = absurd r
    read_each_encodable (node name number shape nodes) q no_value r = absurd r
    read_each_encodable (node name number shape nodes) q (value v vs) r =
        (read_encodable shape (node_path q number) v r.0, read_each_encodable nodes q vs r.1)
