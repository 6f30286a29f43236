-- The loop over the keys of a map with their values.
use Rattle.std.proofs.Common.{◌≡◌, ℕ, zero, suc, ◌+◌, ◌<◌, List, [], ◌∷◌, ◌++◌, length, map, drop, get_or, sym, ap, subst, arith}
use Rattle.context_model.specs.Atoms.{Atom}
use Rattle.context_model.specs.KeyedMerge.{EachPair}
use Rattle.context_model.proofs.MergeSteps.{drop-place}
use Rattle.bag_model.specs.Scalars.{ScalarKind, ScalarValue, IsScalarOf}
use Rattle.bag_model.specs.Shapes.{Shape}
use Rattle.bag_model.specs.Values.{Value, IsOfShape}
use Rattle.bag_model.proofs.OfShape.{IsEntryOf}
use Rattle.scalar_types.specs.Scalars.{value_of}
use Rattle.bag_value.specs.declared.lists.Entry.{Entry}
use Rattle.bag_value.specs.Vals.{plain, pair_of}
use Rattle.bag_encode.specs.Values.{atoms, trees_by, key_header, trees_of, atoms_of}

-- The atoms of keys, each with its value.
abbrev pub entries_atoms : ScalarKind → Shape → ℕ → List (ScalarValue × Value) → List Atom
entries_atoms kind shape level es = atoms (trees_by (key_header level kind) (λ e. trees_of shape (level + 1) e.1) es)

module _ (kind : ScalarKind) (shape : Shape) (level : ℕ) (es : List Entry) (i : ℕ) (e : Entry) (within : i < length es) (is : e ≡ get_or es i e) where
  -- The atoms of what is left are those of the next key, and then the rest.
  pub entry_turn : entries_atoms kind shape level (map pair_of (drop i es))
      ≡ (key_header level kind (pair_of e) ∷ atoms_of shape (level + 1) (plain e.value)) ++ entries_atoms kind shape level (map pair_of (drop (i + 1) es))
  entry_turn = ap (λ l. entries_atoms kind shape level (map pair_of l)) (drop-place es i e within is)

  pub entry_is : EachPair (IsEntryOf kind shape) (map pair_of es) → IsScalarOf kind (value_of e.key) × IsOfShape shape (plain e.value)
  entry_is each = by es i within is each
    where
      by : (es : List Entry) (i : ℕ) → i < length es → e ≡ get_or es i e → EachPair (IsEntryOf kind shape) (map pair_of es) → IsEntryOf kind shape (value_of e.key) (plain e.value)
      by [] i l same each = absurd (omega (arith, l))
      by (d ∷ es) zero l same each = subst (λ (x : Entry). IsEntryOf kind shape (value_of x.key) (plain x.value)) (sym same) each.0
      by (d ∷ es) (suc i) l same each = by es i (omega (arith, l)) same each.1
