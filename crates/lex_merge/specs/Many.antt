-- Lists that are merged in place of others.
use Rattle.std.specs.Prelude.{◌≡◌, List}
use Rattle.context_model.specs.Atoms.{Atom}
use Rattle.context_model.specs.Merged.{IsMerged, merge_of}

-- Whatever is the merge of these lists is that of the others, and merged one after another they
-- give the same.
pub record StandFor (fewer lists : List (List Atom)) : Type 0 where
  pub merged : (a : List Atom) → IsMerged fewer a → IsMerged lists a
  pub one_by_one : merge_of fewer ≡ merge_of lists
