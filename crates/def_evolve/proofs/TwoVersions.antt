-- Two versions of a table at once, each of which may take the place of the other.
use Rattle.std.proofs.Common.{◌⊎◌, inl, inr, List, []}
use Rattle.std.specs.List.{AllByRecursion}
use Rattle.context_model.specs.Atoms.{Atom}
use Rattle.context_model.specs.Merged.{IsMerged}
use Rattle.context_model.proofs.GreedyElements.{All-at, All-from}
use Rattle.bag_model.specs.Shapes.{Nodes}
use Rattle.bag_model.specs.Tables.{IsTable}
use Rattle.bag_model.specs.Views.{View}
use Rattle.bag_model.specs.Readings.{PathsOf}
use Rattle.bag_model.specs.Typed.{AreTyped}
use Rattle.bag_model.specs.NormalForm.{IsNormalOf}
use Rattle.bag_model.proofs.MergeReadingLaws.{merges_read_as_joins}
use Rattle.def_evolve.specs.Breaks.{IsFitting}
use Rattle.def_evolve.specs.Versions.{IsWrittenUnder, IsOfBoth, SaysAlike, LiveTogether}
use Rattle.def_evolve.proofs.Safe.{is_safe}
use Rattle.def_evolve.proofs.OtherNormal.{other_typed, other_alike, own_alike}

module _ (old new : Nodes) (before : IsTable old) (behind : IsTable new) (fits : IsFitting old new) (back : IsFitting new old) where
  written : (list : List Atom) → IsWrittenUnder old list ⊎ IsWrittenUnder new list → IsOfBoth old new list
  written list (inl s) = record { before = s.context; behind = (is_safe old new before behind fits).clean list s.context s.named }
  written list (inr s) = record { before = (is_safe new old behind before back).clean list s.context s.named; behind = s.context }

  merged : (lists : List (List Atom)) (merged : List Atom) → IsMerged lists merged → AllByRecursion (IsOfBoth old new) lists → IsOfBoth old new merged
  merged lists all m each = record {
    before = record {
      well_formed = m.well_formed;
      typed = merges_read_as_joins.typed old lists all m (All-from (λ list. AreTyped old (PathsOf list) []) lists (λ list i. (All-at (IsOfBoth old new) lists list each i).before.typed));
    };
    behind = record {
      well_formed = m.well_formed;
      typed = merges_read_as_joins.typed new lists all m (All-from (λ list. AreTyped new (PathsOf list) []) lists (λ list i. (All-at (IsOfBoth old new) lists list each i).behind.typed));
    };
  }

  kept : (view : View) (list normal : List Atom) → IsOfBoth old new list → IsNormalOf old view list normal ⊎ IsNormalOf new view list normal
      → IsOfBoth old new normal × SaysAlike old list normal × SaysAlike new list normal
  kept view list normal both (inl n) =
      let own = own_alike old view list normal before both.before n in
      let w = both.before.well_formed in (
        record { before = own.0; behind = other_typed old new before behind fits view list normal w n both.behind },
        own.1,
        other_alike old new before behind fits view list normal w n both.behind,
      )
  kept view list normal both (inr n) =
      let own = own_alike new view list normal behind both.behind n in
      let w = both.behind.well_formed in (
        record { before = other_typed new old behind before back view list normal w n both.before; behind = own.0 },
        other_alike new old behind before back view list normal w n both.before,
        own.1,
      )

  pub live_together : LiveTogether old new
  live_together = record {
    written = written;
    merged = merged;
    joined = λ a b all m. (
      (λ v w r s. merges_read_as_joins.joins old a b all v w m r s),
      λ v w r s. merges_read_as_joins.joins new a b all v w m r s,
    );
    kept = kept;
  }
