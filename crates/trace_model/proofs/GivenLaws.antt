-- What an act gives from typed contexts is a typed context.
use Rattle.std.proofs.Common.{◌⊎◌, inl, inr, ℕ, ◌<◌, ◌≤◌, List, [], ◌∷◌, sym, subst}
use Rattle.std.proofs.lemmas.Bool.{cases_lt}
use Rattle.std.specs.List.{AllByRecursion}
use Rattle.context_model.specs.declared.Form.{Form}
use Rattle.context_model.specs.Atoms.{Atom}
use Rattle.context_model.specs.Framing.{size_of}
use Rattle.context_model.specs.Trimmed.{cut_at, kept_of, trimmed}
use Rattle.context_model.proofs.Following.{IsWellFormed-empty, trimmed-well_formed}
use Rattle.context_model.proofs.GreedyElements.{All-at, All-from}
use Rattle.context_model.proofs.TrimmedLaws.{trimmed-fits, trimmed-cut}
use Rattle.bag_model.specs.Shapes.{Nodes}
use Rattle.bag_model.specs.SlotValues.{only}
use Rattle.bag_model.specs.Tables.{IsTable}
use Rattle.bag_model.specs.Views.{View}
use Rattle.bag_model.specs.Readings.{PathsOf}
use Rattle.bag_model.specs.Typed.{AreTyped}
use Rattle.bag_model.specs.Encodings.{IsEncodingOf}
use Rattle.bag_model.specs.NormalForm.{IsNormalOf}
use Rattle.bag_model.proofs.TypedLaws.{AreTyped-fewer}
use Rattle.bag_model.proofs.LayoutLaws.{encodings_read_back}
use Rattle.bag_model.proofs.MergeReadingLaws.{merges_read_as_joins}
use Rattle.bag_model.proofs.NormalFormLaws.{normal_form_keeps}
use Rattle.bag_model.proofs.EachSlot.{only_fits}
use Rattle.trace_model.specs.Graphs.{Start, Recv, Set, Branch, Forward, Trim, Join, IsTypedContext}
use Rattle.trace_model.specs.Runs.{list_at, IsNormalMerge, GivesContexts}
use Rattle.trace_model.proofs.CutLists.{cut_fewer}
use Rattle.trace_model.proofs.TruthLaws.{nothing_typed}

module _ (nodes : Nodes) (table : IsTable nodes) where
  empty_context : IsTypedContext nodes []
  empty_context = record { well_formed = IsWellFormed-empty; typed = nothing_typed nodes }

  first_context : (parents : List (List Atom)) → AllByRecursion (IsTypedContext nodes) parents → IsTypedContext nodes (list_at parents 0)
  first_context [] each = empty_context
  first_context (list ∷ parents) each = each.0

  normal_context : (view : View) (list normal : List Atom) → IsTypedContext nodes list → IsNormalOf nodes view list normal → IsTypedContext nodes normal
  normal_context view list normal c n = record {
    well_formed = ((normal_form_keeps).lists nodes view list normal table c.well_formed n).well_formed;
    typed = ((normal_form_keeps).values nodes view list normal table c.well_formed c.typed n).typed;
  }

  merged_context : (view : View) (lists : List (List Atom)) (list : List Atom) → AllByRecursion (IsTypedContext nodes) lists → IsNormalMerge nodes view lists list → IsTypedContext nodes list
  merged_context view lists list each m = normal_context view m.merged list (record {
    well_formed = (m.merge).well_formed;
    typed = (merges_read_as_joins).typed nodes lists m.merged m.merge
        (All-from (λ l. AreTyped nodes (PathsOf l) []) lists (λ l i. (All-at (IsTypedContext nodes) lists l each i).typed));
  }) m.normal

  trimmed_context : (form : Form) (list : List Atom) (budget : ℕ) → IsTypedContext nodes list → IsTypedContext nodes (trimmed form list budget)
  trimmed_context form list budget c = record { well_formed = trimmed-well_formed form list budget c.well_formed; typed = by (cases_lt budget (size_of form list)) }
    where
      by : (budget < size_of form list) ⊎ (size_of form list ≤ budget) → AreTyped nodes (PathsOf (trimmed form list budget)) []
      by (inl over) = subst (λ l. AreTyped nodes (PathsOf l) []) (sym (trimmed-cut form list budget over))
          (AreTyped-fewer nodes (PathsOf (cut_at (kept_of form list budget) list)) (PathsOf list) [] (cut_fewer list (kept_of form list budget) c.well_formed) c.typed)
      by (inr fits) = subst (λ l. AreTyped nodes (PathsOf l) []) (sym (trimmed-fits form list budget fits)) c.typed

pub gives_contexts : GivesContexts
gives_contexts nodes form view Start parents list table may each g = subst (IsTypedContext nodes) (sym g) (empty_context nodes table)
gives_contexts nodes form view (Recv received) parents list table may each g = normal_context nodes table view received list may g
gives_contexts nodes form view (Set parent slot v) parents list table may each g = merged_context nodes table view (list_at parents 0 ∷ g.written ∷ []) list (first_context nodes table parents each, (written, tt)) g.normal
  where
    encoded : IsEncodingOf nodes (only nodes slot v) g.written
    encoded = record { table = table; shapes = (only_fits).shapes nodes slot may.at v may.there may.shape; encoding = g.encoding }

    written : IsTypedContext nodes g.written
    written = record { well_formed = (g.encoding).well_formed; typed = (encodings_read_back).typed nodes (only nodes slot v) g.written encoded }
gives_contexts nodes form view (Branch parent) parents list table may each g = subst (IsTypedContext nodes) (sym g) (first_context nodes table parents each)
gives_contexts nodes form view (Forward parent) parents list table may each g = normal_context nodes table view (list_at parents 0) list (first_context nodes table parents each) g
gives_contexts nodes form view (Trim parent budget) parents list table may each g = subst (IsTypedContext nodes) (sym g) (trimmed_context nodes table form (list_at parents 0) budget (first_context nodes table parents each))
gives_contexts nodes form view (Join named) parents list table may each g = merged_context nodes table view parents list each g
