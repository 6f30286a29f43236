-- What updates are in the model of steps.
use Rattle.std.proofs.Common.{◌≡◌, inl, ℕ, ◌+◌, List, [], ◌∷◌, ◌++◌, append-nil, refl, sym, ap, ◌∙◌, subst}
use Rattle.std.specs.List.{AllByRecursion}
use Rattle.context_model.specs.Atoms.{Atom}
use Rattle.context_model.specs.Merged.{IsMerged}
use Rattle.context_model.specs.Orders.{IsIn}
use Rattle.context_model.specs.WellFormed.{IsWellFormed}
use Rattle.context_model.specs.WithoutData.{without_from, without}
use Rattle.context_model.specs.declared.Form.TheVariants.{One}
use Rattle.context_model.proofs.MergedLaws.{merges_few, has_one_merge}
use Rattle.bag_model.specs.Encodings.{IsEncoding, IsEncodingOf}
use Rattle.bag_model.specs.NormalForm.{IsNormalOf}
use Rattle.bag_model.specs.Shapes.{Nodes, no_node}
use Rattle.bag_model.specs.SlotValues.{only}
use Rattle.bag_model.specs.Tables.{IsTable}
use Rattle.bag_model.specs.Views.{View, All}
use Rattle.bag_model.proofs.EachSlot.{only_fits}
use Rattle.bag_model.proofs.LayoutLaws.{encodings_read_back}
use Rattle.trace_model.specs.Graphs.{Join, IsTypedContext}
use Rattle.trace_model.specs.Runs.{Lists, IsNormalMerge}
use Rattle.trace_model.proofs.GivenLaws.{gives_contexts}
use Rattle.step_calls.specs.Excerpts.{IsExcerpt}
use Rattle.step_calls.specs.Laws.{UpdatesGiveSteps, FitsSlot, UpdatesAreContexts}
use Rattle.step_calls.specs.Lines.{Write, AreEncodings}
use Rattle.step_calls.specs.Updates.{IsUpdateOf}
use Rattle.step_calls.proofs.ExcerptLaws.{excerpts_are_views, excerpts_write_alike}

module _ (nodes : Nodes) (view : View) (excerpt : Nodes) (is : IsExcerpt nodes view excerpt) where
  into_view : (list normal : List Atom) → IsNormalOf excerpt All list normal → IsNormalOf nodes view list normal
  into_view list normal n = (excerpts_are_views nodes view excerpt list normal is).1 n

  normal_merge : (lists : Lists) (list : List Atom) → IsNormalMerge excerpt All lists list → IsNormalMerge nodes view lists list
  normal_merge lists list n = record { merged = n.merged; merge = n.merge; normal = into_view n.merged list n.normal }

  -- Of one list it is that of the list.
  normal_alone : (before list : List Atom) → IsWellFormed before → IsNormalMerge excerpt All (before ∷ []) list → IsNormalOf nodes view before list
  normal_alone before list w n =
      let same : n.merged ≡ before = has_one_merge (before ∷ []) n.merged before n.merge ((merges_few).one before w) in
      into_view before list (subst (λ (l : List Atom). IsNormalOf excerpt All l list) same n.normal)

-- Without writes nothing is written.
unwritten : (nodes : Nodes) (written : Lists) → AreEncodings nodes [] written → written ≡ []
unwritten nodes [] e = refl
unwritten nodes (list ∷ lists) e = absurd e

pub merge_alone : (nodes : Nodes) (lists : Lists) (list : List Atom) → IsUpdateOf nodes lists [] list → IsNormalMerge nodes All lists list
merge_alone nodes lists list u =
    let none : u.written ≡ [] = unwritten nodes u.written u.encodings in
    subst (λ (ls : Lists). IsNormalMerge nodes All ls list) (ap (λ (w : Lists). lists ++ w) none ∙ append-nil lists) u.normal

-- One write is one encoding.
one_written : (nodes : Nodes) (write : Write) (written : Lists) → AreEncodings nodes (write ∷ []) written → (list : List Atom) × (written ≡ list ∷ []) × IsEncoding nodes (only nodes write.0 write.1) list
one_written nodes write [] e = absurd e
one_written nodes write (list ∷ []) e = (list, refl, e.0)
one_written nodes write (list ∷ other ∷ lists) e = absurd e.1

-- Nothing is left of nothing.
nothing_left : (nodes : Nodes) (list : List Atom) → IsNormalMerge nodes All [] list → list ≡ []
nothing_left nodes list n =
    let none : n.merged ≡ [] = has_one_merge [] n.merged [] n.merge (merges_few).none in
    (n.normal).left ∙ ap (without (n.normal).gone) none

-- Under a table without slots nothing is superseded.
pub without_none : (i : ℕ) (list : List Atom) → without_from i [] list ≡ list
without_none i [] = refl
without_none i (a ∷ list) = ap (λ (l : List Atom). a ∷ l) (without_none (i + 1) list)

no_member : (xs : List ℕ) → ((x : ℕ) → IsIn x xs → ⊥) → xs ≡ []
no_member [] none = refl
no_member (x ∷ xs) none = absurd (none x (inl refl))

merge_left : (lists : Lists) (list : List Atom) → IsNormalMerge no_node All lists list → IsMerged lists list
merge_left lists list n =
    let none : (place : ℕ) → IsIn place (n.normal).gone → ⊥ = λ place i. (let s = ((n.normal).exact place).0 i in cc (s.1).there) in
    let same : list ≡ n.merged =
    (n.normal).left ∙ ap (λ (gone : List ℕ). without gone n.merged) (no_member (n.normal).gone none) ∙ without_none 0 n.merged in
    subst (IsMerged lists) (sym same) n.merge

pub updates_give_steps : UpdatesGiveSteps
updates_give_steps = record {
  start = λ nodes form view excerpt parents list u. nothing_left excerpt list (merge_alone excerpt [] list u);
  receive = λ nodes form view excerpt received list parents is w u. normal_alone nodes view excerpt is received list w (merge_alone excerpt (received ∷ []) list u);
  forward = λ nodes form view excerpt before list parent is w u. normal_alone nodes view excerpt is before list w (merge_alone excerpt (before ∷ []) list u);
  set = λ nodes form view excerpt before list parent slot other at also v is table excerpted there here alike shape u.
      let w = one_written excerpt (other, v) u.written u.encodings in
      record {
        written = w.0;
        encoding = (excerpts_write_alike nodes excerpt slot other at also v w.0 table excerpted there here alike shape).1 w.2;
        normal = normal_merge nodes view excerpt is (before ∷ w.0 ∷ []) list (subst (λ (ls : Lists). IsNormalMerge excerpt All (before ∷ ls) list) w.1 u.normal);
      };
  join = λ nodes form view excerpt named parents list is u. normal_merge nodes view excerpt is parents list (merge_alone excerpt parents list u);
  trim = λ nodes form view list parent budget. refl;
  merge = λ lists list u. merge_left lists list (merge_alone no_node lists list u);
}

-- ---- updates are contexts

module _ (nodes : Nodes) (table : IsTable nodes) where
  -- An encoding is a typed context.
  pub encoded_context : (write : Write) (list : List Atom) → FitsSlot nodes write → IsEncoding nodes (only nodes write.0 write.1) list → IsTypedContext nodes list
  encoded_context write list fits e =
      let of : IsEncodingOf nodes (only nodes write.0 write.1) list =
      record { table = table; shapes = (only_fits).shapes nodes write.0 fits.0 write.1 fits.1 fits.2; encoding = e } in
      record { well_formed = e.well_formed; typed = (encodings_read_back).typed nodes (only nodes write.0 write.1) list of }

  pub encoded_contexts : (writes : List Write) (written : Lists) → AllByRecursion (FitsSlot nodes) writes → AreEncodings nodes writes written → AllByRecursion (IsTypedContext nodes) written
  encoded_contexts [] [] fit e = tt
  encoded_contexts [] (list ∷ lists) fit e = absurd e
  encoded_contexts (write ∷ writes) [] fit e = absurd e
  encoded_contexts (write ∷ writes) (list ∷ lists) fit e = (encoded_context write list fit.0 e.0, encoded_contexts writes lists fit.1 e.1)

pub all_append : {A : Type 0} (P : A → Type 0) (xs ys : List A) → AllByRecursion P xs → AllByRecursion P ys → AllByRecursion P (xs ++ ys)
all_append P [] ys p q = q
all_append P (x ∷ xs) ys p q = (p.0, all_append P xs ys p.1 q)

pub updates_are_contexts : UpdatesAreContexts
updates_are_contexts nodes lists writes list table typed fit u =
    gives_contexts nodes One All (Join []) (lists ++ u.written) list table tt
    (all_append (IsTypedContext nodes) lists u.written typed (encoded_contexts nodes table writes u.written fit u.encodings)) u.normal
