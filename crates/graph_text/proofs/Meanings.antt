-- What a line means under a table is one thing.
use Rattle.std.proofs.Common.{◌≡◌, ℕ, List, [], ◌∷◌, Some, sym, ◌∙◌, ap, subst}
use Rattle.std.proofs.lemmas.Cmp.{nat_cmp_total}
use Rattle.std.specs.List.{slice_get}
use Rattle.std.specs.Ordering.{nat_cmp}
use Rattle.context_model.specs.declared.Form.{Form as WireForm}
use Rattle.context_model.specs.Atoms.{Atom}
use Rattle.context_model.specs.ContextFault.{IsContextOf}
use Rattle.context_model.proofs.ContextFronts.{has_one_context}
use Rattle.context_model.proofs.GreedyElements.{Rises-unique}
use Rattle.bag_model.specs.Shapes.{Shape, Nodes}
use Rattle.bag_model.specs.Slots.{SlotAt, slots_of}
use Rattle.bag_model.specs.SlotValues.{HasSlot}
use Rattle.bag_model.specs.Tables.{IsShape, IsTable}
use Rattle.bag_model.specs.Values.{Value}
use Rattle.bag_model.specs.Views as views
use Rattle.bag_model.specs.Views.{View}
use Rattle.bag_model.proofs.NamePathLaws.{name_paths_differ}
use Rattle.bag_walks.proofs.SlotShapes.{slot_shape}
use Rattle.trace_model.specs.Graphs as graphs
use Rattle.trace_model.specs.Graphs.{Act, Graph, form_at}
use Rattle.field_writes.specs.Writes.{IsWrite}
use Rattle.graph_lines.specs.Statements as lines
use Rattle.graph_lines.specs.Statements.{NamedView, NamedAct, Statement}
use Rattle.graph_text.specs.Additions.{Addition, AddService, MeansView, SaysTypedContext, SaysWriteAt, MeansAct, StandsAtService, LineAdds}

-- A text is at most one write of a shape in a form.
abbrev pub HasOneWrite : Type 0
HasOneWrite = (form : WireForm) (shape : Shape) (v w : Value) (text : List ℕ) → IsShape shape → IsWrite form shape v text → IsWrite form shape w text → v ≡ w

-- ---- names

pub one_slot : {A : Type 0} (xs : List A) (i : ℕ) (a b : A) → slice_get xs i ≡ Some a → slice_get xs i ≡ Some b → a ≡ b
one_slot xs i a b e f = let same : Some a ≡ Some b = sym e ∙ f in cc same

one_view : (table : Nodes) (named : NamedView) (v w : View) → MeansView table named v → MeansView table named w → v ≡ w
one_view table lines.All v w m n = m ∙ sym n
one_view table lines.Nothing v w m n = m ∙ sym n
one_view table (lines.Only paths) v w (xs, are, is) (ys, also, means) =
    let same = Rises-unique nat_cmp nat_cmp_total xs ys are.rises also.rises (λ slot. ((λ i. (also.each slot).1 ((are.each slot).0 i)), λ i. (are.each slot).1 ((also.each slot).0 i))) in
    is ∙ ap views.Only same ∙ sym means

pub one_context : (table : Nodes) (hex : List ℕ) (a b : List Atom) → SaysTypedContext table hex a → SaysTypedContext table hex b → a ≡ b
one_context table hex a b (bytes, says, is, typed) (others, say, also, too) =
    let some : Some others ≡ Some bytes = sym say ∙ says in
    let same : others ≡ bytes = cc some in
    (has_one_context bytes).list a b is (subst (λ bs. IsContextOf b bs) same also)

module _ (writes : HasOneWrite) (table : Nodes) (is_table : IsTable table) where
  one_write : (form : WireForm) (path write : List ℕ) (i j : ℕ) (v w : Value) → SaysWriteAt table form path write i v → SaysWriteAt table form path write j w → (i ≡ j) × (v ≡ w)
  one_write form path write i j v w (at, (own, here, named), has, says) (other, (found, there, called), also, say) =
      let place : i ≡ j = name_paths_differ table i j own found is_table here there (named ∙ sym called) in
      let slots : other ≡ at = one_slot (slots_of table) j other at also (subst (λ k. HasSlot table k at) place has) in
      let shape = slot_shape table i at is_table.well_formed has in
      (place, writes form at.shape v w write shape says (subst (λ (s : SlotAt). IsWrite form s.shape w write) slots say))

  one_act : (form : WireForm) (named : NamedAct) (a b : Act) → MeansAct table form named a → MeansAct table form named b → a ≡ b
  one_act form (lines.Start name) a b m n = m ∙ sym n
  one_act form (lines.Recv name hex) a b (list, says, is) (other, say, also) = is ∙ ap graphs.Recv (one_context table hex list other says say) ∙ sym also
  one_act form (lines.Set parent path write) a b (i, v, says, is) (j, w, say, also) =
      let same = one_write form path write i j v w says say in
      let slots : i ≡ j = same.0 in
      let values : v ≡ w = same.1 in
      cc (is, also, slots, values)
  one_act form (lines.Branch parent) a b m n = m ∙ sym n
  one_act form (lines.Forward parent name) a b m n = m ∙ sym n
  one_act form (lines.Trim parent budget) a b m n = m ∙ sym n
  one_act form (lines.Join parents) a b m n = m ∙ sym n

  one_place : (graph : Graph) (named : NamedAct) (m n : ℕ) → StandsAtService graph named m → StandsAtService graph named n → m ≡ n
  one_place graph (lines.Start name) m n p q = cc (p, q)
  one_place graph (lines.Recv name hex) m n p q = cc (p, q)
  one_place graph (lines.Set parent path write) m n p q = cc (p, q)
  one_place graph (lines.Branch parent) m n p q = cc (p, q)
  one_place graph (lines.Forward parent name) m n p q = cc (p, q)
  one_place graph (lines.Trim parent budget) m n p q = cc (p, q)
  one_place graph (lines.Join []) m n p q = absurd p
  one_place graph (lines.Join (parent ∷ parents)) m n p q = cc (p, q)

  -- A line adds one thing.
  pub one_addition : (graph : Graph) (line : Statement) (a b : Addition) → LineAdds table graph line a → LineAdds table graph line b → a ≡ b
  one_addition graph (lines.Service form name named) a b (v, means, is) (w, mean, also) =
      is ∙ ap (λ view. AddService (record { name = name; form = form; view = view })) (one_view table named v w means mean) ∙ sym also
  one_addition graph (lines.Step number named) a b (m, act, stands, means, is) (n, other, stand, mean, also) =
      let places : m ≡ n = one_place graph named m n stands stand in
      let acts : act ≡ other = one_act (form_at graph m) named act other means (subst (λ k. MeansAct table (form_at graph k) named other) (sym places) mean) in
      cc (is, also, places, acts)
  one_addition graph (lines.Show n) a b is also = is ∙ sym also
