-- What a good line adds belongs to the table.
use Rattle.std.proofs.Common.{◌≡◌, ◌⊎◌, inl, inr, ℕ, ◌<◌, ◌≤◌, List, [], ◌∷◌, ◌++◌, length, Some, None, refl, sym, subst, append_assoc, append-nil, arith}
use Rattle.std.proofs.lemmas.Bool.{cases_lt}
use Rattle.context_model.specs.declared.TheConstants.{ATOM_MAX}
use Rattle.context_model.specs.declared.Form.{Form as WireForm}
use Rattle.context_model.specs.Merged.{last_atom}
use Rattle.context_model.specs.Orders.{Path, IsIn}
use Rattle.context_model.proofs.GreedyElements.{All-from}
use Rattle.bag_model.specs.Encodings.{InLayout}
use Rattle.bag_model.specs.Shapes.{Shape, Nodes}
use Rattle.bag_model.specs.Slots.{slots_of, FindsRange, IsInRange, range_of}
use Rattle.bag_model.specs.Tables.{IsTable}
use Rattle.bag_model.specs.Values.{Value, IsOfShape}
use Rattle.bag_model.specs.Views as views
use Rattle.bag_model.specs.Views.{View, Knows}
use Rattle.bag_model.proofs.PathLaws.{reached_bound}
use Rattle.trace_model.specs.Graphs as graphs
use Rattle.trace_model.specs.Graphs.{Act, Graph, form_at, view_at, IsViewOf, IsActOf, IsRecorded}
use Rattle.text_lines.specs.Lines.{Line, lines_of}
use Rattle.text_lines.specs.Readings.{AllSay}
use Rattle.field_writes.specs.Writes.{IsWrite}
use Rattle.recorded_graph.proofs.Growing.{empty_sound, service_sound, step_sound, show_sound, graphs_grow}
use Rattle.graph_lines.specs.Forms.{IsSoundStatement}
use Rattle.graph_lines.specs.Statements as lines
use Rattle.graph_lines.specs.Statements.{NamedView, NamedAct, Statement}
use Rattle.graph_text.specs.Additions.{Addition, with_addition, graph_of, MeansView, MeansAct, StandsAtService, IsGoodStatement}
use Rattle.graph_text.specs.Reading.{SaysAddition, graph_lines, IsGraphOf}
use Rattle.graph_text.proofs.Follows.{KeepsRules, may_follow, is_shown}
use Rattle.graph_text.proofs.Grown.{graph_of_more}
use Rattle.bag_walks.proofs.SlotFits.{only_fits}

-- The value of a write is of the shape, and each atom of its layout, at any path, is within the limit of bytes.
pub record WritesFit : Type 0 where
  pub shape : (form : WireForm) (shape : Shape) (v : Value) (text : List ℕ) → IsWrite form shape v text → IsOfShape shape v
  pub fits : (form : WireForm) (shape : Shape) (v : Value) (text : List ℕ) (q p : Path) → IsWrite form shape v text → InLayout shape q v p → length (last_atom p) ≤ ATOM_MAX

-- ---- views

slot_within : (table : Nodes) (path : List ℕ) (range : ℕ × ℕ) (slot : ℕ) → FindsRange table path (Some range) → IsInRange (Some range) slot → slot < length (slots_of table)
slot_within table path range slot (None, none, is) there = absurd (cc is)
slot_within table path range slot (Some found, (name, names, dots, reached), is) there =
    let few = reached_bound table name names found.0 found.1 reached in
    let same : range ≡ range_of found = cc is in
    let below : slot < (range_of found).1 = subst (λ (r : ℕ × ℕ). slot < r.1) same there.1 in
    omega (arith, few, below)

view_of_table : (table : Nodes) (named : NamedView) (view : View) → MeansView table named view → IsViewOf table view
view_of_table table lines.All view means = subst (IsViewOf table) (sym means) tt
view_of_table table lines.Nothing view means = subst (IsViewOf table) (sym means) tt
view_of_table table (lines.Only paths) view (slots, are, is) =
    subst (IsViewOf table) (sym is) (All-from (λ slot. slot < length (slots_of table)) slots (λ slot i.
    let (path, range, named, finds, there) = (are.each slot).0 i in slot_within table path range slot finds there))

-- ---- writes

-- A number is in a list, or isn't.
in_or_not : (n : ℕ) (ns : List ℕ) → IsIn n ns ⊎ (IsIn n ns → ⊥)
in_or_not n [] = inr (λ none. none)
in_or_not n (m ∷ ns) = by (same_or_not n m) (in_or_not n ns)
  where
    same_or_not : (i j : ℕ) → (i ≡ j) ⊎ (i ≡ j → ⊥)
    same_or_not i j = elim (cases_lt i j) [
      | inl less ↦ inr (λ e. omega (arith, less, e))
      | inr more ↦ elim (cases_lt j i) [ inl less ↦ inr (λ e. omega (arith, less, e)) | inr fewer ↦ inl (omega arith) ]
    ]

    by : (n ≡ m) ⊎ (n ≡ m → ⊥) → IsIn n ns ⊎ (IsIn n ns → ⊥) → IsIn n (m ∷ ns) ⊎ (IsIn n (m ∷ ns) → ⊥)
    by (inl e) rest = inl (inl e)
    by (inr f) (inl i) = inl (inr i)
    by (inr f) (inr g) = inr (λ i. elim i [ inl e ↦ f e | inr j ↦ g j ])

known : (view : View) (slot : ℕ) → (¬ (Knows view slot) → ⊥) → Knows view slot
known views.All slot f = tt
known views.Nothing slot f = absurd (f (λ none. none))
known (views.Only slots) slot f = elim (in_or_not slot slots) [ inl i ↦ i | inr g ↦ absurd (f g) ]

-- ---- steps

act_of_table : WritesFit → (table : Nodes) (graph : Graph) (number : ℕ) (named : NamedAct) (act : Act) (service : ℕ) → KeepsRules table graph (lines.Step number named)
    → StandsAtService graph named service → MeansAct table (form_at graph service) named act → IsActOf table (view_at graph service) act
act_of_table writes table graph number (lines.Start name) act service keeps stands means = subst (IsActOf table (view_at graph service)) (sym means) tt
act_of_table writes table graph number (lines.Recv name hex) act service keeps stands (list, (bytes, says, of_bytes, typed), is) =
    subst (IsActOf table (view_at graph service)) (sym is) (record { well_formed = of_bytes.1; typed = typed })
act_of_table writes table graph number (lines.Set parent path write) act service keeps stands (slot, v, (at, finds, there, says), is) =
    subst (IsActOf table (view_at graph service)) (sym is) (record {
      at = at;
      there = there;
      shape = writes.shape (form_at graph service) at.shape v write says;
      fits = only_fits table slot at v there (λ q p. writes.fits (form_at graph service) at.shape v write q p says);
      known = known (view_at graph service) slot (λ unknown. keeps.1.1.1.1.1.1.0 (slot, service, finds, stands, unknown));
    })
act_of_table writes table graph number (lines.Branch parent) act service keeps stands means = subst (IsActOf table (view_at graph service)) (sym means) tt
act_of_table writes table graph number (lines.Forward parent name) act service keeps stands means = subst (IsActOf table (view_at graph service)) (sym means) tt
act_of_table writes table graph number (lines.Trim parent budget) act service keeps stands means = subst (IsActOf table (view_at graph service)) (sym means) tt
act_of_table writes table graph number (lines.Join parents) act service keeps stands means = subst (IsActOf table (view_at graph service)) (sym means) tt

-- ---- good lines

-- A recorded graph with what a good line adds is one too.
line_recorded : WritesFit → (table : Nodes) (graph : Graph) (line : Statement) (a : Addition) → IsRecorded table graph → IsSoundStatement line → IsGoodStatement table graph line a → IsRecorded table (with_addition graph a)
line_recorded writes table graph (lines.Service form name named) a r sound (keeps, (view, means, is)) =
    subst (λ b. IsRecorded table (with_addition graph b)) (sym is) (record {
      table = r.table;
      sound = service_sound graph (record { name = name; form = form; view = view }) r.sound;
      fits = graphs_grow.service table graph (record { name = name; form = form; view = view }) r.sound r.fits (view_of_table table named view means);
    })
line_recorded writes table graph (lines.Step number named) a r sound (keeps, (service, act, stands, means, is)) =
    let step : graphs.Step = record { service = service; act = act } in
    let follows = may_follow table graph number named step r.sound sound (keeps, (service, act, stands, means, refl)) in
    subst (λ b. IsRecorded table (with_addition graph b)) (sym is) (record {
      table = r.table;
      sound = step_sound graph step r.sound follows;
      fits = graphs_grow.step table graph step r.fits (act_of_table writes table graph number named act service keeps stands means);
    })
line_recorded writes table graph (lines.Show n) a r sound (keeps, is) =
    subst (λ b. IsRecorded table (with_addition graph b)) (sym is) (record {
      table = r.table;
      sound = show_sound graph n r.sound (is_shown table graph n keeps);
      fits = graphs_grow.show table graph n r.fits;
    })

pub keeps_table : WritesFit → (table : Nodes) (graph : Graph) (text : List ℕ) (a : Addition) → IsRecorded table graph → SaysAddition table graph text a → IsRecorded table (with_addition graph a)
keeps_table writes table graph text a r (line, form, good) = line_recorded writes table graph line a r form.1 good

-- ---- texts

all_recorded : WritesFit → (table : Nodes) (earlier : List Addition) (lines : List Line) (said : List Addition) → IsRecorded table (graph_of earlier) → AllSay (graph_lines table) earlier lines said
    → IsRecorded table (graph_of (earlier ++ said))
all_recorded writes table earlier [] [] r all = subst (λ every. IsRecorded table (graph_of every)) (sym (append-nil earlier)) r
all_recorded writes table earlier [] (a ∷ said) r all = absurd all
all_recorded writes table earlier (line ∷ lines) [] r all = absurd all
all_recorded writes table earlier (line ∷ lines) (a ∷ said) r all =
    let next = keeps_table writes table (graph_of earlier) line.1 a r all.0 in
    let more = all_recorded writes table (earlier ++ a ∷ []) lines said (subst (IsRecorded table) (sym (graph_of_more earlier a)) next) all.1 in
    subst (λ every. IsRecorded table (graph_of every)) (append_assoc earlier (a ∷ []) said) more

-- A text that says a graph under a table says a recorded graph of it.
pub text_recorded : WritesFit → (table : Nodes) (text : List ℕ) (graph : Graph) → IsTable table → IsGraphOf table text graph → IsRecorded table graph
text_recorded writes table text graph is_table (every, all, is) =
    subst (IsRecorded table) (sym is) (all_recorded writes table [] (lines_of text) every (record { table = is_table; sound = empty_sound; fits = graphs_grow.empty table }) all)
