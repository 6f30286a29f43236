-- A line says one thing or has one fault, never both.
use Rattle.std.proofs.Common.{◌≡◌, ◌⊎◌, inl, inr, ℕ, List, Some, sym, ◌∙◌, ap, subst}
use Rattle.context_model.specs.Atoms.{Atom}
use Rattle.context_model.specs.ContextFault.{IsContextOf, IsFirstContextFault}
use Rattle.context_model.proofs.ContextFronts.{has_one_context}
use Rattle.bag_model.specs.Shapes.{Nodes}
use Rattle.bag_model.specs.Tables.{IsTable}
use Rattle.bag_model.specs.Typed.{IsFirstIllTyped}
use Rattle.context_model.specs.Framing.{form_of, offset_of}
use Rattle.bag_model.proofs.IllTyped.{first_ill_typed}
use Rattle.bag_walks.proofs.OnePlace.{one_place}
use Rattle.wire_bytes.proofs.OneCode.{one_code}
use Rattle.wire_bytes.specs.declared.contexts.ByteCode.{ByteCode}
use Rattle.wire_bytes.specs.Reading.{byte_code_of}
use Rattle.text_lines.specs.HexLines.{hex_bytes}
use Rattle.text_lines.specs.Lines.{lines_of}
use Rattle.text_lines.proofs.ReadingLaws.{first_of_one, first_of_none, all_say_one, first_bad_one, good_not_bad}
use Rattle.trace_model.specs.Graphs.{Graph}
use Rattle.graph_lines.specs.Forms.{HasStatementForm}
use Rattle.graph_lines.specs.Statements as lines
use Rattle.graph_lines.specs.Statements.{Statement}
use Rattle.graph_text.specs.declared.faults.LineFault.{LineFault}
use Rattle.graph_text.specs.declared.faults.LineFault.TheVariants.{Bytes, IllTyped}
use Rattle.graph_text.specs.Additions.{Addition, graph_of, SaysTypedContext, IsGoodStatement, HasBadBytes, ReceivesBad, IsBadStatement}
use Rattle.graph_text.specs.Reading.{SaysAddition, HasFault, graph_lines, IsGraphOf, IsFirstFault, LinesAreDefinite}
use Rattle.graph_text.specs.Rules.{StatementBreaks, graph_rules}
use Rattle.graph_text.proofs.Meanings.{HasOneWrite, one_addition}

-- A line has one form.
abbrev pub HasOneForm : Type 0
HasOneForm = (text : List ℕ) (a b : Statement) → HasStatementForm text a → HasStatementForm text b → a ≡ b

-- ---- what is wrong with a context that is received

-- Digits say these bytes alone.
one_hex : (hex a b : List ℕ) → hex_bytes hex ≡ Some a → hex_bytes hex ≡ Some b → b ≡ a
one_hex hex a b e f = cc (e, f)

-- What is wrong with the bytes of a context.
abbrev IsWrong : Nodes → List ℕ → LineFault → Type 0
IsWrong table bytes fault =
    ((offset : ℕ) × (code : ByteCode) × IsFirstContextFault bytes offset (byte_code_of code) × (fault ≡ Bytes offset code))
    ⊎ ((list : List Atom) × (place : ℕ) × IsContextOf list bytes × IsFirstIllTyped table list place × (fault ≡ IllTyped (offset_of (form_of bytes) list place)))

one_wrong : (table : Nodes) (bytes : List ℕ) (f g : LineFault) → IsWrong table bytes f → IsWrong table bytes g → f ≡ g
one_wrong table bytes f g (inl (i, c, first, is)) (inl (j, d, other, also)) =
    let same = (has_one_context bytes).fault i j (byte_code_of c) (byte_code_of d) first other in
    let offsets : i ≡ j = same.0 in
    let codes : c ≡ d = one_code c d same.1 in
    cc (is, also, offsets, codes)
one_wrong table bytes f g (inl (i, c, first, is)) (inr (list, place, says, ill, also)) = absurd ((has_one_context bytes).either list i (byte_code_of c) says first)
one_wrong table bytes f g (inr (list, place, says, ill, is)) (inl (j, d, other, also)) = absurd ((has_one_context bytes).either list j (byte_code_of d) says other)
one_wrong table bytes f g (inr (list, i, says, ill, is)) (inr (others, j, say, bad, also)) =
    let same : others ≡ list = (has_one_context bytes).list others list say says in
    let places : i ≡ j = one_place table list i j ill (subst (λ l. IsFirstIllTyped table l j) same bad) in
    cc (is, also, same, places)

one_received : (table : Nodes) (hex : List ℕ) (f g : LineFault) → HasBadBytes table hex f → HasBadBytes table hex g → f ≡ g
one_received table hex f g (bytes, says, wrong) (others, say, bad) =
    one_wrong table bytes f g wrong (subst (λ bs. IsWrong table bs g) (one_hex hex bytes others says say) bad)

typed_not_wrong : (table : Nodes) (hex : List ℕ) (list : List Atom) (fault : LineFault) → SaysTypedContext table hex list → HasBadBytes table hex fault → ⊥
typed_not_wrong table hex list fault (bytes, says, is, typed) (others, say, bad) = by (subst (λ bs. IsWrong table bs fault) (one_hex hex bytes others says say) bad)
  where
    by : IsWrong table bytes fault → ⊥
    by (inl (i, c, first, at)) = (has_one_context bytes).either list i (byte_code_of c) is first
    by (inr (other, place, also, ill, at)) =
        first_ill_typed table list place (subst (λ l. IsFirstIllTyped table l place) ((has_one_context bytes).list other list also is) ill) typed

-- ---- lines that have a form

one_receives : (table : Nodes) (line : Statement) (f g : LineFault) → ReceivesBad table line f → ReceivesBad table line g → f ≡ g
one_receives table (lines.Step number (lines.Recv name hex)) f g bad other = one_received table hex f g bad other
one_receives table line f g bad other = absurd bad

good_not_received : (table : Nodes) (graph : Graph) (line : Statement) (a : Addition) (f : LineFault) → IsGoodStatement table graph line a → ReceivesBad table line f → ⊥
good_not_received table graph (lines.Step number (lines.Recv name hex)) a f (none, (service, act, stands, (list, says, is), at)) bad = typed_not_wrong table hex list f says bad
good_not_received table graph line a f good bad = bad

one_bad : (table : Nodes) (graph : Graph) (line : Statement) (f g : LineFault) → IsBadStatement table graph line f → IsBadStatement table graph line g → f ≡ g
one_bad table graph line f g (inl (c, first, is)) (inl (d, other, also)) = let codes : c ≡ d = first_of_one (StatementBreaks table graph line) graph_rules c d first other in cc (is, also, codes)
one_bad table graph line f g (inl (c, first, is)) (inr (none, bad)) = absurd (first_of_none (StatementBreaks table graph line) graph_rules c none first)
one_bad table graph line f g (inr (none, bad)) (inl (d, other, also)) = absurd (first_of_none (StatementBreaks table graph line) graph_rules d none other)
one_bad table graph line f g (inr (none, bad)) (inr (no_rule, other)) = one_receives table line f g bad other

good_not_bad_line : (table : Nodes) (graph : Graph) (line : Statement) (a : Addition) (f : LineFault) → IsGoodStatement table graph line a → IsBadStatement table graph line f → ⊥
good_not_bad_line table graph line a f good (inl (c, first, is)) = first_of_none (StatementBreaks table graph line) graph_rules c good.0 first
good_not_bad_line table graph line a f good (inr (none, bad)) = good_not_received table graph line a f good bad

-- ---- lines

module _ (forms : HasOneForm) (table : Nodes) (graph : Graph) where
  one_fault : (text : List ℕ) (f g : LineFault) → HasFault table graph text f → HasFault table graph text g → f ≡ g
  one_fault text f g (inl (none, is)) (inl (no_form, also)) = is ∙ sym also
  one_fault text f g (inl (none, is)) (inr (line, form, bad)) = absurd (none line form)
  one_fault text f g (inr (line, form, bad)) (inl (none, is)) = absurd (none line form)
  one_fault text f g (inr (line, form, bad)) (inr (other, other_form, also)) =
      one_bad table graph line f g bad (subst (λ l. IsBadStatement table graph l g) (forms text other line other_form form) also)

  not_both : (text : List ℕ) (a : Addition) (f : LineFault) → SaysAddition table graph text a → HasFault table graph text f → ⊥
  not_both text a f (line, form, good) (inl (none, is)) = none line form
  not_both text a f (line, form, good) (inr (other, other_form, bad)) =
      good_not_bad_line table graph line a f good (subst (λ l. IsBadStatement table graph l f) (forms text other line other_form form) bad)

  one_said : HasOneWrite → IsTable table → (text : List ℕ) (a b : Addition) → SaysAddition table graph text a → SaysAddition table graph text b → a ≡ b
  one_said writes is_table text a b (line, form, good) (other, other_form, also) =
      let same = forms text other line other_form form in
      one_addition writes table is_table graph line a b good.1 (subst (λ l. IsGoodStatement table graph l b) same also).1

pub is_definite : HasOneForm → HasOneWrite → LinesAreDefinite
is_definite forms writes table is_table = record {
  one_said = λ earlier text a b f g. one_said forms table (graph_of earlier) writes is_table text a b f g;
  one_fault = λ earlier text f g. one_fault forms table (graph_of earlier) text f g;
  not_both = λ earlier text said fault f g. not_both forms table (graph_of earlier) text said fault f g;
}

-- ---- texts

pub one_graph : LinesAreDefinite → (table : Nodes) (text : List ℕ) (a b : Graph) → IsTable table → IsGraphOf table text a → IsGraphOf table text b → a ≡ b
one_graph definite table text a b is_table (every, all, is) (others, say, also) =
    is ∙ ap graph_of (all_say_one (graph_lines table) (definite table is_table) (lines_of text) every others all say) ∙ sym also

pub one_first_fault : LinesAreDefinite → (table : Nodes) (text : List ℕ) (m n : ℕ) (f g : LineFault) → IsTable table
    → IsFirstFault table text m f → IsFirstFault table text n g → (m ≡ n) × (f ≡ g)
one_first_fault definite table text m n f g is_table bad other = first_bad_one (graph_lines table) (definite table is_table) (lines_of text) m n f g bad other

pub never_both : LinesAreDefinite → (table : Nodes) (text : List ℕ) (graph : Graph) (n : ℕ) (f : LineFault) → IsTable table
    → IsGraphOf table text graph → IsFirstFault table text n f → ⊥
never_both definite table text graph n f is_table (every, all, is) bad = good_not_bad (graph_lines table) (definite table is_table) (lines_of text) every n f all bad
