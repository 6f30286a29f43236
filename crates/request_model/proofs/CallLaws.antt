-- What the calls make of contexts of a request.
use Rattle.std.proofs.Common.{◌≡◌, ℕ, List, [], ◌∷◌, ◌++◌, refl, sym, subst, le_refl}
use Rattle.context_model.specs.declared.Form.{Form}
use Rattle.context_model.specs.Atoms.{Atom}
use Rattle.context_model.specs.Framing.{size_of}
use Rattle.context_model.specs.Trimmed.{trimmed}
use Rattle.context_model.proofs.ContextFronts.{has_one_context}
use Rattle.context_model.proofs.TrimmedLaws.{trimmed-fits}
use Rattle.bag_model.specs.Shapes.{Shape, Nodes}
use Rattle.bag_model.specs.Tables.{IsTable}
use Rattle.bag_model.specs.Values.{Value, IsOfShape}
use Rattle.bag_model.specs.Views.{View}
use Rattle.text_lines.specs.Lines.{Line}
use Rattle.text_lines.specs.Readings.{AllSay}
use Rattle.trace_model.specs.Runs.{Lists}
use Rattle.field_writes.specs.Writes.{IsWrite}
use Rattle.byte_calls.specs.Contexts.{AreContextsOf, IsMergeOf}
use Rattle.keep_calls.specs.declared.others.Others.TheVariants.{Cut}
use Rattle.keep_calls.specs.Calls.{IsCutKeptOf}
use Rattle.step_calls.specs.Excerpts.{IsExcerpt, IsKnown}
use Rattle.step_calls.specs.Inputs.{AreTypedContextsOf}
use Rattle.step_calls.specs.Lines.{Write, SaysLineWrite, write_lines, lines_from_one}
use Rattle.request_model.specs.Contributions.{Contribution, Wrote, IsWriteTo, AreWritesTo}
use Rattle.request_model.specs.Calls.{InputsHold, ContextHolds, CallsHold}
use Rattle.request_model.specs.Contexts.{ContextsHold, joined, updated, kept}

-- Inputs are the bytes of one list each.
same_contexts : (a b : Lists) (inputs : List (List ℕ)) → AreContextsOf a inputs → AreContextsOf b inputs → a ≡ b
same_contexts [] [] [] f g = refl
same_contexts [] (y ∷ b) [] f g = absurd g
same_contexts (x ∷ a) b [] f g = absurd f
same_contexts [] b (bytes ∷ inputs) f g = absurd f
same_contexts (x ∷ a) [] (bytes ∷ inputs) f g = absurd g
same_contexts (x ∷ a) (y ∷ b) (bytes ∷ inputs) f g =
    let head : x ≡ y = (has_one_context bytes).list x y f.0 g.0 in
    let tail : a ≡ b = same_contexts a b inputs f.1 g.1 in
    cc

typed_contexts : (nodes : Nodes) (lists : Lists) (inputs : List (List ℕ)) → AreTypedContextsOf nodes lists inputs → AreContextsOf lists inputs
typed_contexts nodes [] [] t = tt
typed_contexts nodes [] (bytes ∷ inputs) t = absurd t
typed_contexts nodes (list ∷ lists) [] t = absurd t
typed_contexts nodes (list ∷ lists) (bytes ∷ inputs) t = (t.0.0, typed_contexts nodes lists inputs t.1)

held : (nodes : Nodes) (lists : Lists) (inputs : List (List ℕ)) (contributions : List Contribution) → InputsHold nodes inputs contributions → AreContextsOf lists inputs → ContextsHold nodes lists contributions
held nodes lists inputs contributions h of = subst (λ l. ContextsHold nodes l contributions) (same_contexts h.lists lists inputs h.contexts of) h.holds

-- ---- writes

module _ (fits : (form : Form) (shape : Shape) (v : Value) (text : List ℕ) → IsWrite form shape v text → IsOfShape shape v) (nodes excerpt : Nodes) (view : View) (part : IsExcerpt nodes view excerpt) where
  write_to : (form : Form) (line : List ℕ) (write : Write) → SaysLineWrite form excerpt line write → (slot : ℕ) × IsWriteTo nodes excerpt write slot write.1
  write_to form line write says = by (part.only write.0 says.at says.there)
    where
      by : IsKnown nodes view says.at → (slot : ℕ) × IsWriteTo nodes excerpt write slot write.1
      by k = (
        k.0,
        record {
          at = k.1;
          also = says.at;
          there = k.3;
          known = says.there;
          like = k.4;
          shape = subst (λ shape. IsOfShape shape write.1) (sym (k.4).shape) (fits form (says.at).shape write.1 says.text says.value);
          same = refl;
        },
      )

  writes_to : (form : Form) (lines : List Line) (earlier said : List Write) → AllSay (write_lines form excerpt) earlier lines said → (written : List Contribution) × AreWritesTo nodes excerpt said written
  writes_to form [] earlier [] says = ([], tt)
  writes_to form [] earlier (write ∷ said) says = absurd says
  writes_to form (line ∷ lines) earlier [] says = absurd says
  writes_to form (line ∷ lines) earlier (write ∷ said) says =
      let one = write_to form line.1 write says.0 in
      let rest = writes_to form lines (earlier ++ write ∷ []) said says.1 in
      (Wrote one.0 write.1 ∷ rest.0, (one.1, rest.1))

-- ---- the calls

join_holds : (nodes : Nodes) (form : Form) (budget : ℕ) (inputs : List (List ℕ)) (contributions : List Contribution) (merged : List Atom) → InputsHold nodes inputs contributions → IsMergeOf inputs merged
    → ContextHolds nodes (trimmed form merged budget) contributions
join_holds nodes form budget inputs contributions merged h m = joined form budget m.0 contributions merged (held nodes m.0 inputs contributions h m.1) m.2

-- a merge that isn't cut
whole_holds : (nodes : Nodes) (form : Form) (inputs : List (List ℕ)) (contributions : List Contribution) (merged : List Atom) → InputsHold nodes inputs contributions → IsMergeOf inputs merged → ContextHolds nodes merged contributions
whole_holds nodes form inputs contributions merged h m = subst (λ l. ContextHolds nodes l contributions) (trimmed-fits form merged (size_of form merged) (le_refl (size_of form merged))) (join_holds nodes form (size_of form merged) inputs contributions merged h m)

keep_holds : (nodes own : Nodes) (form : Form) (budget : ℕ) (inputs : List (List ℕ)) (contributions : List Contribution) (list : List Atom) → InputsHold nodes inputs contributions → IsTable own
    → IsCutKeptOf form budget own Cut inputs list → ContextHolds nodes list contributions
keep_holds nodes own form budget inputs contributions list h table k = subst (λ l. ContextHolds nodes l contributions) (sym k.4)
    (kept form budget own contributions k.0 k.2 (whole_holds nodes form inputs contributions k.0 h k.1) (record { table = table; well_formed = ((k.1).2).well_formed; holds = k.3 }))

pub calls_hold : ((form : Form) (shape : Shape) (v : Value) (text : List ℕ) → IsWrite form shape v text → IsOfShape shape v) → CallsHold
calls_hold fits = record {
  join = join_holds;
  update = λ nodes view form budget table inputs writes contributions list h made part.
      let written = writes_to fits nodes made.nodes view part form (lines_from_one writes) [] made.said made.says in (
        written.0,
        written.1,
        updated form budget view made.nodes made.lists contributions written.0 made.said list
            (held nodes made.lists inputs contributions h (typed_contexts made.nodes made.lists inputs made.typed)) part (made.printed).0 written.1 made.update,
      );
  keep = keep_holds;
}
