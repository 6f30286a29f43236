-- Reports part by part.
use Rattle.std.proofs.Common.{◌≡◌, ℕ, List, [], ◌∷◌, ◌++◌, refl, sym, ap, ◌∙◌, subst, append_assoc, codes}
use Rattle.std.specs.Fmt.{decimal}
use Rattle.std.proofs.lemmas.List.{append-nil}
use Rattle.context_model.specs.declared.Form.{Form}
use Rattle.bag_model.specs.Shapes.{Nodes}
use Rattle.context_model.specs.Atoms.{Atom}
use Rattle.trace_model.specs.Graphs.{Graph, step_form}
use Rattle.trace_model.specs.Runs.{Lists, list_at}
use Rattle.report_text.specs.Blocks.{IsBlock, HasOneBlock, AddsBlock}
use Rattle.graph_report.specs.Reports.{step_text, AreReported, AddsStep}

four_parts : (before word number end text : List ℕ) → (((before ++ word) ++ number) ++ end) ++ text ≡ before ++ ((word ++ number) ++ (end ++ text))
four_parts before word number end text = simp append_assoc

-- The word, the number, a line feed and the block make a step's part.
pub step_added : (nodes : Nodes) (graph : Graph) (lists : Lists) (n : ℕ) (form : Form) (list : List Atom) (before mid after : List ℕ) → form ≡ step_form graph n → list ≡ list_at lists n → mid ≡ ((before ++ codes "step ") ++ decimal n) ++ 10 ∷ [] → AddsBlock nodes form list mid after
    → AddsStep nodes graph lists n before after
step_added nodes graph lists n form list before mid after own same is (text, added, block) =
    (text, subst (λ f. IsBlock nodes f (list_at lists n) text) own (subst (λ l. IsBlock nodes form l text) same block), added ∙ ap (λ t. t ++ text) is ∙ four_parts before (codes "step ") (decimal n) (10 ∷ []) text)

-- A report grows by a step at its end.
pub one_more : (nodes : Nodes) (graph : Graph) (lists : Lists) (shows : List ℕ) (n : ℕ) (before after : List ℕ) → AreReported nodes graph lists shows before → AddsStep nodes graph lists n before after
    → AreReported nodes graph lists (shows ++ n ∷ []) after
one_more nodes graph lists [] n before after none (block, is, added) =
    (block, [], is, refl, added ∙ ap (λ t. t ++ step_text n block) none ∙ sym (append-nil (step_text n block)))
one_more nodes graph lists (m ∷ shows) n before after (block, rest, is, others, whole) (last, end, added) = (
  block,
  rest ++ step_text n last,
  is,
  one_more nodes graph lists shows n rest (rest ++ step_text n last) others (last, end, refl),
  added ∙ ap (λ t. t ++ step_text n last) whole ∙ append_assoc (step_text m block) rest (step_text n last),
)

-- Where a list has one block, steps have one report.
pub one_report : HasOneBlock → (nodes : Nodes) (graph : Graph) (lists : Lists) (shows : List ℕ) (a b : List ℕ) → AreReported nodes graph lists shows a → AreReported nodes graph lists shows b → a ≡ b
one_report blocks nodes graph lists [] a b e f = e ∙ sym f
one_report blocks nodes graph lists (n ∷ shows) a b (block, rest, is, others, whole) (other, end, also, too, all) =
    whole
    ∙ ap (λ t. step_text n t ++ rest) (blocks nodes (step_form graph n) (list_at lists n) block other is also)
    ∙ ap (λ t. step_text n other ++ t) (one_report blocks nodes graph lists shows rest end others too)
    ∙ sym all
