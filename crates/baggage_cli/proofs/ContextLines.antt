-- Lines of contexts, one after another.
use Rattle.std.proofs.Common.{◌≡◌, ◌⊎◌, inl, inr, ◌<◌, ◌≤◌, List, [], ◌∷◌, ◌++◌, length, refl, sym, ap, ◌∙◌, arith}
use Rattle.std.proofs.lemmas.List.{length-map, map-append}
use Rattle.context_model.specs.declared.Form.{Form as WireForm}
use Rattle.context_model.specs.declared.Form.TheVariants.{One, Two}
use Rattle.text_lines.specs.Lines.{Line}
use Rattle.text_lines.proofs.ReadingLaws.{all_say_more, at_most-few, next_bad}
use Rattle.context_model.specs.Atoms.{Atom}
use Rattle.baggage_cli.specs.declared.commands.merge.TheConstants.{LINES_MAX}
use Rattle.baggage_cli.specs.declared.refusals.InputCode.TheVariants.{TooManyLines}
use Rattle.baggage_cli.specs.declared.refusals.InputFault.TheVariants.{Code}
use Rattle.baggage_cli.specs.declared.refusals.Notice.TheVariants.{Memory}
use Rattle.baggage_cli.specs.declared.refusals.Refusal.{Refusal}
use Rattle.baggage_cli.specs.declared.refusals.Refusal.TheVariants.{Input, Plain}
use Rattle.baggage_cli.specs.Merge.{lists_of, merged_lines, widest, AreContexts}
use Rattle.baggage_cli.specs.Reading.{Framed, RefusesLine, RefusesLines, context_lines}

-- The widest form of some lines with one more after them.
widest-one : (said : List Framed) (list : List Atom) → widest (said ++ (One, list) ∷ []) ≡ widest said
widest-one [] list = refl
widest-one ((One, first) ∷ said) list = widest-one said list
widest-one ((Two, first) ∷ said) list = refl

widest-two : (said : List Framed) (list : List Atom) → widest (said ++ (Two, list) ∷ []) ≡ Two
widest-two [] list = refl
widest-two ((One, first) ∷ said) list = widest-two said list
widest-two ((Two, first) ∷ said) list = refl

widest-wide : (said : List Framed) (one : Framed) → one.0 ≡ Two → widest (said ++ one ∷ []) ≡ Two
widest-wide said (One, list) is = absurd (cc is)
widest-wide said (Two, list) is = widest-two said list

widest-same : (said : List Framed) (one : Framed) → (one.0 ≡ Two → ⊥) → widest (said ++ one ∷ []) ≡ widest said
widest-same said (One, list) not = widest-one said list
widest-same said (Two, list) not = absurd (not refl)

-- Few lists are those of few lines, and the line after them is wanted.
few_said : (said : List Framed) (lists : List (List Atom)) → lists ≡ lists_of said → length lists < LINES_MAX → length said < LINES_MAX
few_said said lists is few = omega (arith, few, ap length is, length-map said (λ (one : Framed). one.1))

-- After lines of contexts the next one is bad.
pub next_refused : (lines before : List Line) (line : Line) (after left : List Line) (form : WireForm) (lists : List (List Atom)) (refusal : Refusal) → lines ≡ before ++ left → left ≡ line ∷ after
    → AreContexts before form lists → length lists < LINES_MAX → RefusesLine context_lines line refusal → (refusal ≡ Plain Memory) ⊎ RefusesLines merged_lines lines refusal
next_refused lines before line after left form lists refusal split next are few (inl wanting) = inl wanting
next_refused lines before line after left form lists refusal split next (said, all, form_is, lists_are) few (inr (fault, bad, is)) =
    inr (line.0, fault, next_bad merged_lines lines before line after left said fault split next all (inl (few_said said lists lists_are few, bad)), is)

-- After as many lines as may be merged the next one is too many.
pub too_many : (lines before : List Line) (line : Line) (after left : List Line) (form : WireForm) (lists : List (List Atom)) → lines ≡ before ++ left → left ≡ line ∷ after
    → AreContexts before form lists → LINES_MAX ≤ length lists → RefusesLines merged_lines lines (Input line.0 (Code TooManyLines))
too_many lines before line after left form lists split next (said, all, form_is, lists_are) full =
    let most : LINES_MAX ≤ length said = omega (arith, full, ap length lists_are, length-map said (λ (one : Framed). one.1)) in
    (line.0, Code TooManyLines, next_bad merged_lines lines before line after left said (Code TooManyLines) split next all (inr (most, refl)), refl)

-- A context after others, of form two or not.
next_context : (lines : List Line) (line : Line) (form wide : WireForm) (lists : List (List Atom)) (one : Framed) → ((said : List Framed) → form ≡ widest said → wide ≡ widest (said ++ one ∷ []))
    → AreContexts lines form lists → length lists < LINES_MAX → context_lines.says [] line.1 one → AreContexts (lines ++ line ∷ []) wide (lists ++ one.1 ∷ [])
next_context lines line form wide lists one widens (said, all, form_is, lists_are) few says = (
  said ++ one ∷ [],
  all_say_more merged_lines lines said line one all (few_said said lists lists_are few, says),
  widens said form_is,
  ap (λ l. l ++ one.1 ∷ []) lists_are ∙ sym (map-append (λ (o : Framed). o.1) said (one ∷ [])),
)

pub next_wide : (lines : List Line) (line : Line) (form : WireForm) (lists : List (List Atom)) (one : Framed) → one.0 ≡ Two → AreContexts lines form lists → length lists < LINES_MAX
    → context_lines.says [] line.1 one → AreContexts (lines ++ line ∷ []) Two (lists ++ one.1 ∷ [])
next_wide lines line form lists one two = next_context lines line form Two lists one (λ said is. sym (widest-wide said one two))

pub next_same : (lines : List Line) (line : Line) (form : WireForm) (lists : List (List Atom)) (one : Framed) → (one.0 ≡ Two → ⊥) → AreContexts lines form lists → length lists < LINES_MAX
    → context_lines.says [] line.1 one → AreContexts (lines ++ line ∷ []) form (lists ++ one.1 ∷ [])
next_same lines line form lists one not = next_context lines line form form lists one (λ said is. is ∙ sym (widest-same said one not))

-- Contexts that were read are no more than may be merged.
pub contexts-few : (lines : List Line) (form : WireForm) (lists : List (List Atom)) → AreContexts lines form lists → length lists ≤ LINES_MAX
contexts-few lines form lists (said, all, form_is, lists_are) =
    let most = at_most-few LINES_MAX (Code TooManyLines) context_lines lines said all in
    omega (arith, most, ap length lists_are, length-map said (λ (one : Framed). one.1))
