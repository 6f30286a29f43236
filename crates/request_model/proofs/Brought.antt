-- The paths that additions bring, and what they say.
use Rattle.std.proofs.Common.{◌⊎◌, inl, inr, ℕ, List, [], ◌∷◌, ◌++◌, true, false, Bool, refl, sym, subst}
use Rattle.std.specs.List.{AllByRecursion}
use Rattle.context_model.specs.Orders.{Path}
use Rattle.bag_model.specs.Encodings.{InLayouts}
use Rattle.bag_model.specs.Readings.{PathsOf, ReadsEach}
use Rattle.bag_model.specs.Shapes.{Nodes}
use Rattle.bag_model.specs.SlotValues.{only}
use Rattle.bag_model.specs.Tables.{IsTable}
use Rattle.bag_model.specs.Typed.{AreTyped}
use Rattle.bag_model.specs.Values.{Value, Values, AreOfShapes}
use Rattle.bag_model.proofs.EachSlot.{only_fits}
use Rattle.bag_model.proofs.Existence.{typed_lists_say}
use Rattle.bag_model.proofs.LayoutLaws.{ReadsEach-layout, AreTyped-layout}
use Rattle.bag_model.proofs.MergeReadingLaws.{PathsOf-headers}
use Rattle.bag_model.proofs.OfShape.{ReadsEach-none}
use Rattle.bag_model.proofs.PathSets.{AnyOf, HasKeyHeaders}
use Rattle.bag_model.proofs.TypedLaws.{AreTyped-fewer, AreTyped-any}
use Rattle.bag_model.proofs.Unions.{ReadsEach-union}
use Rattle.trace_model.specs.Truth.{join_all}
use Rattle.trace_model.proofs.LayoutFronts.{InLayouts-headers}
use Rattle.request_model.specs.Contributions.{Contribution, Wrote, Received, IsContribution, ContributionSays, ContributionsSay}

-- The paths that an addition brings.
abbrev pub Brings : Nodes → Contribution → Path → Type 0
Brings nodes (Wrote slot v) p = InLayouts nodes [] (only nodes slot v) p
Brings nodes (Received list) p = PathsOf list p

-- The paths that some additions bring.
abbrev pub Brought : Nodes → List Contribution → Path → Type 0
Brought nodes [] p = ⊥
Brought nodes (one ∷ contributions) p = Brings nodes one p ⊎ Brought nodes contributions p

-- One of two sets.
abbrev pub two_sets : (Path → Type 0) → (Path → Type 0) → Bool → Path → Type 0
two_sets P Q true = P
two_sets P Q false = Q

module _ (nodes : Nodes) where
  pub brought_first : (some others : List Contribution) (p : Path) → Brought nodes some p → Brought nodes (some ++ others) p
  brought_first [] others p none = absurd none
  brought_first (one ∷ some) others p (inl i) = inl i
  brought_first (one ∷ some) others p (inr i) = inr (brought_first some others p i)

  pub brought_second : (some others : List Contribution) (p : Path) → Brought nodes others p → Brought nodes (some ++ others) p
  brought_second [] others p i = i
  brought_second (one ∷ some) others p i = inr (brought_second some others p i)

  pub brought_split : (some others : List Contribution) (p : Path) → Brought nodes (some ++ others) p → Brought nodes some p ⊎ Brought nodes others p
  brought_split [] others p i = inr i
  brought_split (one ∷ some) others p (inl i) = inl (inl i)
  brought_split (one ∷ some) others p (inr i) = elim (brought_split some others p i) [ inl j ↦ inl (inr j) | inr j ↦ inr j ]

  -- ---- headers

  brings_headers : (one : Contribution) → HasKeyHeaders (Brings nodes one)
  brings_headers (Wrote slot v) = InLayouts-headers nodes (only nodes slot v)
  brings_headers (Received list) = PathsOf-headers list

  pub brought_headers : (contributions : List Contribution) → HasKeyHeaders (Brought nodes contributions)
  brought_headers [] q key a r none = absurd none
  brought_headers (one ∷ contributions) q key a r (inl i) = inl (brings_headers one q key a r i)
  brought_headers (one ∷ contributions) q key a r (inr i) = inr (brought_headers contributions q key a r i)

  module _ (table : IsTable nodes) where
    only_shapes : (slot : ℕ) (v : Value) → IsContribution nodes (Wrote slot v) → AreOfShapes nodes (only nodes slot v)
    only_shapes slot v s = (only_fits).shapes nodes slot s.0 v s.1 s.2

    -- ---- types

    brings_typed : (one : Contribution) → IsContribution nodes one → AreTyped nodes (Brings nodes one) []
    brings_typed (Wrote slot v) s = AreTyped-layout nodes (InLayouts nodes [] (only nodes slot v)) [] (only nodes slot v) table.well_formed (only_shapes slot v s) (λ f i. ((λ p b bytes l. l), λ p b bytes l. l))
    brings_typed (Received list) s = s.typed

    nothing_typed : AreTyped nodes (Brought nodes []) []
    nothing_typed = AreTyped-fewer nodes (Brought nodes []) (AnyOf none) [] (λ p b bytes i. absurd i) (AreTyped-any nodes ⊥ none [] (λ i. absurd i) (λ i. absurd i))
      where
        none : ⊥ → Path → Type 0
        none i p = ⊥

    -- an addition, or one of others
    abbrev one_or_others : Contribution → List Contribution → Bool → Path → Type 0
    one_or_others one contributions = two_sets (Brings nodes one) (Brought nodes contributions)

    apart : (one : Contribution) (contributions : List Contribution) (p : Path) → Brought nodes (one ∷ contributions) p → AnyOf (one_or_others one contributions) p
    apart one contributions p (inl i) = (true, i)
    apart one contributions p (inr i) = (false, i)

    either_headers : (one : Contribution) (contributions : List Contribution) (i : Bool) → HasKeyHeaders (one_or_others one contributions i)
    either_headers one contributions true = brings_headers one
    either_headers one contributions false = brought_headers contributions

    either_typed : (one : Contribution) (contributions : List Contribution) → AreTyped nodes (Brings nodes one) [] → AreTyped nodes (Brought nodes contributions) []
        → (i : Bool) → AreTyped nodes (one_or_others one contributions i) []
    either_typed one contributions s t true = s
    either_typed one contributions s t false = t

    pub brought_typed : (contributions : List Contribution) → AllByRecursion (IsContribution nodes) contributions → AreTyped nodes (Brought nodes contributions) []
    brought_typed [] s = nothing_typed
    brought_typed (one ∷ contributions) s =
        AreTyped-fewer nodes (Brought nodes (one ∷ contributions)) (AnyOf (one_or_others one contributions)) [] (λ p b bytes i. apart one contributions (p ++ (b ∷ bytes) ∷ []) i)
        (AreTyped-any nodes Bool (one_or_others one contributions) [] (either_headers one contributions) (λ i below. either_typed one contributions (brings_typed one s.0) (brought_typed contributions s.1) i))

    -- ---- values

    brings_reads : (one : Contribution) (vs : Values) → IsContribution nodes one → ContributionSays nodes one vs → ReadsEach nodes (Brings nodes one) [] vs
    brings_reads (Wrote slot v) vs s e = subst (ReadsEach nodes (InLayouts nodes [] (only nodes slot v)) []) (sym e)
        (ReadsEach-layout nodes (InLayouts nodes [] (only nodes slot v)) [] (only nodes slot v) table.well_formed (only_shapes slot v s) (λ f i. ((λ p b bytes l. l), λ p b bytes l. l)))
    brings_reads (Received list) vs s r = r

    -- What additions bring says the join of what they say.
    pub brought_reads : (contributions : List Contribution) (said : List Values) → AllByRecursion (IsContribution nodes) contributions → ContributionsSay nodes contributions said → ReadsEach nodes (Brought nodes contributions) [] (join_all nodes said)
    brought_reads [] [] s e = ReadsEach-none nodes (Brought nodes []) [] (λ r none. none)
    brought_reads [] (vs ∷ said) s e = absurd e
    brought_reads (one ∷ contributions) [] s e = absurd e
    brought_reads (one ∷ contributions) (vs ∷ said) s e =
        ReadsEach-union nodes (Brings nodes one) (Brought nodes contributions) [] vs (join_all nodes said) (brings_headers one) (brought_headers contributions) (brings_reads one vs s.0 e.0) (brought_reads contributions said s.1 e.1)

  adds_some : (one : Contribution) → IsContribution nodes one → (vs : Values) × ContributionSays nodes one vs
  adds_some (Wrote slot v) s = (only nodes slot v, refl)
  adds_some (Received list) s = typed_lists_say nodes list s.typed

  -- Additions say something.
  pub adds_each : (contributions : List Contribution) → AllByRecursion (IsContribution nodes) contributions → (said : List Values) × ContributionsSay nodes contributions said
  adds_each [] s = ([], tt)
  adds_each (one ∷ contributions) s = let v = adds_some one s.0 in let t = adds_each contributions s.1 in (v.0 ∷ t.0, (v.1, t.1))
