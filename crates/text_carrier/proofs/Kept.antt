-- What is kept of the pieces that lines have said.
use Rattle.std.proofs.Common.{◌≡◌, inl, inr, ℕ, ◌+◌, ◌<◌, Bool, true, false, Option, None, Some, List, [], ◌∷◌, ◌++◌, length, refl, sym, ◌∙◌, ap, subst, arith}
use Rattle.std.specs.Prelude.{◌≢◌}
use Rattle.std.specs.Borrow.{Bor}
use Rattle.std.specs.BTreeMap.{BTreeMap, Updates, get}
use Rattle.std.specs.Cmp.{nat_cmp_is}
use Rattle.std.specs.List.{Contains, slice_index_or}
use Rattle.std.specs.Option.{option_map}
use Rattle.std.specs.Ordering.{nat_cmp, is_eq}
use Rattle.std.specs.Str.{bytes_eq}
use Rattle.std.specs.declared.cmp.Ordering.TheVariants.{Less, Greater}
use Rattle.std.proofs.lemmas.Bool.{cases_eq, cases_order, cases_lt}
use Rattle.std.proofs.lemmas.List.{get_or_append_left, get_or_push}
use Rattle.std.proofs.lemmas.List.Elements.{Contains-append_left, Contains-push, Contains-push_cases}
use Rattle.std.proofs.lemmas.Slice.Eq.{bytes_eq-Decides}
use Rattle.base64.specs.GeneralPurpose.{IsBytes}
use Rattle.text_lines.specs.Readings.{NoneOf}
use Rattle.text_carrier.specs.declared.pieces.Pieces.{Pieces}
use Rattle.text_carrier.specs.Pieces.{Piece, data_text}
use Rattle.text_carrier.specs.Rules.{PieceBreaks, IsOtherCount, carry_rules}
use Rattle.text_carrier.specs.Collecting.{count_of}
use Rattle.text_carrier.specs.Views.{first_count, IsTextAt, Keeps}

-- Texts that can't differ are the same.
pub same_text : (a b : List ℕ) → (a ≢ b → ⊥) → a ≡ b
same_text a b h = by (bytes_eq a b) refl
  where
    by : (t : Bool) → bytes_eq a b ≡ t → a ≡ b
    by true is = (bytes_eq-Decides a b).0 is
    by false is = absurd (h (λ e. let bad : true ≡ false = sym ((bytes_eq-Decides a b).1 e) ∙ is in cc bad))

apart : (k q : ℕ) → q ≢ k → is_eq (nat_cmp k q) ≡ false
apart k q ne = elim (cases_order k q) [
  | inl e ↦ absurd (ne (sym e))
  | inr less_or_more ↦ elim less_or_more [
    | inl less ↦ ap is_eq (sym (nat_cmp_is k q Less less))
    | inr more ↦ ap is_eq (sym (nat_cmp_is k q Greater more))
  ]
]

-- ---- the number of pieces

-- A line more tells no other number.
count_more : (said : List Piece) (piece : Piece) → (IsOtherCount said piece.count → ⊥) → Some piece.count ≡ first_count (said ++ piece ∷ [])
count_more [] piece none = refl
count_more (first ∷ more) piece none = elim (cases_eq piece.count first.count) [
  | inl e ↦ ap Some e
  | inr ne ↦ absurd (none ne)
]

-- What the first line tells.
pub count_told : (said : List Piece) (count : ℕ) → Some count ≡ first_count said → (said ≢ []) × (count_of said ≡ count)
count_told [] count is = absurd (cc is)
count_told (piece ∷ more) count is = (λ e. cc e, cc is)

-- ---- texts

-- A piece of another number changes nothing at this one.
text_apart : (said : List Piece) (piece : Piece) (place : ℕ) (text : Option (List ℕ)) → place ≢ piece.place → IsTextAt said place text → IsTextAt (said ++ piece ∷ []) place text
text_apart said piece place None ne none = λ (other, among, at). elim (Contains-push_cases said piece other among) [
  | inl before ↦ none (other, before, at)
  | inr is ↦ ne (sym at ∙ ap (λ (p : Piece). p.place) (sym is))
]
text_apart said piece place (Some text) ne ((one, among, at), all) = (
  (one, Contains-append_left said (piece ∷ []) one among, at),
  λ other i is. elim (Contains-push_cases said piece other i) [
    | inl before ↦ all other before is
    | inr last ↦ absurd (ne (sym is ∙ ap (λ (p : Piece). p.place) (sym last)))
  ],
)

-- A piece that clashes with none has the text of all of its number.
text_here : (said : List Piece) (piece : Piece) (text : List ℕ) → text ≡ data_text piece.bytes
    → (((other : Piece) × Contains said other × (other.place ≡ piece.place) × (data_text other.bytes ≢ text)) → ⊥) → IsTextAt (said ++ piece ∷ []) piece.place (Some text)
text_here said piece text is none = (
  (piece, Contains-push said piece, refl),
  λ other i at. elim (Contains-push_cases said piece other i) [
    | inl before ↦ same_text (data_text other.bytes) text (λ ne. none (other, before, at, ne))
    | inr last ↦ ap (λ (p : Piece). data_text p.bytes) (sym last) ∙ sym is
  ],
)

pub keeps_more : (said : List Piece) (kept : Pieces) (texts : BTreeMap ℕ (Bor (List ℕ))) (piece : Piece) (text : Bor (List ℕ)) → Keeps said kept
    → NoneOf (PieceBreaks said piece.place piece.count text.now) carry_rules → IsBytes piece.bytes → text.now ≡ data_text piece.bytes
    → Updates nat_cmp kept.texts texts piece.place (Some text) → Keeps (said ++ piece ∷ []) (record { count = Some piece.count; texts = texts })
keeps_more said kept texts piece text keeps none are is updates = record {
  count = count_more said piece none.1.1.0;
  texts = λ place. elim (cases_eq place piece.place) [
    | inl e ↦ subst (λ p. IsTextAt (said ++ piece ∷ []) p (option_map (λ t. t.now) (get nat_cmp texts p))) (sym e)
        (subst (λ o. IsTextAt (said ++ piece ∷ []) piece.place (option_map (λ t. t.now) o)) (sym updates.1) (text_here said piece text.now is none.1.1.1.0))
    | inr ne ↦ subst (λ o. IsTextAt (said ++ piece ∷ []) place (option_map (λ t. t.now) o)) (sym (updates.2 place (apart piece.place place ne)))
        (text_apart said piece place (option_map (λ t. t.now) (get nat_cmp kept.texts place)) ne (keeps.texts place))
  ];
  are_bytes = λ other i. elim (Contains-push_cases said piece other i) [
    | inl before ↦ keeps.are_bytes other before
    | inr last ↦ subst (λ (p : Piece). IsBytes p.bytes) last are
  ];
}

-- ---- texts in order

-- One text more.
pub texts_more : (said : List Piece) (texts : List (List ℕ)) (text : List ℕ) (n : ℕ) → length texts ≡ n → ((place : ℕ) → place < n → IsTextAt said place (Some (slice_index_or texts place [])))
    → IsTextAt said n (Some text) → (place : ℕ) → place < n + 1 → IsTextAt said place (Some (slice_index_or (texts ++ text ∷ []) place []))
texts_more said texts text n many each here place less = elim (cases_lt place n) [
  | inl before ↦ subst (λ t. IsTextAt said place (Some t)) (sym (get_or_append_left texts (text ∷ []) [] place (omega arith))) (each place before)
  | inr last ↦
      let is : place ≡ n = omega arith in
      subst (λ t. IsTextAt said place (Some t)) (sym (get_or_push texts text [] place (omega arith))) (subst (λ p. IsTextAt said p (Some text)) (sym is) here)
]
