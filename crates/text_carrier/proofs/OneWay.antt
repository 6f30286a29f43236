-- Lines collect to one answer.
use Rattle.std.proofs.Common.{◌≡◌, ◌⊎◌, inl, inr, ℕ, ◌<◌, ◌≤◌, Result, Ok, Err, List, [], ◌∷◌, ◌++◌, length, get_or, refl, sym, ◌∙◌, ap, subst, append_assoc, arith}
use Rattle.std.specs.Prelude.{◌≢◌}
use Rattle.std.specs.List.{Contains, concat}
use Rattle.std.proofs.lemmas.Bool.{cases_order}
use Rattle.std.proofs.lemmas.List.{append-nil, same_lists}
use Rattle.std.proofs.lemmas.List.Elements.{Contains-push_cases}
use Rattle.std.proofs.lemmas.Option.{slice_get-get_or}
use Rattle.base64.specs.GeneralPurpose.{IsBytes}
use Rattle.text_lines.specs.Lines.{Line}
use Rattle.text_lines.specs.Readings.{AllSay, IsFirstBad}
use Rattle.text_lines.proofs.ReadingLaws.{all_say_one, first_bad_one, good_not_bad, none_bad}
use Rattle.text_carrier.specs.declared.TheConstants.{CARRIED_MAX}
use Rattle.text_carrier.specs.declared.faults.CarryCode.{CarryCode}
use Rattle.text_carrier.specs.declared.faults.CarryFault.{CarryFault}
use Rattle.text_carrier.specs.declared.faults.CarryFault.TheVariants.{At, NoLine, Missing, TooManyBytes, Memory}
use Rattle.text_carrier.specs.Pieces.{Piece, data_text}
use Rattle.text_carrier.specs.Rules.{IsGoodPiece, piece_lines}
use Rattle.text_carrier.specs.Collecting.{AreWhole, Collects, IsFirstMissing, SaySome}
use Rattle.text_carrier.proofs.Definite.{is_definite}
use Rattle.text_carrier.proofs.Kept.{same_text}
use Rattle.text_carrier.proofs.Standard.{one_data}

-- ---- pieces of one number

-- Pieces of one number have the same bytes.
record AreOne (pieces : List Piece) : Type 0 where
  are_bytes : (piece : Piece) → Contains pieces piece → IsBytes piece.bytes
  same : (a b : Piece) → Contains pieces a → Contains pieces b → a.place ≡ b.place → a.bytes ≡ b.bytes

one_more : (earlier : List Piece) (text : List ℕ) (piece : Piece) → AreOne earlier → IsGoodPiece earlier text piece → AreOne (earlier ++ piece ∷ [])
one_more earlier text piece one good = record {
  are_bytes = λ other i. elim (Contains-push_cases earlier piece other i) [
    | inl before ↦ one.are_bytes other before
    | inr last ↦ subst (λ (p : Piece). IsBytes p.bytes) last good.1
  ];
  same = λ a b i j at. elim (Contains-push_cases earlier piece a i) [
    | inl before ↦ elim (Contains-push_cases earlier piece b j) [
      | inl also ↦ one.same a b before also at
      | inr last ↦ with_last a before (at ∙ ap (λ (p : Piece). p.place) (sym last)) ∙ ap (λ (p : Piece). p.bytes) last
    ]
    | inr first ↦ elim (Contains-push_cases earlier piece b j) [
      | inl also ↦ ap (λ (p : Piece). p.bytes) (sym first) ∙ sym (with_last b also (sym at ∙ ap (λ (p : Piece). p.place) (sym first)))
      | inr last ↦ ap (λ (p : Piece). p.bytes) (sym first ∙ last)
    ]
  ];
}
  where
    with_last : (other : Piece) → Contains earlier other → other.place ≡ piece.place → other.bytes ≡ piece.bytes
    with_last other before at =
        one_data other.bytes piece.bytes (one.are_bytes other before) good.1
        (same_text (data_text other.bytes) (data_text piece.bytes) (λ ne. good.2.1.1.1.0 (other, before, at, ne)))

all_one : (earlier : List Piece) (lines : List Line) (said : List Piece) → AreOne earlier → AllSay piece_lines earlier lines said → AreOne (earlier ++ said)
all_one earlier [] [] one all = subst AreOne (sym (append-nil earlier)) one
all_one earlier [] (piece ∷ said) one all = absurd all
all_one earlier (line ∷ lines) [] one all = absurd all
all_one earlier (line ∷ lines) (piece ∷ said) one all =
    subst AreOne (append_assoc earlier (piece ∷ []) said) (all_one (earlier ++ piece ∷ []) lines said (one_more earlier line.1 piece one all.0) all.1)

none_one : AreOne []
none_one = record { are_bytes = λ piece (k, within, is). absurd (omega arith); same = λ a b (k, within, is) j at. absurd (omega arith) }

said_one : (lines : List Line) (said : List Piece) → AllSay piece_lines [] lines said → AreOne said
said_one lines said all = all_one [] lines said none_one all

-- ---- what is whole

whole_one : (said : List Piece) (a b : List ℕ) → AreOne said → AreWhole said a → AreWhole said b → a ≡ b
whole_one said a b one p q = p.joined ∙ ap concat (same_lists p.parts q.parts many at) ∙ sym q.joined
  where
    many : length p.parts ≡ length q.parts
    many = p.as_many ∙ sym q.as_many

    at : (k : ℕ) (d : List ℕ) → k < length p.parts → get_or p.parts k d ≡ get_or q.parts k d
    at k d within =
        let (one_piece, among, at_k, is) = p.each k (get_or p.parts k d) (slice_get-get_or p.parts k d within) in
        let (other, also, at_too, same) = q.each k (get_or q.parts k d) (slice_get-get_or q.parts k d (omega (arith, within, many))) in
        sym is ∙ one.same one_piece other among also (at_k ∙ sym at_too) ∙ same

whole_has : (said : List Piece) (bytes : List ℕ) (place : ℕ) → AreWhole said bytes → IsFirstMissing said place → ⊥
whole_has said bytes place all first =
    let here = slice_get-get_or all.parts place [] (omega (arith, all.as_many, first.within)) in
    let (piece, among, at, is) = all.each place _ here in
    first.missing (piece, among, at)

-- ---- two answers

module _ (lines : List Line) where
  said_same : (a b : List Piece) → SaySome lines a → SaySome lines b → a ≡ b
  said_same a b p q = all_say_one piece_lines is_definite lines a b p.0 q.0

  some_not_bad : (said : List Piece) (line : ℕ) (code : CarryCode) → SaySome lines said → IsFirstBad piece_lines lines line code → ⊥
  some_not_bad said line code some bad = good_not_bad piece_lines is_definite lines said line code some.0 bad

  some_not_none : (said : List Piece) → SaySome lines said → lines ≡ [] → ⊥
  some_not_none said some none = by said (subst (λ ls. AllSay piece_lines [] ls said) none some.0) some.1
    where
      by : (pieces : List Piece) → AllSay piece_lines [] [] pieces → pieces ≢ [] → ⊥
      by [] all not = not refl
      by (piece ∷ pieces) all not = all

  bad_not_none : (line : ℕ) (code : CarryCode) → IsFirstBad piece_lines lines line code → lines ≡ [] → ⊥
  bad_not_none line code bad none = none_bad piece_lines line code (subst (λ ls. IsFirstBad piece_lines ls line code) none bad)

  bytes_same : (p q : List Piece) (a b : List ℕ) → SaySome lines p → SaySome lines q → AreWhole p a → AreWhole q b → a ≡ b
  bytes_same p q a b f g x y = whole_one p a b (said_one lines p f.0) x (subst (λ s. AreWhole s b) (sym (said_same p q f g)) y)

  whole_not_missing : (p q : List Piece) (a : List ℕ) (place : ℕ) → SaySome lines p → SaySome lines q → AreWhole p a → IsFirstMissing q place → ⊥
  whole_not_missing p q a place f g x first = whole_has p a place x (subst (λ s. IsFirstMissing s place) (sym (said_same p q f g)) first)

  missing_same : (p q : List Piece) (m n : ℕ) → SaySome lines p → SaySome lines q → IsFirstMissing p m → IsFirstMissing q n → m ≡ n
  missing_same p q m n f g x y =
      let also = subst (λ s. IsFirstMissing s n) (sym (said_same p q f g)) y in
      elim (cases_order m n) [
        | inl same ↦ same
        | inr apart ↦ elim apart [
          | inl less ↦ absurd (x.missing (also.first m less))
          | inr more ↦ absurd (also.missing (x.first n more))
        ]
      ]

  few_not_many : (p q : List Piece) (a b : List ℕ) → SaySome lines p → SaySome lines q → AreWhole p a → AreWhole q b → length a ≤ CARRIED_MAX → CARRIED_MAX < length b → ⊥
  few_not_many p q a b f g x y few many = omega (arith, few, many, ap length (bytes_same p q a b f g x y))

  -- The answers are the same, or one of them is that memory ran out.
  abbrev pub AreOneAnswer : Result (List ℕ) CarryFault → Result (List ℕ) CarryFault → Type 0
  AreOneAnswer a b = (a ≡ b) ⊎ ((a ≡ Err Memory) ⊎ (b ≡ Err Memory))

  pub one_way : (a b : Result (List ℕ) CarryFault) → Collects lines a → Collects lines b → AreOneAnswer a b
  one_way (Err Memory) b p q = inr (inl refl)
  one_way (Ok a) (Err Memory) p q = inr (inr refl)
  one_way (Err (At m c)) (Err Memory) p q = inr (inr refl)
  one_way (Err NoLine) (Err Memory) p q = inr (inr refl)
  one_way (Err (Missing m)) (Err Memory) p q = inr (inr refl)
  one_way (Err TooManyBytes) (Err Memory) p q = inr (inr refl)
  one_way (Ok a) (Ok b) p q = inl (ap Ok (bytes_same p.0 q.0 a b p.1 q.1 p.2 q.2))
  one_way (Ok a) (Err (At n d)) p q = absurd (some_not_bad p.0 n d p.1 q)
  one_way (Ok a) (Err NoLine) p q = absurd (some_not_none p.0 p.1 q)
  one_way (Ok a) (Err (Missing n)) p q = absurd (whole_not_missing p.0 q.0 a n p.1 q.1 p.2 q.2)
  one_way (Ok a) (Err TooManyBytes) p q = absurd (few_not_many p.0 q.0 a q.1 p.1 q.2 p.2 q.3 p.3 q.4)
  one_way (Err (At m c)) (Ok b) p q = absurd (some_not_bad q.0 m c q.1 p)
  one_way (Err (At m c)) (Err (At n d)) p q = let same = first_bad_one piece_lines is_definite lines m n c d p q in inl (λ i. Err (At (same.0 i) (same.1 i)))
  one_way (Err (At m c)) (Err NoLine) p q = absurd (bad_not_none m c p q)
  one_way (Err (At m c)) (Err (Missing n)) p q = absurd (some_not_bad q.0 m c q.1 p)
  one_way (Err (At m c)) (Err TooManyBytes) p q = absurd (some_not_bad q.0 m c q.2 p)
  one_way (Err NoLine) (Ok b) p q = absurd (some_not_none q.0 q.1 p)
  one_way (Err NoLine) (Err (At n d)) p q = absurd (bad_not_none n d q p)
  one_way (Err NoLine) (Err NoLine) p q = inl refl
  one_way (Err NoLine) (Err (Missing n)) p q = absurd (some_not_none q.0 q.1 p)
  one_way (Err NoLine) (Err TooManyBytes) p q = absurd (some_not_none q.0 q.2 p)
  one_way (Err (Missing m)) (Ok b) p q = absurd (whole_not_missing q.0 p.0 b m q.1 p.1 q.2 p.2)
  one_way (Err (Missing m)) (Err (At n d)) p q = absurd (some_not_bad p.0 n d p.1 q)
  one_way (Err (Missing m)) (Err NoLine) p q = absurd (some_not_none p.0 p.1 q)
  one_way (Err (Missing m)) (Err (Missing n)) p q = inl (ap (λ k. Err (Missing k)) (missing_same p.0 q.0 m n p.1 q.1 p.2 q.2))
  one_way (Err (Missing m)) (Err TooManyBytes) p q = absurd (whole_not_missing q.0 p.0 q.1 m q.2 p.1 q.3 p.2)
  one_way (Err TooManyBytes) (Ok b) p q = absurd (few_not_many q.0 p.0 b p.1 q.1 p.2 q.2 p.3 q.3 p.4)
  one_way (Err TooManyBytes) (Err (At n d)) p q = absurd (some_not_bad p.0 n d p.2 q)
  one_way (Err TooManyBytes) (Err NoLine) p q = absurd (some_not_none p.0 p.2 q)
  one_way (Err TooManyBytes) (Err (Missing n)) p q = absurd (whole_not_missing p.0 q.0 p.1 n p.2 q.1 p.3 q.2)
  one_way (Err TooManyBytes) (Err TooManyBytes) p q = inl refl
