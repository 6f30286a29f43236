-- The fields of a struct, one after another.
use Rattle.std.proofs.Common.{◌≡◌, ℕ, zero, suc, ◌≤◌, List, [], ◌∷◌, ◌++◌, drop, length, refl, sym, ap, ◌∙◌, subst, append_assoc, arith}
use Rattle.std.proofs.lemmas.Bool.Decides.{nat_tests}
use Rattle.std.proofs.lemmas.List.{append-nil, append_cancel_left}
use Rattle.bag_model.specs.Scalars.{Word, Plain, IsPlainOf, ArePlainsOf}
use Rattle.text_model.specs.Commas.{comma_before, comma_joined}
use Rattle.field_writes.specs.Literals.{IsPlainText, ArePlainTexts}
use Rattle.field_writes.specs.Ends.{IsEnd, BeginsWithOne}
use Rattle.field_writes.proofs.Apart.{IsWordText, word_apart}

-- The text says the fields of these words, of which the first has `at` fields before it, and the
-- closing parenthesis and the rest follow them.
abbrev pub FieldsThen : ℕ → List Word → List Plain → List ℕ → List ℕ → Type 0
FieldsThen at [] vs rest text = (vs ≡ []) × (text ≡ 41 ∷ rest)
FieldsThen at (word ∷ words) vs rest text =
    (v : Plain) × (more : List Plain) × (front behind : List ℕ) × (vs ≡ v ∷ more) × IsWordText word v front
    × (text ≡ comma_before at ++ (front ++ behind)) × FieldsThen (suc at) words more rest behind

comma_more : (at : ℕ) → comma_before (suc at) ≡ 44 ∷ []
comma_more at = grind (arith, nat_tests)

then_end : (at : ℕ) (words : List Word) (vs : List Plain) (rest text : List ℕ) → FieldsThen (suc at) words vs rest text → IsEnd text
then_end at [] vs rest text p = subst IsEnd (sym p.1) refl
then_end at (word ∷ words) vs rest text p = subst IsEnd (sym (p.6 ∙ ap (λ l. l ++ (p.2 ++ p.3)) (comma_more at))) refl

begins : (at : ℕ) (words : List Word) (more : List Plain) (rest behind front : List ℕ) (word : Word) (v : Plain) → IsWordText word v front
    → FieldsThen (suc at) words more rest behind → BeginsWithOne (IsWordText word v) (front ++ behind) behind
begins at words more rest behind front word v is p = record { front = front; fact = is; same = refl; end = then_end at words more rest behind p }

pub fields_apart : (at : ℕ) (words : List Word) (vs ws : List Plain) (s r text : List ℕ) → FieldsThen at words vs s text → FieldsThen at words ws r text → (vs ≡ ws) × (s ≡ r)
fields_apart at [] vs ws s r text p q =
    let e : 41 ∷ s ≡ 41 ∷ r = sym p.1 ∙ q.1 in
    let same : s ≡ r = cc e in
    (p.0 ∙ sym q.0, same)
fields_apart at (word ∷ words) vs ws s r text p q =
    let texts : p.2 ++ p.3 ≡ q.2 ++ q.3 = append_cancel_left (comma_before at) (p.2 ++ p.3) (q.2 ++ q.3) (sym p.6 ∙ q.6) in
    let two = begins at words q.1 r q.3 q.2 word q.0 q.5 q.7 in
    let first = word_apart word p.0 q.0 (p.2 ++ p.3) p.3 q.3 (begins at words p.1 s p.3 p.2 word p.0 p.5 p.7) (record { front = q.2; fact = q.5; same = texts; end = two.end }) in
    let others = fields_apart (suc at) words p.1 q.1 s r p.3 p.7 (subst (FieldsThen (suc at) words q.1 r) (sym first.1) q.7) in
    (p.4 ∙ (λ i. first.0 i ∷ others.0 i) ∙ sym q.4, others.1)

-- ---- as a list of texts

-- Texts with a comma before each.
abbrev pub later_texts : List (List ℕ) → List ℕ
later_texts [] = []
later_texts (text ∷ texts) = 44 ∷ (text ++ later_texts texts)

joined_later : (text : List ℕ) (texts : List (List ℕ)) → comma_joined (text ∷ texts) ≡ text ++ later_texts texts
joined_later text [] = sym (append-nil text)
joined_later text (next ∷ texts) = ap (λ (l : List ℕ). text ++ 44 ∷ l) (joined_later next texts)

later_then : (at : ℕ) (words : List Word) (vs : List Plain) (texts : List (List ℕ)) (rest text : List ℕ) → ArePlainsOf words vs → ArePlainTexts vs texts
    → text ≡ later_texts texts ++ 41 ∷ rest → FieldsThen (suc at) words vs rest text
later_then at [] [] [] rest text of says e = (refl, e)
later_then at [] [] (t ∷ ts) rest text of says e = absurd says
later_then at [] (v ∷ vs) texts rest text of says e = absurd of
later_then at (word ∷ words) [] texts rest text of says e = absurd of
later_then at (word ∷ words) (v ∷ vs) [] rest text of says e = absurd says
later_then at (word ∷ words) (v ∷ vs) (t ∷ ts) rest text of says e = (
  v,
  vs,
  t,
  later_texts ts ++ 41 ∷ rest,
  refl,
  (of.0, says.0),
  e ∙ ap (λ (l : List ℕ). 44 ∷ l) (append_assoc t (later_texts ts) (41 ∷ rest)) ∙ ap (λ l. l ++ (t ++ (later_texts ts ++ 41 ∷ rest))) (sym (comma_more at)),
  later_then (suc at) words vs ts rest (later_texts ts ++ 41 ∷ rest) of.1 says.1 refl,
)

pub texts_then : (words : List Word) (vs : List Plain) (texts : List (List ℕ)) (rest text : List ℕ) → ArePlainsOf words vs → ArePlainTexts vs texts
    → text ≡ comma_joined texts ++ 41 ∷ rest → FieldsThen 0 words vs rest text
texts_then [] [] [] rest text of says e = (refl, e)
texts_then [] [] (t ∷ ts) rest text of says e = absurd says
texts_then [] (v ∷ vs) texts rest text of says e = absurd of
texts_then (word ∷ words) [] texts rest text of says e = absurd of
texts_then (word ∷ words) (v ∷ vs) [] rest text of says e = absurd says
texts_then (word ∷ words) (v ∷ vs) (t ∷ ts) rest text of says e = (
  v,
  vs,
  t,
  later_texts ts ++ 41 ∷ rest,
  refl,
  (of.0, says.0),
  e ∙ ap (λ l. l ++ 41 ∷ rest) (joined_later t ts) ∙ append_assoc t (later_texts ts) (41 ∷ rest),
  later_then 0 words vs ts rest (later_texts ts ++ 41 ∷ rest) of.1 says.1 refl,
)

-- Values with texts for them.
abbrev pub HaveTexts : List Word → List Plain → (List (List ℕ) → List ℕ) → List ℕ → List ℕ → Type 0
HaveTexts words vs glued rest text = (texts : List (List ℕ)) × ArePlainsOf words vs × ArePlainTexts vs texts × (text ≡ glued texts ++ 41 ∷ rest)

of_cons : (word : Word) (words : List Word) (vs more : List Plain) (v : Plain) → vs ≡ v ∷ more → IsPlainOf word v → ArePlainsOf words more → ArePlainsOf (word ∷ words) vs
of_cons word words vs more v e p q = subst (ArePlainsOf (word ∷ words)) (sym e) (p, q)

says_cons : (vs more : List Plain) (v : Plain) (t : List ℕ) (ts : List (List ℕ)) → vs ≡ v ∷ more → IsPlainText v t → ArePlainTexts more ts → ArePlainTexts vs (t ∷ ts)
says_cons vs more v t ts e p q = subst (λ l. ArePlainTexts l (t ∷ ts)) (sym e) (p, q)

then_later : (at : ℕ) (words : List Word) (vs : List Plain) (rest text : List ℕ) → FieldsThen (suc at) words vs rest text → HaveTexts words vs later_texts rest text
then_later at [] vs rest text p = ([], subst (ArePlainsOf []) (sym p.0) tt, subst (λ l. ArePlainTexts l []) (sym p.0) tt, p.1)
then_later at (word ∷ words) vs rest text p =
    let more = then_later (suc at) words p.1 rest p.3 p.7 in (
      p.2 ∷ more.0,
      of_cons word words vs p.1 p.0 p.4 p.5.0 more.1,
      says_cons vs p.1 p.0 p.2 more.0 p.4 p.5.1 more.2,
      p.6 ∙ ap (λ l. l ++ (p.2 ++ p.3)) (comma_more at) ∙ ap (λ (l : List ℕ). 44 ∷ (p.2 ++ l)) more.3 ∙ ap (λ (l : List ℕ). 44 ∷ l) (sym (append_assoc p.2 (later_texts more.0) (41 ∷ rest))),
    )

pub then_texts : (words : List Word) (vs : List Plain) (rest text : List ℕ) → FieldsThen 0 words vs rest text → HaveTexts words vs comma_joined rest text
then_texts [] vs rest text p = ([], subst (ArePlainsOf []) (sym p.0) tt, subst (λ l. ArePlainTexts l []) (sym p.0) tt, p.1)
then_texts (word ∷ words) vs rest text p =
    let more = then_later 0 words p.1 rest p.3 p.7 in (
      p.2 ∷ more.0,
      of_cons word words vs p.1 p.0 p.4 p.5.0 more.1,
      says_cons vs p.1 p.0 p.2 more.0 p.4 p.5.1 more.2,
      p.6 ∙ ap (λ l. p.2 ++ l) more.3 ∙ sym (append_assoc p.2 (later_texts more.0) (41 ∷ rest)) ∙ ap (λ l. l ++ 41 ∷ rest) (sym (joined_later p.2 more.0)),
    )

-- ---- a loop over the fields

-- With these values before it, what is left says what the whole says.
abbrev pub FieldsBack : List Word → ℕ → List Plain → List ℕ → List ℕ → Type 0
FieldsBack words at done left whole =
    (vs : List Plain) (rest : List ℕ) → FieldsThen at (drop at words) vs rest left → FieldsThen 0 words (done ++ vs) rest whole

-- What the whole says, what is left says without these values before it.
abbrev pub FieldsOn : List Word → ℕ → List Plain → List ℕ → List ℕ → Type 0
FieldsOn words at done left whole = (vs : List Plain) (rest : List ℕ) → FieldsThen 0 words vs rest whole
    → (more : List Plain) × (vs ≡ done ++ more) × FieldsThen at (drop at words) more rest left

-- The field that is next: its text follows the comma before it.
pub record IsNext (words : List Word) (at : ℕ) (v : Plain) (left behind : List ℕ) : Type 0 where
  pub word : Word
  pub words_are : drop at words ≡ word ∷ drop (suc at) words
  pub front : List ℕ
  pub comma : left ≡ comma_before at ++ front
  pub begins : BeginsWithOne (IsWordText word v) front behind

next_text : (words : List Word) (at : ℕ) (v : Plain) (left behind : List ℕ) (next : IsNext words at v left behind) → left ≡ comma_before at ++ (next.begins.front ++ behind)
next_text words at v left behind next = next.comma ∙ ap (λ l. comma_before at ++ l) next.begins.same

pub back_next : (words : List Word) (at : ℕ) (done : List Plain) (left whole : List ℕ) (v : Plain) (behind : List ℕ) → IsNext words at v left behind
    → FieldsBack words at done left whole → FieldsBack words (suc at) (done ++ v ∷ []) behind whole
back_next words at done left whole v behind next back vs rest p =
    subst (λ l. FieldsThen 0 words l rest whole) (sym (append_assoc done (v ∷ []) vs))
    (back (v ∷ vs) rest (subst (λ (ws : List Word). FieldsThen at ws (v ∷ vs) rest left) (sym next.words_are)
    (v, vs, next.begins.front, behind, refl, next.begins.fact, next_text words at v left behind next, p)))

pub on_next : (words : List Word) (at : ℕ) (done : List Plain) (left whole : List ℕ) (v : Plain) (behind : List ℕ) → IsNext words at v left behind
    → FieldsOn words at done left whole → FieldsOn words (suc at) (done ++ v ∷ []) behind whole
on_next words at done left whole v behind next on vs rest p =
    let q = on vs rest p in
    let r : FieldsThen at (next.word ∷ drop (suc at) words) q.0 rest left = subst (λ (ws : List Word). FieldsThen at ws q.0 rest left) next.words_are q.2 in
    let other = begins at (drop (suc at) words) r.1 rest r.3 r.2 next.word r.0 r.5 r.7 in
    let fronts : next.front ≡ r.2 ++ r.3 = append_cancel_left (comma_before at) next.front (r.2 ++ r.3) (sym next.comma ∙ r.6) in
    let one = word_apart next.word v r.0 next.front behind r.3 next.begins (record { front = r.2; fact = r.5; same = fronts; end = other.end }) in (
      r.1,
      q.1 ∙ ap (λ l. done ++ l) r.4 ∙ ap (λ (x : Plain). done ++ x ∷ r.1) (sym one.0) ∙ sym (append_assoc done (v ∷ []) r.1),
      subst (FieldsThen (suc at) (drop (suc at) words) r.1 rest) (sym one.1) r.7,
    )

-- Where the comma is missing, or there is no literal after it, the whole says nothing.
pub on_nowhere : (words : List Word) (at : ℕ) (done : List Plain) (left whole : List ℕ) (word : Word) → drop at words ≡ word ∷ drop (suc at) words
    → FieldsOn words at done left whole → ((v : Plain) (front behind : List ℕ) → left ≡ comma_before at ++ front → BeginsWithOne (IsWordText word v) front behind → ⊥)
    → (vs : List Plain) (rest : List ℕ) → FieldsThen 0 words vs rest whole → ⊥
on_nowhere words at done left whole word words_are on none vs rest p =
    let q = on vs rest p in
    let r : FieldsThen at (word ∷ drop (suc at) words) q.0 rest left = subst (λ (ws : List Word). FieldsThen at ws q.0 rest left) words_are q.2 in
    none r.0 (r.2 ++ r.3) r.3 r.6 (begins at (drop (suc at) words) r.1 rest r.3 r.2 word r.0 r.5 r.7)

drop_none : {A : Type 0} (n : ℕ) (xs : List A) → length xs ≤ n → drop n xs ≡ []
drop_none zero [] few = refl
drop_none zero (x ∷ xs) few = absurd (omega (arith, few))
drop_none (suc n) [] few = refl
drop_none (suc n) (x ∷ xs) few = drop_none n xs (omega (arith, few))

-- After the last field comes the closing parenthesis.
pub fields_end : (words : List Word) (at : ℕ) (done : List Plain) (left whole rest : List ℕ) → length words ≤ at → FieldsBack words at done left whole → left ≡ 41 ∷ rest → FieldsThen 0 words done rest whole
fields_end words at done left whole rest over back e =
    subst (λ l. FieldsThen 0 words l rest whole) (append-nil done)
    (back [] rest (subst (λ (ws : List Word). FieldsThen at ws [] rest left) (sym (drop_none at words over)) (refl, e)))

pub no_fields_end : (words : List Word) (at : ℕ) (done : List Plain) (left whole : List ℕ) → length words ≤ at → FieldsOn words at done left whole → ((rest : List ℕ) → left ≡ 41 ∷ rest → ⊥)
    → (vs : List Plain) (rest : List ℕ) → FieldsThen 0 words vs rest whole → ⊥
no_fields_end words at done left whole over on none vs rest p =
    let q = on vs rest p in
    let r : FieldsThen at [] q.0 rest left = subst (λ (ws : List Word). FieldsThen at ws q.0 rest left) (drop_none at words over) q.2 in
    none rest r.1
