-- What payloads in order tell.
use Rattle.std.proofs.Common.{◌≡◌, ◌⊎◌, inl, inr, ◌↔◌, ℕ, ◌^◌, ◌<◌, ◌≤◌, Bool, true, false, IsTrue, List, [], ◌∷◌, ◌++◌, Option, Some, None, Less, Equal, Greater, refl, sym, ap, ◌∙◌, subst, arith}
use Rattle.std.specs.Prelude.{◌≢◌}
use Rattle.std.specs.Ordering.{ordering_then, ordering_reverse, nat_cmp}
use Rattle.std.specs.Cmp.{nat_cmp_is}
use Rattle.std.proofs.lemmas.Bool.{cases_order}
use Rattle.std.proofs.lemmas.List.{append-nil}
use Rattle.context_model.specs.Orders.{Path, atom_cmp, IsIn, Rises}
use Rattle.context_model.specs.Varints.{unsigned_varint}
use Rattle.context_model.proofs.OrderLaws.{atoms_total}
use Rattle.context_model.proofs.Rising.{Rises-before}
use Rattle.context_model.proofs.VarintLaws.{unsigned_varint-order, unsigned_varint-injective}
use Rattle.bag_model.specs.declared.Pick.{Pick}
use Rattle.bag_model.specs.declared.Pick.TheVariants.{Least, Greatest}
use Rattle.bag_model.specs.Readings.{datum_path, HasScalar, IsFirst, HasCount, IsGreatest}
use Rattle.bag_model.specs.Scalars.{ScalarKind, ScalarValue, scalar_cmp, pick_cmp, IsScalarOf, spelling}
use Rattle.bag_model.specs.Typed.{IsSpelling, IsCount}
use Rattle.bag_model.proofs.ScalarOrder.{pick_total}
use Rattle.bag_model.proofs.SpellingOrder.{spelling-order, spelling-one}
use Rattle.place_calls.specs.Telling.{first_datum, last_datum, picked, SpellsValue, TellsScalar, TellsCount, MatchEach}
use Rattle.place_calls.proofs.PartKeys.{HasData}

-- ---- the one that stays

-- The first argument comes before the second, in the order in which the one that stays comes first.
abbrev pub ComesBefore : Pick → List ℕ → List ℕ → Type 0
ComesBefore Least x y = atom_cmp x y ≡ Less
ComesBefore Greatest x y = atom_cmp y x ≡ Less

-- It is one of the payloads, and comes before all others.
pub record IsPicked (pick : Pick) (payloads : List (List ℕ)) (x : List ℕ) : Type 0 where
  pub there : IsIn x payloads
  pub before : (y : List ℕ) → IsIn y payloads → (y ≡ x) ⊎ ComesBefore pick x y

first_picked : (payloads : List (List ℕ)) (x : List ℕ) → Rises atom_cmp payloads → first_datum payloads ≡ Some x → IsPicked Least payloads x
first_picked [] x rises e = absurd (cc e)
first_picked (a ∷ payloads) x rises e =
    let same : a ≡ x = cc e in
    record {
      there = inl (sym same);
      before = λ y i. elim i [
        | inl is ↦ inl (is ∙ same)
        | inr later ↦ inr (subst (λ z. atom_cmp z y ≡ Less) same (Rises-before atom_cmp atoms_total a payloads rises y later))
      ];
    }

last_picked : (payloads : List (List ℕ)) (x : List ℕ) → Rises atom_cmp payloads → last_datum payloads ≡ Some x → IsPicked Greatest payloads x
last_picked [] x rises e = absurd (cc e)
last_picked (a ∷ []) x rises e =
    let same : a ≡ x = cc e in
    record { there = inl (sym same); before = λ y i. elim i [ inl is ↦ inl (is ∙ same) | inr none ↦ absurd none ] }
last_picked (a ∷ b ∷ payloads) x rises e =
    let rest = last_picked (b ∷ payloads) x rises.1 e in
    let front : atom_cmp a x ≡ Less = less (rest.before b (inl refl)) in
    record {
      there = inr rest.there;
      before = λ y i. elim i [
        | inl is ↦ inr (subst (λ z. atom_cmp z x ≡ Less) (sym is) front)
        | inr later ↦ rest.before y later
      ];
    }
  where
    less : (b ≡ x) ⊎ (atom_cmp b x ≡ Less) → atom_cmp a x ≡ Less
    less (inl same) = subst (λ z. atom_cmp a z ≡ Less) same rises.0
    less (inr more) = atoms_total.trans a b x rises.0 more

pub one_picked : (pick : Pick) (payloads : List (List ℕ)) (x : List ℕ) → Rises atom_cmp payloads → picked pick payloads ≡ Some x → IsPicked pick payloads x
one_picked Least payloads x rises e = first_picked payloads x rises e
one_picked Greatest payloads x rises e = last_picked payloads x rises e

first_none : (payloads : List (List ℕ)) → first_datum payloads ≡ None → payloads ≡ []
first_none [] e = refl
first_none (a ∷ payloads) e = absurd (cc e)

last_none : (payloads : List (List ℕ)) → last_datum payloads ≡ None → payloads ≡ []
last_none [] e = refl
last_none (a ∷ []) e = absurd (cc e)
last_none (a ∷ b ∷ payloads) e = absurd (let none : b ∷ payloads ≡ [] = last_none (b ∷ payloads) e in cc none)

none_picked : (pick : Pick) (payloads : List (List ℕ)) → picked pick payloads ≡ None → payloads ≡ []
none_picked Least payloads e = first_none payloads e
none_picked Greatest payloads e = last_none payloads e

none_in : (payloads : List (List ℕ)) (x : List ℕ) → payloads ≡ [] → IsIn x payloads → ⊥
none_in payloads x e i = subst (λ l. IsIn x l) e i

-- ---- scalars

both_ways : (pick : Pick) (v w : ScalarValue) → pick_cmp pick v w ≡ Less → pick_cmp pick w v ≡ Less → ⊥
both_ways pick v w less back =
    let turned : pick_cmp pick w v ≡ Greater = (pick_total pick).antisymm w v ∙ ap ordering_reverse less in
    let clash : Less ≡ Greater = sym back ∙ turned in
    cc clash

picks : (pick : Pick) (kind : ScalarKind) (v w : ScalarValue) → IsScalarOf kind v → IsScalarOf kind w → ComesBefore pick (spelling kind v) (spelling kind w) → pick_cmp pick v w ≡ Less
picks Least kind v w fits_v fits_w less = sym (spelling-order kind v w fits_v fits_w) ∙ less
picks Greatest kind v w fits_v fits_w less = sym (spelling-order kind w v fits_w fits_v) ∙ less

module _ (P : Path → Type 0) (q : Path) (payloads : List (List ℕ)) (has : HasData P q payloads) where
  pub scalar_told : (pick : Pick) (kind : ScalarKind) (v : Option ScalarValue) (datum : Option (List ℕ)) → picked pick payloads ≡ datum → TellsScalar kind datum v → IsFirst (pick_cmp pick) kind P q v
  scalar_told pick kind None None e told = λ w (fits, i). none_in payloads (spelling kind w) (none_picked pick payloads e) ((has.holds (spelling kind w)).1 i)
  scalar_told pick kind None (Some x) e told = absurd told
  scalar_told pick kind (Some v) None e told = absurd told
  scalar_told pick kind (Some v) (Some x) e told = ((told.0, subst (λ y. P (datum_path q y)) told.1 ((has.holds x).0 its.there)), not_less)
    where
      its : IsPicked pick payloads x
      its = one_picked pick payloads x has.rises e

      not_less : (w : ScalarValue) → HasScalar kind P q w → pick_cmp pick w v ≡ Less → ⊥
      not_less w (fits, i) less = by (its.before (spelling kind w) ((has.holds (spelling kind w)).1 i))
        where
          by : (spelling kind w ≡ x) ⊎ ComesBefore pick x (spelling kind w) → ⊥
          by (inl same) =
              let one : w ≡ v = spelling-one kind w v fits told.0 (same ∙ told.1) in
              both_ways pick w w (subst (λ u. pick_cmp pick w u ≡ Less) (sym one) less) (subst (λ u. pick_cmp pick w u ≡ Less) (sym one) less)
          by (inr before) = both_ways pick w v less (picks pick kind v w told.0 fits (subst (λ y. ComesBefore pick y (spelling kind w)) told.1 before))

  -- A typed scalar can be read from its part.
  pub scalar_some : (pick : Pick) (kind : ScalarKind) (datum : Option (List ℕ)) → picked pick payloads ≡ datum → ((x : List ℕ) → P (datum_path q x) → IsSpelling kind x) → (v : Option ScalarValue) × TellsScalar kind datum v
  scalar_some pick kind None e typed = (None, tt)
  scalar_some pick kind (Some x) e typed =
      let (v, fits, is) = typed x ((has.holds x).0 (one_picked pick payloads x has.rises e).there) in
      (Some v, (fits, is))

  -- ---- counts

  lesser : (m n : ℕ) → m < 2 ^ 64 → n < 2 ^ 64 → atom_cmp (unsigned_varint m) (unsigned_varint n) ≡ Less → m ≤ n
  lesser m n few_m few less = elim (cases_order m n) [
    | inl same ↦ omega arith
    | inr (inl below) ↦ omega arith
    | inr (inr above) ↦ absurd (
        let order : ordering_then (nat_cmp m n) Equal ≡ Less = sym (unsigned_varint-order m n [] [] few_m few)
        ∙ ap (λ l. atom_cmp l (unsigned_varint n ++ [])) (append-nil (unsigned_varint m)) ∙ ap (atom_cmp (unsigned_varint m)) (append-nil (unsigned_varint n)) ∙ less in
        let greater : ordering_then (nat_cmp m n) Equal ≡ Greater = ap (λ o. ordering_then o Equal) (sym (nat_cmp_is m n Greater above)) in
        let clash : Less ≡ Greater = sym order ∙ greater in cc clash)
  ]

  pub count_told : (n : ℕ) (datum : Option (List ℕ)) → last_datum payloads ≡ datum → TellsCount datum n → IsGreatest P q n
  count_told n None e told = (inr told, λ m (few, i). absurd (none_in payloads (unsigned_varint m) (last_none payloads e) ((has.holds (unsigned_varint m)).1 i)))
  count_told n (Some x) e told = (inl (told.0, subst (λ y. P (datum_path q y)) told.1 ((has.holds x).0 its.there)), at_most)
    where
      its : IsPicked Greatest payloads x
      its = last_picked payloads x has.rises e

      at_most : (m : ℕ) → HasCount P q m → m ≤ n
      at_most m (few, i) = by (its.before (unsigned_varint m) ((has.holds (unsigned_varint m)).1 i))
        where
          by : (unsigned_varint m ≡ x) ⊎ (atom_cmp (unsigned_varint m) x ≡ Less) → m ≤ n
          by (inl same) = let one : m ≡ n = unsigned_varint-injective m n few told.0 (same ∙ told.1) in omega (arith, one)
          by (inr less) = lesser m n few told.0 (subst (λ y. atom_cmp (unsigned_varint m) y ≡ Less) told.1 less)

  pub count_some : (datum : Option (List ℕ)) → last_datum payloads ≡ datum → ((x : List ℕ) → P (datum_path q x) → IsCount x) → (n : ℕ) × TellsCount datum n
  count_some None e typed = (0, refl)
  count_some (Some x) e typed =
      let (n, few, is) = typed x ((has.holds x).0 (last_picked payloads x has.rises e).there) in
      (n, (few, is))

  -- ---- taints

  pub taint_told : (on : Bool) → (IsTrue on ↔ (payloads ≢ [])) → IsTrue on ↔ ((payload : List ℕ) × P (datum_path q payload))
  taint_told on known = (λ t. some payloads has.holds (known.0 t), λ (x, i). known.1 (λ e. none_in payloads x e ((has.holds x).1 i)))
    where
      some : (xs : List (List ℕ)) → ((x : List ℕ) → IsIn x xs ↔ P (datum_path q x)) → xs ≢ [] → (payload : List ℕ) × P (datum_path q payload)
      some [] holds other = absurd (other refl)
      some (x ∷ xs) holds other = (x, (holds x).0 (inl refl))

pub taint_some : (payloads : List (List ℕ)) → (on : Bool) × (IsTrue on ↔ (payloads ≢ []))
taint_some [] = (false, ((λ t. absurd (cc t)), λ other. absurd (other refl)))
taint_some (x ∷ xs) = (true, ((λ t e. cc e), λ other. refl))

-- ---- values whose spellings are in order

module _ (kind : ScalarKind) where
  pub spelled_rise : (bs : List (List ℕ)) (vs : List ScalarValue) → MatchEach (SpellsValue kind) bs vs → Rises atom_cmp bs → Rises scalar_cmp vs
  spelled_rise [] [] alike rises = tt
  spelled_rise [] (v ∷ vs) alike rises = absurd alike
  spelled_rise (b ∷ bs) [] alike rises = absurd alike
  spelled_rise (b ∷ bs) (v ∷ []) alike rises = tt
  spelled_rise (b ∷ []) (v ∷ w ∷ vs) alike rises = absurd alike.1
  spelled_rise (b ∷ c ∷ bs) (v ∷ w ∷ vs) alike rises = (
    sym (spelling-order kind v w alike.0.0 alike.1.0.0) ∙ ap (λ x. atom_cmp x (spelling kind w)) (sym alike.0.1) ∙ ap (atom_cmp b) (sym alike.1.0.1) ∙ rises.0,
    spelled_rise (c ∷ bs) (w ∷ vs) alike.1 rises.1,
  )

  spelled_in : (bs : List (List ℕ)) (vs : List ScalarValue) (v : ScalarValue) → MatchEach (SpellsValue kind) bs vs → IsIn v vs → IsScalarOf kind v × IsIn (spelling kind v) bs
  spelled_in [] [] v alike none = absurd none
  spelled_in [] (w ∷ vs) v alike i = absurd alike
  spelled_in (b ∷ bs) [] v alike i = absurd alike
  spelled_in (b ∷ bs) (w ∷ vs) v alike (inl same) = (subst (IsScalarOf kind) (sym same) alike.0.0, inl (ap (spelling kind) same ∙ sym alike.0.1))
  spelled_in (b ∷ bs) (w ∷ vs) v alike (inr i) = let rest = spelled_in bs vs v alike.1 i in (rest.0, inr rest.1)

  spelled_back : (bs : List (List ℕ)) (vs : List ScalarValue) (v : ScalarValue) → MatchEach (SpellsValue kind) bs vs → IsScalarOf kind v → IsIn (spelling kind v) bs → IsIn v vs
  spelled_back [] [] v alike fits none = absurd none
  spelled_back [] (w ∷ vs) v alike fits i = absurd alike
  spelled_back (b ∷ bs) [] v alike fits i = absurd alike
  spelled_back (b ∷ bs) (w ∷ vs) v alike fits (inl same) = inl (spelling-one kind v w fits alike.0.0 (same ∙ alike.0.1))
  spelled_back (b ∷ bs) (w ∷ vs) v alike fits (inr i) = inr (spelled_back bs vs v alike.1 fits i)

  pub spelled_are : (bs : List (List ℕ)) (vs : List ScalarValue) (Q : List ℕ → Type 0) → MatchEach (SpellsValue kind) bs vs → ((x : List ℕ) → IsIn x bs ↔ Q x) → (v : ScalarValue) → IsIn v vs ↔ (IsScalarOf kind v × Q (spelling kind v))
  spelled_are bs vs Q alike holds v = (
    λ i. let there = spelled_in bs vs v alike i in (there.0, (holds (spelling kind v)).0 there.1),
    λ (fits, p). spelled_back bs vs v alike fits ((holds (spelling kind v)).1 p),
  )

  pub spelled_some : (bs : List (List ℕ)) → ((x : List ℕ) → IsIn x bs → IsSpelling kind x) → (vs : List ScalarValue) × MatchEach (SpellsValue kind) bs vs
  spelled_some [] typed = ([], tt)
  spelled_some (b ∷ bs) typed =
      let (v, fits, is) = typed b (inl refl) in
      let (vs, alike) = spelled_some bs (λ x i. typed x (inr i)) in
      (v ∷ vs, ((fits, is), alike))
