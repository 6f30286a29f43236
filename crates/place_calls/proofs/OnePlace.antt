-- A slot has one place.
use Rattle.std.proofs.Common.{◌≡◌, inl, inr, ℕ, zero, suc, ◌+◌, ◌<◌, List, length, Option, Some, None, Less, add-one, sym, ap, ◌∙◌, subst, arith}
use Rattle.std.proofs.lemmas.Bool.{cases_order}
use Rattle.context_model.specs.declared.Form.{Form}
use Rattle.context_model.specs.Atoms.{Atom}
use Rattle.context_model.specs.Ended.{field_path}
use Rattle.context_model.specs.Framing.{offset_of}
use Rattle.context_model.specs.Orders.{Path, path_cmp}
use Rattle.context_model.specs.Paths.{path_before, path_at}
use Rattle.context_model.proofs.FieldPaths.{length-field_path}
use Rattle.context_model.proofs.PlacesOf.{path_there, paths_rise}
use Rattle.bag_model.specs.Readings.{PathsOf}
use Rattle.bag_model.specs.Slots.{SlotAt}
use Rattle.bag_model.specs.Typed.{Misspells}
use Rattle.bag_model.proofs.IllTyped.{IsTyped-spelled}
use Rattle.bag_model.proofs.MergeReadingLaws.{PathsOf-headers}
use Rattle.bag_model.proofs.SlotNumbers.{numbers_few}
use Rattle.bag_walks.specs.Parts.{IsBehind}
use Rattle.bag_walks.specs.Searches.{IsFirstBeyond}
use Rattle.bag_walks.specs.Slots.{IsSpanOf}
use Rattle.bag_walks.proofs.Bridge.{no_less}
use Rattle.bag_walks.proofs.Stops.{segment_is_first}
use Rattle.bag_typed.specs.Walk.{IsFirstOfPaths}
use Rattle.place_calls.specs.declared.places.Place.{Place}
use Rattle.place_calls.specs.Places.{IsIllTypedPlace, HasBytesOf, SaysWhetherEnded, IsTypedPlace, HasOnePlace}

-- ---- spans

module _ (list : List Atom) (s : Path) (some : 0 < length s) where
  own_path : (f : ℕ) → IsBehind list s (suc f) → path_at list f ≡ s
  own_path f behind = ap (path_before list) (add-one f) ∙ behind.path

  not_twice : (f g : ℕ) → IsBehind list s (suc f) → IsBehind list s (suc g) → f < g → ⊥
  not_twice f g a b less =
      let rise : path_cmp (path_at list f) (path_at list g) ≡ Less = paths_rise list a.well_formed f g less (omega (arith, b.within)) in
      no_less s (subst (λ p. path_cmp s p ≡ Less) (own_path g b) (subst (λ p. path_cmp p (path_at list g) ≡ Less) (own_path f a) rise))

  not_first : IsBehind list s zero → ⊥
  not_first a = let none : 0 ≡ length s = ap length a.path in omega (arith, none, some)

  from_one : (f g : ℕ) → IsBehind list s f → IsBehind list s g → f ≡ g
  from_one zero g a b = absurd (not_first a)
  from_one (suc f) zero a b = absurd (not_first b)
  from_one (suc f) (suc g) a b = elim (cases_order f g) [
    | inl same ↦ ap suc same
    | inr (inl less) ↦ absurd (not_twice f g a b less)
    | inr (inr more) ↦ absurd (not_twice g f b a more)
  ]

  header_there : (f : ℕ) → IsBehind list s f → PathsOf list s
  header_there zero a = absurd (not_first a)
  header_there (suc f) a = subst (PathsOf list) (own_path f a) (path_there list f (omega (arith, a.within)))

  stop_one : (i j : ℕ) → IsFirstBeyond list s i → IsFirstBeyond list s j → i ≡ j
  stop_one i j a b = elim (cases_order i j) [
    | inl same ↦ same
    | inr (inl less) ↦ absurd (b.before i less (a.there (omega (arith, less, b.within))))
    | inr (inr more) ↦ absurd (a.before j more (b.there (omega (arith, more, a.within))))
  ]

  bytes_one : (form : Form) (p q : Place) (f g : Option ℕ) (i j : ℕ) → IsSpanOf list s f i → IsSpanOf list s g j → HasBytesOf form list f i p → HasBytesOf form list g j q → (p.offset ≡ q.offset) × (p.length ≡ q.length)
  bytes_one form p q None None i j a b x y = (x.0 ∙ ap (offset_of form list) (stop_one i j a.1 b.1) ∙ sym y.0, x.1 ∙ sym y.1)
  bytes_one form p q None (Some g) i j a b x y = absurd (a.0 (header_there g b.0))
  bytes_one form p q (Some f) None i j a b x y = absurd (b.0 (header_there f a.0))
  bytes_one form p q (Some f) (Some g) i j a b x y =
      let starts : p.offset ≡ q.offset = x.0 ∙ ap (offset_of form list) (from_one f g a.0 b.0) ∙ sym y.0 in
      let ends : p.offset + p.length ≡ q.offset + q.length = x.1 ∙ ap (offset_of form list) (stop_one i j (segment_is_first list s f i a.0 a.1) (segment_is_first list s g j b.0 b.1)) ∙ sym y.1 in
      (starts, omega (arith, starts, ends))

-- ---- places

first_one : (list : List Atom) (P : Path → Type 0) (i j : ℕ) → IsFirstOfPaths list P i → IsFirstOfPaths list P j → i ≡ j
first_one list P i j a b = elim (cases_order i j) [
  | inl same ↦ same
  | inr (inl less) ↦ absurd (b.first i less a.is)
  | inr (inr more) ↦ absurd (a.first j more b.is)
]

state_one : (list : List Atom) (at : SlotAt) (m n : ℕ) → SaysWhetherEnded list at m → SaysWhetherEnded list at n → m ≡ n
state_one list at m n (inl a) (inl b) = a.0 ∙ sym b.0
state_one list at m n (inl a) (inr b) = absurd (b.1 a.1)
state_one list at m n (inr a) (inl b) = absurd (a.1 b.1)
state_one list at m n (inr a) (inr b) = a.0 ∙ sym b.0

not_both : (form : Form) (list : List Atom) (at : SlotAt) (p q : Place) → IsIllTypedPlace form list at p → IsTypedPlace form list at q → ⊥
not_both form list at p q ill typed =
    IsTyped-spelled at.shape (PathsOf list) (field_path at.numbers) (path_at list ill.first) (PathsOf-headers list) typed.typed (path_there list ill.first ill.misspelled.within) ill.misspelled.is

same_place : (p q : Place) → p.offset ≡ q.offset → p.length ≡ q.length → p.state ≡ q.state → p.zero ≡ q.zero → p ≡ q
same_place p q a b c d = λ i. record { offset = a i; length = b i; state = c i; zero = d i }

pub one_place : HasOnePlace
one_place form nodes list slot at p q table there (zero_p, inl a) (zero_q, inl b) =
    same_place p q (a.offset ∙ ap (offset_of form list) (first_one list (Misspells at.shape (field_path at.numbers)) a.first b.first a.misspelled b.misspelled) ∙ sym b.offset) (a.length ∙ sym b.length)
    (a.state ∙ sym b.state) (zero_p ∙ sym zero_q)
one_place form nodes list slot at p q table there (zero_p, inl a) (zero_q, inr b) = absurd (not_both form list at p q a b)
one_place form nodes list slot at p q table there (zero_p, inr a) (zero_q, inl b) = absurd (not_both form list at q p b a)
one_place form nodes list slot at p q table there (zero_p, inr a) (zero_q, inr b) =
    let some : 0 < length (field_path at.numbers) = omega (arith, length-field_path 0 at.numbers, (numbers_few nodes slot at table there).0) in
    let both = bytes_one list (field_path at.numbers) some form p q a.from b.from a.stop b.stop a.span b.span a.bytes b.bytes in
    same_place p q both.0 both.1 (state_one list at p.state q.state a.state b.state) (zero_p ∙ sym zero_q)
