-- Sizes along an order in which each declaration comes after those that it names.
use Rattle.std.proofs.Common.{◌≡◌, ◌≢◌, ℕ, suc, zero, List, [], ◌∷◌, ◌++◌, length, take, set, Option, Some, None, inl, inr, refl, sym, ◌∙◌, ap, subst, arith}
use Rattle.std.specs.List.{filter_map, cons_option, slice_get, Contains}
use Rattle.std.specs.Option.{option_map}
use Rattle.std.proofs.lemmas.Bool.{cases_eq}
use Rattle.std.proofs.lemmas.List.{length-map}
use Rattle.std.proofs.lemmas.List.Elements.{Contains-push_cases}
use Rattle.std.proofs.lemmas.Option.{slice_get-map, slice_get_within}
use Rattle.bdl_check.specs.declared.sizes.Size.{Size}
use Rattle.bdl_check.specs.Declarations.{Placed, number_named}
use Rattle.bdl_check.specs.Recursion.{uses, links}
use Rattle.bdl_check.specs.Sizes.{IsSizeOf, IsSized, AreKnown, AreSizes}
use Rattle.topological_order.specs.Orders.{IsOrder}
use Rattle.bdl_check.proofs.Lists.{is_in_front, is_behind}

-- The declarations of these numbers have their sizes.
abbrev pub AreDone : List Placed → List Size → List ℕ → Type 0
AreDone ds sizes numbers = (number : ℕ) → Contains numbers number → IsSized ds sizes number

-- ---- names that are known after an order

behind_option : (o : Option ℕ) (xs : List ℕ) (z : ℕ) → Contains xs z → Contains (cons_option o xs) z
behind_option None xs z h = h
behind_option (Some x) xs z h = is_behind x xs z h

-- Where the numbers of names are done, the names are known.
known_from : (ds : List Placed) (sizes : List Size) (texts : List (List ℕ)) → AreDone ds sizes (filter_map (number_named ds) texts)
    → AreKnown ds sizes texts
known_from ds sizes [] h = tt
known_from ds sizes (text ∷ texts) h =
    let others = filter_map (number_named ds) texts in (
      λ number is. h number (subst (λ o. Contains (cons_option o others) number) (sym is) (is_in_front number others)),
      known_from ds sizes texts (λ number there. h number (behind_option (number_named ds text) others number there)),
    )

-- A declaration's names are known where it comes.
pub known_uses : (ds : List Placed) (sizes : List Size) (order : List ℕ) (place number : ℕ) (d : Placed) → IsOrder (links ds) order
    → AreDone ds sizes (take place order)
    → slice_get order place ≡ Some number → slice_get ds number ≡ Some d → AreKnown ds sizes (uses d.decl)
known_uses ds sizes order place number d o done at is =
    let row = filter_map (number_named ds) (uses d.decl) in
    let rows : slice_get (links ds) number ≡ Some row = slice_get-map (λ (e : Placed). filter_map (number_named ds) (uses e.decl)) ds number
    ∙ ap (option_map (λ (e : Placed). filter_map (number_named ds) (uses e.decl))) is in
    known_from ds sizes (uses d.decl) (λ next leads. done next (o.behind place number next at (record { row = row; is = rows; leads = leads })))

-- ---- one size more

got_same : {X : Type 0} (xs : List X) (n : ℕ) (y z : X) → slice_get (set xs n y) n ≡ Some z → y ≡ z
got_same [] n y z e = absurd (cc e)
got_same (x ∷ xs) zero y z e = (cc e)
got_same (x ∷ xs) (suc n) y z e = got_same xs n y z e

got_other : {X : Type 0} (xs : List X) (n m : ℕ) (y : X) → m ≢ n → slice_get (set xs n y) m ≡ slice_get xs m
got_other [] n m y ne = refl
got_other (x ∷ xs) zero zero y ne = absurd (ne refl)
got_other (x ∷ xs) zero (suc m) y ne = refl
got_other (x ∷ xs) (suc n) zero y ne = refl
got_other (x ∷ xs) (suc n) (suc m) y ne = got_other xs n m y (λ e. ne (ap suc e))

-- A size that is written is that of its declaration, and the others stay.
sized_same : (ds : List Placed) (sizes : List Size) (number : ℕ) (d : Placed) (new : Size) → slice_get ds number ≡ Some d → IsSizeOf ds d.decl new
    → IsSized ds (set sizes number new) number
sized_same ds sizes number d new is h e size at got =
    let same : Some d ≡ Some e = sym is ∙ at in
    let one : d ≡ e = cc same in
    subst (λ (s : Size). IsSizeOf ds e.decl s) (got_same sizes number new size got) (subst (λ (x : Placed). IsSizeOf ds x.decl new) one h)

sized_other : (ds : List Placed) (sizes : List Size) (number other : ℕ) (new : Size) → other ≢ number → IsSized ds sizes other
    → IsSized ds (set sizes number new) other
sized_other ds sizes number other new ne h e size at got = h e size at (sym (got_other sizes number other new ne) ∙ got)

-- One declaration more is done.
pub done_more : (ds : List Placed) (sizes : List Size) (numbers : List ℕ) (number : ℕ) (d : Placed) (new : Size) → slice_get ds number ≡ Some d
    → IsSizeOf ds d.decl new → AreDone ds sizes numbers
    → AreDone ds (set sizes number new) (numbers ++ number ∷ [])
done_more ds sizes numbers number d new is h done other there = elim (cases_eq other number) [
  | inl same ↦ subst (IsSized ds (set sizes number new)) (sym same) (sized_same ds sizes number d new is h)
  | inr ne ↦ elim (Contains-push_cases numbers number other there) [
    | inl before ↦ sized_other ds sizes number other new ne (done other before)
    | inr same ↦ absurd (ne (sym same))
  ]
]

-- A number without a declaration needs no size.
pub done_none : (ds : List Placed) (sizes : List Size) (numbers : List ℕ) (number : ℕ) → slice_get ds number ≡ None → AreDone ds sizes numbers
    → AreDone ds sizes (numbers ++ number ∷ [])
done_none ds sizes numbers number none done other there = elim (Contains-push_cases numbers number other there) [
  | inl before ↦ done other before
  | inr same ↦ (λ d size at. absurd (let e = sym (ap (slice_get ds) same ∙ at) ∙ none in cc e))
]

-- All declarations are done.
pub all_done : (ds : List Placed) (sizes : List Size) (order : List ℕ) → IsOrder (links ds) order → length sizes ≡ length ds → AreDone ds sizes order
    → AreSizes ds sizes
all_done ds sizes order o count done = record {
  count = count;
  each = λ number d size at. done number (o.all number
      (let within = slice_get_within ds number d at in omega
      (arith, within, length-map ds (λ (e : Placed). filter_map (number_named ds) (uses e.decl))))) d size at;
}

-- Nothing is done.
pub none_done : (ds : List Placed) (sizes : List Size) → AreDone ds sizes []
none_done ds sizes number there = let within = there.1 in absurd (omega (arith, within))
