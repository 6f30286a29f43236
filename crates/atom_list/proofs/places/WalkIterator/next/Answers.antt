use Rattle.std.proofs.Common.{◌≡◌, ℕ, ◌+◌, ◌<◌, true, false, List, [], ◌∷◌, ◌++◌, length, take, drop, Some, option_copied, slice_get, sym, ◌∙◌, ap, subst, arith}
use Rattle.std.proofs.lemmas.Option.{get_or_from_slice_get}
use Rattle.context_model.specs.Paths.{is_header, level}
use Rattle.atom_list.specs.OpenPlaces.{atom_at}
use Rattle.atom_list.specs.Places.{padded, places_behind, IsAtomWalk}
use Rattle.atom_list.specs.declared.places.Place.{Place}
use Rattle.atom_list.proofs.Walking.{walk_other, walk_header, walk_level, place_other, place_header, view_next}
use Rattle.atom_list.proofs.places.WalkIterator.next.Goals as goal

-- What the look-up gave is the atom at the place.
is_there : (list : List (List ℕ)) (at : ℕ) (x : List ℕ) → slice_get list at ≡ Some x → x ≡ atom_at list at
is_there list at x there = sym (get_or_from_slice_get list at x [] there)

step_other : (list : List (List ℕ)) (at : ℕ) (headers : List ℕ) (made : Place) (left : List Place) → IsAtomWalk list at headers → at < length list → is_header (atom_at list at) ≡ false
    → made ≡ record { at = at; level = length headers; above = padded headers } → places_behind (take at list) (drop at list) ≡ left → left ≡ made ∷ places_behind (take (at + 1) list) (drop (at + 1) list)
step_other list at headers made left walk within other e view =
    sym view ∙ view_next list at within ∙ ap (λ p. p ∷ places_behind (take (at + 1) list) (drop (at + 1) list)) (sym (place_other list at headers made walk within other e))

step_header : (list : List (List ℕ)) (at : ℕ) (headers : List ℕ) (made : Place) (left : List Place) → IsAtomWalk list at headers → at < length list → is_header (atom_at list at) ≡ true
    → made ≡ record { at = at; level = length (take (level (atom_at list at)) headers); above = padded (take (level (atom_at list at)) headers) }
    → places_behind (take at list) (drop at list) ≡ left → left ≡ made ∷ places_behind (take (at + 1) list) (drop (at + 1) list)
step_header list at headers made left walk within header e view =
    sym view ∙ view_next list at within ∙ ap (λ p. p ∷ places_behind (take (at + 1) list) (drop (at + 1) list)) (sym (place_header list at headers made walk within header e))

fewer : (left rest : List Place) (made : Place) → left ≡ made ∷ rest → length rest < length left
fewer left rest made e = omega (arith, ap length e)

pub invariant_of-self : goal.invariant_of-self
invariant_of-self c =
    let same = is_there c.self.inside.list.now c.self.inside.at c.unwrap.result.now (sym c.get.ensures.value ∙ ap option_copied c.unwrap.ensures) in
    walk_other c.self.inside.list.now c.self.inside.at c.self.inside.headers c.self.invariant (omega (arith, c.self.invariant.within, c.len.ensures.len)) (ap is_header (sym same) ∙ c.in_default.ensures)

pub returns-in_default-clause-steps : goal.returns-in_default-clause-steps
returns-in_default-clause-steps c =
    let same = is_there c.self.inside.list.now c.self.inside.at c.unwrap.result.now (sym c.get.ensures.value ∙ ap option_copied c.unwrap.ensures) in
    step_other c.self.inside.list.now c.self.inside.at c.self.inside.headers c.place_within.result c.args.self.now c.self.invariant
    (omega (arith, c.self.invariant.within, c.len.ensures.len)) (ap is_header (sym same) ∙ c.in_default.ensures) c.place_within.ensures c.self.view_is

pub returns-in_default-clause-goes : goal.returns-in_default-clause-goes
returns-in_default-clause-goes c = record {
  on = λ ends. (tt, tt, fewer c.args.self.now _ c.place_within.result (returns-in_default-clause-steps c));
  keeps = tt;
  rests = λ ends. tt;
}

pub truncate-requires : goal.truncate-requires
truncate-requires c =
    let same = is_there c.self.inside.list.now c.self.inside.at c.unwrap.result.now (sym c.get.ensures.value ∙ ap option_copied c.unwrap.ensures) in
    let few = walk_level c.self.inside.list.now c.self.inside.at c.self.inside.headers c.self.invariant (omega (arith, c.self.invariant.within, c.len.ensures.len)) (ap is_header (sym same) ∙ c.in-Some.ensures.0) in
    let found : c.in-Some.level ≡ level (atom_at c.self.inside.list.now c.self.inside.at) = c.in-Some.ensures.1 ∙ ap level same in
    omega (arith, few, found)

pub invariant_of-self-2 : goal.invariant_of-self-2
invariant_of-self-2 c =
    let list = c.self.inside.list.now in
    let at = c.self.inside.at in
    let same = is_there list at c.unwrap.result.now (sym c.get.ensures.value ∙ ap option_copied c.unwrap.ensures) in
    let found : c.in-Some.level ≡ level (atom_at list at) = c.in-Some.ensures.1 ∙ ap level same in
    let headers : c.push.new.self ≡ take (level (atom_at list at)) c.self.inside.headers ++ at ∷ [] =
    c.push.ensures ∙ ap (λ v. v ++ at ∷ []) (c.truncate.ensures ∙ ap (λ n. take n c.self.inside.headers) found) in
    subst (IsAtomWalk list (at + 1)) (sym headers) (walk_header list at c.self.inside.headers c.self.invariant (omega (arith, c.self.invariant.within, c.len.ensures.len)) (ap is_header (sym same) ∙ c.in-Some.ensures.0))

pub returns-clause-steps : goal.returns-clause-steps
returns-clause-steps c =
    let list = c.self.inside.list.now in
    let at = c.self.inside.at in
    let same = is_there list at c.unwrap.result.now (sym c.get.ensures.value ∙ ap option_copied c.unwrap.ensures) in
    let found : c.in-Some.level ≡ level (atom_at list at) = c.in-Some.ensures.1 ∙ ap level same in
    let made : c.place_within-place.result ≡ record { at = at; level = length (take (level (atom_at list at)) c.self.inside.headers); above = padded (take (level (atom_at list at)) c.self.inside.headers) } =
    subst (λ kept. c.place_within-place.result ≡ record { at = at; level = length kept; above = padded kept }) (c.truncate.ensures ∙ ap (λ n. take n c.self.inside.headers) found) c.place_within-place.ensures in
    step_header list at c.self.inside.headers c.place_within-place.result c.args.self.now c.self.invariant
    (omega (arith, c.self.invariant.within, c.len.ensures.len)) (ap is_header (sym same) ∙ c.in-Some.ensures.0) made c.self.view_is

pub returns-clause-goes : goal.returns-clause-goes
returns-clause-goes c = record {
  on = λ ends. (tt, tt, fewer c.args.self.now _ c.place_within-place.result (returns-clause-steps c));
  keeps = tt;
  rests = λ ends. tt;
}
