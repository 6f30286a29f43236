use Rattle.std.proofs.Common.{◌≡◌, ◌↔◌, ℕ, ◌<◌, ◌≤◌, ◌==◌, true, false, List, [], ◌∷◌, ◌++◌, length, map, take, get_or, slice_get, option_copied, Some, refl, sym, ◌∙◌, ap, subst, arith, eqb-true, eq-eqb, below_more}
use Rattle.std.proofs.lemmas.List.{nil_from_length}
use Rattle.std.proofs.lemmas.Option.{get_or_from_slice_get}
use Rattle.context_model.specs.Orders.{Path}
use Rattle.context_model.specs.Paths.{is_header, level}
use Rattle.context_model.specs.WellFormed.{IsWellFormed}
use Rattle.context_model.specs.Ended.{IsBeyond, IsEnded, field_path}
use Rattle.context_model.proofs.Beyond.{headers_of, beyond_headers, beyond_from_headers}
use Rattle.context_model.proofs.FieldPaths.{field_path-headers}
use Rattle.atom_list.specs.OpenPlaces.{atom_at, path_before}
use Rattle.atom_list.proofs.Walking.{fits_at}
use Rattle.atom_list.proofs.Ending.{ended_at_marker, ended_unmarked, headers_length, open_other, open_header, within_push}
use Rattle.atom_list.proofs.contexts.Context.ended.Goals as goal
use Rattle.atom_list.proofs.contexts.Context.ended.Goals.{in-Some, in_default}

-- Where the headers before the first marker are those of the path there, they say whether the field is ended.
by_headers : (list : List (List ℕ)) (numbers headers : List ℕ) (at : ℕ) → IsWellFormed list → length numbers ≤ 16 → at < length list → ((k : ℕ) → k < at → slice_get list k ≡ Some [] → ⊥)
    → slice_get list at ≡ Some [] → map (atom_at list) headers ≡ headers_of (path_before list at) → IsBeyond (field_path numbers) (map (atom_at list) headers) ↔ IsEnded list (field_path numbers)
by_headers list numbers headers at w few within unmarked marked same =
    let path : Path = path_before list at in
    let field = field_path-headers 0 numbers (omega arith) in
    let ended = ended_at_marker list (field_path numbers) at w within unmarked marked in (
      λ beyond. ended.1 (beyond_from_headers (field_path numbers) path field (subst (IsBeyond (field_path numbers)) same beyond)),
      λ ends. subst (IsBeyond (field_path numbers)) (sym same) (beyond_headers (field_path numbers) path field (ended.0 ends)),
    )

empty_not : (atom : List ℕ) → false ≡ (length atom == 0) → atom ≡ [] → ⊥
empty_not atom e h = let t : (length atom == 0) ≡ true = eq-eqb (length atom) 0 (ap length h) in let clash : false ≡ true = e ∙ t in cc

pub returns-then-is_empty : goal.returns-then-is_empty
returns-then-is_empty c =
    let list : List (List ℕ) = c.list-list.result.now in
    let there : slice_get list c.loop-at.at ≡ Some c.unwrap-atom.result.now = sym c.get.ensures.value ∙ ap option_copied c.unwrap-atom.ensures in
    let none : c.unwrap-atom.result.now ≡ [] = nil_from_length c.unwrap-atom.result.now (eqb-true (length c.unwrap-atom.result.now) 0 (sym c.if-is_empty.ensures)) in
    let ends = by_headers list c.args.numbers.now c.loop-at.headers c.loop-at.at (subst IsWellFormed (sym c.list-list.ensures.list) c.list-list.ensures.well_formed) c.requires
    (omega (arith, c.len-at-end.ensures.len, c.loop-at-test.true)) c.loop-at.invariant.unmarked (there ∙ ap Some none) c.loop-at.invariant.open_headers in (
      λ t. subst (λ v. IsEnded v (field_path c.args.numbers.now)) c.list-list.ensures.list (ends.0 (c.are_beyond.ensures.0 t)),
      λ e. c.are_beyond.ensures.1 (ends.1 (subst (λ v. IsEnded v (field_path c.args.numbers.now)) (sym c.list-list.ensures.list) e)),
    )

pub truncate-requires : goal.truncate-requires
truncate-requires c =
    let list : List (List ℕ) = c.list-list.result.now in
    let there : slice_get list c.loop-at.at ≡ Some c.unwrap-atom.result.now = sym c.get.ensures.value ∙ ap option_copied c.unwrap-atom.ensures in
    let same : c.unwrap-atom.result.now ≡ atom_at list c.loop-at.at = sym (get_or_from_slice_get list c.loop-at.at c.unwrap-atom.result.now [] there) in
    let few : level (atom_at list c.loop-at.at) ≤ _ = (fits_at list c.loop-at.at (subst IsWellFormed (sym c.list-list.ensures.list) c.list-list.ensures.well_formed)
    (omega (arith, c.len-at-end.ensures.len, c.loop-at-test.true))).level (ap is_header (sym same) ∙ c.in-Some.ensures.0) in
    let found : c.in-Some.level ≡ level (atom_at list c.loop-at.at) = c.in-Some.ensures.1 ∙ ap level same in
    omega (arith, few, found, headers_length list c.loop-at.headers (path_before list c.loop-at.at) c.loop-at.invariant.open_headers)

pub returns : goal.returns
returns c = (
  λ t. subst (λ v. IsEnded v (field_path c.args.numbers.now)) c.list-list.ensures.list
      (ended_unmarked c.list-list.result.now (field_path c.args.numbers.now) (λ k below. c.loop-at.invariant.unmarked k (omega (arith, c.loop-at-test.false, c.len-at-end.ensures.len)))),
  λ e. refl,
)

pub loop-at-preserved : goal.loop-at-preserved
loop-at-preserved c =
    let list : List (List ℕ) = c.list-list.result.now in
    let at : ℕ = c.loop-at.at in
    let there : slice_get list at ≡ Some c.unwrap-atom.result.now = sym c.get.ensures.value ∙ ap option_copied c.unwrap-atom.ensures in
    let same : c.unwrap-atom.result.now ≡ atom_at list at = sym (get_or_from_slice_get list at c.unwrap-atom.result.now [] there) in
    let within : at < length list = omega (arith, c.len-at-end.ensures.len, c.loop-at-test.true) in
    let unmarked = below_more _ _ c.loop-at.invariant.unmarked (λ e. let one : Some c.unwrap-atom.result.now ≡ Some [] = sym there ∙ e in let atom : c.unwrap-atom.result.now ≡ [] = cc in empty_not c.unwrap-atom.result.now c.if-is_empty.ensures atom) in
    elim c.match-header_level.branch [
      | in-Some w ↦
          let headers : c.match-header_level.headers ≡ take (level (atom_at list at)) c.loop-at.headers ++ at ∷ [] =
          w.headers-is ∙ w.push.ensures ∙ ap (λ v. v ++ at ∷ []) (w.truncate.ensures ∙ ap (λ n. take n c.loop-at.headers) (w.in-Some.ensures.1 ∙ ap level same)) in
          record {
            unmarked = unmarked;
            open_headers = ap (map (atom_at list)) headers ∙ open_header list c.loop-at.headers at (subst IsWellFormed (sym c.list-list.ensures.list) c.list-list.ensures.well_formed) within
                (ap is_header (sym same) ∙ w.in-Some.ensures.0) c.loop-at.invariant.open_headers;
            within = subst (λ v. (k : ℕ) → k < length v → get_or v k 0 < length list) (sym headers) (within_push (level (atom_at list at)) c.loop-at.headers at (length list) c.loop-at.invariant.within within);
          }
      | in_default w ↦ record {
        unmarked = unmarked;
        open_headers = ap (map (atom_at list)) w.headers-is ∙ open_other list c.loop-at.headers at within (ap is_header (sym same) ∙ w.in_default.ensures) c.loop-at.invariant.open_headers;
        within = subst (λ v. (k : ℕ) → k < length v → get_or v k 0 < length list) (sym w.headers-is) c.loop-at.invariant.within;
      }
    ]
