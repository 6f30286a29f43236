-- Numbers of services, which are found by their names.
use Rattle.std.proofs.Common.{◌≡◌, ℕ, ◌+◌, Bool, true, false, cond, not, List, [], ◌∷◌, ◌++◌, length, position, Option, None, Some, refl, sym, ◌∙◌, ap, subst, arith}
use Rattle.std.proofs.lemmas.Bool.{cond-true, cond-false}
use Rattle.std.proofs.lemmas.Bool.Decides.{nat_tests}
use Rattle.std.proofs.lemmas.Cmp.{nat_list_eq_equiv}
use Rattle.std.proofs.lemmas.List.{map-append, length-append, length-map}
use Rattle.std.proofs.lemmas.List.Folds.{position_or_len_push}
use Rattle.std.proofs.lemmas.List.Sums.{prefix_len-le-length}
use Rattle.std.specs.Borrow.{Bor}
use Rattle.std.specs.BTreeMap.{BTreeMap, get_by}
use Rattle.std.specs.Cmp.Lexicographic.{slice_cmp, same_text}
use Rattle.std.specs.Map.{update}
use Rattle.std.specs.Ordering.{nat_cmp}
use Rattle.std.specs.Str.{bytes_eq}
use Rattle.trace_model.specs.Graphs.{Graph, Service}
use Rattle.recorded_graph.specs.Graphs.{with_service}
use Rattle.graph_text.specs.Names.{service_names, place_of_name, service_named, NumbersServices}

-- A last element is the first that passes where it does and no other, and changes nothing where it doesn't.
position_of_last : {A : Type 0} (p : A → Bool) (xs : List A) (x : A) → position p xs ≡ None → p x ≡ true → position p (xs ++ x ∷ []) ≡ Some (length xs)
position_of_last p xs x none passes =
    let push = position_or_len_push p xs x in
    let few = prefix_len-le-length (λ y. not (p y)) xs in
    let long : length (xs ++ x ∷ []) ≡ length xs + 1 = length-append xs (x ∷ []) in
    grind (arith, nat_tests)

position_before_last : {A : Type 0} (p : A → Bool) (xs : List A) (x : A) → p x ≡ false → position p (xs ++ x ∷ []) ≡ position p xs
position_before_last p xs x fails =
    let push = position_or_len_push p xs x in
    let few = prefix_len-le-length (λ y. not (p y)) xs in
    let long : length (xs ++ x ∷ []) ≡ length xs + 1 = length-append xs (x ∷ []) in
    grind (arith, nat_tests)

-- A new name goes to the end.
place_more : (names : List (List ℕ)) (own name : List ℕ) → place_of_name names own ≡ None → place_of_name (names ++ own ∷ []) name ≡ update bytes_eq (place_of_name names) own (Some (length names)) name
place_more names own name new = by (bytes_eq own name) refl
  where
    by : (same : Bool) → bytes_eq own name ≡ same → place_of_name (names ++ own ∷ []) name ≡ update bytes_eq (place_of_name names) own (Some (length names)) name
    by true e =
        let none : place_of_name names name ≡ None = subst (λ text. place_of_name names text ≡ None) (same_text own name (sym e)) new in
        position_of_last (bytes_eq name) names own none (nat_list_eq_equiv.symm name own ∙ e) ∙ sym (cond-true (bytes_eq own name) (Some (length names)) (place_of_name names name) e)
    by false e =
        position_before_last (bytes_eq name) names own (nat_list_eq_equiv.symm name own ∙ e) ∙ sym (cond-false (bytes_eq own name) (Some (length names)) (place_of_name names name) e)

-- The number of a service that is declared goes into the map.
pub numbers_grow : (graph after : Graph) (own : Service) (name : List ℕ) (number : ℕ) (numbers grown : BTreeMap (Bor (List ℕ)) ℕ)
    → NumbersServices graph numbers → own.name ≡ name → number ≡ length graph.services → service_named graph name ≡ None
    → ((other : List ℕ) → get_by (λ key. slice_cmp nat_cmp other key.now) grown ≡ update bytes_eq (λ text. get_by (λ key. slice_cmp nat_cmp text key.now) numbers) name (Some number) other)
    → after ≡ with_service graph own → NumbersServices after grown
numbers_grow graph after own name number numbers grown before named count new more is other =
    let long : length (service_names graph) ≡ length graph.services = length-map graph.services (λ (service : Service). service.name) in
    let names : service_names (with_service graph own) ≡ service_names graph ++ own.name ∷ [] = map-append (λ (service : Service). service.name) graph.services (own ∷ []) in
    let here : update bytes_eq (λ text. get_by (λ key. slice_cmp nat_cmp text key.now) numbers) name (Some number) other ≡ update bytes_eq (place_of_name (service_names graph)) name (Some (length (service_names graph))) other =
    ap (λ (found : Option ℕ). cond (bytes_eq name other) (Some number) found) (before other)
    ∙ ap (λ (n : ℕ). cond (bytes_eq name other) (Some n) (place_of_name (service_names graph) other)) (count ∙ sym long) in
    let there : place_of_name (service_names graph ++ own.name ∷ []) other ≡ update bytes_eq (place_of_name (service_names graph)) name (Some (length (service_names graph))) other =
    subst (λ (text : List ℕ). place_of_name (service_names graph ++ text ∷ []) other ≡ update bytes_eq (place_of_name (service_names graph)) name (Some (length (service_names graph))) other) (sym named) (place_more (service_names graph) name other new) in
    let whole : service_named (with_service graph own) other ≡ place_of_name (service_names graph ++ own.name ∷ []) other = ap (λ (all : List (List ℕ)). place_of_name all other) names in
    more other ∙ here ∙ sym there ∙ sym whole ∙ ap (λ (g : Graph). service_named g other) (sym is)
