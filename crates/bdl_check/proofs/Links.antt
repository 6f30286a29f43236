-- The numbers of the declarations that declarations name.
use Rattle.std.proofs.Common.{◌≡◌, ℕ, ◌<◌, ◌≤◌, Bool, true, false, cond, List, [], ◌∷◌, ◌++◌, Option, None, Some, All, length, map, take, nat_lt, get_or, slice_get, refl, sym, ◌∙◌, ap, subst, append_assoc, inl, inr, ◌⊎◌, arith}
use Rattle.std.proofs.lemmas.Bool.{ltb-true}
use Rattle.std.proofs.lemmas.List.{length-map, take_all}
use Rattle.std.proofs.lemmas.List.Elements.{All-cons, All-nil, All-map, filter_map-append}
use Rattle.std.proofs.lemmas.Option.{slice_get_within, slice_get_cases}
use Rattle.std.proofs.lemmas.Simd.{map-map}
use Rattle.std.specs.List.{flat_map, filter_map, cons_option, position_or_len}
use Rattle.std.specs.Option.{IsSome, option_map}
use Rattle.std.specs.Str.{bytes_eq}
use Rattle.bdl_check.specs.declared.declarations.Declaration.{Declaration}
use Rattle.bdl_check.specs.Declarations.{Placed, decl_name, number_named}
use Rattle.bdl_check.specs.DeclarationViews.{placed_of}
use Rattle.bdl_check.specs.Recursion.{names_in, uses, links}
use Rattle.bdl_parser.specs.Trees.{BagFieldTree}
use Rattle.topological_order.specs.Graphs.{EdgeLists, IsClosed, LeadsTo, by_edge, by_walk}

-- A number that is found is one of a declaration.
found_below : (within : Bool) (place number : ℕ) → cond within (Some place) None ≡ Some number → (within ≡ true) × (place ≡ number)
found_below true place number e = (refl, cc)
found_below false place number e = absurd (cc)

pub number_below : (ds : List Placed) (text : List ℕ) (number : ℕ) → number_named ds text ≡ Some number → number < length ds
number_below ds text number e =
    let place = position_or_len (λ (d : Placed). bytes_eq (decl_name d.decl) text) ds in
    let both = found_below (nat_lt place (length ds)) place number e in
    subst (λ (n : ℕ). n < length ds) both.1 (ltb-true place (length ds) both.0)

-- What is kept has what each has that is found.
kept : {X Y : Type 0} (P : Y → Type 0) (f : X → Option Y) → ((x : X) (y : Y) → f x ≡ Some y → P y) → (xs : List X) → All P (filter_map f xs)
kept {Y = Y} P f h [] = All-nil P
kept {Y = Y} P f h (x ∷ xs) = by (f x) refl (kept P f h xs)
  where
    by : (y : Option Y) → f x ≡ y → All P (filter_map f xs) → All P (cons_option y (filter_map f xs))
    by None e rest = rest
    by (Some y) e rest = All-cons P y (filter_map f xs) (h x y e) rest

-- The row of a declaration.
abbrev pub row_of : List Placed → Placed → List ℕ
row_of ds d = filter_map (number_named ds) (uses d.decl)

-- Each number is one of a declaration.
pub links_closed : (ds : List Placed) → IsClosed (links ds)
links_closed ds =
    let count : length ds ≡ length (links ds) = sym (length-map ds (row_of ds)) in
    All-map (All (λ to. to < length (links ds))) (row_of ds) ds
    (λ k d b. kept (λ to. to < length (links ds)) (number_named ds)
    (λ text number e. subst (λ (n : ℕ). number < n) count (number_below ds text number e)) (uses (get_or ds k d).decl))

-- A node with an edge is a node.
from_below : (graph : EdgeLists) (from to : ℕ) → LeadsTo graph from to → from < length graph
from_below graph from to (by_edge f t edge) = slice_get_within graph f edge.row edge.is
from_below graph from to (by_walk f next t edge rest) = slice_get_within graph f edge.row edge.is

pub cyclic_below : (ds : List Placed) (number : ℕ) → LeadsTo (links ds) number number → number < length ds
cyclic_below ds number h = subst (λ (n : ℕ). number < n) (length-map ds (row_of ds)) (from_below (links ds) number number h)

-- The declaration of this number is there.
pub some_at : (ds : List Placed) (number : ℕ) (d : Option Declaration) → option_map placed_of d ≡ slice_get ds number → number < length ds → IsSome d
some_at ds number (Some d) e h = refl
some_at ds number None e h = by (slice_get_cases ds number).1
  where
    by : ((x : Placed) × (number < length ds) × (slice_get ds number ≡ Some x) × (get_or ds number x ≡ x)) ⊎
        ((length ds ≤ number) × (slice_get ds number ≡ None)) → IsSome {T = Declaration} None
    by (inl x) = let never : None ≡ Some x.0 = e ∙ x.2 in absurd (cc)
    by (inr past) = absurd (omega arith)

-- The names of two types, one after the other.
pub both_added : (f : List ℕ → Option ℕ) (old one two : List ℕ) (names more all : List (List ℕ)) → all ≡ names ++ more
    → one ≡ old ++ filter_map f names →
    two ≡ one ++ filter_map f more → two ≡ old ++ filter_map f all
both_added f old one two names more all is first second =
    second ∙ ap (λ (row : List ℕ). row ++ filter_map f more) first ∙ append_assoc old (filter_map f names) (filter_map f more)
    ∙ ap (λ (rest : List ℕ). old ++ rest) (sym (filter_map-append f names more) ∙ ap (filter_map f) (sym is))

-- The names that the types of fields have.
abbrev pub used : List BagFieldTree → List (List ℕ)
used fields = flat_map (λ field. names_in field.kind) fields

-- The names of one more field are added.
pub field_added : (f : List ℕ → Option ℕ) (whole row more : List ℕ) (rest left : List BagFieldTree) (field : BagFieldTree) → rest ≡ field ∷ left
    → row ++ filter_map f (used rest) ≡ whole →
    more ≡ row ++ filter_map f (names_in field.kind) → more ++ filter_map f (used left) ≡ whole
field_added f whole row more rest left field is so_far added =
    ap (λ (start : List ℕ). start ++ filter_map f (used left)) added
    ∙ append_assoc row (filter_map f (names_in field.kind)) (filter_map f (used left))
    ∙ ap (λ (end : List ℕ). row ++ end) (sym (filter_map-append f (names_in field.kind) (used left)))
    ∙ ap (λ (fields : List BagFieldTree). row ++ filter_map f (used fields)) (sym is) ∙ so_far

-- What is had of each declaration as the code looks at them, is had of all.
pub rows_are : {X : Type 0} (f : Placed → X) (ds : List Placed) (rows : List X) (items : List Declaration) (i : ℕ)
    → rows ≡ map (λ d. f (placed_of d)) (take i items) → length items ≤ i → map placed_of items ≡ ds → rows ≡ map f ds
rows_are f ds rows items i are past is =
    are ∙ ap (map (λ (d : Declaration). f (placed_of d))) (take_all i items past) ∙ sym (map-map f placed_of items) ∙ ap (map f) is
