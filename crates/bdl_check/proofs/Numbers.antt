-- Numbers of declarations, which are found by their names.
use Rattle.std.proofs.Common.{◌≡◌, ℕ, ◌+◌, ◌<◌, ◌≤◌, ◌⊎◌, inl, inr, Bool, true, false, cond, not, List, [], ◌∷◌, ◌++◌, length, get_or, slice_get, position, Option, None, Some, refl, sym, ◌∙◌, ap, subst, arith}
use Rattle.std.proofs.lemmas.Bool.{cond-true, cond-false}
use Rattle.std.proofs.lemmas.Bool.Decides.{nat_tests}
use Rattle.std.proofs.lemmas.List.{length-append}
use Rattle.std.proofs.lemmas.List.Folds.{position_or_len_push}
use Rattle.std.proofs.lemmas.List.Sums.{prefix_len-le-length}
use Rattle.std.proofs.lemmas.Option.{slice_get_cases}
use Rattle.std.specs.Borrow.{Bor}
use Rattle.std.specs.BTreeMap.{BTreeMap, get_by}
use Rattle.std.specs.Cmp.Lexicographic.{slice_cmp, same_text}
use Rattle.std.specs.Map.{update}
use Rattle.std.specs.Option.{is_some}
use Rattle.std.specs.Ordering.{nat_cmp}
use Rattle.std.specs.Prelude.{Result, Ok, Err, OnOk}
use Rattle.std.specs.Result.{is_err}
use Rattle.std.specs.Str.{bytes_eq}
use Rattle.bdl_check.specs.Declarations.{Placed, decl_name, decl_named, number_named}
use Rattle.bdl_check.specs.DeclarationViews.{NumbersDeclarations}
use Rattle.bdl_check.proofs.Links.{number_below}
use Rattle.bdl_check.proofs.PassedTypes.{named_at, not_named}

abbrev Numbers : Type 0
Numbers = BTreeMap (Bor (List ℕ)) ℕ

-- A last element is the first that passes where it does and no other, and changes nothing where it doesn't.
position_of_last : {A : Type 0} (p : A → Bool) (xs : List A) (x : A) → position p xs ≡ None → p x ≡ true → position p (xs ++ x ∷ []) ≡ Some (length xs)
position_of_last p xs x none passes =
    let push = position_or_len_push p xs x in
    let few = prefix_len-le-length (λ y. not (p y)) xs in
    let long : length (xs ++ x ∷ []) ≡ length xs + 1 = length-append xs (x ∷ []) in
    grind (arith, nat_tests)

position_before_last : {A : Type 0} (p : A → Bool) (xs : List A) (x : A) → p x ≡ false → position p (xs ++ x ∷ []) ≡ position p xs
position_before_last p xs x fails =
    let push = position_or_len_push p xs x in
    let few = prefix_len-le-length (λ y. not (p y)) xs in
    let long : length (xs ++ x ∷ []) ≡ length xs + 1 = length-append xs (x ∷ []) in
    grind (arith, nat_tests)

-- A declaration of a new name goes to the end.
number_more : (ds : List Placed) (d : Placed) (text : List ℕ) → number_named ds (decl_name d.decl) ≡ None
    → number_named (ds ++ d ∷ []) text ≡ update bytes_eq (number_named ds) (decl_name d.decl) (Some (length ds)) text
number_more ds d text new = by (bytes_eq (decl_name d.decl) text) refl
  where
    by : (same : Bool) → bytes_eq (decl_name d.decl) text ≡ same
        → number_named (ds ++ d ∷ []) text ≡ update bytes_eq (number_named ds) (decl_name d.decl) (Some (length ds)) text
    by true e =
        let none : number_named ds text ≡ None = subst (λ text. number_named ds text ≡ None) (same_text (decl_name d.decl) text (sym e)) new in
        position_of_last (λ d. bytes_eq (decl_name d.decl) text) ds d none e
        ∙ sym (cond-true (bytes_eq (decl_name d.decl) text) (Some (length ds)) (number_named ds text) e)
    by false e =
        position_before_last (λ d. bytes_eq (decl_name d.decl) text) ds d e
        ∙ sym (cond-false (bytes_eq (decl_name d.decl) text) (Some (length ds)) (number_named ds text) e)

-- The number of one more declaration goes into the map.
pub numbers_more : (ds : List Placed) (d : Placed) (name : List ℕ) (number : ℕ) (numbers grown : Numbers) → NumbersDeclarations ds numbers
    → name ≡ decl_name d.decl → number ≡ length ds → number_named ds name ≡ None
    → ((other : List ℕ) → get_by (λ key. slice_cmp nat_cmp other key.now) grown ≡ update bytes_eq (λ text. get_by (λ key. slice_cmp nat_cmp text key.now) numbers) name (Some number) other)
    → NumbersDeclarations (ds ++ d ∷ []) grown
numbers_more ds d name number numbers grown before is count new more other =
    more other ∙ ap (λ (found : Option ℕ). cond (bytes_eq name other) (Some number) found) (before other)
    ∙ ap (λ (text : List ℕ). cond (bytes_eq text other) (Some number) (number_named ds other)) is
    ∙ ap (λ n. cond (bytes_eq (decl_name d.decl) other) (Some n) (number_named ds other)) count
    ∙ sym (number_more ds d other (subst (λ (text : List ℕ). number_named ds text ≡ None) is new))

-- A name with a number is that of a declaration.
none_at : (ds : List Placed) (text : List ℕ) (number : ℕ) → number_named ds text ≡ Some number → decl_named ds text ≡ None → ⊥
none_at ds text number e none = by (slice_get_cases ds number).1
  where
    by : ((d : Placed) × (number < length ds) × (slice_get ds number ≡ Some d) × (get_or ds number d ≡ d)) ⊎
        ((length ds ≤ number) × (slice_get ds number ≡ None)) → ⊥
    by (inl d) = let never : None ≡ Some d.0 = sym none ∙ named_at ds text number e ∙ d.2 in cc
    by (inr past) = let below = number_below ds text number e in omega (arith, below, past.0)

-- A name has a number exactly where it has a declaration.
numbered : (ds : List Placed) (text : List ℕ) → is_some (number_named ds text) ≡ is_some (decl_named ds text)
numbered ds text = by (number_named ds text) (decl_named ds text) refl refl
  where
    by : (number : Option ℕ) (d : Option Placed) → number_named ds text ≡ number → decl_named ds text ≡ d → is_some number ≡ is_some d
    by None d e is = ap is_some (sym (not_named ds text e) ∙ is)
    by (Some number) (Some d) e is = refl
    by (Some number) None e is = absurd (none_at ds text number e is)

pub is_taken : (ds : List Placed) (text name : List ℕ) (number : Option ℕ) → text ≡ name → number ≡ number_named ds text
    → is_some (decl_named ds name) ≡ is_some number
is_taken ds text name number is found =
    ap (λ (text : List ℕ). is_some (decl_named ds text)) (sym is) ∙ sym (numbered ds text) ∙ ap is_some (sym found)

-- What isn't there, and what is done.
pub none_numbered : (number : Option ℕ) → is_some number ≡ false → number ≡ None
none_numbered None e = refl
none_numbered (Some number) e = absurd (cc e)

pub done : {T E Q : Type 0} (result : Result T E) → is_err result ≡ false → OnOk result Q → Q
done (Ok value) e q = q
done (Err error) e q = absurd (cc e)
