-- Names that are found in a set of borrowed names.
use Rattle.std.proofs.Common.{◌≡◌, ℕ, Bool, true, false, ◌||◌, cond, List, [], ◌∷◌, ◌++◌, map, refl, sym, ap, ◌∙◌}
use Rattle.std.proofs.lemmas.Cmp.{nat_list_eq_equiv}
use Rattle.std.proofs.lemmas.Map.Text.{is_eq-slice_cmp}
use Rattle.std.specs.Borrow.{Bor}
use Rattle.std.specs.Cmp.Lexicographic.{slice_cmp}
use Rattle.std.specs.List.{list_any}
use Rattle.std.specs.Ordering.{is_eq, nat_cmp}
use Rattle.std.specs.Str.{bytes_eq}
use Rattle.table_text.specs.Names.{HaveNames}

-- Whether the set's own comparison finds the name.
abbrev pub is_found : List ℕ → List (Bor (List ℕ)) → Bool
is_found name keys = list_any (λ key. is_eq (slice_cmp nat_cmp name key.now)) keys

pub any_borrowed : (name : List ℕ) (keys : List (Bor (List ℕ))) → is_found name keys ≡ list_any (bytes_eq name) (map (λ key. key.now) keys)
any_borrowed name [] = refl
any_borrowed name (key ∷ keys) =
    ap (λ b. b || is_found name keys) (is_eq-slice_cmp name key.now) ∙ ap (λ b. bytes_eq name key.now || b) (any_borrowed name keys)

either : (it others : Bool) → cond it true others ≡ (it || others)
either true others = refl
either false others = refl

-- A set in which a name was put has it beside those that it had.
pub added_borrowed : (name : Bor (List ℕ)) (old new : List (Bor (List ℕ)))
    → ((other : Bor (List ℕ)) → is_found other.now new ≡ cond (is_eq (slice_cmp nat_cmp name.now other.now)) true (is_found other.now old))
    → HaveNames (map (λ key. key.now) new) (name.now ∷ map (λ key. key.now) old)
added_borrowed name old new put text =
    let is_it = is_eq-slice_cmp name.now text ∙ nat_list_eq_equiv.symm name.now text in
    sym (any_borrowed text new)
    ∙ put (record { ref_ptr = name.ref_ptr; now = text })
    ∙ either (is_eq (slice_cmp nat_cmp name.now text)) (is_found text old)
    ∙ ap (λ b. b || is_found text old) is_it
    ∙ ap (λ b. bytes_eq text name.now || b) (any_borrowed text old)

swapped : (a b c : Bool) → (a || (b || c)) ≡ (b || (a || c))
swapped true true c = refl
swapped true false c = refl
swapped false true c = refl
swapped false false c = refl

grouped : (a b c : Bool) → (a || (b || c)) ≡ ((a || b) || c)
grouped true b c = refl
grouped false b c = refl

-- A name is found among the first ones or in the set.
pub any_either : (name : List ℕ) (first keys : List (Bor (List ℕ)))
    → list_any (bytes_eq name) (map (λ key. key.now) (first ++ keys)) ≡ (list_any (λ other. bytes_eq name other.now) first || is_found name keys)
any_either name [] keys = sym (any_borrowed name keys)
any_either name (key ∷ first) keys =
    ap (λ b. bytes_eq name key.now || b) (any_either name first keys)
    ∙ grouped (bytes_eq name key.now) (list_any (λ other. bytes_eq name other.now) first) (is_found name keys)

-- A name that was put after the first ones, or into the set, is beside those that there were.
pub have_pushed : (name : Bor (List ℕ)) (first keys : List (Bor (List ℕ)))
    → HaveNames (map (λ key. key.now) ((first ++ name ∷ []) ++ keys)) (name.now ∷ map (λ key. key.now) (first ++ keys))
have_pushed name [] keys text = refl
have_pushed name (key ∷ first) keys text =
    ap (λ b. bytes_eq text key.now || b) (have_pushed name first keys text)
    ∙ swapped (bytes_eq text key.now) (bytes_eq text name.now) (list_any (bytes_eq text) (map (λ other. other.now) (first ++ keys)))

pub have_inserted : (name : Bor (List ℕ)) (first old new : List (Bor (List ℕ)))
    → ((other : Bor (List ℕ)) → is_found other.now new ≡ cond (is_eq (slice_cmp nat_cmp name.now other.now)) true (is_found other.now old))
    → HaveNames (map (λ key. key.now) (first ++ new)) (name.now ∷ map (λ key. key.now) (first ++ old))
have_inserted name [] old new put text = added_borrowed name old new put text
have_inserted name (key ∷ first) old new put text =
    ap (λ b. bytes_eq text key.now || b) (have_inserted name first old new put text)
    ∙ swapped (bytes_eq text key.now) (bytes_eq text name.now) (list_any (bytes_eq text) (map (λ other. other.now) (first ++ old)))

-- A name at the end is found as one at the head.
pub any_last : (text : List ℕ) (names : List (List ℕ)) (name : List ℕ) → list_any (bytes_eq text) (names ++ name ∷ []) ≡ list_any (bytes_eq text) (name ∷ names)
any_last text [] name = refl
any_last text (other ∷ names) name =
    ap (λ b. bytes_eq text other || b) (any_last text names name)
    ∙ swapped (bytes_eq text other) (bytes_eq text name) (list_any (bytes_eq text) names)
