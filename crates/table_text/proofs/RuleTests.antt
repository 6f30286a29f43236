-- The tests of a bag's next field, and the rules.
use Rattle.std.proofs.Common.{◌≡◌, ◌⊎◌, inl, inr, ℕ, ◌+◌, ◌<◌, ◌≤◌, Bool, true, false, ◌||◌, List, [], ◌∷◌, ◌++◌, map, length, reverse, refl, sym, ap, subst, ◌∙◌, length-append, arith}
use Rattle.std.specs.List.{AllByRecursion, list_any}
use Rattle.std.specs.Str.{bytes_eq}
use Rattle.std.proofs.lemmas.List.{reverse-append, map-append}
use Rattle.std.proofs.lemmas.Slice.Eq.{bytes_eq-Decides}
use Rattle.context_model.specs.Orders.{IsIn}
use Rattle.bag_model.specs.Shapes.{Nodes, Field, fields, no_node, node}
use Rattle.bag_model.specs.Tables.{AreFields}
use Rattle.table_text.specs.Builder.{head_name, least_behind, IsFieldBehind}
use Rattle.table_text.specs.Rows.{Row}
use Rattle.table_text.specs.Rules.{IsOutOfOrder}
use Rattle.table_text.proofs.Siblings.{row_at}

-- ---- numbers

pub least_more : (fs : List Field) (f : Field) → least_behind (fs ++ f ∷ []) ≡ f.number + 1
least_more [] f = refl
least_more (g ∷ []) f = refl
least_more (g ∷ h ∷ more) f = least_more (h ∷ more) f

out_more : (xs ys : List Row) (row : Row) → IsOutOfOrder xs row → IsOutOfOrder (xs ++ ys) row
out_more [] ys row out = absurd out
out_more (x ∷ xs) ys row out = out

out_less : (xs ys : List Row) (row : Row) → 0 < length xs → IsOutOfOrder (xs ++ ys) row → IsOutOfOrder xs row
out_less [] ys row some out = absurd (omega arith)
out_less (x ∷ xs) ys row some out = out

-- The lines of some fields, the latest first.
abbrev pub lines_back : ℕ → List Field → List Row
lines_back depth fs = reverse (map (row_at depth) fs)

pub back_cons : (depth : ℕ) (f : Field) (fs : List Field) → lines_back depth (f ∷ fs) ≡ lines_back depth fs ++ row_at depth f ∷ []
back_cons depth f fs = reverse-append (row_at depth f ∷ []) (map (row_at depth) fs)

back_some : (depth : ℕ) (f : Field) (fs : List Field) → 0 < length (lines_back depth (f ∷ fs))
back_some depth f fs = omega (arith, ap length (back_cons depth f fs), length-append (lines_back depth fs) (row_at depth f ∷ []))

pub order_broken : (depth : ℕ) (fs : List Field) (row : Row) → row.number < least_behind fs → IsOutOfOrder (lines_back depth fs) row
order_broken depth [] row less = absurd (omega (arith, less))
order_broken depth (f ∷ []) row less = omega (arith, less)
order_broken depth (f ∷ g ∷ more) row less =
    subst (λ (l : List Row). IsOutOfOrder l row) (sym (back_cons depth f (g ∷ more)))
    (out_more (lines_back depth (g ∷ more)) (row_at depth f ∷ []) row (order_broken depth (g ∷ more) row less))

pub order_kept : (depth : ℕ) (fs : List Field) (row : Row) → least_behind fs ≤ row.number → IsOutOfOrder (lines_back depth fs) row → ⊥
order_kept depth [] row most out = out
order_kept depth (f ∷ []) row most out = omega (arith, most, out)
order_kept depth (f ∷ g ∷ more) row most out =
    order_kept depth (g ∷ more) row most
    (out_less (lines_back depth (g ∷ more)) (row_at depth f ∷ []) row (back_some depth g more)
    (subst (λ (l : List Row). IsOutOfOrder l row) (back_cons depth f (g ∷ more)) out))

-- ---- names

-- The name of a line's field.
abbrev pub row_name : Row → List ℕ
row_name row = row.name

pub in_append : {A : Type 0} (x : A) (xs ys : List A) → IsIn x (xs ++ ys) → IsIn x xs ⊎ IsIn x ys
in_append x [] ys i = inr i
in_append x (y ∷ xs) ys (inl e) = inl (inl e)
in_append x (y ∷ xs) ys (inr i) = elim (in_append x xs ys i) [ inl h ↦ inl (inr h) | inr h ↦ inr h ]

in_front : {A : Type 0} (x : A) (xs ys : List A) → IsIn x xs → IsIn x (xs ++ ys)
in_front x [] ys i = absurd i
in_front x (y ∷ xs) ys (inl e) = inl e
in_front x (y ∷ xs) ys (inr i) = inr (in_front x xs ys i)

in_back : {A : Type 0} (x : A) (xs ys : List A) → IsIn x ys → IsIn x (xs ++ ys)
in_back x [] ys i = i
in_back x (y ∷ xs) ys i = inr (in_back x xs ys i)

names_cons : (depth : ℕ) (f : Field) (fs : List Field) → map row_name (lines_back depth (f ∷ fs)) ≡ map row_name (lines_back depth fs) ++ f.name ∷ []
names_cons depth f fs = ap (map row_name) (back_cons depth f fs) ∙ map-append row_name (lines_back depth fs) (row_at depth f ∷ [])

-- A name of one of the fields is that of a line.
pub named_line : (depth : ℕ) (fs : List Field) (name : List ℕ) → IsIn name (map head_name fs) → IsIn name (map row_name (lines_back depth fs))
named_line depth [] name i = i
named_line depth (f ∷ fs) name (inl e) = subst (IsIn name) (sym (names_cons depth f fs)) (in_back name (map row_name (lines_back depth fs)) (f.name ∷ []) (inl e))
named_line depth (f ∷ fs) name (inr i) = subst (IsIn name) (sym (names_cons depth f fs)) (in_front name (map row_name (lines_back depth fs)) (f.name ∷ []) (named_line depth fs name i))

pub line_named : (depth : ℕ) (fs : List Field) (name : List ℕ) → IsIn name (map row_name (lines_back depth fs)) → IsIn name (map head_name fs)
line_named depth [] name i = i
line_named depth (f ∷ fs) name i = elim (in_append name (map row_name (lines_back depth fs)) (f.name ∷ []) (subst (IsIn name) (names_cons depth f fs) i)) [
  | inl h ↦ inr (line_named depth fs name h)
  | inr h ↦ elim h [ inl e ↦ inl e | inr none ↦ absurd none ]
]

-- A name is found exactly where it is one of these.
pub found_in : (name : List ℕ) (names : List (List ℕ)) → list_any (bytes_eq name) names ≡ true → IsIn name names
found_in name [] found = absurd (cc found)
found_in name (other ∷ names) found = by (bytes_eq name other) refl (found_in name names)
  where
    by : (b : Bool) → bytes_eq name other ≡ b → (list_any (bytes_eq name) names ≡ true → IsIn name names) → IsIn name (other ∷ names)
    by true same later = inl ((bytes_eq-Decides name other).0 same)
    by false apart later = inr (later (sym (ap (λ b. b || list_any (bytes_eq name) names) apart) ∙ found))

pub in_found : (name : List ℕ) (names : List (List ℕ)) → IsIn name names → list_any (bytes_eq name) names ≡ true
in_found name [] i = absurd i
in_found name (other ∷ names) (inl e) = ap (λ b. b || list_any (bytes_eq name) names) ((bytes_eq-Decides name other).1 e)
in_found name (other ∷ names) (inr i) = ap (λ b. bytes_eq name other || b) (in_found name names i) ∙ or_true (bytes_eq name other)
  where
    or_true : (b : Bool) → (b || true) ≡ true
    or_true true = refl
    or_true false = refl

-- ---- a field that may follow

numbers_rise : (name : List ℕ) (number : ℕ) (shape : _) (nodes : Nodes) → AreFields (node name number shape nodes) → number < least_behind (fields (node name number shape nodes))
numbers_rise name number shape no_node sound = omega arith
numbers_rise name number shape (node n m s nodes) sound =
    let first = sound.3.0.0 in
    omega (arith, first, numbers_rise n m s nodes sound.4)

-- A number that no field after it reaches, and a name that none has.
pub may_stand : (nodes : Nodes) (name : List ℕ) (number : ℕ) → AreFields nodes → least_behind (fields nodes) ≤ number → (IsIn name (map head_name (fields nodes)) → ⊥)
    → AllByRecursion (IsFieldBehind name number) (fields nodes)
may_stand no_node name number sound most new = tt
may_stand (node n m s nodes) name number sound most new = (
  (omega (arith, most, numbers_rise n m s nodes sound), λ e. new (inl (sym e))),
  may_stand nodes name number sound.4 (least_after nodes (omega (arith, most, numbers_rise n m s nodes sound)) most) (λ i. new (inr i)),
)
  where
    least_after : (more : Nodes) → m < number → least_behind (fields (node n m s more)) ≤ number → least_behind (fields more) ≤ number
    least_after no_node less limit = omega arith
    least_after (node a b c more) less limit = limit
