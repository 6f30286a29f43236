-- Small tables, computed from the definitions: what may become what, the order and the texts of ways, a break, and values that
-- agree.
use Rattle.std.proofs.Common.{◌≡◌, inl, inr, ℕ, [], ◌∷◌, ◌++◌, Some, None, Less, refl, sym, ap, ◌∙◌, subst, codes, arith}
use Rattle.std.specs.Fmt.{decimal}
use Rattle.context_model.specs.Orders.{IsIn}
use Rattle.bag_model.specs.declared.Pick.TheVariants.{Least, Greatest}
use Rattle.bag_model.specs.declared.words.ScalarWord.TheVariants.{Bool as Boolean, Int32, Int64, Sint64, Uint32, Uint64, Fixed32, Fixed64, Str}
use Rattle.bag_model.specs.Scalars as scalars
use Rattle.bag_model.specs.Scalars.{Unsigned}
use Rattle.bag_model.specs.Shapes.{Shape, Nodes, Field, fields, Scalar, Set, Counter, Map, Bag, no_node, node}
use Rattle.bag_model.specs.Values.{Value, Scalar, Set, Map, no_entry, no_value, value}
use Rattle.def_evolve.specs.declared.verdicts.Change.TheVariants as changes
use Rattle.def_evolve.specs.declared.verdicts.Part.TheVariants.{Number, MapValue}
use Rattle.def_evolve.specs.declared.verdicts.Verdict.TheVariants as verdicts
use Rattle.def_evolve.specs.Widening.{Widens}
use Rattle.def_evolve.specs.Breaks.{way_cmp, way_text, Fits, IsBreak, IsFitting}
use Rattle.def_evolve.specs.Agreement.{HasField, elements_of, Agree, AgreeEach}
use Rattle.def_evolve.specs.Verdicts.{verdict_text}
use Rattle.def_evolve.proofs.BreakSteps.{fits_from}
use Rattle.def_evolve.proofs.Fitting.{FieldsFit}

abbrev one : scalars.Word → scalars.ScalarKind
one word = scalars.ScalarKind.One word

abbrev least : scalars.Word → Shape
least word = Scalar Least (one word)

-- ---- kinds

signed_row : Widens (one Int32) (one Sint64)
signed_row = inr (inr (inr (inl refl)))

narrow_row : Widens (one Uint64) (one Uint32) → ⊥
narrow_row w = elim w [ inl e ↦ cc e | inr none ↦ none ]

mixed_row : Widens (one Uint32) (one Int64) → ⊥
mixed_row w = elim w [ inl e ↦ cc e | inr more ↦ elim more [ inl e ↦ cc e | inr none ↦ none ] ]

fixed_row : Widens (one Fixed32) (one Fixed64) → ⊥
fixed_row w = elim w [ inl e ↦ cc e | inr none ↦ none ]

struct_row : Widens (scalars.ScalarKind.Packed (Int32 ∷ Str ∷ [])) (scalars.ScalarKind.Packed (Sint64 ∷ Str ∷ []))
struct_row = (inr (inr (inr (inl refl))), (inl refl, tt))

longer_row : Widens (scalars.ScalarKind.Packed (Int32 ∷ [])) (scalars.ScalarKind.Packed (Int32 ∷ Str ∷ [])) → ⊥
longer_row w = w.1

-- ---- ways

numbers_row : way_cmp (Number 9 ∷ []) (Number 10 ∷ []) ≡ Less
numbers_row = refl

inside_row : way_cmp (Number 0 ∷ []) (Number 0 ∷ Number 9 ∷ []) ≡ Less
inside_row = refl

next_row : way_cmp (Number 0 ∷ Number 9 ∷ []) (Number 1 ∷ []) ≡ Less
next_row = refl

value_row : way_cmp (Number 4 ∷ []) (Number 4 ∷ MapValue ∷ []) ≡ Less
value_row = refl

text_row : way_text (Number 4 ∷ MapValue ∷ Number 2 ∷ []) ≡ decimal 4 ++ (codes ".*." ++ decimal 2)
text_row = refl

fits_text_row : verdict_text (verdicts.Fits 5) ≡ codes "ok " ++ decimal 5
fits_text_row = refl

breaks_text_row : verdict_text (verdicts.Breaks (codes "4.*") changes.Shape) ≡ codes "breaks 4.* Shape"
breaks_text_row = refl

-- ---- tables

-- A number, tags, and loads by name.
abbrev before : Nodes
before = node (codes "id") 0 (least Fixed32) (node (codes "tags") 1 (Set (one Str)) (node (codes "load") 4 (Map (one Str) (least Uint32)) no_node))

-- The tags have another name, the loads are gone, and a flag is there.
abbrev renamed : Nodes
renamed = node (codes "id") 0 (least Fixed32) (node (codes "labels") 1 (Set (one Str)) (node (codes "x") 5 (least Boolean) no_node))

-- The loads are counters.
abbrev counted : Nodes
counted = node (codes "load") 4 (Map (one Str) Counter) no_node

-- A field fits each of some that has its number.
abbrev FitsThere : ℕ → Shape → Nodes → Type 0
FitsThere number shape no_node = Unit {0}
FitsThere number shape (node name own other others) = (own ≡ number → Fits shape other) × FitsThere number shape others

abbrev EachFits : Nodes → Nodes → Type 0
EachFits no_node others = Unit {0}
EachFits (node name number shape nodes) others = FitsThere number shape others × EachFits nodes others

one_fits : (number : ℕ) (shape : Shape) (others : Nodes) (b : Field) → FitsThere number shape others → IsIn b (fields others) → b.number ≡ number → Fits shape b.shape
one_fits number shape no_node b f j e = elim j [ ]
one_fits number shape (node name own other others) b f (inl s) e =
    let same : own ≡ number = sym (ap (λ (g : Field). g.number) s) ∙ e in
    subst (λ (g : Field). Fits shape g.shape) (sym s) (f.0 same)
one_fits number shape (node name own other others) b f (inr j) e = one_fits number shape others b f.1 j e

each_fits : (nodes others : Nodes) → EachFits nodes others → FieldsFit nodes others
each_fits no_node others f a b i j e = elim i [ ]
each_fits (node name number shape nodes) others f a b (inl s) j e =
    subst (λ (g : Field). Fits g.shape b.shape) (sym s) (one_fits number shape others b f.0 j (e ∙ ap (λ (g : Field). g.number) s))
each_fits (node name number shape nodes) others f a b (inr i) j e = each_fits nodes others f.1 a b i j e

renamed_fits_row : IsFitting before renamed
renamed_fits_row = fits_from (Bag before) (Bag renamed) (each_fits before renamed (
  ((λ e. fits_from (least Fixed32) (least Fixed32) (refl, inl refl)), ((λ e. absurd (omega (arith, e))), ((λ e. absurd (omega (arith, e))), tt))),
  (
    ((λ e. absurd (omega (arith, e))), ((λ e. fits_from (Set (one Str)) (Set (one Str)) (inl refl)), ((λ e. absurd (omega (arith, e))), tt))),
    (((λ e. absurd (omega (arith, e))), ((λ e. absurd (omega (arith, e))), ((λ e. absurd (omega (arith, e))), tt))), tt),
  ),
))

counted_break_row : IsBreak (Bag before) (Bag counted) (Number 4 ∷ MapValue ∷ []) changes.Shape
counted_break_row = (
  least Uint32,
  Counter,
  (Map (one Str) (least Uint32), (record { name = codes "load"; number = 4; shape = Map (one Str) (least Uint32) }, inr (inr (inl refl)), refl, refl), (least Uint32, refl, refl)),
  (Map (one Str) Counter, (record { name = codes "load"; number = 4; shape = Map (one Str) Counter }, inl refl, refl, refl), (Counter, refl, refl)),
  λ e. cc e,
)

-- A greatest doesn't become a least.
greatest_break_row : IsBreak (Scalar Greatest (one Uint32)) (least Uint32) [] changes.Shape
greatest_break_row = (Scalar Greatest (one Uint32), least Uint32, refl, refl, λ e. cc e)

-- ---- values

the : ℕ → scalars.ScalarValue
the n = scalars.ScalarValue.One (Unsigned n)

abbrev tags : Value
tags = Set (one Str) (scalars.ScalarValue.One (scalars.Plain.Text (codes "a")) ∷ [])

-- The number and the tags are what they were; the loads are not looked at, nor is the flag.
renamed_agree_row : AgreeEach before renamed
    (value (Scalar Least (Some (the 7))) (value tags (value (Map no_entry) no_value)))
    (value (Scalar Least (Some (the 7))) (value tags (value (Scalar Least None) no_value)))
renamed_agree_row = (number, (labels, (loads, tt)))
  where
    number : (other : Shape) (w : Value) → HasField renamed (value (Scalar Least (Some (the 7))) (value tags (value (Scalar Least None) no_value))) 0 other w → Scalar Least (Some (the 7)) ≡ w
    number other w (inl h) = h.2
    number other w (inr (inl h)) = absurd (omega (arith, h.0))
    number other w (inr (inr (inl h))) = absurd (omega (arith, h.0))
    number other w (inr (inr (inr none))) = absurd none

    labels : (other : Shape) (w : Value) → HasField renamed (value (Scalar Least (Some (the 7))) (value tags (value (Scalar Least None) no_value))) 1 other w → elements_of tags ≡ elements_of w
    labels other w (inl h) = absurd (omega (arith, h.0))
    labels other w (inr (inl h)) = ap elements_of h.2
    labels other w (inr (inr (inl h))) = absurd (omega (arith, h.0))
    labels other w (inr (inr (inr none))) = absurd none

    loads : (other : Shape) (w : Value) → HasField renamed (value (Scalar Least (Some (the 7))) (value tags (value (Scalar Least None) no_value))) 4 other w
        → Agree (Map (one Str) (least Uint32)) other (Map no_entry) w
    loads other w (inl h) = absurd (omega (arith, h.0))
    loads other w (inr (inl h)) = absurd (omega (arith, h.0))
    loads other w (inr (inr (inl h))) = absurd (omega (arith, h.0))
    loads other w (inr (inr (inr none))) = absurd none
