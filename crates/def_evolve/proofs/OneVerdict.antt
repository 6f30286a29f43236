-- Two tables have one verdict.
use Rattle.std.proofs.Common.{◌≡◌, ◌≢◌, inl, inr, ℕ, ◌+◌, ◌<◌, List, [], ◌∷◌, length, Ordering, Less, Equal, Greater, nat_cmp, refl, sym, ap, ◌∙◌, subst, arith, ◌^◌}
use Rattle.std.specs.Ordering.{on, ordering_reverse}
use Rattle.std.specs.Cmp.{IsTotalOrder}
use Rattle.std.specs.Cmp.Lexicographic.{slice_cmp}
use Rattle.std.specs.FinMap.{IsAntisymmetric, nat_cmp-IsAntisymmetric, slice_cmp-IsAntisymmetric}
use Rattle.std.proofs.lemmas.Cmp.{on_total, lists_total, nat_cmp_total, nat_list_cmp_total}
use Rattle.context_model.specs.Orders.{IsIn}
use Rattle.context_model.proofs.GreedyElements.{All-at, Rises-unique}
use Rattle.bag_model.specs.declared.Pick.{Pick}
use Rattle.bag_model.specs.declared.Pick.TheVariants.{Least, Greatest}
use Rattle.bag_model.specs.Shapes.{Shape, Nodes, Field, Scalar, Set, Map, Bag, no_node, node, fields}
use Rattle.bag_model.specs.Tables.{IsShape, AreFields, IsTable}
use Rattle.def_evolve.specs.declared.verdicts.Change.{Change}
use Rattle.def_evolve.specs.declared.verdicts.Change.TheVariants as changes
use Rattle.def_evolve.specs.declared.verdicts.Part.{Part}
use Rattle.def_evolve.specs.declared.verdicts.Part.TheVariants.{Number, MapValue}
use Rattle.def_evolve.specs.declared.verdicts.Verdict.{Verdict}
use Rattle.def_evolve.specs.declared.verdicts.Verdict.TheVariants as verdicts
use Rattle.def_evolve.specs.Breaks.{part_rank, way_cmp, way_text, StepsTo, LeadsAlong, variant_of, KeysDiffer, KindsDiffer, Differs, IsBreak, IsFirstBreak}
use Rattle.def_evolve.specs.Common.{IsCommonCount}
use Rattle.def_evolve.specs.Verdicts.{IsVerdict}

-- ---- the order of ways

part_exact : IsAntisymmetric (on part_rank nat_cmp)
part_exact (Number m) (Number n) e = let same : m + 1 ≡ n + 1 = nat_cmp-IsAntisymmetric (m + 1) (n + 1) e in ap Number (omega arith)
part_exact (Number m) MapValue e = let same : m + 1 ≡ 0 = nat_cmp-IsAntisymmetric (m + 1) 0 e in absurd (omega arith)
part_exact MapValue (Number n) e = let same : 0 ≡ n + 1 = nat_cmp-IsAntisymmetric 0 (n + 1) e in absurd (omega arith)
part_exact MapValue MapValue e = refl

pub ways_total : IsTotalOrder way_cmp
ways_total = lists_total (on_total part_rank nat_cmp_total)

pub ways_exact : IsAntisymmetric way_cmp
ways_exact = slice_cmp-IsAntisymmetric part_exact

-- Ways none of which comes after the other are one.
one_way : (a b : List Part) → way_cmp a b ≢ Greater → way_cmp b a ≢ Greater → a ≡ b
one_way a b f g = by (way_cmp a b) refl
  where
    by : (r : Ordering) → way_cmp a b ≡ r → a ≡ b
    by Less e = absurd (g (ways_total.antisymm b a ∙ ap ordering_reverse e))
    by Equal e = ways_exact a b e
    by Greater e = absurd (f e)

-- ---- a way leads to one shape

-- Fields with one number are one field.
pub one_field : (nodes : Nodes) (a b : Field) → AreFields nodes → IsIn a (fields nodes) → IsIn b (fields nodes) → a.number ≡ b.number → a ≡ b
one_field no_node a b ok i j e = elim i [ ]
one_field (node name number shape nodes) a b ok (inl s) (inl t) e = s ∙ sym t
one_field (node name number shape nodes) a b ok (inl s) (inr j) e =
    let less : number < b.number = (All-at (λ (other : Field). (number < other.number) × (name ≢ other.name)) (fields nodes) b ok.3 j).0 in
    let own : a.number ≡ number = ap (λ (f : Field). f.number) s in
    absurd (omega arith)
one_field (node name number shape nodes) a b ok (inr i) (inl t) e =
    let less : number < a.number = (All-at (λ (other : Field). (number < other.number) × (name ≢ other.name)) (fields nodes) a ok.3 i).0 in
    let own : b.number ≡ number = ap (λ (f : Field). f.number) t in
    absurd (omega arith)
one_field (node name number shape nodes) a b ok (inr i) (inr j) e = one_field nodes a b ok.4 i j e

-- What a field of a bag is.
pub field_ok : (nodes : Nodes) (a : Field) → AreFields nodes → IsIn a (fields nodes) → (a.number < 2 ^ 16) × IsShape a.shape
field_ok no_node a ok i = elim i [ ]
field_ok (node name number shape nodes) a ok (inl s) = subst (λ (f : Field). (f.number < 2 ^ 16) × IsShape f.shape) (sym s) (ok.1, ok.2)
field_ok (node name number shape nodes) a ok (inr i) = field_ok nodes a ok.4 i

one_step : (own : Shape) (part : Part) (a b : Shape) → IsShape own → StepsTo own part a → StepsTo own part b → (a ≡ b) × IsShape a
one_step (Bag nodes) (Number number) a b ok s t =
    let same : s.0 ≡ t.0 = one_field nodes s.0 t.0 ok s.1 t.1 (s.2 ∙ sym t.2) in
    (sym s.3 ∙ ap (λ (f : Field). f.shape) same ∙ t.3, subst IsShape s.3 (field_ok nodes s.0 ok s.1).1)
one_step (Map key shape) MapValue a b ok s t = (sym s ∙ t, subst IsShape s ok.1)
one_step own part a b ok s t = absurd (search (s, t))

one_shape : (own : Shape) (way : List Part) (a b : Shape) → IsShape own → LeadsAlong own way a → LeadsAlong own way b → a ≡ b
one_shape own [] a b ok s t = sym s ∙ t
one_shape own (part ∷ way) a b ok s t =
    let step = one_step own part s.0 t.0 ok s.1 t.1 in
    one_shape s.0 way a b step.1 s.2 (subst (λ (x : Shape). LeadsAlong x way b) (sym step.0) t.2)

-- ---- one reason

keys_alike : (a b : Shape) → KeysDiffer a b → variant_of a ≡ variant_of b
keys_alike (Map key shape) (Map other more) d = refl
keys_alike a b d = absurd (search d)

kinds_alike : (a b : Shape) → KindsDiffer a b → variant_of a ≡ variant_of b
kinds_alike (Scalar pick kind) (Scalar own other) d = ap (λ p. variant_of (Scalar p kind)) (sym d.0) ∙ same own
  where
    same : (own : Pick) → variant_of (Scalar own kind) ≡ variant_of (Scalar own other)
    same Least = refl
    same Greatest = refl
kinds_alike (Set kind) (Set other) d = refl
kinds_alike a b d = absurd (search d)

not_both : (a b : Shape) → KeysDiffer a b → KindsDiffer a b → ⊥
not_both (Map key shape) (Map other more) d e = e
not_both a b d e = search (d, e)

pub one_change : (a b : Shape) (x y : Change) → Differs x a b → Differs y a b → x ≡ y
one_change a b changes.Shape changes.Shape d e = refl
one_change a b changes.Key changes.Key d e = refl
one_change a b changes.Kind changes.Kind d e = refl
one_change a b changes.Shape changes.Key d e = absurd (d (keys_alike a b e))
one_change a b changes.Shape changes.Kind d e = absurd (d (kinds_alike a b e))
one_change a b changes.Key changes.Shape d e = absurd (e (keys_alike a b d))
one_change a b changes.Kind changes.Shape d e = absurd (e (kinds_alike a b d))
one_change a b changes.Key changes.Kind d e = absurd (not_both a b d e)
one_change a b changes.Kind changes.Key d e = absurd (not_both a b e d)

-- ---- one verdict

pub one_count : (old new : Shape) (m n : ℕ) → IsCommonCount old new m → IsCommonCount old new n → m ≡ n
one_count old new m n s t =
    let same : s.0 ≡ t.0 = Rises-unique (slice_cmp nat_cmp) nat_list_cmp_total s.0 t.0 s.1.rises t.1.rises (λ k. ((λ i. (t.1.each k).1 ((s.1.each k).0 i)), λ i. (s.1.each k).1 ((t.1.each k).0 i))) in
    s.2 ∙ ap length same ∙ sym t.2

one_break : (old new : Shape) (a b : List Part) (x y : Change) → IsShape old → IsShape new → IsFirstBreak old new a x → IsFirstBreak old new b y → (a ≡ b) × (x ≡ y)
one_break old new a b x y ok also s t = (way, one_change s.breaks.0 s.breaks.1 x y s.breaks.4 other)
  where
    way : a ≡ b
    way = one_way a b (s.first b y t.breaks) (t.first a x s.breaks)

    there : IsBreak old new a y
    there = subst (λ w. IsBreak old new w y) (sym way) t.breaks

    other : Differs y s.breaks.0 s.breaks.1
    other =
        let one : there.0 ≡ s.breaks.0 = one_shape old a there.0 s.breaks.0 ok there.2 s.breaks.2 in
        let two : there.1 ≡ s.breaks.1 = one_shape new a there.1 s.breaks.1 also there.3 s.breaks.3 in
        subst (λ (z : Shape). Differs y s.breaks.0 z) two (subst (λ (z : Shape). Differs y z there.1) one there.4)

pub one_verdict : (old new : Nodes) (a b : Verdict) → IsTable old → IsTable new → IsVerdict old new a → IsVerdict old new b → a ≡ b
one_verdict old new (verdicts.Fits m) (verdicts.Fits n) p q s t = ap verdicts.Fits (one_count (Bag old) (Bag new) m n s.1 t.1)
one_verdict old new (verdicts.Fits m) (verdicts.Breaks path change) p q s t = absurd (s.0 t.0 change t.1.breaks)
one_verdict old new (verdicts.Breaks path change) (verdicts.Fits n) p q s t = absurd (t.0 s.0 change s.1.breaks)
one_verdict old new (verdicts.Breaks path change) (verdicts.Breaks other its) p q s t =
    let one = one_break (Bag old) (Bag new) s.0 t.0 change its p.well_formed q.well_formed s.1 t.1 in
    let text : path ≡ other = s.2 ∙ ap way_text one.0 ∙ sym t.2 in
    λ i. verdicts.Breaks (text i) (one.1 i)
