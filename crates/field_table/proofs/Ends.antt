-- The ends of fields: which field holds the slot with a number.
use Rattle.std.proofs.Common.{◌≡◌, ◌⊎◌, inl, inr, ℕ, ◌+◌, ◌<◌, ◌≤◌, zero, suc, true, false, List, [], ◌∷◌, length, get_or, refl, sym, ◌∙◌, ap, subst, arith}
use Rattle.std.specs.List.Sorted.{IsPartitionedBy, IsPartitionPoint}
use Rattle.std.proofs.Math.Dec.{leb}
use Rattle.std.proofs.lemmas.Bool.{leb-true, leb-false, le-leb, cases_lt}
use Rattle.bag_model.specs.declared.TheConstants.{FIELDS_MAX}
use Rattle.bag_model.specs.Shapes.{Field, fields, Nodes}
use Rattle.bag_model.specs.Slots.{slots_of, slot_count, starts}
use Rattle.bag_model.proofs.SlotLaws.{slots_list, slots_of-list, starts-zero, starts-bound, starts-all}
use Rattle.field_table.specs.Tables.{capped, ends_after, start_at, Holds}

pub length-ends : (b : ℕ) (fs : List Field) → length (ends_after b fs) ≡ length fs
length-ends b [] = refl
length-ends b (f ∷ fs) = ap suc (length-ends (b + slot_count f.shape) fs)

-- The end of a field is where the next one starts.
pub end_at : (b : ℕ) (fs : List Field) (i d : ℕ) → i < length fs → get_or (ends_after b fs) i d ≡ capped (b + starts fs (suc i))
end_at b [] i d h = absurd (omega (arith, h))
end_at b (f ∷ fs) zero d h = ap capped (omega (arith, starts-zero fs))
end_at b (f ∷ fs) (suc i) d h = end_at (b + slot_count f.shape) fs i d (omega (arith, h)) ∙ ap capped (omega arith)

capped_small : (n : ℕ) → n ≤ FIELDS_MAX → capped n ≡ n
capped_small n h = omega (arith, h)

starts-rise : (fs : List Field) (i j : ℕ) → i ≤ j → starts fs i ≤ starts fs j
starts-rise [] i j h = omega arith
starts-rise (f ∷ fs) zero j h = omega arith
starts-rise (f ∷ fs) (suc i) zero h = absurd (omega (arith, h))
starts-rise (f ∷ fs) (suc i) (suc j) h = omega (arith, starts-rise fs i j (omega (arith, h)))

module _ (nodes : Nodes) (small : length (slots_of nodes) ≤ FIELDS_MAX) where
  total : length (slots_list (fields nodes)) ≤ FIELDS_MAX
  total = subst (λ (l : List _). length l ≤ FIELDS_MAX) (slots_of-list nodes) small

  pub end_is : (i d : ℕ) → i < length (fields nodes) → get_or (ends_after 0 (fields nodes)) i d ≡ starts (fields nodes) (suc i)
  end_is i d h = end_at 0 (fields nodes) i d h ∙ capped_small (0 + starts (fields nodes) (suc i)) (omega (arith, starts-bound (fields nodes) (suc i), total)) ∙ omega arith

  -- Where the ends say that a field starts.
  pub before_is : (i : ℕ) → i ≤ length (fields nodes) → start_at (ends_after 0 (fields nodes)) i ≡ starts (fields nodes) i
  before_is zero h = sym (starts-zero (fields nodes))
  before_is (suc i) h = end_is i 0 (omega (arith, h))

  -- Ends up to a number of a slot come before those beyond it.
  pub ends_part : (slot : ℕ) → IsPartitionedBy (λ e. leb e slot) (ends_after 0 (fields nodes))
  ends_part slot i j d upto within at =
      let inside : j < length (fields nodes) = omega (arith, within, length-ends 0 (fields nodes)) in
      let less : get_or (ends_after 0 (fields nodes)) j d ≤ slot = leb-true (get_or (ends_after 0 (fields nodes)) j d) slot at in
      le-leb (get_or (ends_after 0 (fields nodes)) i d) slot
      (omega (arith, less, end_is i d (omega (arith, upto, inside)), end_is j d inside, starts-rise (fields nodes) (suc i) (suc j) (omega (arith, upto))))

  -- The point between them is the place of the field that holds the slot.
  pub point_holds : (slot place : ℕ) → slot < length (slots_of nodes) → place ≤ length (fields nodes)
      → IsPartitionPoint (λ e. leb e slot ≡ true) (λ e. leb e slot ≡ false) (ends_after 0 (fields nodes)) place → Holds nodes slot place
  point_holds slot place less upto point = by (cases_lt place (length (fields nodes)))
    where
      from_start : (p : ℕ) → p ≡ place → starts (fields nodes) p ≤ slot
      from_start zero is = omega (arith, starts-zero (fields nodes))
      from_start (suc k) is =
          let inside : k < length (fields nodes) = omega (arith, is, upto) in
          let passed : get_or (ends_after 0 (fields nodes)) k 0 ≤ slot = leb-true (get_or (ends_after 0 (fields nodes)) k 0) slot (point.0 k 0 (omega arith) (omega (arith, is))) in
          omega (arith, passed, end_is k 0 inside)

      by : (place < length (fields nodes)) ⊎ (length (fields nodes) ≤ place) → Holds nodes slot place
      by (inr past) = absurd (omega (arith, less, from_start place refl, starts-all (fields nodes) place past, ap length (slots_of-list nodes)))
      by (inl inside) =
          let beyond : slot < get_or (ends_after 0 (fields nodes)) place 0 = leb-false (get_or (ends_after 0 (fields nodes)) place 0) slot (point.1 place 0 (omega arith) (omega (arith, inside, length-ends 0 (fields nodes)))) in
          record { within = inside; from = from_start place refl; upto = omega (arith, beyond, end_is place 0 inside) }

-- All slots end where the last field does.
pub last_end : (fs : List Field) → start_at (ends_after 0 fs) (length fs) ≡ capped (length (slots_list fs))
last_end [] = refl
last_end (f ∷ fs) =
    end_at 0 (f ∷ fs) (length fs) 0 (omega arith) ∙ ap capped (omega (arith, starts-all (f ∷ fs) (suc (length fs)) (omega arith)))
