-- Codes of values, by which a proof tells the values of two bags, or the entries of two maps,
-- apart. They say nothing of a bag.
use Rattle.std.specs.Prelude.{◌≡◌, ℕ, ℤ, Bool, List, ◌⊎◌, Option}
use Rattle.std.specs.Coded.{Coded, code_by, coded⊎, coded×, coded_ℕ, coded_ℤ, coded_bool, coded_list, coded_option}
use Rattle.std.proofs.Common.{refl, inl, inr, ap}
use Rattle.bag_model.specs.Scalars.{Plain, Truth, Signed, Unsigned, Text, Octets, ScalarValue}
use Rattle.bag_model.specs.Values.{Value, Entries, Values, Taint, Scalar, Set, Counter, Map, Bag, no_entry, entry, no_value, value}
use Rattle.bag_model.specs.ShapeCode.{pick_code, kind_code, name_code, left, right, stored_number}
use base.Stored.{Gv, gnil, gnum, gcons}

-- A plain value as one of five parts, by its variant.
abbrev pub plain_parts : Plain → Bool ⊎ (ℤ ⊎ (ℕ ⊎ (List ℕ ⊎ List ℕ)))
plain_parts (Truth b) = inl b
plain_parts (Signed z) = inr (inl z)
plain_parts (Unsigned n) = inr (inr (inl n))
plain_parts (Text bytes) = inr (inr (inr (inl bytes)))
plain_parts (Octets bytes) = inr (inr (inr (inr bytes)))

-- The plain value that has this part.
abbrev pub plain_back : Bool ⊎ (ℤ ⊎ (ℕ ⊎ (List ℕ ⊎ List ℕ))) → Plain
plain_back (inl b) = Truth b
plain_back (inr (inl z)) = Signed z
plain_back (inr (inr (inl n))) = Unsigned n
plain_back (inr (inr (inr (inl bytes)))) = Text bytes
plain_back (inr (inr (inr (inr bytes)))) = Octets bytes

-- A plain value comes back from its part.
pub plain_undone : (v : Plain) → plain_back (plain_parts v) ≡ v
plain_undone (Truth b) = refl
plain_undone (Signed z) = refl
plain_undone (Unsigned n) = refl
plain_undone (Text bytes) = refl
plain_undone (Octets bytes) = refl

-- The code of plain values, by their parts.
abbrev pub plain_code : Coded Plain
plain_code =
    code_by (Bool ⊎ (ℤ ⊎ (ℕ ⊎ (List ℕ ⊎ List ℕ))))
    (coded⊎ coded_bool (coded⊎ coded_ℤ (coded⊎ coded_ℕ (coded⊎ name_code name_code))))
    plain_parts plain_back plain_undone

-- The plain value or the plain values that a scalar has.
abbrev pub scalar_parts : ScalarValue → Plain ⊎ List Plain
scalar_parts (ScalarValue.One v) = inl v
scalar_parts (ScalarValue.Packed vs) = inr vs

-- The scalar that has this plain value or these plain values.
abbrev pub scalar_back : Plain ⊎ List Plain → ScalarValue
scalar_back (inl v) = ScalarValue.One v
scalar_back (inr vs) = ScalarValue.Packed vs

-- A scalar comes back from its plain values.
pub scalar_undone : (v : ScalarValue) → scalar_back (scalar_parts v) ≡ v
scalar_undone (ScalarValue.One v) = refl
scalar_undone (ScalarValue.Packed vs) = refl

-- The code of scalars, by their plain values.
abbrev pub scalar_code : Coded ScalarValue
scalar_code =
    code_by (Plain ⊎ List Plain) (coded⊎ plain_code (coded_list plain_code))
    scalar_parts scalar_back scalar_undone

-- The code of a scalar that may be absent.
abbrev pub option_code : Coded (Option ScalarValue)
option_code = coded_option scalar_code

-- The code of lists of scalars.
abbrev pub scalars_code : Coded (List ScalarValue)
scalars_code = coded_list scalar_code

-- The code of a counter's writers with their counts.
abbrev pub counts_code : Coded (List (List ℕ × ℕ))
counts_code = coded_list (coded× name_code coded_ℕ)

abbrev mutual
  -- A value as a tree of numbers, by which a proof tells values apart.
  pub value_gv : Value → Gv
  value_gv (Taint on) = gcons (gnum 0) (coded_bool.code on)
  value_gv (Scalar pick v) = gcons (gnum 1) (gcons (pick_code.code pick) (option_code.code v))
  value_gv (Set kind vs) = gcons (gnum 2) (gcons (kind_code.code kind) (scalars_code.code vs))
  value_gv (Counter counts) = gcons (gnum 3) (counts_code.code counts)
  value_gv (Map es) = gcons (gnum 4) (entries_gv es)
  value_gv (Bag vs) = gcons (gnum 5) (values_gv vs)

  -- The entries of a map as a tree of numbers, by which a proof tells maps apart.
  pub entries_gv : Entries → Gv
  entries_gv no_entry = gnil
  entries_gv (entry key v es) = gcons (scalar_code.code key) (gcons (value_gv v) (entries_gv es))

  -- The values of a bag's fields as a tree of numbers, by which a proof tells bags apart.
  pub values_gv : Values → Gv
  values_gv no_value = gnil
  values_gv (value v vs) = gcons (value_gv v) (values_gv vs)

mutual
  -- Values with equal trees are equal.
  pub value_inj : (x y : Value) → value_gv x ≡ value_gv y → x ≡ y
  value_inj (Taint a) (Taint b) p = ap Taint (coded_bool.inj a b (ap right p))
  value_inj (Taint a) y p = absurd (cc (ap (λ g. stored_number (left g)) p))
  value_inj (Scalar s a) (Scalar t b) p = λ i.
      Scalar (pick_code.inj s t (ap (λ g. left (right g)) p) i)
      (option_code.inj a b (ap (λ g. right (right g)) p) i)
  value_inj (Scalar s a) y p = absurd (cc (ap (λ g. stored_number (left g)) p))
  value_inj (Set k a) (Set l b) p = λ i.
      Set (kind_code.inj k l (ap (λ g. left (right g)) p) i)
      (scalars_code.inj a b (ap (λ g. right (right g)) p) i)
  value_inj (Set k a) y p = absurd (cc (ap (λ g. stored_number (left g)) p))
  value_inj (Counter a) (Counter b) p = ap Counter (counts_code.inj a b (ap right p))
  value_inj (Counter a) y p = absurd (cc (ap (λ g. stored_number (left g)) p))
  value_inj (Map a) (Map b) p = ap Map (entries_inj a b (ap right p))
  value_inj (Map a) y p = absurd (cc (ap (λ g. stored_number (left g)) p))
  value_inj (Bag a) (Bag b) p = ap Bag (values_inj a b (ap right p))
  value_inj (Bag a) y p = absurd (cc (ap (λ g. stored_number (left g)) p))

  -- Maps whose entries have equal trees are equal.
  pub entries_inj : (x y : Entries) → entries_gv x ≡ entries_gv y → x ≡ y
  entries_inj no_entry no_entry p = refl
  entries_inj no_entry (entry l w fs) p = absurd (cc p)
  entries_inj (entry k v es) no_entry p = absurd (cc p)
  entries_inj (entry k v es) (entry l w fs) p = λ i.
      entry (scalar_code.inj k l (ap left p) i) (value_inj v w (ap (λ g. left (right g)) p) i)
      (entries_inj es fs (ap (λ g. right (right g)) p) i)

  -- Bags whose values have equal trees are equal.
  pub values_inj : (x y : Values) → values_gv x ≡ values_gv y → x ≡ y
  values_inj no_value no_value p = refl
  values_inj no_value (value w ws) p = absurd (cc p)
  values_inj (value v vs) no_value p = absurd (cc p)
  values_inj (value v vs) (value w ws) p =
      λ i. value (value_inj v w (ap left p) i) (values_inj vs ws (ap right p) i)

-- The code of values, by their trees.
abbrev pub value_code : Coded Value
value_code = record { code = value_gv; inj = value_inj }

-- The code of a map's entries, by their trees.
abbrev pub entries_code : Coded Entries
entries_code = record { code = entries_gv; inj = entries_inj }

-- The code of the values of a bag's fields, by their trees.
abbrev pub values_code : Coded Values
values_code = record { code = values_gv; inj = values_inj }
