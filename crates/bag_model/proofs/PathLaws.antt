-- Name paths: where a field is that is reached through bags, and how a path tells its names.
use Rattle.std.proofs.Common.{◌≡◌, inl, inr, ℕ, ◌+◌, ◌<◌, ◌≤◌, zero, suc, Bool, true, false, ◌||◌, ◌&&◌, ◌==◌, List, [], ◌∷◌, ◌++◌, length, map, Some, refl, sym, ◌∙◌, ap, subst, arith}
use Rattle.std.specs.Prelude.{◌≢◌}
use Rattle.std.specs.Char.{is_ascii_digit}
use Rattle.std.specs.List.{AllByRecursion, slice_get, list_any, list_all}
use Rattle.std.proofs.lemmas.Bool.{eqb-true}
use Rattle.bag_model.specs.Shapes.{Shape, Nodes, Field, fields, Taint, Scalar, Set, Counter, Map, Bag, no_node, node}
use Rattle.std.proofs.lemmas.List.{length-append, length-map}
use Rattle.bag_model.specs.Slots.{slots_of, slots_in, within, slot_count, starts, IsWithin, IsReached}
use Rattle.bag_model.specs.Tables.{IsShape, AreFields}
use Rattle.bag_model.specs.Words.{is_letter, is_word, is_name, HasNoDot}

-- ---- the field at a place

-- What a field's shape reaches is reached after the slots of the fields before it.
pub reached_at : (nodes : Nodes) (i : ℕ) (f : Field) (names : List (List ℕ)) (b : ℕ) (shape : Shape) → slice_get (fields nodes) i ≡ Some f → IsWithin f.shape names b shape → IsReached nodes f.name names (starts (fields nodes) i + b) shape
reached_at no_node i f names b shape at h = absurd (cc at)
reached_at (node name number own nodes) zero f names b shape at h =
    let same : record { name = name; number = number; shape = own } ≡ f = cc at in
    inl (sym (ap (λ (g : Field). g.name) same), subst (λ (n : ℕ). IsWithin own names n shape) (omega arith) (subst (λ (g : Field). IsWithin g.shape names b shape) (sym same) h))
reached_at (node name number own nodes) (suc i) f names b shape at h = inr (starts (fields nodes) i + b, omega arith, reached_at nodes i f names b shape at h)

-- What is reached is reached by the field at a place.
pub record IsReachedAt (nodes : Nodes) (name : List ℕ) (names : List (List ℕ)) (before : ℕ) (shape : Shape) : Type 0 where
  pub place : ℕ
  pub field : Field
  pub inside : ℕ
  pub at : slice_get (fields nodes) place ≡ Some field
  pub named : field.name ≡ name
  pub counted : before ≡ starts (fields nodes) place + inside
  pub within : IsWithin field.shape names inside shape

pub reached_from : (nodes : Nodes) (name : List ℕ) (names : List (List ℕ)) (before : ℕ) (shape : Shape) → IsReached nodes name names before shape → IsReachedAt nodes name names before shape
reached_from no_node name names before shape h = absurd h
reached_from (node own number kind nodes) name names before shape (inl (is, h)) =
    record { place = 0; field = record { name = own; number = number; shape = kind }; inside = before; at = refl; named = sym is; counted = omega arith; within = h }
reached_from (node own number kind nodes) name names before shape (inr (behind, is, h)) =
    let r = reached_from nodes name names behind shape h in
    record { place = suc r.place; field = r.field; inside = r.inside; at = r.at; named = r.named; counted = omega (arith, is, r.counted); within = r.within }

-- ---- fields of a bag

pub is_field : (nodes : Nodes) (i : ℕ) (f : Field) → AreFields nodes → slice_get (fields nodes) i ≡ Some f → (is_name f.name ≡ true) × IsShape f.shape
is_field no_node i f h at = absurd (cc at)
is_field (node name number own nodes) zero f h at =
    let same : record { name = name; number = number; shape = own } ≡ f = cc at in
    subst (λ (g : Field). (is_name g.name ≡ true) × IsShape g.shape) same (h.0, h.2)
is_field (node name number own nodes) (suc i) f h at = is_field nodes i f h.4 at

pub all_there : (P : Field → Type 0) (fs : List Field) (i : ℕ) (f : Field) → AllByRecursion P fs → slice_get fs i ≡ Some f → P f
all_there P [] i f h at = absurd (cc at)
all_there P (g ∷ gs) zero f h at = subst P (cc at) h.0
all_there P (g ∷ gs) (suc i) f h at = all_there P gs i f h.1 at

-- Fields with one name are at one place.
pub one_place : (nodes : Nodes) (i j : ℕ) (f g : Field) → AreFields nodes → slice_get (fields nodes) i ≡ Some f → slice_get (fields nodes) j ≡ Some g → f.name ≡ g.name → i ≡ j
one_place no_node i j f g h at also same = absurd (cc at)
one_place (node name number own nodes) zero zero f g h at also same = refl
one_place (node name number own nodes) zero (suc j) f g h at also same =
    let first : name ≡ f.name = ap (λ (k : Field). k.name) (let e : record { name = name; number = number; shape = own } ≡ f = cc at in e) in
    absurd ((all_there (λ (other : Field). (number < other.number) × (name ≢ other.name)) (fields nodes) j g h.3 also).1 (first ∙ same))
one_place (node name number own nodes) (suc i) zero f g h at also same =
    let first : name ≡ g.name = ap (λ (k : Field). k.name) (let e : record { name = name; number = number; shape = own } ≡ g = cc also in e) in
    absurd ((all_there (λ (other : Field). (number < other.number) × (name ≢ other.name)) (fields nodes) i f h.3 at).1 (first ∙ sym same))
one_place (node name number own nodes) (suc i) (suc j) f g h at also same = ap suc (one_place nodes i j f g h.4 at also same)

-- ---- dots

abbrev pub is_dot : ℕ → Bool
is_dot byte = byte == 46

or_false : (a b : Bool) → a ≡ false → b ≡ false → (a || b) ≡ false
or_false false b p q = q
or_false true b p q = absurd (cc p)

or_left : (a b : Bool) → (a || b) ≡ false → a ≡ false
or_left false b p = refl
or_left true b p = p

pub or_right : (a b : Bool) → (a || b) ≡ false → b ≡ false
or_right false b p = p
or_right true b p = absurd (cc p)

and_left : (a b : Bool) → (a && b) ≡ true → a ≡ true
and_left true b p = refl
and_left false b p = p

and_right : (a b : Bool) → (a && b) ≡ true → b ≡ true
and_right true b p = p
and_right false b p = absurd (cc p)

word_byte : (byte : ℕ) → (is_letter byte || is_ascii_digit byte) ≡ true → is_dot byte ≡ false
word_byte byte h = by (byte == 46) refl
  where
    by : (b : Bool) → (byte == 46) ≡ b → (byte == 46) ≡ false
    by false e = e
    by true e = absurd (let P : ℕ → Type 0 = λ n. (is_letter n || is_ascii_digit n) ≡ true in let bad : false ≡ true = subst P (eqb-true byte 46 e) h in cc bad)

word_bytes : (bytes : List ℕ) → list_all (λ other. is_letter other || is_ascii_digit other) bytes ≡ true → HasNoDot bytes
word_bytes [] h = refl
word_bytes (b ∷ bs) h =
    or_false (is_dot b) (list_any is_dot bs) (word_byte b (and_left (is_letter b || is_ascii_digit b) (list_all (λ other. is_letter other || is_ascii_digit other) bs) h))
    (word_bytes bs (and_right (is_letter b || is_ascii_digit b) (list_all (λ other. is_letter other || is_ascii_digit other) bs) h))

letter_or : (a b : Bool) → a ≡ true → (a || b) ≡ true
letter_or true b h = refl
letter_or false b h = absurd (cc h)

word_no_dot : (bytes : List ℕ) → is_word bytes ≡ true → HasNoDot bytes
word_no_dot [] h = refl
word_no_dot (b ∷ bs) h =
    or_false (is_dot b) (list_any is_dot bs) (word_byte b (letter_or (is_letter b) (is_ascii_digit b) (and_left (is_letter b) (list_all (λ other. is_letter other || is_ascii_digit other) bs) h)))
    (word_bytes bs (and_right (is_letter b) (list_all (λ other. is_letter other || is_ascii_digit other) bs) h))

-- A name has no dot.
pub name_no_dot : (bytes : List ℕ) → is_name bytes ≡ true → HasNoDot bytes
name_no_dot bytes h = word_no_dot bytes (and_left (is_word bytes) _ h)

-- A text without a dot has none before something.
pub dot_there : (a c s : List ℕ) → HasNoDot a → a ≡ c ++ 46 ∷ s → ⊥
dot_there [] [] s h is = cc is
dot_there [] (y ∷ c) s h is = cc is
dot_there (x ∷ a) [] s h is =
    let first : x ≡ 46 = cc is in
    let no : is_dot x ≡ false = or_left (is_dot x) (list_any is_dot a) h in
    let bad : true ≡ false = subst (λ (n : ℕ). is_dot n ≡ false) first no in cc bad
dot_there (x ∷ a) (y ∷ c) s h is =
    let rest : a ≡ c ++ 46 ∷ s = cc is in
    dot_there a c s (or_right (is_dot x) (list_any is_dot a) h) rest

-- What is before the first dot and after it is determined.
pub one_split : (a c r s : List ℕ) → HasNoDot a → HasNoDot c → a ++ 46 ∷ r ≡ c ++ 46 ∷ s → (a ≡ c) × (r ≡ s)
one_split [] [] r s h k is = (refl, cc is)
one_split [] (y ∷ c) r s h k is =
    let first : 46 ≡ y = cc is in
    let no : is_dot y ≡ false = or_left (is_dot y) (list_any is_dot c) k in
    absurd (let bad : true ≡ false = subst (λ (n : ℕ). is_dot n ≡ false) (sym first) no in cc bad)
one_split (x ∷ a) [] r s h k is =
    let first : x ≡ 46 = cc is in
    let no : is_dot x ≡ false = or_left (is_dot x) (list_any is_dot a) h in
    absurd (let bad : true ≡ false = subst (λ (n : ℕ). is_dot n ≡ false) first no in cc bad)
one_split (x ∷ a) (y ∷ c) r s h k is =
    let first : x ≡ y = cc is in
    let rest : a ++ 46 ∷ r ≡ c ++ 46 ∷ s = cc is in
    let both = one_split a c r s (or_right (is_dot x) (list_any is_dot a) h) (or_right (is_dot y) (list_any is_dot c) k) rest in
    ((λ i. first i ∷ both.0 i), both.1)

-- What is reached has its slots among those of the bag.
mutual
  pub reached_bound : (nodes : Nodes) (name : List ℕ) (names : List (List ℕ)) (before : ℕ) (shape : Shape) → IsReached nodes name names before shape → before + slot_count shape ≤ length (slots_of nodes)
  reached_bound no_node name names before shape h = absurd h
  reached_bound (node field number own nodes) name names before shape (inl (is, h)) =
      omega (arith, within_bound own names before shape h, length-append (map (within field number) (slots_in own)) (slots_of nodes), length-map (slots_in own) (within field number))
  reached_bound (node field number own nodes) name names before shape (inr (behind, is, h)) =
      omega (arith, is, reached_bound nodes name names behind shape h, length-append (map (within field number) (slots_in own)) (slots_of nodes), length-map (slots_in own) (within field number))

  pub within_bound : (own : Shape) (names : List (List ℕ)) (before : ℕ) (shape : Shape) → IsWithin own names before shape → before + slot_count shape ≤ slot_count own
  within_bound own [] before shape h = omega (arith, h.0, ap slot_count h.1)
  within_bound (Bag nodes) (name ∷ names) before shape h = reached_bound nodes name names before shape h
  within_bound Taint (name ∷ names) before shape h = absurd h
  within_bound (Scalar pick kind) (name ∷ names) before shape h = absurd h
  within_bound (Set kind) (name ∷ names) before shape h = absurd h
  within_bound Counter (name ∷ names) before shape h = absurd h
  within_bound (Map key value) (name ∷ names) before shape h = absurd h
