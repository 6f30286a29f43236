-- Writes to fields of bags.
use Rattle.std.proofs.Common.{◌≡◌, ◌⊎◌, ℕ, zero, suc, ◌+◌, ◌-◌, ◌<◌, ◌≤◌, ◌&&◌, ◌||◌, Bool, true, false, List, [], ◌∷◌, ◌++◌, map, take, drop, length, codes, Option, Some, inl, inr, refl, sym, ap, ◌∙◌, subst, append_assoc, add-one, arith, Bor}
use Rattle.std.specs.Prelude.{◌≢◌}
use Rattle.std.specs.List.{slice_get, AllByRecursion, list_all}
use Rattle.std.specs.Option.{option_map}
use Rattle.std.specs.Char.{is_ascii_digit}
use Rattle.std.proofs.lemmas.List.Elements.{All-cons, All-nil, recursion_from_All, All-from_recursion}
use Rattle.context_model.specs.declared.Form.{Form as WireForm}
use Rattle.bag_model.specs.Shapes.{Nodes, Field, fields, no_node, node}
use Rattle.bag_model.specs.Sizes.{shape_size, nodes_size}
use Rattle.bag_model.specs.Tables.{AreFields}
use Rattle.bag_model.specs.Values.{Value, Values, no_value, value, values_list, bottom, bottoms}
use Rattle.bag_model.specs.Words.{is_letter, is_word, is_name}
use Rattle.bag_model.proofs.PathLaws.{is_field}
use Rattle.field_table.specs.declared.shapes.Slot.{Slot}
use Rattle.field_table.specs.declared.shapes.Slots.{Slots}
use Rattle.field_table.specs.Plain.{field_of, nodes_of, shape_of}
use Rattle.field_table.proofs.Held.{field_is}
use Rattle.field_writes.specs.Writes.{IsWrite, AreWritten, one_at, IsFirstNamed, HasNoEquals}

-- ---- names

both : (a b : Bool) → (a && b) ≡ true → (a ≡ true) × (b ≡ true)
both true b e = (refl, e)
both false b e = cc e

plain_letters : (bytes : List ℕ) → list_all (λ other. is_letter other || is_ascii_digit other) bytes ≡ true → AllByRecursion (λ (byte : ℕ). byte ≡ 61 → ⊥) bytes
plain_letters [] e = tt
plain_letters (byte ∷ bytes) e =
    let parts = both (is_letter byte || is_ascii_digit byte) (list_all (λ other. is_letter other || is_ascii_digit other) bytes) e in
    (λ h. (let computed : false ≡ true = sym (ap (λ (other : ℕ). is_letter other || is_ascii_digit other) h) ∙ parts.0 in cc computed), plain_letters bytes parts.1)

pub name_plain : (name : List ℕ) → is_name name ≡ true → HasNoEquals name
name_plain [] e = All-nil (λ (byte : ℕ). byte ≢ 61)
name_plain (byte ∷ bytes) e =
    let word = both (is_word (byte ∷ bytes)) _ e in
    let parts = both (is_letter byte) (list_all (λ other. is_letter other || is_ascii_digit other) bytes) word.0 in
    All-cons (λ (b : ℕ). b ≢ 61) byte bytes (λ h. (let computed : false ≡ true = sym (ap is_letter h) ∙ parts.0 in cc computed))
    (All-from_recursion (λ (b : ℕ). b ≢ 61) bytes (plain_letters bytes parts.1))

-- A text is cut in one way at the first equals sign.
cut_apart : (xs ys s r : List ℕ) → AllByRecursion (λ (byte : ℕ). byte ≢ 61) xs → AllByRecursion (λ (byte : ℕ). byte ≢ 61) ys → xs ++ 61 ∷ s ≡ ys ++ 61 ∷ r → (xs ≡ ys) × (s ≡ r)
cut_apart [] [] s r p q e = let same : s ≡ r = cc e in (refl, same)
cut_apart [] (y ∷ ys) s r p q e = let first : y ≡ 61 = cc e in absurd (q.0 first)
cut_apart (x ∷ xs) [] s r p q e = let first : x ≡ 61 = cc e in absurd (p.0 first)
cut_apart (x ∷ xs) (y ∷ ys) s r p q e =
    let first : x ≡ y = cc e in
    let rest : xs ++ 61 ∷ s ≡ ys ++ 61 ∷ r = cc e in
    let more = cut_apart xs ys s r p.1 q.1 rest in
    (λ i. first i ∷ more.0 i, more.1)

-- The text names a field between a dot and an equals sign, before the rest.
abbrev pub Names : List ℕ → List ℕ → List ℕ → Type 0
Names text name rest = text ≡ codes "." ++ name ++ codes "=" ++ rest

pub names_apart : (text a b s r : List ℕ) → Names text a s → HasNoEquals a → Names text b r → HasNoEquals b → (a ≡ b) × (s ≡ r)
names_apart text a b s r p plain q other =
    let one : text ≡ 46 ∷ (a ++ 61 ∷ s) = p ∙ ap (λ (l : List ℕ). 46 ∷ l) (append_assoc a (61 ∷ []) s) in
    let two : text ≡ 46 ∷ (b ++ 61 ∷ r) = q ∙ ap (λ (l : List ℕ). 46 ∷ l) (append_assoc b (61 ∷ []) r) in
    let both : 46 ∷ (a ++ 61 ∷ s) ≡ 46 ∷ (b ++ 61 ∷ r) = sym one ∙ two in
    let tails : a ++ 61 ∷ s ≡ b ++ 61 ∷ r = cc both in
    cut_apart a b s r (recursion_from_All (λ (byte : ℕ). byte ≢ 61) a plain) (recursion_from_All (λ (byte : ℕ). byte ≢ 61) b other) tails

-- ---- the field of a name

pub written_at : (form : WireForm) (nodes : Nodes) (vs : Values) (name text : List ℕ) (place : ℕ) (f : Field) (v : Value) → IsFirstNamed (fields nodes) name (Some place)
    → slice_get (fields nodes) place ≡ Some f → IsWrite form f.shape v text → vs ≡ one_at nodes place v → AreWritten form nodes vs name text
written_at form no_node vs name text place f v first there write e = absurd (cc there)
written_at form (node own number shape nodes) vs name text zero f v first there write e =
    let same : record { name = own; number = number; shape = shape } ≡ f = cc there in
    let named : record { name = own; number = number; shape = shape } ≡ first.0.0 = cc first.0.1 in
    inl (ap (λ (g : Field). g.name) named ∙ first.0.2, (v, subst (λ (g : Field). IsWrite form g.shape v text) (sym same) write, e))
written_at form (node own number shape nodes) vs name text (suc place) f v first there write e =
    inr (
      λ h. first.1 0 (record { name = own; number = number; shape = shape }) (omega arith) refl h,
      (
        one_at nodes place v,
        written_at form nodes (one_at nodes place v) name text place f v
            ((first.0.0, first.0.1, first.0.2), λ i g less at. first.1 (suc i) g (omega (arith, less)) at) there write refl,
        e,
      ),
    )

-- The field that is written.
pub record IsWrittenAt (form : WireForm) (nodes : Nodes) (vs : Values) (name text : List ℕ) : Type 0 where
  pub place : ℕ
  pub field : Field
  pub v : Value
  pub there : slice_get (fields nodes) place ≡ Some field
  pub named : field.name ≡ name
  pub first : IsFirstNamed (fields nodes) name (Some place)
  pub write : IsWrite form field.shape v text
  pub is : vs ≡ one_at nodes place v

before : (fs : List Field) (name : List ℕ) (f : Field) → f.name ≢ name → (place : ℕ) → ((i : ℕ) (g : Field) → i < place → slice_get fs i ≡ Some g → g.name ≢ name)
    → (i : ℕ) (g : Field) → i < suc place → slice_get (f ∷ fs) i ≡ Some g → g.name ≢ name
before fs name f other place first zero g less at h = let same : f ≡ g = cc at in other (ap (λ (x : Field). x.name) same ∙ h)
before fs name f other place first (suc i) g less at h = first i g (omega (arith, less)) at h

later_first : (fs : List Field) (name : List ℕ) (f : Field) → f.name ≢ name → (place : ℕ) → IsFirstNamed fs name (Some place) → IsFirstNamed (f ∷ fs) name (Some (suc place))
later_first fs name f other place first = (first.0, before fs name f other place first.1)

pub written_back : (form : WireForm) (nodes : Nodes) (vs : Values) (name text : List ℕ) → AreWritten form nodes vs name text → IsWrittenAt form nodes vs name text
written_back form no_node vs name text p = absurd p
written_back form (node own number shape nodes) vs name text p =
    let f : Field = record { name = own; number = number; shape = shape } in
    elim p [
      | inl w ↦ record {
        place = 0;
        field = f;
        v = w.1.0;
        there = refl;
        named = w.0;
        first = ((f, refl, w.0), λ i g less at h. absurd (omega (arith, less)));
        write = w.1.1;
        is = w.1.2;
      }
      | inr w ↦ (
          let more = written_back form nodes w.1.0 name text w.1.1 in
          record {
            place = suc more.place;
            field = more.field;
            v = more.v;
            there = more.there;
            named = more.named;
            first = later_first (fields nodes) name f w.0 more.place more.first;
            write = more.write;
            is = w.1.2 ∙ ap (value (bottom shape)) more.is;
          })
    ]

-- Its name is one of the definition language.
pub written_name : (form : WireForm) (nodes : Nodes) (vs : Values) (name text : List ℕ) → AreFields nodes → AreWritten form nodes vs name text → HasNoEquals name
written_name form nodes vs name text are p =
    let w = written_back form nodes vs name text p in
    subst HasNoEquals w.named (name_plain w.field.name (is_field nodes w.place w.field are w.there).0)

order : (i j : ℕ) → (i < j) ⊎ ((i ≡ j) ⊎ (j < i))
order zero zero = inr (inl refl)
order zero (suc j) = inl (omega arith)
order (suc i) zero = inr (inr (omega arith))
order (suc i) (suc j) = elim (order i j) [
  | inl h ↦ inl (omega (arith, h))
  | inr w ↦ (elim w [ inl e ↦ inr (inl (ap suc e)) | inr h ↦ inr (inr (omega (arith, h))) ])
]

-- The first field of a name has one place.
pub first_one : (fs : List Field) (name : List ℕ) (i j : ℕ) → IsFirstNamed fs name (Some i) → IsFirstNamed fs name (Some j) → i ≡ j
first_one fs name i j p q =
    elim (order i j) [
      | inl less ↦ absurd (q.1 i p.0.0 less p.0.1 p.0.2)
      | inr w ↦ (elim w [ inl e ↦ e | inr less ↦ absurd (p.1 j q.0.0 less q.0.1 q.0.2) ])
    ]

-- ---- lists of fields and of values

take_get : {A : Type 0} (xs : List A) (i : ℕ) (x : A) → slice_get xs i ≡ Some x → take (suc i) xs ≡ take i xs ++ x ∷ []
take_get [] i x e = absurd (cc e)
take_get (y ∷ xs) zero x e = let same : y ≡ x = cc in ap (λ z. z ∷ []) same
take_get (y ∷ xs) (suc i) x e = ap (λ l. y ∷ l) (take_get xs i x e)

get_drop : {A : Type 0} (xs : List A) (from i : ℕ) → slice_get (drop from xs) i ≡ slice_get xs (from + i)
get_drop xs zero i = let same : i ≡ 0 + i = omega arith in ap (slice_get xs) same
get_drop [] (suc from) i = refl
get_drop (x ∷ xs) (suc from) i = let same : suc (from + i) ≡ suc from + i = omega arith in get_drop xs from i ∙ ap (slice_get (x ∷ xs)) same

map_push : {A B : Type 0} (f : A → B) (xs : List A) (x : A) → map f (xs ++ x ∷ []) ≡ map f xs ++ f x ∷ []
map_push f [] x = refl
map_push f (y ∷ xs) x = ap (λ l. f y ∷ l) (map_push f xs x)

-- The bottom of a field.
abbrev pub bottom_at : Field → Value
bottom_at field = bottom field.shape

-- The bottoms of the fields from a place on up to another.
abbrev pub bottoms_between : List Field → ℕ → ℕ → List Value
bottoms_between fs from to = map bottom_at (take (to - from) (drop from fs))

pub bottoms_more : (fs : List Field) (from at : ℕ) (f : Field) → slice_get fs at ≡ Some f → from ≤ at
    → bottoms_between fs from (at + 1) ≡ bottoms_between fs from at ++ bottom_at f ∷ []
bottoms_more fs from at f there order =
    let place : from + (at - from) ≡ at = omega (arith, order) in
    let here : slice_get (drop from fs) (at - from) ≡ Some f = get_drop fs from (at - from) ∙ ap (slice_get fs) place ∙ there in
    let more : at + 1 - from ≡ suc (at - from) = omega (arith, order) in
    ap (λ (n : ℕ). map bottom_at (take n (drop from fs))) more
    ∙ ap (map bottom_at) (take_get (drop from fs) (at - from) f here)
    ∙ map_push bottom_at (take (at - from) (drop from fs)) f

-- The values of a list.
abbrev pub values_from : List Value → Values
values_from [] = no_value
values_from (v ∷ vs) = value v (values_from vs)

values_back : (vs : Values) → values_from (values_list vs) ≡ vs
values_back no_value = refl
values_back (value v vs) = ap (value v) (values_back vs)

bottoms_list : (nodes : Nodes) → values_list (bottoms nodes) ≡ map bottom_at (fields nodes)
bottoms_list no_node = refl
bottoms_list (node name number shape nodes) = ap (λ l. bottom shape ∷ l) (bottoms_list nodes)

take_whole : {A : Type 0} (xs : List A) → take (length xs) xs ≡ xs
take_whole [] = refl
take_whole (x ∷ xs) = ap (λ l. x ∷ l) (take_whole xs)

one_list : (nodes : Nodes) (place : ℕ) (v : Value) → place < length (fields nodes)
    → values_list (one_at nodes place v) ≡ (map bottom_at (take place (fields nodes)) ++ v ∷ []) ++ map bottom_at (drop (suc place) (fields nodes))
one_list no_node place v within = absurd (omega (arith, within))
one_list (node name number shape nodes) zero v within = ap (λ l. v ∷ l) (bottoms_list nodes)
one_list (node name number shape nodes) (suc place) v within = ap (λ l. bottom shape ∷ l) (one_list nodes place v (omega (arith, within)))

take_none : {A : Type 0} (n : ℕ) → take {A = A} n [] ≡ []
take_none zero = refl
take_none (suc n) = refl

-- All that is left from a place on.
rest_whole : {A : Type 0} (xs : List A) (place : ℕ) → take (length xs - suc place) (drop (suc place) xs) ≡ drop (suc place) xs
rest_whole {A = A} [] place = take_none (length {A = A} [] - suc place)
rest_whole (x ∷ xs) zero = let all : suc (length xs) - 1 ≡ length xs = omega arith in ap (λ (n : ℕ). take n xs) all ∙ take_whole xs
rest_whole (x ∷ xs) (suc place) =
    let fewer : suc (length xs) - suc (suc place) ≡ length xs - suc place = omega arith in
    ap (λ (n : ℕ). take n (drop (suc place) xs)) fewer ∙ rest_whole xs place

rest_between : (fs : List Field) (place : ℕ) → bottoms_between fs (place + 1) (length fs) ≡ map bottom_at (drop (suc place) fs)
rest_between fs place = ap (λ (n : ℕ). bottoms_between fs n (length fs)) (add-one place) ∙ ap (map bottom_at) (rest_whole fs place)

-- Bottoms before a value and bottoms after it are the values of one written field.
pub one_whole : (nodes : Nodes) (place : ℕ) (v : Value) (before middle : List Value) (vs : Values) → place < length (fields nodes)
    → before ≡ [] ++ bottoms_between (fields nodes) 0 place → middle ≡ before ++ v ∷ []
    → values_list vs ≡ middle ++ bottoms_between (fields nodes) (place + 1) (length (fields nodes)) → vs ≡ one_at nodes place v
one_whole nodes place v before middle vs within first second third =
    let none : place - 0 ≡ place = omega arith in
    sym (values_back vs)
    ∙ ap values_from (third ∙ ap (λ l. l ++ bottoms_between (fields nodes) (place + 1) (length (fields nodes))) (second ∙ ap (λ l. l ++ v ∷ []) (first ∙ ap (λ (n : ℕ). map bottom_at (take n (fields nodes))) none)) ∙ ap (λ l. (map bottom_at (take place (fields nodes)) ++ v ∷ []) ++ l) (rest_between (fields nodes) place) ∙ sym (one_list nodes place v within))
    ∙ values_back (one_at nodes place v)

-- What is got at a place of a bag is the field there.
pub field_there : (s : Slots) (at : ℕ) (found : Option (Bor Slot)) (x : Bor Slot) → option_map (λ (f : Bor Slot). field_of f.now) found ≡ slice_get (fields (nodes_of s)) at → found ≡ Some x
    → slice_get (fields (nodes_of s)) at ≡ Some (record { name = x.now.name; number = x.now.number; shape = shape_of x.now.shape })
field_there s at found x some is = sym some ∙ ap (option_map (λ (f : Bor Slot). field_of f.now)) is ∙ ap Some (field_is x.now)

-- There is less in the shape of a field than in its bag.
pub size_there : (nodes : Nodes) (i : ℕ) (f : Field) → slice_get (fields nodes) i ≡ Some f → shape_size f.shape < nodes_size nodes
size_there no_node i f e = absurd (cc e)
size_there (node name number shape nodes) zero f e =
    let same : record { name = name; number = number; shape = shape } ≡ f = cc e in
    subst (λ (g : Field). shape_size g.shape < nodes_size (node name number shape nodes)) same (omega arith)
size_there (node name number shape nodes) (suc i) f e = omega (arith, size_there nodes i f e)
