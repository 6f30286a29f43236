-- What the code reads of a field: literals, counts, keys and fields of bags.
use Rattle.std.proofs.Common.{◌≡◌, ℕ, ◌^◌, ◌<◌, List, [], ◌∷◌, ◌++◌, get_or, Some, None, refl, sym, ap, ◌∙◌, subst, append_assoc}
use Rattle.std.specs.Fmt.{decimal}
use Rattle.std.specs.List.{slice_get}
use Rattle.context_model.specs.declared.Form.{Form as WireForm}
use Rattle.bag_model.specs.Scalars.{ScalarKind, ScalarValue}
use Rattle.bag_model.specs.Shapes as shapes
use Rattle.bag_model.specs.Shapes.{Shape, Nodes, Field, fields}
use Rattle.bag_model.specs.Tables.{AreFields}
use Rattle.bag_model.specs.Values as values
use Rattle.bag_model.specs.Values.{Value, Values, Entries, no_entry, entry, pairs}
use Rattle.field_writes.specs.Literals.{IsLiteral, IsWriter}
use Rattle.field_writes.specs.Ends.{BeginsWithOne}
use Rattle.field_writes.specs.Writes.{IsWrite, AreWritten, one_at, IsFirstNamed, HasNoEquals}
use Rattle.field_writes.proofs.Unique.{literal_apart, whole_begins, writer_apart}
use Rattle.field_writes.proofs.Bags.{Names, names_apart, first_one, written_at, written_back, written_name, IsWrittenAt}

same_tail : (first : ℕ) (text s r : List ℕ) → text ≡ first ∷ s → text ≡ first ∷ r → s ≡ r
same_tail first text s r e h = let two : first ∷ s ≡ first ∷ r = sym e ∙ h in cc two

-- ---- whole literals

pub no_literal : (form : WireForm) (kind : ScalarKind) (text : List ℕ) → ((v : ScalarValue) (rest : List ℕ) → BeginsWithOne (IsLiteral form kind v) text rest → ⊥) → (v : ScalarValue) → IsLiteral form kind v text → ⊥
no_literal form kind text none v p = none v [] (whole_begins (IsLiteral form kind v) text p)

pub no_more_literal : (form : WireForm) (kind : ScalarKind) (text : List ℕ) (own : ScalarValue) (behind : List ℕ) → BeginsWithOne (IsLiteral form kind own) text behind → (behind ≡ [] → ⊥)
    → (v : ScalarValue) → IsLiteral form kind v text → ⊥
no_more_literal form kind text own behind here none v p =
    none (literal_apart form kind own v text behind [] here (whole_begins (IsLiteral form kind v) text p)).1

-- ---- counts

pub no_count : (form : WireForm) (text : List ℕ) → ((writer : List ℕ) (count : ℕ) → BeginsWithOne (IsWriter form writer) text (58 ∷ decimal count) → count < 2 ^ 64 → ⊥)
    → (counts : List (List ℕ × ℕ)) → IsWrite form shapes.Shape.Counter (values.Value.Counter counts) text → ⊥
no_count form text none counts p =
    none p.0 p.1 (record { front = p.2; fact = p.3; same = p.5 ∙ append_assoc p.2 (58 ∷ []) (decimal p.1); end = refl }) p.4

pub no_count_writer : (form : WireForm) (text : List ℕ) → ((writer rest : List ℕ) → BeginsWithOne (IsWriter form writer) text rest → ⊥) → (counts : List (List ℕ × ℕ)) → IsWrite form shapes.Shape.Counter (values.Value.Counter counts) text → ⊥
no_count_writer form text none = no_count form text (λ writer count p small. none writer (58 ∷ decimal count) p)

pub no_count_colon : (form : WireForm) (text own rest : List ℕ) → BeginsWithOne (IsWriter form own) text rest → ((digits : List ℕ) → rest ≡ 58 ∷ digits → ⊥)
    → (counts : List (List ℕ × ℕ)) → IsWrite form shapes.Shape.Counter (values.Value.Counter counts) text → ⊥
no_count_colon form text own rest here none =
    no_count form text (λ writer count p small. none (decimal count) (writer_apart form own writer text rest (58 ∷ decimal count) here p).1)

pub no_count_number : (form : WireForm) (text own rest digits : List ℕ) → BeginsWithOne (IsWriter form own) text rest → rest ≡ 58 ∷ digits → ((count : ℕ) → (digits ≡ decimal count) × (count < 2 ^ 64) → ⊥)
    → (counts : List (List ℕ × ℕ)) → IsWrite form shapes.Shape.Counter (values.Value.Counter counts) text → ⊥
no_count_number form text own rest digits here e none =
    no_count form text (λ writer count p small. none count (same_tail 58 rest digits (decimal count) e (writer_apart form own writer text rest (58 ∷ decimal count) here p).1, small))

-- ---- keys

pub entry_is : (form : WireForm) (kind : ScalarKind) (shape : Shape) (key : ScalarValue) (v : Value) (text rest behind : List ℕ) → BeginsWithOne (IsLiteral form kind key) text rest → rest ≡ 58 ∷ behind → IsWrite form shape v behind
    → IsWrite form (shapes.Shape.Map kind shape) (values.Value.Map (entry key v no_entry)) text
entry_is form kind shape key v text rest behind p e write = (
  key,
  v,
  p.front,
  behind,
  p.fact,
  write,
  p.same ∙ ap (λ l. p.front ++ l) e ∙ sym (append_assoc p.front (58 ∷ []) behind),
  refl,
)

pub no_key : (form : WireForm) (kind : ScalarKind) (shape : Shape) (text : List ℕ)
    → ((key : ScalarValue) (v : Value) (behind : List ℕ) → BeginsWithOne (IsLiteral form kind key) text (58 ∷ behind) → IsWrite form shape v behind → ⊥)
    → (es : Entries) → IsWrite form (shapes.Shape.Map kind shape) (values.Value.Map es) text → ⊥
no_key form kind shape text none es p =
    none p.0 p.1 p.3 (record { front = p.2; fact = p.4; same = p.6 ∙ append_assoc p.2 (58 ∷ []) p.3; end = refl }) p.5

pub no_key_literal : (form : WireForm) (kind : ScalarKind) (shape : Shape) (text : List ℕ) → ((key : ScalarValue) (rest : List ℕ) → BeginsWithOne (IsLiteral form kind key) text rest → ⊥)
    → (es : Entries) → IsWrite form (shapes.Shape.Map kind shape) (values.Value.Map es) text → ⊥
no_key_literal form kind shape text none = no_key form kind shape text (λ key v behind p write. none key (58 ∷ behind) p)

pub no_key_colon : (form : WireForm) (kind : ScalarKind) (shape : Shape) (text : List ℕ) (own : ScalarValue) (rest : List ℕ) → BeginsWithOne (IsLiteral form kind own) text rest → ((behind : List ℕ) → rest ≡ 58 ∷ behind → ⊥)
    → (es : Entries) → IsWrite form (shapes.Shape.Map kind shape) (values.Value.Map es) text → ⊥
no_key_colon form kind shape text own rest here none =
    no_key form kind shape text (λ key v behind p write. none behind (literal_apart form kind own key text rest (58 ∷ behind) here p).1)

pub no_key_value : (form : WireForm) (kind : ScalarKind) (shape : Shape) (text : List ℕ) (own : ScalarValue) (rest left : List ℕ) → BeginsWithOne (IsLiteral form kind own) text rest → rest ≡ 58 ∷ left
    → ((v : Value) → IsWrite form shape v left → ⊥) → (es : Entries) → IsWrite form (shapes.Shape.Map kind shape) (values.Value.Map es) text → ⊥
no_key_value form kind shape text own rest left here e none =
    no_key form kind shape text (λ key v behind p write. none v (subst (IsWrite form shape v) (sym (same_tail 58 rest left behind e (literal_apart form kind own key text rest (58 ∷ behind) here p).1)) write))

pub one_entry : (es : Entries) (key : ScalarValue) (v : Value) → pairs es ≡ (key, v) ∷ [] → es ≡ entry key v no_entry
one_entry no_entry key v e = absurd (cc e)
one_entry (entry k w no_entry) key v e =
    let first : k ≡ key = ap (λ (ps : List (ScalarValue × Value)). (get_or ps 0 (key, v)).0) e in
    let second : w ≡ v = ap (λ (ps : List (ScalarValue × Value)). (get_or ps 0 (key, v)).1) e in
    λ i. entry (first i) (second i) no_entry
one_entry (entry k w (entry l x es)) key v e = absurd (cc e)

-- ---- fields of bags

pub field_is_written : (form : WireForm) (nodes : Nodes) (name rest text : List ℕ) (place : ℕ) (f : Field) (v : Value) → Names text name rest → IsFirstNamed (fields nodes) name (Some place)
    → slice_get (fields nodes) place ≡ Some f → IsWrite form f.shape v rest → IsWrite form (shapes.Shape.Bag nodes) (values.Value.Bag (one_at nodes place v)) text
field_is_written form nodes name rest text place f v names first there write =
    (name, rest, one_at nodes place v, written_at form nodes (one_at nodes place v) name rest place f v first there write refl, names, refl)

pub no_field_split : (form : WireForm) (nodes : Nodes) (text : List ℕ) → AreFields nodes → ((name rest : List ℕ) → Names text name rest × HasNoEquals name → ⊥)
    → (vs : Values) → IsWrite form (shapes.Shape.Bag nodes) (values.Value.Bag vs) text → ⊥
no_field_split form nodes text are none vs p = none p.0 p.1 (p.4, written_name form nodes p.2 p.0 p.1 are p.3)

-- The name and the rest of another write to the bag are the same.
pub same_names : (form : WireForm) (nodes : Nodes) (text name rest : List ℕ) → AreFields nodes → Names text name rest → HasNoEquals name
    → (vs : Values) → (p : IsWrite form (shapes.Shape.Bag nodes) (values.Value.Bag vs) text) → IsWrittenAt form nodes p.2 name rest
same_names form nodes text name rest are names plain vs p =
    let same = names_apart text p.0 name p.1 rest p.4 (written_name form nodes p.2 p.0 p.1 are p.3) names plain in
    written_back form nodes p.2 name rest (subst (λ l. AreWritten form nodes p.2 l rest) same.0 (subst (AreWritten form nodes p.2 p.0) same.1 p.3))

pub no_field_named : (form : WireForm) (nodes : Nodes) (text name rest : List ℕ) → AreFields nodes → Names text name rest → HasNoEquals name → IsFirstNamed (fields nodes) name None
    → (vs : Values) → IsWrite form (shapes.Shape.Bag nodes) (values.Value.Bag vs) text → ⊥
no_field_named form nodes text name rest are names plain none vs p =
    let w = same_names form nodes text name rest are names plain vs p in none w.place w.field w.there w.named

pub no_field_write : (form : WireForm) (nodes : Nodes) (text name rest : List ℕ) (place : ℕ) (f : Field) → AreFields nodes → Names text name rest → HasNoEquals name → IsFirstNamed (fields nodes) name (Some place)
    → slice_get (fields nodes) place ≡ Some f → ((v : Value) → IsWrite form f.shape v rest → ⊥)
    → (vs : Values) → IsWrite form (shapes.Shape.Bag nodes) (values.Value.Bag vs) text → ⊥
no_field_write form nodes text name rest place f are names plain first there none vs p =
    let w = same_names form nodes text name rest are names plain vs p in
    let same = first_one (fields nodes) name w.place place w.first first in
    let both : Some w.field ≡ Some f = sym w.there ∙ ap (slice_get (fields nodes)) same ∙ there in
    let one : w.field ≡ f = cc both in
    none w.v (subst (λ (g : Field). IsWrite form g.shape w.v rest) one w.write)

-- ---- the value of a write is of its shape's kind

pub no_counter : (form : WireForm) (text : List ℕ) → ((counts : List (List ℕ × ℕ)) → IsWrite form shapes.Shape.Counter (values.Value.Counter counts) text → ⊥) → (v : Value) → IsWrite form shapes.Shape.Counter v text → ⊥
no_counter form text none v p = none ((p.0, p.1) ∷ []) (p.0, p.1, p.2, p.3, p.4, p.5, refl)

pub no_map : (form : WireForm) (kind : ScalarKind) (shape : Shape) (text : List ℕ) → ((es : Entries) → IsWrite form (shapes.Shape.Map kind shape) (values.Value.Map es) text → ⊥) → (v : Value) → IsWrite form (shapes.Shape.Map kind shape) v text → ⊥
no_map form kind shape text none v p = none (entry p.0 p.1 no_entry) (p.0, p.1, p.2, p.3, p.4, p.5, p.6, refl)

pub no_bag : (form : WireForm) (nodes : Nodes) (text : List ℕ) → ((vs : Values) → IsWrite form (shapes.Shape.Bag nodes) (values.Value.Bag vs) text → ⊥) → (v : Value) → IsWrite form (shapes.Shape.Bag nodes) v text → ⊥
no_bag form nodes text none v p = none p.2 (p.0, p.1, p.2, p.3, p.4, refl)
