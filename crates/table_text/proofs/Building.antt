-- Open bags, with a line more and with a bag closed.
use Rattle.std.proofs.Common.{◌≡◌, ℕ, ◌+◌, ◌^◌, ◌<◌, ◌≤◌, true, List, [], ◌∷◌, ◌++◌, map, length, ◌||◌, refl, sym, ap, subst, ◌∙◌, append_assoc, append-nil, add-zero, arith}
use Rattle.std.specs.List.{AllByRecursion, list_any}
use Rattle.std.specs.Str.{bytes_eq}
use Rattle.std.proofs.lemmas.List.{map-append}
use Rattle.context_model.specs.declared.TheConstants.{LEVELS_MAX}
use Rattle.bag_model.specs.Shapes.{Field, fields, no_node}
use Rattle.bag_model.specs.Tables.{IsShape, AreFields, is_name, levels, levels_under}
use Rattle.field_table.specs.Plain.{nodes_of, IsIndexed}
use Rattle.table_text.specs.declared.builder.OpenBag.{OpenBag}
use Rattle.table_text.specs.declared.builder.OpenField.{OpenField}
use Rattle.table_text.specs.Builder.{IsBag, IsOpenField, AreOpen, head_name, least_behind, level_inside, open_row, rows_around, IsFieldBehind}
use Rattle.table_text.specs.Names.{HaveNames}
use Rattle.table_text.specs.Rows.{Row}
use Rattle.table_text.specs.TableRows.{rows_of}
use Rattle.table_text.proofs.Appended.{is_with, sound_with, levels_with}
use Rattle.table_text.proofs.NameLists.{any_last}
use Rattle.table_text.proofs.RuleTests.{least_more}
use Rattle.table_text.proofs.Siblings.{IsStart, bag_start}

-- ---- bags

pub no_fields : (bag : OpenBag) (level : ℕ) → nodes_of bag.fields ≡ no_node → IsIndexed bag.fields → bag.names ≡ [] → bag.least ≡ 0 → bag.level ≡ level
    → level ≤ LEVELS_MAX → IsBag bag level (fields (nodes_of bag.fields))
no_fields bag level empty indexed names least own few = record {
  at_level = own;
  indexed = indexed;
  sound = subst AreFields (sym empty) tt;
  shallow = omega (arith, few, ap levels empty);
  names = λ text. ap (list_any (bytes_eq text)) (names ∙ ap (λ nodes. map head_name (fields nodes)) (sym empty));
  least = least ∙ ap (λ nodes. least_behind (fields nodes)) (sym empty);
}

-- A line was noted.
pub noted : (bag next : OpenBag) (level : ℕ) (head : Field) → IsBag bag level (fields (nodes_of bag.fields)) → next.fields ≡ bag.fields
    → HaveNames next.names (head.name ∷ bag.names) → next.least ≡ head.number + 1 → next.level ≡ bag.level → IsBag next level (fields (nodes_of next.fields) ++ head ∷ [])
noted bag next level head is same names least own =
    let kept = ap nodes_of same in
    let heads = fields (nodes_of bag.fields) in
    let heads_same = ap (λ nodes. fields nodes ++ head ∷ []) (sym kept) in
    record {
      at_level = own ∙ is.at_level;
      indexed = subst IsIndexed (sym same) is.indexed;
      sound = subst AreFields (sym kept) is.sound;
      shallow = omega (arith, is.shallow, ap levels kept);
      names = λ text.
          names text ∙ ap (λ b. bytes_eq text head.name || b) (is.names text) ∙ sym (any_last text (map head_name heads) head.name)
          ∙ ap (list_any (bytes_eq text)) (sym (map-append head_name heads (head ∷ [])) ∙ ap (map head_name) heads_same);
      least = least ∙ sym (least_more heads head) ∙ ap least_behind heads_same;
    }

-- A field whose line was noted is whole.
pub whole : (bag next : OpenBag) (level : ℕ) (head field : Field) → IsBag bag level (fields (nodes_of bag.fields) ++ head ∷ []) → head.name ≡ field.name → head.number ≡ field.number
    → fields (nodes_of next.fields) ≡ fields (nodes_of bag.fields) ++ field ∷ [] → IsIndexed next.fields → next.names ≡ bag.names → next.least ≡ bag.least → next.level ≡ bag.level
    → is_name field.name ≡ true → field.number < 2 ^ 16 → IsShape field.shape → AllByRecursion (IsFieldBehind field.name field.number) (fields (nodes_of bag.fields))
    → level + (1 + levels_under field.shape) ≤ LEVELS_MAX → IsBag next level (fields (nodes_of next.fields))
whole bag next level head field is name number more indexed names least own named numbered shaped behind deep =
    let nodes = nodes_of bag.fields in
    let heads = fields nodes in
    let with = is_with nodes (nodes_of next.fields) field more in
    record {
      at_level = own ∙ is.at_level;
      indexed = indexed;
      sound = subst AreFields (sym with) (sound_with nodes field is.sound named numbered shaped behind);
      shallow = omega (arith, is.shallow, deep, ap levels with, levels_with nodes field);
      names = λ text.
          ap (list_any (bytes_eq text)) names ∙ is.names text
          ∙ ap (list_any (bytes_eq text))
          (map-append head_name heads (head ∷ []) ∙ ap (λ (n : List ℕ). map head_name heads ++ n ∷ []) name ∙ sym (map-append head_name heads (field ∷ []))
          ∙ ap (map head_name) (sym more));
      least = least ∙ is.least ∙ least_more heads head ∙ ap (λ n. n + 1) number ∙ sym (least_more heads field) ∙ ap least_behind (sym more);
    }

-- ---- fields that are open in one another

pub open_push : (level : ℕ) (outer : List OpenField) (last : ℕ) (field : OpenField) → AreOpen level outer last → IsOpenField last field
    → AreOpen level (outer ++ field ∷ []) (level_inside last field)
open_push level [] last field are is = (subst (λ l. IsOpenField l field) are is, ap (λ l. level_inside l field) are)
open_push level (first ∷ outer) last field are is = (are.0, open_push (level_inside level first) outer last field are.1 is)

-- The last of them is in a bag at this level.
pub record IsLast (level : ℕ) (outer : List OpenField) (last : ℕ) (field : OpenField) : Type 0 where
  pub around : ℕ
  pub rest : AreOpen level outer around
  pub field_is : IsOpenField around field
  pub inside : last ≡ level_inside around field

pub open_pop : (level : ℕ) (outer : List OpenField) (last : ℕ) (field : OpenField) → AreOpen level (outer ++ field ∷ []) last → IsLast level outer last field
open_pop level [] last field are = record { around = level; rest = refl; field_is = are.0; inside = are.1 }
open_pop level (first ∷ outer) last field are =
    let more = open_pop (level_inside level first) outer last field are.1 in
    record { around = more.around; rest = (are.0, more.rest); field_is = more.field_is; inside = more.inside }

pub around_push : (depth : ℕ) (outer : List OpenField) (field : OpenField)
    → rows_around depth (outer ++ field ∷ []) ≡ rows_around depth outer ++ (rows_of (depth + length outer) (nodes_of field.bag.fields) ++ open_row (depth + length outer) field ∷ [])
around_push depth [] field = ap (λ d. rows_of d (nodes_of field.bag.fields) ++ open_row d field ∷ []) (sym (add-zero depth))
around_push depth (first ∷ outer) field =
    let own = rows_of depth (nodes_of first.bag.fields) in
    let row = open_row depth first in
    let deep : depth + 1 + length outer ≡ depth + length (first ∷ outer) = omega arith in
    ap (λ (l : List Row). own ++ row ∷ l) (around_push (depth + 1) outer field)
    ∙ sym (append_assoc own (row ∷ rows_around (depth + 1) outer) (rows_of (depth + 1 + length outer) (nodes_of field.bag.fields) ++ open_row (depth + 1 + length outer) field ∷ []))
    ∙ ap (λ d. (own ++ row ∷ rows_around (depth + 1) outer) ++ (rows_of d (nodes_of field.bag.fields) ++ open_row d field ∷ [])) deep

-- The innermost bag begins after what was said of those around it.
pub around_start : (base : List Row) (depth level : ℕ) (outer : List OpenField) (last : ℕ) → IsStart base depth level → AreOpen level outer last
    → IsStart (base ++ rows_around depth outer) (depth + length outer) last
around_start base depth level [] last start are =
    subst (λ l. IsStart (base ++ []) (depth + 0) l) (sym are) (subst (λ d. IsStart (base ++ []) d level) (sym (add-zero depth)) (subst (λ (b : List Row). IsStart b depth level) (sym (append-nil base)) start))
around_start base depth level (field ∷ outer) last start are =
    let nodes = nodes_of field.bag.fields in
    let own = rows_of depth nodes in
    let row = open_row depth field in
    let near = (base ++ own) ++ row ∷ [] in
    let below = around_start near (depth + 1) (level_inside level field) outer last (bag_start base depth level nodes row start refl) are.1 in
    let deep : depth + 1 + length outer ≡ depth + length (field ∷ outer) = omega arith in
    let same : near ++ rows_around (depth + 1) outer ≡ base ++ (own ++ row ∷ rows_around (depth + 1) outer) =
    append_assoc (base ++ own) (row ∷ []) (rows_around (depth + 1) outer) ∙ append_assoc base own (row ∷ rows_around (depth + 1) outer)
    in
    subst (λ d. IsStart (base ++ (own ++ row ∷ rows_around (depth + 1) outer)) d last) deep (subst (λ (b : List Row). IsStart b (depth + 1 + length outer) last) same below)
