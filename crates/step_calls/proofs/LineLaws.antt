-- What a line says.
use Rattle.std.proofs.Common.{◌≡◌, ◌≢◌, ℕ, ◌<◌, List, [], ◌∷◌, ◌++◌, length, Option, Some, None, refl, sym, ap, ◌∙◌, subst, append_assoc}
use Rattle.std.specs.List.{slice_get}
use Rattle.std.specs.Option.{option_map}
use Rattle.std.proofs.lemmas.List.{append_cancel_left, append_cancel_right}
use Rattle.std.proofs.lemmas.Option.{slice_get_within}
use Rattle.context_model.specs.declared.Form.{Form}
use Rattle.bag_model.specs.Encodings.{InLayout, FitsAtoms}
use Rattle.bag_model.specs.Shapes.{Shape, Nodes}
use Rattle.bag_model.specs.Slots.{SlotAt, slots_of, name_path, FindsSlot}
use Rattle.bag_model.specs.SlotValues.{HasSlot, only}
use Rattle.bag_model.specs.Tables.{IsTable}
use Rattle.bag_model.specs.Values.{Value, IsOfShape}
use Rattle.bag_model.proofs.NamePathLaws.{name_paths_differ}
use Rattle.bag_walks.proofs.SlotFits.{only_fits}
use Rattle.bag_walks.proofs.SlotShapes.{slot_shape}
use Rattle.text_lines.specs.Readings.{IsDefinite}
use Rattle.field_writes.specs.Writes.{IsWrite}
use Rattle.field_writes.proofs.Fits.{write_fits}
use Rattle.field_writes.proofs.OneWrite.{one_write, write_of_shape}
use Rattle.field_calls.specs.Fields.{NamesField, NamesNoField}
use Rattle.step_calls.specs.declared.refusals.WriteCode.{WriteCode}
use Rattle.step_calls.specs.declared.refusals.WriteCode.TheVariants.{NoField, NoWrite}
use Rattle.step_calls.specs.Lines.{Write, SaysLineWrite, line_path, BreaksWrite, write_lines}
use Rattle.step_calls.proofs.NameTexts.{path_of_slot}

one_fed : (a b : List ℕ) → 32 ∷ a ++ 10 ∷ [] ≡ 32 ∷ b ++ 10 ∷ [] → a ≡ b
one_fed a b e = let tails : a ++ 10 ∷ [] ≡ b ++ 10 ∷ [] = cc e in append_cancel_right a b (10 ∷ []) tails

-- The shape that a table answers for a slot is the slot's.
pub shape_here : (nodes : Nodes) (slot : ℕ) (at : SlotAt) (shape : Shape) → HasSlot nodes slot at
    → Some shape ≡ option_map (λ (found : SlotAt). found.shape) (slice_get (slots_of nodes) slot) → at.shape ≡ shape
shape_here nodes slot at shape there is =
    let found : Some shape ≡ Some at.shape = is ∙ ap (option_map (λ (found : SlotAt). found.shape)) there in
    cc found

module _ (form : Form) (nodes : Nodes) (table : IsTable nodes) where
  one_slot : (i j : ℕ) (a b : SlotAt) → HasSlot nodes i a → HasSlot nodes j b → name_path a ≡ name_path b → (i ≡ j) × (a ≡ b)
  one_slot i j a b p q e =
      let same : i ≡ j = name_paths_differ nodes i j a b table p q e in
      let both : Some a ≡ Some b = sym p ∙ ap (λ k. slice_get (slots_of nodes) k) same ∙ q in
      (same, cc both)

  fed_path : (at : SlotAt) (text : List ℕ) → name_path at ++ 32 ∷ text ++ 10 ∷ [] ≡ name_path at ++ 32 ∷ (text ++ 10 ∷ [])
  fed_path at text = append_assoc (name_path at) (32 ∷ text) (10 ∷ [])

  -- A line that says a write begins with the name path of its slot,
  said_path : (line : List ℕ) (write : Write) (s : SaysLineWrite form nodes line write) → line_path line ≡ name_path s.at
  said_path line write s = ap line_path (s.is ∙ fed_path s.at s.text) ∙ path_of_slot nodes write.0 s.at (s.text ++ 10 ∷ []) table s.there

  -- and goes on with a space, the write and a line feed.
  said_rest : (line path rest : List ℕ) (write : Write) (s : SaysLineWrite form nodes line write) → path ≡ line_path line → line ≡ path ++ rest → rest ≡ 32 ∷ s.text ++ 10 ∷ []
  said_rest line path rest write s begins split =
      append_cancel_left path rest (32 ∷ s.text ++ 10 ∷ [])
      (sym split ∙ s.is ∙ fed_path s.at s.text ∙ ap (λ (l : List ℕ). l ++ 32 ∷ (s.text ++ 10 ∷ [])) (sym (said_path line write s) ∙ sym begins))

  -- ---- a line is read one way

  one_said : (line : List ℕ) (a b : Write) → SaysLineWrite form nodes line a → SaysLineWrite form nodes line b → a ≡ b
  one_said line a b s t =
      let slots = one_slot a.0 b.0 s.at t.at s.there t.there (sym (said_path line a s) ∙ said_path line b t) in
      let split : line ≡ name_path s.at ++ 32 ∷ (s.text ++ 10 ∷ []) = s.is ∙ fed_path s.at s.text in
      let texts : s.text ≡ t.text = one_fed s.text t.text (said_rest line (name_path s.at) (32 ∷ s.text ++ 10 ∷ []) b t (sym (said_path line a s)) split) in
      let also : IsWrite form s.at.shape b.1 s.text =
      subst (λ (at : SlotAt). IsWrite form at.shape b.1 s.text) (sym slots.1) (subst (λ (text : List ℕ). IsWrite form t.at.shape b.1 text) (sym texts) t.value) in
      let values : a.1 ≡ b.1 = one_write form s.at.shape a.1 b.1 s.text (slot_shape nodes a.0 s.at table.well_formed s.there) s.value also in
      λ i. (slots.0 i, values i)

  named_not : (path : List ℕ) → NamesField nodes path → NamesNoField nodes path → ⊥
  named_not path (slot, at, field) none = none slot at field.there field.named

  one_fault : (line : List ℕ) (c d : WriteCode) → BreaksWrite form nodes line c → BreaksWrite form nodes line d → c ≡ d
  one_fault line NoField NoField f g = refl
  one_fault line NoField NoWrite f g = absurd (named_not (line_path line) g.0 f)
  one_fault line NoWrite NoField f g = absurd (named_not (line_path line) f.0 g)
  one_fault line NoWrite NoWrite f g = refl

  not_both : (line : List ℕ) (write : Write) (c : WriteCode) → SaysLineWrite form nodes line write → BreaksWrite form nodes line c → ⊥
  not_both line write NoField s f = f write.0 s.at s.there (sym (said_path line write s))
  not_both line write NoWrite s f = f.1 write s

  pub is_definite : IsDefinite (write_lines form nodes)
  is_definite = record {
    one_said = λ earlier line a b s t. one_said line a b s t;
    one_fault = λ earlier line c d f g. one_fault line c d f g;
    not_both = λ earlier line write c s f. not_both line write c s f;
  }

  -- ---- a line that is being read

  module _ (line path rest : List ℕ) (begins : path ≡ line_path line) (split : line ≡ path ++ rest) where
    pub no_slot : FindsSlot nodes path None → BreaksWrite form nodes line NoField
    no_slot none = subst (λ (l : List ℕ). FindsSlot nodes l None) begins none

    module _ (slot : ℕ) (found : FindsSlot nodes path (Some slot)) where
      named : NamesField nodes (line_path line)
      named = (slot, found.0, record { there = found.1; named = found.2 ∙ begins })

      pub no_text : ((text : List ℕ) → rest ≢ 32 ∷ text ++ 10 ∷ []) → BreaksWrite form nodes line NoWrite
      no_text none = (named, λ write s. none s.text (said_rest line path rest write s begins split))

      pub within : slot < length (slots_of nodes)
      within = slice_get_within (slots_of nodes) slot found.0 found.1

      module _ (text : List ℕ) (shape : Shape) (is : rest ≡ 32 ∷ text ++ 10 ∷ []) (here : Some shape ≡ option_map (λ (at : SlotAt). at.shape) (slice_get (slots_of nodes) slot)) where
        own_shape : found.0.shape ≡ shape
        own_shape = shape_here nodes slot found.0 shape found.1 here

        pub no_value : ((v : Value) → IsWrite form shape v text → ⊥) → BreaksWrite form nodes line NoWrite
        no_value none = (
          named,
          λ write s.
              let slots = one_slot write.0 slot s.at found.0 s.there found.1 (sym (said_path line write s) ∙ sym begins ∙ sym found.2) in
              let texts : s.text ≡ text = one_fed s.text text (sym (said_rest line path rest write s begins split) ∙ is) in
              none write.1 (subst (λ (own : Shape). IsWrite form own write.1 text) (ap (λ (at : SlotAt). at.shape) slots.1 ∙ own_shape)
              (subst (λ (t : List ℕ). IsWrite form s.at.shape write.1 t) texts s.value)),
        )

        module _ (v : Value) (value : IsWrite form shape v text) where
          pub says : SaysLineWrite form nodes line (slot, v)
          says = record {
            at = found.0;
            there = found.1;
            text = text;
            value = subst (λ (own : Shape). IsWrite form own v text) (sym own_shape) value;
            is = split ∙ ap (λ (l : List ℕ). l ++ rest) (sym found.2) ∙ ap (λ (l : List ℕ). name_path found.0 ++ l) is ∙ sym (fed_path found.0 text);
          }

          -- The value may be written at the slot.
          pub of_shape : (at : SlotAt) → HasSlot nodes slot at → IsOfShape at.shape v
          of_shape at there =
              subst (λ (own : Shape). IsOfShape own v) (sym (shape_here nodes slot at shape there here)) (write_of_shape form shape v text value)

          pub fits : FitsAtoms nodes (only nodes slot v)
          fits =
              only_fits nodes slot found.0 v found.1
              (λ q p i. write_fits form shape v text q p value (subst (λ (own : Shape). InLayout own q v p) own_shape i))
