-- The field that holds a slot, and what is inside it.
use Rattle.std.proofs.Common.{◌≡◌, ◌⊎◌, inl, inr, ℕ, ◌+◌, ◌-◌, ◌<◌, ◌≤◌, zero, suc, List, [], ◌∷◌, length, map, get_or, Option, Some, None, refl, sym, ◌∙◌, ap, subst, arith, ◌++◌, append_assoc}
use Rattle.std.specs.Prelude.{◌≢◌}
use Rattle.std.specs.List.{slice_get}
use Rattle.std.specs.Option.{option_map}
use Rattle.std.proofs.lemmas.Option.{slice_get-get_or, slice_get-map}
use Rattle.std.proofs.lemmas.Bool.{cases_lt}
use Rattle.std.proofs.lemmas.List.{length-map}
use Rattle.bag_model.specs.declared.Pick.TheVariants as pick
use Rattle.bag_model.specs.Shapes as model
use Rattle.bag_model.specs.Slots.{SlotAt, slots_of, slots_in, slot_count, starts, within, dotted, name_path}
use Rattle.bag_model.specs.Tables.{IsShape, levels, levels_under, nodes_under, node_count}
use Rattle.bag_model.proofs.SlotLaws.{slots_list, slots_of-list, slot_there, starts-zero, length-slots, get_front, get_back}
use Rattle.bag_model.proofs.PathLaws.{is_field}
use Rattle.scalar_types.specs.KindViews.{kind_of}
use Rattle.field_table.specs.declared.shapes.Shape.{Shape}
use Rattle.field_table.specs.declared.shapes.Shape.TheVariants as variants
use Rattle.field_table.specs.declared.shapes.Slot.{Slot}
use Rattle.field_table.specs.declared.shapes.Slots.{Slots}
use Rattle.field_table.specs.declared.shapes.Shape.TheFolds.{fold-roll-Shape, fold_out-Slot, fold_out-Shape, map-Shape}
use Rattle.field_table.specs.declared.shapes.Shape.TheOpen.{Shape-F}
use Rattle.field_table.specs.declared.shapes.Shape.TheViews.{out-Slots, out-Shape, roll-Shape, roll-out-Shape}
use Rattle.field_table.specs.Tables.{Kept, KeptField, KeptBag, Bag, plain_shape, plain_bag, ends_of, start_at, Holds, IsReady, IsKept}
use Rattle.field_table.specs.Plain.{shape_step, slot_step, slots_step, kept_shape, kept_field, kept_bag, field_of, shape_of, nodes_of}
use Rattle.field_table.proofs.Ends.{before_is, length-ends}
use Rattle.field_table.proofs.Opened.{get_field, length_fields, has_indexes, open_ends}

pub shape_bag : (inner : Slots) → kept_shape (variants.Bag inner) ≡ Bag (kept_bag inner)
shape_bag inner = ap kept_shape (sym (variants.rolls-Bag inner)) ∙ fold-roll-Shape Kept KeptField KeptBag shape_step slot_step slots_step (Shape-F.Bag inner)

pub field_open : (x : Slot) → kept_field x ≡ record { name = x.name; number = x.number; shape = kept_shape x.shape }
field_open x = fold_out-Slot Kept KeptField KeptBag shape_step slot_step slots_step x

-- A field of the code as a plain one.
pub field_is : (x : Slot) → field_of x ≡ record { name = x.name; number = x.number; shape = shape_of x.shape }
field_is x = ap (λ (k : KeptField). record { name = k.name; number = k.number; shape = plain_shape k.shape }) (field_open x)

-- The item at a place is the field there.
pub item_field : (s : Slots) (place : ℕ) (x : Slot) → slice_get (out-Slots s).items.items place ≡ Some x
    → slice_get (model.fields (nodes_of s)) place ≡ Some (record { name = x.name; number = x.number; shape = shape_of x.shape })
item_field s place x at = get_field s place ∙ ap (option_map field_of) at ∙ ap Some (field_is x)

pub item_at : (s : Slots) (place : ℕ) (x : Slot) → place < length (out-Slots s).items.items → x ≡ get_or (out-Slots s).items.items place x → slice_get (out-Slots s).items.items place ≡ Some x
item_at s place x within is = slice_get-get_or (out-Slots s).items.items place x within ∙ ap Some (sym is)

-- Where a field starts, by the ends.
pub start_is : (s : Slots) (place : ℕ) → IsReady (kept_bag s) → place ≤ length (model.fields (nodes_of s)) → start_at (ends_of (kept_bag s)) place ≡ starts (model.fields (nodes_of s)) place
start_is s place ready within =
    ap (λ ends. start_at ends place) (open_ends s ∙ (has_indexes s ready.indexed).ends) ∙ before_is (nodes_of s) ready.small place within

pub count_bound : (fs : List model.Field) (i : ℕ) (f : model.Field) → slice_get fs i ≡ Some f → slot_count f.shape ≤ length (slots_list fs)
count_bound [] i f at = absurd (cc at)
count_bound (g ∷ gs) zero f at = let same : g ≡ f = cc at in subst (λ (h : model.Field). slot_count h.shape ≤ length (slots_list (g ∷ gs))) same (omega (arith, length-slots g gs))
count_bound (g ∷ gs) (suc i) f at = omega (arith, count_bound gs i f at, length-slots g gs)

pub start_next : (fs : List model.Field) (i : ℕ) (f : model.Field) → slice_get fs i ≡ Some f → starts fs (suc i) ≡ starts fs i + slot_count f.shape
start_next [] i f at = absurd (cc at)
start_next (g ∷ gs) zero f at =
    let same : g ≡ f = cc at in
    subst (λ (h : model.Field). starts (g ∷ gs) 1 ≡ 0 + slot_count h.shape) same (omega (arith, starts-zero gs))
start_next (g ∷ gs) (suc i) f at = omega (arith, start_next gs i f at)

-- A bag in a field is as ready as the bag around it.
pub bag_ready : (s : Slots) (place : ℕ) (x : Slot) (inner : KeptBag) → IsReady (kept_bag s) → slice_get (out-Slots s).items.items place ≡ Some x → kept_shape x.shape ≡ Bag inner → IsReady inner
bag_ready s place x inner ready at is =
    let field = item_field s place x at in
    let plain_is : shape_of x.shape ≡ model.Shape.Bag (plain_bag inner) = ap plain_shape is in
    let inside = subst IsKept (ap (λ (k : KeptField). k.shape) (field_open x) ∙ is) ((has_indexes s ready.indexed).inside place x at) in
    let count = count_bound (model.fields (nodes_of s)) place (record { name = x.name; number = x.number; shape = shape_of x.shape }) field in
    let bound : length (slots_of (plain_bag inner)) ≤ length (slots_list (model.fields (nodes_of s))) = subst (λ (shape : model.Shape). slot_count shape ≤ length (slots_list (model.fields (nodes_of s)))) plain_is count in
    record {
      fields = subst IsShape plain_is (is_field (nodes_of s) place (record { name = x.name; number = x.number; shape = shape_of x.shape }) ready.fields field).1;
      indexed = inside.0;
      in_order = inside.1;
      small = omega (arith, bound, ready.small, ap length (slots_of-list (nodes_of s)));
    }

pub inner_ready : (s : Slots) (place : ℕ) (x : Slot) (inner : Slots) → IsReady (kept_bag s) → slice_get (out-Slots s).items.items place ≡ Some x → x.shape ≡ variants.Bag inner → IsReady (kept_bag inner)
inner_ready s place x inner ready at is = bag_ready s place x (kept_bag inner) ready at (ap kept_shape is ∙ shape_bag inner)

-- The slot with a number is one of the field that holds it.
pub record IsHeld (s : Slots) (slot place : ℕ) (x : Slot) : Type 0 where
  pub at : slice_get (out-Slots s).items.items place ≡ Some x
  pub inside : slot - starts (model.fields (nodes_of s)) place < slot_count (shape_of x.shape)
  pub found : slice_get (slots_of (nodes_of s)) slot ≡ option_map (within x.name x.number) (slice_get (slots_in (shape_of x.shape)) (slot - starts (model.fields (nodes_of s)) place))

pub held : (s : Slots) (slot place : ℕ) (x : Slot) → Holds (nodes_of s) slot place → x ≡ get_or (out-Slots s).items.items place x → IsHeld s slot place x
held s slot place x holds is =
    let fs = model.fields (nodes_of s) in
    let there : slice_get (out-Slots s).items.items place ≡ Some x = item_at s place x (omega (arith, holds.within, length_fields s)) is in
    let field : model.Field = record { name = x.name; number = x.number; shape = shape_of x.shape } in
    let at_field : slice_get fs place ≡ Some field = item_field s place x there in
    let less : slot - starts fs place < slot_count (shape_of x.shape) = omega (arith, holds.from, holds.upto, start_next fs place field at_field) in
    record {
      at = there;
      inside = less;
      found = ap (λ l. slice_get l slot) (slots_of-list (nodes_of s)) ∙ slot_there fs place field slot (slot - starts fs place) at_field (omega (arith, holds.from)) less;
    }

-- The ends are as many as the fields.
pub ends_are : (s : Slots) → IsReady (kept_bag s) → length (ends_of (kept_bag s)) ≡ length (model.fields (nodes_of s))
ends_are s ready = ap length (open_ends s ∙ (has_indexes s ready.indexed).ends) ∙ length-ends 0 (model.fields (nodes_of s))

-- The shape of the field that holds a slot, where it is no bag, is the slot's.
pub own_slot : (shape : model.Shape) → ((nodes : model.Nodes) → shape ≢ model.Shape.Bag nodes) → slots_in shape ≡ record { names = []; numbers = []; shape = shape } ∷ []
own_slot model.Shape.Taint h = refl
own_slot (model.Shape.Scalar pick kind) h = refl
own_slot (model.Shape.Set kind) h = refl
own_slot model.Shape.Counter h = refl
own_slot (model.Shape.Map key value) h = refl
own_slot (model.Shape.Bag nodes) h = absurd (h nodes refl)

first_of_one : {A : Type 0} (x : A) (i : ℕ) → i < 1 → slice_get (x ∷ []) i ≡ Some x
first_of_one x zero h = refl
first_of_one x (suc i) h = absurd (omega (arith, h))

-- The slot that a field holds which is no bag.
pub held_own : (s : Slots) (slot place : ℕ) (x : Slot) → IsHeld s slot place x → ((nodes : model.Nodes) → shape_of x.shape ≢ model.Shape.Bag nodes)
    → slice_get (slots_of (nodes_of s)) slot ≡ Some (record { names = x.name ∷ []; numbers = x.number ∷ []; shape = shape_of x.shape })
held_own s slot place x h no_bag =
    let own = own_slot (shape_of x.shape) no_bag in
    let n = slot - starts (model.fields (nodes_of s)) place in
    let less : n < 1 = subst (λ (l : List SlotAt). n < length l) own h.inside in
    h.found ∙ ap (option_map (within x.name x.number)) (ap (λ l. slice_get l n) own ∙ first_of_one _ n less)

-- The bag around a slot changes neither its shape nor what is after the first name and number.
pub shape_within : (name : List ℕ) (number : ℕ) (slot : Option SlotAt) → option_map (λ (found : SlotAt). found.shape) (option_map (within name number) slot) ≡ option_map (λ (found : SlotAt). found.shape) slot
shape_within name number None = refl
shape_within name number (Some slot) = refl

-- A shape that is no bag isn't seen as one.
pub no_bag : (shape : Shape) → ((inner : Slots) → shape ≢ variants.Bag inner) → (nodes : model.Nodes) → shape_of shape ≢ model.Shape.Bag nodes
no_bag shape h nodes is = by (out-Shape shape) refl
  where
    seen : kept_shape shape ≡ shape_step (map-Shape Shape Slot Slots Kept KeptField KeptBag kept_shape kept_field kept_bag (out-Shape shape))
    seen = fold_out-Shape Kept KeptField KeptBag shape_step slot_step slots_step shape

    plainly : (o : Shape-F Shape Slot Slots) → out-Shape shape ≡ o → plain_shape (shape_step (map-Shape Shape Slot Slots Kept KeptField KeptBag kept_shape kept_field kept_bag o)) ≡ model.Shape.Bag nodes
    plainly o e = subst (λ (p : Shape-F Shape Slot Slots). plain_shape (shape_step (map-Shape Shape Slot Slots Kept KeptField KeptBag kept_shape kept_field kept_bag p)) ≡ model.Shape.Bag nodes) e (ap plain_shape (sym seen) ∙ is)

    by : (o : Shape-F Shape Slot Slots) → out-Shape shape ≡ o → ⊥
    by (Shape-F.Bag inner) e = h inner (sym (roll-out-Shape shape) ∙ (ap roll-Shape e ∙ variants.rolls-Bag inner))
    by Shape-F.Taint e = let bad : model.Shape.Taint ≡ model.Shape.Bag nodes = plainly Shape-F.Taint e in cc bad
    by Shape-F.Counter e = let bad : model.Shape.Counter ≡ model.Shape.Bag nodes = plainly Shape-F.Counter e in cc bad
    by (Shape-F.Scalar kind) e = let bad : model.Shape.Scalar pick.Least (kind_of kind) ≡ model.Shape.Bag nodes = plainly (Shape-F.Scalar kind) e in cc bad
    by (Shape-F.Greatest kind) e = let bad : model.Shape.Scalar pick.Greatest (kind_of kind) ≡ model.Shape.Bag nodes = plainly (Shape-F.Greatest kind) e in cc bad
    by (Shape-F.Set kind) e = let bad : model.Shape.Set (kind_of kind) ≡ model.Shape.Bag nodes = plainly (Shape-F.Set kind) e in cc bad
    by (Shape-F.Map key value) e = let bad : model.Shape.Map (kind_of key) (plain_shape (kept_shape value.value)) ≡ model.Shape.Bag nodes = plainly (Shape-F.Map key value) e in cc bad

-- There are fewer fields inside a field than in the bag that it is in.
pub fewer : (nodes : model.Nodes) (i : ℕ) (f : model.Field) → slice_get (model.fields nodes) i ≡ Some f → nodes_under f.shape < node_count nodes
fewer model.Nodes.no_node i f at = absurd (cc at)
fewer (model.Nodes.node name number shape nodes) zero f at =
    let same : record { name = name; number = number; shape = shape } ≡ f = cc at in
    subst (λ (g : model.Field). nodes_under g.shape < node_count (model.Nodes.node name number shape nodes)) same (omega arith)
fewer (model.Nodes.node name number shape nodes) (suc i) f at = omega (arith, fewer nodes i f at)

pub inner_fewer : (s : Slots) (place : ℕ) (x : Slot) (inner : Slots) → slice_get (out-Slots s).items.items place ≡ Some x → x.shape ≡ variants.Bag inner → node_count (nodes_of inner) < node_count (nodes_of s)
inner_fewer s place x inner at is =
    let plain_is : shape_of x.shape ≡ model.Shape.Bag (nodes_of inner) = ap shape_of is ∙ ap plain_shape (shape_bag inner) in
    subst (λ (shape : model.Shape). nodes_under shape < node_count (nodes_of s)) plain_is (fewer (nodes_of s) place (record { name = x.name; number = x.number; shape = shape_of x.shape }) (item_field s place x at))

pub levels_there : (nodes : model.Nodes) (i : ℕ) (f : model.Field) → slice_get (model.fields nodes) i ≡ Some f → 1 + levels_under f.shape ≤ levels nodes
levels_there model.Nodes.no_node i f at = absurd (cc at)
levels_there (model.Nodes.node name number shape nodes) zero f at =
    let same : record { name = name; number = number; shape = shape } ≡ f = cc at in
    subst (λ (g : model.Field). 1 + levels_under g.shape ≤ levels (model.Nodes.node name number shape nodes)) same (omega arith)
levels_there (model.Nodes.node name number shape nodes) (suc i) f at = omega (arith, levels_there nodes i f at)

pub some_level : (s : Slots) (slot place : ℕ) (x : Slot) → IsHeld s slot place x → 1 ≤ levels (nodes_of s)
some_level s slot place x h = omega (arith, levels_there (nodes_of s) place (record { name = x.name; number = x.number; shape = shape_of x.shape }) (item_field s place x h.at))

-- A slot in a bag inside: it is one of that bag, which is smaller and as ready.
pub record IsHeldInside (s : Slots) (slot before : ℕ) (x : Slot) (inner : Slots) : Type 0 where
  pub fewer_nodes : node_count (nodes_of inner) < node_count (nodes_of s)
  pub ready : IsReady (kept_bag inner)
  pub less : slot - before < length (slots_of (nodes_of inner))
  pub found : slice_get (slots_of (nodes_of s)) slot ≡ option_map (within x.name x.number) (slice_get (slots_of (nodes_of inner)) (slot - before))
  pub deeper : 1 + levels (nodes_of inner) ≤ levels (nodes_of s)

pub held_inside : (s : Slots) (slot place before : ℕ) (x : Slot) (inner : Slots) → IsReady (kept_bag s) → Holds (nodes_of s) slot place → x ≡ get_or (out-Slots s).items.items place x
    → before ≡ starts (model.fields (nodes_of s)) place → x.shape ≡ variants.Bag inner → IsHeldInside s slot before x inner
held_inside s slot place before x inner ready holds at here is =
    let h = held s slot place x holds at in
    let plain_is : shape_of x.shape ≡ model.Shape.Bag (nodes_of inner) = ap shape_of is ∙ ap plain_shape (shape_bag inner) in
    let field : model.Field = record { name = x.name; number = x.number; shape = shape_of x.shape } in
    record {
      fewer_nodes = inner_fewer s place x inner h.at is;
      ready = inner_ready s place x inner ready h.at is;
      less =
          subst (λ (n : ℕ). slot - n < length (slots_of (nodes_of inner))) (sym here)
          (subst (λ (shape : model.Shape). slot - starts (model.fields (nodes_of s)) place < slot_count shape) plain_is h.inside);
      found =
          h.found
          ∙ ap (option_map (within x.name x.number)) (ap (λ shape. slice_get (slots_in shape) (slot - starts (model.fields (nodes_of s)) place)) plain_is ∙ ap (slice_get (slots_of (nodes_of inner))) (ap (λ n. slot - n) (sym here)));
      deeper = subst (λ (shape : model.Shape). 1 + levels_under shape ≤ levels (nodes_of s)) plain_is (levels_there (nodes_of s) place field (item_field s place x h.at));
    }

pub numbers_within : (front : List ℕ) (name : List ℕ) (number : ℕ) (slot : Option SlotAt)
    → option_map (λ (found : SlotAt). (front ++ number ∷ []) ++ found.numbers) slot ≡ option_map (λ (found : SlotAt). front ++ found.numbers) (option_map (within name number) slot)
numbers_within front name number None = refl
numbers_within front name number (Some slot) = ap Some (append_assoc front (number ∷ []) slot.numbers)

-- The names of a slot in a bag aren't empty.
named : (fs : List model.Field) (i : ℕ) (slot : SlotAt) → slice_get (slots_list fs) i ≡ Some slot → (name : List ℕ) × (names : List (List ℕ)) × (slot.names ≡ name ∷ names)
named [] i slot at = absurd (cc at)
named (f ∷ fs) i slot at = by (cases_lt i (slot_count f.shape)) (λ k. named fs k slot)
  where
    inside : List SlotAt
    inside = map (within f.name f.number) (slots_in f.shape)

    long : length inside ≡ slot_count f.shape
    long = length-map (slots_in f.shape) (within f.name f.number)

    of_within : (o : Option SlotAt) → option_map (within f.name f.number) o ≡ Some slot → (name : List ℕ) × (names : List (List ℕ)) × (slot.names ≡ name ∷ names)
    of_within None e = absurd (cc e)
    of_within (Some own) e = let same : within f.name f.number own ≡ slot = cc e in (f.name, own.names, sym (ap (λ (t : SlotAt). t.names) same))

    by : (i < slot_count f.shape) ⊎ (slot_count f.shape ≤ i) → ((k : ℕ) → slice_get (slots_list fs) k ≡ Some slot → (name : List ℕ) × (names : List (List ℕ)) × (slot.names ≡ name ∷ names))
        → (name : List ℕ) × (names : List (List ℕ)) × (slot.names ≡ name ∷ names)
    by (inl less) later = of_within (slice_get (slots_in f.shape) i) (sym (slice_get-map (within f.name f.number) (slots_in f.shape) i) ∙ (sym (get_front inside (slots_list fs) i (omega (arith, less, long))) ∙ at))
    by (inr more) later = later (i - slot_count f.shape) (sym (get_back inside (slots_list fs) i (i - slot_count f.shape) (omega (arith, more, long))) ∙ at)

-- The path of a slot in a bag inside is that of the bag, a dot, and the slot's own.
pub path_within : (nodes : model.Nodes) (i : ℕ) (front name : List ℕ) (number : ℕ)
    → option_map (λ (found : SlotAt). ((front ++ name) ++ 46 ∷ []) ++ name_path found) (slice_get (slots_of nodes) i)
    ≡ option_map (λ (found : SlotAt). front ++ name_path found) (option_map (within name number) (slice_get (slots_of nodes) i))
path_within nodes i front name number = by (slice_get (slots_of nodes) i) refl
  where
    by : (o : Option SlotAt) → slice_get (slots_of nodes) i ≡ o
        → option_map (λ (found : SlotAt). ((front ++ name) ++ 46 ∷ []) ++ name_path found) o ≡ option_map (λ (found : SlotAt). front ++ name_path found) (option_map (within name number) o)
    by None e = refl
    by (Some slot) e =
        let n = named (model.fields nodes) i slot (ap (λ l. slice_get l i) (sym (slots_of-list nodes)) ∙ e) in
        let longer : dotted (name ∷ slot.names) ≡ name ++ 46 ∷ dotted slot.names = ap (λ l. dotted (name ∷ l)) n.2 ∙ ap (λ l. name ++ 46 ∷ dotted l) (sym n.2) in
        ap Some (append_assoc (front ++ name) (46 ∷ []) (dotted slot.names) ∙ append_assoc front name (46 ∷ dotted slot.names) ∙ ap (λ l. front ++ l) (sym longer))
