-- What a path finds by its first name, and then by the rest.
use Rattle.std.proofs.Common.{◌≡◌, ℕ, ◌+◌, List, [], ◌∷◌, ◌++◌, Option, Some, None, refl, sym, ◌∙◌, ap, subst, arith}
use Rattle.std.specs.Prelude.{◌≢◌}
use Rattle.std.specs.List.{slice_get}
use Rattle.bag_model.specs.Shapes.{Shape, Nodes, Field, fields, Taint, Scalar, Set, Counter, Map, Bag}
use Rattle.bag_model.specs.Slots.{dotted, starts, IsWithin, IsReached, FindsField, FindsSlot}
use Rattle.bag_model.specs.Tables.{AreFields}
use Rattle.bag_model.specs.Words.{HasNoDot}
use Rattle.bag_model.proofs.PathLaws.{reached_at, reached_from, is_field, one_place, name_no_dot, dot_there, one_split}
use Rattle.bag_model.proofs.SlotPaths.{slot_leads}
use Rattle.field_table.specs.Shapes.{IsSplit, IsOnly}

-- The names after the first are the rest of a path.
abbrev pub AreRest : List (List ℕ) → Option (List ℕ) → Type 0
AreRest [] None = Unit {0}
AreRest (m ∷ ms) (Some rest) = dotted (m ∷ ms) ≡ rest
AreRest [] (Some rest) = ⊥
AreRest (m ∷ ms) None = ⊥

first_name : (path own : List ℕ) (names : List (List ℕ)) (name : List ℕ) (rest : Option (List ℕ)) → HasNoDot own → HasNoDot name → dotted (own ∷ names) ≡ path → IsSplit path name rest → (own ≡ name) × AreRest names rest
first_name path own [] name None h k is split = (is ∙ split, tt)
first_name path own [] name (Some rest) h k is split = absurd (dot_there own name rest h (is ∙ split))
first_name path own (m ∷ ms) name None h k is split = absurd (dot_there name own (dotted (m ∷ ms)) k (sym (is ∙ split)))
first_name path own (m ∷ ms) name (Some rest) h k is split = one_split own name (dotted (m ∷ ms)) rest h k (is ∙ split)

-- Where a field is reached by a path, it is by the field with the first name.
module _ (nodes : Nodes) (h : AreFields nodes) (path name : List ℕ) (rest : Option (List ℕ)) (no_dot : HasNoDot name) (split : IsSplit path name rest) where
  pub finds_none : ((place : ℕ) (f : Field) → slice_get (fields nodes) place ≡ Some f → f.name ≢ name) → FindsField nodes path None
  finds_none none own names before shape reached is =
      let r = reached_from nodes own names before shape reached in
      let clear : HasNoDot own = subst HasNoDot r.named (name_no_dot r.field.name (is_field nodes r.place r.field h r.at).0) in
      none r.place r.field r.at (r.named ∙ (first_name path own names name rest clear no_dot is split).0)

  module _ (i : ℕ) (f : Field) (at : slice_get (fields nodes) i ≡ Some f) (named : f.name ≡ name) where
    -- Whatever has the path is in that field.
    pub only_there : (own : List ℕ) (names : List (List ℕ)) (before : ℕ) (shape : Shape) → IsReached nodes own names before shape → dotted (own ∷ names) ≡ path → AreRest names rest × ((b : ℕ) × IsWithin f.shape names b shape)
    only_there own names before shape reached is =
        let r = reached_from nodes own names before shape reached in
        let clear : HasNoDot own = subst HasNoDot r.named (name_no_dot r.field.name (is_field nodes r.place r.field h r.at).0) in
        let first = first_name path own names name rest clear no_dot is split in
        let place : r.place ≡ i = one_place nodes r.place i r.field f h r.at at (r.named ∙ first.0 ∙ sym named) in
        let also : slice_get (fields nodes) i ≡ Some r.field = subst (λ (n : ℕ). slice_get (fields nodes) n ≡ Some r.field) place r.at in
        let same : r.field ≡ f = (let e : Some r.field ≡ Some f = sym also ∙ at in cc e) in
        (first.1, (r.inside, subst (λ (g : Field). IsWithin g.shape names r.inside shape) same r.within))

    -- Nothing else than that field has the path.
    pub finds_only : ((names : List (List ℕ)) (b : ℕ) (shape : Shape) → AreRest names rest → IsWithin f.shape names b shape → ⊥) → FindsField nodes path None
    finds_only nothing own names before shape reached is = let r = only_there own names before shape reached is in nothing names r.1.0 shape r.0 r.1.1

pub finds_own : (nodes : Nodes) (i : ℕ) (f : Field) (path name : List ℕ) → slice_get (fields nodes) i ≡ Some f → f.name ≡ name → path ≡ name → FindsField nodes path (Some (starts (fields nodes) i, f.shape))
finds_own nodes i f path name at named is =
    (f.name, [], named ∙ sym is, subst (λ (n : ℕ). IsReached nodes f.name [] n f.shape) (omega arith) (reached_at nodes i f [] 0 f.shape at (refl, refl)))

pub finds_inside : (nodes inner : Nodes) (i : ℕ) (f : Field) (path name rest : List ℕ) (b : ℕ) (shape : Shape) → slice_get (fields nodes) i ≡ Some f → f.name ≡ name → f.shape ≡ Bag inner → path ≡ name ++ 46 ∷ rest
    → FindsField inner rest (Some (b, shape)) → FindsField nodes path (Some (starts (fields nodes) i + b, shape))
finds_inside nodes inner i f path name rest b shape at named bag is found =
    let m = found.0 in
    let ms = found.1 in (
      f.name,
      m ∷ ms,
      ap (λ l. l ++ 46 ∷ dotted (m ∷ ms)) named ∙ ap (λ l. name ++ 46 ∷ l) found.2 ∙ sym is,
      reached_at nodes i f (m ∷ ms) b shape at (subst (λ (s : Shape). IsWithin s (m ∷ ms) b shape) (sym bag) found.3),
    )

-- A field that is no bag has nothing inside.
pub nothing_inside : (own : Shape) → ((nodes : Nodes) → own ≢ Bag nodes) → (rest : List ℕ) (names : List (List ℕ)) (b : ℕ) (shape : Shape) → AreRest names (Some rest) → IsWithin own names b shape → ⊥
nothing_inside own h rest [] b shape are within = are
nothing_inside Taint h rest (m ∷ ms) b shape are within = within
nothing_inside (Scalar pick kind) h rest (m ∷ ms) b shape are within = within
nothing_inside (Set kind) h rest (m ∷ ms) b shape are within = within
nothing_inside Counter h rest (m ∷ ms) b shape are within = within
nothing_inside (Map key value) h rest (m ∷ ms) b shape are within = within
nothing_inside (Bag nodes) h rest (m ∷ ms) b shape are within = h nodes refl

-- A bag in which nothing has the rest of a path has nothing inside for it.
pub nothing_in_bag : (inner : Nodes) (own : Shape) → own ≡ Bag inner → (rest : List ℕ) → FindsField inner rest None → (names : List (List ℕ)) (b : ℕ) (shape : Shape) → AreRest names (Some rest) → IsWithin own names b shape → ⊥
nothing_in_bag inner own bag rest none [] b shape are within = are
nothing_in_bag inner own bag rest none (m ∷ ms) b shape are within = none m ms b shape (subst (λ (s : Shape). IsWithin s (m ∷ ms) b shape) bag within) are

-- Without a rest it is that field.
pub own_alone : (own : Shape) (names : List (List ℕ)) (b : ℕ) (shape : Shape) → AreRest names None → IsWithin own names b shape → shape ≡ own
own_alone own [] b shape are within = within.1
own_alone own (m ∷ ms) b shape are within = absurd are

-- With a rest it is what the bag has alone.
pub inside_alone : (inner : Nodes) (own : Shape) → own ≡ Bag inner → (rest : List ℕ) (found : Shape)
    → ((name : List ℕ) (names : List (List ℕ)) (before : ℕ) (shape : Shape) → IsReached inner name names before shape → dotted (name ∷ names) ≡ rest → shape ≡ found)
    → (names : List (List ℕ)) (b : ℕ) (shape : Shape) → AreRest names (Some rest) → IsWithin own names b shape → shape ≡ found
inside_alone inner own bag rest found only [] b shape are within = absurd are
inside_alone inner own bag rest found only (m ∷ ms) b shape are within = only m ms b shape (subst (λ (s : Shape). IsWithin s (m ∷ ms) b shape) bag within) are

-- Where a path finds a bag alone, no slot has it.
pub bag_no_slot : (nodes : Nodes) (path : List ℕ) (before : ℕ) (own : Shape) (inner : Nodes) → own ≡ Bag inner → IsOnly nodes path (before, own) → FindsSlot nodes path None
bag_no_slot nodes path before own inner bag only place slot at is =
    let r = slot_leads nodes place slot at in
    r.no_bag inner (only r.name r.names place slot.shape r.reached (ap dotted (sym r.is) ∙ is) ∙ bag)
