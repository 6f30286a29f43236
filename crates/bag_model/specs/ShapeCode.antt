-- Codes of shapes, by which a proof tells values of a list of fields apart. They say nothing of a
-- table.
use Rattle.std.specs.Prelude.{◌≡◌, ℕ, List, ◌⊎◌, ◌==◌, if◌then◌else◌}
use Rattle.std.specs.Coded.{Coded, code_by, coded⊎, coded_ℕ, coded_list}
use Rattle.std.proofs.Common.{refl, inl, inr, ap, subst, sym}
use Rattle.bag_model.specs.declared.Pick.{Pick}
use Rattle.bag_model.specs.declared.Pick.TheVariants.{Least, Greatest}
use Rattle.bag_model.specs.declared.words.ScalarWord.TheVariants.{Bool as Boolean, Int32, Int64, Sint32, Sint64, Uint32, Uint64, Fixed32, Fixed64, Sfixed32, Sfixed64, Str, Bytes}
use Rattle.bag_model.specs.Scalars.{Word, ScalarKind, One, Packed}
use Rattle.bag_model.specs.Shapes.{Shape, Nodes, Taint, Scalar, Set, Counter, Map, Bag, no_node, node}
use base.Stored.{Gv, gnil, gnum, gcons}

-- The number that stands for a scalar word.
abbrev pub word_number : Word → ℕ
word_number Boolean = 0
word_number Int32 = 1
word_number Int64 = 2
word_number Sint32 = 3
word_number Sint64 = 4
word_number Uint32 = 5
word_number Uint64 = 6
word_number Fixed32 = 7
word_number Fixed64 = 8
word_number Sfixed32 = 9
word_number Sfixed64 = 10
word_number Str = 11
word_number Bytes = 12

-- The scalar word that a number stands for.
abbrev pub word_back : ℕ → Word
word_back n =
    if n == 0 then Boolean else
    (if n == 1 then Int32 else
    (if n == 2 then Int64 else (if n == 3 then Sint32 else (if n == 4 then Sint64
    else (if n == 5 then Uint32 else
    (if n == 6 then Uint64 else (if n == 7 then Fixed32 else (if n == 8 then Fixed64
    else (if n == 9 then Sfixed32 else
    (if n == 10 then Sfixed64 else (if n == 11 then Str else Bytes)))))))))))

-- A scalar word comes back from its number.
pub word_undone : (word : Word) → word_back (word_number word) ≡ word
word_undone Boolean = refl
word_undone word = refl

-- The code of scalar words, by their numbers.
abbrev pub word_code : Coded Word
word_code = code_by ℕ coded_ℕ word_number word_back word_undone

-- The word or the words that a kind has.
abbrev pub kind_parts : ScalarKind → Word ⊎ List Word
kind_parts (One word) = inl word
kind_parts (Packed words) = inr words

-- The kind that has this word or these words.
abbrev pub kind_back : Word ⊎ List Word → ScalarKind
kind_back (inl word) = One word
kind_back (inr words) = Packed words

-- A kind comes back from its words.
pub kind_undone : (kind : ScalarKind) → kind_back (kind_parts kind) ≡ kind
kind_undone (One word) = refl
kind_undone (Packed words) = refl

-- The code of kinds, by their words.
abbrev pub kind_code : Coded ScalarKind
kind_code =
    code_by (Word ⊎ List Word)
    (coded⊎ word_code (coded_list word_code)) kind_parts kind_back kind_undone

-- The number that stands for which value of a scalar stays.
abbrev pub pick_number : Pick → ℕ
pick_number Least = 0
pick_number Greatest = 1

-- Which value of a scalar stays, by the number that stands for it.
abbrev pub pick_back : ℕ → Pick
pick_back n = if n == 0 then Least else Greatest

-- The choice of the value that stays comes back from its number.
pub pick_undone : (pick : Pick) → pick_back (pick_number pick) ≡ pick
pick_undone Least = refl
pick_undone Greatest = refl

-- The code of which value of a scalar stays.
abbrev pub pick_code : Coded Pick
pick_code = code_by ℕ coded_ℕ pick_number pick_back pick_undone

-- The code of names.
abbrev pub name_code : Coded (List ℕ)
name_code = coded_list coded_ℕ

abbrev mutual
  -- A shape as a tree of numbers, by which a proof tells shapes apart.
  pub shape_gv : Shape → Gv
  shape_gv Taint = gcons (gnum 0) gnil
  shape_gv (Scalar pick kind) = gcons (gnum 1) (gcons (pick_code.code pick) (kind_code.code kind))
  shape_gv (Set kind) = gcons (gnum 2) (kind_code.code kind)
  shape_gv Counter = gcons (gnum 3) gnil
  shape_gv (Map key value) = gcons (gnum 4) (gcons (kind_code.code key) (shape_gv value))
  shape_gv (Bag nodes) = gcons (gnum 5) (nodes_gv nodes)

  -- The fields of a bag as a tree of numbers, by which a proof tells bags apart.
  pub nodes_gv : Nodes → Gv
  nodes_gv no_node = gnil
  nodes_gv (node name number shape nodes) =
      gcons (gcons (name_code.code name) (gnum number)) (gcons (shape_gv shape) (nodes_gv nodes))

-- The left part of a tree of numbers.
abbrev pub left : Gv → Gv
left gnil = gnil
left (gnum n) = gnil
left (gcons a b) = a

-- The right part of a tree of numbers.
abbrev pub right : Gv → Gv
right gnil = gnil
right (gnum n) = gnil
right (gcons a b) = b

-- The number that a tree is, or 0 where it is none.
abbrev pub stored_number : Gv → ℕ
stored_number gnil = 0
stored_number (gnum n) = n
stored_number (gcons a b) = 0

-- The tree has a left and a right part.
abbrev IsCons : Gv → Type 0
IsCons gnil = ⊥
IsCons (gnum n) = ⊥
IsCons (gcons a b) = Unit {0}

mutual
  -- Shapes with equal trees are equal.
  pub shape_inj : (x y : Shape) → shape_gv x ≡ shape_gv y → x ≡ y
  shape_inj Taint Taint p = refl
  shape_inj Taint (Scalar b j) p = absurd (cc p)
  shape_inj Taint (Set j) p = absurd (cc p)
  shape_inj Taint Counter p = absurd (cc p)
  shape_inj Taint (Map j t) p = absurd (cc p)
  shape_inj Taint (Bag j) p = absurd (cc p)
  shape_inj (Scalar a k) Taint p = absurd (cc p)
  shape_inj (Scalar a k) (Scalar b j) p =
      λ i. Scalar (pick_code.inj a b (ap (λ g. left (right g)) p) i)
      (kind_code.inj k j (ap (λ g. right (right g)) p) i)
  shape_inj (Scalar a k) (Set j) p = absurd (cc p)
  shape_inj (Scalar a k) Counter p = absurd (cc p)
  shape_inj (Scalar a k) (Map j t) p = absurd (cc p)
  shape_inj (Scalar a k) (Bag j) p = absurd (cc p)
  shape_inj (Set k) Taint p = absurd (cc p)
  shape_inj (Set k) (Scalar b j) p = absurd (cc p)
  shape_inj (Set k) (Set j) p = ap Set (kind_code.inj k j (ap right p))
  shape_inj (Set k) Counter p = absurd (cc p)
  shape_inj (Set k) (Map j t) p = absurd (cc p)
  shape_inj (Set k) (Bag j) p = absurd (cc p)
  shape_inj Counter Taint p = absurd (cc p)
  shape_inj Counter (Scalar b j) p = absurd (cc p)
  shape_inj Counter (Set j) p = absurd (cc p)
  shape_inj Counter Counter p = refl
  shape_inj Counter (Map j t) p = absurd (cc p)
  shape_inj Counter (Bag j) p = absurd (cc p)
  shape_inj (Map k s) Taint p = absurd (cc p)
  shape_inj (Map k s) (Scalar b j) p = absurd (cc p)
  shape_inj (Map k s) (Set j) p = absurd (cc p)
  shape_inj (Map k s) Counter p = absurd (cc p)
  shape_inj (Map k s) (Map j t) p =
      λ i. Map (kind_code.inj k j (ap (λ g. left (right g)) p) i)
      (shape_inj s t (ap (λ g. right (right g)) p) i)
  shape_inj (Map k s) (Bag j) p = absurd (cc p)
  shape_inj (Bag k) Taint p = absurd (cc p)
  shape_inj (Bag k) (Scalar b j) p = absurd (cc p)
  shape_inj (Bag k) (Set j) p = absurd (cc p)
  shape_inj (Bag k) Counter p = absurd (cc p)
  shape_inj (Bag k) (Map j t) p = absurd (cc p)
  shape_inj (Bag k) (Bag j) p = ap Bag (nodes_inj k j (ap right p))

  -- Bags whose fields have equal trees have equal fields.
  pub nodes_inj : (x y : Nodes) → nodes_gv x ≡ nodes_gv y → x ≡ y
  nodes_inj no_node no_node p = refl
  nodes_inj (node a m s xs) (node b n t ys) p = λ i.
      node (name_code.inj a b (ap (λ g. left (left g)) p) i)
      (ap (λ g. stored_number (right (left g))) p i)
      (shape_inj s t (ap (λ g. left (right g)) p) i)
      (nodes_inj xs ys (ap (λ g. right (right g)) p) i)
  nodes_inj no_node (node b n t ys) p = absurd (subst IsCons (sym p) tt)
  nodes_inj (node a m s xs) no_node p = absurd (subst IsCons p tt)

-- The code of a bag's fields, by their trees.
abbrev pub nodes_code : Coded Nodes
nodes_code = record { code = nodes_gv; inj = nodes_inj }
