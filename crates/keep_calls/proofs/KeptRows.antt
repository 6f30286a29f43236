-- What is kept of known lists, computed by the plain program.
use Rattle.std.proofs.Common.{◌≡◌, List, [], ◌∷◌, codes, refl}
use Rattle.context_model.specs.Atoms.{Atom}
use Rattle.context_model.specs.Varints.{unsigned_varint, unsigned_form, unsigned_tail}
use Rattle.bag_model.specs.declared.Pick.TheVariants.{Least}
use Rattle.bag_model.specs.declared.words.ScalarWord.TheVariants.{Fixed32}
use Rattle.bag_model.specs.Scalars as scalars
use Rattle.bag_model.specs.Shapes.{Nodes, Taint, Scalar, Counter, Bag, no_node, node}
use Rattle.keep_calls.specs.declared.others.Others.TheVariants.{Cut, Unsaid}
use Rattle.keep_calls.specs.Kept.{kept_list}

-- A scalar 0 and a taint 3.
abbrev two_fields : Nodes
two_fields = node (codes "id") 0 (Scalar Least (scalars.ScalarKind.One Fixed32)) (node (codes "debug") 3 Taint no_node)

-- A scalar 0 and a taint 1.
abbrev neighbors : Nodes
neighbors = node (codes "id") 0 (Scalar Least (scalars.ScalarKind.One Fixed32)) (node (codes "debug") 1 Taint no_node)

-- A counter 4.
abbrev one_field : Nodes
one_field = node (codes "load") 4 Counter no_node

-- A counter 3 in a bag 1.
abbrev nested : Nodes
nested = node (codes "sub") 1 (Bag (node (codes "n") 3 Counter no_node)) no_node

-- The fields 0 to 4.
abbrev five : List Atom
five =
    (0xf8 ∷ 0 ∷ []) ∷ (0 ∷ 0 ∷ 0 ∷ 0 ∷ 7 ∷ [])
    ∷ (0xf8 ∷ 1 ∷ []) ∷ (0 ∷ 0x61 ∷ [])
    ∷ (0xf8 ∷ 2 ∷ []) ∷ (0xf1 ∷ 0x77 ∷ []) ∷ (0 ∷ 5 ∷ [])
    ∷ (0xf8 ∷ 3 ∷ []) ∷ (0 ∷ [])
    ∷ (0xf8 ∷ 4 ∷ []) ∷ (0xf1 ∷ 0x78 ∷ []) ∷ (0 ∷ 0x81 ∷ 0x2c ∷ []) ∷ []

-- There is one mark in each gap where something was dropped,
five_cut : kept_list two_fields Cut five ≡
    (0xf8 ∷ 0 ∷ []) ∷ (0 ∷ 0 ∷ 0 ∷ 0 ∷ 7 ∷ []) ∷ (0xf8 ∷ 1 ∷ []) ∷ [] ∷ (0xf8 ∷ 3 ∷ []) ∷ (0 ∷ []) ∷ (0xf8 ∷ 4 ∷ []) ∷ [] ∷ []
unfolding unsigned_varint unsigned_form unsigned_tail
five_cut = refl

-- or none, where others go unsaid.
five_unsaid : kept_list two_fields Unsaid five ≡ (0xf8 ∷ 0 ∷ []) ∷ (0 ∷ 0 ∷ 0 ∷ 0 ∷ 7 ∷ []) ∷ (0xf8 ∷ 3 ∷ []) ∷ (0 ∷ []) ∷ []
unfolding unsigned_varint unsigned_form unsigned_tail
five_unsaid = refl

-- Where nothing is dropped nothing changes.
abbrev both : List Atom
both = (0xf8 ∷ 0 ∷ []) ∷ (0 ∷ 0 ∷ 0 ∷ 0 ∷ 7 ∷ []) ∷ (0xf8 ∷ 3 ∷ []) ∷ (0 ∷ []) ∷ []

both_cut : kept_list two_fields Cut both ≡ both
unfolding unsigned_varint unsigned_form unsigned_tail
both_cut = refl

both_unsaid : kept_list two_fields Unsaid both ≡ both
unfolding unsigned_varint unsigned_form unsigned_tail
both_unsaid = refl

-- Before all slots the mark is a marker alone.
last_cut : kept_list one_field Cut five ≡ [] ∷ (0xf8 ∷ 4 ∷ []) ∷ (0xf1 ∷ 0x78 ∷ []) ∷ (0 ∷ 0x81 ∷ 0x2c ∷ []) ∷ []
unfolding unsigned_varint unsigned_form unsigned_tail
last_cut = refl

last_unsaid : kept_list one_field Unsaid five ≡ (0xf8 ∷ 4 ∷ []) ∷ (0xf1 ∷ 0x78 ∷ []) ∷ (0 ∷ 0x81 ∷ 0x2c ∷ []) ∷ []
unfolding unsigned_varint unsigned_form unsigned_tail
last_unsaid = refl

-- A marker after a datum that is dropped stays as the mark of the gap.
abbrev marked : List Atom
marked = (0xf8 ∷ 0 ∷ []) ∷ (0 ∷ 0 ∷ 0 ∷ 0 ∷ 7 ∷ []) ∷ (0xf8 ∷ 1 ∷ []) ∷ (0 ∷ 0x61 ∷ []) ∷ [] ∷ []

marked_cut : kept_list two_fields Cut marked ≡ (0xf8 ∷ 0 ∷ []) ∷ (0 ∷ 0 ∷ 0 ∷ 0 ∷ 7 ∷ []) ∷ (0xf8 ∷ 1 ∷ []) ∷ [] ∷ []
unfolding unsigned_varint unsigned_form unsigned_tail
marked_cut = refl

marked_unsaid : kept_list two_fields Unsaid marked ≡ (0xf8 ∷ 0 ∷ []) ∷ (0 ∷ 0 ∷ 0 ∷ 0 ∷ 7 ∷ []) ∷ (0xf8 ∷ 1 ∷ []) ∷ [] ∷ []
unfolding unsigned_varint unsigned_form unsigned_tail
marked_unsaid = refl

-- Without slots nothing is kept but a marker that tells of it.
nothing_cut : kept_list no_node Cut five ≡ [] ∷ []
unfolding unsigned_varint unsigned_form unsigned_tail
nothing_cut = refl

nothing_unsaid : kept_list no_node Unsaid five ≡ []
unfolding unsigned_varint unsigned_form unsigned_tail
nothing_unsaid = refl

empty_cut : kept_list no_node Cut [] ≡ []
empty_cut = refl

empty_unsaid : kept_list no_node Unsaid [] ≡ []
empty_unsaid = refl

marker_cut : kept_list no_node Cut ([] ∷ []) ≡ [] ∷ []
marker_cut = refl

marker_unsaid : kept_list no_node Unsaid ([] ∷ []) ≡ [] ∷ []
marker_unsaid = refl

-- A header on the way to a slot stays for what is below that slot, and isn't told of.
abbrev inside : List Atom
inside = (0xf8 ∷ 1 ∷ []) ∷ (0xf0 ∷ 2 ∷ []) ∷ (0 ∷ 1 ∷ []) ∷ (0xf0 ∷ 3 ∷ []) ∷ (0xe9 ∷ 0x77 ∷ []) ∷ (0 ∷ 5 ∷ []) ∷ []

inside_cut : kept_list nested Cut inside ≡ [] ∷ (0xf8 ∷ 1 ∷ []) ∷ (0xf0 ∷ 3 ∷ []) ∷ (0xe9 ∷ 0x77 ∷ []) ∷ (0 ∷ 5 ∷ []) ∷ []
unfolding unsigned_varint unsigned_form unsigned_tail
inside_cut = refl

inside_unsaid : kept_list nested Unsaid inside ≡ (0xf8 ∷ 1 ∷ []) ∷ (0xf0 ∷ 3 ∷ []) ∷ (0xe9 ∷ 0x77 ∷ []) ∷ (0 ∷ 5 ∷ []) ∷ []
unfolding unsigned_varint unsigned_form unsigned_tail
inside_unsaid = refl

-- On the way to a slot that isn't there nothing stays of it.
bare_cut : kept_list nested Cut ((0xf8 ∷ 1 ∷ []) ∷ []) ≡ []
unfolding unsigned_varint unsigned_form unsigned_tail
bare_cut = refl

-- Between slots whose numbers follow one another there is no gap.
next_cut : kept_list neighbors Cut marked ≡ marked
unfolding unsigned_varint unsigned_form unsigned_tail
next_cut = refl

-- What comes after the last of them is told of after the header next after it.
after_cut : kept_list neighbors Cut five ≡ (0xf8 ∷ 0 ∷ []) ∷ (0 ∷ 0 ∷ 0 ∷ 0 ∷ 7 ∷ []) ∷ (0xf8 ∷ 1 ∷ []) ∷ (0 ∷ 0x61 ∷ []) ∷ (0xf8 ∷ 2 ∷ []) ∷ [] ∷ []
unfolding unsigned_varint unsigned_form unsigned_tail
after_cut = refl
