-- Merges computed.
use Rattle.std.proofs.Common.{◌≡◌, List, [], ◌∷◌, refl, arith}
use Rattle.context_model.specs.Atoms.{Atom}
use Rattle.context_model.specs.Orders.{atom_cmp}
use Rattle.context_model.specs.GreedyMerge.{greedy_merge}
use Rattle.context_model.specs.declared.Form.TheVariants.{One}
use Rattle.context_model.specs.Framing.{base_128, bytes_of}
use Rattle.context_model.specs.Kinds.Kind.{Datum, Indexed, Keyed}
use Rattle.context_model.specs.Varints.{unsigned_varint, unsigned_form, unsigned_tail}
use Rattle.context_model.specs.WellFormed.{IsWellFormed}
use Rattle.context_model.specs.Merged.{IsMerged, merge_of}
use Rattle.context_model.specs.MarkerPlaces.{HasMarkerBehind}
use Rattle.context_model.proofs.MergedLaws.{merges_greedily}

-- a key with one datum, below the field 4 and below the field 5
abbrev at_four : List Atom
at_four = (0xf8 ∷ 4 ∷ []) ∷ (0xf1 ∷ 0x78 ∷ []) ∷ (0 ∷ 1 ∷ []) ∷ []

abbrev at_five : List Atom
at_five = (0xf8 ∷ 5 ∷ []) ∷ (0xf1 ∷ 0x78 ∷ []) ∷ (0 ∷ 1 ∷ []) ∷ []

-- equal atoms below different headers both stay
abbrev at_both : List Atom
at_both = (0xf8 ∷ 4 ∷ []) ∷ (0xf1 ∷ 0x78 ∷ []) ∷ (0 ∷ 1 ∷ []) ∷ (0xf8 ∷ 5 ∷ []) ∷ (0xf1 ∷ 0x78 ∷ []) ∷ (0 ∷ 1 ∷ []) ∷ []

four_five : greedy_merge atom_cmp at_four at_five ≡ at_both
four_five = refl

five_four : greedy_merge atom_cmp at_five at_four ≡ at_both
five_four = refl

four_bytes : bytes_of One at_four ≡ 2 ∷ 0xf8 ∷ 4 ∷ 2 ∷ 0xf1 ∷ 0x78 ∷ 2 ∷ 0 ∷ 1 ∷ []
unfolding base_128
four_bytes = refl

five_bytes : bytes_of One at_five ≡ 2 ∷ 0xf8 ∷ 5 ∷ 2 ∷ 0xf1 ∷ 0x78 ∷ 2 ∷ 0 ∷ 1 ∷ []
unfolding base_128
five_bytes = refl

both_bytes : bytes_of One (merge_of (at_four ∷ at_five ∷ [])) ≡ 2 ∷ 0xf8 ∷ 4 ∷ 2 ∷ 0xf1 ∷ 0x78 ∷ 2 ∷ 0 ∷ 1 ∷ 2 ∷ 0xf8 ∷ 5 ∷ 2 ∷ 0xf1 ∷ 0x78 ∷ 2 ∷ 0 ∷ 1 ∷ []
unfolding base_128
both_bytes = refl

-- both lists are well formed, and this is their merge
four_well_formed : IsWellFormed at_four
unfolding unsigned_varint unsigned_form unsigned_tail
four_well_formed = record {
  kinds = (
    record { kind = Indexed 0 4; fits = (omega arith, omega arith); spelled = refl },
    (record { kind = Keyed 1 (0x78 ∷ []); fits = omega arith; spelled = refl }, (record { kind = Datum (1 ∷ []); fits = tt; spelled = refl }, tt)),
  );
  levels = (omega arith, (omega arith, tt));
  order = (refl, (refl, tt));
}

five_well_formed : IsWellFormed at_five
unfolding unsigned_varint unsigned_form unsigned_tail
five_well_formed = record {
  kinds = (
    record { kind = Indexed 0 5; fits = (omega arith, omega arith); spelled = refl },
    (record { kind = Keyed 1 (0x78 ∷ []); fits = omega arith; spelled = refl }, (record { kind = Datum (1 ∷ []); fits = tt; spelled = refl }, tt)),
  );
  levels = (omega arith, (omega arith, tt));
  order = (refl, (refl, tt));
}

four_five_merged : IsMerged (at_four ∷ at_five ∷ []) at_both
four_five_merged = merges_greedily at_four at_five four_well_formed five_well_formed

-- equal atoms below one header stay once
four_four : greedy_merge atom_cmp at_four at_four ≡ at_four
four_four = refl

-- two data below one key
two_counts : greedy_merge atom_cmp ((0xf8 ∷ 2 ∷ []) ∷ (0xf1 ∷ 0x77 ∷ []) ∷ (0 ∷ 3 ∷ []) ∷ []) ((0xf8 ∷ 2 ∷ []) ∷ (0xf1 ∷ 0x77 ∷ []) ∷ (0 ∷ 5 ∷ []) ∷ [])
    ≡ (0xf8 ∷ 2 ∷ []) ∷ (0xf1 ∷ 0x77 ∷ []) ∷ (0 ∷ 3 ∷ []) ∷ (0 ∷ 5 ∷ []) ∷ []
two_counts = refl

-- lists that are in no order
b_a_and_a : greedy_merge atom_cmp ((0x62 ∷ []) ∷ (0x61 ∷ []) ∷ []) ((0x61 ∷ []) ∷ []) ≡ (0x61 ∷ []) ∷ (0x62 ∷ []) ∷ (0x61 ∷ []) ∷ []
b_a_and_a = refl

a_and_b_a : greedy_merge atom_cmp ((0x61 ∷ []) ∷ []) ((0x62 ∷ []) ∷ (0x61 ∷ []) ∷ []) ≡ (0x61 ∷ []) ∷ (0x62 ∷ []) ∷ (0x61 ∷ []) ∷ []
a_and_b_a = refl

-- a marker stays after the header that it followed
abbrev cut : List Atom
cut = (0xf8 ∷ 0 ∷ []) ∷ [] ∷ []

abbrev whole : List Atom
whole = (0xf8 ∷ 0 ∷ []) ∷ (0 ∷ 0 ∷ 0 ∷ 0 ∷ 7 ∷ []) ∷ (0xf8 ∷ 1 ∷ []) ∷ []

abbrev cut_and_whole : List Atom
cut_and_whole = (0xf8 ∷ 0 ∷ []) ∷ [] ∷ (0 ∷ 0 ∷ 0 ∷ 0 ∷ 7 ∷ []) ∷ (0xf8 ∷ 1 ∷ []) ∷ []

cut_whole : greedy_merge atom_cmp cut whole ≡ cut_and_whole
cut_whole = refl

whole_cut : greedy_merge atom_cmp whole cut ≡ cut_and_whole
whole_cut = refl

cut_bytes : bytes_of One cut ≡ 2 ∷ 0xf8 ∷ 0 ∷ 0 ∷ []
unfolding base_128
cut_bytes = refl

whole_bytes : bytes_of One whole ≡ 2 ∷ 0xf8 ∷ 0 ∷ 5 ∷ 0 ∷ 0 ∷ 0 ∷ 0 ∷ 7 ∷ 2 ∷ 0xf8 ∷ 1 ∷ []
unfolding base_128
whole_bytes = refl

cut_whole_bytes : bytes_of One (merge_of (cut ∷ whole ∷ [])) ≡ 2 ∷ 0xf8 ∷ 0 ∷ 0 ∷ 5 ∷ 0 ∷ 0 ∷ 0 ∷ 0 ∷ 7 ∷ 2 ∷ 0xf8 ∷ 1 ∷ []
unfolding base_128
cut_whole_bytes = refl

behind_in_part : HasMarkerBehind cut ((0xf8 ∷ 0 ∷ []) ∷ [])
behind_in_part = record { place = 1; there = refl; behind = refl }

behind_in_merge : HasMarkerBehind cut_and_whole ((0xf8 ∷ 0 ∷ []) ∷ [])
behind_in_merge = record { place = 1; there = refl; behind = refl }

-- no list, one list, and three lists
none : merge_of [] ≡ []
none = refl

one : merge_of (cut ∷ []) ≡ cut
one = refl

three : merge_of (cut ∷ at_four ∷ whole ∷ []) ≡ (0xf8 ∷ 0 ∷ []) ∷ [] ∷ (0 ∷ 0 ∷ 0 ∷ 0 ∷ 7 ∷ []) ∷ (0xf8 ∷ 1 ∷ []) ∷ (0xf8 ∷ 4 ∷ []) ∷ (0xf1 ∷ 0x78 ∷ []) ∷ (0 ∷ 1 ∷ []) ∷ []
three = refl
