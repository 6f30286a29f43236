use Rattle.std.proofs.Common.{◌≡◌, ℕ, ◌+◌, ◌-◌, ◌≤◌, ◌++◌, List, [], ◌∷◌, length, min, length-append, ◌∙◌, ap, arith}
use Rattle.std.specs.Vec.{vec_capacity}
use Rattle.context_model.specs.Framing.{base_128}
use Rattle.context_model.proofs.FramingLaws.{length-base_128}
use Rattle.atom_list.specs.declared.builder.TheConstants.{BUFFER_MAX}
use Rattle.atom_list.specs.Starts.{atoms_at}
use Rattle.atom_list.proofs.Building.{AreOf, of_built, of_one, list_is, built_of}
use Rattle.atom_list.proofs.builder.Builder.push.Goals as goal

-- What a length leaves of the room.
with_length : (before code after : List ℕ) (len capacity limit room : ℕ) → after ≡ before ++ code → length code ≤ 3 → min capacity limit - length before ≡ room → len + 3 ≤ room
    → (length after + len ≤ capacity) × (length after + len ≤ limit)
with_length before code after len capacity limit room e few is fits =
    let long : length after ≡ length before + length code = ap length e ∙ length-append before code in
    (omega arith, omega arith)

pub overflow_cast-len : goal.overflow_cast-len
overflow_cast-len c = omega (arith, c.len.ensures, c.self.inside.bytes.ok.0, ap (λ v. v.byte_room) c.self.view_is, c.requires.byte_room)

pub put_bytes-requires : goal.put_bytes-requires
put_bytes-requires c =
    let is = ap (λ v. v.byte_room) c.self.view_is in
    let len = length c.args.atom.now in
    let room = with_length c.self.inside.bytes.items (base_128 len) c.put_length.new.bytes.items len (vec_capacity c.self.inside.bytes) BUFFER_MAX c.args.self.now.byte_room
    c.put_length.ensures.items (length-base_128 len).1 is c.requires.byte_room in
    omega (arith, room.0, c.put_length.new.bytes.ok.0, c.put_length.ensures.capacity)

-- The list with the atom.
pushed : (c : goal.After-put_bytes) → AreOf c.put_bytes.new.bytes.items c.push_reserved.new.self.items (atoms_at c.self.inside.bytes.items c.self.inside.starts.items ++ c.args.atom.now ∷ [])
pushed c =
    let is = ap (λ v. v.byte_room) c.self.view_is in
    let len = length c.args.atom.now in
    let room = with_length c.self.inside.bytes.items (base_128 len) c.put_length.new.bytes.items len (vec_capacity c.self.inside.bytes) BUFFER_MAX c.args.self.now.byte_room
    c.put_length.ensures.items (length-base_128 len).1 is c.requires.byte_room in
    let long : length c.put_bytes.new.bytes.items ≡ length c.put_length.new.bytes.items + len = ap length c.put_bytes.ensures.items ∙ length-append c.put_length.new.bytes.items c.args.atom.now in
    of_one c.self.inside.bytes.items c.put_length.new.bytes.items c.put_bytes.new.bytes.items c.self.inside.starts.items c.push_reserved.new.self.items _ c.args.atom.now
    c.len.result (of_built _ _ c.self.invariant) c.requires.short (omega (arith, room.1)) c.put_length.ensures.items c.put_bytes.ensures.items
    (c.len.ensures ∙ c.self.inside.bytes.ok.0) c.push_reserved.ensures.items

pub invariant_of-self : goal.invariant_of-self
invariant_of-self c = built_of _ _ _ (pushed c)

pub returns-clause-atoms : goal.returns-clause-atoms
returns-clause-atoms c = list_is _ _ _ (pushed c) ∙ ap (λ v. v.atoms ++ c.args.atom.now ∷ []) c.self.view_is

-- What an atom leaves of the room.
left : (before code coded atom after : List ℕ) (capacity capacity' capacity'' limit room : ℕ) → coded ≡ before ++ code → after ≡ coded ++ atom → length code ≤ 3
    → min capacity limit - length before ≡ room → capacity' ≡ capacity → capacity' ≤ capacity'' → room ≤ min capacity'' limit - length after + (length atom + 3)
left before code coded atom after capacity capacity' capacity'' limit room e f few is same more =
    let long : length coded ≡ length before + length code = ap length e ∙ length-append before code in
    let longer : length after ≡ length coded + length atom = ap length f ∙ length-append coded atom in
    omega arith

pub returns-clause-byte_room : goal.returns-clause-byte_room
returns-clause-byte_room c =
    let is = ap (λ v. v.byte_room) c.self.view_is in
    let len = length c.args.atom.now in
    left c.self.inside.bytes.items (base_128 len) c.put_length.new.bytes.items c.args.atom.now c.put_bytes.new.bytes.items (vec_capacity c.self.inside.bytes) (vec_capacity c.put_length.new.bytes) (vec_capacity c.put_bytes.new.bytes)
    BUFFER_MAX c.args.self.now.byte_room c.put_length.ensures.items c.put_bytes.ensures.items (length-base_128 len).1 is c.put_length.ensures.capacity c.put_bytes.ensures.capacity
