-- The form in which a list is written where form one is asked for.
use Rattle.std.proofs.Common.{◌≡◌, ◌+◌, ◌*◌, ◌≤◌, false, ◌||◌, List, [], ◌∷◌, length, nat_lt, if◌then◌else◌, refl, ◌∙◌, ap, arith}
use Rattle.std.proofs.lemmas.Bool.Decides.{nat_tests}
use Rattle.context_model.specs.declared.TheConstants.{LENGTH_MAX}
use Rattle.context_model.specs.declared.Form.TheVariants.{One, Two}
use Rattle.context_model.specs.Atoms.{Atom}
use Rattle.context_model.specs.Framing.{frames, has_long, bytes_in, bytes_of}
use Rattle.atom_list.specs.Builder.{byte_room_for}

pub bytes_narrow : (list : List Atom) → has_long list ≡ false → frames One list ≡ bytes_of One list
bytes_narrow list none = ap (λ long. bytes_in (if long then Two else One) list) (none_of none)
  where
    none_of : has_long list ≡ false → false ≡ has_long list
    none_of e = cc

-- The room has three bytes for each atom beside its own.
pub room_of-least : (list : List Atom) → 3 * length list ≤ byte_room_for list
room_of-least [] = omega arith
room_of-least (atom ∷ list) = omega (arith, room_of-least list)

-- A list whose atoms together are no longer than one may be has none that is too long.
pub light_narrow : (list : List Atom) → byte_room_for list ≤ LENGTH_MAX + 3 * length list → has_long list ≡ false
light_narrow [] light = refl
light_narrow (atom ∷ list) light =
    let more = room_of-least list in
    let few : length atom ≤ LENGTH_MAX = omega arith in
    let short : nat_lt LENGTH_MAX (length atom) ≡ false = grind (arith, nat_tests, few) in
    ap (λ long. long || has_long list) short ∙ light_narrow list (omega arith)
