-- The path of a field is made of headers, one of each of its numbers.
use Rattle.std.proofs.Common.{◌≡◌, ℕ, suc, ◌+◌, ◌≤◌, List, [], ◌∷◌, length, refl, ap, arith, le-leb, ◌-◌, ◌*◌}
use Rattle.context_model.specs.Ended.{AreHeaders, field_path_from}

pub field_path-headers : (n : ℕ) (numbers : List ℕ) → n + length numbers ≤ 16 → AreHeaders (field_path_from n numbers)
field_path-headers n [] h = tt
field_path-headers n (number ∷ numbers) h = (le-leb 128 (248 - 8 * n) (omega arith), field_path-headers (suc n) numbers (omega arith))

pub length-field_path : (n : ℕ) (numbers : List ℕ) → length (field_path_from n numbers) ≡ length numbers
length-field_path n [] = refl
length-field_path n (number ∷ numbers) = ap (λ v. suc v) (length-field_path (suc n) numbers)
