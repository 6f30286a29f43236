-- Names and paths have no space.
use Rattle.std.proofs.Common.{◌≡◌, ℕ, false, List, [], ◌∷◌, ◌++◌, refl, sym, ap, subst}
use Rattle.std.specs.List.{AllByRecursion, join_with_byte}
use Rattle.bag_model.specs.Slots.{dotted}
use Rattle.graph_lines.specs.Forms.{IsWord, IsPath}
use Rattle.text_lines.specs.Words.{HasNoSpace, IsFree}
use Rattle.text_lines.proofs.Separated.{free_append}
use Rattle.text_lines.proofs.WordBytes.{is_of_word, free_word, word_no_space}

pub names_free : (sep : ℕ) (names : List (List ℕ)) → is_of_word sep ≡ false → AllByRecursion IsWord names → AllByRecursion (IsFree sep) names
names_free sep [] apart h = tt
names_free sep (name ∷ names) apart h = (free_word sep name apart h.0, names_free sep names apart h.1)

pub name_no_space : (bytes : List ℕ) → IsWord bytes → HasNoSpace bytes
name_no_space bytes h = word_no_space bytes h

pub dotted-joined : (names : List (List ℕ)) → dotted names ≡ join_with_byte 46 names
dotted-joined [] = refl
dotted-joined (a ∷ []) = refl
dotted-joined (a ∷ b ∷ names) = ap (λ (l : List ℕ). a ++ 46 ∷ l) (dotted-joined (b ∷ names))

dotted_free : (names : List (List ℕ)) → AllByRecursion IsWord names → HasNoSpace (dotted names)
dotted_free [] h = refl
dotted_free (a ∷ []) h = name_no_space a h.0
dotted_free (a ∷ b ∷ names) h = free_append 32 a (46 ∷ dotted (b ∷ names)) (name_no_space a h.0) (dotted_free (b ∷ names) h.1)

pub path_no_space : (text : List ℕ) → IsPath text → HasNoSpace text
path_no_space text h = subst HasNoSpace (sym h.3) (dotted_free h.0 h.2)

pub paths_free : (paths : List (List ℕ)) → AllByRecursion IsPath paths → AllByRecursion HasNoSpace paths
paths_free [] h = tt
paths_free (path ∷ paths) h = (path_no_space path h.0, paths_free paths h.1)
