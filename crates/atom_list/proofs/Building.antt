-- What a builder's buffer and starts hold.
use Rattle.std.proofs.Common.{◌≡◌, ℕ, ◌+◌, ◌-◌, ◌≤◌, List, [], ◌∷◌, ◌++◌, length, map, take, refl, sym, ◌∙◌, ap, subst, append_assoc, length-append, arith, drop, slice_range}
use Rattle.std.proofs.lemmas.List.{append-nil, length-drop, length-take, length-take-le, take_all}
use Rattle.std.proofs.lemmas.List.{length-map}
use Rattle.context_model.specs.declared.TheConstants.{ATOM_MAX}
use Rattle.context_model.specs.Atoms.{Atom, AreAtoms}
use Rattle.context_model.specs.declared.Form.TheVariants.{One}
use Rattle.context_model.specs.Framing.{base_128, frame, frames}
use Rattle.context_model.proofs.FramingLaws.{frames-append}
use Rattle.atom_list.specs.declared.builder.TheConstants.{BUFFER_MAX}
use Rattle.atom_list.specs.Starts.{atom_framed_at, atoms_at, AreStarts, starts_from, IsFlat, IsPieceOf, moved, AreMovable}
use Rattle.atom_list.specs.Builder.{IsBuilt}
use Rattle.atom_list.specs.Scan.{IsScan}
use Rattle.atom_list.proofs.Flat.{AreStarts-from, starts_from-append, atoms_at-from, take_split}

-- The buffer and the starts are those of a list.
pub record AreOf (bytes : List ℕ) (starts : List ℕ) (list : List Atom) : Type 0 where
  pub short : AreAtoms list
  pub there : starts ≡ starts_from 0 list
  pub framed : bytes ≡ frames One list
  pub few : length bytes ≤ BUFFER_MAX

pub list_is : (bytes : List ℕ) (starts : List ℕ) (list : List Atom) → AreOf bytes starts list → atoms_at bytes starts ≡ list
list_is bytes starts list of =
    ap (atoms_at bytes) of.there ∙ ap (λ v. atoms_at v (starts_from 0 list)) (of.framed ∙ sym (append-nil (frames One list))) ∙ atoms_at-from [] [] 0 list refl of.short

pub built_of : (bytes : List ℕ) (starts : List ℕ) (list : List Atom) → AreOf bytes starts list → IsBuilt bytes starts
built_of bytes starts list of =
    let is = sym (list_is bytes starts list of) in
    record {
      short = subst AreAtoms is of.short;
      there = of.there ∙ ap (starts_from 0) is;
      framed = of.framed ∙ ap (frames One) is;
      few = of.few;
    }

pub of_built : (bytes : List ℕ) (starts : List ℕ) → IsBuilt bytes starts → AreOf bytes starts (atoms_at bytes starts)
of_built bytes starts built = record { short = built.short; there = built.there; framed = built.framed; few = built.few }

pub AreAtoms-append : (xs ys : List Atom) → AreAtoms xs → AreAtoms ys → AreAtoms (xs ++ ys)
AreAtoms-append [] ys short short' = short'
AreAtoms-append (x ∷ xs) ys short short' = (short.0, AreAtoms-append xs ys short.1 short')

-- More frames after the others.
pub of_more : (bytes bytes' : List ℕ) (starts starts' : List ℕ) (list more : List Atom) → AreOf bytes starts list → AreAtoms more → length bytes' ≤ BUFFER_MAX
    → bytes' ≡ bytes ++ frames One more → starts' ≡ starts ++ starts_from (length bytes) more → AreOf bytes' starts' (list ++ more)
of_more bytes bytes' starts starts' list more of short few e f =
    let long : length bytes ≡ 0 + length (frames One list) = omega (arith, ap length of.framed) in
    record {
      short = AreAtoms-append list more of.short short;
      there = f ∙ ap (λ v. v ++ starts_from (length bytes) more) of.there ∙ ap (λ n. starts_from 0 list ++ starts_from n more) long ∙ sym (starts_from-append 0 list more);
      framed = e ∙ ap (λ v. v ++ frames One more) of.framed ∙ sym (frames-append One list more);
      few = few;
    }

-- One frame after the others.
pub of_one : (bytes coded bytes' : List ℕ) (starts starts' : List ℕ) (list : List Atom) (atom : Atom) (start : ℕ) → AreOf bytes starts list → length atom ≤ ATOM_MAX → length bytes' ≤ BUFFER_MAX
    → coded ≡ bytes ++ base_128 (length atom) → bytes' ≡ coded ++ atom → start ≡ length bytes → starts' ≡ starts ++ start ∷ [] → AreOf bytes' starts' (list ++ atom ∷ [])
of_one bytes coded bytes' starts starts' list atom start of short few e f s g =
    let code = base_128 (length atom) in
    let first : bytes' ≡ bytes ++ frames One (atom ∷ []) = f ∙ ap (λ v. v ++ atom) e ∙ append_assoc bytes code atom ∙ ap (λ v. bytes ++ v) (sym (append-nil (frame One atom))) in
    of_more bytes bytes' starts starts' list (atom ∷ []) of (short, tt) few first (g ∙ ap (λ n. starts ++ n ∷ []) s)

-- A built list is flat, and all of it is laid.
pub flat_built : (bytes : List ℕ) (starts : List ℕ) (laid : ℕ) → IsBuilt bytes starts → laid ≡ length starts → IsFlat bytes starts laid
flat_built bytes starts laid built e =
    let list = atoms_at bytes starts in
    let long : length (frames One list) ≡ length bytes = ap length (sym built.framed) in
    let whole : [] ++ (frames One list ++ []) ≡ bytes = append-nil (frames One list) ∙ sym built.framed in
    let fit : AreStarts bytes starts = subst (AreStarts bytes) (sym built.there) (subst (λ v. AreStarts v (starts_from 0 list)) whole (AreStarts-from [] [] 0 list refl built.short)) in
    let starts_all : take laid starts ≡ starts = take_all laid starts (omega arith) in
    let list_all : take laid list ≡ list = take_all laid list (omega (arith, length-map starts (atom_framed_at bytes))) in
    record {
      fit = fit;
      few = built.few;
      within = omega arith;
      front = record {
        there = starts_all ∙ built.there ∙ ap (starts_from 0) (sym list_all);
        framed = ap (λ v. take (length (frames One v)) bytes) list_all ∙ take_all (length (frames One list)) bytes (omega arith) ∙ built.framed ∙ ap (frames One) (sym list_all);
      };
      light = omega (arith, built.few);
    }

-- ---- frames that are moved from another buffer

pub moved-from : (from to at : ℕ) (list : List Atom) → from ≤ at → map (moved from to) (starts_from at list) ≡ starts_from (at - from + to) list
moved-from from to at [] behind = refl
moved-from from to at (x ∷ list) behind =
    let next : at + length (frame One x) - from + to ≡ at - from + to + length (frame One x) = omega arith in
    ap (λ v. (at - from + to) ∷ v) (moved-from from to (at + length (frame One x)) list (omega arith) ∙ ap (λ n. starts_from n list) next)

pub movable-from : (from to at : ℕ) (list : List Atom) → from ≤ at → at - from + to + length (frames One list) ≤ BUFFER_MAX → AreMovable from to (starts_from at list)
movable-from from to at [] behind few = tt
movable-from from to at (x ∷ list) behind few =
    let size : length (frames One (x ∷ list)) ≡ length (frame One x) + length (frames One list) = length-append (frame One x) (frames One list) in
    (record { behind = omega arith; within = omega arith }, movable-from from to (at + length (frame One x)) list (omega arith) (omega arith))

-- A piece after the others.
pub of_piece : (bytes bytes' piece : List ℕ) (starts starts' seen : List ℕ) (list more : List Atom) (at to : ℕ) → AreOf bytes starts list → IsPieceOf piece at seen more → length bytes' ≤ BUFFER_MAX
    → bytes' ≡ bytes ++ piece → to ≡ length bytes → starts' ≡ starts ++ map (moved at to) seen → AreOf bytes' starts' (list ++ more)
of_piece bytes bytes' piece starts starts' seen list more at to of is few e s f =
    let place : at - at + to ≡ length bytes = omega arith in
    of_more bytes bytes' starts starts' list more of is.short few (e ∙ ap (λ v. bytes ++ v) is.framed)
    (f ∙ ap (λ v. starts ++ map (moved at to) v) is.there ∙ ap (λ v. starts ++ v) (moved-from at to at more (omega arith)) ∙ ap (λ n. starts ++ starts_from n more) place)

-- ---- frames that are found where they are

pub of_noted : (bytes : List ℕ) (at skip len end : ℕ) (starts starts' : List ℕ) (rest : List ℕ) → end ≡ at + skip + len → IsScan bytes at starts → drop at bytes ≡ rest → skip + len ≤ length rest → len ≤ ATOM_MAX → take skip rest ≡ base_128 len
    → starts' ≡ starts ++ at ∷ [] → AreOf (take end bytes) starts' (atoms_at (take at bytes) starts ++ slice_range rest skip (skip + len) ∷ [])
of_noted bytes at skip len end starts starts' rest all scan e within short code f =
    let atom = slice_range rest skip (skip + len) in
    let coded = take at bytes ++ take skip rest in
    let longer : length rest ≡ length bytes - at = ap length (sym e) ∙ length-drop at bytes in
    let here : length (take at bytes) ≡ at = length-take-le at bytes scan.within in
    let long : length atom ≡ len = length-take-le (skip + len - skip) (drop skip rest) (omega (arith, length-drop skip rest)) ∙ (omega arith) in
    let more : skip + len ≡ end - at = omega arith in
    let split : take end bytes ≡ coded ++ atom =
    take_split at end bytes (omega arith)
    ∙ ap (λ v. take at bytes ++ v) (ap (take (end - at)) e ∙ ap (λ n. take n rest) (sym more) ∙ take_split skip (skip + len) rest (omega arith))
    ∙ sym (append_assoc (take at bytes) (take skip rest) atom) in
    of_one (take at bytes) coded (take end bytes) starts starts' (atoms_at (take at bytes) starts) atom at (of_built (take at bytes) starts scan.front) (omega arith)
    (omega (arith, length-take end bytes, scan.few)) (ap (λ v. take at bytes ++ v) (code ∙ ap base_128 (sym long))) split
    (sym here) f

pub scan_noted : (bytes : List ℕ) (at' : ℕ) (starts : List ℕ) (list : List Atom) → at' ≤ length bytes → length bytes ≤ BUFFER_MAX → AreOf (take at' bytes) starts list → IsScan bytes at' starts
scan_noted bytes at' starts list within few of = record { within = within; few = few; front = built_of (take at' bytes) starts list of }
