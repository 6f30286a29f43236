-- The headers of the next path.
use Rattle.std.proofs.Common.{◌≡◌, ◌+◌, ◌≤◌, true, false, cond, [], ◌∷◌, ◌++◌, take, sym, ap, ◌∙◌, arith, add-zero, le_refl}
use Rattle.std.proofs.lemmas.List.{take-take, take_all}
use Rattle.context_model.specs.Atoms.{Atom}
use Rattle.context_model.specs.Orders.{Path}
use Rattle.context_model.specs.Paths.{is_header, level, header_count, path_after}
use Rattle.context_model.proofs.Following.{header_count-length, header_count-take, path_after-marker}
use Rattle.context_model.proofs.PathPlaces.{header_path, length_at}
use Rattle.context_model.proofs.Beyond.{headers_of}
use Rattle.context_model.proofs.EndedLaws.{headers_front, headers_more}

-- an atom that is no header leaves them as they are
pub headers_after-other : (q : Path) (a : Atom) → is_header a ≡ false → headers_of (path_after q a) ≡ headers_of q
headers_after-other q [] e = ap headers_of (path_after-marker q) ∙ headers_more q
headers_after-other q (b ∷ bytes) e =
    ap (λ v. headers_of (take (cond v (level (b ∷ bytes)) (header_count q)) q ++ (b ∷ bytes) ∷ [])) e
    ∙ ap (λ v. take v (headers_of q ++ (b ∷ bytes) ∷ [])) count ∙ sym (headers_front q (b ∷ bytes))
  where
    count : header_count (headers_of q ++ (b ∷ bytes) ∷ []) ≡ header_count q
    count = header_count-take (header_count q) q (b ∷ bytes) (le_refl (header_count q)) ∙ ap (λ v. header_count q + cond v 1 0) e ∙ add-zero (header_count q)

-- a header comes after as many of them as its level
pub headers_after-header : (q : Path) (a : Atom) → is_header a ≡ true → level a ≤ header_count q → headers_of (path_after q a) ≡ take (level a) (headers_of q) ++ a ∷ []
headers_after-header q a e h =
    ap headers_of (header_path q a e)
    ∙ ap (λ v. take v (take (level a) q ++ a ∷ [])) (header_count-take (level a) q a h ∙ ap (λ v. level a + cond v 1 0) e)
    ∙ take_all (level a + 1) (take (level a) q ++ a ∷ []) (omega (arith, length_at (level a) q a (omega (arith, header_count-length q))))
    ∙ ap (λ v. v ++ a ∷ []) (sym (take-take (level a) (header_count q) q h))
