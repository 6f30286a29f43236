use Rattle.std.proofs.Common.{List, [], ◌∷◌}

-- An induction over two lists: a claim on both holds where it holds once either has lost its head.
pub two_lists : {A : Type 0} (P : List A → List A → Type 0) → ((ys : List A) → P [] ys) → ((xs : List A) → P xs [])
    → ((x y : A) (xs ys : List A) → P xs (y ∷ ys) → P xs ys → P (x ∷ xs) ys → P (x ∷ xs) (y ∷ ys)) → (xs ys : List A) → P xs ys
two_lists P first second step [] ys = first ys
two_lists {A} P first second step (x ∷ xs) ys = onto (two_lists P first second step xs) ys
  where
    onto : ((zs : List A) → P xs zs) → (zs : List A) → P (x ∷ xs) zs
    onto rest [] = second (x ∷ xs)
    onto rest (z ∷ zs) = step x z xs zs (rest (z ∷ zs)) (rest zs) (onto rest zs)
