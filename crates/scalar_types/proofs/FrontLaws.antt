-- From what begins some bytes to what is spelled by all of them.
use Rattle.std.proofs.Common.{◌≡◌, ℕ, List, [], sym, ◌∙◌}
use Rattle.std.proofs.lemmas.List.{append-nil}
use Rattle.scalar_types.specs.Codec.{IsSpelled}
use Rattle.scalar_types.specs.Fronts.{Begins, OneRest}

module _ {V : Type 0} {fits : V → Type 0} {spelling : V → List ℕ} where
  -- with something left over the bytes are no spelling
  pub left_over : OneRest fits spelling → (bytes : List ℕ) (v : V) (rest : List ℕ) → Begins fits spelling bytes v rest → (rest ≡ [] → ⊥) → IsSpelled fits spelling bytes → ⊥
  left_over one bytes v rest b some s =
      some (one v s.0 rest [] b.fit s.1.fit (b.same ∙ sym s.1.same ∙ sym (append-nil (spelling s.0))))
