-- What is taken from the beginning of a text up to its first space.
use Rattle.std.proofs.Common.{◌≡◌, ℕ, List, sym, ◌∙◌, subst}
use Rattle.graph_lines.specs.Forms.{IsWord, IsPath}
use Rattle.graph_lines.specs.Reading.{NameThen, PathThen}
use Rattle.graph_lines.proofs.Names.{name_no_space, path_no_space}
use Rattle.text_lines.specs.Words.{HasNoSpace, IsCut}
use Rattle.text_lines.proofs.Separated.{same_cut}

-- What fits is before the first space.
abbrev Front : (List ℕ → Type 0) → List ℕ → List ℕ → List ℕ → Type 0
Front fits text word rest = fits word × IsCut text word rest

none_front : (fits : List ℕ → Type 0) → ((word : List ℕ) → fits word → HasNoSpace word)
    → (text word more : List ℕ) → HasNoSpace word → IsCut text word more → (fits word → ⊥) → (other rest : List ℕ) → Front fits text other rest → ⊥
none_front fits free text word more none is bad other rest h =
    bad (subst fits (sym (same_cut 32 word other more rest none (free other h.0) (sym is ∙ h.1)).0) h.0)

one_front : (fits : List ℕ → Type 0) → ((word : List ℕ) → fits word → HasNoSpace word)
    → (text word rest : List ℕ) → Front fits text word rest → (other more : List ℕ) → Front fits text other more → (other ≡ word) × (more ≡ rest)
one_front fits free text word rest p other more q = same_cut 32 other word more rest (free other q.0) (free word p.0) (sym q.1 ∙ p.1)

pub other_name : (text word more : List ℕ) → HasNoSpace word → IsCut text word more → (IsWord word → ⊥) → (name rest : List ℕ) → NameThen text name rest → ⊥
other_name = none_front IsWord name_no_space

pub other_path : (text word more : List ℕ) → HasNoSpace word → IsCut text word more → (IsPath word → ⊥) → (path rest : List ℕ) → PathThen text path rest → ⊥
other_path = none_front IsPath path_no_space

pub one_name : (text name rest : List ℕ) → NameThen text name rest → (b other : List ℕ) → NameThen text b other → (b ≡ name) × (other ≡ rest)
one_name = one_front IsWord name_no_space

pub one_path : (text path rest : List ℕ) → PathThen text path rest → (b other : List ℕ) → PathThen text b other → (b ≡ path) × (other ≡ rest)
one_path = one_front IsPath path_no_space
