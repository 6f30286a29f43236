-- Where a form stops in a list of tokens.
use Rattle.std.specs.Prelude.{◌≡◌, ℕ, ◌≤◌, Bool, false, List, [], ◌∷◌, ◌++◌}
use Rattle.grammar_model.specs.Grammars.{Grammar}

-- The token at which a list goes wrong, if there is one, and then any others.
abbrev pub behind : {T : Type 0} → List T → List T → List T
behind [] more = []
behind (bad ∷ rest) more = bad ∷ more

-- Whether there is a first token that passes.
abbrev pub first_passes : {T : Type 0} → (T → Bool) → List T → Bool
first_passes test [] = false
first_passes test (t ∷ more) = test t

-- The list begins the form up to its bad part, no list with the next token after that does, and no
-- sentence is such a list.
pub record Stops {T A : Type 0} (f : Grammar T A) (ts bad : List T) : Type 0 where
  pub front : List T
  pub cut : ts ≡ front ++ bad
  pub begun : f.begins front
  pub ends : (t : T) (rest more : List T) → bad ≡ t ∷ rest → f.begins (front ++ t ∷ more) → ⊥
  pub none : (more : List T) (a : A) (rest : List T) → f.reads (front ++ behind bad more) a rest → ⊥

-- The tokens stop in one form, and with the next token they go on in another.
pub record GoesOn {T A B : Type 0} (f : Grammar T A) (g : Grammar T B)
    (ts bad : List T) : Type 0 where
  pub stops : Stops f ts bad
  pub front : List T
  pub next : T
  pub rest : List T
  pub cut : ts ≡ front ++ bad
  pub there : bad ≡ next ∷ rest
  pub on : g.begins (front ++ next ∷ [])

-- A family has a form for each number. From this number on all read the same.
abbrev pub Taken : {T A : Type 0} → (ℕ → Grammar T A) → ℕ → List T → A → List T → Type 0
Taken family room ts a rest = (n : ℕ) → room ≤ n → (family n).reads ts a rest

-- From this number on all stop at the same token.
abbrev pub StopsFrom : {T A : Type 0} → (ℕ → Grammar T A) → ℕ → List T → List T → Type 0
StopsFrom family room ts bad = (n : ℕ) → room ≤ n → Stops (family n) ts bad
