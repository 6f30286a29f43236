-- Texts that are read line by line: what their lines say, and the first bad one of them.
use Rattle.std.specs.Prelude.{◌≡◌, ◌⊎◌, ℕ, ◌<◌, ◌≤◌, List, [], ◌∷◌, ◌++◌, length}
use Rattle.text_lines.specs.Lines.{Line}

-- What a line may say after what was said before, and what is wrong with one that says nothing.
pub record Reading (A F : Type 0) : Type 1 where
  pub says : List A → List ℕ → A → Type 0
  pub faults : List A → List ℕ → F → Type 0

-- A line says one thing or has one fault, never both.
pub record IsDefinite {A F : Type 0} (reading : Reading A F) : Type 0 where
  pub one_said : (earlier : List A) (text : List ℕ) (a b : A)
      → reading.says earlier text a → reading.says earlier text b → a ≡ b
  pub one_fault : (earlier : List A) (text : List ℕ) (f g : F)
      → reading.faults earlier text f → reading.faults earlier text g → f ≡ g
  pub not_both : (earlier : List A) (text : List ℕ) (said : A) (fault : F)
      → reading.says earlier text said → reading.faults earlier text fault → ⊥

-- After what was said earlier the lines say these things, each after those before it.
abbrev pub AllSay : {A F : Type 0} → Reading A F → List A → List Line → List A → Type 0
AllSay reading earlier [] [] = Unit {0}
AllSay reading earlier [] (a ∷ said) = ⊥
AllSay reading earlier (line ∷ lines) [] = ⊥
AllSay reading earlier (line ∷ lines) (a ∷ said) =
    reading.says earlier line.1 a × AllSay reading (earlier ++ a ∷ []) lines said

-- The first bad line has this number and this fault, and all lines before it say something.
pub record IsFirstBad {A F : Type 0} (reading : Reading A F) (lines : List Line)
    (number : ℕ) (fault : F) : Type 0 where
  pub before : List Line
  pub line : Line
  pub after : List Line
  pub said : List A
  pub split : lines ≡ before ++ line ∷ after
  pub good : AllSay reading [] before said
  pub bad : reading.faults said line.1 fault
  pub number_is : number ≡ line.0

-- The first condition of a list that holds, by its name: those before it don't hold.
abbrev pub IsFirstOf : {C : Type 0} → (C → Type 0) → List C → C → Type 0
IsFirstOf holds [] code = ⊥
IsFirstOf holds (c ∷ codes) code =
    ((code ≡ c) × holds c) ⊎ ((holds c → ⊥) × IsFirstOf holds codes code)

-- No condition of a list holds.
abbrev pub NoneOf : {C : Type 0} → (C → Type 0) → List C → Type 0
NoneOf holds [] = Unit {0}
NoneOf holds (c ∷ codes) = (holds c → ⊥) × NoneOf holds codes

-- At most `most` lines are read: one more is bad, whatever it is.
abbrev pub at_most : {A F : Type 0} → ℕ → F → Reading A F → Reading A F
at_most most extra reading = record {
  says = λ earlier text said. (length earlier < most) × reading.says earlier text said;
  faults = λ earlier text fault.
      ((length earlier < most) × reading.faults earlier text fault)
      ⊎ ((most ≤ length earlier) × (fault ≡ extra));
}
