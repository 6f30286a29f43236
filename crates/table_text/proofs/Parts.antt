-- The parts of a line.
use Rattle.std.proofs.Common.{◌≡◌, ℕ, List, [], ◌∷◌, ◌++◌, sym, ◌∙◌}
use Rattle.std.specs.List.{join_with_byte}
use Rattle.text_lines.specs.Words.{HasNoSpace}
use Rattle.text_lines.proofs.Separated.{free_there, same_cut}
use Rattle.text_lines.proofs.FedLines.{unsnoc}
use Rattle.table_text.specs.Words.{parts_line}

-- What is before the line feed, by its parts.
abbrev pub parts : List ℕ → List ℕ → List ℕ → List ℕ → List ℕ
parts depth number name shape = join_with_byte 32 (depth ∷ number ∷ name ∷ shape ∷ [])

-- Two lines of parts that are the same have the same parts.
pub record AreSame (d n m s d' n' m' s' : List ℕ) : Type 0 where
  pub depth : d ≡ d'
  pub number : n ≡ n'
  pub name : m ≡ m'
  pub shape : s ≡ s'

pub same_parts : (d n m s d' n' m' s' : List ℕ) → HasNoSpace d → HasNoSpace n → HasNoSpace m → HasNoSpace d' → HasNoSpace n' → HasNoSpace m'
    → parts_line d n m s ≡ parts_line d' n' m' s' → AreSame d n m s d' n' m' s'
same_parts d n m s d' n' m' s' fd fn fm fd' fn' fm' e =
    let one = same_cut 32 d d' (n ++ 32 ∷ (m ++ 32 ∷ s)) (n' ++ 32 ∷ (m' ++ 32 ∷ s')) fd fd' (unsnoc (parts d n m s) (parts d' n' m' s') 10 10 e) in
    let two = same_cut 32 n n' (m ++ 32 ∷ s) (m' ++ 32 ∷ s') fn fn' one.1 in
    let three = same_cut 32 m m' s s' fm fm' two.1 in
    record { depth = one.0; number = two.0; name = three.0; shape = three.1 }

-- A line without a second space has no parts so, and one without a third has none.
pub no_second : (line text depth rest : List ℕ) → line ≡ text ++ 10 ∷ [] → HasNoSpace depth → text ≡ depth ++ 32 ∷ rest → HasNoSpace rest
    → (d n m s : List ℕ) → HasNoSpace d → HasNoSpace n → HasNoSpace m → line ≡ parts_line d n m s → ⊥
no_second line text depth rest fed free cut none d n m s fd fn fm is =
    let whole : text ≡ parts d n m s = unsnoc text (parts d n m s) 10 10 (sym fed ∙ is) in
    let one = same_cut 32 depth d rest (n ++ 32 ∷ (m ++ 32 ∷ s)) free fd (sym cut ∙ whole) in
    free_there 32 rest n (m ++ 32 ∷ s) none one.1

pub no_third : (line text depth rest number more : List ℕ) → line ≡ text ++ 10 ∷ [] → HasNoSpace depth → text ≡ depth ++ 32 ∷ rest
    → HasNoSpace number → rest ≡ number ++ 32 ∷ more → HasNoSpace more
    → (d n m s : List ℕ) → HasNoSpace d → HasNoSpace n → HasNoSpace m → line ≡ parts_line d n m s → ⊥
no_third line text depth rest number more fed free cut own then none d n m s fd fn fm is =
    let whole : text ≡ parts d n m s = unsnoc text (parts d n m s) 10 10 (sym fed ∙ is) in
    let one = same_cut 32 depth d rest (n ++ 32 ∷ (m ++ 32 ∷ s)) free fd (sym cut ∙ whole) in
    let two = same_cut 32 number n more (m ++ 32 ∷ s) own fn (sym then ∙ one.1) in
    free_there 32 more m s none two.1
