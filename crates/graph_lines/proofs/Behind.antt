-- What is after the first word of a text.
use Rattle.std.proofs.Common.{◌≡◌, ℕ, List, ◌∷◌, ◌++◌, Option, None, Some, MatchOption, Result, Ok, Err, IfOk, refl, sym, ◌∙◌, ap}
use Rattle.std.specs.Prelude.{codes}
use Rattle.std.specs.Option.{option_map}
use Rattle.std.specs.List.{join_with_byte}
use Rattle.graph_lines.specs.Statements.{NamedView, NamedAct, Statement, All, Nothing, Only, Step}
use Rattle.text_lines.specs.Words.{HasNoSpace, IsCut}
use Rattle.text_lines.specs.Answers.{IsSomeOf}
use Rattle.graph_lines.specs.Reading.{IsViewText, IsRestText, IsStatementText, first_word}
use Rattle.graph_lines.specs.Acts.{statement_of}
use Rattle.graph_lines.specs.declared.statements.Statement as code
use Rattle.text_lines.proofs.Separated.{free_there, same_cut}
use Rattle.graph_lines.proofs.FirstWords.{behind_of, words_cut, first_free, only_step}
use Rattle.graph_lines.proofs.OneForm.{joined_more}

-- A view of several words begins with `only`.
pub no_view : (text word rest : List ℕ) → HasNoSpace word → IsCut text word rest → (word ≡ codes "only" → ⊥) → (view : NamedView) → IsViewText text view → ⊥
no_view text word rest none cut bad All q = free_there 32 (codes "all") word rest refl (sym q.1 ∙ cut)
no_view text word rest none cut bad Nothing q = free_there 32 (codes "none") word rest refl (sym q.1 ∙ cut)
no_view text word rest none cut bad (Only paths) q =
    bad (same_cut 32 word (codes "only") rest (join_with_byte 32 paths) none refl (sym cut ∙ q.1 ∙ joined_more (codes "only") paths q.0.0)).0

pub whole_statement : (text first rest : List ℕ) (s : Statement) → IsCut text first rest → IsRestText first rest s → IsStatementText text s
whole_statement text first rest s cut q =
    (q.0, cut ∙ ap (λ (l : List ℕ). l ++ 32 ∷ rest) (sym q.1) ∙ ap (λ (l : List ℕ). first_word s ++ 32 ∷ l) q.2 ∙ sym (words_cut s))

pub behind_first : (text first rest : List ℕ) (s : Statement) → HasNoSpace first → IsCut text first rest → IsStatementText text s → IsRestText first rest s
behind_first text first rest s none cut q =
    let parts = same_cut 32 (first_word s) first (behind_of s) rest (first_free s) none (sym (words_cut s) ∙ sym q.1 ∙ cut) in
    (q.0, parts.0, sym parts.1)

from_step : (text first rest : List ℕ) → HasNoSpace first → IsCut text first rest → (first ≡ codes "service" → ⊥) → (first ≡ codes "service2" → ⊥) → (first ≡ codes "show" → ⊥) → (read : Option code.Statement)
    → MatchOption read ((number : ℕ) (act : NamedAct) → IsRestText first rest (Step number act) → ⊥) (λ s. IsRestText first rest (statement_of s))
    → IsSomeOf (IsStatementText text) (option_map statement_of read)
from_step text first rest none cut a b d None h =
    λ s q. (
    let behind = behind_first text first rest s none cut q in
    only_step (λ (s : Statement). IsRestText first rest s → ⊥) h s (λ e. a (sym behind.1 ∙ e)) (λ e. b (sym behind.1 ∙ e)) (λ e. d (sym behind.1 ∙ e)) behind)
from_step text first rest none cut a b d (Some s) h = whole_statement text first rest (statement_of s) cut h

pub from_step_read : {E : Type 0} (text first rest : List ℕ) → HasNoSpace first → IsCut text first rest → (first ≡ codes "service" → ⊥) → (first ≡ codes "service2" → ⊥) → (first ≡ codes "show" → ⊥) → (result : Result (Option code.Statement) E)
    → IfOk result (λ read. MatchOption read ((number : ℕ) (act : NamedAct) → IsRestText first rest (Step number act) → ⊥) (λ s. IsRestText first rest (statement_of s)))
    → IfOk result (λ read. IsSomeOf (IsStatementText text) (option_map statement_of read))
from_step_read text first rest none cut a b d (Err e) h = tt
from_step_read text first rest none cut a b d (Ok read) h = from_step text first rest none cut a b d read h
