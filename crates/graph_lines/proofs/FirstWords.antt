-- The first words of lines tell their kinds apart.
use Rattle.std.proofs.Common.{◌≡◌, ℕ, true, false, List, ◌∷◌, ◌++◌, refl, sym, ◌∙◌, subst}
use Rattle.std.specs.Prelude.{codes}
use Rattle.std.specs.List.{join_with_byte}
use Rattle.std.specs.Str.{bytes_eq}
use Rattle.std.proofs.lemmas.Slice.Eq.{bytes_eq-Decides}
use Rattle.context_model.specs.declared.Form.{Form as WireForm}
use Rattle.context_model.specs.declared.Form.TheVariants.{One, Two}
use Rattle.graph_lines.specs.Statements.{NamedView, NamedAct, Statement, Start, Recv, Set, Branch, Forward, Trim, Join, Service, Step, Show}
use Rattle.graph_lines.specs.Forms.{service_word, act_name, statement_words}
use Rattle.text_lines.specs.Words.{HasNoSpace}
use Rattle.graph_lines.specs.Reading.{first_word, more_words}

-- Texts with different bytes aren't the same.
pub differ : (a b : List ℕ) → bytes_eq a b ≡ false → a ≡ b → ⊥
differ a b apart same = let bad : true ≡ false = sym ((bytes_eq-Decides a b).1 same) ∙ apart in cc bad

-- ---- acts, by the word that names them

pub only_start : (P : NamedAct → Type 0) → ((service : List ℕ) → P (Start service)) → (act : NamedAct) → act_name act ≡ codes "start" → P act
only_start P h (Start service) e = h service
only_start P h act e = absurd (differ (act_name act) (codes "start") refl e)

pub only_recv : (P : NamedAct → Type 0) → ((service hex : List ℕ) → P (Recv service hex)) → (act : NamedAct) → act_name act ≡ codes "recv" → P act
only_recv P h (Recv service hex) e = h service hex
only_recv P h act e = absurd (differ (act_name act) (codes "recv") refl e)

pub only_set : (P : NamedAct → Type 0) → ((parent : ℕ) (path write : List ℕ) → P (Set parent path write)) → (act : NamedAct) → act_name act ≡ codes "set" → P act
only_set P h (Set parent path write) e = h parent path write
only_set P h act e = absurd (differ (act_name act) (codes "set") refl e)

pub only_branch : (P : NamedAct → Type 0) → ((parent : ℕ) → P (Branch parent)) → (act : NamedAct) → act_name act ≡ codes "branch" → P act
only_branch P h (Branch parent) e = h parent
only_branch P h act e = absurd (differ (act_name act) (codes "branch") refl e)

pub only_forward : (P : NamedAct → Type 0) → ((parent : ℕ) (service : List ℕ) → P (Forward parent service)) → (act : NamedAct) → act_name act ≡ codes "forward" → P act
only_forward P h (Forward parent service) e = h parent service
only_forward P h act e = absurd (differ (act_name act) (codes "forward") refl e)

pub only_trim : (P : NamedAct → Type 0) → ((parent budget : ℕ) → P (Trim parent budget)) → (act : NamedAct) → act_name act ≡ codes "trim" → P act
only_trim P h (Trim parent budget) e = h parent budget
only_trim P h act e = absurd (differ (act_name act) (codes "trim") refl e)

pub only_join : (P : NamedAct → Type 0) → ((parents : List ℕ) → P (Join parents)) → (act : NamedAct) → act_name act ≡ codes "join" → P act
only_join P h (Join parents) e = h parents
only_join P h act e = absurd (differ (act_name act) (codes "join") refl e)

-- ---- statements, by the first word

-- What is after the first word and its space.
abbrev pub behind_of : Statement → List ℕ
behind_of statement = join_with_byte 32 (more_words statement)

-- Each line has more words than one.
pub words_cut : (statement : Statement) → join_with_byte 32 (statement_words statement) ≡ first_word statement ++ 32 ∷ behind_of statement
words_cut (Service One name view) = refl
words_cut (Service Two name view) = refl
words_cut (Step number act) = refl
words_cut (Show step) = refl

act_name_free : (act : NamedAct) → HasNoSpace (act_name act)
act_name_free (Start service) = refl
act_name_free act = refl

pub first_free : (statement : Statement) → HasNoSpace (first_word statement)
first_free (Service One name view) = refl
first_free (Service Two name view) = refl
first_free (Step number act) = act_name_free act
first_free (Show step) = refl

pub not_service : (form : WireForm) (act : NamedAct) → act_name act ≡ service_word form → ⊥
not_service One (Start service) e = differ (codes "start") (codes "service") refl e
not_service One act e = differ (act_name act) (codes "service") refl e
not_service Two (Start service) e = differ (codes "start") (codes "service2") refl e
not_service Two act e = differ (act_name act) (codes "service2") refl e

no_show : (form : WireForm) → codes "show" ≡ service_word form → ⊥
no_show One e = differ (codes "show") (codes "service") refl e
no_show Two e = differ (codes "show") (codes "service2") refl e

-- The words of services tell the forms apart.
one_service : (a b : WireForm) → service_word a ≡ service_word b → a ≡ b
one_service One One e = refl
one_service One Two e = absurd (differ (codes "service") (codes "service2") refl e)
one_service Two One e = absurd (differ (codes "service2") (codes "service") refl e)
one_service Two Two e = refl

pub not_show : (act : NamedAct) → act_name act ≡ codes "show" → ⊥
not_show (Start service) e = differ (codes "start") (codes "show") refl e
not_show act e = differ (act_name act) (codes "show") refl e

pub only_service : (form : WireForm) (P : Statement → Type 0) → ((name : List ℕ) (view : NamedView) → P (Service form name view)) → (s : Statement) → first_word s ≡ service_word form → P s
only_service form P h (Service own name view) e = subst (λ f. P (Service f name view)) (sym (one_service own form e)) (h name view)
only_service form P h (Step number act) e = absurd (not_service form act e)
only_service form P h (Show step) e = absurd (no_show form e)

pub only_show : (P : Statement → Type 0) → ((step : ℕ) → P (Show step)) → (s : Statement) → first_word s ≡ codes "show" → P s
only_show P h (Show step) e = h step
only_show P h (Step number act) e = absurd (not_show act e)
only_show P h (Service form name view) e = absurd (no_show form (sym e))

pub only_step : (P : Statement → Type 0) → ((number : ℕ) (act : NamedAct) → P (Step number act)) → (s : Statement)
    → (first_word s ≡ codes "service" → ⊥) → (first_word s ≡ codes "service2" → ⊥) → (first_word s ≡ codes "show" → ⊥) → P s
only_step P h (Step number act) a b c = h number act
only_step P h (Service One name view) a b c = absurd (a refl)
only_step P h (Service Two name view) a b c = absurd (b refl)
only_step P h (Show step) a b c = absurd (c refl)
