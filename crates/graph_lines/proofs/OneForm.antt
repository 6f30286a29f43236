-- A line says one thing.
use Rattle.std.proofs.Common.{◌≡◌, ℕ, ◌<◌, List, [], ◌∷◌, ◌++◌, map, length, refl, sym, ◌∙◌, ap, arith}
use Rattle.std.specs.Prelude.{codes}
use Rattle.std.specs.Fmt.{decimal}
use Rattle.std.specs.List.{join_with_byte}
use Rattle.std.proofs.lemmas.List.{length-map}
use Rattle.graph_lines.specs.Statements.{NamedView, NamedAct, Statement, All, Nothing, Only, Start, Recv, Set, Branch, Forward, Trim, Join, Service, Step, Show}
use Rattle.graph_lines.specs.Forms.{IsSoundView, IsSoundNamedAct, IsSoundStatement, view_words, act_name, act_words, HasStatementForm}
use Rattle.text_lines.specs.Words.{HasNoSpace}
use Rattle.graph_lines.specs.Reading.{first_word}
use Rattle.text_lines.proofs.Separated.{free_there, same_cut, same_joined}
use Rattle.graph_lines.proofs.Names.{name_no_space, path_no_space, paths_free}
use Rattle.graph_lines.proofs.Decimals.{numbers_free, one_number, same_number, same_numbers}
use Rattle.graph_lines.proofs.FirstWords.{differ, only_start, only_recv, only_set, only_branch, only_forward, only_trim, only_join, behind_of, words_cut, first_free, only_service, only_show, not_service, not_show}

-- The words after a name, where there are some.
pub joined_more : (first : List ℕ) (more : List (List ℕ)) → 0 < length more → join_with_byte 32 (first ∷ more) ≡ first ++ 32 ∷ join_with_byte 32 more
joined_more first [] some = absurd (omega (arith, some))
joined_more first (a ∷ more) some = refl

pub view_some : (view : NamedView) → 0 < length (view_words view)
view_some All = omega arith
view_some Nothing = omega arith
view_some (Only paths) = omega arith

pub act_some : (act : NamedAct) → IsSoundNamedAct act → 0 < length (act_words act)
act_some (Join parents) h = omega (arith, h.0, length-map parents decimal)
act_some (Start service) h = omega arith
act_some act h = omega arith

-- What names a view's paths isn't a word alone.
pub only_cut : (paths : List (List ℕ)) → 0 < length paths → (word : List ℕ) → HasNoSpace word → word ≡ join_with_byte 32 (codes "only" ∷ paths) → ⊥
only_cut paths some word free e = free_there 32 word (codes "only") (join_with_byte 32 paths) free (e ∙ joined_more (codes "only") paths some)

pub one_view : (a b : NamedView) → IsSoundView a → IsSoundView b → join_with_byte 32 (view_words a) ≡ join_with_byte 32 (view_words b) → a ≡ b
one_view All All p q e = refl
one_view All Nothing p q e = absurd (differ (codes "all") (codes "none") refl e)
one_view All (Only paths) p q e = absurd (only_cut paths q.0 (codes "all") refl e)
one_view Nothing All p q e = absurd (differ (codes "none") (codes "all") refl e)
one_view Nothing Nothing p q e = refl
one_view Nothing (Only paths) p q e = absurd (only_cut paths q.0 (codes "none") refl e)
one_view (Only paths) All p q e = absurd (only_cut paths p.0 (codes "all") refl (sym e))
one_view (Only paths) Nothing p q e = absurd (only_cut paths p.0 (codes "none") refl (sym e))
one_view (Only a) (Only b) p q e =
    let both : codes "only" ++ 32 ∷ join_with_byte 32 a ≡ codes "only" ++ 32 ∷ join_with_byte 32 b = sym (joined_more (codes "only") a p.0) ∙ e ∙ joined_more (codes "only") b q.0 in
    ap Only (same_joined 32 a b p.0 q.0 (paths_free a p.1) (paths_free b q.1) (same_cut 32 (codes "only") (codes "only") _ _ refl refl both).1)

-- The other act says the same.
abbrev SaysSame : NamedAct → NamedAct → Type 0
SaysSame a b = IsSoundNamedAct b → join_with_byte 32 (act_words a) ≡ join_with_byte 32 (act_words b) → a ≡ b

one_act : (a b : NamedAct) → IsSoundNamedAct a → act_name a ≡ act_name b → SaysSame a b
one_act (Start service) b p name = only_start (SaysSame (Start service)) (λ other q e. ap Start e) b (sym name)
one_act (Recv service hex) b p name =
    only_recv (SaysSame (Recv service hex)) (λ other more q e.
    let cut = same_cut 32 service other hex more (name_no_space service p.0) (name_no_space other q.0) e in
    let s : service ≡ other = cut.0 in let h : hex ≡ more = cut.1 in cc (s, h)) b (sym name)
one_act (Set parent path write) b p name =
    only_set (SaysSame (Set parent path write)) (λ other there value q e.
    let number = one_number parent other (path ++ 32 ∷ write) (there ++ 32 ∷ value) p.0 q.0 e in
    let cut = same_cut 32 path there write value (path_no_space path p.1) (path_no_space there q.1) number.1 in
    let n : parent ≡ other = number.0 in let s : path ≡ there = cut.0 in let w : write ≡ value = cut.1 in cc (n, s, w)) b (sym name)
one_act (Branch parent) b p name =
    only_branch (SaysSame (Branch parent)) (λ other q e. ap Branch (same_number parent other p q e)) b (sym name)
one_act (Forward parent service) b p name =
    only_forward (SaysSame (Forward parent service)) (λ other there q e.
    let number = one_number parent other service there p.0 q.0 e in
    let n : parent ≡ other = number.0 in let s : service ≡ there = number.1 in cc (n, s)) b (sym name)
one_act (Trim parent budget) b p name =
    only_trim (SaysSame (Trim parent budget)) (λ other more q e.
    let number = one_number parent other (decimal budget) (decimal more) p.0 q.0 e in
    let n : parent ≡ other = number.0 in let s : budget ≡ more = same_number budget more p.1 q.1 number.1 in cc (n, s)) b (sym name)
one_act (Join parents) b p name =
    only_join (SaysSame (Join parents)) (λ others q e.
    ap Join (same_numbers parents others p.1 q.1
    (same_joined 32 (map decimal parents) (map decimal others) (act_some (Join parents) p) (act_some (Join others) q)
    (numbers_free parents p.1) (numbers_free others q.1) e))) b (sym name)

-- The other statement says the same.
abbrev BehindSame : Statement → Statement → Type 0
BehindSame a b = IsSoundStatement b → first_word a ≡ first_word b → behind_of a ≡ behind_of b → a ≡ b

one_behind : (a b : Statement) → IsSoundStatement a → BehindSame a b
one_behind (Service form name view) b p q first e =
    only_service form (BehindSame (Service form name view)) (λ other saw r f d.
    let both = sym (joined_more name (view_words view) (view_some view)) ∙ d ∙ joined_more other (view_words saw) (view_some saw) in
    let cut = same_cut 32 name other (join_with_byte 32 (view_words view)) (join_with_byte 32 (view_words saw)) (name_no_space name p.0) (name_no_space other r.0) both in
    let n : name ≡ other = cut.0 in let v : view ≡ saw = one_view view saw p.1 r.1 cut.1 in cc (n, v)) b (sym first) q first e
one_behind (Show step) b p q first e =
    only_show (BehindSame (Show step)) (λ other r f d. ap Show (same_number step other p r d)) b (sym first) q first e
one_behind (Step number act) (Service form name view) p q first e = absurd (not_service form act first)
one_behind (Step number act) (Show step) p q first e = absurd (not_show act first)
one_behind (Step number act) (Step other what) p q first e =
    let both = sym (joined_more (decimal number) (act_words act) (act_some act p.1)) ∙ e ∙ joined_more (decimal other) (act_words what) (act_some what q.1) in
    let cut = one_number number other (join_with_byte 32 (act_words act)) (join_with_byte 32 (act_words what)) p.0 q.0 both in
    let n : number ≡ other = cut.0 in let a : act ≡ what = one_act act what p.1 first q.1 cut.1 in cc (n, a)

pub one_form : (text : List ℕ) (a b : Statement) → HasStatementForm text a → HasStatementForm text b → a ≡ b
one_form text a b p q =
    let both = sym (words_cut a) ∙ sym p.2 ∙ q.2 ∙ words_cut b in
    let cut = same_cut 32 (first_word a) (first_word b) (behind_of a) (behind_of b) (first_free a) (first_free b) both in
    one_behind a b p.1 q.1 cut.0 cut.1
