-- Tokens have one outcome: a module, or one place at which they go wrong.
use Rattle.std.proofs.Common.{◌≡◌, ℕ, zero, suc, ◌+◌, ◌≤◌, Bool, Option, List, [], ◌++◌, take, drop, codes, refl, sym, ap, ◌∙◌, ⊎_elim, arith}
use Rattle.std.proofs.lemmas.List.{take-append-drop, take-take}
use Rattle.std.proofs.str.Laws.{order}
use Rattle.std.specs.Option.{is_some}
use Rattle.bdl_parser.specs.declared.TheConstants.{NESTING_MAX}
use Rattle.bdl_parser.specs.declared.ParseCode.{ParseCode}
use Rattle.bdl_parser.specs.declared.ParseCode.TheVariants.{Expected, TypeNesting}
use Rattle.bdl_parser.specs.declared.trees.Module.{Module}
use Rattle.bdl_parser.specs.FirstFault.{IsModuleOf, NestsAt, FaultAt}
use Rattle.bdl_parser.specs.Grammar.{this_word, this_sign, a_name, a_number, a_text, a_leaf, a_holding, held_of, map_of, a_type, a_bag_field, a_struct_field, a_bag, a_struct, a_decl, an_import, the_decls, a_module}
use Rattle.bdl_parser.specs.Lexemes.{Lexeme}
use Rattle.bdl_parser.specs.Refusals.{is_type_first}
use Rattle.bdl_parser.specs.Trees.{TypeTree}
use Rattle.grammar_model.specs.Grammars.{Grammar, token, two, either, made, at_end}
use Rattle.grammar_model.proofs.FormLaws.{IsLawful}
use Rattle.grammar_model.proofs.Fronts.{IsFronted, fronted_token, fronted_nothing, fronted_ended, fronted_made, fronted_either, fronted_two, fronted_many}
use Rattle.bdl_parser.proofs.GrammarLaws.{law_token, lawful_type, lawful_bag_field, lawful_struct_field, is_decl_first, lawful_decl, lawful_import}

f_token : {A : Type 0} (meant : Lexeme → Option A) → IsFronted (token meant)
f_token meant = fronted_token meant

f_two : {A B : Type 0} {f : Grammar Lexeme A} {g : Grammar Lexeme B} {first : Lexeme → Bool} → IsLawful f first → IsFronted f → IsFronted g → IsFronted (two f g)
f_two {f = f} {g = g} {first = first} law ff gg = fronted_two f g first law ff gg

f_key : {B : Type 0} {A : Type 0} (meant : Lexeme → Option A) {g : Grammar Lexeme B} → IsFronted g → IsFronted (two (token meant) g)
f_key meant {g = g} gg = fronted_two (token meant) g (λ t. is_some (meant t)) (law_token meant) (f_token meant) gg

f_made : {A B : Type 0} (make : A → B) {f : Grammar Lexeme A} → IsFronted f → IsFronted (made make f)
f_made make {f = f} ff = fronted_made make f ff

fronted_held : (inner : Grammar Lexeme TypeTree) → IsLawful inner is_type_first → IsFronted inner → IsFronted (held_of inner)
fronted_held inner law ff =
    f_made (λ p. Rattle.bdl_parser.specs.Trees.held p.0.0 p.1.1.0 p.0.1) (f_key a_holding (f_key (this_sign 60) (f_two law ff (f_token (this_sign 62)))))

fronted_map : (inner : Grammar Lexeme TypeTree) → IsLawful inner is_type_first → IsFronted inner → IsFronted (map_of inner)
fronted_map inner law ff =
    f_made (λ p. Rattle.bdl_parser.specs.Trees.map p.1.1.0 p.1.1.1.1.0 p.0) (f_key (this_word (codes "map")) (f_key (this_sign 60) (f_two law ff (f_key (this_sign 44) (f_two law ff (f_token (this_sign 62)))))))

fronted_type : (n : ℕ) → IsFronted (a_type n)
unfolding a_type
fronted_type zero = fronted_nothing
fronted_type (suc n) =
    fronted_either (token a_leaf) (either (held_of (a_type n)) (map_of (a_type n))) (f_token a_leaf)
    (fronted_either (held_of (a_type n)) (map_of (a_type n)) (fronted_held (a_type n) (lawful_type n) (fronted_type n)) (fronted_map (a_type n) (lawful_type n) (fronted_type n)))

fronted_bag_field : (n : ℕ) → IsFronted (a_bag_field n)
fronted_bag_field n =
    f_made (λ p. record { kind = p.0; name = p.1.0.0; name_at = p.1.0.1; number = p.1.1.1.0.0; number_at = p.1.1.1.0.1 })
    (f_two (lawful_type n) (fronted_type n) (f_key a_name (f_key (this_sign 61) (f_key a_number (f_token (this_sign 59))))))

fronted_struct_field : (n : ℕ) → IsFronted (a_struct_field n)
fronted_struct_field n =
    f_made (λ p. record { kind = p.0; name = p.1.0.0; name_at = p.1.0.1 }) (f_two (lawful_type n) (fronted_type n) (f_key a_name (f_token (this_sign 59))))

fronted_bag : (n : ℕ) → IsFronted (a_bag n)
fronted_bag n =
    f_made (λ p. Rattle.bdl_parser.specs.declared.trees.Decl.TheVariants.Bag p.1.0.0 p.1.0.1 p.1.1.1)
    (f_key (this_word (codes "bag")) (f_key a_name (f_key (this_sign 123) (f_made (λ p. p.0) (fronted_many (a_bag_field n) (token (this_sign 125)) is_type_first (lawful_bag_field n) (fronted_bag_field n) (f_token (this_sign 125)))))))

fronted_struct : (n : ℕ) → IsFronted (a_struct n)
fronted_struct n =
    f_made (λ p. Rattle.bdl_parser.specs.declared.trees.Decl.TheVariants.Struct p.1.0.0 p.1.0.1 p.1.1.1)
    (f_key (this_word (codes "struct")) (f_key a_name (f_key (this_sign 123) (f_made (λ p. p.0) (fronted_many (a_struct_field n) (token (this_sign 125)) is_type_first (lawful_struct_field n) (fronted_struct_field n) (f_token (this_sign 125)))))))

fronted_module : (n : ℕ) → IsFronted (a_module n)
fronted_module n =
    f_made (λ p. record { imports = p.0; decls = p.1 })
    (fronted_many an_import (the_decls n) (λ t. is_some (this_word (codes "import") t)) lawful_import
    (f_made (λ p. record { file = p.1.0.0; at = p.1.0.1 }) (f_key (this_word (codes "import")) (f_key a_text (f_token (this_sign 59)))))
    (f_made (λ p. p.0) (fronted_many (a_decl n) at_end is_decl_first (lawful_decl n) (fronted_either (a_bag n) (a_struct n) (fronted_bag n) (fronted_struct n)) fronted_ended)))

-- a module is too deep nowhere
pub module_or_nesting : (ts : List Lexeme) (module_ : Module) (k : ℕ) → IsModuleOf ts module_ → NestsAt ts k → ⊥
module_or_nesting ts module_ k m f =
    f.deep ((fronted_module NESTING_MAX).read ts module_ [] (take (k + 1) ts) (drop (k + 1) ts) m (sym (take-append-drop (k + 1) ts)) (omega arith))

-- a prefix of a prefix
shorter : (ts : List Lexeme) (j k : ℕ) → j ≤ k → (a_module NESTING_MAX).begins (take k ts) → (a_module NESTING_MAX).begins (take j ts)
shorter ts j k le b =
    (fronted_module NESTING_MAX).begun (take k ts) (take j ts) (drop j (take k ts)) b
    (sym (take-append-drop j (take k ts)) ∙ ap (λ xs. xs ++ drop j (take k ts)) (take-take j k ts le))

nests_no_later : (ts : List Lexeme) (j k : ℕ) → NestsAt ts j → (a_module NESTING_MAX).begins (take k ts) → k ≤ j
nests_no_later ts j k f b =
    ⊎_elim (λ past. absurd (f.deep (shorter ts (j + 1) k (omega arith) b))) (λ fine. fine) (order j k)

fault_same : (ts : List Lexeme) (j k : ℕ) (code other : ParseCode) → FaultAt ts j code → FaultAt ts k other → (j ≡ k) × (code ≡ other)
fault_same ts j k Expected Expected p q =
    let a = p.longest k q.within q.begins in
    let b = q.longest j p.within p.begins in
    (omega arith, refl)
fault_same ts j k TypeNesting TypeNesting p q =
    let a = nests_no_later ts j k p q.shallow in
    let b = nests_no_later ts k j q p.shallow in
    (omega arith, refl)
fault_same ts j k Expected TypeNesting p q =
    let past = q.within in
    let a = p.longest (k + 1) (omega arith) q.begins in
    let b = nests_no_later ts k j q p.shallow in
    absurd (omega arith)
fault_same ts j k TypeNesting Expected p q =
    let past = p.within in
    let a = q.longest (j + 1) (omega arith) p.begins in
    let b = nests_no_later ts j k p q.shallow in
    absurd (omega arith)

pub one_fault : (ts : List Lexeme) (j k : ℕ) (code other : ParseCode) → FaultAt ts j code → FaultAt ts k other → (j ≡ k) × (code ≡ other)
one_fault = fault_same

pub module_or_fault : (ts : List Lexeme) (module_ : Module) (k : ℕ) (code : ParseCode) → IsModuleOf ts module_ → FaultAt ts k code → ⊥
module_or_fault ts module_ k Expected m f = f.none NESTING_MAX module_ m
module_or_fault ts module_ k TypeNesting m f = module_or_nesting ts module_ k m f
