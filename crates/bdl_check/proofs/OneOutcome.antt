-- A definition and the name of a bag have one outcome: one table, or one first fault.
use Rattle.std.proofs.Common.{◌≡◌, ◌⊎◌, inl, inr, ℕ, ◌<◌, ◌≤◌, List, [], ◌∷◌, Some, arith, ap, subst, sym, ◌∙◌}
use Rattle.std.specs.List.{slice_get}
use Rattle.std.proofs.lemmas.Bool.{cases_lt}
use Rattle.bag_model.specs.Shapes.{Nodes}
use Rattle.bdl_check.specs.Checks.{declared_faults}
use Rattle.bdl_check.specs.Declarations.{Placed, decl_place, all_placed}
use Rattle.bdl_check.specs.Compiler.{IsTableIn, IsFaultIn, IsTableOf, IsFirstFaultOf}
use Rattle.bdl_check.specs.Faults.{first}
use Rattle.bdl_check.specs.Recursion.{links, IsRecursive}
use Rattle.bdl_check.proofs.OneLayout.{untabled_one, table_one, table_excludes}
use Rattle.bdl_load.specs.declared.faults.DefCode.TheVariants.{Recursive}
use Rattle.bdl_load.specs.declared.faults.Fault.{Fault}
use Rattle.bdl_load.specs.declared.files.LoadedFile.{LoadedFile}
use Rattle.bdl_load.specs.Faults.{found, fault_in}
use Rattle.bdl_load.specs.Loading.{Holding, Loading, Loads, all_loaded, stopped}
use Rattle.topological_order.specs.Graphs.{EdgeLists}
use Rattle.topological_order.specs.Orders.{IsFirstCyclic}

-- What the crate below promises.
abbrev pub LoadingOne : Type 0
LoadingOne = (held : Holding) (root : List ℕ) (outcome other : Loading) → Loads held root outcome → Loads held root other → outcome ≡ other

-- ---- files

-- There is one first node that reaches itself.
cyclic_one : (graph : EdgeLists) (a b : ℕ) → IsFirstCyclic graph a → IsFirstCyclic graph b → a ≡ b
cyclic_one graph a b p q = by (cases_lt a b) (cases_lt b a)
  where
    by : (a < b) ⊎ (b ≤ a) → (b < a) ⊎ (a ≤ b) → a ≡ b
    by (inl less) other = absurd (q.first a less p.cyclic)
    by (inr more) (inl less) = absurd (p.first b less q.cyclic)
    by (inr more) (inr less) = omega arith

recursive_one : (ds : List Placed) (f g : Fault) → IsRecursive ds f → IsRecursive ds g → f ≡ g
recursive_one ds f g p q =
    let number = cyclic_one (links ds) p.number q.number p.first q.first in
    let some : Some p.bag ≡ Some q.bag = sym p.is ∙ ap (slice_get ds) number ∙ q.is in
    let bag : p.bag ≡ q.bag = cc some in
    p.fault_is ∙ ap (λ (d : Placed). fault_in d.file (found (decl_place d.decl) Recursive)) bag ∙ sym q.fault_is

-- Declarations without a fault have no first one.
no_first : {A : Type 0} (xs : List A) (x : A) → xs ≡ [] → first xs ≡ Some x → ⊥
no_first [] x e f = cc f
no_first (y ∷ xs) x e f = cc e

faults_in_one : (files : List LoadedFile) (root name : List ℕ) (f g : Fault) → IsFaultIn files root name f → IsFaultIn files root name g → f ≡ g
faults_in_one files root name f g (IsFaultIn.declared p) (IsFaultIn.declared q) = let same : Some f ≡ Some g = sym p ∙ q in cc same
faults_in_one files root name f g (IsFaultIn.declared p) (IsFaultIn.recursive none q) = absurd (no_first (declared_faults files) f none p)
faults_in_one files root name f g (IsFaultIn.declared p) (IsFaultIn.untabled sound q) = absurd (no_first (declared_faults files) f sound.declared p)
faults_in_one files root name f g (IsFaultIn.recursive none p) (IsFaultIn.declared q) = absurd (no_first (declared_faults files) g none q)
faults_in_one files root name f g (IsFaultIn.recursive none p) (IsFaultIn.recursive _ q) = recursive_one (all_placed files) f g p q
faults_in_one files root name f g (IsFaultIn.recursive none p) (IsFaultIn.untabled sound q) = absurd (sound.acyclic p.number p.first.cyclic)
faults_in_one files root name f g (IsFaultIn.untabled sound p) (IsFaultIn.declared q) = absurd (no_first (declared_faults files) g sound.declared q)
faults_in_one files root name f g (IsFaultIn.untabled sound p) (IsFaultIn.recursive none q) = absurd (sound.acyclic q.number q.first.cyclic)
faults_in_one files root name f g (IsFaultIn.untabled sound p) (IsFaultIn.untabled _ q) = untabled_one (all_placed files) root name f g p q

table_in_excludes : (files : List LoadedFile) (root name : List ℕ) (table : Nodes) (f : Fault) → IsTableIn files name table
    → IsFaultIn files root name f → ⊥
table_in_excludes files root name table f t (IsFaultIn.declared p) = no_first (declared_faults files) f t.sound.declared p
table_in_excludes files root name table f t (IsFaultIn.recursive none p) = t.sound.acyclic p.number p.first.cyclic
table_in_excludes files root name table f t (IsFaultIn.untabled sound p) = table_excludes (all_placed files) root name table f t.table p

-- ---- definitions

same_files : LoadingOne → (held : Holding) (root : List ℕ) (files others : List LoadedFile) → Loads held root (all_loaded files)
    → Loads held root (all_loaded others) → files ≡ others
same_files one held root files others p q = let same = one held root (all_loaded files) (all_loaded others) p q in cc same

not_stopped : LoadingOne → (held : Holding) (root : List ℕ) (files : List LoadedFile) (names : List (List ℕ)) (f : Fault)
    → Loads held root (all_loaded files) → Loads held root (stopped names f) → ⊥
not_stopped one held root files names f p q = let same = one held root (all_loaded files) (stopped names f) p q in cc same

pub tables_one : LoadingOne → (held : Holding) (root name : List ℕ) (m n : Nodes) → IsTableOf held root name m → IsTableOf held root name n → m ≡ n
tables_one one held root name m n t u =
    let files = same_files one held root t.files u.files t.loaded u.loaded in
    let there = subst (λ (fs : List LoadedFile). IsTableIn fs name m) files t.table in
    table_one (all_placed u.files) name m n there.table u.table.table

pub tables_exclude : LoadingOne → (held : Holding) (root name : List ℕ) (table : Nodes) (f : Fault) → IsTableOf held root name table
    → IsFirstFaultOf held root name f → ⊥
tables_exclude one held root name table f t (IsFirstFaultOf.unloaded names p) = not_stopped one held root t.files names f t.loaded p
tables_exclude one held root name table f t (IsFirstFaultOf.loaded files p q) =
    let same = same_files one held root t.files files t.loaded p in
    table_in_excludes files root name table f (subst (λ (fs : List LoadedFile). IsTableIn fs name table) same t.table) q

pub faults_one : LoadingOne → (held : Holding) (root name : List ℕ) (f g : Fault) → IsFirstFaultOf held root name f → IsFirstFaultOf held root name g
    → f ≡ g
faults_one one held root name f g (IsFirstFaultOf.unloaded names p) (IsFirstFaultOf.unloaded others q) = let same = one held root (stopped names f)
    (stopped others g) p q in cc same
faults_one one held root name f g (IsFirstFaultOf.unloaded names p) (IsFirstFaultOf.loaded files q r) = absurd
    (not_stopped one held root files names f q p)
faults_one one held root name f g (IsFirstFaultOf.loaded files p r) (IsFirstFaultOf.unloaded names q) = absurd
    (not_stopped one held root files names g p q)
faults_one one held root name f g (IsFirstFaultOf.loaded files p r) (IsFirstFaultOf.loaded others q s) =
    let same = same_files one held root files others p q in
    faults_in_one others root name f g (subst (λ (fs : List LoadedFile). IsFaultIn fs root name f) same r) s
