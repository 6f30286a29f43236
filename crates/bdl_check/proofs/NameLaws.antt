-- Names that are declared one after another.
use Rattle.std.proofs.Common.{◌≡◌, ℕ, ◌+◌, ◌<◌, drop, length, get_or, List, [], ◌∷◌, ◌++◌, Option, None, Some, refl, sym, ◌∙◌, ap, append_assoc, append-nil}
use Rattle.std.proofs.lemmas.List.{drop_more}
use Rattle.std.proofs.lemmas.List.Concat.{flat_map-cons}
use Rattle.std.specs.Option.{is_some, option_map}
use Rattle.bdl_load.specs.declared.faults.Fault.{Fault}
use Rattle.bdl_load.specs.declared.files.LoadedFile.{LoadedFile}
use Rattle.bdl_check.specs.Checks.{faults_in_file, name_fault, name_faults}
use Rattle.bdl_check.specs.Declarations.{Placed, decl_name, decl_kind, decl_named, kind_named, placed_in, all_placed}
use Rattle.bdl_check.specs.Faults.{first}
use Rattle.bdl_check.proofs.Firsts.{first_none, first_some}

-- A kind is known where its declaration is.
pub is_some-kind : (ds : List Placed) (text : List ℕ) → is_some (kind_named ds text) ≡ is_some (decl_named ds text)
is_some-kind ds text = by (decl_named ds text)
  where
    by : (d : Option Placed) → is_some (option_map (λ e. decl_kind e.decl) d) ≡ is_some d
    by None = refl
    by (Some d) = refl

-- The faults of declarations that follow one another.
pub name_faults-append : (earlier xs ys : List Placed) → name_faults earlier (xs ++ ys) ≡ name_faults earlier xs ++ name_faults (earlier ++ xs) ys
name_faults-append earlier [] ys = ap (λ (gone : List Placed). name_faults gone ys) (sym (append-nil earlier))
name_faults-append earlier (d ∷ xs) ys =
    let front : List Fault = faults_in_file d.file (name_fault (is_some (kind_named earlier (decl_name d.decl))) d.decl) in
    ap (λ (rest : List Fault). front ++ rest) (name_faults-append (earlier ++ d ∷ []) xs ys)
    ∙ ap (λ (gone : List Placed). front ++ (name_faults (earlier ++ d ∷ []) xs ++ name_faults gone ys)) (append_assoc earlier (d ∷ []) xs)
    ∙ sym (append_assoc front (name_faults (earlier ++ d ∷ []) xs) (name_faults (earlier ++ d ∷ xs) ys))

-- What is left of all declarations has the first fault of all.
pub record NamesLeft (now old left all : List Placed) : Type 0 where
  pub whole : now ++ left ≡ old ++ all
  pub same : first (name_faults now left) ≡ first (name_faults old all)

-- Some are declared without a fault.
pub names_more : (now more old front rest left all : List Placed) → rest ≡ front ++ left → NamesLeft now old rest all
    → None ≡ first (name_faults now front) → more ≡ now ++ front →
    NamesLeft more old left all
names_more now more old front rest left all is so_far none added = record {
  whole = ap (λ (ds : List Placed). ds ++ left) added ∙ append_assoc now front left ∙ ap (λ (ds : List Placed). now ++ ds) (sym is) ∙ so_far.whole;
  same = ap (λ (ds : List Placed). first (name_faults ds left)) added
      ∙ sym (first_none (name_faults now front) (name_faults (now ++ front) left) (sym none))
      ∙ ap first (sym (name_faults-append now front left))
      ∙ ap (λ (ds : List Placed). first (name_faults now ds)) (sym is) ∙ so_far.same;
}

-- One of them has the first fault.
pub names_found : (now old front rest left all : List Placed) (fault : Fault) → rest ≡ front ++ left → NamesLeft now old rest all
    → Some fault ≡ first (name_faults now front) →
    Some fault ≡ first (name_faults old all)
names_found now old front rest left all fault is so_far some =
    sym (first_some (name_faults now front) (name_faults (now ++ front) left) fault (sym some))
    ∙ ap first (sym (name_faults-append now front left))
    ∙ ap (λ (ds : List Placed). first (name_faults now ds)) (sym is) ∙ so_far.same

-- The declarations of the files that are left, where the next file is known.
pub files_left : (files : List LoadedFile) (i : ℕ) (file : LoadedFile) → i < length files → file ≡ get_or files i file
    → all_placed (drop i files) ≡ placed_in file ++ all_placed (drop (i + 1) files)
files_left files i file h e =
    ap all_placed (drop_more files i file h) ∙ flat_map-cons placed_in (get_or files i file) (drop (i + 1) files)
    ∙ ap (λ (next : LoadedFile). placed_in next ++ all_placed (drop (i + 1) files)) (sym e)
