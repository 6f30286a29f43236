-- The files that were loaded, as more are loaded.
use Rattle.std.proofs.Common.{◌≡◌, ℕ, zero, suc, ◌-◌, take, ◌<◌, List, [], ◌∷◌, ◌++◌, length, refl, sym, ◌∙◌, ap, subst, arith, true, false, Bool, ◌||◌, get_or}
use Rattle.std.specs.List.{All, IsDistinct}
use Rattle.std.specs.Str.{bytes_eq}
use Rattle.std.proofs.lemmas.List.{map-append, get_or_append_left, get_or_default, get_or-map, length-append, length-map}
use Rattle.std.proofs.lemmas.List.Elements.{All-append, All-head, All-tail}
use Rattle.std.proofs.Math.Seq.{get_or-append_seam, take-append_seam}
use Rattle.bdl_load.specs.declared.loader.TheConstants.{FILES_MAX}
use Rattle.bdl_load.specs.declared.files.LoadedFile.{LoadedFile}
use Rattle.bdl_load.specs.Loading.{is_among, file_names}
use Rattle.bdl_load.specs.Loader.{no_file, file_at, names_at, IsSpelledFile, AreSound}
use Rattle.bdl_load.proofs.Asking.{distinct_none, distinct_snoc}

All-one : {X : Type 0} (P : X → Type 0) (x : X) → P x → All P (x ∷ [])
All-one P x p zero d within = p
All-one P x p (suc k) d within = absurd (omega (arith, within))

All-front : {X : Type 0} (P : X → Type 0) (xs ys : List X) → All P (xs ++ ys) → All P xs
All-front P xs ys all k d within =
    subst P (get_or_append_left xs ys d k within) (all k d (omega (arith, length-append xs ys, within)))

pub file_kept : (files more : List LoadedFile) (number : ℕ) → number < length files → file_at (files ++ more) number ≡ file_at files number
file_kept files more number within = get_or_append_left files more no_file number within

pub file_added : (files : List LoadedFile) (file : LoadedFile) → file_at (files ++ file ∷ []) (length files) ≡ file
file_added files file = get_or-append_seam files file [] no_file

pub names_kept : (files more : List LoadedFile) (numbers : List ℕ) → All (λ number. number < length files) numbers → names_at (files ++ more) numbers ≡ names_at files numbers
names_kept files more [] all = refl
names_kept files more (n ∷ numbers) all =
    let first = ap (λ (file : LoadedFile). file.name) (file_kept files more n (All-head (λ number. number < length files) n numbers all)) in
    let rest = names_kept files more numbers (All-tail (λ number. number < length files) n numbers all) in
    cc (first, rest)

pub names_added : (files : List LoadedFile) (file : LoadedFile) (numbers : List ℕ) → All (λ number. number < length files) numbers
    → names_at (files ++ file ∷ []) (numbers ++ length files ∷ []) ≡ names_at files numbers ++ file.name ∷ []
names_added files file numbers all =
    map-append (λ (number : ℕ). (file_at (files ++ file ∷ []) number).name) numbers (length files ∷ [])
    ∙ ap (λ names. names ++ (file_at (files ++ file ∷ []) (length files)).name ∷ []) (names_kept files (file ∷ []) numbers all)
    ∙ ap (λ (last : LoadedFile). names_at files numbers ++ last.name ∷ []) (file_added files file)

-- the numbers of files are still such after more files
pub taken_kept : (files more : List LoadedFile) (numbers : List ℕ) → All (λ number. number < length files) numbers → All (λ number. number < length (files ++ more)) numbers
taken_kept files more numbers all k d within = let one = all k d within in omega (arith, length-append files more)

pub sound_added : (files : List LoadedFile) (file : LoadedFile) (taking : List ℕ) → AreSound files taking → is_among file.name (file_names files) ≡ false → length files < FILES_MAX → IsSpelledFile file
    → AreSound (files ++ file ∷ []) (taking ++ length files ∷ [])
sound_added files file taking sound fresh room spelled = record {
  taken = All-append (λ number. number < length (files ++ file ∷ [])) taking (length files ∷ []) (taken_kept files (file ∷ []) taking sound.taken)
      (All-one (λ number. number < length (files ++ file ∷ [])) (length files) (omega (arith, length-append files (file ∷ []))));
  room = omega (arith, length-append files (file ∷ []));
  distinct = subst (λ names. IsDistinct bytes_eq names) (sym (map-append (λ (file : LoadedFile). file.name) files (file ∷ []))) (distinct_snoc (file_names files) file.name sound.distinct fresh);
  spelled = All-append IsSpelledFile files (file ∷ []) sound.spelled (All-one IsSpelledFile file spelled);
}

-- the last number is forgotten
pub sound_without_last : (files : List LoadedFile) (taking now : List ℕ) (last : ℕ) → now ≡ taking ++ last ∷ [] → AreSound files now → AreSound files taking
sound_without_last files taking now last is sound = record {
  taken = All-front (λ number. number < length files) taking (last ∷ []) (subst (λ numbers. All (λ number. number < length files) numbers) is sound.taken);
  room = sound.room;
  distinct = sound.distinct;
  spelled = sound.spelled;
}

pub last_taken : (taking now : List ℕ) (last count : ℕ) → now ≡ taking ++ last ∷ [] → count ≡ length now → take (count - 1) now ≡ taking
last_taken taking now last count is counts =
    let fewer : count - 1 ≡ length taking = omega (arith, counts, ap length is, length-append taking (last ∷ [])) in
    ap (λ n. take n now) fewer ∙ ap (take (length taking)) is ∙ take-append_seam taking (last ∷ [])

-- the same of lists that are equal to these
pub sound_begun : (files begun : List LoadedFile) (file : LoadedFile) (taking now : List ℕ) → AreSound files taking → is_among file.name (file_names files) ≡ false → length files < FILES_MAX → IsSpelledFile file
    → begun ≡ files ++ file ∷ [] → now ≡ taking ++ length files ∷ [] → AreSound begun now
sound_begun files begun file taking now sound fresh room spelled is numbers =
    subst (λ begun. AreSound begun now) (sym is) (subst (AreSound (files ++ file ∷ [])) (sym numbers) (sound_added files file taking sound fresh room spelled))

pub sound_empty : (files : List LoadedFile) (taking : List ℕ) → files ≡ [] → taking ≡ [] → AreSound files taking
sound_empty files taking none nothing = subst (λ files. AreSound files taking) (sym none) (subst (AreSound []) (sym nothing) (record {
  taken = λ k d within. absurd (omega (arith, within));
  room = omega arith;
  distinct = distinct_none;
  spelled = λ k d within. absurd (omega (arith, within));
}))

-- the element at a place, whatever stands for a missing one
pub file_is : (files : List LoadedFile) (number : ℕ) (file : LoadedFile) → number < length files → file ≡ get_or files number file → file_at files number ≡ file
file_is files number file within is = get_or_default files number no_file file within ∙ sym is

or_true : (b c : Bool) → c ≡ true → (b || c) ≡ true
or_true true c e = refl
or_true false c e = e

-- a name is among names where it is that of one
any_name : (name : List ℕ) (names : List (List ℕ)) (k : ℕ) (d : List ℕ) → k < length names → bytes_eq name (get_or names k d) ≡ true → is_among name names ≡ true
any_name name [] k d within e = absurd (omega (arith, within))
any_name name (x ∷ names) zero d within e = cc e
any_name name (x ∷ names) (suc k) d within e = or_true (bytes_eq name x) (is_among name names) (any_name name names k d (omega (arith, within)) e)

pub among_taking : (name : List ℕ) (files : List LoadedFile) (taking : List ℕ) (k : ℕ) (file : LoadedFile) → k < length taking → get_or taking k 0 < length files → file ≡ get_or files (get_or taking k 0) file
    → bytes_eq name file.name ≡ true → is_among name (names_at files taking) ≡ true
among_taking name files taking k file within inside is e =
    let same = ap (λ (file : LoadedFile). file.name) (file_is files (get_or taking k 0) file inside is) in
    let there = get_or-map (λ (number : ℕ). (file_at files number).name) taking k 0 [] within in
    any_name name (names_at files taking) k [] (simp length-map within) (ap (bytes_eq name) (there ∙ same) ∙ e)

pub among_files : (name : List ℕ) (files : List LoadedFile) (k : ℕ) (file : LoadedFile) → k < length files → file ≡ get_or files k file → bytes_eq name file.name ≡ true → is_among name (file_names files) ≡ true
among_files name files k file within is e =
    let there = get_or-map (λ (file : LoadedFile). file.name) files k file [] within in
    any_name name (file_names files) k [] (simp length-map within) (ap (bytes_eq name) (there ∙ ap (λ (file : LoadedFile). file.name) (sym is)) ∙ e)
