-- Files and the name of the root come to one outcome.
use Rattle.std.proofs.Common.{◌≡◌, ℕ, ◌≤◌, true, false, None, Some, List, [], ◌∷◌, ◌++◌, length, refl, sym, ◌∙◌, ap, subst, arith}
use Rattle.bdl_load.specs.declared.loader.TheConstants.{FILES_MAX}
use Rattle.bdl_parser.specs.declared.trees.Import.{Import}
use Rattle.bdl_load.specs.declared.faults.Fault.{Fault}
use Rattle.bdl_load.specs.declared.faults.Finding.{Finding}
use Rattle.bdl_load.specs.declared.files.LoadedFile.{LoadedFile}
use Rattle.bdl_load.specs.declared.faults.DefCode.TheVariants.{ImportCycle, TooManyFiles, ImportMissing}
use Rattle.bdl_load.specs.Faults.{found, fault_in}
use Rattle.bdl_load.specs.Loading.{Holding, Loading, all_loaded, stopped, IsFetched, loaded_as, is_among, file_names, Enters, Takes, Loads}
use Rattle.bdl_load.proofs.OneSource.{SaysOne}

-- an import of a file whose imports are being taken
of_cycle : (held : Holding) (taking : List (List ℕ)) (files : List LoadedFile) (from : List ℕ) (import : Import) (rest : List Import) (b : Loading) → is_among import.file taking ≡ true → Takes held taking files from (import ∷ rest) b → b ≡ stopped (file_names files) (fault_in from (found import.at ImportCycle))
of_cycle held taking files from import rest _ h (Takes.cycle _ _ _ _ _ c) = refl
of_cycle held taking files from import rest _ h (Takes.known _ _ _ _ _ _ c k t) = absurd (cc)
of_cycle held taking files from import rest _ h (Takes.too_many _ _ _ _ _ c k l) = absurd (cc)
of_cycle held taking files from import rest _ h (Takes.missing _ _ _ _ _ f e) = absurd (let no = f.closed in cc)
of_cycle held taking files from import rest _ h (Takes.within _ _ _ source _ _ names fault f e t) = absurd (let no = f.closed in cc)
of_cycle held taking files from import rest _ h (Takes.fetched _ _ more _ source _ _ _ f e t v) = absurd (let no = f.closed in cc)

-- an import of a file that was loaded before
pub of_known : (held : Holding) (taking : List (List ℕ)) (files : List LoadedFile) (from : List ℕ) (import : Import) (rest : List Import) (b : Loading) → is_among import.file taking ≡ false → is_among import.file (file_names files) ≡ true → Takes held taking files from (import ∷ rest) b → Takes held taking files from rest b
of_known held taking files from import rest _ h i (Takes.cycle _ _ _ _ _ c) = absurd (cc)
of_known held taking files from import rest _ h i (Takes.known _ _ _ _ _ _ c k t) = t
of_known held taking files from import rest _ h i (Takes.too_many _ _ _ _ _ c k l) = absurd (cc)
of_known held taking files from import rest _ h i (Takes.missing _ _ _ _ _ f e) = absurd (let no = f.fresh in cc)
of_known held taking files from import rest _ h i (Takes.within _ _ _ source _ _ names fault f e t) = absurd (let no = f.fresh in cc)
of_known held taking files from import rest _ h i (Takes.fetched _ _ more _ source _ _ _ f e t v) = absurd (let no = f.fresh in cc)

-- an import of one file more than there may be
of_many : (held : Holding) (taking : List (List ℕ)) (files : List LoadedFile) (from : List ℕ) (import : Import) (rest : List Import) (b : Loading) → is_among import.file taking ≡ false → is_among import.file (file_names files) ≡ false → FILES_MAX ≤ length files → Takes held taking files from (import ∷ rest) b → b ≡ stopped (file_names files) (fault_in from (found import.at TooManyFiles))
of_many held taking files from import rest _ h i j (Takes.cycle _ _ _ _ _ c) = absurd (cc)
of_many held taking files from import rest _ h i j (Takes.known _ _ _ _ _ _ c k t) = absurd (cc)
of_many held taking files from import rest _ h i j (Takes.too_many _ _ _ _ _ c k l) = refl
of_many held taking files from import rest _ h i j (Takes.missing _ _ _ _ _ f e) = absurd (let room = f.room in omega (arith, j))
of_many held taking files from import rest _ h i j (Takes.within _ _ _ source _ _ names fault f e t) = absurd (let room = f.room in omega (arith, j))
of_many held taking files from import rest _ h i j (Takes.fetched _ _ more _ source _ _ _ f e t v) = absurd (let room = f.room in omega (arith, j))

-- an import of a file that there is not
of_missing : (held : Holding) (taking : List (List ℕ)) (files : List LoadedFile) (from : List ℕ) (import : Import) (rest : List Import) (b : Loading) → IsFetched taking files import.file → held import.file ≡ None → Takes held taking files from (import ∷ rest) b → b ≡ stopped (file_names files ++ import.file ∷ []) (fault_in from (found import.at ImportMissing))
of_missing held taking files from import rest _ g h (Takes.cycle _ _ _ _ _ c) = absurd (let no = g.closed in cc)
of_missing held taking files from import rest _ g h (Takes.known _ _ _ _ _ _ c k t) = absurd (let no = g.fresh in cc)
of_missing held taking files from import rest _ g h (Takes.too_many _ _ _ _ _ c k l) = absurd (let room = g.room in omega (arith, l))
of_missing held taking files from import rest _ g h (Takes.missing _ _ _ _ _ f e) = refl
of_missing held taking files from import rest _ g h (Takes.within _ _ _ source _ _ names fault f e t) = absurd (cc)
of_missing held taking files from import rest _ g h (Takes.fetched _ _ more _ source _ _ _ f e t v) = absurd (cc)

-- what came of an import that was fetched
pub data Came (held : Holding) (taking : List (List ℕ)) (files : List LoadedFile) (from : List ℕ) (import : Import) (rest : List Import) (source : List ℕ) (b : Loading) : Type 0 where
  halted : (names : List (List ℕ)) (fault : Fault) → Enters held taking files import.file source (stopped names fault) → b ≡ stopped names fault → Came held taking files from import rest source b
  went_on : (more : List LoadedFile) → Enters held taking files import.file source (all_loaded more) → Takes held taking more from rest b → Came held taking files from import rest source b

-- an import of a file that there is
pub of_fetched : (held : Holding) (taking : List (List ℕ)) (files : List LoadedFile) (from : List ℕ) (import : Import) (rest : List Import) (b : Loading) → (s : List ℕ) → IsFetched taking files import.file → held import.file ≡ Some s → Takes held taking files from (import ∷ rest) b → Came held taking files from import rest s b
of_fetched held taking files from import rest _ s g h (Takes.cycle _ _ _ _ _ c) = absurd (let no = g.closed in cc)
of_fetched held taking files from import rest _ s g h (Takes.known _ _ _ _ _ _ c k t) = absurd (let no = g.fresh in cc)
of_fetched held taking files from import rest _ s g h (Takes.too_many _ _ _ _ _ c k l) = absurd (let room = g.room in omega (arith, l))
of_fetched held taking files from import rest _ s g h (Takes.missing _ _ _ _ _ f e) = absurd (cc)
of_fetched held taking files from import rest _ s g h (Takes.within _ _ _ source _ _ names fault f e t) = halted names fault (let same : source ≡ s = cc (e, h) in subst (λ s. Enters held taking files import.file s (stopped names fault)) same t) refl
of_fetched held taking files from import rest _ s g h (Takes.fetched _ _ more _ source _ _ _ f e t v) = went_on more (let same : source ≡ s = cc (e, h) in subst (λ s. Enters held taking files import.file s (all_loaded more)) same t) v

mutual
  pub enters_one : SaysOne → (held : Holding) (taking : List (List ℕ)) (files : List LoadedFile) (name source : List ℕ) (a b : Loading) → Enters held taking files name source a → Enters held taking files name source b → a ≡ b
  enters_one one held taking files name source _ _ (Enters.broken _ _ _ _ f x) (Enters.broken _ _ _ _ g y) = ap (λ (f : Finding). stopped (file_names files ++ name ∷ []) (fault_in name f)) (one.faults source f g x y)
  enters_one one held taking files name source _ _ (Enters.broken _ _ _ _ f x) (Enters.read _ _ _ _ m b r t) = absurd (one.excludes source m f r x)
  enters_one one held taking files name source _ _ (Enters.read _ _ _ _ m a r t) (Enters.broken _ _ _ _ f x) = absurd (one.excludes source m f r x)
  enters_one one held taking files name source _ _ (Enters.read _ _ _ _ m a r t) (Enters.read _ _ _ _ n b s u) =
      let same = one.modules source n m s r in
      takes_one one held (taking ++ name ∷ []) (files ++ loaded_as name m ∷ []) name m.imports a b t (subst (λ m. Takes held (taking ++ name ∷ []) (files ++ loaded_as name m ∷ []) name m.imports b) same u)

  takes_one : SaysOne → (held : Holding) (taking : List (List ℕ)) (files : List LoadedFile) (from : List ℕ) (imports : List Import) (a b : Loading) → Takes held taking files from imports a → Takes held taking files from imports b → a ≡ b
  takes_one one held taking files from _ _ _ (Takes.none_left _ _ _) (Takes.none_left _ _ _) = refl
  takes_one one held taking files from _ _ b (Takes.cycle _ _ _ import rest c) u = sym (of_cycle held taking files from import rest b c u)
  takes_one one held taking files from _ _ b (Takes.known _ _ _ import rest a c k t) u = takes_one one held taking files from rest a b t (of_known held taking files from import rest b c k u)
  takes_one one held taking files from _ _ b (Takes.too_many _ _ _ import rest c k l) u = sym (of_many held taking files from import rest b c k l u)
  takes_one one held taking files from _ _ b (Takes.missing _ _ _ import rest f e) u = sym (of_missing held taking files from import rest b f e u)
  takes_one one held taking files from _ _ b (Takes.within _ _ _ source import rest names fault f e t) u = elim (of_fetched held taking files from import rest b source f e u) [
    | halted others other x is ↦ enters_one one held taking files import.file source (stopped names fault) (stopped others other) t x ∙ sym is
    | went_on more x v ↦ absurd (let no = enters_one one held taking files import.file source (stopped names fault) (all_loaded more) t x in cc no)
  ]
  takes_one one held taking files from _ _ b (Takes.fetched _ _ more _ source import rest a f e t v) u = elim (of_fetched held taking files from import rest b source f e u) [
    | halted names other x is ↦ absurd (let no = enters_one one held taking files import.file source (all_loaded more) (stopped names other) t x in cc no)
    | went_on others x w ↦
        let same : others ≡ more = cc (enters_one one held taking files import.file source (all_loaded more) (all_loaded others) t x) in
        takes_one one held taking more from rest a b v (subst (λ files. Takes held taking files from rest b) same w)
  ]

pub loads_one : SaysOne → (held : Holding) (root : List ℕ) (a b : Loading) → Loads held root a → Loads held root b → a ≡ b
loads_one one held root a b (Loads.no_root n e) (Loads.no_root n' e') = e ∙ sym e'
loads_one one held root a b (Loads.no_root n e) (Loads.from_root s h x) = absurd (cc (n, h))
loads_one one held root a b (Loads.from_root s h x) (Loads.no_root n e) = absurd (cc (n, h))
loads_one one held root a b (Loads.from_root s h x) (Loads.from_root s' h' y) =
    let same : s' ≡ s = cc (h, h') in
    enters_one one held [] [] root s a b x (subst (λ s. Enters held [] [] root s b) same y)
