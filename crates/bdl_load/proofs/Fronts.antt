-- The names that loading asks for first are a prefix of all names that it asks for.
use Rattle.std.proofs.Common.{◌≡◌, ℕ, zero, suc, ◌<◌, ◌-◌, List, [], ◌∷◌, ◌++◌, length, take, refl, sym, ◌∙◌, ap, subst, append_assoc, length-append, arith}
use Rattle.std.specs.List.{AllByRecursion}
use Rattle.std.proofs.lemmas.List.{map-append, append-nil}
use Rattle.bdl_parser.specs.declared.trees.Import.{Import}
use Rattle.bdl_load.specs.declared.files.LoadedFile.{LoadedFile}
use Rattle.bdl_load.specs.Loading.{Holding, Loading, all_loaded, stopped, IsFetched, loaded_as, file_names, names_asked, Enters, Takes, Loads, AsksAll, AgreeButLast, AsksFirst}
use Rattle.bdl_load.proofs.OneLoading.{of_known, halted, went_on, of_fetched, enters_one}
use Rattle.bdl_load.proofs.OneSource.{SaysOne}

-- ---- lists of names that start with others

abbrev StartsWith : List (List ℕ) → List (List ℕ) → Type 0
StartsWith all names = (rest : List (List ℕ)) × (all ≡ names ++ rest)

starts_itself : (names : List (List ℕ)) → StartsWith names names
starts_itself names = ([], sym (append-nil names))

starts_shorter : (all a b : List (List ℕ)) → StartsWith all (a ++ b) → StartsWith all a
starts_shorter all a b (rest, e) = (b ++ rest, e ∙ append_assoc a b rest)

starts_through : (c b a : List (List ℕ)) → StartsWith c b → StartsWith b a → StartsWith c a
starts_through c b a (r, e) (q, d) = (q ++ r, e ∙ ap (λ (names : List (List ℕ)). names ++ r) d ∙ append_assoc a q r)

-- ---- holdings that agree

-- the same is held under each of these names
abbrev Agree : Holding → Holding → List (List ℕ) → Type 0
Agree held other names = (before : List (List ℕ)) (name : List ℕ) (after : List (List ℕ)) → names ≡ before ++ (name ∷ after) → other name ≡ held name

-- the same is held under each of these names that another follows
abbrev AgreeAhead : Holding → Holding → List (List ℕ) → Type 0
AgreeAhead held other names = (before : List (List ℕ)) (name next : List ℕ) (after : List (List ℕ)) → names ≡ before ++ (name ∷ (next ∷ after)) → other name ≡ held name

agree_front : (held other : Holding) (all names : List (List ℕ)) → StartsWith all names → Agree held other all → Agree held other names
agree_front held other all names (rest, e) agree before name after d =
    agree before name (after ++ rest) (e ∙ ap (λ (names : List (List ℕ)). names ++ rest) d ∙ append_assoc before (name ∷ after) rest)

ahead_front : (held other : Holding) (all names : List (List ℕ)) → StartsWith all names → AgreeAhead held other all → AgreeAhead held other names
ahead_front held other all names (rest, e) agree before name next after d =
    agree before name next (after ++ rest) (e ∙ ap (λ (names : List (List ℕ)). names ++ rest) d ∙ append_assoc before (name ∷ (next ∷ after)) rest)

-- all of the names before another are followed
agree_ahead : (held other : Holding) (all names : List (List ℕ)) (next : List ℕ) (rest : List (List ℕ)) → all ≡ names ++ (next ∷ rest) → AgreeAhead held other all → Agree held other names
agree_ahead held other all names next rest e agree before name [] d =
    agree before name next rest (e ∙ ap (λ (names : List (List ℕ)). names ++ (next ∷ rest)) d ∙ append_assoc before (name ∷ []) (next ∷ rest))
agree_ahead held other all names next rest e agree before name (second ∷ after) d =
    agree before name second (after ++ (next ∷ rest)) (e ∙ ap (λ (names : List (List ℕ)). names ++ (next ∷ rest)) d ∙ append_assoc before (name ∷ (second ∷ after)) (next ∷ rest))

-- what holds of the first names holds of each of them
holds_at : (P : List ℕ → Type 0) (count : ℕ) (before : List (List ℕ)) (name : List ℕ) (after : List (List ℕ)) → length before < count → AllByRecursion P (take count (before ++ (name ∷ after))) → P name
holds_at P zero before name after h all = absurd (omega arith)
holds_at P (suc count) [] name after h all = all.0
holds_at P (suc count) (first ∷ before) name after h all = holds_at P count before name after (omega arith) all.1

agree_but_last : (held other : Holding) (names : List (List ℕ)) → AgreeButLast names held other → AgreeAhead held other names
agree_but_last held other names agree before name next after e =
    let long : length before < length names - 1 = omega (arith, ap length e, length-append before (name ∷ (next ∷ after))) in
    holds_at (λ name. other name ≡ held name) (length names - 1) before name (next ∷ after) long
    (subst (λ (all : List (List ℕ)). AllByRecursion (λ name. other name ≡ held name) (take (length names - 1) all)) e agree)

-- ---- what is asked for starts with the names of the files that were fetched before

mutual
  enters_more : (held : Holding) (taking : List (List ℕ)) (files : List LoadedFile) (name source : List ℕ) (b : Loading) → Enters held taking files name source b → StartsWith (names_asked b) (file_names files ++ name ∷ [])
  enters_more held taking files name source _ (Enters.broken _ _ _ _ f x) = starts_itself (file_names files ++ name ∷ [])
  enters_more held taking files name source _ (Enters.read _ _ _ _ m b r t) =
      subst (λ (names : List (List ℕ)). StartsWith (names_asked b) names) (map-append (λ (file : LoadedFile). file.name) files (loaded_as name m ∷ []))
      (takes_more held (taking ++ name ∷ []) (files ++ loaded_as name m ∷ []) name m.imports b t)

  takes_more : (held : Holding) (taking : List (List ℕ)) (files : List LoadedFile) (from : List ℕ) (imports : List Import) (b : Loading) → Takes held taking files from imports b → StartsWith (names_asked b) (file_names files)
  takes_more held taking files from _ _ (Takes.none_left _ _ _) = starts_itself (file_names files)
  takes_more held taking files from _ _ (Takes.cycle _ _ _ import rest c) = starts_itself (file_names files)
  takes_more held taking files from _ _ (Takes.known _ _ _ import rest b c k t) = takes_more held taking files from rest b t
  takes_more held taking files from _ _ (Takes.too_many _ _ _ import rest c k l) = starts_itself (file_names files)
  takes_more held taking files from _ _ (Takes.missing _ _ _ import rest f e) = (import.file ∷ [], refl)
  takes_more held taking files from _ _ (Takes.within _ _ _ source import rest names fault f e t) =
      starts_shorter names (file_names files) (import.file ∷ []) (enters_more held taking files import.file source (stopped names fault) t)
  takes_more held taking files from _ _ (Takes.fetched _ _ more _ source import rest b f e t v) =
      starts_through (names_asked b) (file_names more) (file_names files) (takes_more held taking more from rest b v)
      (starts_shorter (file_names more) (file_names files) (import.file ∷ []) (enters_more held taking files import.file source (all_loaded more) t))

-- an import that is fetched is asked for next
fetched_more : (held : Holding) (taking : List (List ℕ)) (files : List LoadedFile) (from : List ℕ) (import : Import) (rest : List Import) (b : Loading) → IsFetched taking files import.file → Takes held taking files from (import ∷ rest) b → StartsWith (names_asked b) (file_names files ++ import.file ∷ [])
fetched_more held taking files from import rest _ g (Takes.cycle _ _ _ _ _ c) = absurd (let no = g.closed in cc)
fetched_more held taking files from import rest _ g (Takes.known _ _ _ _ _ _ c k t) = absurd (let no = g.fresh in cc)
fetched_more held taking files from import rest _ g (Takes.too_many _ _ _ _ _ c k l) = absurd (let room = g.room in omega (arith, l))
fetched_more held taking files from import rest _ g (Takes.missing _ _ _ _ _ f e) = starts_itself (file_names files ++ import.file ∷ [])
fetched_more held taking files from import rest _ g (Takes.within _ _ _ source _ _ names fault f e t) = enters_more held taking files import.file source (stopped names fault) t
fetched_more held taking files from import rest _ g (Takes.fetched _ _ more _ source _ _ b f e t v) =
    starts_through (names_asked b) (file_names more) (file_names files ++ import.file ∷ []) (takes_more held taking more from rest b v) (enters_more held taking files import.file source (all_loaded more) t)

-- ---- the same comes of holdings that agree on all that is asked for

agree_next : (held other : Holding) (all names : List (List ℕ)) (name : List ℕ) → StartsWith all (names ++ name ∷ []) → Agree held other all → other name ≡ held name
agree_next held other all names name (rest, e) agree = agree names name rest (e ∙ append_assoc names (name ∷ []) rest)

mutual
  enters_alike : (held other : Holding) (taking : List (List ℕ)) (files : List LoadedFile) (name source : List ℕ) (a : Loading) → Enters other taking files name source a → Agree held other (names_asked a) → Enters held taking files name source a
  enters_alike held other taking files name source _ (Enters.broken _ _ _ _ f x) agree = Enters.broken taking files name source f x
  enters_alike held other taking files name source _ (Enters.read _ _ _ _ m a r t) agree =
      Enters.read taking files name source m a r (takes_alike held other (taking ++ name ∷ []) (files ++ loaded_as name m ∷ []) name m.imports a t agree)

  takes_alike : (held other : Holding) (taking : List (List ℕ)) (files : List LoadedFile) (from : List ℕ) (imports : List Import) (a : Loading) → Takes other taking files from imports a → Agree held other (names_asked a) → Takes held taking files from imports a
  takes_alike held other taking files from _ _ (Takes.none_left _ _ _) agree = Takes.none_left taking files from
  takes_alike held other taking files from _ _ (Takes.cycle _ _ _ import rest c) agree = Takes.cycle taking files from import rest c
  takes_alike held other taking files from _ _ (Takes.known _ _ _ import rest a c k t) agree = Takes.known taking files from import rest a c k (takes_alike held other taking files from rest a t agree)
  takes_alike held other taking files from _ _ (Takes.too_many _ _ _ import rest c k l) agree = Takes.too_many taking files from import rest c k l
  takes_alike held other taking files from _ _ (Takes.missing _ _ _ import rest f e) agree =
      Takes.missing taking files from import rest f (sym (agree (file_names files) import.file [] refl) ∙ e)
  takes_alike held other taking files from _ _ (Takes.within _ _ _ source import rest names fault f e t) agree =
      let same = agree_next held other names (file_names files) import.file (enters_more other taking files import.file source (stopped names fault) t) agree in
      Takes.within taking files from source import rest names fault f (sym same ∙ e) (enters_alike held other taking files import.file source (stopped names fault) t agree)
  takes_alike held other taking files from _ _ (Takes.fetched _ _ more _ source import rest a f e t v) agree =
      let part = agree_front held other (names_asked a) (file_names more) (takes_more other taking more from rest a v) agree in
      let same = agree_next held other (file_names more) (file_names files) import.file (enters_more other taking files import.file source (all_loaded more) t) part in
      Takes.fetched taking files more from source import rest a f (sym same ∙ e)
      (enters_alike held other taking files import.file source (all_loaded more) t part) (takes_alike held other taking more from rest a v agree)

-- ---- prefixes

-- nothing follows these names, or the holdings agree on all of them
data Follows (held other : Holding) (all names : List (List ℕ)) : Type 0 where
  nothing : all ≡ names → Follows held other all names
  something : Agree held other names → Follows held other all names

follows : (held other : Holding) (all names : List (List ℕ)) → StartsWith all names → AgreeAhead held other all → Follows held other all names
follows held other all names ([], e) agree = nothing (e ∙ append-nil names)
follows held other all names (next ∷ rest, e) agree = something (agree_ahead held other all names next rest e agree)

starts_with_same : (all names others : List (List ℕ)) → others ≡ names → StartsWith all names → StartsWith all others
starts_with_same all names others e s = subst (λ (names : List (List ℕ)). StartsWith all names) (sym e) s

mutual
  enters_front : SaysOne → (held other : Holding) (taking : List (List ℕ)) (files : List LoadedFile) (name source : List ℕ) (a b : Loading) → Enters other taking files name source a → Enters held taking files name source b → AgreeAhead held other (names_asked a) → StartsWith (names_asked b) (names_asked a)
  enters_front one held other taking files name source _ b (Enters.broken _ _ _ _ f x) u agree = enters_more held taking files name source b u
  enters_front one held other taking files name source _ _ (Enters.read _ _ _ _ m a r t) (Enters.broken _ _ _ _ f x) agree = absurd (one.excludes source m f r x)
  enters_front one held other taking files name source _ _ (Enters.read _ _ _ _ m a r t) (Enters.read _ _ _ _ n b s u) agree =
      let same = one.modules source n m s r in
      takes_front one held other (taking ++ name ∷ []) (files ++ loaded_as name m ∷ []) name m.imports a b t
      (subst (λ m. Takes held (taking ++ name ∷ []) (files ++ loaded_as name m ∷ []) name m.imports b) same u) agree

  takes_front : SaysOne → (held other : Holding) (taking : List (List ℕ)) (files : List LoadedFile) (from : List ℕ) (imports : List Import) (a b : Loading) → Takes other taking files from imports a → Takes held taking files from imports b → AgreeAhead held other (names_asked a) → StartsWith (names_asked b) (names_asked a)
  takes_front one held other taking files from _ _ b (Takes.none_left _ _ _) u agree = takes_more held taking files from [] b u
  takes_front one held other taking files from _ _ b (Takes.cycle _ _ _ import rest c) u agree = takes_more held taking files from (import ∷ rest) b u
  takes_front one held other taking files from _ _ b (Takes.known _ _ _ import rest a c k t) u agree = takes_front one held other taking files from rest a b t (of_known held taking files from import rest b c k u) agree
  takes_front one held other taking files from _ _ b (Takes.too_many _ _ _ import rest c k l) u agree = takes_more held taking files from (import ∷ rest) b u
  takes_front one held other taking files from _ _ b (Takes.missing _ _ _ import rest f e) u agree = fetched_more held taking files from import rest b f u
  takes_front one held other taking files from _ _ b (Takes.within _ _ _ source import rest names fault f e t) u agree =
      elim (follows held other names (file_names files ++ import.file ∷ []) (enters_more other taking files import.file source (stopped names fault) t) agree) [
        | nothing last ↦ starts_with_same (names_asked b) (file_names files ++ import.file ∷ []) names last (fetched_more held taking files from import rest b f u)
        | something part ↦
            elim (of_fetched held taking files from import rest b source f (sym (part (file_names files) import.file [] refl) ∙ e) u) [
              | halted others fault' x is ↦
                  subst (λ (b : Loading). StartsWith (names_asked b) names) (sym is) (enters_front one held other taking files import.file source (stopped names fault) (stopped others fault') t x agree)
              | went_on more x v ↦
                  starts_through (names_asked b) (file_names more) names (takes_more held taking more from rest b v) (enters_front one held other taking files import.file source (stopped names fault) (all_loaded more) t x agree)
            ]
      ]
  takes_front one held other taking files from _ _ b (Takes.fetched _ _ more _ source import rest a f e t v) u agree =
      let longer = takes_more other taking more from rest a v in
      let long = enters_more other taking files import.file source (all_loaded more) t in
      let ahead = ahead_front held other (names_asked a) (file_names more) longer agree in
      elim (follows held other (names_asked a) (file_names files ++ import.file ∷ []) (starts_through (names_asked a) (file_names more) (file_names files ++ import.file ∷ []) longer long) agree) [
        | nothing last ↦ starts_with_same (names_asked b) (file_names files ++ import.file ∷ []) (names_asked a) last (fetched_more held taking files from import rest b f u)
        | something part ↦
            elim (of_fetched held taking files from import rest b source f (sym (part (file_names files) import.file [] refl) ∙ e) u) [
              | halted others fault x is ↦
                  elim (follows held other (names_asked a) (file_names more) longer agree) [
                    | nothing last ↦
                        subst (λ (b : Loading). StartsWith (names_asked b) (names_asked a)) (sym is)
                        (starts_with_same others (file_names more) (names_asked a) last (enters_front one held other taking files import.file source (all_loaded more) (stopped others fault) t x ahead))
                    | something whole ↦
                        let no = enters_one one held taking files import.file source (all_loaded more) (stopped others fault) (enters_alike held other taking files import.file source (all_loaded more) t whole) x in
                        absurd (cc no)
                  ]
              | went_on others x w ↦
                  elim (follows held other (names_asked a) (file_names more) longer agree) [
                    | nothing last ↦
                        starts_with_same (names_asked b) (file_names more) (names_asked a) last
                        (starts_through (names_asked b) (file_names others) (file_names more) (takes_more held taking others from rest b w)
                        (enters_front one held other taking files import.file source (all_loaded more) (all_loaded others) t x ahead))
                    | something whole ↦
                        let same : others ≡ more = cc (enters_one one held taking files import.file source (all_loaded more) (all_loaded others) (enters_alike held other taking files import.file source (all_loaded more) t whole) x) in
                        takes_front one held other taking more from rest a b v (subst (λ files. Takes held taking files from rest b) same w) agree
                  ]
            ]
      ]

loads_more : (held : Holding) (root : List ℕ) (b : Loading) → Loads held root b → StartsWith (names_asked b) (root ∷ [])
loads_more held root b (Loads.no_root n e) = ([], ap names_asked e)
loads_more held root b (Loads.from_root s h x) = enters_more held [] [] root s b x

loads_front : SaysOne → (held other : Holding) (root : List ℕ) (a b : Loading) → Loads other root a → Loads held root b → AgreeAhead held other (names_asked a) → StartsWith (names_asked b) (names_asked a)
loads_front one held other root a b (Loads.no_root n e) u agree = starts_with_same (names_asked b) (root ∷ []) (names_asked a) (ap names_asked e) (loads_more held root b u)
loads_front one held other root a b (Loads.from_root s h x) (Loads.no_root n e) agree =
    elim (follows held other (names_asked a) (root ∷ []) (enters_more other [] [] root s a x) agree) [
      | nothing last ↦ starts_with_same (names_asked b) (root ∷ []) (names_asked a) last (loads_more held root b (Loads.no_root n e))
      | something part ↦ absurd (let same = part [] root [] refl in cc (same, n, h))
    ]
loads_front one held other root a b (Loads.from_root s h x) (Loads.from_root s' h' y) agree =
    elim (follows held other (names_asked a) (root ∷ []) (enters_more other [] [] root s a x) agree) [
      | nothing last ↦ starts_with_same (names_asked b) (root ∷ []) (names_asked a) last (enters_more held [] [] root s' b y)
      | something part ↦
          let alike = part [] root [] refl in
          let same : s' ≡ s = cc (alike, h, h') in
          enters_front one held other [] [] root s a b x (subst (λ s. Enters held [] [] root s b) same y) agree
    ]

pub first_is_front : SaysOne → (held : Holding) (root : List ℕ) (names all : List (List ℕ)) → AsksFirst held root names → AsksAll held root all → (rest : List (List ℕ)) × (all ≡ names ++ rest)
first_is_front one held root names all (other, agree, (a, x, is)) (b, y, whole) =
    let ahead = subst (λ (names : List (List ℕ)). AgreeAhead held other names) is (agree_but_last held other names agree) in
    let front = loads_front one held other root a b x y ahead in
    (front.0, whole ∙ front.1 ∙ ap (λ (names : List (List ℕ)). names ++ front.0) (sym is))
