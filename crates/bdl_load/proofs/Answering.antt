-- What comes of all answers of a library comes of its files.
use Rattle.std.proofs.Common.{◌≡◌, ℕ, zero, suc, ◌-◌, true, false, cond, None, Some, List, [], ◌∷◌, length, take, refl, sym, ◌∙◌, ap, subst}
use Rattle.std.specs.Prelude.{IfSome}
use Rattle.std.specs.List.{AllByRecursion, IsDistinct, take-map}
use Rattle.std.specs.Str.{bytes_eq}
use Rattle.std.proofs.lemmas.List.{length-map}
use Rattle.outside.specs.Transfers.{Files, Asked}
use Rattle.bdl_load.specs.declared.faults.DefFault.{DefFault}
use Rattle.bdl_load.specs.declared.faults.DefFault.TheVariants.{At, Failed, Memory}
use Rattle.bdl_load.specs.declared.faults.Fault.{Fault}
use Rattle.bdl_load.specs.declared.files.LoadedFile.{LoadedFile}
use Rattle.bdl_load.specs.Loader.{Answer, answer_names, GivesAnswers, known, Answered, Loaded, Ends}
use Rattle.bdl_load.specs.Faults.{Blames}
use Rattle.bdl_load.specs.Loading.{Holding, OfLibrary, AgreeButLast, AsksAll, AsksFirst, Loads, all_loaded, stopped, file_names}
use Rattle.bdl_load.proofs.Asking.{same_bytes}

-- ---- files that give all answers

look : List Answer → Holding
look [] name = None
look (a ∷ answers) name = cond (bytes_eq a.name name) a.content (look answers name)

look_later : (a : Answer) (answers these : List Answer) → AllByRecursion (λ name. bytes_eq a.name name ≡ false) (answer_names these) → GivesAnswers (look answers) these → GivesAnswers (look (a ∷ answers)) these
unfolding look
look_later a answers [] others g = tt
look_later a answers (b ∷ these) (other, others) (e, g) =
    (ap (λ same. cond same a.content (look answers b.name)) other ∙ e, look_later a answers these others g)

look_gives : (answers : List Answer) → IsDistinct bytes_eq (answer_names answers) → GivesAnswers (look answers) answers
unfolding IsDistinct look
look_gives [] d = tt
look_gives (a ∷ answers) (others, d) =
    (ap (λ same. cond same a.content (look answers a.name)) (same_bytes a.name), look_later a answers answers others (look_gives answers d))

-- ---- files that are the same except for the last answer

gives_take : (held : Holding) (n : ℕ) (answers : List Answer) → GivesAnswers held answers → GivesAnswers held (take n answers)
gives_take held zero answers g = tt
gives_take held (suc n) [] g = tt
gives_take held (suc n) (a ∷ answers) (e, g) = (e, gives_take held n answers g)

agree : (held other : Holding) (answers : List Answer) → GivesAnswers held answers → GivesAnswers other answers → AllByRecursion (λ name. other name ≡ held name) (answer_names answers)
agree held other [] g h = tt
agree held other (a ∷ answers) (e, g) (f, h) = (f ∙ sym e, agree held other answers g h)

agree_but_last : (held other : Holding) (answers : List Answer) → GivesAnswers held (known false answers) → GivesAnswers other answers → AgreeButLast (answer_names answers) held other
agree_but_last held other answers g h =
    let count = length-map answers (λ (answer : Answer). answer.name) in
    subst (λ names. AllByRecursion (λ name. other name ≡ held name) names)
    (sym (take-map (λ (answer : Answer). answer.name) (length answers - 1) answers) ∙ ap (λ n. take (n - 1) (answer_names answers)) (sym count))
    (agree held other (known false answers) g (gives_take other (length answers - 1) answers h))

-- ---- the files of the library

of_answers : (files : Files) (before after : Asked) (C : List (List ℕ) → Holding → Type 0) → Answered true files before after [] C → OfLibrary files before after (λ held names. C names held)
of_answers None before after C a = (look a.answers, answer_names a.answers, tt, a.asks, a.comes (look a.answers) (look_gives a.answers a.distinct))
of_answers (Some held) before after C a = (held, answer_names a.answers, refl, a.asks, a.comes held a.told)

first_asked : (files : Files) (before after : Asked) (root : List ℕ) → Answered false files before after [] (λ names held. (fault : Fault) × Loads held root (stopped names fault)) → OfLibrary files before after (λ held names. AsksFirst held root names)
first_asked files before after root a = from files a.told
  where
    other : Holding
    other = look a.answers

    gives : GivesAnswers other a.answers
    gives = look_gives a.answers a.distinct

    first : (held : Holding) → GivesAnswers held (known false a.answers) → AsksFirst held root (answer_names a.answers)
    first held g = let comes = a.comes other gives in (other, agree_but_last held other a.answers g gives, (stopped (answer_names a.answers) comes.0, comes.1, refl))

    from : (those : Files) → IfSome those (λ held. GivesAnswers held (known false a.answers)) → OfLibrary those before after (λ held names. AsksFirst held root names)
    from None told = (other, answer_names a.answers, tt, a.asks, first other (gives_take other (length a.answers - 1) a.answers gives))
    from (Some held) told = (held, answer_names a.answers, refl, a.asks, first held told)

same_but_last : (held : Holding) (names : List (List ℕ)) → AgreeButLast names held held
same_but_last held names = each (take (length names - 1) names)
  where
    each : (those : List (List ℕ)) → AllByRecursion (λ name. held name ≡ held name) those
    each [] = tt
    each (name ∷ those) = (refl, each those)

all_asked : (files : Files) (before after : Asked) (root : List ℕ) (C : Holding → List (List ℕ) → Type 0) → ((held : Holding) (names : List (List ℕ)) → C held names → AsksAll held root names)
    → OfLibrary files before after C → OfLibrary files before after (λ held names. AsksFirst held root names)
all_asked files before after root C all (held, names, told, asks, c) = (held, names, told, asks, (held, same_but_last held names, all held names c))

pub end_fault : (files : Files) (before after : Asked) (root : List ℕ) (refusal : DefFault) → Ends files before after [] (λ held outcome. Loads held root outcome) refusal
    → Blames (λ fault. OfLibrary files before after (λ held names. Loads held root (stopped names fault))) refusal
end_fault files before after root (At file line column code) e =
    of_answers files before after (λ names held. Loads held root (stopped names (record { file = file; line = line; column = column; code = code }))) e
end_fault files before after root Failed e = tt
end_fault files before after root Memory e = tt

pub end_asked : (files : Files) (before after : Asked) (root : List ℕ) (refusal : DefFault) → Ends files before after [] (λ held outcome. Loads held root outcome) refusal
    → OfLibrary files before after (λ held names. AsksFirst held root names)
end_asked files before after root (At file line column code) e =
    let fault : Fault = record { file = file; line = line; column = column; code = code } in
    all_asked files before after root (λ held names. Loads held root (stopped names fault)) (λ held names l. (stopped names fault, l, refl))
    (of_answers files before after (λ names held. Loads held root (stopped names fault)) e)
end_asked files before after root Failed e = first_asked files before after root e
end_asked files before after root Memory e = first_asked files before after root e

pub loaded_all : (files : Files) (before after : Asked) (root : List ℕ) (later : List LoadedFile) → Loaded files before after [] later (λ held. Loads held root (all_loaded later))
    → OfLibrary files before after (λ held names. Loads held root (all_loaded later) × (names ≡ file_names later))
loaded_all files before after root later l =
    let own : answer_names l.given.answers ≡ file_names later = sym l.names ∙ ap file_names (sym l.grown) in
    of_answers files before after (λ names held. Loads held root (all_loaded later) × (names ≡ file_names later))
    (record { answers = l.given.answers; asks = l.given.asks; told = l.given.told; distinct = l.given.distinct; comes = λ held g. (l.given.comes held g, own) })

pub loaded_asked : (files : Files) (before after : Asked) (root : List ℕ) (later : List LoadedFile) → Loaded files before after [] later (λ held. Loads held root (all_loaded later))
    → OfLibrary files before after (λ held names. AsksFirst held root names)
loaded_asked files before after root later l =
    all_asked files before after root (λ held names. Loads held root (all_loaded later) × (names ≡ file_names later)) (λ held names c. (all_loaded later, c.0, c.1))
    (loaded_all files before after root later l)
