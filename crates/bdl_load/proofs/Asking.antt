-- What comes of all answers of a library, from what comes of each.
use Rattle.std.proofs.Common.{◌≡◌, ℕ, suc, ◌-◌, Bool, true, false, ◌||◌, Option, None, Some, List, [], ◌∷◌, ◌++◌, length, take, refl, sym, ◌∙◌, ap, subst, append_assoc, arith}
use Rattle.std.specs.Prelude.{IfSome}
use Rattle.std.specs.List.{AllByRecursion, IsDistinct}
use Rattle.std.specs.Str.{bytes_eq}
use Rattle.std.proofs.lemmas.List.{map-append, append-nil}
use Rattle.std.proofs.lemmas.Slice.Eq.{bytes_eq-Decides}
use Rattle.outside.specs.Transfers.{Files, Asked, Asks}
use Rattle.bdl_load.specs.declared.faults.DefFault.{DefFault}
use Rattle.bdl_load.specs.declared.faults.DefFault.TheVariants.{At, Failed, Memory}
use Rattle.bdl_load.specs.declared.faults.Fault.{Fault}
use Rattle.bdl_load.specs.declared.files.LoadedFile.{LoadedFile}
use Rattle.bdl_load.specs.Loading.{Holding, Loading, stopped, is_among, file_names}
use Rattle.bdl_load.specs.Loader.{IsHeld, Answer, answer_names, GivesAnswers, known, Answered, Loaded, Ends, Halts}

-- ---- different names

all_snoc : {X : Type 0} (P : X → Type 0) (xs : List X) (x : X) → AllByRecursion P xs → P x → AllByRecursion P (xs ++ x ∷ [])
all_snoc P [] x all p = (p, tt)
all_snoc P (y ∷ ys) x (q, all) p = (q, all_snoc P ys x all p)

differ : (xs ys : List ℕ) → bytes_eq xs ys ≡ false → bytes_eq ys xs ≡ false
differ xs ys e = from (bytes_eq ys xs) refl
  where
    from : (b : Bool) → bytes_eq ys xs ≡ b → bytes_eq ys xs ≡ false
    from false is = is
    from true is =
        let same = (bytes_eq-Decides ys xs).0 is in
        let equal = (bytes_eq-Decides xs ys).1 (sym same) in
        absurd (cc (equal, e))

pub same_bytes : (xs : List ℕ) → bytes_eq xs xs ≡ true
same_bytes xs = (bytes_eq-Decides xs xs).1 refl

other_first : (name x : List ℕ) (xs : List (List ℕ)) → is_among name (x ∷ xs) ≡ false → (bytes_eq name x ≡ false) × (is_among name xs ≡ false)
other_first name x xs e = from (bytes_eq name x) refl
  where
    from : (b : Bool) → bytes_eq name x ≡ b → (bytes_eq name x ≡ false) × (is_among name xs ≡ false)
    from false is = (is, sym (ap (λ b. b || is_among name xs) is) ∙ e)
    from true is = absurd (cc (is, e))

pub distinct_none : IsDistinct bytes_eq []
unfolding IsDistinct
distinct_none = tt

-- a new name is different from those before it
pub distinct_snoc : (names : List (List ℕ)) (name : List ℕ) → IsDistinct bytes_eq names → is_among name names ≡ false → IsDistinct bytes_eq (names ++ name ∷ [])
unfolding IsDistinct
distinct_snoc [] name d e = (tt, tt)
distinct_snoc (x ∷ xs) name (first, d) e =
    let other = other_first name x xs e in
    (all_snoc (λ y. bytes_eq x y ≡ false) xs name first (differ name x other.0), distinct_snoc xs name d other.1)

-- ---- answers

gives_front : (held : Holding) (a b : List Answer) → GivesAnswers held (a ++ b) → GivesAnswers held a
gives_front held [] b g = tt
gives_front held (x ∷ a) b (e, g) = (e, gives_front held a b g)

gives_back : (held : Holding) (a b : List Answer) → GivesAnswers held (a ++ b) → GivesAnswers held b
gives_back held [] b g = g
gives_back held (x ∷ a) b (e, g) = gives_back held a b g

gives_both : (held : Holding) (a b : List Answer) → GivesAnswers held a → GivesAnswers held b → GivesAnswers held (a ++ b)
gives_both held [] b g h = h
gives_both held (x ∷ a) b (e, g) h = (e, gives_both held a b g h)

-- one answer more before those without the last
gives_cons : (held : Holding) (x : Answer) (a : List Answer) → held x.name ≡ x.content → GivesAnswers held (known false a) → GivesAnswers held (known false (x ∷ a))
gives_cons held x [] e g = tt
gives_cons held x (y ∷ a) e g =
    let more : length (x ∷ y ∷ a) - 1 ≡ suc (length (y ∷ a) - 1) = omega arith in
    subst (λ n. GivesAnswers held (take n (x ∷ y ∷ a))) (sym more) (e, g)

gives_known : (held : Holding) (whole : Bool) (a b : List Answer) → GivesAnswers held a → GivesAnswers held (known whole b) → GivesAnswers held (known whole (a ++ b))
gives_known held true a b g h = gives_both held a b g h
gives_known held false [] b g h = h
gives_known held false (x ∷ a) b (e, g) h = gives_cons held x (a ++ b) e (gives_known held false a b g h)

told_both : (files : Files) (whole : Bool) (a b : List Answer) → IfSome files (λ held. GivesAnswers held a) → IfSome files (λ held. GivesAnswers held (known whole b)) → IfSome files (λ held. GivesAnswers held (known whole (a ++ b)))
told_both None whole a b g h = tt
told_both (Some held) whole a b g h = gives_known held whole a b g h

told_none : (files : Files) → IfSome files (λ held. GivesAnswers held [])
told_none None = tt
told_none (Some held) = tt

told_one : (files : Files) (name : List ℕ) (content : Option (List ℕ)) → IsHeld files name content → IfSome files (λ held. GivesAnswers held (record { name = name; content = content } ∷ []))
told_one None name content t = tt
told_one (Some held) name content t = (t, tt)

-- ---- what was asked for

asks_none : (before : Asked) → Asks [] before before
asks_none None = tt
asks_none (Some kept) = ap Some (append-nil kept)

asks_then : (a b : List (List ℕ)) (before between after : Asked) → Asks a before between → Asks b between after → Asks (a ++ b) before after
asks_then a b before between None f g = tt
asks_then a b before None (Some kept) f g = absurd (cc g)
asks_then a b None (Some middle) (Some kept) f g = absurd (cc f)
asks_then a b (Some earlier) (Some middle) (Some kept) f g =
    let first : earlier ++ a ≡ middle = cc f in
    let second : middle ++ b ≡ kept = cc g in
    ap Some (sym (append_assoc earlier a b) ∙ ap (λ names. names ++ b) first ∙ second)

joined : (a b : List Answer) → answer_names (a ++ b) ≡ answer_names a ++ answer_names b
joined a b = map-append (λ (answer : Answer). answer.name) a b

names_then : (earlier later more : List LoadedFile) (a b : List Answer) → later ≡ earlier ++ more → file_names more ≡ answer_names a → file_names later ++ answer_names b ≡ file_names earlier ++ answer_names (a ++ b)
names_then earlier later more a b grown e =
    let split : file_names (earlier ++ more) ≡ file_names earlier ++ file_names more = map-append (λ (file : LoadedFile). file.name) earlier more in
    ap (λ names. names ++ answer_names b) (ap file_names grown ∙ split ∙ ap (λ names. file_names earlier ++ names) e) ∙ append_assoc (file_names earlier) (answer_names a) (answer_names b)
    ∙ ap (λ names. file_names earlier ++ names) (sym (joined a b))

-- ---- answers after files that were loaded

pub answered_then : (whole : Bool) (files : Files) (before between after : Asked) (earlier later : List LoadedFile) (C : Holding → Type 0) (D E : List (List ℕ) → Holding → Type 0)
    → Loaded files before between earlier later C → Answered whole files between after later D
    → ((held : Holding) → C held → (names : List (List ℕ)) → D names held → E names held) → Answered whole files before after earlier E
answered_then whole files before between after earlier later C D E first second then =
    let a = first.given.answers in
    let b = second.answers in
    let names = names_then earlier later first.more a b first.grown first.names in
    record {
      answers = a ++ b;
      asks = subst (λ names. Asks names before after) (sym (joined a b)) (asks_then (answer_names a) (answer_names b) before between after first.given.asks second.asks);
      told = told_both files whole a b first.given.told second.told;
      distinct = subst (λ names. IsDistinct bytes_eq names) names second.distinct;
      comes = λ held g. subst (λ names. E names held) names
          (then held (first.given.comes held (gives_front held a b g)) (file_names later ++ answer_names b) (second.comes held (gives_back held a b g)));
    }

pub loaded_then : (files : Files) (before middle after : Asked) (earlier between later : List LoadedFile) (C D E : Holding → Type 0) → Loaded files before middle earlier between C → Loaded files middle after between later D
    → ((held : Holding) → C held → D held → E held) → Loaded files before after earlier later E
unfolding answered_then
loaded_then files before middle after earlier between later C D E first second then = record {
  more = first.more ++ second.more;
  grown = second.grown ∙ ap (λ files. files ++ second.more) first.grown ∙ append_assoc earlier first.more second.more;
  given = answered_then true files before middle after earlier between C (λ _ held. D held) (λ _ held. E held) first second.given (λ held c names d. then held c d);
  names = map-append (λ (file : LoadedFile). file.name) first.more second.more ∙ ap (λ names. names ++ file_names second.more) first.names
      ∙ ap (λ names. answer_names first.given.answers ++ names) second.names ∙ sym (joined first.given.answers second.given.answers);
}

unknown_then : (files : Files) (before between after : Asked) (earlier later : List LoadedFile) (C : Holding → Type 0) (D E : Holding → Loading → Type 0) → Loaded files before between earlier later C
    → ((held : Holding) → C held → (names : List (List ℕ)) (fault : Fault) → D held (stopped names fault) → E held (stopped names fault)) → Answered false files between after later (λ names held. (fault : Fault) × D held (stopped names fault))
    → Answered false files before after earlier (λ names held. (fault : Fault) × E held (stopped names fault))
unknown_then files before between after earlier later C D E first then second =
    answered_then false files before between after earlier later C (λ names held. (fault : Fault) × D held (stopped names fault)) (λ names held. (fault : Fault) × E held (stopped names fault)) first second
    (λ held c names d. (d.0, then held c names d.0 d.1))

pub ends_then : (files : Files) (before between after : Asked) (earlier later : List LoadedFile) (C : Holding → Type 0) (D E : Holding → Loading → Type 0) → Loaded files before between earlier later C
    → ((held : Holding) → C held → (names : List (List ℕ)) (fault : Fault) → D held (stopped names fault) → E held (stopped names fault)) → (refusal : DefFault) → Ends files between after later D refusal → Ends files before after earlier E refusal
ends_then files before between after earlier later C D E first then (At file line column code) second =
    let fault : Fault = record { file = file; line = line; column = column; code = code } in
    answered_then true files before between after earlier later C (λ names held. D held (stopped names fault)) (λ names held. E held (stopped names fault)) first second
    (λ held c names d. then held c names fault d)
ends_then files before between after earlier later C D E first then Failed second = unknown_then files before between after earlier later C D E first then second
ends_then files before between after earlier later C D E first then Memory second = unknown_then files before between after earlier later C D E first then second

-- ---- nothing is asked for

answered_nothing : (whole : Bool) (files : Files) (before : Asked) (earlier : List LoadedFile) (C : List (List ℕ) → Holding → Type 0) → IsDistinct bytes_eq (file_names earlier)
    → ((held : Holding) → C (file_names earlier) held) → Answered whole files before before earlier C
answered_nothing whole files before earlier C d comes =
    let same = sym (append-nil (file_names earlier)) in
    record {
      answers = [];
      asks = asks_none before;
      told = known_nothing whole;
      distinct = subst (λ names. IsDistinct bytes_eq names) same d;
      comes = λ held g. subst (λ names. C names held) same (comes held);
    }
  where
    known_nothing : (whole : Bool) → IfSome files (λ held. GivesAnswers held (known whole []))
    known_nothing true = told_none files
    known_nothing false = told_none files

pub loaded_nothing : (files : Files) (before : Asked) (earlier : List LoadedFile) (C : Holding → Type 0) → IsDistinct bytes_eq (file_names earlier) → ((held : Holding) → C held) → Loaded files before before earlier earlier C
unfolding answered_nothing
loaded_nothing files before earlier C d comes =
    record { more = []; grown = sym (append-nil earlier); given = answered_nothing true files before earlier (λ _ held. C held) d comes; names = refl }

pub ends_halted : (files : Files) (before : Asked) (earlier : List LoadedFile) (C : Holding → Loading → Type 0) → IsDistinct bytes_eq (file_names earlier) → (refusal : DefFault)
    → Halts (λ fault. (held : Holding) → C held (stopped (file_names earlier) fault)) refusal → Ends files before before earlier C refusal
ends_halted files before earlier C d (At file line column code) h =
    answered_nothing true files before earlier (λ names held. C held (stopped names (record { file = file; line = line; column = column; code = code }))) d h
ends_halted files before earlier C d Failed h = absurd h
ends_halted files before earlier C d Memory (fault, h) =
    answered_nothing false files before earlier (λ names held. (fault : Fault) × C held (stopped names fault)) d (λ held. (fault, h held))

-- ---- one file is asked for

-- a name that wasn't asked for before, of files with different names
pub record IsNew (earlier : List LoadedFile) (name : List ℕ) (before after : Asked) : Type 0 where
  pub distinct : IsDistinct bytes_eq (file_names earlier)
  pub fresh : is_among name (file_names earlier) ≡ false
  pub asks : Asks (name ∷ []) before after

answered_one : (whole : Bool) (files : Files) (before after : Asked) (earlier : List LoadedFile) (name : List ℕ) (content : Option (List ℕ)) (C : List (List ℕ) → Holding → Type 0) → IsNew earlier name before after
    → IfSome files (λ held. GivesAnswers held (known whole (record { name = name; content = content } ∷ []))) → ((held : Holding) → held name ≡ content → C (file_names earlier ++ name ∷ []) held)
    → Answered whole files before after earlier C
answered_one whole files before after earlier name content C new told comes = record {
  answers = record { name = name; content = content } ∷ [];
  asks = new.asks;
  told = told;
  distinct = distinct_snoc (file_names earlier) name new.distinct new.fresh;
  comes = λ held g. comes held g.0;
}

-- the file is held
pub loaded_file : (files : Files) (before after : Asked) (earlier : List LoadedFile) (file : LoadedFile) (source : List ℕ) → IsNew earlier file.name before after
    → IsHeld files file.name (Some source) → Loaded files before after earlier (earlier ++ file ∷ []) (λ held. held file.name ≡ Some source)
unfolding answered_one
loaded_file files before after earlier file source new told = record {
  more = file ∷ [];
  grown = refl;
  given = answered_one true files before after earlier file.name (Some source) (λ _ held. held file.name ≡ Some source) new (told_one files file.name (Some source) told) (λ held is. is);
  names = refl;
}

-- a fault comes of the answer
pub answered_fault : (files : Files) (before after : Asked) (earlier : List LoadedFile) (name : List ℕ) (content : Option (List ℕ)) (C : Holding → Loading → Type 0) (fault : Fault) → IsNew earlier name before after
    → IsHeld files name content → ((held : Holding) → held name ≡ content → C held (stopped (file_names earlier ++ name ∷ []) fault))
    → Answered true files before after earlier (λ names held. C held (stopped names fault))
answered_fault files before after earlier name content C fault new told comes =
    answered_one true files before after earlier name content (λ names held. C held (stopped names fault)) new (told_one files name content told) comes

-- whatever the answer is, a fault would come if there were no such file
pub answered_unknown : (files : Files) (before after : Asked) (earlier : List LoadedFile) (name : List ℕ) (C : Holding → Loading → Type 0) (fault : Fault) → IsNew earlier name before after
    → ((held : Holding) → held name ≡ None → C held (stopped (file_names earlier ++ name ∷ []) fault)) → Answered false files before after earlier (λ names held. (fault : Fault) × C held (stopped names fault))
answered_unknown files before after earlier name C fault new comes =
    answered_one false files before after earlier name None (λ names held. (fault : Fault) × C held (stopped names fault)) new (told_none files) (λ held none. (fault, comes held none))

-- ---- what comes of it comes of it in other words

answered_so : (whole : Bool) (files : Files) (before after : Asked) (earlier : List LoadedFile) (C D : List (List ℕ) → Holding → Type 0) → ((held : Holding) (names : List (List ℕ)) → C names held → D names held)
    → Answered whole files before after earlier C → Answered whole files before after earlier D
answered_so whole files before after earlier C D so a =
    record { answers = a.answers; asks = a.asks; told = a.told; distinct = a.distinct; comes = λ held g. so held (file_names earlier ++ answer_names a.answers) (a.comes held g) }

pub loaded_so : (files : Files) (before after : Asked) (earlier later : List LoadedFile) (C D : Holding → Type 0) → ((held : Holding) → C held → D held) → Loaded files before after earlier later C → Loaded files before after earlier later D
unfolding answered_so
loaded_so files before after earlier later C D so l =
    record { more = l.more; grown = l.grown; given = answered_so true files before after earlier (λ _ held. C held) (λ _ held. D held) (λ held names. so held) l.given; names = l.names }

unknown_so : (files : Files) (before after : Asked) (earlier : List LoadedFile) (C D : Holding → Loading → Type 0) → ((held : Holding) (names : List (List ℕ)) (fault : Fault) → C held (stopped names fault) → D held (stopped names fault))
    → Answered false files before after earlier (λ names held. (fault : Fault) × C held (stopped names fault)) → Answered false files before after earlier (λ names held. (fault : Fault) × D held (stopped names fault))
unknown_so files before after earlier C D so e =
    answered_so false files before after earlier (λ names held. (fault : Fault) × C held (stopped names fault)) (λ names held. (fault : Fault) × D held (stopped names fault))
    (λ held names c. (c.0, so held names c.0 c.1)) e

pub ends_so : (files : Files) (before after : Asked) (earlier : List LoadedFile) (C D : Holding → Loading → Type 0) → ((held : Holding) (names : List (List ℕ)) (fault : Fault) → C held (stopped names fault) → D held (stopped names fault))
    → (refusal : DefFault) → Ends files before after earlier C refusal → Ends files before after earlier D refusal
ends_so files before after earlier C D so (At file line column code) e =
    let fault : Fault = record { file = file; line = line; column = column; code = code } in
    answered_so true files before after earlier (λ names held. C held (stopped names fault)) (λ names held. D held (stopped names fault)) (λ held names. so held names fault) e
ends_so files before after earlier C D so Failed e = unknown_so files before after earlier C D so e
ends_so files before after earlier C D so Memory e = unknown_so files before after earlier C D so e
