-- The frame at the beginning of bytes, and what is known with its atom.
use Rattle.std.proofs.Common.{◌≡◌, ℕ, ◌+◌, ◌<◌, ◌≤◌, Bool, true, false, ◌||◌, List, [], ◌∷◌, ◌++◌, length, take, drop, slice_range, nat_lt, Result, Ok, Err, IsErrAnd, refl, sym, ◌∙◌, ap, subst, append_assoc, append-nil, length-append, arith}
use Rattle.std.specs.Borrow.{Bor}
use Rattle.std.proofs.lemmas.List.{take-take, take-append-drop, take_rest, length-take-le, length-drop}
use Rattle.context_model.specs.declared.TheConstants.{LENGTH_MAX}
use Rattle.context_model.specs.declared.Form.{Form}
use Rattle.context_model.specs.Atoms.{Atom}
use Rattle.context_model.specs.ByteCodes.{ByteCode as PlainCode}
use Rattle.context_model.specs.Framing.{length_code, frame, frames, most, has_long, AreWithin}
use Rattle.context_model.specs.Paths.{path_after, last_path_after}
use Rattle.context_model.specs.WireFault.{IsUnframed}
use Rattle.context_model.specs.ContextFault.{IsWrongBehind}
use Rattle.context_model.proofs.Following.{IsWellFormed-more, last_path_after-append}
use Rattle.context_model.proofs.Frames.{frame_cancel, frame_some, wrong_frame}
use Rattle.context_model.proofs.FramingLaws.{frames-append, long-append}
use Rattle.atom_list.specs.OpenPlaces.{MayStandBehind}
use Rattle.wire_bytes.specs.declared.contexts.ByteCode.{ByteCode}
use Rattle.wire_bytes.specs.Reading.{byte_code_of}
use Rattle.byte_frames.specs.OpenAtoms.{OpenAtoms, IsOpenFor}
use Rattle.byte_frames.specs.Reading.{IsReadTo, TakesAtom}

-- ---- the frame at the beginning

-- The bytes begin with this frame, which is that of an atom of `len` bytes.
pub record BeginsWithFrame (form : Form) (bytes front behind : List ℕ) (atom : Atom) (len : ℕ) : Type 0 where
  pub long : len ≡ length atom
  pub fits : length atom ≤ most form
  pub framed : front ≡ frame form atom
  pub split : bytes ≡ frame form atom ++ behind

-- The length and the atom of a first frame are cut off.
pub cut_frame : (form : Form) (bytes front behind : List ℕ) (skip len : ℕ) → skip + len ≤ length bytes → len ≤ most form
    → take skip bytes ≡ length_code form len
    → front ≡ take (skip + len) bytes → behind ≡ drop (skip + len) bytes → BeginsWithFrame form bytes front behind (slice_range front skip (length front)) len
cut_frame form bytes front behind skip len within short code front_is behind_is =
    let atom = slice_range front skip (length front) in
    let atom_is : atom ≡ drop skip front = take_rest front skip in
    let front_long = ap length front_is ∙ length-take-le (skip + len) bytes within in
    let long : len ≡ length atom = sym (ap length atom_is ∙ length-drop skip front ∙ (omega arith)) in
    let start : take skip front ≡ length_code form (length atom) = ap (take skip) front_is ∙ take-take skip (skip + len) bytes (omega arith) ∙ code ∙ ap (length_code form) long in
    let framed : front ≡ frame form atom =
    sym (take-append-drop skip front) ∙ ap (λ v. v ++ drop skip front) start ∙ ap (λ v. length_code form (length atom) ++ v) (sym atom_is) in
    record {
      long = long;
      fits = subst (λ n. n ≤ most form) long short;
      framed = framed;
      split = sym (take-append-drop (skip + len) bytes) ∙ ap (λ v. take (skip + len) bytes ++ v) (sym behind_is) ∙ ap (λ v. v ++ behind) (sym front_is ∙ framed);
    }

-- ---- the frames that come first

module _ (form : Form) where
  -- No list with an atom begins where no frame does.
  pub none_left : (bytes : List ℕ) (code : PlainCode) (list : List Atom) → IsUnframed form bytes code → AreWithin form list
      → bytes ≡ frames form list → list ≡ []
  none_left bytes code [] wrong short is = refl
  none_left bytes code (a ∷ list) wrong short is = absurd (wrong_frame form a (frames form list) code short.0 (subst (λ xs. IsUnframed form xs code) is wrong))

  abbrev StandsFirst : List Atom → Atom → List ℕ → Type 0
  StandsFirst list atom behind = (rest : List Atom) × (list ≡ atom ∷ rest) × AreWithin form rest × (behind ≡ frames form rest)

  -- The atom of a frame that comes first is the first of the list.
  pub stands_first : (bytes behind : List ℕ) (atom : Atom) (list : List Atom) → length atom ≤ most form
      → bytes ≡ frame form atom ++ behind → AreWithin form list → bytes ≡ frames form list
      → StandsFirst list atom behind
  stands_first bytes behind atom [] fits split short is =
      let some = frame_some form atom behind in
      let none = ap length (sym split ∙ is) in
      absurd (omega arith)
  stands_first bytes behind atom (a ∷ list) fits split short is =
      let parts = frame_cancel form a atom (frames form list) behind short.0 fits (sym is ∙ split) in
      (list, ap (λ x. x ∷ list) parts.0, short.1, sym parts.1)

  -- ---- one atom more

  AreWithin-more : (list : List Atom) (a : Atom) → AreWithin form list → length a ≤ most form → AreWithin form (list ++ a ∷ [])
  AreWithin-more [] a short fits = (fits, tt)
  AreWithin-more (x ∷ list) a short fits = (short.0, AreWithin-more list a short.1 fits)

  pub reads_on : (list : List Atom) (opened opened' : OpenAtoms) (a : Atom) → IsReadTo form list opened → length a ≤ most form
      → MayStandBehind (last_path_after [] list) a
      → IsOpenFor (path_after (last_path_after [] list) a) opened' → IsReadTo form (list ++ a ∷ []) opened'
  reads_on list opened opened' a read fits may path = record {
    within = AreWithin-more list a read.within fits;
    formed = IsWellFormed-more list a read.formed may.kind (record { level = may.level; later = may.later });
    path = subst (λ q. IsOpenFor q opened') (sym (last_path_after-append [] list (a ∷ []))) path;
  }

  pub split_more : (bytes rest behind : List ℕ) (list : List Atom) (a : Atom) → bytes ≡ frames form list ++ rest
      → rest ≡ frame form a ++ behind → bytes ≡ frames form (list ++ a ∷ []) ++ behind
  split_more bytes rest behind list a split taken =
      let whole : frames form (list ++ a ∷ []) ≡ frames form list ++ frame form a = frames-append form list (a ∷ []) ∙ ap (λ v. frames form list ++ v) (append-nil (frame form a)) in
      split ∙ ap (λ v. frames form list ++ v) taken ∙ sym (append_assoc (frames form list) (frame form a) behind) ∙ ap (λ v. v ++ behind) (sym whole)

  -- Some bytes were taken.
  pub shorter : (rest behind : List ℕ) (a : Atom) → rest ≡ frame form a ++ behind → length behind < length rest
  shorter rest behind a taken =
      let some = frame_some form a [] in
      let whole = ap length (append-nil (frame form a)) in
      let parts = ap length taken ∙ length-append (frame form a) behind in
      omega arith

-- Whether an atom is too long for form one, with one more.
pub long_more : (list : List Atom) (a : Atom) → has_long (list ++ a ∷ []) ≡ (has_long list || nat_lt LENGTH_MAX (length a))
long_more list a = long-append list (a ∷ []) ∙ ap (λ b. has_long list || b) (or_false (nat_lt LENGTH_MAX (length a)))
  where
    or_false : (b : Bool) → (b || false) ≡ b
    or_false true = refl
    or_false false = refl

-- An answer that names what is wrong.
pub takes_none : (form : Form) (list : List Atom) (bytes : List ℕ) (opened : OpenAtoms) (answer : Result (ℕ × Bor (List ℕ)) ByteCode) (code : PlainCode) → IsErrAnd answer (λ said. byte_code_of said ≡ code)
    → IsWrongBehind form list bytes code → TakesAtom form list bytes opened answer
takes_none form list bytes opened (Ok found) code said wrong = absurd said
takes_none form list bytes opened (Err other) code said wrong = subst (IsWrongBehind form list bytes) (sym said) wrong
