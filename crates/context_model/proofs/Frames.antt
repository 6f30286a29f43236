-- No frame begins another, nothing is wrong at a frame, and where something is wrong after a list
-- no list goes further.
use Rattle.std.proofs.Common.{◌≡◌, ℕ, ◌+◌, ◌-◌, ◌<◌, ◌≤◌, [], List, ◌∷◌, ◌++◌, length, take, drop, None, refl, sym, ◌∙◌, ap, subst, append_assoc, length-append, arith}
use Rattle.std.proofs.lemmas.List.{take_at, drop_at, take-append-drop, append_cancel_left, length-take-le, take_all}
use Rattle.std.proofs.lemmas.Bool.Decides.{nat_tests}
use Rattle.context_model.specs.declared.TheConstants.{ATOM_MAX}
use Rattle.context_model.specs.declared.Form.{Form}
use Rattle.context_model.specs.declared.Form.TheVariants.{One, Two}
use Rattle.context_model.specs.Atoms.{Atom}
use Rattle.context_model.specs.Varints.{unsigned_tail, unsigned_varint, IsUnsignedAt, IsUnsignedCut, IsUnsignedLong}
use Rattle.context_model.specs.Framing.{length_code, frame, frames, most, AreWithin}
use Rattle.context_model.specs.ByteCodes.{ByteCode}
use Rattle.context_model.specs.ByteCodes.ByteCode.{CutLength, AtomTooLong, LongForm, CutBody}
use Rattle.context_model.specs.WireFault.{length_front, length_said, wire_code, IsUnframedTwo, IsUnframed, IsFirstUnframed}
use Rattle.context_model.proofs.FramingLaws.{length_code-some}
use Rattle.context_model.proofs.LengthCodes.{length_front-code, length_said-code, wire_code-length}
use Rattle.context_model.proofs.VarintLaws.{unsigned_varint-prefix}
use Rattle.context_model.proofs.UnsignedFronts.{Stands-unique, Stands-taken, Stands-long, Stands-uncut}

-- ---- what each form owes

-- Lengths whose codes begin the same bytes are equal.
length_cancel : (form : Form) (m n : ℕ) (xs ys : List ℕ) → m ≤ most form → n ≤ most form → length_code form m ++ xs ≡ length_code form n ++ ys → m ≡ n
length_cancel One m n xs ys short_m short_n e =
    let codes : length_code One m ≡ length_code One n = sym (length_front-code m xs (omega arith)) ∙ ap length_front e ∙ length_front-code n ys (omega arith) in
    sym (length_said-code m (omega arith)) ∙ ap length_said codes ∙ length_said-code n (omega arith)
length_cancel Two m n xs ys short_m short_n e = unsigned_varint-prefix m n xs ys (omega arith) (omega arith) e

-- A varint that is taken tells its number and how many bytes it has.
one_taken : (bytes : List ℕ) (m n i j : ℕ) → IsUnsignedAt bytes m i → IsUnsignedAt bytes n j → (m ≡ n) × (i ≡ j)
one_taken bytes m n i j f g =
    let same = (Stands-unique bytes (unsigned_tail m) (unsigned_tail n) m n (Stands-taken bytes m i f) (Stands-taken bytes n j g)).1 in
    (same, f.whole ∙ ap (λ v. length (unsigned_varint v)) same ∙ sym g.whole)

-- One that is taken is neither cut nor longer than its shortest form.
taken_whole : (bytes : List ℕ) (n count : ℕ) → IsUnsignedAt bytes n count → IsUnsignedCut bytes → ⊥
taken_whole bytes n count f cut = Stands-uncut bytes (unsigned_tail n) n (Stands-taken bytes n count f) cut

taken_short : (bytes : List ℕ) (n count : ℕ) → IsUnsignedAt bytes n count → IsUnsignedLong bytes → ⊥
taken_short bytes n count f long =
    let same = Stands-unique bytes (unsigned_tail n) long.tail n long.value (Stands-taken bytes n count f) (Stands-long bytes long) in
    let tails = ap unsigned_tail same.1 in
    let longer = long.longer in
    absurd (omega (arith, same.0))

long_whole : (bytes : List ℕ) → IsUnsignedLong bytes → IsUnsignedCut bytes → ⊥
long_whole bytes long cut = Stands-uncut bytes long.tail long.value (Stands-long bytes long) cut

-- At most one code applies.
one_two : (bytes : List ℕ) (c d : ByteCode) → IsUnframedTwo bytes c → IsUnframedTwo bytes d → c ≡ d
one_two bytes CutLength CutLength f g = refl
one_two bytes CutLength LongForm f g = absurd (long_whole bytes g f)
one_two bytes CutLength AtomTooLong f g = absurd (taken_whole bytes g.0 g.1 g.2 f)
one_two bytes CutLength CutBody f g = absurd (taken_whole bytes g.0 g.1 g.2 f)
one_two bytes LongForm CutLength f g = absurd (long_whole bytes f g)
one_two bytes LongForm LongForm f g = refl
one_two bytes LongForm AtomTooLong f g = absurd (taken_short bytes g.0 g.1 g.2 f)
one_two bytes LongForm CutBody f g = absurd (taken_short bytes g.0 g.1 g.2 f)
one_two bytes AtomTooLong CutLength f g = absurd (taken_whole bytes f.0 f.1 f.2 g)
one_two bytes AtomTooLong LongForm f g = absurd (taken_short bytes f.0 f.1 f.2 g)
one_two bytes AtomTooLong AtomTooLong f g = refl
one_two bytes AtomTooLong CutBody f g =
    let same = (one_taken bytes f.0 g.0 f.1 g.1 f.2 g.2).0 in
    let over = f.3 in
    let within = g.3 in
    absurd (omega (arith, same))
one_two bytes CutBody CutLength f g = absurd (taken_whole bytes f.0 f.1 f.2 g)
one_two bytes CutBody LongForm f g = absurd (taken_short bytes f.0 f.1 f.2 g)
one_two bytes CutBody AtomTooLong f g =
    let same = (one_taken bytes f.0 g.0 f.1 g.1 f.2 g.2).0 in
    let within = f.3 in
    let over = g.3 in
    absurd (omega (arith, same))
one_two bytes CutBody CutBody f g = refl
one_two bytes CutLength d f g = absurd g
one_two bytes LongForm d f g = absurd g
one_two bytes AtomTooLong d f g = absurd g
one_two bytes CutBody d f g = absurd g
one_two bytes c d f g = absurd f

pub one_code : (form : Form) (bytes : List ℕ) (c d : ByteCode) → IsUnframed form bytes c → IsUnframed form bytes d → c ≡ d
one_code One bytes c d f g = cc (f, g)
one_code Two bytes c d f g = one_two bytes c d f g

-- Nothing is wrong at a frame.
framed_two : (atom rest : List ℕ) (code : ByteCode) → length atom ≤ ATOM_MAX → IsUnframedTwo (frame Two atom ++ rest) code → ⊥
framed_two atom rest code short wrong = by code wrong
  where
    bytes : List ℕ
    bytes = frame Two atom ++ rest

    taken : IsUnsignedAt bytes (length atom) (length (unsigned_varint (length atom)))
    taken = record { fits = omega arith; front = (atom ++ rest, append_assoc (unsigned_varint (length atom)) atom rest); whole = refl }

    by : (code : ByteCode) → IsUnframedTwo bytes code → ⊥
    by CutLength cut = taken_whole bytes _ _ taken cut
    by LongForm long = taken_short bytes _ _ taken long
    by AtomTooLong f = let same = (one_taken bytes f.0 (length atom) f.1 _ f.2 taken).0 in let over = f.3 in absurd (omega (arith, same))
    by CutBody f =
        let same = one_taken bytes f.0 (length atom) f.1 _ f.2 taken in
        let cut = f.4 in
        let l = length-append (frame Two atom) rest in
        let k = length-append (unsigned_varint (length atom)) atom in
        absurd (omega (arith, same.0, same.1))
    by other f = f

pub wrong_frame : (form : Form) (atom rest : List ℕ) (code : ByteCode) → length atom ≤ most form → IsUnframed form (frame form atom ++ rest) code → ⊥
wrong_frame One atom rest code short wrong =
    let right : wire_code (frame One atom ++ rest) ≡ None =
    rw (append_assoc, wire_code-length (length atom) (atom ++ rest) short) (let l = length-append atom rest in grind (arith, nat_tests)) in
    absurd (cc (wrong, right))
wrong_frame Two atom rest code short wrong = framed_two atom rest code short wrong

-- ---- lists of frames, in a form

module _ (form : Form) where
  -- No frame begins another.
  pub frame_cancel : (a b xs ys : List ℕ) → length a ≤ most form → length b ≤ most form → frame form a ++ xs ≡ frame form b ++ ys → (a ≡ b) × (xs ≡ ys)
  frame_cancel a b xs ys short_a short_b e =
      let code_a = length_code form (length a) in
      let code_b = length_code form (length b) in
      let split : code_a ++ (a ++ xs) ≡ code_b ++ (b ++ ys) = sym (append_assoc code_a a xs) ∙ e ∙ append_assoc code_b b ys in
      let long : length a ≡ length b = length_cancel form (length a) (length b) (a ++ xs) (b ++ ys) short_a short_b split in
      let codes : code_a ≡ code_b = ap (length_code form) long in
      let behind : a ++ xs ≡ b ++ ys = append_cancel_left code_a (a ++ xs) (b ++ ys) (split ∙ ap (λ code. code ++ (b ++ ys)) (sym codes)) in
      let same : a ≡ b = sym (take_at a xs (length a) refl) ∙ ap (take (length a)) behind ∙ take_at b ys (length a) (sym long) in
      (same, sym (drop_at a xs (length a) refl) ∙ ap (drop (length a)) behind ∙ drop_at b ys (length a) (sym long))

  -- Each atom has at least the byte of its length.
  pub frame_some : (a xs : List ℕ) → 1 ≤ length (frame form a ++ xs)
  frame_some a xs =
      let code = length_code form (length a) in
      let some = length_code-some form (length a) in
      let l = length-append (code ++ a) xs in
      let k = length-append code a in
      omega arith

  -- One list for its frames.
  pub frames_cancel : (list other : List Atom) → AreWithin form list → AreWithin form other → frames form list ≡ frames form other → list ≡ other
  frames_cancel [] [] short short' e = refl
  frames_cancel [] (b ∷ other) short short' e = let some = frame_some b (frames form other) in let l = ap length e in absurd (omega arith)
  frames_cancel (a ∷ list) [] short short' e = let some = frame_some a (frames form list) in let l = ap length e in absurd (omega arith)
  frames_cancel (a ∷ list) (b ∷ other) short short' e =
      let parts = frame_cancel a b (frames form list) (frames form other) short.0 short'.0 e in
      let heads = parts.0 in
      let tails = frames_cancel list other short.1 short'.1 parts.1 in
      λ i. heads i ∷ tails i

  -- Where something is wrong after a list, no list goes further.
  pub not_longer : (list other : List Atom) (rest more : List ℕ) (code : ByteCode) → AreWithin form list → AreWithin form other → frames form list ++ rest ≡ frames form other ++ more
      → IsUnframed form rest code → length (frames form other) ≤ length (frames form list)
  not_longer [] [] rest more code short short' e wrong = omega arith
  not_longer [] (b ∷ other) rest more code short short' e wrong =
      let frame_there : rest ≡ frame form b ++ (frames form other ++ more) = e ∙ append_assoc (frame form b) (frames form other) more in
      absurd (wrong_frame form b (frames form other ++ more) code short'.0 (subst (λ xs. IsUnframed form xs code) frame_there wrong))
  not_longer (a ∷ list) [] rest more code short short' e wrong = omega arith
  not_longer (a ∷ list) (b ∷ other) rest more code short short' e wrong =
      let parts = frame_cancel a b (frames form list ++ rest) (frames form other ++ more) short.0 short'.0
      (sym (append_assoc (frame form a) (frames form list) rest) ∙ e ∙ append_assoc (frame form b) (frames form other) more) in
      let later = not_longer list other rest more code short.1 short'.1 parts.1 wrong in
      let l = length-append (frame form a) (frames form list) in
      let k = length-append (frame form b) (frames form other) in
      let m = ap (λ x. length (frame form x)) parts.0 in
      omega arith

  -- What is wrong after the frames of a list is the first fault.
  pub first_unframed : (bytes rest : List ℕ) (list : List Atom) (code : ByteCode) → AreWithin form list → bytes ≡ frames form list ++ rest → 0 < length rest → IsUnframed form rest code
      → IsFirstUnframed form bytes (length bytes - length rest) code
  first_unframed bytes rest list code short split some wrong =
      let front = frames form list in
      let l : length bytes ≡ length front + length rest = ap length split ∙ length-append front rest in
      let at : length bytes - length rest ≡ length front = omega arith in
      subst (λ offset. IsFirstUnframed form bytes offset code) (sym at) (record {
        within = omega arith;
        framed = (list, short, ap (take (length front)) split ∙ take_at front rest (length front) refl);
        longest = λ n upto framed. (
            let other = framed.0 in
            let whole : front ++ rest ≡ frames form other ++ drop n bytes = sym split ∙ sym (take-append-drop n bytes) ∙ ap (λ xs. xs ++ drop n bytes) framed.2 in
            let less = not_longer list other rest (drop n bytes) code short framed.1 whole wrong in
            let n_is = ap length framed.2 in
            let n_long = length-take-le n bytes upto in
            omega arith
            );
        applies = subst (λ xs. IsUnframed form xs code) (sym (ap (drop (length front)) split ∙ drop_at front rest (length front) refl)) wrong;
      })

  -- The frames of a list have no fault.
  pub no_unframed : (bytes : List ℕ) (list : List Atom) (offset : ℕ) (code : ByteCode) → AreWithin form list → bytes ≡ frames form list → IsFirstUnframed form bytes offset code → ⊥
  no_unframed bytes list offset code short e fault =
      let all : take (length bytes) bytes ≡ bytes = take_all (length bytes) bytes (omega arith) in
      let late = fault.longest (length bytes) (omega arith) (list, short, all ∙ e) in
      let w = fault.within in
      absurd (omega arith)

  -- Bytes have at most one first fault.
  pub one_unframed : (bytes : List ℕ) (i j : ℕ) (c d : ByteCode) → IsFirstUnframed form bytes i c → IsFirstUnframed form bytes j d → (i ≡ j) × (c ≡ d)
  one_unframed bytes i j c d a b =
      let up = b.longest i (let w = a.within in omega arith) a.framed in
      let down = a.longest j (let w = b.within in omega arith) b.framed in
      let same : i ≡ j = omega arith in
      (same, one_code form (drop i bytes) c d a.applies (subst (λ n. IsUnframed form (drop n bytes) d) (sym same) b.applies))
