-- Laws of headers' texts and of what is read of parts.
use Rattle.std.specs.Prelude.{◌≡◌, ◌≢◌, ℕ, ◌<◌, List, [], ◌∷◌, length, take, Option, None, Some}
use Rattle.base64.specs.GeneralPurpose.{IsBytes}
use Rattle.context_model.specs.Atoms.{Atom}
use Rattle.context_model.specs.ContextFault.{IsContextOf}
use Rattle.header_text.specs.Texts.{header_text, text_len}
use Rattle.header_text.specs.Parts.{parts_of}
use Rattle.header_text.specs.Reading.{IsReadFrom}

-- The text of a context's bytes is read as the context, in whichever form the bytes are. As a
-- header's value it is one part, and it has as many letters as its length says.
pub record HeadersComeBack : Type 0 where
  pub read : (bytes : List ℕ) (list : List Atom) (reading : Option (List Atom)) → IsBytes bytes
      → IsContextOf list bytes → IsReadFrom (header_text bytes) reading → reading ≡ Some list
  pub alone : (bytes : List ℕ) → parts_of (header_text bytes) ≡ header_text bytes ∷ []
  pub size : (bytes : List ℕ) → length (header_text bytes) ≡ text_len (length bytes)

-- A part is read in one way, and bytes have texts of their own.
pub record PartsReadOneWay : Type 0 where
  pub read : (part : List ℕ) (a b : Option (List Atom)) → IsReadFrom part a → IsReadFrom part b
      → a ≡ b
  pub texts : (a b : List ℕ) → IsBytes a → IsBytes b → header_text a ≡ header_text b → a ≡ b

-- A part that isn't the text of a context's bytes is lost. The text of any bytes, cut off at
-- whatever place, is such a part.
pub record DamageIsLost : Type 0 where
  pub other : (part : List ℕ) (reading : Option (List Atom))
      → ((bytes : List ℕ) (list : List Atom) → IsBytes bytes → IsContextOf list bytes
      → part ≢ header_text bytes)
      → IsReadFrom part reading → reading ≡ None
  pub cut : (bytes : List ℕ) (n : ℕ) (reading : Option (List Atom))
      → n < length (header_text bytes) → IsReadFrom (take n (header_text bytes)) reading
      → reading ≡ None
