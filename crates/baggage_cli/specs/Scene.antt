-- The objects of a call, before it and after it.
use Rattle.std.specs.Prelude.{◌≡◌, ℕ, ◌≤◌, List, Option, IfSome}
use Rattle.std.specs.Io.KnownBytes.{Appends}
use Rattle.outside.specs.Causes.{Rose}
use Rattle.outside.specs.Transfers.{AppendsPart}
use Rattle.bdl_load.specs.Loading.{Holding}

-- What an object tells of its content, and its count of faults, before and after.
pub record Change (A : Type 0) : Type 0 where
  pub before : Option A
  pub after : Option A
  pub faults_before : ℕ
  pub faults_after : ℕ

-- The change of an object from the old to the new.
abbrev pub change : {A S : Type 0} → (S → Option A) → (S → ℕ) → S → S → Change A
change content faults old new = record {
  before = content old;
  after = content new;
  faults_before = faults old;
  faults_after = faults new;
}

-- What the library tells between two uses: its files, the names that it was asked for, and its
-- count of faults.
pub record Halfway : Type 0 where
  pub files : Option Holding
  pub asked : Option (List (List ℕ))
  pub faults : ℕ

-- The part of a change that ends where this is reported, with this count of faults.
abbrev pub until : {A : Type 0} → Option A → ℕ → Change A → Change A
until told faults c =
    record { before = c.before; after = told; faults_before = c.faults_before; faults_after = faults }

-- The part that begins there.
abbrev pub since : {A : Type 0} → Option A → ℕ → Change A → Change A
since told faults c =
    record { before = told; after = c.after; faults_before = faults; faults_after = c.faults_after }

-- The four objects of a call: of the library, its files and the names that it was asked for.
pub record Scene : Type 0 where
  pub library : Change Holding
  pub requests : Change (List (List ℕ))
  pub source : Change (List ℕ)
  pub out : Change (List ℕ)
  pub errs : Change (List ℕ)

-- The scene of these changes.
abbrev pub scene_of : Change Holding → Change (List (List ℕ)) → Change (List ℕ) → Change (List ℕ)
    → Change (List ℕ) → Scene
scene_of library requests source out errs = record {
  library = library;
  requests = requests;
  source = source;
  out = out;
  errs = errs;
}

-- An object outside is as before, and so is its count of faults.
abbrev pub IsSame : {A : Type 0} → Change A → Type 0
IsSame c = (c.after ≡ c.before) × (c.faults_after ≡ c.faults_before)

-- The count of faults of an object outside didn't fall.
abbrev pub NeverFell : {A : Type 0} → Change A → Type 0
NeverFell c = c.faults_before ≤ c.faults_after

-- The count of faults of an object outside is as before.
abbrev pub IsSteady : {A : Type 0} → Change A → Type 0
IsSteady c = c.faults_after ≡ c.faults_before

-- An object outside counted a fault in this call.
abbrev pub HasFailed : {A : Type 0} → Change A → Type 0
HasFailed c = Rose c.faults_before c.faults_after

-- An object outside had this content; where it doesn't tell, any content is as good.
abbrev pub HeldContent : {A : Type 0} → Change A → A → Type 0
HeldContent c content = IfSome c.before (λ told. told ≡ content)

-- The bytes were appended to an object outside, and its count of faults is as before.
abbrev pub TakesWhole : Change (List ℕ) → List ℕ → Type 0
TakesWhole c bytes = Appends c.before c.after bytes × IsSteady c

-- An object outside counted a fault, and a prefix of the bytes was appended to it.
abbrev pub TakesPart : Change (List ℕ) → List ℕ → Type 0
TakesPart c bytes = HasFailed c × AppendsPart c.before c.after bytes × NeverFell c

-- No count of faults rose, and none was at its last value.
pub record HasNoFault (scene : Scene) : Type 0 where
  pub library : HasFailed scene.library → ⊥
  pub source : HasFailed scene.source → ⊥
  pub out : HasFailed scene.out → ⊥
  pub errs : HasFailed scene.errs → ⊥
