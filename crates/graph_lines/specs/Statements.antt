-- What a line of a recorded graph says, before any name is looked up.
use Rattle.std.specs.Prelude.{ℕ, List}
use Rattle.context_model.specs.declared.Form.{Form as WireForm}

-- What a service may see: all, nothing, or what is at these paths.
pub data NamedView : Type 0 where
  All : NamedView
  Nothing : NamedView
  Only : List (List ℕ) → NamedView

-- What happens in a step; services and fields are given by their names.
pub data NamedAct : Type 0 where
  Start : List ℕ → NamedAct
  Recv : List ℕ → List ℕ → NamedAct
  Set : ℕ → List ℕ → List ℕ → NamedAct
  Branch : ℕ → NamedAct
  Forward : ℕ → List ℕ → NamedAct
  Trim : ℕ → ℕ → NamedAct
  Join : List ℕ → NamedAct

-- What a line says: a service with the form in which it writes, and its view, a numbered step, or a
-- step that is to be shown.
pub data Statement : Type 0 where
  Service : WireForm → List ℕ → NamedView → Statement
  Step : ℕ → NamedAct → Statement
  Show : ℕ → Statement
