use Rattle.std.proofs.Common.{◌≡◌, ◌+◌, ◌≤◌, List, ◌++◌, length, drop}
use Rattle.context_model.specs.Atoms.{Atom}
use Rattle.context_model.specs.Framing.{frames, has_long, head_len}
use Rattle.byte_frames.specs.OpenAtoms.{opened_by}
use Rattle.byte_frames.specs.Reading.{IsReadTo}
use Rattle.byte_frames.proofs.checks.survey.Given as goal

abbrev pub invariant-loop-rest : goal.invariant-loop-rest
invariant-loop-rest l = record {
  list : List Atom;
  read : IsReadTo l.form list (opened_by l.«open» l.datum);
  split : drop (head_len l.form) l.bytes ≡ frames l.form list ++ l.rest;
  counted : l.survey.atoms ≡ length list;
  few : l.survey.atoms + length l.rest ≤ length l.bytes;
  long : l.survey.has_long ≡ has_long list;
}

abbrev pub decreases-loop-rest : goal.decreases-loop-rest
decreases-loop-rest l = length l.rest
