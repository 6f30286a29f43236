use Rattle.field_writes.proofs.Fits.{write_fits}
use Rattle.field_writes.proofs.OneWrite.{write_of_shape}
use Rattle.field_writes.proofs.laws.writes_are_of_their_shape.Goals as goal

pub returns : goal.returns
returns c = record { shape = write_of_shape; fits = write_fits }
