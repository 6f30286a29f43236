-- What objects in memory are made for.
use Rattle.std.specs.Prelude.{ℕ}
use Rattle.outside.specs.declared.in_memory.SureSource.{SureSource}
use Rattle.outside.specs.declared.in_memory.MemorySink.{MemorySink}

-- The most bytes that one read gives.
abbrev pub piece_of : SureSource → ℕ
piece_of source = source.piece

-- The most bytes that the sink holds.
abbrev pub room_of : MemorySink → ℕ
room_of sink = sink.room
