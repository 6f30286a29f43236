-- That tables may be shared between threads.
use denote.Param.Send.{IsSync, sendable}
use Rattle.std.proofs.Crossing.{crosses}
use Rattle.outside.proofs.texts.Text.TheSendSync.{the_sync as text_sync}
use Rattle.scalar_types.proofs.kinds.KindList.TheSendSync.{the_send as kinds_send, the_sync as kinds_sync}
use Rattle.field_table.proofs.shapes.Shape.TheLaws.TheKnot.{crosses as shapes_cross}
use Rattle.field_table.specs.contracts.shapes.Slots.{the_field as slots_field}
use Rattle.field_table.specs.contracts.tables.Table.{the_row as table_row}
use Rattle.recorded_graph.proofs.Crossing.{kind_send, kind_sync}

slots_sync : IsSync slots_field.row
slots_sync = search (sendable, crosses, text_sync, kind_send, kind_sync, kinds_send, kinds_sync, shapes_cross) depth 30

pub table_sync : IsSync table_row
table_sync = search (sendable, slots_sync) depth 30
