-- That values, acts and steps may be sent to a thread and shared between threads: each of their parts may be.
use denote.Param.Send.{IsSend, IsSync, sendable}
use denote.Param.SendFields.{variants_send, variants_sync, declared_send, declared_sync, as_row_send, as_row_sync}
use Rattle.std.proofs.Crossing.{crosses}
use Rattle.std.proofs.option.Option.TheSendSync.{the_send as option_send, the_sync as option_sync}
use Rattle.outside.proofs.texts.Text.TheSendSync.{the_send as text_send, the_sync as text_sync}
use Rattle.outside.proofs.texts.Octets.TheSendSync.{the_send as octets_send, the_sync as octets_sync}
use Rattle.scalar_types.proofs.scalars.ScalarList.TheLaws.TheKnot.{crosses as scalars_cross}
use Rattle.scalar_types.proofs.kinds.KindList.TheSendSync.{the_send as kinds_send, the_sync as kinds_sync}
use Rattle.scalar_types.specs.contracts.kinds.KindList.{the_field as kinds_field}
use Rattle.scalar_types.specs.contracts.kinds.ScalarKind.{enum as kind_enum, the_row as kind_row}
use Rattle.set_map_types.proofs.set_of.SetOf.TheSendSync.{the_send as set_send, the_sync as set_sync}
use Rattle.counter_type.proofs.counts.Counts.TheSendSync.{the_send as counts_send, the_sync as counts_sync}
use Rattle.bag_value.proofs.lists.Entries.TheLaws.TheKnot.{crosses as values_cross}
use Rattle.bag_value.specs.contracts.vals.Val.{the_field as val_field}
use Rattle.atom_list.specs.contracts.contexts.Context.{the_field as context_field}
use Rattle.atom_list.proofs.contexts.Context.TheSendSync.{the_send as context_send, the_sync as context_sync}
use Rattle.recorded_graph.specs.contracts.places.Places.{the_field as places_field}
use Rattle.recorded_graph.proofs.places.Places.TheSendSync.{the_send as places_send, the_sync as places_sync}
use Rattle.recorded_graph.specs.contracts.steps.Act.{enum, the_row}
use Rattle.recorded_graph.specs.contracts.steps.Step.{the_row as step_row, the_type as step_type}
use Rattle.recorded_graph.proofs.steps.Service.TheSendSync.{the_send as service_send, the_sync as service_sync}

-- A kind is words, and so may be sent and shared.
pub kind_send : IsSend kind_row
kind_send = variants_send kind_enum ((search sendable depth 20, tt), ((as_row_send kinds_field kinds_send, tt), tt))

pub kind_sync : IsSync kind_row
kind_sync = variants_sync kind_enum ((search sendable depth 20, tt), ((as_row_sync kinds_field kinds_sync, tt), tt))

ruleset parts = (kind_send, kind_sync, crosses, option_send, option_sync, text_send, text_sync, octets_send, octets_sync, scalars_cross, kinds_send, kinds_sync, set_send, set_sync, counts_send, counts_sync, values_cross)

val_send : IsSend val_field.row
val_send = search (sendable, parts) depth 30

val_sync : IsSync val_field.row
val_sync = search (sendable, parts) depth 30

pub act_send : IsSend the_row
act_send = variants_send enum (tt, ((as_row_send context_field context_send, tt), ((search sendable depth 20, (search sendable depth 20, (as_row_send val_field val_send, tt))), ((search sendable depth 20, tt), ((search sendable depth 20, tt), ((search sendable depth 20, (search sendable depth 20, tt)), ((as_row_send places_field places_send, tt), tt)))))))

pub act_sync : IsSync the_row
act_sync = variants_sync enum (tt, ((as_row_sync context_field context_sync, tt), ((search sendable depth 20, (search sendable depth 20, (as_row_sync val_field val_sync, tt))), ((search sendable depth 20, tt), ((search sendable depth 20, tt), ((search sendable depth 20, (search sendable depth 20, tt)), ((as_row_sync places_field places_sync, tt), tt)))))))

pub step_send : IsSend step_row
step_send = declared_send step_type (search sendable depth 20, (act_send, tt))

pub step_sync : IsSync step_row
step_sync = declared_sync step_type (search sendable depth 20, (act_sync, tt))

pub ruleset steps_cross = (act_send, act_sync, step_send, step_sync, service_send, service_sync)
