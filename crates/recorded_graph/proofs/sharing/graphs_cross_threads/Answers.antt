use denote.Param.Send.{sendable}
use Rattle.std.proofs.Crossing.{crosses}
use Rattle.recorded_graph.proofs.Crossing.{steps_cross}
use Rattle.recorded_graph.proofs.sharing.graphs_cross_threads.Goals as goal

pub crosses_threads-requires-4-send-T : goal.crosses_threads-requires-4-send-T
crosses_threads-requires-4-send-T c κs = search (sendable, crosses, steps_cross) depth 20

pub crosses_threads-requires-4-sync-T : goal.crosses_threads-requires-4-sync-T
crosses_threads-requires-4-sync-T c κs = search (sendable, crosses, steps_cross) depth 20

pub crosses_threads-requires-3-send-T : goal.crosses_threads-requires-3-send-T
crosses_threads-requires-3-send-T c κs = search (sendable, crosses, steps_cross) depth 20

pub crosses_threads-requires-3-sync-T : goal.crosses_threads-requires-3-sync-T
crosses_threads-requires-3-sync-T c κs = search (sendable, crosses, steps_cross) depth 20

pub crosses_threads-requires-send-T : goal.crosses_threads-requires-send-T
crosses_threads-requires-send-T c κs = search (sendable, crosses, steps_cross) depth 20

pub crosses_threads-requires-sync-T : goal.crosses_threads-requires-sync-T
crosses_threads-requires-sync-T c κs = search (sendable, crosses, steps_cross) depth 20
