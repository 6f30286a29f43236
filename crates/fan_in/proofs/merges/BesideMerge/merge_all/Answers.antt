use Rattle.fan_in.proofs.merges.BesideMerge.merge_all.Goals as goal

pub merge_all-requires-sync-R : goal.merge_all-requires-sync-R
merge_all-requires-sync-R g c κs within = c.requires.ready
