-- How a refusal is delivered.
use Rattle.std.proofs.Common.{inl, inr, ℕ, List, Some, Err, refl}
use Rattle.bdl_load.specs.Loading.{Holding}
use Rattle.command_line.specs.Commands.{Task}
use Rattle.baggage_cli.specs.declared.refusals.Notice.TheVariants.{Memory}
use Rattle.baggage_cli.specs.declared.refusals.Refusal.{Refusal}
use Rattle.baggage_cli.specs.declared.refusals.Refusal.TheVariants.{Input, Definition, Table, Plain}
use Rattle.baggage_cli.specs.Delivery.{Refuses}
use Rattle.baggage_cli.specs.Plans.{Plan, of_nothing, of_input, of_table, under_table, of_tables, under_both, plan, PlanComes}
use Rattle.baggage_cli.specs.Scene.{Change, since, Scene, IsSame}
use Rattle.baggage_cli.specs.Top.{Comes, Answers}
use Rattle.baggage_cli.proofs.Obtained.{obtains_memory, brings_memory}

-- Where a plan may come to a refusal, memory may also run out.
memory_instead : (way : Plan) (library : Change Holding) (requests : Change (List (List ℕ))) (source : Change (List ℕ)) (refusal : Refusal)
    → PlanComes way library requests source (Err refusal) → PlanComes way library requests source (Err (Plain Memory))
memory_instead (of_input gives) library requests source refusal (same, unasked, (counts, why)) = (same, unasked, (counts, inl refl))
memory_instead (of_nothing made) library requests source refusal (same, unasked, unread, gave) = (same, unasked, unread, inl refl)
memory_instead (of_table origin text) library requests source refusal (same, inl (other, obtains, begun, is)) =
    (same, inl (Plain Memory, obtains_memory origin library requests other obtains, tt, refl))
memory_instead (of_table origin text) library requests source refusal (same, inr (table, obtains, built)) = (same, inr (table, obtains, inl refl))
memory_instead (under_table origin gives) library requests source refusal (inl (other, obtains, same, is)) =
    inl (Plain Memory, obtains_memory origin library requests other obtains, same, refl)
memory_instead (under_table origin gives) library requests source refusal (inr (table, obtains, (counts, why))) = inr (table, obtains, (counts, inl refl))
memory_instead (of_tables old new gives) library requests source refusal (same, inl (other, obtains, begun, is)) =
    (same, inl (Plain Memory, obtains_memory old library requests other obtains, tt, refl))
memory_instead (of_tables old new gives) library requests source refusal (same, inr (half, before, taken, inl (other, obtains, begun, is))) =
    (same, inr (half, before, taken, inl (Plain Memory, obtains_memory new (since half.files half.faults library) (since half.asked half.faults requests) other obtains, tt, refl)))
memory_instead (of_tables old new gives) library requests source refusal (same, inr (half, before, taken, inr (after, obtains, compared))) =
    (same, inr (half, before, taken, inr (after, obtains, inl refl)))
memory_instead (under_both origin file gives) library requests source refusal (inl (other, obtains, same, is)) =
    inl (Plain Memory, obtains_memory origin library requests other obtains, same, refl)
memory_instead (under_both origin file gives) library requests source refusal (inr (half, table, taken, inl (other, brings, same, is))) =
    inr (half, table, taken, inl (Plain Memory, brings_memory file (since half.files half.faults library) (since half.asked half.faults requests) other brings, same, refl))
memory_instead (under_both origin file gives) library requests source refusal (inr (half, table, taken, inr (certificate, brings, (counts, why)))) =
    inr (half, table, taken, inr (certificate, brings, (counts, inl refl)))

-- A refusal that is said answers the call.
pub refused : (task : Task) (scene : Scene) (refusal : Refusal) (answer : ℕ) → Comes task scene.library scene.requests scene.source (Err refusal)
    → IsSame scene.out → Refuses refusal scene.errs answer → Answers (Some task) scene answer
refused task scene (Plain notice) answer comes same told = (Err (Plain notice), comes, (same, told))
refused task scene (Input line fault) answer comes same (inl told) = (Err (Input line fault), comes, (same, told))
refused task scene (Input line fault) answer comes same (inr wanting) =
    (Err (Plain Memory), memory_instead (plan task) scene.library scene.requests scene.source (Input line fault) comes, (same, wanting))
refused task scene (Definition file line column code) answer comes same (inl told) = (Err (Definition file line column code), comes, (same, told))
refused task scene (Definition file line column code) answer comes same (inr wanting) =
    (Err (Plain Memory), memory_instead (plan task) scene.library scene.requests scene.source (Definition file line column code) comes, (same, wanting))
refused task scene (Table file line code) answer comes same (inl told) = (Err (Table file line code), comes, (same, told))
refused task scene (Table file line code) answer comes same (inr wanting) =
    (Err (Plain Memory), memory_instead (plan task) scene.library scene.requests scene.source (Table file line code) comes, (same, wanting))
