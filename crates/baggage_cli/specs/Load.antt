-- What a load comes to.
use Rattle.std.specs.Prelude.{◌≡◌, ℕ, ◌+◌, ◌*◌, List, ◌++◌, codes}
use Rattle.std.specs.Fmt.{decimal}
use Rattle.trace_model.specs.Graphs.{Graph}
use Rattle.graph_text.specs.Reading.{IsGraphOf}
use Rattle.load_maker.specs.Loads.{load_table, load_text}
use Rattle.baggage_cli.specs.Outcomes.{Outcome, Makes}
use Rattle.baggage_cli.specs.Run.{as_lines, IsRunReport}

-- The lines before the report: how many rounds there are, and how many steps.
abbrev pub load_heading : ℕ → List ℕ
load_heading rounds =
    codes "load " ++ decimal rounds ++ codes "\nsteps " ++ decimal (42 * rounds + 1) ++ codes "\n"

-- The output is these lines, and the report of the graph that the load's text says, run under the
-- load's table.
abbrev pub IsLoadOutput : ℕ → List ℕ → Type 0
IsLoadOutput rounds output =
    (graph : Graph) × (report : List ℕ) × IsGraphOf load_table (load_text rounds) graph
    × IsRunReport as_lines load_table graph report × (output ≡ load_heading rounds ++ report)

-- The load is run, or memory runs out for it.
abbrev pub LoadGives : ℕ → Outcome → Type 0
LoadGives rounds = Makes (IsLoadOutput rounds)
