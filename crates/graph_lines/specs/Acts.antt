-- The values of the code as what they stand for.
use Rattle.std.specs.Prelude.{map}
use Rattle.graph_lines.specs.Statements as plain
use Rattle.graph_lines.specs.declared.statements.NamedView.{NamedView}
use Rattle.graph_lines.specs.declared.statements.NamedView.TheVariants.{All, Nothing, Only}
use Rattle.graph_lines.specs.declared.statements.NamedAct.{NamedAct}
use Rattle.graph_lines.specs.declared.statements.NamedAct.TheVariants.{Start, Recv, Set, Branch, Forward, Trim, Join}
use Rattle.graph_lines.specs.declared.statements.Statement.{Statement}
use Rattle.graph_lines.specs.declared.statements.Statement.TheVariants.{Service, Step, Show}

-- The view that the code's stands for.
abbrev pub named_view_of : NamedView → plain.NamedView
named_view_of All = plain.All
named_view_of Nothing = plain.Nothing
named_view_of (Only paths) = plain.Only (map (λ path. path.now) paths.items)

-- The act that the code's stands for.
abbrev pub named_act_of : NamedAct → plain.NamedAct
named_act_of (Start service) = plain.Start service.now
named_act_of (Recv service hex) = plain.Recv service.now hex.now
named_act_of (Set parent path write) = plain.Set parent path.now write.now
named_act_of (Branch parent) = plain.Branch parent
named_act_of (Forward parent service) = plain.Forward parent service.now
named_act_of (Trim parent budget) = plain.Trim parent budget
named_act_of (Join parents) = plain.Join parents.items

-- The statement that the code's stands for.
abbrev pub statement_of : Statement → plain.Statement
statement_of (Service form name view) = plain.Service form name.now (named_view_of view)
statement_of (Step number act) = plain.Step number (named_act_of act)
statement_of (Show step) = plain.Show step
