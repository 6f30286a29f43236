-- The load of a given number of rounds: its table, and the lines of its graph.
use Rattle.std.specs.Prelude.{ℕ, zero, suc, ◌+◌, ◌-◌, ◌*◌, ◌%◌, List, [], ◌∷◌, ◌++◌, codes}
use Rattle.std.specs.Fmt.{decimal}
use Rattle.std.specs.List.{flat_map, join_with_byte}
use Rattle.context_model.specs.declared.Form.TheVariants.{One}
use Rattle.bag_model.specs.declared.Pick.TheVariants.{Least}
use Rattle.bag_model.specs.declared.words.ScalarWord.TheVariants.{Uint32, Fixed32}
use Rattle.bag_model.specs.Scalars as scalars
use Rattle.bag_model.specs.Shapes.{Nodes, Scalar, Set, Counter, no_node, node}
use Rattle.graph_lines.specs.Statements.{Statement, All, Nothing, Start, Set as Write, Branch, Forward, Join, Service, Step, Show}
use Rattle.graph_lines.specs.Forms.{statement_words}

-- The table of `bag Load { fixed32 least = 0; counter hits = 1; set<uint32> seen = 2; }`.
abbrev pub load_table : Nodes
load_table =
    node (codes "least") 0 (Scalar Least (scalars.ScalarKind.One Fixed32))
    (node (codes "hits") 1 Counter
    (node (codes "seen") 2 (Set (scalars.ScalarKind.One Uint32)) no_node))

-- The write to `hits`: the writer is the letter w and the lane's digit, and its count is one more
-- than the round's number.
abbrev pub hit : ℕ → ℕ → List ℕ
hit round lane = codes "\"w" ++ decimal lane ++ codes "\":" ++ decimal (round + 1)

-- A lane of a round: a branch of the round's first step writes to each field, and goes to the
-- service `b`.
abbrev pub lane_of : ℕ → ℕ → List Statement
lane_of round lane =
    let c = 42 * round in
    let k = c + 5 * lane in
    Step (k + 1) (Branch c)
    ∷ Step (k + 2) (Write (k + 1) (codes "least") (decimal (1000000 - 8 * round - lane)))
    ∷ Step (k + 3) (Write (k + 2) (codes "hits") (hit round lane))
    ∷ Step (k + 4) (Write (k + 3) (codes "seen") (decimal ((8 * round + lane) % 256)))
    ∷ Step (k + 5) (Forward (k + 4) (codes "b"))
    ∷ []

-- The first n parts, one after another.
unfoldable pub in_order : (ℕ → List Statement) → ℕ → List Statement
in_order part zero = []
in_order part (suc n) = in_order part n ++ part n

-- The last steps of the eight lanes of a round that begins at step c.
abbrev pub lane_ends : ℕ → List ℕ
lane_ends c =
    (c + 5) ∷ (c + 10) ∷ (c + 15) ∷ (c + 20) ∷ (c + 25) ∷ (c + 30) ∷ (c + 35) ∷ (c + 40) ∷ []

-- The join of these steps.
abbrev pub join_of : ℕ → Statement
join_of c = Step (c + 41) (Join (lane_ends c))

-- The end of a round: its lanes are joined, and what they say goes to the service `a`.
abbrev pub end_of : ℕ → List Statement
end_of round = let c = 42 * round in join_of c ∷ Step (c + 42) (Forward (c + 41) (codes "a")) ∷ []

-- A round: eight lanes, and its end.
abbrev pub round_of : ℕ → List Statement
round_of round = in_order (lane_of round) 8 ++ end_of round

-- The lines before the first round: two services that write in form one, of which the first knows
-- all and the second nothing, and a start.
abbrev pub opening : List Statement
opening =
    Service One (codes "a") All ∷ Service One (codes "b") Nothing ∷ Step 0 (Start (codes "a")) ∷ []

-- What the lines of a load of `rounds` rounds say: the rounds, and that the last step is shown.
abbrev pub load_lines : ℕ → List Statement
load_lines rounds = opening ++ in_order round_of rounds ++ Show (42 * rounds) ∷ []

-- The line of a statement: its words with one space between two of them, and a line feed.
abbrev pub statement_line : Statement → List ℕ
statement_line statement = join_with_byte 32 (statement_words statement) ++ 10 ∷ []

-- The lines of statements.
unfoldable pub statements_text : List Statement → List ℕ
statements_text statements = flat_map statement_line statements

-- The text of the load.
abbrev pub load_text : ℕ → List ℕ
load_text rounds = statements_text (load_lines rounds)
