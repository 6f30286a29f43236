-- The text of a load is read without a fault.
use Rattle.std.proofs.Common.{◌≡◌, ℕ, ◌+◌, ◌*◌, ◌≤◌, List, [], ◌∷◌, length, refl, subst}
use Rattle.bag_model.specs.Shapes.{Nodes}
use Rattle.bag_model.specs.Tables.{IsTable}
use Rattle.trace_model.specs.Graphs.{Graph}
use Rattle.graph_text.specs.Reading.{IsGraphOf, IsFirstFault, IsGraphRefusalOf}
use Rattle.graph_text.specs.declared.faults.GraphFault.{GraphFault}
use Rattle.graph_text.specs.declared.faults.GraphFault.TheVariants as faults
use Rattle.graph_text.specs.declared.faults.LineFault.{LineFault}
use Rattle.graph_text.specs.declared.faults.LineFault.TheVariants.{Code, Bytes, IllTyped}
use Rattle.load_maker.specs.Loads.{load_table, load_text}
use Rattle.load_maker.proofs.LoadTable.{load_is_table}

module _
    (never_both : (table : Nodes) (text : List ℕ) (graph : Graph) (n : ℕ) (f : LineFault) → IsTable table → IsGraphOf table text graph → IsFirstFault table text n f → ⊥)
    (accepted : (n : ℕ) → 1 ≤ n → n ≤ 1000 → (graph : Graph) × IsGraphOf load_table (load_text n) graph × (length graph.steps ≡ 42 * n + 1) × (graph.shows ≡ 42 * n ∷ []))
  where
    not_refused : (rounds : ℕ) (fault : GraphFault) → 1 ≤ rounds → rounds ≤ 1000 → IsGraphRefusalOf load_table (load_text rounds) fault → (fault ≡ faults.Memory → ⊥) → ⊥
    not_refused rounds (faults.At line code) some few first other =
        let loaded = accepted rounds some few in
        never_both load_table (load_text rounds) loaded.0 line (Code code) load_is_table loaded.1 first
    not_refused rounds (faults.Bytes line offset code) some few first other =
        let loaded = accepted rounds some few in
        never_both load_table (load_text rounds) loaded.0 line (Bytes offset code) load_is_table loaded.1 first
    not_refused rounds (faults.IllTyped line offset) some few first other =
        let loaded = accepted rounds some few in
        never_both load_table (load_text rounds) loaded.0 line (IllTyped offset) load_is_table loaded.1 first
    not_refused rounds faults.Memory some few first other = other refl

    -- What is answered for such a text is that memory ran out.
    pub load_not_refused : (rounds : ℕ) (table : Nodes) (text : List ℕ) (fault : GraphFault) → 1 ≤ rounds → rounds ≤ 1000 → table ≡ load_table → text ≡ load_text rounds
        → IsGraphRefusalOf table text fault → (fault ≡ faults.Memory → ⊥) → ⊥
    load_not_refused rounds table text fault some few table_is text_is first other =
        not_refused rounds fault some few (subst (λ t. IsGraphRefusalOf t (load_text rounds) fault) table_is (subst (λ s. IsGraphRefusalOf table s fault) text_is first)) other
