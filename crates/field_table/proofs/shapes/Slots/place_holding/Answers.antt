use Rattle.std.proofs.Common.{rules, of_calls, ◌≡◌, ℕ, ◌≤◌, List, length, true, false, sym, ◌∙◌, subst, arith}
use Rattle.std.proofs.Math.Dec.{leb}
use Rattle.std.proofs.lemmas.Fn.{always_returns_same}
use Rattle.std.specs.List.Sorted.{IsPartitionedBy, IsPartitionPoint}
use Rattle.bag_model.specs.Shapes.{fields}
use Rattle.field_table.specs.Tables.{ends_after}
use Rattle.field_table.specs.Plain.{nodes_of}
use Rattle.field_table.proofs.Ends.{ends_part, point_holds, length-ends}
use Rattle.field_table.proofs.Opened.{has_indexes}
use Rattle.field_table.proofs.shapes.Slots.place_holding.Goals as goal

pub returns : goal.returns
returns c =
    let s = c.args.self.now in
    let nodes = nodes_of s in
    let slot = c.args.slot in
    let same : c.deref.result.now ≡ ends_after 0 (fields nodes) = c.deref.ensures.value ∙ (has_indexes s c.requires.ready.indexed).ends in
    let small = c.requires.ready.small in
    let point : IsPartitionPoint (λ e. leb e slot ≡ true) (λ e. leb e slot ≡ false) (ends_after 0 (fields nodes)) c.partition_point.result =
    subst (λ (l : List ℕ). IsPartitionPoint (λ e. leb e slot ≡ true) (λ e. leb e slot ≡ false) l c.partition_point.result) same
    (c.partition_point.ensures.partitioned (λ e. leb e slot) (always_returns_same _ _ _ (λ a r f k. search (rules, of_calls)))
    (subst (λ (l : List ℕ). IsPartitionedBy (λ e. leb e slot) l) (sym same) (ends_part nodes small slot)))
    in
    let bound : c.partition_point.result ≤ length (ends_after 0 (fields nodes)) = subst (λ (l : List ℕ). c.partition_point.result ≤ length l) same c.partition_point.ensures.bound in
    point_holds nodes small slot c.partition_point.result c.requires.slot (omega (arith, bound, length-ends 0 (fields nodes))) point
