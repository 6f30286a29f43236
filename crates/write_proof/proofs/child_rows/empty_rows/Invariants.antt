use Rattle.std.proofs.Common.{◌≡◌, ℕ, [], length}
use Rattle.write_proof.specs.ChildRows.{child_row_at}
use Rattle.write_proof.proofs.child_rows.empty_rows.Given as goal

abbrev pub invariant-loop : goal.invariant-loop
invariant-loop l = record {
  as_many : length l.rows.items ≡ l.counter;
  empty : (w : ℕ) → child_row_at l.rows.items w ≡ [];
}
