use Rattle.std.proofs.Common.{arith}
use Rattle.std.proofs.lemmas.List.{take_rest}
use Rattle.bdl_lexer.proofs.Scans.{text_stands, string_open}
use Rattle.bdl_lexer.proofs.scan.text.Goals as goal
use Rattle.bdl_lexer.proofs.scan.text.Goals.{else-end-bytes-via-then-end-bytes+else-bytes-end-eq34, else-end-bytes-via-else-end-bytes}

pub returns-then-bytes-end-eq34-clause-found : goal.returns-then-bytes-end-eq34-clause-found
returns-then-bytes-end-eq34-clause-found c =
    text_stands c.args.bytes.now c.text_len-end.result c.requires.some c.requires.quote (rw take_rest at c.text_len-end.ensures) c.if-end-bytes.true c.if-bytes-end-eq34.true

pub returns-else-end-bytes-clause-fault : goal.returns-else-end-bytes-clause-fault
returns-else-end-bytes-clause-fault c =
    string_open c.args.bytes.now c.text_len-end.result c.requires.some c.requires.quote (rw take_rest at c.text_len-end.ensures)
    (λ short close.
    elim c.else-end-bytes.branch [
      | else-end-bytes-via-then-end-bytes+else-bytes-end-eq34 w ↦ w.if-bytes-end-eq34.false close
      | else-end-bytes-via-else-end-bytes w ↦ absurd (omega arith)
    ])
