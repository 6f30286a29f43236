use Rattle.std.proofs.Common.{arith}
use Rattle.std.proofs.lemmas.List.{take_rest}
use Rattle.bdl_lexer.proofs.Scans.{line_comment_stands, block_comment_stands}
use Rattle.bdl_lexer.proofs.scan.comment.Goals as goal

pub returns-then-bytes-eq47-clause-found : goal.returns-then-bytes-eq47-clause-found
returns-then-bytes-eq47-clause-found c =
    line_comment_stands c.args.bytes.now c.line_len.result (omega arith) c.requires.slash c.if-bytes-eq47.true (rw take_rest at c.line_len.ensures)

pub returns-in-Some-clause-found : goal.returns-in-Some-clause-found
returns-in-Some-clause-found c =
    block_comment_stands c.args.bytes.now c.in-Some.at (omega arith) c.requires.slash c.if-bytes-ne42.false (rw take_rest at c.in-Some.ensures)
