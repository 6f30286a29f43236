use Rattle.std.proofs.Common.{rules}
use Rattle.bdl_lexer.proofs.Scans.{word_stands, sign_stands}
use Rattle.bdl_lexer.proofs.scan.scan.Goals as goal

pub returns-then-is_letter-clause-found : goal.returns-then-is_letter-clause-found
returns-then-is_letter-clause-found c =
    word_stands c.args.bytes.now c.word_len.result c.requires (search (rules, c.is_letter.ensures)) c.word_len.ensures

pub returns-then-is_sign-clause-found : goal.returns-then-is_sign-clause-found
returns-then-is_sign-clause-found c = sign_stands c.args.bytes.now c.requires (search (rules, c.is_sign.ensures))
