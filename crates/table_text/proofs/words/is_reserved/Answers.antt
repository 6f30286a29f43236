use Rattle.std.proofs.Common.{sym, ◌∙◌}
use Rattle.table_text.proofs.WordReads.{reserved_else}
use Rattle.table_text.proofs.words.is_reserved.Goals as goal

pub returns-else-is_keyword : goal.returns-else-is_keyword
returns-else-is_keyword c = reserved_else c.args.text.now c.is_scalar_word.result c.is_scalar_word.ensures (sym c.is_keyword.ensures ∙ c.if-is_keyword.false)
