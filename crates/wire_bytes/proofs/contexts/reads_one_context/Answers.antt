use Rattle.context_model.proofs.ContextFronts.{has_one_context}
use Rattle.wire_bytes.proofs.contexts.reads_one_context.Goals as goal

pub returns : goal.returns
returns c = has_one_context
