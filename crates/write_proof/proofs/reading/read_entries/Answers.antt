use Rattle.std.proofs.Common.{[], ◌∷◌, map, sym, ap, ◌∙◌, subst, length-append, arith}
use Rattle.std.proofs.lemmas.List.{map-append}
use Rattle.write_proof.specs.LineRules.{IsGoodEntry}
use Rattle.write_proof.specs.Views.{entry_of}
use Rattle.write_proof.proofs.LineByLine.{HasSaid, said_more}
use Rattle.write_proof.proofs.reading.read_entries.Goals as goal

pub loop-line-preserved : goal.loop-line-preserved
loop-line-preserved c =
    let table = c.args.table.now in
    let graph = c.args.graph.now in
    let entries = c.loop-line.entries.items in
    let entry = c.in-Ok.entry in
    let grown = c.in_ok-push-in-Ok.ensures.items in
    record {
      said =
          subst (HasSaid table graph c.args.certificate.now c.in-Some.behind.now) (sym (ap (map entry_of) grown ∙ map-append entry_of entries (entry ∷ [])))
          (said_more table graph c.args.certificate.now c.loop-line.rest.now c.in-Some.line.now c.in-Some.behind.now (map entry_of entries) (entry_of entry) c.loop-line.invariant.said c.in-Some.ensures.lines
          (subst (λ earlier. IsGoodEntry table graph (map entry_of earlier) c.in-Some.line.now (entry_of entry)) c.as_slice.ensures.value c.in-Ok.ensures.ok));
      few = omega (arith, grown, length-append entries (entry ∷ []), c.loop-line.invariant.few, c.in-Some.ensures.shorter);
    }
