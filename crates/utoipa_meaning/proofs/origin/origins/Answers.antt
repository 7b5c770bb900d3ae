use Rattle.utoipa_meaning.specs.Operations.{first_with}
use Rattle.utoipa_meaning.specs.Views.{noted, all_operations, trees_of}
use Rattle.utoipa_meaning.proofs.Origins.{next_document, all_documents}
use Rattle.utoipa_meaning.proofs.origin.origins.Goals as goal

pub loop-number-preserved : goal.loop-number-preserved
loop-number-preserved c = λ p.
    next_document c.args.documents.now c.loop-number.number c.index-documents-number.result (all_operations c.in_ok-found.found.items) (noted c.loop-number.origins p) (noted c.note_all.new.origins p)
    (first_with p 0 (trees_of c.args.documents.now)) p c.loop-number-test.true c.index-documents-number.is c.in_ok-found.ensures (c.in_ok-note_all.ensures p) (c.loop-number.invariant p)

pub returns : goal.returns
returns c = λ p.
    all_documents c.args.documents.now c.loop-number.number (noted c.loop-number.origins p) (first_with p 0 (trees_of c.args.documents.now)) p c.loop-number-test.false (c.loop-number.invariant p)
