use Rattle.std.proofs.Common.{◌≡◌, take, map}
use Rattle.utoipa_base.specs.Writing.{write}
use Rattle.utoipa_conflicts.specs.Deciders.{trees_of}
use Rattle.utoipa_conflicts.proofs.told.trees_of_documents.Given as goal

abbrev pub invariant-loop-document : goal.invariant-loop-document
invariant-loop-document g l = trees_of l.trees.items ≡ map (λ d. write (g.T.Documented.doc d)) (take l.document-index l.documents)
