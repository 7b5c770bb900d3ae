use Rattle.std.proofs.Common.{refl}
use Rattle.utoipa_meaning.proofs.laws.servers_examples.Goals as goal

pub returns-clause-operation : goal.returns-clause-operation
returns-clause-operation c = refl

pub returns-clause-item : goal.returns-clause-item
returns-clause-item c = refl

pub returns-clause-document : goal.returns-clause-document
returns-clause-document c = refl

pub returns-clause-default : goal.returns-clause-default
returns-clause-default c = refl

pub returns-clause-empty_document : goal.returns-clause-empty_document
returns-clause-empty_document c = refl

pub returns-clause-empty_operation : goal.returns-clause-empty_operation
returns-clause-empty_operation c = refl
