-- When an operation means the same where it stands in its own document and in the merged one.
use Rattle.std.specs.Prelude.{IsTrue}
use Rattle.utoipa_meaning.specs.Changes.{same_security, same_servers, same_parameters}
use Rattle.utoipa_meaning.specs.Operations.{Standing}

pub record MeansTheSame (s t : Standing) : Type 0 where
  pub security : IsTrue (same_security s t)
  pub servers : IsTrue (same_servers s t)
  pub parameters : IsTrue (same_parameters s t)
