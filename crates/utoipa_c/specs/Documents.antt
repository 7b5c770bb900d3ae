-- Texts that are to be lists of documents, for a call that is no command.
use Rattle.std.specs.Prelude.{◌≡◌, ℕ, List}
use Rattle.utoipa_command.specs.Answers.{IsCauseOfText}
use Rattle.utoipa_command.specs.Dropped.{documents_kind}
use Rattle.utoipa_command.specs.declared.refusal.Refusal.{Refusal}
use Rattle.utoipa_c.specs.Codes.{code_of, IsForFirstMisfit}

-- the code is that of a refusal, for which a text that is to be a list of documents gives cause
pub record IsNoList (text : List ℕ) (code : ℕ) : Type 0 where
  pub refusal : Refusal
  pub says : code ≡ code_of refusal
  pub cause : IsCauseOfText documents_kind text refusal
  pub first : IsForFirstMisfit documents_kind text code
