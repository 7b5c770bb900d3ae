use Rattle.std.proofs.Common.{◌≡◌, true, sym, subst}
use Rattle.utoipa_command.specs.Dropped.{documents_kind}
use Rattle.utoipa_c.specs.Codes.{IsForFirstMisfit}
use Rattle.utoipa_c.specs.Causes.{is_of_misfit, IsToldFirst}
use Rattle.utoipa_c.proofs.FirstMisfits.{text_cause, text_first}
use Rattle.utoipa_c.proofs.code_of_list.Goals as goal

pub returns-clause-refused : goal.returns-clause-refused
returns-clause-refused c cause =
    let text = c.args.text.now in
    let told = subst (λ k. is_of_misfit c.args.refusal ≡ true → IsToldFirst k text c.args.refusal c.told.result) c.list_kind.ensures c.told.ensures.misfit in
    record {
      refusal = c.told.result;
      says = c.code.ensures.code;
      cause = text_cause documents_kind text c.args.refusal c.told.result c.told.ensures.other told cause;
      first = subst (IsForFirstMisfit documents_kind text) (sym c.code.ensures.code) (text_first documents_kind text c.args.refusal c.told.result c.told.ensures.other told cause);
    }
