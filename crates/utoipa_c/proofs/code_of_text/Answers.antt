use Rattle.std.proofs.Common.{◌≡◌, true, sym, subst}
use Rattle.utoipa_command.specs.Answers.{input_kind}
use Rattle.utoipa_command.specs.Commands.{request_of}
use Rattle.utoipa_c.specs.Codes.{IsForFirstMisfit}
use Rattle.utoipa_c.specs.Causes.{is_of_misfit, IsToldFirst}
use Rattle.utoipa_c.proofs.FirstMisfits.{command_cause, command_first}
use Rattle.utoipa_c.proofs.code_of_text.Goals as goal

pub returns-clause-refused : goal.returns-clause-refused
returns-clause-refused c cause =
    let r = request_of c.args.command in
    let text = c.args.text.now in
    let told = subst (λ k. is_of_misfit c.args.refusal ≡ true → IsToldFirst k text c.args.refusal c.told.result) c.input_kind.ensures c.told.ensures.misfit in
    record {
      refusal = c.told.result;
      says = c.code.ensures.code;
      cause = command_cause r text c.args.refusal c.told.result c.told.ensures.other told cause;
      first = subst (IsForFirstMisfit (input_kind r) text) (sym c.code.ensures.code) (command_first r text c.args.refusal c.told.result c.told.ensures.other told cause);
    }
