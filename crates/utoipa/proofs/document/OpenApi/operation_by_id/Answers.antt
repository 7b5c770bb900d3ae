use Rattle.utoipa_path.specs.Operations.{keyed}
use Rattle.utoipa.proofs.FirstOperation.{path_found, path_passed}
use Rattle.utoipa.proofs.document.OpenApi.operation_by_id.Goals as goal

pub returns-in-Some-operation_by_id : goal.returns-in-Some-operation_by_id
returns-in-Some-operation_by_id c =
    path_found c.args.operation_id.now _ _ _ _ _ c.loop-path.invariant c.in-Some.ensures.steps (keyed c.in-Some-operation_by_id.found) _ _ c.in-Some-operation_by_id.ensures c.as_str.ensures.value c.at_path.ensures

pub loop-path-preserved : goal.loop-path-preserved
loop-path-preserved c = path_passed c.args.operation_id.now _ _ _ _ _ c.loop-path.invariant c.in-Some.ensures.steps c.in_default.ensures
