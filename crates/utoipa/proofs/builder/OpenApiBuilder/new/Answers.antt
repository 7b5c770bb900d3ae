use Rattle.std.proofs.Common.{sym, subst}
use Rattle.utoipa_leaf.specs.declared.info.Info.{Info}
use Rattle.utoipa_paths.specs.Paths.{IsEmptyPaths}
use Rattle.utoipa_paths.specs.declared.paths.Paths.{Paths}
use Rattle.utoipa.specs.OpenApi.{IsEmptyInfo, IsOpenApiOf, IsEmptyOpenApi}
use Rattle.utoipa.specs.declared.document.OpenApi.{OpenApi}
use Rattle.utoipa.proofs.NothingAdded.{adds_nothing}
use Rattle.utoipa.proofs.builder.OpenApiBuilder.new.Goals as goal

empty_of : (info : Info) (paths : Paths) (d : OpenApi) → IsOpenApiOf info paths d → IsEmptyInfo info → IsEmptyPaths paths → IsEmptyOpenApi d
empty_of info paths d (i, p, rest) no_info no_paths = (subst IsEmptyInfo (sym i) no_info, subst IsEmptyPaths (sym p) no_paths, rest)

pub returns-clause-empty : goal.returns-clause-empty
returns-clause-empty c =
    empty_of c.new-info.result c.new-3.result c.new-4.result c.new-4.ensures
    (c.new.result, c.new-2.result, c.new.ensures.bytes, c.new-2.ensures.bytes, c.new-info.ensures) c.new-3.ensures

pub returns-clause-adds_nothing : goal.returns-clause-adds_nothing
returns-clause-adds_nothing c = adds_nothing c.new-4.result (returns-clause-empty c)
