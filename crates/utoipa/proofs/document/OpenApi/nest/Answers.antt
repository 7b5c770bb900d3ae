use Rattle.std.proofs.Common.{subst, rules}
use Rattle.std.proofs.lemmas.Result.{IfOk-weaker}
use Rattle.std.specs.Map.{keys_of}
use Rattle.utoipa_merging.specs.Nested.{IsNested}
use Rattle.utoipa_merging.specs.Slots.{entries_in, paths_of}
use Rattle.utoipa.specs.OpenApi.{openapi_doc}
use Rattle.utoipa.proofs.Mounted.{answered_behind}
use Rattle.utoipa.proofs.document.OpenApi.nest.Goals as goal

pub returns-in_default-2-clause-ok : goal.returns-in_default-2-clause-ok
returns-in_default-2-clause-ok c =
    IfOk-weaker c.nest_with_path_composer.result _ _
    (λ nested h. subst (λ answers. IsNested answers (openapi_doc c.args.self) (openapi_doc c.args.other) (openapi_doc nested))
    (answered_behind _ _ c.args.base.now (λ path answer may. let met = may.1.says.met in let first = may.1.shows.0 in let second = may.1.shows.1 in let is = may.2 in search rules) (keys_of (entries_in (paths_of (openapi_doc c.args.other)))) h.0 h.1) h.2)
    c.nest_with_path_composer.ensures.ok
