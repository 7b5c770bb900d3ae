use Rattle.std.proofs.Common.{◌∙◌, ap}
use Rattle.utoipa_base.specs.Docs.{Doc}
use Rattle.utoipa_leaf.specs.declared.path.HttpMethod.{HttpMethod}
use Rattle.utoipa_leaf.specs.declared.path.HttpMethod.TheVariants.{Head, Patch, Trace}
use Rattle.utoipa_path.specs.Builders.{PathItemFields}
use Rattle.utoipa_path.specs.Methods.{operation_at, with_method}
use Rattle.utoipa.specs.Tags.{texts_of, nested_method}
use Rattle.utoipa.proofs.tags.tag_other_methods.Goals as goal

pub returns : goal.returns
returns c =
    let options = c.in_ok-tag_method.ensures in
    let head = c.in_ok-tag_method-2.ensures in
    let patch = c.in_ok-tag_method-3.ensures in
    let trace = c.in_ok-tag_method-4.ensures in
    let with_head = head.2 ∙ ap (with_method Head head.0) options.2 in
    let with_patch = patch.2 ∙ ap (with_method Patch patch.0) with_head in
    let tagged : HttpMethod → PathItemFields → Doc = λ m i. nested_method (texts_of c.args.tags.now.items) c.args.module_path.now (operation_at m i) in (
      options.0,
      head.0,
      patch.0,
      trace.0,
      options.1,
      head.1 ∙ ap (tagged Head) options.2,
      patch.1 ∙ ap (tagged Patch) with_head,
      trace.1 ∙ ap (tagged Trace) with_patch,
      trace.2 ∙ ap (with_method Trace trace.0) with_patch,
    )
