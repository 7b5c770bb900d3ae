use Rattle.std.proofs.Common.{◌∙◌, ap}
use Rattle.utoipa_base.specs.Docs.{Doc}
use Rattle.utoipa_leaf.specs.declared.path.HttpMethod.{HttpMethod}
use Rattle.utoipa_leaf.specs.declared.path.HttpMethod.TheVariants.{Put, Post, Delete}
use Rattle.utoipa_path.specs.Builders.{PathItemFields}
use Rattle.utoipa_path.specs.Methods.{operation_at, with_method}
use Rattle.utoipa.specs.Tags.{texts_of, nested_method}
use Rattle.utoipa.proofs.tags.tag_main_methods.Goals as goal

pub returns : goal.returns
returns c =
    let get = c.in_ok-tag_method.ensures in
    let put = c.in_ok-tag_method-2.ensures in
    let post = c.in_ok-tag_method-3.ensures in
    let delete = c.in_ok-tag_method-4.ensures in
    let with_put = put.2 ∙ ap (with_method Put put.0) get.2 in
    let with_post = post.2 ∙ ap (with_method Post post.0) with_put in
    let tagged : HttpMethod → PathItemFields → Doc = λ m i. nested_method (texts_of c.args.tags.now.items) c.args.module_path.now (operation_at m i) in (
      get.0,
      put.0,
      post.0,
      delete.0,
      get.1,
      put.1 ∙ ap (tagged Put) get.2,
      post.1 ∙ ap (tagged Post) with_put,
      delete.1 ∙ ap (tagged Delete) with_post,
      delete.2 ∙ ap (with_method Delete delete.0) with_post,
    )
