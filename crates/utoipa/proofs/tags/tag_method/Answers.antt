use Rattle.std.proofs.Common.{◌∙◌, Some, None, sym, ap}
use Rattle.utoipa_base.specs.Docs.{some_doc}
use Rattle.utoipa_path.specs.Methods.{with_method}
use Rattle.utoipa_path.specs.declared.types.PathItem.{out-PathItem}
use Rattle.utoipa.specs.Tags.{texts_of, nested_method}
use Rattle.utoipa.proofs.FurtherTags.{set_again}
use Rattle.utoipa.proofs.tags.tag_method.Goals as goal

pub returns-in_ok-tag_operation : goal.returns-in_ok-tag_operation
returns-in_ok-tag_operation c =
    let method = c.args.method in
    let tagged = c.tag_operation.new.operation in
    let stood = sym c.replace_operation.ensures.before ∙ c.in-Some.is in (
      Some tagged,
      ap some_doc c.in_ok-tag_operation.ensures ∙ sym (ap (nested_method (texts_of c.args.tags.now.items) c.args.module_path.now) stood),
      c.replace_operation-in-Some.ensures.after ∙ ap (with_method method (Some tagged)) c.replace_operation.ensures.after ∙ set_again method (Some tagged) None (out-PathItem c.args.item.now),
    )
