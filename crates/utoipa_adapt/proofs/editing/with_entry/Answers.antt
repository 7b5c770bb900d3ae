use Rattle.std.proofs.Common.{◌∙◌, ap}
use Rattle.serde_json.specs.Data.{put}
use Rattle.serde_json.specs.View.{view, members_view}
use Rattle.serde_json.proofs.Views.{members_view-insert_entry}
use Rattle.utoipa_adapt.proofs.editing.with_entry.Goals as goal

pub returns : goal.returns
returns c =
    let before = c.args.members.entries in
    ap members_view c.in_ok-insert.ensures.entries ∙ members_view-insert_entry before c.in_ok-from_str.field-0 c.args.value
    ∙ ap (λ n. put n (view c.args.value) (members_view before)) c.in_ok-from_str.ensures.ok
