use Rattle.std.proofs.Common.{refl, ap, ◌∙◌}
use Rattle.serde_json.specs.Data.{put}
use Rattle.utoipa_base.specs.Views.{shown_members}
use Rattle.utoipa_base.specs.Writing.{write}
use Rattle.utoipa_base.proofs.OrderedMaps.{put_begun, put_step, put_all, shown-insert}
use Rattle.utoipa_base.proofs.ordered_map.sorted_by_name.Goals as goal

pub loop-key-init : goal.loop-key-init
loop-key-init g c = put_begun _ _ _ _ (c.into_iter-key-iterator.ensures.into_iter_gives ∙ c.iter-key-items.ensures.rest) (ap (shown_members g.T.Documented.doc) c.new-sorted.ensures.empty)

pub loop-key-preserved : goal.loop-key-preserved
loop-key-preserved g c =
    let f = g.T.Documented.doc in
    put_step f _ _ _ _ _ _ (write (f c.in-Some.member.now)) c.loop-key.invariant c.in-Some.ensures.steps refl
    (ap (shown_members f) c.in_ok-insert.ensures.entries ∙ shown-insert f _ (λ a b. refl) c.loop-key.sorted.entries c.as_str.result c.in-Some.member
    ∙ ap (λ name. put name (write (f c.in-Some.member.now)) (shown_members f c.loop-key.sorted.entries)) c.as_str.ensures.value)

pub returns : goal.returns
returns g c = put_all _ _ _ _ c.loop-key.invariant c.in-None.ensures.steps.0
