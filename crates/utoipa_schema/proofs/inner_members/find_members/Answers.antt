use Rattle.std.proofs.Common.{◌≡◌, Some, sym, ap, ◌∙◌, rules}
use Rattle.serde_json.specs.Find.{as_object}
use Rattle.serde_json.specs.View.{view, members_view}
use Rattle.utoipa_schema.specs.Places.{data_of}
use Rattle.utoipa_schema.proofs.Noting.{noted_all, none_noted, noted_as_found}
use Rattle.utoipa_schema.proofs.inner_members.find_members.Goals as goal

pub loop-name-preserved : goal.loop-name-preserved
loop-name-preserved c =
    let l = c.loop-name in
    ap (noted_all (members_view c.next.new.self)) c.note.ensures ∙ sym (ap (λ es. noted_all (members_view es) (data_of l.members)) c.in-Some-2.ensures.steps) ∙ l.invariant

pub returns-in-None : goal.returns-in-None
returns-in-None c =
    let l = c.loop-name in
    let map = c.in-Some.map.now in
    let is : Some (members_view map.entries) ≡ as_object (view c.args.tree.now) = search rules in
    let all : c.into_iter-name-iterator.result ≡ map.entries = c.into_iter-name-iterator.ensures.into_iter_gives ∙ c.iter-name-items.ensures.rest in
    ap (λ es. noted_all (members_view es) (data_of l.members)) (sym c.in-None.ensures.steps.0) ∙ l.invariant ∙ ap (λ es. noted_all (members_view es) none_noted) all
    ∙ noted_as_found (view c.args.tree.now) map.entries is c.iter-name-items.ensures.ordered
