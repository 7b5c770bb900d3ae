use Rattle.std.proofs.Common.{◌∷◌, [], ◌++◌, ◌∙◌, Some, None, refl, ap, sym}
use Rattle.std.proofs.lemmas.List.{append_assoc}
use Rattle.std.proofs.lemmas.List.Elements.{All-rest, All-same}
use Rattle.utoipa_base.specs.Views.{list_of_docs, option_of}
use Rattle.utoipa_base.specs.WellFormed.{IsPlain}
use Rattle.utoipa_merging_parts.proofs.Joining.{none_joined, one_more, all_joined}
use Rattle.utoipa_merging_parts.proofs.Walks.{All-first, no_items}
use Rattle.utoipa_merging_parts.proofs.lists.join_lists.Goals as goal

pub join_if_any-requires : goal.join_if_any-requires
join_if_any-requires g c = record {
  sound = c.loop-list.invariant.sound;
  plain = All-first (λ o. IsPlain (option_of (list_of_docs g.T.Documented.doc) o)) c.in-Some.list c.next.new.self.rest.items c.loop-list.list-iterator.rest.items c.in-Some.ensures.steps.0 c.loop-list.invariant.plain;
}

pub loop-list-init : goal.loop-list-init
loop-list-init g c = record {
  plain = All-same (λ o. IsPlain (option_of (list_of_docs g.T.Documented.doc) o)) _ _ c.into_iter-list-iterator.ensures.into_iter_gives.0 c.requires.plain;
  sound = λ j is. cc;
  passed = c.into_iter-list-iterator.ensures.into_iter_gives.0;
  joined = none_joined g.T.Documented.doc;
}

pub loop-list-preserved : goal.loop-list-preserved
loop-list-preserved g c =
    let before = c.loop-list.invariant in
    record {
      plain = All-rest (λ o. IsPlain (option_of (list_of_docs g.T.Documented.doc) o)) c.in-Some.list c.next.new.self.rest.items c.loop-list.list-iterator.rest.items c.in-Some.ensures.steps.0 before.plain;
      sound = c.in_ok-joined.ensures.sound;
      passed = append_assoc c.loop-list.yielded (c.in-Some.list ∷ []) c.next.new.self.rest.items ∙ ap (λ l. c.loop-list.yielded ++ l) (sym c.in-Some.ensures.steps.0) ∙ before.passed;
      joined = one_more g.T.Documented.doc c.loop-list.yielded c.in-Some.list c.loop-list.joined c.in_ok-joined.joined before.joined c.in_ok-joined.ensures.joined;
    }

pub returns-in-Some-joined : goal.returns-in-Some-joined
returns-in-Some-joined g c =
    let rest = c.loop-list.list-iterator.rest in
    all_joined g.T.Documented.doc c.args.lists.items c.loop-list.yielded rest.items c.loop-list.joined (Some c.in-Some-joined.joined) (Some c.in-Some-joined.joined.entries) refl refl c.loop-list.invariant.passed
    (no_items rest.items rest.len rest.ok.0 c.in-None.ensures.steps.0) c.in-Some-joined.is c.loop-list.invariant.joined

pub returns-in-None-joined : goal.returns-in-None-joined
returns-in-None-joined g c =
    let rest = c.loop-list.list-iterator.rest in
    all_joined g.T.Documented.doc c.args.lists.items c.loop-list.yielded rest.items c.loop-list.joined None None refl refl c.loop-list.invariant.passed
    (no_items rest.items rest.len rest.ok.0 c.in-None.ensures.steps.0) c.in-None-joined.is c.loop-list.invariant.joined
