use Rattle.std.proofs.Common.{◌≡◌, ◌∙◌, ap, sym, not, IfOk, subst, true, inl, inr}
use Rattle.serde_json.specs.View.{view}
use Rattle.utoipa_check.specs.Mentioned.{joined}
use Rattle.utoipa_check.specs.Misfits.{checks}
use Rattle.utoipa_check.specs.Places.{members_at}
use Rattle.utoipa_check.specs.ReferenceViews.{mentions_of}
use Rattle.utoipa_tables.specs.Tables.{kind_of}
use Rattle.utoipa_check.proofs.MentionsJoined.{is_entry_map, map_mentioned}
use Rattle.utoipa_check.proofs.referrer.own_mentions.Goals as goal

pub returns-in-MapOf : goal.returns-in-MapOf
returns-in-MapOf c =
    let map : is_entry_map (kind_of c.args.kind) ≡ true = ap (λ k. is_entry_map (kind_of k)) c.in-MapOf.is ∙ ap not (sym c.is_scope_list.ensures ∙ c.if-is_scope_list.false) in
    subst (λ x. IfOk c.join_mentions.result (λ v. mentions_of v.items ≡ x)) (ap joined c.requires.inner ∙ map_mentioned (kind_of c.args.kind) (checks (members_at (view c.args.tree.now))) (view c.args.tree.now) map) c.join_mentions.ensures

pub returns-in-OrderedMapOf : goal.returns-in-OrderedMapOf
returns-in-OrderedMapOf c =
    let map : is_entry_map (kind_of c.args.kind) ≡ true = elim c.in-OrderedMapOf.is [ inl h ↦ ap (λ k. is_entry_map (kind_of k)) h.1 | inr h ↦ ap (λ k. is_entry_map (kind_of k)) h.1 ] in
    subst (λ x. IfOk c.join_mentions-in-OrderedMapOf.result (λ v. mentions_of v.items ≡ x)) (ap joined c.requires.inner ∙ map_mentioned (kind_of c.args.kind) (checks (members_at (view c.args.tree.now))) (view c.args.tree.now) map)
    c.join_mentions-in-OrderedMapOf.ensures
