use Rattle.std.proofs.Common.{◌≡◌, None, Some, option_map, ap, ◌∙◌, sym, rules, arith}
use Rattle.serde_json.specs.Find.{as_object}
use Rattle.serde_json.specs.View.{view, members_view}
use Rattle.utoipa_base.specs.Docs.{map_doc, entries_of_list}
use Rattle.utoipa_base.specs.Kinds.{schema, ref_or}
use Rattle.utoipa_base.specs.Refs.{ref_or_doc}
use Rattle.utoipa_base.specs.Views.{pairs_of}
use Rattle.utoipa_base.proofs.Members.{map_none}
use Rattle.utoipa_base.proofs.Places.{schema_count-map}
use Rattle.utoipa_schema.specs.Docs.{schema_doc}
use Rattle.utoipa_schema.specs.Outcomes.{map_docs, count_of_map}
use Rattle.utoipa_schema.proofs.Fitting.{fits_refused, map_all}
use Rattle.utoipa_schema.proofs.members.places_by_name.Goals as goal

pub returns-in_default : goal.returns-in_default
returns-in_default c =
    let none : as_object (view c.args.tree.now) ≡ None = search rules in
    fits_refused _ _ _ _ (map_none (ref_or schema) (view c.args.tree.now) none)

pub returns-in-Some-outcome : goal.returns-in-Some-outcome
returns-in-Some-outcome c =
    let is : Some (members_view c.in-Some._members.now.entries) ≡ as_object (view c.args.tree.now) = search rules in
    record {
      ok = map_all (view c.args.tree.now) _ is ∙ ap (λ w. option_map map_doc (option_map entries_of_list w)) (sym c.requires ∙ ap map_docs c.in-Some-outcome.is);
      err = tt;
      counted = omega (arith, ap (λ o. count_of_map (map_docs o)) c.in-Some-outcome.is, schema_count-map (entries_of_list (pairs_of (ref_or_doc schema schema_doc) c.in-Some-outcome.places.entries)));
    }

pub returns-in-None : goal.returns-in-None
returns-in-None c =
    let is : Some (members_view c.in-Some._members.now.entries) ≡ as_object (view c.args.tree.now) = search rules in
    fits_refused _ _ _ _ (map_all (view c.args.tree.now) _ is ∙ ap (λ w. option_map map_doc (option_map entries_of_list w)) (sym c.requires ∙ ap map_docs c.in-None.is))
