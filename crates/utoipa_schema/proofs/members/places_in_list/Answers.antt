use Rattle.std.proofs.Common.{◌≡◌, None, Some, option_map, map, ap, ◌∙◌, sym, rules, arith}
use Rattle.serde_json.specs.Find.{as_array}
use Rattle.serde_json.specs.View.{view, items_view}
use Rattle.utoipa_base.specs.Docs.{list_doc, docs_of}
use Rattle.utoipa_base.specs.Kinds.{schema, ref_or}
use Rattle.utoipa_base.specs.Refs.{ref_or_doc}
use Rattle.utoipa_base.proofs.Members.{list_none}
use Rattle.utoipa_base.proofs.Places.{schema_count-list}
use Rattle.utoipa_schema.specs.Docs.{schema_doc}
use Rattle.utoipa_schema.specs.Outcomes.{list_docs, count_of_list}
use Rattle.utoipa_schema.proofs.Fitting.{fits_refused, list_all}
use Rattle.utoipa_schema.proofs.members.places_in_list.Goals as goal

pub returns-in_default : goal.returns-in_default
returns-in_default c =
    let none : as_array (view c.args.tree.now) ≡ None = search rules in
    fits_refused _ _ _ _ (list_none (ref_or schema) (view c.args.tree.now) none)

pub returns-in-Some-outcome : goal.returns-in-Some-outcome
returns-in-Some-outcome c =
    let is : Some (items_view c.in-Some._list.now.items) ≡ as_array (view c.args.tree.now) = search rules in
    record {
      ok = list_all (view c.args.tree.now) _ is ∙ ap (λ w. option_map list_doc (option_map docs_of w)) (sym c.requires ∙ ap list_docs c.in-Some-outcome.is);
      err = tt;
      counted = omega (arith, ap (λ o. count_of_list (list_docs o)) c.in-Some-outcome.is, schema_count-list (docs_of (map (ref_or_doc schema schema_doc) c.in-Some-outcome.places.items)));
    }

pub returns-in-None : goal.returns-in-None
returns-in-None c =
    let is : Some (items_view c.in-Some._list.now.items) ≡ as_array (view c.args.tree.now) = search rules in
    fits_refused _ _ _ _ (list_all (view c.args.tree.now) _ is ∙ ap (λ w. option_map list_doc (option_map docs_of w)) (sym c.requires ∙ ap list_docs c.in-None.is))
