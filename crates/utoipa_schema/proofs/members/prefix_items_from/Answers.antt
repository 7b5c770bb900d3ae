use Rattle.std.proofs.Common.{◌≡◌, Some, None, [], map, false, ap, ◌∙◌, sym, rules, arith, codes}
use Rattle.serde_json.specs.Find.{get}
use Rattle.utoipa_base.specs.Kinds.{list_of, schema, defaulted}
use Rattle.utoipa_base.proofs.Members.{field_absent}
use Rattle.utoipa_base.specs.Docs.{list_doc, docs_of}
use Rattle.utoipa_base.specs.Docs as docs
use Rattle.utoipa_base.specs.Values.{schema_count}
use Rattle.utoipa_base.specs.Views.{list_of_docs}
use Rattle.utoipa_base.proofs.Places.{schema_count-list, docs_schema_count-none}
use Rattle.utoipa_schema.specs.Docs.{schema_doc}
use Rattle.utoipa_schema.specs.Outcomes.{all_docs}
use Rattle.utoipa_schema.specs.Places.{elements, part, found}
use Rattle.utoipa_schema.proofs.Fitting.{defaulted_fits}
use Rattle.utoipa_schema.proofs.members.prefix_items_from.Goals as goal

pub schemas_in_list-requires : goal.schemas_in_list-requires
schemas_in_list-requires c =
    c.requires ∙ ap (λ o. all_docs (part (elements false) (found o))) c.in-Some.is

pub returns-in-Some : goal.returns-in-Some
returns-in-Some c = λ d here.
    defaulted_fits (list_of_docs schema_doc) (codes "prefixItems") (list_of schema) d c.args.member c.in-Some.member _ _ here c.in-Some.is c.schemas_in_list.ensures

pub returns-in-None : goal.returns-in-None
returns-in-None c = λ d here.
    let gone : get (codes "prefixItems") d ≡ None = sym here ∙ ap found c.in-None.is in
    let none : c.new.result.items ≡ [] = search rules in
    record {
      ok = field_absent (codes "prefixItems") defaulted (list_of schema) d gone ∙ ap (λ xs. Some (list_doc (docs_of (map schema_doc xs)))) (sym none);
      err = tt;
      counted = omega (arith, ap (λ xs. schema_count (list_doc (docs_of (map schema_doc xs)))) none, schema_count-list docs.no_docs, docs_schema_count-none);
    }
