use Rattle.std.proofs.Common.{◌≡◌, Some, None, [], true, ap, ◌∙◌, sym, rules, arith, codes}
use Rattle.serde_json.specs.Find.{get}
use Rattle.utoipa_base.specs.Kinds.{map_of, ref_or, schema, defaulted}
use Rattle.utoipa_base.proofs.Members.{field_absent}
use Rattle.utoipa_base.specs.Docs.{map_doc, entries_of_list}
use Rattle.utoipa_base.specs.Docs as docs
use Rattle.utoipa_base.specs.Refs.{ref_or_doc}
use Rattle.utoipa_base.specs.Values.{schema_count}
use Rattle.utoipa_base.specs.Views.{map_of_docs, pairs_of}
use Rattle.utoipa_base.proofs.Places.{schema_count-map, entries_schema_count-none}
use Rattle.utoipa_schema.specs.Docs.{schema_doc}
use Rattle.utoipa_schema.specs.Outcomes.{all_entries}
use Rattle.utoipa_schema.specs.Places.{entries, part, found}
use Rattle.utoipa_schema.proofs.Fitting.{defaulted_fits}
use Rattle.utoipa_schema.proofs.members.properties_from.Goals as goal

pub places_by_name-requires : goal.places_by_name-requires
places_by_name-requires c =
    c.requires ∙ ap (λ o. all_entries (part (entries true) (found o))) c.in-Some.is

pub returns-in-Some : goal.returns-in-Some
returns-in-Some c = λ d here.
    defaulted_fits (map_of_docs (ref_or_doc schema schema_doc)) (codes "properties") (map_of (ref_or schema)) d c.args.member c.in-Some.member _ _ here c.in-Some.is c.places_by_name.ensures

pub returns-in-None : goal.returns-in-None
returns-in-None c = λ d here.
    let gone : get (codes "properties") d ≡ None = sym here ∙ ap found c.in-None.is in
    let none : c.new.result.entries ≡ [] = search rules in
    record {
      ok = field_absent (codes "properties") defaulted (map_of (ref_or schema)) d gone ∙ ap (λ xs. Some (map_doc (entries_of_list (pairs_of (ref_or_doc schema schema_doc) xs)))) (sym none);
      err = tt;
      counted = omega (arith, ap (λ xs. schema_count (map_doc (entries_of_list (pairs_of (ref_or_doc schema schema_doc) xs)))) none, schema_count-map docs.no_entries, entries_schema_count-none);
    }
