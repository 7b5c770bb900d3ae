use Rattle.std.proofs.Common.{sym, ◌≡◌, None, true, ap, ◌∙◌}
use Rattle.serde_json.specs.Find.{get}
use Rattle.utoipa_base.specs.Kinds.{list_of, ref_or, schema, required}
use Rattle.utoipa_base.proofs.Members.{field_absent}
use Rattle.utoipa_schema.specs.Docs.{places_doc, schema_doc}
use Rattle.utoipa_schema.specs.Outcomes.{all_docs}
use Rattle.utoipa_schema.specs.Places.{elements, part, found}
use Rattle.utoipa_schema.proofs.Fitting.{fits_refused, required_fits}
use Rattle.utoipa_schema.proofs.members.combined_from.Goals as goal

pub places_in_list-requires : goal.places_in_list-requires
places_in_list-requires c =
    c.requires ∙ ap (λ o. all_docs (part (elements true) (found o))) c.in-Some.is

pub returns-in-Some : goal.returns-in-Some
returns-in-Some c = λ d here.
    required_fits (places_doc schema_doc) c.args.name.now (list_of (ref_or schema)) d c.args.member c.in-Some.member _ _ here c.in-Some.is c.places_in_list.ensures

pub returns-in-None : goal.returns-in-None
returns-in-None c = λ d here.
    let gone : get c.args.name.now d ≡ None = sym here ∙ ap found c.in-None.is in
    fits_refused _ _ _ _ (field_absent c.args.name.now required (list_of (ref_or schema)) d gone)
