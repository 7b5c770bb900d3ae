use Rattle.std.proofs.Common.{sym, ◌≡◌, None, true, codes, ap, ◌∙◌}
use Rattle.serde_json.specs.Find.{get}
use Rattle.utoipa_base.specs.Kinds.{array_items, required}
use Rattle.utoipa_base.proofs.Members.{field_absent}
use Rattle.utoipa_schema.specs.Docs.{array_items_doc}
use Rattle.utoipa_schema.specs.Outcomes.{last}
use Rattle.utoipa_schema.specs.Places.{alone, part, found}
use Rattle.utoipa_schema.proofs.Fitting.{fits_refused, required_fits}
use Rattle.utoipa_schema.proofs.members.array_items_from.Goals as goal

pub items_from-requires : goal.items_from-requires
items_from-requires c =
    c.requires ∙ ap (λ o. last (part (alone true) (found o))) c.in-Some.is

pub returns-in-Some : goal.returns-in-Some
returns-in-Some c = λ d here.
    required_fits array_items_doc (codes "items") array_items d c.args.member c.in-Some.member _ _ here c.in-Some.is c.items_from.ensures

pub returns-in-None : goal.returns-in-None
returns-in-None c = λ d here.
    let gone : get (codes "items") d ≡ None = sym here ∙ ap found c.in-None.is in
    fits_refused _ _ _ _ (field_absent (codes "items") required array_items d gone)
