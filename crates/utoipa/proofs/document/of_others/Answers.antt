use Rattle.std.proofs.Common.{◌≡◌, ◌∙◌, Some, IfOk, codes, string_bytes, ap, sym, subst, arith, rules}
use Rattle.std.proofs.lemmas.Result.{IfOk-weaker}
use Rattle.serde_json.specs.Data.{object, no_members, put}
use Rattle.serde_json.specs.View.{view, members_view}
use Rattle.serde_json.specs.declared.value.Value.{Object}
use Rattle.serde_json.proofs.Views.{view-Object, members_view-insert_entry}
use Rattle.utoipa_base.specs.Kinds.{named, open_api_object}
use Rattle.utoipa.specs.OpenApi.{openapi_doc}
use Rattle.utoipa_base.specs.Reading.{read}
use Rattle.utoipa_base.specs.Values.{schema_count}
use Rattle.utoipa.proofs.document.of_others.Goals as goal

pub returns-clause-read : goal.returns-clause-read
returns-clause-read c =
    let others = c.args.others.entries in
    let named_paths : string_bytes c.in_ok-paths.paths ≡ codes "paths" = search rules in
    let empty : view (Object c.new.result) ≡ object no_members = view-Object c.new.result ∙ ap (λ es. object (members_view es)) c.new.ensures.empty in
    let put_in : members_view c.insert.new.self.entries ≡ put (codes "paths") (object no_members) (members_view others) =
    ap members_view c.in_ok-insert.ensures.entries ∙ members_view-insert_entry others c.in_ok-paths.paths (Object c.new.result)
    ∙ ap (λ n. put n (view (Object c.new.result)) (members_view others)) named_paths ∙ ap (λ d. put (codes "paths") d (members_view others)) empty in
    let tree : view (Object c.insert.new.self) ≡ object (put (codes "paths") (object no_members) (members_view others)) = view-Object c.insert.new.self ∙ ap object put_in in
    let is : read (named open_api_object) (object (put (codes "paths") (object no_members) (members_view others))) ≡ Some (openapi_doc c.in_ok-rest.rest) =
    ap (read (named open_api_object)) (sym tree) ∙ c.in_ok-rest.ensures.ok in
    IfOk-weaker c.if_uncounted.result _ _ (λ v same. is ∙ ap (λ x. Some (openapi_doc x)) (sym same.0)) c.if_uncounted.ensures

pub returns-clause-no_schema : goal.returns-clause-no_schema
returns-clause-no_schema c =
    IfOk-weaker c.if_uncounted.result _ _ (λ v same. ap (λ x. schema_count (openapi_doc x)) same.0 ∙ omega (arith, same.1, c.new-readings.ensures, c.in_ok-rest.ensures.at_least (omega (arith, same.1)))) c.if_uncounted.ensures
