use Rattle.std.proofs.Common.{◌≡◌, ◌∙◌, Some, IfOk, codes, refl, ap, subst}
use Rattle.serde_json.specs.Data.{object, no_members, put}
use Rattle.serde_json.specs.View.{members_view}
use Rattle.utoipa_base.specs.Docs.{doc, no_docs}
use Rattle.utoipa_base.specs.Kinds.{named, open_api_object}
use Rattle.utoipa_base.specs.Reading.{read}
use Rattle.utoipa_base.specs.Values.{schema_count}
use Rattle.utoipa_base.specs.Views.{option_of}
use Rattle.utoipa_components.specs.Components.{components_doc}
use Rattle.utoipa_large_objects.proofs.MembersRead.{read_with_plain}
use Rattle.utoipa_large_objects.specs.Members.{with_fields}
use Rattle.utoipa_paths.specs.Paths.{paths_doc}
use Rattle.utoipa.specs.OpenApi.{openapi_doc, large_members}
use Rattle.utoipa.proofs.document.OpenApiTree.from_tokens.Goals as goal

pub returns-clause-read : goal.returns-clause-read
returns-clause-read c =
    let others = members_view c.in_ok-large.others.entries in
    let rest = c.in_ok-large-2.rest in
    let both = c.in_ok-large-2.ensures.ok in
    let is : read (named open_api_object) (object (put (codes "paths") (object no_members) others)) ≡ Some (openapi_doc rest) =
    subst (λ r. IfOk r (λ v. read (named open_api_object) (object (put (codes "paths") (object no_members) others)) ≡ Some (openapi_doc v))) both.1 c.of_others.ensures.read in
    let none : schema_count (openapi_doc rest) ≡ 0 = subst (λ r. IfOk r (λ v. schema_count (openapi_doc v) ≡ 0)) both.1 c.of_others.ensures.no_schema in
    let same = c.with_large.ensures
    ∙ ap (λ l. with_fields large_members (doc (option_of components_doc l.0.0) (doc (paths_doc l.1.0.0) (doc (option_of paths_doc l.1.1.0.0) no_docs))) (openapi_doc rest)) both.0 in
    read_with_plain open_api_object large_members _ _ openapi_doc _ (codes "paths") (object no_members) c.in_ok-large.large c.with_large.result (openapi_doc rest) _ _ _ _ _ refl
    (refl, (refl, (refl, (refl, (refl, (refl, (refl, (refl, (refl, (refl, (refl, (refl, tt)))))))))))) refl refl c.in_ok-large.ensures.read is none same
