-- Whether components are unambiguous, by their maps, in two groups.
use Rattle.std.proofs.Common.{◌≡◌, Bool, true, false, ◌&&◌, refl, ap, ◌∙◌, option_map}
use Rattle.utoipa_base.specs.Docs.{Doc, no_docs, doc}
use Rattle.utoipa_base.specs.Extensions.{extensions_view}
use Rattle.utoipa_base.specs.Kinds.{named, schema, security_scheme, components_object, example_object, header_object, link_object, media_type_object, parameter_object, request_body_object, response_object}
use Rattle.utoipa_base.specs.Tables.{callback}
use Rattle.utoipa_base.specs.Unambiguous.{is_unambiguous, are_unambiguous, are_extensions}
use Rattle.utoipa_base.specs.Views.{map_of_docs}
use Rattle.utoipa_base.proofs.UnambiguousParts.{unambiguous-table, docs-none, docs-next}
use Rattle.utoipa_leaf.specs.Example.{example_doc}
use Rattle.utoipa_media.specs.Docs.{content_doc, header_doc}
use Rattle.utoipa_media.specs.Link.{link_doc}
use Rattle.utoipa_operation_parts.specs.Parameter.{parameter_doc}
use Rattle.utoipa_operation_parts.specs.RequestBody.{request_body_doc}
use Rattle.utoipa_operation_parts.specs.Response.{response_doc}
use Rattle.utoipa_path.specs.Docs.{path_item_doc, callback_doc}
use Rattle.utoipa_schema.specs.Docs.{schema_doc}
use Rattle.utoipa_schema.proofs.FieldsAsked.{is_asked}
use Rattle.utoipa_security.specs.Schemes.{scheme_doc}
use Rattle.utoipa_components.specs.Components.{places_doc, components_doc}
use Rattle.utoipa_components.specs.declared.components.Components.{Components}

-- the last field
itself_and_true : (b : Bool) → (b && true) ≡ b
itself_and_true true = refl
itself_and_true false = refl

last_asked : (d : Doc) → are_unambiguous (doc d no_docs) ≡ is_unambiguous d
last_asked d = docs-next d no_docs ∙ ap (λ b. is_unambiguous d && b) docs-none ∙ itself_and_true (is_unambiguous d)

-- six tests, the others, and the extensions
two_groups : (a b c d e f rest extends : Bool) → ((a && (b && (c && (d && (e && (f && rest)))))) && extends) ≡ ((a && (b && (c && (d && (e && f))))) && (rest && extends))
two_groups true true true true true true rest extends = refl
two_groups true true true true true false rest extends = refl
two_groups true true true true false f rest extends = refl
two_groups true true true false e f rest extends = refl
two_groups true true false d e f rest extends = refl
two_groups true false c d e f rest extends = refl
two_groups false b c d e f rest extends = refl

pub components_parts : (c : Components) → is_unambiguous (components_doc c)
    ≡ ((is_unambiguous (places_doc callback callback_doc c.callbacks)
    && (is_unambiguous (places_doc (named example_object) example_doc c.examples)
    && (is_unambiguous (places_doc (named header_object) header_doc c.headers)
    && (is_unambiguous (places_doc (named link_object) link_doc c.links)
    && (is_unambiguous (places_doc (named media_type_object) content_doc c.media_types)
    && is_unambiguous (places_doc (named parameter_object) parameter_doc c.parameters))))))
    && ((is_unambiguous (map_of_docs path_item_doc c.path_items)
    && (is_unambiguous (places_doc (named request_body_object) request_body_doc c.request_bodies)
    && (is_unambiguous (places_doc (named response_object) response_doc c.responses)
    && (is_unambiguous (places_doc schema schema_doc c.schemas)
    && is_unambiguous (places_doc security_scheme scheme_doc c.security_schemes)))))
    && are_extensions (option_map extensions_view c.extensions)))
components_parts c =
    unambiguous-table components_object _ _ ∙ ap (λ b. b && are_extensions (option_map extensions_view c.extensions))
    (is_asked _ _ (is_asked _ _ (is_asked _ _ (is_asked _ _ (is_asked _ _ (is_asked _ _ (is_asked _ _ (is_asked _ _ (is_asked _ _ (is_asked _ _ (last_asked _)))))))))))
    ∙ two_groups
    (is_unambiguous (places_doc callback callback_doc c.callbacks))
    (is_unambiguous (places_doc (named example_object) example_doc c.examples))
    (is_unambiguous (places_doc (named header_object) header_doc c.headers))
    (is_unambiguous (places_doc (named link_object) link_doc c.links))
    (is_unambiguous (places_doc (named media_type_object) content_doc c.media_types))
    (is_unambiguous (places_doc (named parameter_object) parameter_doc c.parameters))
    (is_unambiguous (map_of_docs path_item_doc c.path_items) && (is_unambiguous (places_doc (named request_body_object) request_body_doc c.request_bodies) && (is_unambiguous (places_doc (named response_object) response_doc c.responses) && (is_unambiguous (places_doc schema schema_doc c.schemas) && (is_unambiguous (places_doc security_scheme scheme_doc c.security_schemes))))))
    (are_extensions (option_map extensions_view c.extensions))

pub ruleset by_maps = (components_parts)
