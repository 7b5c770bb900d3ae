-- What a program names that implements the traits of this library: documents, the schemas that types are composed to, operations, responses,
-- parameters and tags. Here stand the words of the crates below too, so that the contracts of such a program name this crate alone. The program's
-- line of crates.txt names the crates below too.
-- documents: values as contracts see them
pub use Rattle.utoipa_base.specs.Docs.{Doc, text_doc, flag_doc, whole_doc, int_doc, uint_doc, tree_doc, word_doc, none_doc, some_doc, option_doc, ref_doc, own_doc, list_doc, map_doc, docs_of, entries_of_list}
pub use Rattle.utoipa_base.specs.Views.{text_of, tree_of, option_of, list_of_docs, map_of_docs, pairs_of}
-- what stands in one: the field of a member, through one that may be absent; items, entries, the entry of a name
pub use Rattle.utoipa_merging.specs.Slots.{field_at, in_field, items_in, entries_in, entry_at, paths_of, components_of}
-- which field of a type stands there. One line of a theorem, as what an operation's summary is: `field_is (codes "summary") (operation_doc o)
-- (operation_members o)`. The theorems of all types are in the page `Members`
pub use Rattle.utoipa.specs.Members.{field_is, member_at, operation_members, path_item_members, parameter_members, response_members, info_members, tag_members, object_members, openapi_members}
-- schemas: those of the language's types, and what ComposeSchema, PartialSchema and ToSchema say of one
pub use Rattle.utoipa_compose.specs.Made.{int32, int64, signed, unsigned32, unsigned64, unsigned, boolean, text, anything, nothing, typed, integer, format_of, nullable, listed, unique, mapped, one_of, struct_of}
pub use Rattle.utoipa_compose.specs.Compositions.{place_doc, place_docs, Named, AreAppended, Composition, always, part, same_as, option_composed, list_composed, set_composed, map_composed}
pub use Rattle.utoipa_compose.specs.declared.fault.ComposeFault.TheVariants.{Memory, KeyIsReference}
-- schemas that recur, and a schema of which more is said
pub use Rattle.utoipa.specs.OwnSchemas.{with_member, described_as, schema_ref, text_among, text_tree, required_names, with_name, without_name, field_schemas, with_field}
pub use Rattle.utoipa_schema_parts.specs.declared.types.TypeWord.TheVariants as type_words
pub use Rattle.utoipa_schema_parts.specs.declared.format.KnownFormat.TheVariants as known_formats
-- operations of paths: what Path says of one, its methods
pub use Rattle.utoipa_leaf.specs.declared.path.HttpMethod.{HttpMethod}
pub use Rattle.utoipa_leaf.specs.declared.path.HttpMethod.TheVariants.{Get, Post, Put, Delete, Options, Head, Patch, Trace}
pub use Rattle.utoipa_path.specs.Docs.{operation_doc, path_item_doc, operation_layer}
pub use Rattle.utoipa_path.specs.Folds.{operation_is}
pub use Rattle.utoipa_path.specs.declared.types.Operation.{Operation, out-Operation}
-- responses and parameters: what IntoResponses, ToResponse and IntoParams say of them
pub use Rattle.utoipa_operation_parts.specs.Described.{described_response, described_place, referred_place, bare_reference, named_parameter, response_is_described, reference_is_bare, parameter_is_named}
pub use Rattle.utoipa_operation_parts.specs.Parameter.{parameter_doc, IsParameterOf, in_path, is_required, is_not_required}
pub use Rattle.utoipa_operation_parts.specs.Traits.{response_place_doc, ByCode, responses_by_code, with_later, ByPlace, ArePlaced}
pub use Rattle.utoipa_leaf.specs.declared.path.ParameterIn.{ParameterIn}
pub use Rattle.utoipa_leaf.specs.declared.path.ParameterIn.TheVariants as places
pub use Rattle.utoipa_base.specs.References.{schema_location, response_location}
-- whole documents, and tags: what OpenApi, Tags, PathConfig and NestedApiConfig say of them
pub use Rattle.utoipa.specs.OpenApi.{openapi_doc}
pub use Rattle.utoipa.specs.Tags.{texts_of}
