-- What a program's clauses say of documents that it reads, writes, merges and nests, in the words of the crates below, so that the contracts of such
-- a program name this crate alone. The program's line of crates.txt names the crates below too.

-- a type's kind and documents; what a tree is read as, what a document is written as, and which read back
pub use Rattle.utoipa_base.specs.Docs.{Doc}
pub use Rattle.utoipa_base.specs.Kinds.{Kind, named, schema, ref_or, list_of, map_of, open_api_object, server_object, path_item_object, operation_object, components_object}
pub use Rattle.utoipa_base.specs.Reading.{read}
pub use Rattle.utoipa_base.specs.Writing.{write}
pub use Rattle.utoipa_base.specs.NormalForm.{normal_form}
pub use Rattle.utoipa_base.specs.WellFormed.{IsPlain, IsUnambiguous, IsWellFormed}
pub use Rattle.utoipa_base.specs.Faults.{Refuses}
pub use Rattle.utoipa_base.specs.declared.fault.ReadFault.{ReadFault}
-- texts: what one is read as, and why one is refused
pub use Rattle.utoipa_base.specs.Texts.{IsTextOf, RefusesText}
pub use Rattle.utoipa_merging.specs.Texts.{IsTextOf as IsTextOfDocument}
pub use Rattle.utoipa.specs.Texts.{pretty_text}
pub use Rattle.serde_json.specs.Data.{Data, depth}
pub use Rattle.serde_json.specs.View.{view}
pub use Rattle.serde_json.specs.Read.{read as read_text, max_depth}
pub use Rattle.serde_json.specs.Written.{has_float, compact_text}
-- documents of the model, and what merging and nesting makes of them
pub use Rattle.utoipa.specs.OpenApi.{openapi_doc, openapi_of_kind}
pub use Rattle.utoipa_merging.specs.Merged.{IsMerged, IsInKeyOrder}
pub use Rattle.utoipa_merging.specs.Nested.{IsNested}
pub use Rattle.utoipa_merging.specs.Slots.{field_at, items_in, entries_in, entry_at, paths_of, components_of}
