-- The documents of the responses of an operation.
use Rattle.std.specs.Prelude.{◌≡◌, [], None, String}
use Rattle.std.specs.BTreeMap.{BTreeMap}
use Rattle.std.specs.declared.alloc.Global.{Global}
use Rattle.utoipa_base.specs.Docs.{Doc}
use Rattle.utoipa_base.specs.Fill.{Pairs}
use Rattle.utoipa_base.specs.Kinds.{named, ref_or, response_object}
use Rattle.utoipa_base.specs.OfKind.{ref_or_of_kind, entries_beside_of_kind}
use Rattle.utoipa_base.specs.Refs.{ref_or_doc}
use Rattle.utoipa_base.specs.Shape.{IsOf, value_of}
use Rattle.utoipa_base.specs.Tables.{responses}
use Rattle.utoipa_base.specs.Views.{entries_beside}
use Rattle.utoipa_base.specs.declared.refs.RefOr.{RefOr}
use Rattle.utoipa_operation_parts.specs.Response.{response_doc, response_of_kind}
use Rattle.utoipa_operation_parts.specs.declared.response.Response.{Response}
use Rattle.utoipa_operation_parts.specs.declared.response.Responses.{Responses}
use Rattle.utoipa_operation_parts.specs.declared.response.ResponsesBuilder.{ResponsesBuilder}

-- responses and references to such, by their status codes
abbrev pub ByStatus : Type 0
ByStatus = BTreeMap (String Global) (RefOr Response)

-- the responses of a builder so far
abbrev pub built_responses : ResponsesBuilder → Responses
built_responses b = b.responses

-- the responses are these, with no extension
abbrev pub AreResponses : Pairs (RefOr Response) → Responses → Type 0
AreResponses entries r = (r.responses.entries ≡ entries) × (r.extensions ≡ None)

-- there is no response
abbrev pub IsEmptyResponses : Responses → Type 0
IsEmptyResponses = AreResponses []

-- the responses as a document
abbrev pub responses_doc : Responses → Doc
responses_doc r = entries_beside (ref_or_doc (named response_object) response_doc) r.responses r.extensions

-- why the responses are of their kind
pub responses_of_kind : (r : Responses) → IsOf (responses_doc r) (value_of responses)
responses_of_kind r = entries_beside_of_kind (ref_or_doc (named response_object) response_doc) (ref_or (named response_object)) (ref_or_of_kind response_doc (named response_object) response_of_kind) r.responses r.extensions
