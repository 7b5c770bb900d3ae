-- Responses, references and parameters of which little is said, as documents: for types that tell theirs.
use Rattle.std.specs.Prelude.{◌≡◌, ℕ, List, [], None, String, string_bytes, refl}
use Rattle.std.specs.declared.alloc.Global.{Global}
use Rattle.utoipa_base.specs.Docs.{Doc, table_doc, no_docs, doc, text_doc, option_doc, map_doc, ordered_map_doc, no_entries, own_doc, ref_doc}
use Rattle.utoipa_base.specs.Flags.{required_doc}
use Rattle.utoipa_base.specs.Kinds.{named, parameter_object, reference_object, response_object}
use Rattle.utoipa_base.specs.References.{StandsAlone}
use Rattle.utoipa_base.specs.Refs.{reference_doc}
use Rattle.utoipa_base.specs.declared.refs.Ref.{Ref}
use Rattle.utoipa_base.specs.declared.required.Required.{Required}
use Rattle.utoipa_leaf.specs.Path.{parameter_in_doc}
use Rattle.utoipa_leaf.specs.declared.path.ParameterIn.{ParameterIn}
use Rattle.utoipa_operation_parts.specs.Parameter.{IsParameterOf, parameter_doc}
use Rattle.utoipa_operation_parts.specs.Response.{IsResponseOf, response_doc}
use Rattle.utoipa_operation_parts.specs.declared.parameter.Parameter.{Parameter}
use Rattle.utoipa_operation_parts.specs.declared.response.Response.{Response}

-- a response of this description, of which nothing else is said
abbrev pub described_response : List ℕ → Doc
described_response description =
    table_doc response_object
    (doc (ordered_map_doc no_entries)
    (doc (text_doc description)
    (doc (map_doc no_entries)
    (doc (map_doc no_entries)
    (doc (option_doc None) no_docs)))))
    None

pub response_is_described : (description : String Global) (r : Response) → IsResponseOf description r → response_doc r ≡ described_response (string_bytes description)
response_is_described description r says = rw (says.0, says.1.0, says.1.1, says.1.2, says.1.3, says.1.4) refl

-- a reference with nothing beside it
abbrev pub bare_reference : List ℕ → Doc
bare_reference location =
    table_doc reference_object
    (doc (text_doc location)
    (doc (option_doc None)
    (doc (text_doc [])
    (doc (option_doc None)
    (doc (text_doc [])
    (doc (option_doc None)
    (doc (option_doc None) no_docs)))))))
    None

pub reference_is_bare : (location : String Global) (r : Ref) → r.ref_location ≡ location → StandsAlone r → reference_doc r ≡ bare_reference (string_bytes location)
reference_is_bare location r at alone = rw (at, alone.0, alone.1, alone.2, alone.3, alone.4, alone.5) refl

-- where a response or a reference to one stands: the response of this description, and the reference
abbrev pub described_place : List ℕ → Doc
described_place description = own_doc (described_response description)

abbrev pub referred_place : List ℕ → Doc
referred_place location = ref_doc (named response_object) (bare_reference location)

-- a parameter of this name that stands there, of which nothing else is said but whether it has to be sent
abbrev pub named_parameter : List ℕ → ParameterIn → Required → Doc
named_parameter name place required =
    table_doc parameter_object
    (doc (option_doc None)
    (doc (map_doc no_entries)
    (doc (option_doc None)
    (doc (option_doc None)
    (doc (option_doc None)
    (doc (option_doc None)
    (doc (parameter_in_doc place)
    (doc (text_doc name)
    (doc (required_doc required)
    (doc (option_doc None)
    (doc (option_doc None) no_docs)))))))))))
    None

pub parameter_is_named : (name : String Global) (place : ParameterIn) (required : Required) (p : Parameter) → IsParameterOf name place required p
    → parameter_doc p ≡ named_parameter (string_bytes name) place required
parameter_is_named name place required p says =
    let more = says.1 in
    rw (says.0, more.0, more.1, more.2, more.3, more.4, more.5, more.6, more.7, more.8, more.9, more.10) refl
