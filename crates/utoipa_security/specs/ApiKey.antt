-- The documents of API keys.
use Rattle.std.specs.Prelude.{ℕ, List, [], ◌∷◌, codes, Option, None, option_map, refl, String}
use Rattle.std.specs.declared.alloc.Global.{Global}
use Rattle.utoipa_base.specs.Kinds.{named, api_key, api_key_scheme, text, flag}
use Rattle.utoipa_base.specs.Docs.{Doc, tagged_doc, table_doc, no_docs, doc}
use Rattle.utoipa_base.specs.Extensions.{extensions_view}
use Rattle.utoipa_base.specs.Flags.{deprecated_doc}
use Rattle.utoipa_base.specs.Views.{text_of, option_of}
use Rattle.utoipa_base.specs.Shape.{IsOf, value_of}
use Rattle.utoipa_base.specs.OfKind.{text_of_kind, option_of_kind, deprecated_of_kind, extends_of_kind, table_of_kind, next_row, no_rows}
use Rattle.utoipa_base.specs.Choices.{api_key_places}
use Rattle.utoipa_security.specs.declared.security.api_key.ApiKey.{ApiKey}
use Rattle.utoipa_security.specs.declared.security.api_key.ApiKey.TheVariants as made
use Rattle.utoipa_security.specs.declared.security.api_key.KeyPlace.{KeyPlace}
use Rattle.utoipa_security.specs.declared.security.api_key.KeyPlace.TheVariants as places
use Rattle.utoipa_security.specs.declared.security.api_key.ApiKeyValue.{ApiKeyValue}

-- an API key with its name and a description, if any, and nothing else
abbrev pub made_api_key : String Global → Option (String Global) → ApiKeyValue
made_api_key name description = record { name = name; description = description; deprecated = None; extensions = None }

-- an API key as a document
abbrev pub api_key_value_doc : ApiKeyValue → Doc
api_key_value_doc s =
    table_doc api_key_scheme
    (doc (option_of deprecated_doc s.deprecated)
    (doc (option_of text_of s.description)
    (doc (text_of s.name) no_docs)))
    (option_map extensions_view s.extensions)

-- an API key is an object of its type
pub api_key_value_of_kind : (s : ApiKeyValue) → IsOf (api_key_value_doc s) (value_of (named api_key_scheme))
api_key_value_of_kind s =
    table_of_kind _ _
    (next_row (option_of_kind deprecated_doc flag deprecated_of_kind s.deprecated)
    (next_row (option_of_kind text_of text text_of_kind s.description)
    (next_row (text_of_kind s.name) no_rows)))
    (extends_of_kind (option_map extensions_view s.extensions))

-- ---- an API key in its place

-- the word of a place
abbrev pub key_place_text : KeyPlace → List ℕ
key_place_text places.Header = codes "header"
key_place_text places.Query = codes "query"
key_place_text places.Cookie = codes "cookie"

-- each place
abbrev pub every_key_place : List KeyPlace
every_key_place = places.Header ∷ places.Query ∷ places.Cookie ∷ []

-- an API key in its place as a document
abbrev pub api_key_doc : ApiKey → Doc
api_key_doc (made.Header v) = tagged_doc (codes "in") (key_place_text places.Header) (api_key_value_doc v)
api_key_doc (made.Query v) = tagged_doc (codes "in") (key_place_text places.Query) (api_key_value_doc v)
api_key_doc (made.Cookie v) = tagged_doc (codes "in") (key_place_text places.Cookie) (api_key_value_doc v)

-- an API key in its place is an API key
pub api_key_of_kind : (k : ApiKey) → IsOf (api_key_doc k) (value_of api_key)
unfolding IsOf
api_key_of_kind (made.Header v) = (api_key_places, named api_key_scheme, refl, refl, api_key_value_of_kind v)
api_key_of_kind (made.Query v) = (api_key_places, named api_key_scheme, refl, refl, api_key_value_of_kind v)
api_key_of_kind (made.Cookie v) = (api_key_places, named api_key_scheme, refl, refl, api_key_value_of_kind v)
