-- The words of HTTP authentication schemes, and the documents of schemes by HTTP.
use Rattle.std.specs.Prelude.{◌≡◌, ℕ, List, [], ◌∷◌, Option, None, Some, option_map, codes, refl, String}
use Rattle.std.specs.declared.alloc.Global.{Global}
use Rattle.utoipa_base.specs.Kinds.{named, http_scheme, text, flag, word_of, http_auth_scheme}
use Rattle.utoipa_base.specs.Docs.{Doc, table_doc, no_docs, doc}
use Rattle.utoipa_base.specs.Extensions.{extensions_view}
use Rattle.utoipa_base.specs.Flags.{deprecated_doc}
use Rattle.utoipa_base.specs.Views.{text_of, option_of}
use Rattle.utoipa_base.specs.Shape.{IsOf, value_of}
use Rattle.utoipa_base.specs.OfKind.{text_of_kind, option_of_kind, deprecated_of_kind, extends_of_kind, table_of_kind, next_row, no_rows}
use Rattle.utoipa_base.specs.Vocabularies.{with_text, word_by, word_of_kind}
use Rattle.utoipa_security.specs.declared.security.http.Http.{Http}
use Rattle.utoipa_security.specs.declared.security.http.HttpBuilder.{HttpBuilder}
use Rattle.utoipa_security.specs.declared.security.http.HttpAuthScheme.{HttpAuthScheme}
use Rattle.utoipa_security.specs.declared.security.http.HttpAuthScheme.TheVariants as schemes

-- ---- an authentication scheme

-- the word of an authentication scheme
abbrev pub auth_scheme_text : HttpAuthScheme → List ℕ
auth_scheme_text schemes.Basic = codes "basic"
auth_scheme_text schemes.Bearer = codes "bearer"
auth_scheme_text schemes.Digest = codes "digest"
auth_scheme_text schemes.Hoba = codes "hoba"
auth_scheme_text schemes.Mutual = codes "mutual"
auth_scheme_text schemes.Negotiate = codes "negotiate"
auth_scheme_text schemes.OAuth = codes "oauth"
auth_scheme_text schemes.ScramSha1 = codes "scram-sha-1"
auth_scheme_text schemes.ScramSha256 = codes "scram-sha-256"
auth_scheme_text schemes.Vapid = codes "vapid"

-- each, in the order of the words
abbrev pub every_auth_scheme : List HttpAuthScheme
every_auth_scheme = schemes.Basic ∷ schemes.Bearer ∷ schemes.Digest ∷ schemes.Hoba ∷ schemes.Mutual ∷ schemes.Negotiate ∷ schemes.OAuth ∷ schemes.ScramSha1 ∷ schemes.ScramSha256 ∷ schemes.Vapid ∷ []

-- an authentication scheme as a document
abbrev pub auth_scheme_doc : HttpAuthScheme → Doc
auth_scheme_doc = word_by auth_scheme_text

-- no two have one word
pub auth_scheme_by_text : (w : HttpAuthScheme) → with_text auth_scheme_text every_auth_scheme (auth_scheme_text w) ≡ Some w
auth_scheme_by_text schemes.Basic = refl
auth_scheme_by_text schemes.Bearer = refl
auth_scheme_by_text schemes.Digest = refl
auth_scheme_by_text schemes.Hoba = refl
auth_scheme_by_text schemes.Mutual = refl
auth_scheme_by_text schemes.Negotiate = refl
auth_scheme_by_text schemes.OAuth = refl
auth_scheme_by_text schemes.ScramSha1 = refl
auth_scheme_by_text schemes.ScramSha256 = refl
auth_scheme_by_text schemes.Vapid = refl

-- each is a document of its vocabulary
pub auth_scheme_of_kind : (w : HttpAuthScheme) → IsOf (auth_scheme_doc w) (value_of (word_of http_auth_scheme))
auth_scheme_of_kind = word_of_kind http_auth_scheme auth_scheme_text every_auth_scheme refl auth_scheme_by_text

-- ---- a scheme by HTTP

-- a scheme by HTTP of a name, with nothing else
abbrev pub made_http : HttpAuthScheme → Http
made_http scheme = record { scheme = scheme; bearer_format = None; description = None; deprecated = None; extensions = None }

-- the scheme of a builder so far
abbrev pub built_http : HttpBuilder → Http
built_http b = b.http

-- the format of bearer tokens after one is set, which only the scheme `bearer` takes
abbrev pub format_for : HttpAuthScheme → Option (String Global) → String Global → Option (String Global)
format_for schemes.Bearer earlier format = Some format
format_for scheme earlier format = earlier

-- a scheme by HTTP as a document
abbrev pub http_doc : Http → Doc
http_doc s =
    table_doc http_scheme
    (doc (option_of text_of s.bearer_format)
    (doc (option_of deprecated_doc s.deprecated)
    (doc (option_of text_of s.description)
    (doc (auth_scheme_doc s.scheme) no_docs))))
    (option_map extensions_view s.extensions)

-- a scheme by HTTP is an object of its type
pub http_of_kind : (s : Http) → IsOf (http_doc s) (value_of (named http_scheme))
http_of_kind s =
    table_of_kind _ _
    (next_row (option_of_kind text_of text text_of_kind s.bearer_format)
    (next_row (option_of_kind deprecated_doc flag deprecated_of_kind s.deprecated)
    (next_row (option_of_kind text_of text text_of_kind s.description)
    (next_row (auth_scheme_of_kind s.scheme) no_rows))))
    (extends_of_kind (option_map extensions_view s.extensions))
