-- The words of known formats, the formats of schemas, and their documents.
use Rattle.std.specs.Prelude.{◌≡◌, ℕ, List, [], ◌∷◌, Some, codes, refl, string_bytes}
use Rattle.utoipa_base.specs.Docs.{Doc, custom_doc}
use Rattle.utoipa_base.specs.Kinds.{word_of, known_format, schema_format}
use Rattle.utoipa_base.specs.Shape.{IsOf, value_of}
use Rattle.utoipa_base.specs.Vocabularies.{with_text, word_by, word_of_kind}
use Rattle.utoipa_schema_parts.specs.declared.format.KnownFormat.{KnownFormat}
use Rattle.utoipa_schema_parts.specs.declared.format.KnownFormat.TheVariants as known_formats
use Rattle.utoipa_schema_parts.specs.declared.format.SchemaFormat.{SchemaFormat}
use Rattle.utoipa_schema_parts.specs.declared.format.SchemaFormat.TheVariants as formats

-- ---- a known format

-- the word of a known format
abbrev pub known_format_text : KnownFormat → List ℕ
known_format_text known_formats.Int32 = codes "int32"
known_format_text known_formats.Int64 = codes "int64"
known_format_text known_formats.Float = codes "float"
known_format_text known_formats.Double = codes "double"
known_format_text known_formats.Byte = codes "byte"
known_format_text known_formats.Binary = codes "binary"
known_format_text known_formats.Time = codes "time"
known_format_text known_formats.Date = codes "date"
known_format_text known_formats.DateTime = codes "date-time"
known_format_text known_formats.Duration = codes "duration"
known_format_text known_formats.Password = codes "password"
known_format_text known_formats.Email = codes "email"
known_format_text known_formats.IdnEmail = codes "idn-email"
known_format_text known_formats.Hostname = codes "hostname"
known_format_text known_formats.IdnHostname = codes "idn-hostname"
known_format_text known_formats.Ipv4 = codes "ipv4"
known_format_text known_formats.Ipv6 = codes "ipv6"
known_format_text known_formats.UriTemplate = codes "uri-template"
known_format_text known_formats.JsonPointer = codes "json-pointer"
known_format_text known_formats.RelativeJsonPointer = codes "relative-json-pointer"
known_format_text known_formats.Regex = codes "regex"

-- each, in the order of the words
abbrev pub every_known_format : List KnownFormat
every_known_format = known_formats.Int32 ∷ known_formats.Int64 ∷ known_formats.Float ∷ known_formats.Double ∷ known_formats.Byte ∷ known_formats.Binary ∷ known_formats.Time ∷ known_formats.Date ∷ known_formats.DateTime ∷ known_formats.Duration ∷ known_formats.Password ∷ known_formats.Email ∷ known_formats.IdnEmail ∷ known_formats.Hostname ∷ known_formats.IdnHostname ∷ known_formats.Ipv4 ∷ known_formats.Ipv6 ∷ known_formats.UriTemplate ∷ known_formats.JsonPointer ∷ known_formats.RelativeJsonPointer ∷ known_formats.Regex ∷ []

-- a known format as a document
abbrev pub known_format_doc : KnownFormat → Doc
known_format_doc = word_by known_format_text

-- no two have one word
pub known_format_by_text : (w : KnownFormat) → with_text known_format_text every_known_format (known_format_text w) ≡ Some w
known_format_by_text known_formats.Int32 = refl
known_format_by_text known_formats.Int64 = refl
known_format_by_text known_formats.Float = refl
known_format_by_text known_formats.Double = refl
known_format_by_text known_formats.Byte = refl
known_format_by_text known_formats.Binary = refl
known_format_by_text known_formats.Time = refl
known_format_by_text known_formats.Date = refl
known_format_by_text known_formats.DateTime = refl
known_format_by_text known_formats.Duration = refl
known_format_by_text known_formats.Password = refl
known_format_by_text known_formats.Email = refl
known_format_by_text known_formats.IdnEmail = refl
known_format_by_text known_formats.Hostname = refl
known_format_by_text known_formats.IdnHostname = refl
known_format_by_text known_formats.Ipv4 = refl
known_format_by_text known_formats.Ipv6 = refl
known_format_by_text known_formats.UriTemplate = refl
known_format_by_text known_formats.JsonPointer = refl
known_format_by_text known_formats.RelativeJsonPointer = refl
known_format_by_text known_formats.Regex = refl

-- each is a document of its vocabulary
pub known_format_of_kind : (w : KnownFormat) → IsOf (known_format_doc w) (value_of (word_of known_format))
known_format_of_kind = word_of_kind known_format known_format_text every_known_format refl known_format_by_text

-- ---- the format of a schema

-- the format of a schema as a document
abbrev pub schema_format_doc : SchemaFormat → Doc
schema_format_doc (formats.KnownFormat f) = known_format_doc f
schema_format_doc (formats.Custom s) = custom_doc (string_bytes s)

-- each is a document of its kind
pub schema_format_of_kind : (f : SchemaFormat) → IsOf (schema_format_doc f) (value_of schema_format)
unfolding IsOf
schema_format_of_kind (formats.KnownFormat f) = known_format_of_kind f
schema_format_of_kind (formats.Custom s) = refl
