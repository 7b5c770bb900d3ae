-- What the builders of contents, encodings and headers hold, and what the constructors make.
use Rattle.std.specs.Prelude.{◌≡◌, [], Option, None, Some, String, Vec}
use Rattle.std.specs.BTreeMap.{BTreeMap}
use Rattle.std.specs.declared.alloc.Global.{Global}
use Rattle.utoipa_base.specs.declared.refs.Ref.{Ref}
use Rattle.utoipa_base.specs.declared.refs.RefOr.{RefOr}
use Rattle.utoipa_base.specs.declared.refs.RefOr.TheVariants as places
use Rattle.utoipa_leaf.specs.declared.example.Example.{Example}
use Rattle.utoipa_schema_parts.specs.declared.types.SchemaType.{SchemaType}
use Rattle.utoipa_schema_parts.specs.declared.types.SchemaType.TheVariants as types
use Rattle.utoipa_schema_parts.specs.declared.types.TypeWord.TheVariants as words
use Rattle.utoipa_schema.specs.Builders.{IsEmptyObject, object_place}
use Rattle.utoipa_schema.specs.declared.types.Object.{Object}
use Rattle.utoipa_schema.specs.declared.types.Schema.{Schema}
use Rattle.utoipa_media.specs.declared.types.Content.{Content, Content-F, out-Content}
use Rattle.utoipa_media.specs.declared.types.Encoding.{Encoding, Encoding-F, out-Encoding}
use Rattle.utoipa_media.specs.declared.types.Header.{Header, Header-F, out-Header}
use Rattle.utoipa_media.specs.declared.content.ContentBuilder.{ContentBuilder}
use Rattle.utoipa_media.specs.declared.encoding.EncodingBuilder.{EncodingBuilder}
use Rattle.utoipa_media.specs.declared.header.HeaderBuilder.{HeaderBuilder}

-- examples and references to such, by their names
abbrev pub Examples : Type 0
Examples = BTreeMap (String Global) (RefOr Example)

-- contents and references to such, by their media types
abbrev pub Contents : Type 0
Contents = BTreeMap (String Global) (RefOr Content)

-- headers and references to such, by their names
abbrev pub Headers : Type 0
Headers = BTreeMap (String Global) (RefOr Header)

-- encodings, by the names of the properties that they encode
abbrev pub Encodings : Type 0
Encodings = BTreeMap (String Global) Encoding

-- encodings, in the order of the items that they encode
abbrev pub ItemEncodings : Type 0
ItemEncodings = Vec Encoding Global

-- the fields of a content, which are all that it is
abbrev pub ContentFields : Type 0
ContentFields = Content-F Content Encoding Header

-- the fields of an encoding, which are all that it is
abbrev pub EncodingFields : Type 0
EncodingFields = Encoding-F Content Encoding Header

-- the fields of a header, which are all that it is
abbrev pub HeaderFields : Type 0
HeaderFields = Header-F Content Encoding Header

-- the content of a builder so far, by its fields
abbrev pub built_content : ContentBuilder → ContentFields
built_content b = out-Content b.content

-- the encoding of a builder so far, by its fields
abbrev pub built_encoding : EncodingBuilder → EncodingFields
built_encoding b = out-Encoding b.encoding

-- the header of a builder so far, by its fields
abbrev pub built_header : HeaderBuilder → HeaderFields
built_header b = out-Header b.header

-- the content of these fields, where a reference could stand
abbrev pub IsContentPlace : ContentFields → RefOr Content → Type 0
IsContentPlace fields place = (c : Content) × (out-Content c ≡ fields) × (place ≡ places.T c)

-- a content, where a reference could stand
abbrev pub content_place : Content → RefOr Content
content_place c = places.T c

-- a reference, where a content could stand
abbrev pub content_reference : Ref → RefOr Content
content_reference r = places.Ref r

-- a header, where a reference could stand
abbrev pub header_place : Header → RefOr Header
header_place h = places.T h

-- a reference, where a header could stand
abbrev pub header_reference : Ref → RefOr Header
header_reference r = places.Ref r

-- the type of a text alone
abbrev pub one_string : SchemaType
one_string = types.Single words.String

-- the content is of this schema, where there is one, and nothing else is said of it
abbrev pub IsContentOf : Option (RefOr Schema) → ContentFields → Type 0
IsContentOf s c =
    (c.schema ≡ s)
    × (c.item_schema ≡ None)
    × (c.description ≡ None)
    × (c.example ≡ None)
    × (c.examples.entries ≡ [])
    × (c.encoding.entries ≡ [])
    × (c.prefix_encoding.items ≡ [])
    × (c.item_encoding ≡ None)
    × (c.extensions ≡ None)

-- nothing is said of the encoding
abbrev pub IsEmptyEncoding : EncodingFields → Type 0
IsEmptyEncoding e =
    (e.content_type ≡ None)
    × (e.headers.entries ≡ [])
    × (e.style ≡ None)
    × (e.explode ≡ None)
    × (e.allow_reserved ≡ None)
    × (e.encoding.entries ≡ [])
    × (e.prefix_encoding.items ≡ [])
    × (e.item_encoding ≡ None)
    × (e.extensions ≡ None)

-- the header is of this schema, and nothing else is said of it
abbrev pub IsHeaderOf : RefOr Schema → HeaderFields → Type 0
IsHeaderOf s h =
    (h.schema ≡ Some s)
    × (h.description ≡ None)
    × (h.deprecated ≡ None)
    × (h.style ≡ None)
    × (h.explode ≡ None)
    × (h.example ≡ None)
    × (h.examples.entries ≡ [])
    × (h.content.entries ≡ [])
    × (h.extensions ≡ None)

-- the header is a text, and nothing else is said of it
abbrev pub IsStringHeader : HeaderFields → Type 0
IsStringHeader h = (o : Object) × IsEmptyObject one_string o × IsHeaderOf (object_place o) h
