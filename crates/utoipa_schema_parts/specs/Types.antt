-- The words of types, the types of schemas, and their documents.
use Rattle.std.specs.Prelude.{◌≡◌, ℕ, List, [], ◌∷◌, Some, codes, refl, Vec}
use Rattle.std.specs.declared.alloc.Global.{Global}
use Rattle.utoipa_base.specs.Docs.{Doc, types_doc, any_value_doc}
use Rattle.utoipa_base.specs.Kinds.{word_of, type_word, schema_type}
use Rattle.utoipa_base.specs.OfKind.{list_of_kind}
use Rattle.utoipa_base.specs.Shape.{IsOf, value_of}
use Rattle.utoipa_base.specs.Views.{list_of_docs}
use Rattle.utoipa_base.specs.Vocabularies.{with_text, word_by, word_of_kind}
use Rattle.utoipa_schema_parts.specs.declared.types.TypeWord.{TypeWord}
use Rattle.utoipa_schema_parts.specs.declared.types.TypeWord.TheVariants as type_words
use Rattle.utoipa_schema_parts.specs.declared.types.SchemaType.{SchemaType}
use Rattle.utoipa_schema_parts.specs.declared.types.SchemaType.TheVariants as types

-- ---- a type

-- the word of a type
abbrev pub type_word_text : TypeWord → List ℕ
type_word_text type_words.Object = codes "object"
type_word_text type_words.String = codes "string"
type_word_text type_words.Integer = codes "integer"
type_word_text type_words.Number = codes "number"
type_word_text type_words.Boolean = codes "boolean"
type_word_text type_words.Array = codes "array"
type_word_text type_words.Null = codes "null"

-- each, in the order of the words
abbrev pub every_type_word : List TypeWord
every_type_word = type_words.Object ∷ type_words.String ∷ type_words.Integer ∷ type_words.Number ∷ type_words.Boolean ∷ type_words.Array ∷ type_words.Null ∷ []

-- a type as a document
abbrev pub type_word_doc : TypeWord → Doc
type_word_doc = word_by type_word_text

-- no two have one word
pub type_word_by_text : (w : TypeWord) → with_text type_word_text every_type_word (type_word_text w) ≡ Some w
type_word_by_text type_words.Object = refl
type_word_by_text type_words.String = refl
type_word_by_text type_words.Integer = refl
type_word_by_text type_words.Number = refl
type_word_by_text type_words.Boolean = refl
type_word_by_text type_words.Array = refl
type_word_by_text type_words.Null = refl

-- each is a document of its vocabulary
pub type_word_of_kind : (w : TypeWord) → IsOf (type_word_doc w) (value_of (word_of type_word))
type_word_of_kind = word_of_kind type_word type_word_text every_type_word refl type_word_by_text

-- ---- the types of a schema

-- types, in their order
abbrev pub TypeWords : Type 0
TypeWords = Vec TypeWord Global

-- the types of a schema as a document
abbrev pub schema_type_doc : SchemaType → Doc
schema_type_doc (types.Single w) = type_word_doc w
schema_type_doc (types.Array ws) = types_doc (list_of_docs type_word_doc ws)
schema_type_doc types.AnyValue = any_value_doc

-- each is a document of its kind
pub schema_type_of_kind : (t : SchemaType) → IsOf (schema_type_doc t) (value_of schema_type)
unfolding IsOf
schema_type_of_kind (types.Single w) = type_word_of_kind w
schema_type_of_kind (types.Array ws) = (refl, list_of_kind type_word_doc (word_of type_word) type_word_of_kind ws)
schema_type_of_kind types.AnyValue = refl
