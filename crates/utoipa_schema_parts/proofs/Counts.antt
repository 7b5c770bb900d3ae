-- The parts of schemas hold no schema.
use Rattle.std.proofs.Common.{◌≡◌, [], ◌∷◌, refl, arith}
use Rattle.utoipa_base.proofs.ByWords.{schema_count-word}
use Rattle.utoipa_base.specs.Docs.{entries_of_list}
use Rattle.utoipa_base.specs.Values.{schema_count, docs_schema_count, entries_schema_count}
use Rattle.utoipa_base.specs.Views.{text_of, pairs_of}
use Rattle.utoipa_schema_parts.specs.Discriminator.{Mapping, discriminator_doc}
use Rattle.utoipa_schema_parts.specs.Format.{known_format_text, known_format_doc, schema_format_doc}
use Rattle.utoipa_schema_parts.specs.Types.{type_word_text, type_word_doc, schema_type_doc}
use Rattle.utoipa_schema_parts.specs.declared.discriminator.Discriminator.{Discriminator}
use Rattle.utoipa_schema_parts.specs.declared.format.KnownFormat.{KnownFormat}
use Rattle.utoipa_schema_parts.specs.declared.format.SchemaFormat.{SchemaFormat}
use Rattle.utoipa_schema_parts.specs.declared.format.SchemaFormat.TheVariants as formats
use Rattle.utoipa_schema_parts.specs.declared.types.SchemaType.{SchemaType}
use Rattle.utoipa_schema_parts.specs.declared.types.SchemaType.TheVariants as types
use Rattle.utoipa_schema_parts.specs.declared.types.TypeWord.{TypeWord}

pub type_word_counts_none : (w : TypeWord) → schema_count (type_word_doc w) ≡ 0
type_word_counts_none w = schema_count-word (type_word_text w)

pub schema_type_counts_none : (t : SchemaType) → schema_count (schema_type_doc t) ≡ 0
unfolding schema_count
schema_type_counts_none (types.Single w) = refl
schema_type_counts_none (types.Array ws) = refl
schema_type_counts_none types.AnyValue = refl

pub known_format_counts_none : (f : KnownFormat) → schema_count (known_format_doc f) ≡ 0
known_format_counts_none f = schema_count-word (known_format_text f)

pub schema_format_counts_none : (f : SchemaFormat) → schema_count (schema_format_doc f) ≡ 0
unfolding schema_count
schema_format_counts_none (formats.KnownFormat f) = refl
schema_format_counts_none (formats.Custom s) = refl

-- texts hold no schema, in a map either
mapping_counts_none : (es : Mapping) → entries_schema_count (entries_of_list (pairs_of text_of es)) ≡ 0
unfolding schema_count entries_schema_count
mapping_counts_none [] = refl
mapping_counts_none (e ∷ es) = omega (arith, mapping_counts_none es)

pub discriminator_counts_none : (d : Discriminator) → schema_count (discriminator_doc d) ≡ 0
unfolding schema_count docs_schema_count
discriminator_counts_none d = omega (arith, mapping_counts_none d.mapping.entries)
