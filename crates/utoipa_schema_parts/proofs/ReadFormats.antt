-- The formats of schemas, read and written.
use Rattle.std.proofs.Common.{◌≡◌, ℕ, List, option_map, refl}
use Rattle.serde_json.specs.Data.{Data, null, boolean, number, string, array, object}
use Rattle.serde_json.specs.Find.{as_str}
use Rattle.serde_json.specs.declared.value.Value.{the_lemmas}
use Rattle.utoipa_base.proofs.ByWords.{write-word}
use Rattle.utoipa_base.specs.Docs.{custom_doc}
use Rattle.utoipa_base.specs.Kinds.{known_format, schema_format}
use Rattle.utoipa_base.specs.Reading.{reader, read, read_format}
use Rattle.utoipa_base.specs.Words.{is_word}
use Rattle.utoipa_base.specs.Writing.{write}

-- a text is read as a known format where it is one, and else as a format of its own
pub read-schema_format : (d : Data) → read schema_format d ≡ option_map (λ s. read_format (is_word known_format s) s) (as_str d)
unfolding reader
read-schema_format null = refl
read-schema_format (boolean b) = refl
read-schema_format (number n) = refl
read-schema_format (string s) = refl
read-schema_format (array ds) = refl
read-schema_format (object ms) = refl

pub write-custom : (s : List ℕ) → write (custom_doc s) ≡ string s
unfolding write
write-custom s = refl

pub ruleset by_formats = (read-schema_format, write-word, write-custom, the_lemmas)
