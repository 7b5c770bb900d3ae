-- Contents in JSON that are of a schema of the components.
use Rattle.std.specs.Prelude.{◌≡◌, ℕ, List, Some, codes, String, string_bytes, string_cmp, string_eq}
use Rattle.std.specs.BTreeMap.{insert_entry}
use Rattle.std.specs.declared.alloc.Global.{Global}
use Rattle.indexmap.specs.IndexMap.{insert_entry as insert_in_order}
use Rattle.utoipa_base.specs.Fill.{Pairs}
use Rattle.utoipa_base.specs.References.{schema_location, StandsAlone}
use Rattle.utoipa_base.specs.declared.refs.Ref.{Ref}
use Rattle.utoipa_base.specs.declared.refs.RefOr.{RefOr}
use Rattle.utoipa_base.specs.declared.refs.RefOr.TheVariants as places
use Rattle.utoipa_media.specs.Builders.{ContentFields, IsContentOf, content_place}
use Rattle.utoipa_media.specs.declared.types.Content.{Content, out-Content}

-- the content is of the schema of that name in the components, by a reference, and nothing else is said of it
abbrev pub IsOfNamedSchema : List ℕ → ContentFields → Type 0
IsOfNamedSchema name content =
    (reference : Ref)
    × (string_bytes reference.ref_location ≡ schema_location name)
    × StandsAlone reference
    × IsContentOf (Some (places.Ref reference)) content

-- the text is the media type of JSON
abbrev pub IsJsonMediaType : String Global → Type 0
IsJsonMediaType media_type = string_bytes media_type ≡ codes "application/json"

-- the contents, with a content of the schema of that name put under the media type of JSON
abbrev pub PutsJsonSchema : List ℕ → Pairs (RefOr Content) → Pairs (RefOr Content) → Type 0
PutsJsonSchema name old new =
    (media_type : String Global)
    × (content : Content)
    × IsJsonMediaType media_type
    × IsOfNamedSchema name (out-Content content)
    × (new ≡ insert_entry string_cmp old media_type (content_place content))

-- the same for contents that keep their order
abbrev pub PutsJsonSchemaInOrder : List ℕ → Pairs (RefOr Content) → Pairs (RefOr Content) → Type 0
PutsJsonSchemaInOrder name old new =
    (media_type : String Global)
    × (content : Content)
    × IsJsonMediaType media_type
    × IsOfNamedSchema name (out-Content content)
    × (new ≡ insert_in_order string_eq old media_type (content_place content))
