-- The schemas of the components that a document refers to.
use Rattle.std.specs.Prelude.{ℕ, List, [], ◌∷◌, ◌==◌, Bool, false, if◌then◌else◌, Option, None, Some, option_map, codes}
use Rattle.std.specs.List.{list_any, before_first}
use Rattle.std.specs.Str.{bytes_eq, is_utf8}
use Rattle.percent_encoding.specs.Percent.{percent_decode}
use Rattle.utoipa_base.specs.References.{behind}
use Rattle.utoipa_check.specs.Pointers.{escaped}
use Rattle.utoipa_check.specs.References.{Reference}
use Rattle.utoipa_check.specs.Referring.{Way, by_reference, by_mapping, by_requirement}

-- the first token of what stands behind a `/` of a JSON Pointer (RFC 6901, section 3)
abbrev pub token : List ℕ → List ℕ
token rest = before_first (λ b. b == 47) rest

-- the name, as the pointer has it, of the schema that a JSON Pointer leads to or into
abbrev pub schema_token : (pointer : List ℕ) → Option (List ℕ)
schema_token pointer = option_map token (behind (codes "/components/schemas/") pointer)

-- by a fragment that has been percent-decoded (RFC 6901, section 6): no schema has a name that is not UTF-8
abbrev pub fragment_token : List ℕ → Option (List ℕ)
fragment_token bs = if is_utf8 bs then schema_token bs else None

-- `#` and a fragment, which is percent-decoded (RFC 3986, section 2.1); any other reference leads out of the document
abbrev pub reference_token : List ℕ → Option (List ℕ)
reference_token [] = None
reference_token (c ∷ cs) = if c == 35 then fragment_token (percent_decode cs) else None

-- a text of a discriminator's mapping (Discriminator Object: section 4.8.25): `#` and a fragment, or else the name of a schema
abbrev pub mapping_token : List ℕ → Option (List ℕ)
mapping_token [] = Some []
mapping_token (c ∷ cs) = if c == 35 then fragment_token (percent_decode cs) else Some (c ∷ cs)

-- a security requirement names no schema
abbrev pub mention_token : Way → List ℕ → Option (List ℕ)
mention_token by_reference s = reference_token s
mention_token by_mapping s = mapping_token s
mention_token by_requirement s = None

-- whether it is this token
abbrev pub is_token : List ℕ → Option (List ℕ) → Bool
is_token t None = false
is_token t (Some u) = bytes_eq u t

-- whether one of these references leads to the schema of this name, as a JSON Pointer has it, or into it
abbrev pub is_mentioned : List Reference → List ℕ → Bool
is_mentioned rs t = list_any (λ r. is_token t (mention_token r.0.1.0 r.0.1.1)) rs

-- whether one of these references leads to the schema of this name, or into it
abbrev pub is_used : List Reference → (name : List ℕ) → Bool
is_used rs name = is_mentioned rs (escaped name)
