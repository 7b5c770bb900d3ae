-- The words of each vocabulary, in the order of the variants.
use Rattle.std.specs.Prelude.{ℕ, List, [], ◌∷◌, Bool, codes}
use Rattle.std.specs.Str.{bytes_eq}
use Rattle.std.specs.List.{list_any}
use Rattle.utoipa_base.specs.Kinds.{Vocabulary, type_word, known_format, http_method, parameter_in, parameter_style, http_auth_scheme}

abbrev pub words : Vocabulary → List (List ℕ)
-- JSON Schema 2020-12, Validation, section 6.1.1
words type_word = codes "object" ∷ codes "string" ∷ codes "integer" ∷ codes "number" ∷ codes "boolean" ∷ codes "array" ∷ codes "null" ∷ []
-- OpenAPI 3.1, section 4.4, JSON Schema 2020-12, Validation, section 7.3, and `byte` and `binary` of OpenAPI 3.0
words known_format =
    codes "int32"
    ∷ codes "int64"
    ∷ codes "float"
    ∷ codes "double"
    ∷ codes "byte"
    ∷ codes "binary"
    ∷ codes "time"
    ∷ codes "date"
    ∷ codes "date-time"
    ∷ codes "duration"
    ∷ codes "password"
    ∷ codes "email"
    ∷ codes "idn-email"
    ∷ codes "hostname"
    ∷ codes "idn-hostname"
    ∷ codes "ipv4"
    ∷ codes "ipv6"
    ∷ codes "uri-template"
    ∷ codes "json-pointer"
    ∷ codes "relative-json-pointer"
    ∷ codes "regex" ∷ []
-- OpenAPI 3.1, section 4.8.9
words http_method =
    codes "get" ∷ codes "post" ∷ codes "put" ∷ codes "delete" ∷ codes "options" ∷ codes "head" ∷ codes "patch" ∷ codes "trace" ∷ []
-- OpenAPI 3.1, section 4.8.12; `querystring` from 3.2
words parameter_in = codes "query" ∷ codes "path" ∷ codes "header" ∷ codes "cookie" ∷ codes "querystring" ∷ []
-- OpenAPI 3.1, section 4.8.12; `cookie` from 3.2
words parameter_style =
    codes "matrix"
    ∷ codes "label"
    ∷ codes "form"
    ∷ codes "simple"
    ∷ codes "spaceDelimited"
    ∷ codes "pipeDelimited"
    ∷ codes "deepObject"
    ∷ codes "cookie" ∷ []
-- the HTTP Authentication Scheme Registry, of OpenAPI 3.1, section 4.8.27
words http_auth_scheme =
    codes "basic"
    ∷ codes "bearer"
    ∷ codes "digest"
    ∷ codes "hoba"
    ∷ codes "mutual"
    ∷ codes "negotiate"
    ∷ codes "oauth"
    ∷ codes "scram-sha-1"
    ∷ codes "scram-sha-256"
    ∷ codes "vapid" ∷ []

-- whether a text is a word
abbrev pub is_word : Vocabulary → List ℕ → Bool
is_word v s = list_any (bytes_eq s) (words v)
