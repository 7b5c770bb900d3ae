-- What a misfit says, in words.
use Rattle.std.specs.Prelude.{ℕ, List, [], ◌∷◌, ◌++◌, codes}
use Rattle.std.specs.List.{flat_map}
use Rattle.utoipa_base.specs.Kinds.{Kind, text, flag, whole, numeral, any, word_of, version, list_of, map_of, ordered_map_of, entries_of, ref_or, named, schema, schema_type, schema_format, array_items, additional_properties, security_scheme, api_key, flows}
use Rattle.utoipa_tables.specs.Titles.{type_title}
use Rattle.utoipa_check.specs.Dropped as losses
use Rattle.utoipa_check.specs.Misfits.{Cause, absent, expected, unknown_word, no_alternative, unknown_name, fraction, Misfit}
use Rattle.utoipa_check.specs.Pointers.{shown_pointer}
use Rattle.utoipa_check.specs.References.{Reference}
use Rattle.utoipa_check.specs.Referring.{State, dangling, resolved, external}
use Rattle.utoipa_check.specs.Shown.{shown}

-- what is expected of a tree of a kind
abbrev pub expectation : Kind → List ℕ
expectation text = codes "a string"
expectation flag = codes "true or false"
expectation whole = codes "an integer from 0 to 18446744073709551615"
expectation numeral = codes "an integer from -9223372036854775808 to 18446744073709551615"
expectation any = codes "anything"
expectation (word_of v) = codes "a string"
expectation version = codes "a version 3.1 or 3.2"
expectation (list_of k) = codes "an array"
expectation (map_of k) = codes "an object"
expectation (ordered_map_of k) = codes "an object"
expectation (entries_of k) = codes "an object"
expectation (ref_or k) = expectation k
expectation (named n) = type_title n
expectation schema = codes "a Schema Object"
expectation schema_type = codes "a type, an array of types or null"
expectation schema_format = codes "a string"
expectation array_items = codes "a Schema Object or false"
expectation additional_properties = codes "a Schema Object, true or false"
expectation security_scheme = codes "a Security Scheme Object"
expectation api_key = codes "a Security Scheme Object of `apiKey`"
expectation flows = codes "an OAuth Flows Object"

abbrev pub quoted : List ℕ → List ℕ
quoted word = codes "`" ++ shown word ++ codes "`"

-- a word after another
abbrev pub next_word : List ℕ → List ℕ
next_word word = codes ", `" ++ shown word ++ codes "`"

-- words, each in quotation marks, with a comma between them
abbrev pub words_text : List (List ℕ) → List ℕ
words_text [] = []
words_text (w ∷ ws) = quoted w ++ flat_map next_word ws

-- what is expected of trees of a kind, after another kind
abbrev pub next_kind : Kind → List ℕ
next_kind k = codes " or " ++ expectation k

-- what is expected of trees of some kinds, with `or` between them
abbrev pub kinds_text : List Kind → List ℕ
kinds_text [] = []
kinds_text (k ∷ ks) = expectation k ++ flat_map next_kind ks

abbrev pub cause_text : Cause → List ℕ
cause_text (absent name) = codes "the member `" ++ shown name ++ codes "` is required"
cause_text (expected k) = expectation k ++ codes " is expected"
cause_text (unknown_word ws) = codes "one of these words is expected: " ++ words_text ws
cause_text (no_alternative ks) = codes "this is not " ++ kinds_text ks
cause_text (unknown_name ns) = codes "this name is none of " ++ words_text ns
cause_text fraction = codes "the number is not an integer of 64 bits"

-- the JSON Pointer of the place, and the cause
abbrev pub misfit_text : Misfit → List ℕ
misfit_text m = shown_pointer m.0 ++ codes ": " ++ cause_text m.1

-- ---- references, and what is dropped

abbrev pub state_text : State → List ℕ
state_text dangling = codes "leads to nothing"
state_text resolved = codes "leads to a place of the document"
state_text external = codes "leads out of the document"

-- the JSON Pointer of the place, the text that stands there, and what has become of the reference
abbrev pub reference_text : Reference → List ℕ
reference_text r = shown_pointer r.0.0 ++ codes ": `" ++ shown r.0.1.1 ++ codes "` " ++ state_text r.1

abbrev pub loss_text : losses.Loss → List ℕ
loss_text losses.absent = codes "absent"
loss_text losses.left_out = codes "left out as empty"
loss_text losses.changed = codes "another value"

-- the JSON Pointer of the place, and what has become of the tree there
abbrev pub dropped_text : losses.Dropped → List ℕ
dropped_text d = shown_pointer d.0 ++ codes ": " ++ loss_text d.1
