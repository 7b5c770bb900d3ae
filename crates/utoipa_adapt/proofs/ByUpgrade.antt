-- What each rule of the upgrade leaves behind, what it looks at, and which names it touches.
use Rattle.std.proofs.Common.{◌≡◌, ◌∙◌, refl, sym, ap, ℕ, List, [], ◌∷◌, Bool, true, false, not, ◌&&◌, ◌||◌, Option, None, Some, option_map, is_some, codes, true≢false}
use Rattle.std.proofs.lemmas.Slice.Eq.{bytes_eq-Decides}
use Rattle.std.specs.List.{list_any}
use Rattle.std.specs.Str.{bytes_eq}
use Rattle.serde_json.specs.Data.{Data, null, boolean, number, string, array, object, Items, no_items, item, no_members}
use Rattle.serde_json.specs.Find.{get, get_member}
use Rattle.utoipa_base.proofs.BoolFacts.{and_first, and_second}
use Rattle.utoipa_base.specs.Kinds.{Kind, text, any, numeral, list_of, ref_or, schema, schema_type, schema_format}
use Rattle.utoipa_check.specs.Misfits.{at_index}
use Rattle.utoipa_tables.specs.Tables.{schema_members}
use Rattle.utoipa_adapt.specs.Adapted.{kind_in, member_kind, under, told_within, items_told, changes}
use Rattle.utoipa_adapt.specs.Rules.{of_upgrade, Rule, version_of_3_0, beside_reference, binary_format, byte_format, exclusive_minimum, idle_exclusive_minimum, exclusive_maximum, idle_exclusive_maximum, schema_example, null_in_enum, nullable_type, nullable_reference, idle_nullable, combinations, is_nullable, is_combined_reference, adds_nothing, combination, null_type, null_schema, moved, applies, changed}
use Rattle.utoipa_adapt.specs.Trees.{has, has_any, has_two, is_true, is_false, is_number, is_text, lacks_null, is_one_reference, is_only_reference, passes, says, text_is, only_one, then_item, with_item, list_of_two, without_all, put_some}
use Rattle.utoipa_adapt.proofs.ByRule.{Settles, Stays, told_text}
use Rattle.utoipa_adapt.proofs.Edited.{NothingIn, edited_other, edited_gone, taken_gone, edited_there, put_some_there, edited_told, member_told, put_some_told}
use Rattle.utoipa_adapt.proofs.Same.{IsQuiet, told_quiet, both_empty, first_empty}

-- ---- tests

and_false : (a b : Bool) → b ≡ false → a && b ≡ false
and_false true b h = h
and_false false b h = refl

pub both : (a b c d : Bool) → a ≡ c → b ≡ d → a && b ≡ c && d
both a b c d x y = ap (λ e. e && b) x ∙ ap (λ e. c && e) y

pub either : (a b c d : Bool) → a ≡ c → b ≡ d → a || b ≡ c || d
either a b c d x y = ap (λ e. e || b) x ∙ ap (λ e. c || e) y

-- ---- what a rule looks at

-- two trees have the same under some names
abbrev pub Agree : List (List ℕ) → Data → Data → Type 0
Agree [] d e = Unit
Agree (name ∷ names) d e = (get name d ≡ get name e) × Agree names d e

-- a rule changes both or none of two trees that agree on some names
abbrev pub LooksAt : Rule → List (List ℕ) → Type 0
LooksAt r names = (d e : Data) → Agree names d e → applies r d ≡ applies r e

abbrev pub looked : Rule → List (List ℕ)
looked binary_format = codes "format" ∷ codes "type" ∷ codes "contentMediaType" ∷ codes "oneOf" ∷ codes "allOf" ∷ codes "anyOf" ∷ []
looked byte_format = codes "format" ∷ codes "type" ∷ codes "contentEncoding" ∷ codes "oneOf" ∷ codes "allOf" ∷ codes "anyOf" ∷ []
looked exclusive_minimum = codes "exclusiveMinimum" ∷ codes "minimum" ∷ []
looked idle_exclusive_minimum = codes "exclusiveMinimum" ∷ codes "minimum" ∷ []
looked exclusive_maximum = codes "exclusiveMaximum" ∷ codes "maximum" ∷ []
looked idle_exclusive_maximum = codes "exclusiveMaximum" ∷ codes "maximum" ∷ []
looked schema_example = codes "example" ∷ codes "examples" ∷ []
looked null_in_enum = codes "nullable" ∷ codes "type" ∷ codes "enum" ∷ []
looked nullable_type = codes "nullable" ∷ codes "type" ∷ []
looked nullable_reference = codes "nullable" ∷ codes "type" ∷ codes "allOf" ∷ codes "oneOf" ∷ codes "anyOf" ∷ []
looked idle_nullable = codes "nullable" ∷ codes "type" ∷ codes "allOf" ∷ codes "oneOf" ∷ codes "anyOf" ∷ []
looked r = []

-- the rules of the upgrade that look at the members of a schema
abbrev pub is_of_schemas : Rule → Bool
is_of_schemas binary_format = true
is_of_schemas byte_format = true
is_of_schemas exclusive_minimum = true
is_of_schemas idle_exclusive_minimum = true
is_of_schemas exclusive_maximum = true
is_of_schemas idle_exclusive_maximum = true
is_of_schemas schema_example = true
is_of_schemas null_in_enum = true
is_of_schemas nullable_type = true
is_of_schemas nullable_reference = true
is_of_schemas idle_nullable = true
is_of_schemas r = false

format_agrees : (word name : List ℕ) (d e : Data) → Agree (codes "format" ∷ codes "type" ∷ name ∷ codes "oneOf" ∷ codes "allOf" ∷ codes "anyOf" ∷ []) d e
    → says (codes "format") word d && (says (codes "type") (codes "string") d && not (has_any (name ∷ combinations) d)) ≡ says (codes "format") word e && (says (codes "type") (codes "string") e && not (has_any (name ∷ combinations) e))
format_agrees word name d e same =
    let beside : has_any (name ∷ combinations) d ≡ has_any (name ∷ combinations) e =
    either _ _ _ _ (ap is_some same.1.1.0) (either _ _ _ _ (ap is_some same.1.1.1.0) (either _ _ _ _ (ap is_some same.1.1.1.1.0) (ap (λ o. is_some o || false) same.1.1.1.1.1.0))) in
    both _ _ _ _ (ap (text_is word) same.0) (both _ _ _ _ (ap (text_is (codes "string")) same.1.0) (ap not beside))

excludes_agrees : (a b c d : Option Data) → a ≡ c → b ≡ d → passes is_true a && passes is_number b ≡ passes is_true c && passes is_number d
excludes_agrees a b c d x y = both _ _ _ _ (ap (passes is_true) x) (ap (passes is_number) y)

excludes_nothing_agrees : (a b c d : Option Data) → a ≡ c → b ≡ d → passes is_false a || (passes is_true a && not (is_some b)) ≡ passes is_false c || (passes is_true c && not (is_some d))
excludes_nothing_agrees a b c d x y = either _ _ _ _ (ap (passes is_false) x) (both _ _ _ _ (ap (passes is_true) x) (ap (λ o. not (is_some o)) y))

abbrev is_other_type : Option Data → Bool
is_other_type o = passes (is_text (λ s. not (bytes_eq s (codes "null")))) o

combined_agrees : (a b c d e f g h : Option Data) → a ≡ e → b ≡ f → c ≡ g → d ≡ h → not (is_some a) && passes is_one_reference (only_one b c d) ≡ not (is_some e) && passes is_one_reference (only_one f g h)
combined_agrees a b c d e f g h w x y z =
    both _ _ _ _ (ap (λ o. not (is_some o)) w) (ap (passes is_one_reference) (ap (λ o. only_one o c d) x ∙ ap (λ o. only_one f o d) y ∙ ap (only_one f g) z))

nothing_agrees : (d e : Data) → Agree (codes "type" ∷ codes "allOf" ∷ codes "oneOf" ∷ codes "anyOf" ∷ []) d e → adds_nothing d ≡ adds_nothing e
nothing_agrees d e same =
    either _ _ _ _ (ap (text_is (codes "null")) same.0) (both _ _ _ _ (ap (λ o. not (is_some o)) same.0) (ap not (combined_agrees _ _ _ _ _ _ _ _ same.0 same.1.0 same.1.1.0 same.1.1.1.0)))

pub looks_at : (r : Rule) → is_of_schemas r ≡ true → LooksAt r (looked r)
looks_at binary_format is d e same = format_agrees (codes "binary") (codes "contentMediaType") d e same
looks_at byte_format is d e same = format_agrees (codes "byte") (codes "contentEncoding") d e same
looks_at exclusive_minimum is d e same = excludes_agrees _ _ _ _ same.0 same.1.0
looks_at idle_exclusive_minimum is d e same = excludes_nothing_agrees _ _ _ _ same.0 same.1.0
looks_at exclusive_maximum is d e same = excludes_agrees _ _ _ _ same.0 same.1.0
looks_at idle_exclusive_maximum is d e same = excludes_nothing_agrees _ _ _ _ same.0 same.1.0
looks_at schema_example is d e same = both _ _ _ _ (ap is_some same.0) (ap (λ o. not (is_some o)) same.1.0)
looks_at null_in_enum is d e same = both _ _ _ _ (both _ _ _ _ (ap (passes is_true) same.0) (ap is_other_type same.1.0)) (ap (passes lacks_null) same.1.1.0)
looks_at nullable_type is d e same = both _ _ _ _ (ap (passes is_true) same.0) (ap is_other_type same.1.0)
looks_at nullable_reference is d e same = both _ _ _ _ (ap (passes is_true) same.0) (combined_agrees _ _ _ _ _ _ _ _ same.1.0 same.1.1.0 same.1.1.1.0 same.1.1.1.1.0)
looks_at idle_nullable is d e same =
    either _ _ _ _ (ap (passes is_false) same.0) (both _ _ _ _ (ap (passes is_true) same.0) (nothing_agrees d e same.1))
looks_at r is d e same = absurd (true≢false (sym is))

-- ---- which names a rule touches

abbrev pub touched : Rule → List (List ℕ)
touched binary_format = codes "contentMediaType" ∷ codes "format" ∷ []
touched byte_format = codes "contentEncoding" ∷ codes "format" ∷ []
touched exclusive_minimum = codes "exclusiveMinimum" ∷ codes "minimum" ∷ []
touched idle_exclusive_minimum = codes "exclusiveMinimum" ∷ codes "exclusiveMinimum" ∷ []
touched exclusive_maximum = codes "exclusiveMaximum" ∷ codes "maximum" ∷ []
touched idle_exclusive_maximum = codes "exclusiveMaximum" ∷ codes "exclusiveMaximum" ∷ []
touched schema_example = codes "examples" ∷ codes "example" ∷ []
touched null_in_enum = codes "enum" ∷ codes "enum" ∷ []
touched nullable_type = codes "type" ∷ codes "type" ∷ codes "nullable" ∷ []
touched nullable_reference = codes "anyOf" ∷ codes "allOf" ∷ codes "oneOf" ∷ codes "anyOf" ∷ codes "nullable" ∷ []
touched idle_nullable = codes "nullable" ∷ codes "nullable" ∷ []
touched r = []

pub touches : (r : Rule) → is_of_schemas r ≡ true → (q : List ℕ) (d : Data) → list_any (bytes_eq q) (touched r) ≡ false → get q (changed r d) ≡ get q d
touches binary_format is q d h = edited_other q (codes "format" ∷ []) (codes "contentMediaType") (Some (string (codes "application/octet-stream"))) d h
touches byte_format is q d h = edited_other q (codes "format" ∷ []) (codes "contentEncoding") (Some (string (codes "base64"))) d h
touches exclusive_minimum is q d h = edited_other q (codes "minimum" ∷ []) (codes "exclusiveMinimum") _ d h
touches idle_exclusive_minimum is q d h = edited_other q (codes "exclusiveMinimum" ∷ []) (codes "exclusiveMinimum") None d h
touches exclusive_maximum is q d h = edited_other q (codes "maximum" ∷ []) (codes "exclusiveMaximum") _ d h
touches idle_exclusive_maximum is q d h = edited_other q (codes "exclusiveMaximum" ∷ []) (codes "exclusiveMaximum") None d h
touches schema_example is q d h = edited_other q (codes "example" ∷ []) (codes "examples") _ d h
touches null_in_enum is q d h = edited_other q (codes "enum" ∷ []) (codes "enum") _ d h
touches nullable_type is q d h = edited_other q (codes "type" ∷ codes "nullable" ∷ []) (codes "type") _ d h
touches nullable_reference is q d h = edited_other q (codes "allOf" ∷ codes "oneOf" ∷ codes "anyOf" ∷ codes "nullable" ∷ []) (codes "anyOf") _ d h
touches idle_nullable is q d h = edited_other q (codes "nullable" ∷ []) (codes "nullable") None d h
touches r is q d h = absurd (true≢false (sym is))

-- whether two lists have no name in common
abbrev pub are_apart : List (List ℕ) → List (List ℕ) → Bool
are_apart [] ts = true
are_apart (name ∷ names) ts = not (list_any (bytes_eq name) ts) && are_apart names ts

not_there : (b : Bool) → not b ≡ true → b ≡ false
not_there true h = absurd (true≢false (sym h))
not_there false h = refl

agree_apart : (q : Rule) (names : List (List ℕ)) (d : Data) → is_of_schemas q ≡ true → are_apart names (touched q) ≡ true → Agree names (changed q d) d
agree_apart q [] d is h = tt
agree_apart q (name ∷ names) d is h =
    (touches q is name d (not_there _ (and_first (not (list_any (bytes_eq name) (touched q))) _ h)), agree_apart q names d is (and_second (not (list_any (bytes_eq name) (touched q))) _ h))

-- two rules of which the second touches nothing that the first looks at
abbrev pub are_beside : Rule → Rule → Bool
are_beside r q = is_of_schemas r && (is_of_schemas q && are_apart (looked r) (touched q))

pub beside : (r q : Rule) → are_beside r q ≡ true → (d : Data) → applies r (changed q d) ≡ applies r d
beside r q h d =
    let is = and_second (is_of_schemas r) _ h in
    looks_at r (and_first (is_of_schemas r) _ h) (changed q d) d (agree_apart q (looked r) d (and_first (is_of_schemas q) _ is) (and_second (is_of_schemas q) _ is))

-- ---- what is gone after a rule

binary_gone : (d : Data) → get (codes "format") (changed binary_format d) ≡ None
binary_gone d = edited_gone (codes "format") (codes "format" ∷ []) (codes "contentMediaType") (Some (string (codes "application/octet-stream"))) d refl refl

byte_gone : (d : Data) → get (codes "format") (changed byte_format d) ≡ None
byte_gone d = edited_gone (codes "format") (codes "format" ∷ []) (codes "contentEncoding") (Some (string (codes "base64"))) d refl refl

minimum_gone : (d : Data) → get (codes "minimum") (changed exclusive_minimum d) ≡ None
minimum_gone d = edited_gone (codes "minimum") (codes "minimum" ∷ []) (codes "exclusiveMinimum") _ d refl refl

maximum_gone : (d : Data) → get (codes "maximum") (changed exclusive_maximum d) ≡ None
maximum_gone d = edited_gone (codes "maximum") (codes "maximum" ∷ []) (codes "exclusiveMaximum") _ d refl refl

idle_minimum_gone : (d : Data) → get (codes "exclusiveMinimum") (changed idle_exclusive_minimum d) ≡ None
idle_minimum_gone d = taken_gone (codes "exclusiveMinimum") (codes "exclusiveMinimum" ∷ []) (codes "exclusiveMinimum") d refl

idle_maximum_gone : (d : Data) → get (codes "exclusiveMaximum") (changed idle_exclusive_maximum d) ≡ None
idle_maximum_gone d = taken_gone (codes "exclusiveMaximum") (codes "exclusiveMaximum" ∷ []) (codes "exclusiveMaximum") d refl

example_gone : (d : Data) → get (codes "example") (changed schema_example d) ≡ None
example_gone d = edited_gone (codes "example") (codes "example" ∷ []) (codes "examples") _ d refl refl

-- after each rule that goes by it, `nullable` is gone
type_nullable_gone : (d : Data) → get (codes "nullable") (changed nullable_type d) ≡ None
type_nullable_gone d = edited_gone (codes "nullable") (codes "type" ∷ codes "nullable" ∷ []) (codes "type") _ d refl refl

reference_nullable_gone : (d : Data) → get (codes "nullable") (changed nullable_reference d) ≡ None
reference_nullable_gone d = edited_gone (codes "nullable") (codes "allOf" ∷ codes "oneOf" ∷ codes "anyOf" ∷ codes "nullable" ∷ []) (codes "anyOf") _ d refl refl

idle_nullable_gone : (d : Data) → get (codes "nullable") (changed idle_nullable d) ≡ None
idle_nullable_gone d = taken_gone (codes "nullable") (codes "nullable" ∷ []) (codes "nullable") d refl

-- a rule by which `nullable` goes leaves nothing to the rules that look at it

no_null_in_enum : (d : Data) → get (codes "nullable") d ≡ None → applies null_in_enum d ≡ false
no_null_in_enum d h = ap (λ o. (passes is_true o && is_other_type (get (codes "type") d)) && passes lacks_null (get (codes "enum") d)) h

no_nullable_type : (d : Data) → get (codes "nullable") d ≡ None → applies nullable_type d ≡ false
no_nullable_type d h = ap (λ o. passes is_true o && is_other_type (get (codes "type") d)) h

no_nullable_reference : (d : Data) → get (codes "nullable") d ≡ None → applies nullable_reference d ≡ false
no_nullable_reference d h = ap (λ o. passes is_true o && is_combined_reference d) h

no_idle_nullable : (d : Data) → get (codes "nullable") d ≡ None → applies idle_nullable d ≡ false
no_idle_nullable d h = ap (λ o. passes is_false o || (passes is_true o && adds_nothing d)) h

no_idle : (a : Option Data) (b : Option Data) → a ≡ None → passes is_false a || (passes is_true a && not (is_some b)) ≡ false
no_idle a b h = ap (λ o. passes is_false o || (passes is_true o && not (is_some b))) h

-- ---- a rule that has changed a tree

-- the members of a schema, whichever kind it is looked at as
abbrev pub IsOfSchema : Kind → Type 0
IsOfSchema k = (name : List ℕ) → member_kind k name ≡ kind_in name schema_members

pub quiet_text : IsQuiet of_upgrade text
quiet_text = record { own = λ d. refl; items = refl; members = λ n. refl; rules = refl }

pub quiet_numeral : IsQuiet of_upgrade numeral
quiet_numeral = record { own = λ d. refl; items = refl; members = λ n. refl; rules = refl }

pub quiet_any : IsQuiet of_upgrade any
quiet_any = record { own = λ d. refl; items = refl; members = λ n. refl; rules = refl }

pub quiet_list : IsQuiet of_upgrade (list_of any)
quiet_list = record { own = λ d. refl; items = refl; members = λ n. refl; rules = refl }

pub quiet_type : IsQuiet of_upgrade schema_type
quiet_type = record { own = λ d. refl; items = refl; members = λ n. refl; rules = refl }

pub quiet_format : IsQuiet of_upgrade schema_format
quiet_format = record { own = λ d. refl; items = refl; members = λ n. refl; rules = refl }

-- what is put where nothing is looked at
nothing_put : (j k : Kind) (o : Option Data) → IsQuiet of_upgrade j → k ≡ j → NothingIn of_upgrade k o
nothing_put j k None q is = tt
nothing_put j k (Some v) q is = ap (λ i. changes of_upgrade i v) is ∙ told_quiet of_upgrade j v q

pub binary_settles : (k : Kind) → IsOfSchema k → Settles of_upgrade binary_format k
binary_settles k of = record {
  inside = λ d is h. edited_told of_upgrade (codes "format" ∷ []) (codes "contentMediaType") (Some (string (codes "application/octet-stream"))) d k (nothing_put text (member_kind k (codes "contentMediaType")) (Some (string (codes "application/octet-stream"))) quiet_text (of (codes "contentMediaType"))) h;
  done = λ d is. ap (λ o. text_is (codes "binary") o && (says (codes "type") (codes "string") (changed binary_format d) && not (has_any (codes "contentMediaType" ∷ combinations) (changed binary_format d)))) (binary_gone d);
}

pub byte_settles : (k : Kind) → IsOfSchema k → Settles of_upgrade byte_format k
byte_settles k of = record {
  inside = λ d is h. edited_told of_upgrade (codes "format" ∷ []) (codes "contentEncoding") (Some (string (codes "base64"))) d k (nothing_put text (member_kind k (codes "contentEncoding")) (Some (string (codes "base64"))) quiet_text (of (codes "contentEncoding"))) h;
  done = λ d is. ap (λ o. text_is (codes "byte") o && (says (codes "type") (codes "string") (changed byte_format d) && not (has_any (codes "contentEncoding" ∷ combinations) (changed byte_format d)))) (byte_gone d);
}

pub minimum_settles : (k : Kind) → IsOfSchema k → Settles of_upgrade exclusive_minimum k
minimum_settles k of = record {
  inside = λ d is h. edited_told of_upgrade (codes "minimum" ∷ []) (codes "exclusiveMinimum") _ d k (nothing_put numeral _ _ quiet_numeral (of (codes "exclusiveMinimum"))) h;
  done = λ d is. and_false _ _ (ap (passes is_number) (minimum_gone d));
}

pub maximum_settles : (k : Kind) → IsOfSchema k → Settles of_upgrade exclusive_maximum k
maximum_settles k of = record {
  inside = λ d is h. edited_told of_upgrade (codes "maximum" ∷ []) (codes "exclusiveMaximum") _ d k (nothing_put numeral _ _ quiet_numeral (of (codes "exclusiveMaximum"))) h;
  done = λ d is. and_false _ _ (ap (passes is_number) (maximum_gone d));
}

pub idle_minimum_settles : (k : Kind) → Settles of_upgrade idle_exclusive_minimum k
idle_minimum_settles k = record {
  inside = λ d is h. edited_told of_upgrade (codes "exclusiveMinimum" ∷ []) (codes "exclusiveMinimum") None d k tt h;
  done = λ d is. no_idle _ (get (codes "minimum") (changed idle_exclusive_minimum d)) (idle_minimum_gone d);
}

pub idle_maximum_settles : (k : Kind) → Settles of_upgrade idle_exclusive_maximum k
idle_maximum_settles k = record {
  inside = λ d is h. edited_told of_upgrade (codes "exclusiveMaximum" ∷ []) (codes "exclusiveMaximum") None d k tt h;
  done = λ d is. no_idle _ (get (codes "maximum") (changed idle_exclusive_maximum d)) (idle_maximum_gone d);
}

pub example_settles : (k : Kind) → IsOfSchema k → Settles of_upgrade schema_example k
example_settles k of = record {
  inside = λ d is h. edited_told of_upgrade (codes "example" ∷ []) (codes "examples") _ d k (nothing_put (list_of any) _ _ quiet_list (of (codes "examples"))) h;
  done = λ d is. ap (λ o. is_some o && not (has (codes "examples") (changed schema_example d))) (example_gone d);
}

or_not : (a b : Bool) → not b ≡ false → not (a || b) ≡ false
or_not true b h = refl
or_not false b h = h

ends_in_null : (ds : Items) → lacks_null (array (then_item ds null)) ≡ false
ends_in_null no_items = refl
ends_in_null (item d ds) = or_not _ _ (ends_in_null ds)

has_null : (v : Data) → lacks_null (with_item null v) ≡ false
has_null (array ds) = ends_in_null ds
has_null null = refl
has_null (boolean b) = refl
has_null (number n) = refl
has_null (string s) = refl
has_null (object ms) = refl

passes_null : (o : Option Data) → passes lacks_null (option_map (with_item null) o) ≡ false
passes_null None = refl
passes_null (Some v) = has_null v

enum_has_null : (d : Data) → passes lacks_null (get (codes "enum") (changed null_in_enum d)) ≡ false
enum_has_null (object ms) = ap (passes lacks_null) (edited_there (codes "enum" ∷ []) (codes "enum") _ ms refl) ∙ passes_null (get_member (codes "enum") ms)
enum_has_null d = refl

pub null_settles : (k : Kind) → IsOfSchema k → Settles of_upgrade null_in_enum k
null_settles k of = record {
  inside = λ d is h. edited_told of_upgrade (codes "enum" ∷ []) (codes "enum") _ d k (nothing_put (list_of any) _ _ quiet_list (of (codes "enum"))) h;
  done = λ d is. and_false _ _ (enum_has_null d);
}

pub type_settles : (k : Kind) → IsOfSchema k → Settles of_upgrade nullable_type k
type_settles k of = record {
  inside = λ d is h. edited_told of_upgrade (codes "type" ∷ codes "nullable" ∷ []) (codes "type") _ d k (nothing_put schema_type _ _ quiet_type (of (codes "type"))) h;
  done = λ d is. no_nullable_type (changed nullable_type d) (type_nullable_gone d);
}

pub idle_settles : (k : Kind) → Settles of_upgrade idle_nullable k
idle_settles k = record {
  inside = λ d is h. edited_told of_upgrade (codes "nullable" ∷ []) (codes "nullable") None d k tt h;
  done = λ d is. no_idle_nullable (changed idle_nullable d) (idle_nullable_gone d);
}

-- a reference or null: the combination of which the reference is the only one was looked at as it is now

abbrev schemas : Kind
schemas = list_of (ref_or schema)

only_one_nothing : (k : Kind) (a b c : Option Data) → NothingIn of_upgrade k a → NothingIn of_upgrade k b → NothingIn of_upgrade k c → NothingIn of_upgrade k (only_one a b c)
only_one_nothing k (Some x) None None a b c = a
only_one_nothing k None (Some x) None a b c = b
only_one_nothing k None None (Some x) a b c = c
only_one_nothing k None None None a b c = tt
only_one_nothing k (Some x) (Some y) z a b c = tt
only_one_nothing k (Some x) None (Some z) a b c = tt
only_one_nothing k None (Some y) (Some z) a b c = tt

or_null_told : (ds : Items) → is_only_reference ds ≡ true → items_told of_upgrade 0 ds (ref_or schema) ≡ [] → items_told of_upgrade 0 (then_item ds null_schema) (ref_or schema) ≡ []
or_null_told no_items is h = absurd (true≢false (sym is))
or_null_told (item d no_items) is h = both_empty _ _ (first_empty (under (at_index 0) (changes of_upgrade (ref_or schema) d)) _ h) refl
or_null_told (item d (item e ds)) is h = absurd (true≢false (sym is))

or_null_nothing : (o : Option Data) → passes is_one_reference o ≡ true → NothingIn of_upgrade schemas o → NothingIn of_upgrade schemas (option_map (with_item null_schema) o)
or_null_nothing None is h = tt
or_null_nothing (Some (array ds)) is h = both_empty _ [] (or_null_told ds is (first_empty _ [] h)) refl
or_null_nothing (Some null) is h = absurd (true≢false (sym is))
or_null_nothing (Some (boolean b)) is h = absurd (true≢false (sym is))
or_null_nothing (Some (number n)) is h = absurd (true≢false (sym is))
or_null_nothing (Some (string s)) is h = absurd (true≢false (sym is))
or_null_nothing (Some (object ms)) is h = absurd (true≢false (sym is))

nothing_at : (j k : Kind) (o : Option Data) → k ≡ j → NothingIn of_upgrade k o → NothingIn of_upgrade j o
nothing_at j k None is h = tt
nothing_at j k (Some v) is h = ap (λ i. changes of_upgrade i v) (sym is) ∙ h

combined : (d : Data) → applies nullable_reference d ≡ true → passes is_one_reference (combination d) ≡ true
combined d h = and_second (not (has (codes "type") d)) _ (and_second (is_nullable d) _ h)

reference_inside : (k : Kind) → IsOfSchema k → (d : Data) → applies nullable_reference d ≡ true → told_within of_upgrade d k ≡ [] → told_within of_upgrade (changed nullable_reference d) k ≡ []
reference_inside k of d is h =
    let all_of = nothing_at schemas _ (get (codes "allOf") d) (of (codes "allOf")) (member_told of_upgrade (codes "allOf") d k h) in
    let one_of = nothing_at schemas _ (get (codes "oneOf") d) (of (codes "oneOf")) (member_told of_upgrade (codes "oneOf") d k h) in
    let any_of = nothing_at schemas _ (get (codes "anyOf") d) (of (codes "anyOf")) (member_told of_upgrade (codes "anyOf") d k h) in
    let nothing = or_null_nothing (combination d) (combined d is) (only_one_nothing schemas _ _ _ all_of one_of any_of) in
    edited_told of_upgrade (codes "allOf" ∷ codes "oneOf" ∷ codes "anyOf" ∷ codes "nullable" ∷ []) (codes "anyOf") _ d k (nothing_at _ schemas (option_map (with_item null_schema) (combination d)) (sym (of (codes "anyOf"))) nothing) h

pub reference_settles : (k : Kind) → IsOfSchema k → Settles of_upgrade nullable_reference k
reference_settles k of = record { inside = reference_inside k of; done = λ d is. no_nullable_reference (changed nullable_reference d) (reference_nullable_gone d) }

-- a version of 3.1 is none of 3.0

version_done : (d : Data) → applies version_of_3_0 (changed version_of_3_0 d) ≡ false
version_done (string s) = refl
version_done null = refl
version_done (boolean b) = refl
version_done (number n) = refl
version_done (array ds) = refl
version_done (object ms) = refl

pub version_settles : (k : Kind) → Settles of_upgrade version_of_3_0 k
version_settles k = record { inside = λ d is h. told_text of_upgrade (λ s. codes "3.1.0") k d h; done = λ d is. version_done d }

-- a reference alone

one_is_left : (o : Option Data) → has_two (object (put_some (codes "$ref") o no_members)) ≡ false
one_is_left None = refl
one_is_left (Some v) = refl

alone_done : (d : Data) → has_two (changed beside_reference d) ≡ false
alone_done (object ms) = one_is_left (get_member (codes "$ref") ms)
alone_done null = refl
alone_done (boolean b) = refl
alone_done (number n) = refl
alone_done (string s) = refl
alone_done (array ds) = refl

alone_inside : (k : Kind) → member_kind k (codes "$ref") ≡ text → (d : Data) → told_within of_upgrade d k ≡ [] → told_within of_upgrade (changed beside_reference d) k ≡ []
alone_inside k is (object ms) h = put_some_told of_upgrade (codes "$ref") (get_member (codes "$ref") ms) no_members k (nothing_put text _ _ quiet_text is) refl
alone_inside k is d h = h

pub alone_settles : (k : Kind) → member_kind k (codes "$ref") ≡ text → Settles of_upgrade beside_reference k
alone_settles k is = record { inside = λ d applied h. alone_inside k is d h; done = λ d applied. and_false _ _ (alone_done d) }

-- ---- a rule beside one that touches what it looks at

no_format : (word name : List ℕ) (d : Data) → get (codes "format") d ≡ None → says (codes "format") word d && (says (codes "type") (codes "string") d && not (has_any (name ∷ combinations) d)) ≡ false
no_format word name d h = ap (λ o. text_is word o && (says (codes "type") (codes "string") d && not (has_any (name ∷ combinations) d))) h

no_texts : (word name : List ℕ) (d : Data) → says (codes "type") (codes "string") d ≡ false → says (codes "format") word d && (says (codes "type") (codes "string") d && not (has_any (name ∷ combinations) d)) ≡ false
no_texts word name d h = and_false _ _ (ap (λ b. b && not (has_any (name ∷ combinations) d)) h)

-- the type of a schema is a list after null was added to it
no_word : (word : List ℕ) (o : Option Data) → text_is word (option_map (λ t. list_of_two t null_type) o) ≡ false
no_word word None = refl
no_word word (Some v) = refl

type_is_list : (word : List ℕ) (d : Data) → says (codes "type") word (changed nullable_type d) ≡ false
type_is_list word (object ms) = ap (text_is word) (edited_there (codes "type" ∷ codes "nullable" ∷ []) (codes "type") _ ms refl) ∙ no_word word (get_member (codes "type") ms)
type_is_list word d = refl

untyped : (word : List ℕ) (o : Option Data) → not (is_some o) ≡ true → text_is word o ≡ false
untyped word None h = refl
untyped word (Some v) h = absurd (true≢false (sym h))

no_type : (d : Data) → applies nullable_reference d ≡ true → not (has (codes "type") d) ≡ true
no_type d h = and_first (not (has (codes "type") d)) _ (and_second (is_nullable d) _ h)

type_is_none : (word : List ℕ) (d : Data) → applies nullable_reference d ≡ true → says (codes "type") word (changed nullable_reference d) ≡ false
type_is_none word d is = ap (text_is word) (touches nullable_reference refl (codes "type") d refl) ∙ untyped word (get (codes "type") d) (no_type d is)

pub binary_beside_byte : Stays binary_format byte_format
binary_beside_byte d is h = no_format (codes "binary") (codes "contentMediaType") (changed byte_format d) (byte_gone d)

pub binary_beside_type : Stays binary_format nullable_type
binary_beside_type d is h = no_texts (codes "binary") (codes "contentMediaType") (changed nullable_type d) (type_is_list (codes "string") d)

pub binary_beside_reference : Stays binary_format nullable_reference
binary_beside_reference d is h = no_texts (codes "binary") (codes "contentMediaType") (changed nullable_reference d) (type_is_none (codes "string") d is)

pub byte_beside_type : Stays byte_format nullable_type
byte_beside_type d is h = no_texts (codes "byte") (codes "contentEncoding") (changed nullable_type d) (type_is_list (codes "string") d)

pub byte_beside_reference : Stays byte_format nullable_reference
byte_beside_reference d is h = no_texts (codes "byte") (codes "contentEncoding") (changed nullable_reference d) (type_is_none (codes "string") d is)

pub minimum_beside_idle : Stays exclusive_minimum idle_exclusive_minimum
minimum_beside_idle d is h = ap (λ o. passes is_true o && passes is_number (get (codes "minimum") (changed idle_exclusive_minimum d))) (idle_minimum_gone d)

pub maximum_beside_idle : Stays exclusive_maximum idle_exclusive_maximum
maximum_beside_idle d is h = ap (λ o. passes is_true o && passes is_number (get (codes "maximum") (changed idle_exclusive_maximum d))) (idle_maximum_gone d)

pub null_beside_type : Stays null_in_enum nullable_type
null_beside_type d is h = no_null_in_enum (changed nullable_type d) (type_nullable_gone d)

pub null_beside_reference : Stays null_in_enum nullable_reference
null_beside_reference d is h = no_null_in_enum (changed nullable_reference d) (reference_nullable_gone d)

pub null_beside_idle : Stays null_in_enum idle_nullable
null_beside_idle d is h = no_null_in_enum (changed idle_nullable d) (idle_nullable_gone d)

pub type_beside_reference : Stays nullable_type nullable_reference
type_beside_reference d is h = no_nullable_type (changed nullable_reference d) (reference_nullable_gone d)

pub type_beside_idle : Stays nullable_type idle_nullable
type_beside_idle d is h = no_nullable_type (changed idle_nullable d) (idle_nullable_gone d)

pub reference_beside_idle : Stays nullable_reference idle_nullable
reference_beside_idle d is h = no_nullable_reference (changed idle_nullable d) (idle_nullable_gone d)

-- ---- a rule after one that touches what it looks at: it applies as if that had not been there

other_word : (word other : List ℕ) (o : Option Data) → bytes_eq word other ≡ false → text_is word o ≡ true → text_is other o ≡ false
other_word word other (Some (string s)) apart h = ap (λ t. bytes_eq t other) ((bytes_eq-Decides s word).0 h) ∙ apart
other_word word other None apart h = refl
other_word word other (Some null) apart h = refl
other_word word other (Some (boolean b)) apart h = refl
other_word word other (Some (number n)) apart h = refl
other_word word other (Some (array ds)) apart h = refl
other_word word other (Some (object ms)) apart h = refl

pub byte_after_binary : (d : Data) → applies binary_format d ≡ true → applies byte_format (changed binary_format d) ≡ applies byte_format d
byte_after_binary d h =
    let none = other_word (codes "binary") (codes "byte") (get (codes "format") d) refl (and_first (says (codes "format") (codes "binary") d) _ h) in
    no_format (codes "byte") (codes "contentEncoding") (changed binary_format d) (binary_gone d)
    ∙ sym (ap (λ b. b && (says (codes "type") (codes "string") d && not (has_any (codes "contentEncoding" ∷ combinations) d))) none)

true_is_not_false : (o : Option Data) → passes is_true o ≡ true → passes is_false o ≡ false
true_is_not_false (Some (boolean b)) h = ap not h
true_is_not_false None h = refl
true_is_not_false (Some null) h = refl
true_is_not_false (Some (number n)) h = refl
true_is_not_false (Some (string s)) h = refl
true_is_not_false (Some (array ds)) h = refl
true_is_not_false (Some (object ms)) h = refl

number_is_there : (o : Option Data) → passes is_number o ≡ true → is_some o ≡ true
number_is_there None h = h
number_is_there (Some v) h = refl

-- a number excludes nothing
number_is_idle : (o : Option Data) (b : Bool) → passes is_number o ≡ true → passes is_false o || (passes is_true o && b) ≡ false
number_is_idle (Some (number n)) b h = refl
number_is_idle None b h = refl
number_is_idle (Some null) b h = refl
number_is_idle (Some (boolean c)) b h = absurd (true≢false (sym h))
number_is_idle (Some (string s)) b h = refl
number_is_idle (Some (array ds)) b h = refl
number_is_idle (Some (object ms)) b h = refl

moved_there : (from to : List ℕ) (d : Data) → is_some (get from d) ≡ true → get to (moved from to d) ≡ get from d
moved_there from to (object ms) h = put_some_there to (get_member from ms) (without_all (from ∷ []) ms) h
moved_there from to d h = refl

idle_before : (a b : Option Data) → passes is_true a ≡ true → is_some b ≡ true → passes is_false a || (passes is_true a && not (is_some b)) ≡ false
idle_before a b x y = either _ _ _ _ (true_is_not_false a x) (and_false (passes is_true a) _ (ap not y))

idle_after_moved : (keyword bound : List ℕ) (d : Data) → passes is_true (get keyword d) && passes is_number (get bound d) ≡ true
    → passes is_false (get keyword (moved bound keyword d)) || (passes is_true (get keyword (moved bound keyword d)) && not (has bound (moved bound keyword d)))
    ≡ passes is_false (get keyword d) || (passes is_true (get keyword d) && not (has bound d))
idle_after_moved keyword bound d h =
    let is = and_second (passes is_true (get keyword d)) _ h in
    let there = number_is_there (get bound d) is in
    ap (λ o. passes is_false o || (passes is_true o && not (has bound (moved bound keyword d)))) (moved_there bound keyword d there) ∙ number_is_idle (get bound d) _ is
    ∙ sym (idle_before (get keyword d) (get bound d) (and_first (passes is_true (get keyword d)) _ h) there)

pub idle_after_minimum : (d : Data) → applies exclusive_minimum d ≡ true → applies idle_exclusive_minimum (changed exclusive_minimum d) ≡ applies idle_exclusive_minimum d
idle_after_minimum d h = idle_after_moved (codes "exclusiveMinimum") (codes "minimum") d h

pub idle_after_maximum : (d : Data) → applies exclusive_maximum d ≡ true → applies idle_exclusive_maximum (changed exclusive_maximum d) ≡ applies idle_exclusive_maximum d
idle_after_maximum d h = idle_after_moved (codes "exclusiveMaximum") (codes "maximum") d h

typed : (o : Option Data) → is_other_type o ≡ true → not (is_some o) ≡ false
typed None h = absurd (true≢false (sym h))
typed (Some v) h = refl

other_than_null : (o : Option Data) → is_other_type o ≡ true → text_is (codes "null") o ≡ false
other_than_null (Some (string s)) h = not_there _ h
other_than_null None h = refl
other_than_null (Some null) h = refl
other_than_null (Some (boolean b)) h = refl
other_than_null (Some (number n)) h = refl
other_than_null (Some (array ds)) h = refl
other_than_null (Some (object ms)) h = refl

pub reference_after_type : (d : Data) → applies nullable_type d ≡ true → applies nullable_reference (changed nullable_type d) ≡ applies nullable_reference d
reference_after_type d h =
    let there = typed (get (codes "type") d) (and_second (is_nullable d) _ h) in
    no_nullable_reference (changed nullable_type d) (type_nullable_gone d) ∙ sym (and_false (is_nullable d) _ (ap (λ b. b && passes is_one_reference (combination d)) there))

-- `nullable` is no idle one where it is true and adds null to something
effective : (d : Data) → is_nullable d ≡ true → adds_nothing d ≡ false → applies idle_nullable d ≡ false
effective d is h = either _ _ _ _ (true_is_not_false (get (codes "nullable") d) is) (and_false (is_nullable d) _ h)

pub idle_after_type : (d : Data) → applies nullable_type d ≡ true → applies idle_nullable (changed nullable_type d) ≡ applies idle_nullable d
idle_after_type d h =
    let other = and_second (is_nullable d) _ h in
    let adds = either _ _ _ _ (other_than_null (get (codes "type") d) other) (ap (λ b. b && not (is_combined_reference d)) (typed (get (codes "type") d) other)) in
    no_idle_nullable (changed nullable_type d) (type_nullable_gone d) ∙ sym (effective d (and_first (is_nullable d) _ h) adds)

pub idle_after_reference : (d : Data) → applies nullable_reference d ≡ true → applies idle_nullable (changed nullable_reference d) ≡ applies idle_nullable d
idle_after_reference d h =
    let adds = either _ _ _ _ (untyped (codes "null") (get (codes "type") d) (no_type d h)) (and_false (not (has (codes "type") d)) _ (ap not (and_second (is_nullable d) _ h))) in
    no_idle_nullable (changed nullable_reference d) (reference_nullable_gone d) ∙ sym (effective d (and_first (is_nullable d) _ h) adds)
