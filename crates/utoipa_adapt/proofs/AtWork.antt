-- The rules that are told of a tree are those that change it: what is changed inside wakes no rule and silences none, nor does a rule another.
use Rattle.std.proofs.Common.{◌≡◌, ◌∙◌, refl, sym, ap, ℕ, List, [], ◌∷◌, ◌++◌, map, Bool, true, false, not, ◌&&◌, ◌||◌, if◌then◌else◌, Option, None, Some, option_map, codes, true≢false}
use Rattle.std.specs.List.{list_any}
use Rattle.std.specs.Str.{bytes_eq}
use Rattle.serde_json.specs.Data.{Data, null, boolean, number, string, array, object, no_items, item, no_members, member}
use Rattle.serde_json.specs.Find.{get}
use Rattle.utoipa_base.proofs.BoolFacts.{and_first, and_second}
use Rattle.utoipa_base.specs.Kinds.{open_api_object, operation_object, parameter_object, reference_object, http_auth_scheme, Kind, version, word_of, list_of, ref_or, named, schema, schema_type, array_items, additional_properties}
use Rattle.utoipa_base.specs.Words.{words}
use Rattle.utoipa_adapt.specs.Adapted.{own_kind, member_kind, within, made, Told, told_here, rules_at_work, at_work_in, changes_of_tree, at_tree}
use Rattle.utoipa_adapt.specs.Rules.{RuleSet, of_model, of_upgrade, Rule, schema_true, const_alone, items_absent, beside_reference, binary_format, byte_format, exclusive_minimum, idle_exclusive_minimum, exclusive_maximum, idle_exclusive_maximum, schema_example, null_in_enum, nullable_type, nullable_reference, idle_nullable, upgrades_of_schemas, versions_of_two, is_other_case, is_3_0, beside_enum, beside_items, combinations, is_combined_reference, combination, applies, changed, rules_in}
use Rattle.utoipa_adapt.specs.Trees.{has, lacks, has_any, has_two, is_true, is_false, is_text, is_one_reference, passes, text_is, says, only_one}
use Rattle.utoipa_adapt.proofs.ByRule.{or_true, and_not, enum_there, const_there}
use Rattle.utoipa_adapt.proofs.Same.{IsQuiet}
use Rattle.utoipa_adapt.proofs.Settled.{get_within, has_within, get_quiet, reference_made}
use Rattle.utoipa_adapt.proofs.ByUpgrade.{Agree, LooksAt, looked, looks_at, IsOfSchema, are_beside, beside, both, either, quiet_text, quiet_numeral, quiet_any, quiet_list, quiet_type, quiet_format, byte_after_binary, idle_after_minimum, idle_after_maximum, reference_after_type, idle_after_type, idle_after_reference}

-- ---- what a rule looks at, once what stands in the tree is changed

lacks_within : (set : RuleSet) (name : List ℕ) (d : Data) (k : Kind) → lacks name (within set d k) ≡ lacks name d
lacks_within set name (object ms) k = ap not (has_within set name (object ms) k)
lacks_within set name null k = refl
lacks_within set name (boolean b) k = refl
lacks_within set name (number n) k = refl
lacks_within set name (string s) k = refl
lacks_within set name (array ds) k = refl

any_within : (set : RuleSet) (names : List (List ℕ)) (d : Data) (k : Kind) → has_any names (within set d k) ≡ has_any names d
any_within set [] d k = refl
any_within set (name ∷ names) d k = either _ _ _ _ (has_within set name d k) (any_within set names d k)

text_within : (set : RuleSet) (test : List ℕ → Bool) (d : Data) (k : Kind) → is_text test (within set d k) ≡ is_text test d
text_within set test (object ms) k = refl
text_within set test null k = refl
text_within set test (boolean b) k = refl
text_within set test (number n) k = refl
text_within set test (string s) k = refl
text_within set test (array ds) k = refl

true_within : (set : RuleSet) (d : Data) (k : Kind) → is_true (within set d k) ≡ is_true d
true_within set (object ms) k = refl
true_within set null k = refl
true_within set (boolean b) k = refl
true_within set (number n) k = refl
true_within set (string s) k = refl
true_within set (array ds) k = refl

const_within : (d : Data) (k : Kind) → applies const_alone (within of_model d k) ≡ applies const_alone d
const_within d k =
    both _ _ _ _ (lacks_within of_model (codes "enum") d k) (both _ _ _ _ (has_within of_model (codes "const") d k) (ap not (any_within of_model beside_enum d k)))

items_within : (d : Data) (k : Kind) → IsQuiet of_model (member_kind k (codes "type")) → applies items_absent (within of_model d k) ≡ applies items_absent d
items_within d k q =
    both _ _ _ _ (lacks_within of_model (codes "items") d k) (both _ _ _ _ (ap (text_is (codes "array")) (get_quiet of_model (codes "type") d k q)) (ap not (any_within of_model beside_items d k)))

-- of the upgrade: rules that look at members in which nothing is looked at

abbrev AllQuiet : Kind → List (List ℕ) → Type 0
AllQuiet k [] = Unit
AllQuiet k (name ∷ names) = IsQuiet of_upgrade (member_kind k name) × AllQuiet k names

agree_within : (k : Kind) (names : List (List ℕ)) (d : Data) → AllQuiet k names → Agree names (within of_upgrade d k) d
agree_within k [] d q = tt
agree_within k (name ∷ names) d q = (get_quiet of_upgrade name d k q.0, agree_within k names d q.1)

-- and those that look at combinations, as whether they are there, and whether one is of a reference alone

format_within : (word name : List ℕ) (d : Data) (k : Kind) → IsQuiet of_upgrade (member_kind k (codes "format")) → IsQuiet of_upgrade (member_kind k (codes "type"))
    → says (codes "format") word (within of_upgrade d k) && (says (codes "type") (codes "string") (within of_upgrade d k) && not (has_any (name ∷ combinations) (within of_upgrade d k)))
    ≡ says (codes "format") word d && (says (codes "type") (codes "string") d && not (has_any (name ∷ combinations) d))
format_within word name d k f t =
    both _ _ _ _ (ap (text_is word) (get_quiet of_upgrade (codes "format") d k f)) (both _ _ _ _ (ap (text_is (codes "string")) (get_quiet of_upgrade (codes "type") d k t)) (ap not (any_within of_upgrade (name ∷ combinations) d k)))

abbrev schemas : Kind
schemas = list_of (ref_or schema)

only_mapped : (f : Data → Data) (a b c : Option Data) → only_one (option_map f a) (option_map f b) (option_map f c) ≡ option_map f (only_one a b c)
only_mapped f (Some x) None None = refl
only_mapped f None (Some x) None = refl
only_mapped f None None (Some x) = refl
only_mapped f None None None = refl
only_mapped f (Some x) (Some y) None = refl
only_mapped f (Some x) (Some y) (Some z) = refl
only_mapped f (Some x) None (Some z) = refl
only_mapped f None (Some y) (Some z) = refl

one_made : (d : Data) → is_one_reference (made of_upgrade schemas d) ≡ is_one_reference d
one_made (array no_items) = refl
one_made (array (item d no_items)) = reference_made of_upgrade (ref_or schema) d
one_made (array (item d (item e ds))) = refl
one_made null = refl
one_made (boolean b) = refl
one_made (number n) = refl
one_made (string s) = refl
one_made (object ms) = refl

passes_made : (o : Option Data) → passes is_one_reference (option_map (made of_upgrade schemas) o) ≡ passes is_one_reference o
passes_made None = refl
passes_made (Some d) = one_made d

combination_at : (name : List ℕ) (d : Data) (k : Kind) → member_kind k name ≡ schemas → get name (within of_upgrade d k) ≡ option_map (made of_upgrade schemas) (get name d)
combination_at name d k is = get_within of_upgrade name d k ∙ ap (λ j. option_map (made of_upgrade j) (get name d)) is

combined_within : (d : Data) (k : Kind) → IsOfSchema k → is_combined_reference (within of_upgrade d k) ≡ is_combined_reference d
combined_within d k same =
    let f = made of_upgrade schemas in
    let a = get (codes "allOf") d in
    let b = get (codes "oneOf") d in
    let c = get (codes "anyOf") d in
    let e = within of_upgrade d k in
    let x = combination_at (codes "allOf") d k (same (codes "allOf")) in
    let y = combination_at (codes "oneOf") d k (same (codes "oneOf")) in
    let z = combination_at (codes "anyOf") d k (same (codes "anyOf")) in
    let whole : combination e ≡ option_map f (combination d) =
    ap (λ o. only_one o (get (codes "oneOf") e) (get (codes "anyOf") e)) x ∙ ap (λ o. only_one (option_map f a) o (get (codes "anyOf") e)) y ∙ ap (only_one (option_map f a) (option_map f b)) z ∙ only_mapped f a b c in
    both _ _ _ _ (ap not (has_within of_upgrade (codes "type") d k)) (ap (passes is_one_reference) whole ∙ passes_made (combination d))

reference_within : (d : Data) (k : Kind) → IsOfSchema k → IsQuiet of_upgrade (member_kind k (codes "nullable")) → applies nullable_reference (within of_upgrade d k) ≡ applies nullable_reference d
reference_within d k same n = both _ _ _ _ (ap (passes is_true) (get_quiet of_upgrade (codes "nullable") d k n)) (combined_within d k same)

idle_within : (d : Data) (k : Kind) → IsOfSchema k → IsQuiet of_upgrade (member_kind k (codes "nullable")) → IsQuiet of_upgrade (member_kind k (codes "type")) → applies idle_nullable (within of_upgrade d k) ≡ applies idle_nullable d
idle_within d k same n t =
    let nullable = get_quiet of_upgrade (codes "nullable") d k n in
    let nothing = either _ _ _ _ (ap (text_is (codes "null")) (get_quiet of_upgrade (codes "type") d k t)) (both _ _ _ _ (ap not (has_within of_upgrade (codes "type") d k)) (ap not (combined_within d k same))) in
    either _ _ _ _ (ap (passes is_false) nullable) (both _ _ _ _ (ap (passes is_true) nullable) nothing)

two_within : (d : Data) (k : Kind) → has_two (within of_upgrade d k) ≡ has_two d
two_within (object no_members) k = refl
two_within (object (member name d no_members)) k = refl
two_within (object (member name d (member l e ms))) k = refl
two_within null k = refl
two_within (boolean b) k = refl
two_within (number n) k = refl
two_within (string s) k = refl
two_within (array ds) k = refl

alone_within : (d : Data) (k : Kind) → IsQuiet of_upgrade (member_kind k (codes "$ref")) → applies beside_reference (within of_upgrade d k) ≡ applies beside_reference d
alone_within d k q = both _ _ _ _ (ap (passes (is_text (λ s. true))) (get_quiet of_upgrade (codes "$ref") d k q)) (two_within d k)

-- ---- what a rule looks at, once another has changed the tree

-- a rule that comes after another applies as if that had not been there
abbrev Undisturbed : Rule → Rule → Type 0
Undisturbed r q = (d : Data) → applies r d ≡ true → applies q (changed r d) ≡ applies q d

const_after_true : (d : Data) → is_true d ≡ true → applies const_alone (object no_members) ≡ applies const_alone d
const_after_true (object ms) h = absurd (true≢false (sym h))
const_after_true d h = refl

items_after_true : (d : Data) → is_true d ≡ true → applies items_absent (object no_members) ≡ applies items_absent d
items_after_true (object ms) h = absurd (true≢false (sym h))
items_after_true d h = refl

-- beside a `const`, and beside an `enum`, an array gets no `items`
no_items_beside_const : (d : Data) → has (codes "const") d ≡ true → applies items_absent d ≡ false
no_items_beside_const d h =
    and_not (lacks (codes "items") d) (says (codes "type") (codes "array") d) (has_any beside_items d)
    (or_true (has (codes "oneOf") d) (has_any (codes "allOf" ∷ codes "anyOf" ∷ codes "const" ∷ codes "enum" ∷ codes "format" ∷ codes "readOnly" ∷ codes "writeOnly" ∷ codes "unevaluatedItems" ∷ []) d)
    (or_true (has (codes "allOf") d) (has_any (codes "anyOf" ∷ codes "const" ∷ codes "enum" ∷ codes "format" ∷ codes "readOnly" ∷ codes "writeOnly" ∷ codes "unevaluatedItems" ∷ []) d)
    (or_true (has (codes "anyOf") d) (has_any (codes "const" ∷ codes "enum" ∷ codes "format" ∷ codes "readOnly" ∷ codes "writeOnly" ∷ codes "unevaluatedItems" ∷ []) d)
    (ap (λ b. b || has_any (codes "enum" ∷ codes "format" ∷ codes "readOnly" ∷ codes "writeOnly" ∷ codes "unevaluatedItems" ∷ []) d) h))))

no_items_beside_enum : (d : Data) → has (codes "enum") d ≡ true → applies items_absent d ≡ false
no_items_beside_enum d h =
    and_not (lacks (codes "items") d) (says (codes "type") (codes "array") d) (has_any beside_items d)
    (or_true (has (codes "oneOf") d) (has_any (codes "allOf" ∷ codes "anyOf" ∷ codes "const" ∷ codes "enum" ∷ codes "format" ∷ codes "readOnly" ∷ codes "writeOnly" ∷ codes "unevaluatedItems" ∷ []) d)
    (or_true (has (codes "allOf") d) (has_any (codes "anyOf" ∷ codes "const" ∷ codes "enum" ∷ codes "format" ∷ codes "readOnly" ∷ codes "writeOnly" ∷ codes "unevaluatedItems" ∷ []) d)
    (or_true (has (codes "anyOf") d) (has_any (codes "const" ∷ codes "enum" ∷ codes "format" ∷ codes "readOnly" ∷ codes "writeOnly" ∷ codes "unevaluatedItems" ∷ []) d)
    (or_true (has (codes "const") d) (has_any (codes "enum" ∷ codes "format" ∷ codes "readOnly" ∷ codes "writeOnly" ∷ codes "unevaluatedItems" ∷ []) d)
    (ap (λ b. b || has_any (codes "format" ∷ codes "readOnly" ∷ codes "writeOnly" ∷ codes "unevaluatedItems" ∷ []) d) h)))))

items_after_const : (d : Data) → applies const_alone d ≡ true → applies items_absent (changed const_alone d) ≡ applies items_absent d
items_after_const d h = no_items_beside_enum (changed const_alone d) (enum_there d (const_there d h)) ∙ sym (no_items_beside_const d (const_there d h))

-- ---- some rules, one after the other

-- each applies to a tree as it does to the other
abbrev Alike : List Rule → Data → Data → Type 0
Alike [] e d = Unit
Alike (r ∷ rs) e d = (applies r e ≡ applies r d) × Alike rs e d

abbrev AllUndisturbed : Rule → List Rule → Type 0
AllUndisturbed r [] = Unit
AllUndisturbed r (q ∷ qs) = Undisturbed r q × AllUndisturbed r qs

abbrev Orderly : List Rule → Type 0
Orderly [] = Unit
Orderly (r ∷ rs) = AllUndisturbed r rs × Orderly rs

alike_after : (r : Rule) (rs : List Rule) (e d : Data) → AllUndisturbed r rs → applies r e ≡ true → Alike rs e d → Alike rs (changed r e) d
alike_after r [] e d s h alike = tt
alike_after r (q ∷ qs) e d s h alike = (s.0 e h ∙ alike.0, alike_after r qs e d s.1 h alike.1)

told_if : (b : Bool) (r : Rule) (rest : List Told) (changing staying : List Rule) → (b ≡ true → rest ≡ map at_tree changing) → (b ≡ false → rest ≡ map at_tree staying)
    → (if b then at_tree r ∷ rest else rest) ≡ map at_tree (if b then r ∷ changing else staying)
told_if true r rest changing staying applied other = ap (λ ts. at_tree r ∷ ts) (applied refl)
told_if false r rest changing staying applied other = other refl

told_in_order : (rs : List Rule) (e d : Data) → Orderly rs → Alike rs e d → told_here rs d ≡ map at_tree (rules_at_work rs e)
told_in_order [] e d orderly alike = refl
told_in_order (r ∷ rs) e d orderly alike =
    ap (λ b. if b then at_tree r ∷ told_here rs d else told_here rs d) (sym alike.0)
    ∙ told_if (applies r e) r (told_here rs d) (rules_at_work rs (changed r e)) (rules_at_work rs e) (λ h. told_in_order rs (changed r e) d orderly.1 (alike_after r rs e d orderly.0 h alike.1))
    (λ h. told_in_order rs e d orderly.1 alike.1)

-- ---- the rules by which each kind is adapted

two_orderly : Orderly (const_alone ∷ items_absent ∷ [])
two_orderly = ((items_after_const, tt), (tt, tt))

three_orderly : Orderly (schema_true ∷ const_alone ∷ items_absent ∷ [])
three_orderly = ((const_after_true, (items_after_true, tt)), two_orderly)

model_orderly : (k : Kind) → Orderly (rules_in of_model k)
model_orderly (named open_api_object) = (tt, tt)
model_orderly (named operation_object) = (tt, tt)
model_orderly (named parameter_object) = (tt, tt)
model_orderly version = (tt, tt)
model_orderly (word_of http_auth_scheme) = (tt, tt)
model_orderly schema = three_orderly
model_orderly array_items = three_orderly
model_orderly additional_properties = two_orderly
model_orderly k = tt

quiet_type_of_model : IsQuiet of_model schema_type
quiet_type_of_model = record { own = λ d. refl; items = refl; members = λ n. refl; rules = refl }

model_alike : (k : Kind) (d : Data) → Alike (rules_in of_model k) (within of_model d k) d
model_alike (named open_api_object) d = (lacks_within of_model (codes "paths") d (named open_api_object), tt)
model_alike (named operation_object) d = (lacks_within of_model (codes "responses") d (named operation_object), tt)
model_alike (named parameter_object) d = (lacks_within of_model (codes "required") d (named parameter_object), tt)
model_alike version d = (text_within of_model (λ s. list_any (bytes_eq s) versions_of_two) d version, tt)
model_alike (word_of http_auth_scheme) d = (text_within of_model (is_other_case (words http_auth_scheme)) d (word_of http_auth_scheme), tt)
model_alike schema d = (true_within of_model d schema, (const_within d schema, (items_within d schema quiet_type_of_model, tt)))
model_alike array_items d = (true_within of_model d array_items, (const_within d array_items, (items_within d array_items quiet_type_of_model, tt)))
model_alike additional_properties d = (const_within d additional_properties, (items_within d additional_properties quiet_type_of_model, tt))
model_alike k d = tt

-- ---- the rules by which each kind is upgraded

-- rules that look at nothing that a rule touches
abbrev none_touched : Rule → List Rule → Bool
none_touched r [] = true
none_touched r (q ∷ qs) = are_beside q r && none_touched r qs

-- such rules, and then others
then_undisturbed : (r : Rule) (xs ys : List Rule) → none_touched r xs ≡ true → AllUndisturbed r ys → AllUndisturbed r (xs ++ ys)
then_undisturbed r [] ys h rest = rest
then_undisturbed r (q ∷ xs) ys h rest = (λ d is. beside q r (and_first (are_beside q r) _ h) d, then_undisturbed r xs ys (and_second (are_beside q r) _ h) rest)

abbrev nullable_rules : List Rule
nullable_rules = null_in_enum ∷ nullable_type ∷ nullable_reference ∷ idle_nullable ∷ []

nullable_orderly : Orderly nullable_rules
nullable_orderly =
    (then_undisturbed null_in_enum (nullable_type ∷ nullable_reference ∷ idle_nullable ∷ []) [] refl tt, ((reference_after_type, (idle_after_type, tt)), ((idle_after_reference, tt), (tt, tt))))

abbrev after_minimum : List Rule
after_minimum = exclusive_maximum ∷ idle_exclusive_maximum ∷ schema_example ∷ nullable_rules

bounds_orderly : Orderly (exclusive_minimum ∷ idle_exclusive_minimum ∷ after_minimum)
bounds_orderly = (
  (idle_after_minimum, then_undisturbed exclusive_minimum after_minimum [] refl tt),
  (
    then_undisturbed idle_exclusive_minimum after_minimum [] refl tt,
    (
      (idle_after_maximum, then_undisturbed exclusive_maximum (schema_example ∷ nullable_rules) [] refl tt),
      (
        then_undisturbed idle_exclusive_maximum (schema_example ∷ nullable_rules) [] refl tt,
        (then_undisturbed schema_example nullable_rules [] refl tt, nullable_orderly),
      ),
    ),
  ),
)

upgrades_orderly : Orderly upgrades_of_schemas
upgrades_orderly = (
  (byte_after_binary, then_undisturbed binary_format (exclusive_minimum ∷ idle_exclusive_minimum ∷ after_minimum) [] refl tt),
  (then_undisturbed byte_format (exclusive_minimum ∷ idle_exclusive_minimum ∷ after_minimum) [] refl tt, bounds_orderly),
)

upgrade_orderly : (k : Kind) → Orderly (rules_in of_upgrade k)
upgrade_orderly version = (tt, tt)
upgrade_orderly (named reference_object) = (tt, tt)
upgrade_orderly schema = upgrades_orderly
upgrade_orderly array_items = upgrades_orderly
upgrade_orderly additional_properties = upgrades_orderly
upgrade_orderly k = tt

-- the members that the rules look at
pub record HasQuiet (k : Kind) : Type 0 where
  pub format : IsQuiet of_upgrade (member_kind k (codes "format"))
  pub kind : IsQuiet of_upgrade (member_kind k (codes "type"))
  pub nullable : IsQuiet of_upgrade (member_kind k (codes "nullable"))
  pub minimum : AllQuiet k (codes "exclusiveMinimum" ∷ codes "minimum" ∷ [])
  pub maximum : AllQuiet k (codes "exclusiveMaximum" ∷ codes "maximum" ∷ [])
  pub examples : AllQuiet k (codes "example" ∷ codes "examples" ∷ [])
  pub values : IsQuiet of_upgrade (member_kind k (codes "enum"))

alike_by : (r : Rule) (k : Kind) (d : Data) → LooksAt r (looked r) → AllQuiet k (looked r) → applies r (within of_upgrade d k) ≡ applies r d
alike_by r k d by q = by (within of_upgrade d k) d (agree_within k (looked r) d q)

upgrades_alike : (k : Kind) (d : Data) → IsOfSchema k → HasQuiet k → Alike upgrades_of_schemas (within of_upgrade d k) d
upgrades_alike k d same q = (
  format_within (codes "binary") (codes "contentMediaType") d k q.format q.kind,
  (
    format_within (codes "byte") (codes "contentEncoding") d k q.format q.kind,
    (
      alike_by exclusive_minimum k d (looks_at exclusive_minimum refl) q.minimum,
      (
        alike_by idle_exclusive_minimum k d (looks_at idle_exclusive_minimum refl) q.minimum,
        (
          alike_by exclusive_maximum k d (looks_at exclusive_maximum refl) q.maximum,
          (
            alike_by idle_exclusive_maximum k d (looks_at idle_exclusive_maximum refl) q.maximum,
            (
              alike_by schema_example k d (looks_at schema_example refl) q.examples,
              (
                alike_by null_in_enum k d (looks_at null_in_enum refl) (q.nullable, (q.kind, (q.values, tt))),
                (alike_by nullable_type k d (looks_at nullable_type refl) (q.nullable, (q.kind, tt)), (reference_within d k same q.nullable, (idle_within d k same q.nullable q.kind, tt))),
              ),
            ),
          ),
        ),
      ),
    ),
  ),
)

upgrade_alike : (k : Kind) (d : Data) → Alike (rules_in of_upgrade k) (within of_upgrade d k) d
upgrade_alike version d = (text_within of_upgrade is_3_0 d version, tt)
upgrade_alike (named reference_object) d = (alone_within d (named reference_object) quiet_text, tt)
upgrade_alike schema d =
    upgrades_alike schema d (λ name. refl) (record { format = quiet_format; kind = quiet_type; nullable = quiet_any; minimum = (quiet_numeral, (quiet_numeral, tt)); maximum = (quiet_numeral, (quiet_numeral, tt)); examples = (quiet_any, (quiet_list, tt)); values = quiet_list })
upgrade_alike array_items d =
    upgrades_alike array_items d (λ name. refl) (record { format = quiet_format; kind = quiet_type; nullable = quiet_any; minimum = (quiet_numeral, (quiet_numeral, tt)); maximum = (quiet_numeral, (quiet_numeral, tt)); examples = (quiet_any, (quiet_list, tt)); values = quiet_list })
upgrade_alike additional_properties d =
    upgrades_alike additional_properties d (λ name. refl) (record { format = quiet_format; kind = quiet_type; nullable = quiet_any; minimum = (quiet_numeral, (quiet_numeral, tt)); maximum = (quiet_numeral, (quiet_numeral, tt)); examples = (quiet_any, (quiet_list, tt)); values = quiet_list })
upgrade_alike k d = tt

-- ---- the rules of a set

orderly : (set : RuleSet) (k : Kind) → Orderly (rules_in set k)
orderly of_model k = model_orderly k
orderly of_upgrade k = upgrade_orderly k

alike : (set : RuleSet) (k : Kind) (d : Data) → Alike (rules_in set k) (within set d k) d
alike of_model k d = model_alike k d
alike of_upgrade k d = upgrade_alike k d

pub told_at_work : (set : RuleSet) (d : Data) (k : Kind) → changes_of_tree set k d ≡ map at_tree (at_work_in set k d)
told_at_work set d k = told_in_order (rules_in set (own_kind set k d)) (within set d (own_kind set k d)) d (orderly set (own_kind set k d)) (alike set (own_kind set k d) d)
