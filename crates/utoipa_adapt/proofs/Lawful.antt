-- The rules of each kind, one after the other: what they leave behind settles, since each rule's does and none wakes one before it.
use Rattle.std.proofs.Common.{◌≡◌, ◌∙◌, refl, sym, ap, List, [], ◌∷◌, ◌++◌, Bool, true, false, ◌&&◌, if◌then◌else◌, Option, None, Some, is_some, codes, true≢false}
use Rattle.std.specs.Str.{str_to_ascii_lowercase}
use Rattle.serde_json.specs.Data.{Data, boolean, object, no_members}
use Rattle.serde_json.specs.Find.{get_member}
use Rattle.utoipa_base.proofs.BoolFacts.{apart, and_first, and_second}
use Rattle.utoipa_base.specs.Kinds.{open_api_object, operation_object, parameter_object, reference_object, http_auth_scheme, Kind, any, version, word_of, list_of, named, schema, array_items, additional_properties}
use Rattle.utoipa_adapt.specs.Adapted.{member_kind, Told, told_here, told_within, changes}
use Rattle.utoipa_adapt.specs.Rules.{RuleSet, of_model, of_upgrade, Rule, paths_absent, responses_absent, required_absent, version_of_two, scheme_in_other_case, schema_true, const_alone, items_absent, version_of_3_0, beside_reference, binary_format, byte_format, exclusive_minimum, idle_exclusive_minimum, exclusive_maximum, idle_exclusive_maximum, schema_example, null_in_enum, nullable_type, nullable_reference, idle_nullable, upgrades_of_schemas, applies, changed, by_rule, by_rules, rules_in}
use Rattle.utoipa_adapt.specs.Trees.{has, is_true, put_some}
use Rattle.utoipa_adapt.proofs.ByRule.{Settles, paths_settle, responses_settle, required_settles, version_settles, scheme_settles, true_settles, const_settles, items_settle, Stays, true_beside_const, true_beside_items, const_beside_items, has_given, has_text}
use Rattle.utoipa_adapt.proofs.Edited.{edited_other}
use Rattle.utoipa_adapt.proofs.Same.{IsQuiet}
use Rattle.utoipa_adapt.proofs.ByUpgrade as upgrades
use Rattle.utoipa_adapt.proofs.ByUpgrade.{IsOfSchema, is_of_schemas, are_beside, beside, touches, binary_settles, byte_settles, minimum_settles, idle_minimum_settles, maximum_settles, idle_maximum_settles, example_settles, null_settles, type_settles, reference_settles, idle_settles, alone_settles, binary_beside_byte, binary_beside_type, binary_beside_reference, byte_beside_type, byte_beside_reference, minimum_beside_idle, maximum_beside_idle, null_beside_type, null_beside_reference, null_beside_idle, type_beside_reference, type_beside_idle, reference_beside_idle}

-- ---- some rules, one after the other

abbrev AllStay : Rule → List Rule → Type 0
AllStay r [] = Unit
AllStay r (q ∷ qs) = Stays r q × AllStay r qs

-- each rule settles, and what it does not change it does not change after those that follow
abbrev pub Lawful : RuleSet → List Rule → Kind → Type 0
Lawful set [] k = Unit
Lawful set (r ∷ rs) k = Settles set r k × AllStay r rs × Lawful set rs k

stays_if : (b : Bool) (r : Rule) (d new : Data) → applies r d ≡ false → (b ≡ true → applies r new ≡ false) → applies r (if b then new else d) ≡ false
stays_if true r d new h n = n refl
stays_if false r d new h n = h

all_stay : (r : Rule) (rs : List Rule) (d : Data) → AllStay r rs → applies r d ≡ false → applies r (by_rules rs d) ≡ false
all_stay r [] d s h = h
all_stay r (q ∷ qs) d s h = all_stay r qs (by_rule q d) s.1 (stays_if (applies q d) r d (changed q d) h (λ is. s.0 d is h))

inside_if : (set : RuleSet) (b : Bool) (k : Kind) (d new : Data) → told_within set d k ≡ [] → (b ≡ true → told_within set new k ≡ []) → told_within set (if b then new else d) k ≡ []
inside_if set true k d new h n = n refl
inside_if set false k d new h n = h

done_if : (b : Bool) (r : Rule) (d new : Data) → applies r d ≡ b → (b ≡ true → applies r new ≡ false) → applies r (if b then new else d) ≡ false
done_if true r d new is n = n refl
done_if false r d new is n = is

none_here : (b : Bool) (t : Told) (rest : List Told) → b ≡ false → rest ≡ [] → (if b then t ∷ rest else rest) ≡ []
none_here b t rest is h = ap (λ b. if b then t ∷ rest else rest) is ∙ h

pub rules_settle : (set : RuleSet) (rs : List Rule) (k : Kind) (d : Data) → Lawful set rs k → told_within set d k ≡ [] → (told_within set (by_rules rs d) k ≡ []) × (told_here rs (by_rules rs d) ≡ [])
rules_settle set [] k d lawful h = (h, refl)
rules_settle set (r ∷ rs) k d lawful h =
    let next = by_rule r d in
    let inside = inside_if set (applies r d) k d (changed r d) h (λ is. lawful.0.inside d is h) in
    let done = done_if (applies r d) r d (changed r d) refl (lawful.0.done d) in
    let rest = rules_settle set rs k next lawful.2 inside in
    (rest.0, none_here (applies r (by_rules rs next)) ([], r) (told_here rs (by_rules rs next)) (all_stay r rs next lawful.1 done) rest.1)

-- ---- a reference stays one, and what is none stays none

true_is_none : (d : Data) → is_true d ≡ true → has (codes "$ref") (object no_members) ≡ has (codes "$ref") d
true_is_none (object ms) h = absurd (true≢false (sym h))
true_is_none d h = refl

reference_left : (o : Option Data) → is_some (get_member (codes "$ref") (put_some (codes "$ref") o no_members)) ≡ is_some o
reference_left None = refl
reference_left (Some v) = refl

alone_stays : (d : Data) → has (codes "$ref") (changed beside_reference d) ≡ has (codes "$ref") d
alone_stays (object ms) = reference_left (get_member (codes "$ref") ms)
alone_stays d = refl

reference_stays : (r : Rule) (d : Data) → applies r d ≡ true → has (codes "$ref") (changed r d) ≡ has (codes "$ref") d
reference_stays paths_absent d h = has_given (codes "$ref") (codes "paths") (object no_members) d (apart (codes "$ref") (codes "paths") refl)
reference_stays responses_absent d h = has_given (codes "$ref") (codes "responses") (object no_members) d (apart (codes "$ref") (codes "responses") refl)
reference_stays required_absent d h = has_given (codes "$ref") (codes "required") (boolean false) d (apart (codes "$ref") (codes "required") refl)
reference_stays version_of_two d h = has_text (codes "$ref") (λ s. s ++ codes ".0") d
reference_stays scheme_in_other_case d h = has_text (codes "$ref") str_to_ascii_lowercase d
reference_stays schema_true d h = true_is_none d h
reference_stays const_alone d h = ap is_some (edited_other (codes "$ref") (codes "const" ∷ []) (codes "enum") _ d refl)
reference_stays items_absent d h = has_given (codes "$ref") (codes "items") (object no_members) d (apart (codes "$ref") (codes "items") refl)
reference_stays version_of_3_0 d h = has_text (codes "$ref") (λ s. codes "3.1.0") d
reference_stays beside_reference d h = alone_stays d
reference_stays binary_format d h = ap is_some (touches binary_format refl (codes "$ref") d refl)
reference_stays byte_format d h = ap is_some (touches byte_format refl (codes "$ref") d refl)
reference_stays exclusive_minimum d h = ap is_some (touches exclusive_minimum refl (codes "$ref") d refl)
reference_stays idle_exclusive_minimum d h = ap is_some (touches idle_exclusive_minimum refl (codes "$ref") d refl)
reference_stays exclusive_maximum d h = ap is_some (touches exclusive_maximum refl (codes "$ref") d refl)
reference_stays idle_exclusive_maximum d h = ap is_some (touches idle_exclusive_maximum refl (codes "$ref") d refl)
reference_stays schema_example d h = ap is_some (touches schema_example refl (codes "$ref") d refl)
reference_stays null_in_enum d h = ap is_some (touches null_in_enum refl (codes "$ref") d refl)
reference_stays nullable_type d h = ap is_some (touches nullable_type refl (codes "$ref") d refl)
reference_stays nullable_reference d h = ap is_some (touches nullable_reference refl (codes "$ref") d refl)
reference_stays idle_nullable d h = ap is_some (touches idle_nullable refl (codes "$ref") d refl)

reference_if : (b : Bool) (d new : Data) → (b ≡ true → has (codes "$ref") new ≡ has (codes "$ref") d) → has (codes "$ref") (if b then new else d) ≡ has (codes "$ref") d
reference_if true d new h = h refl
reference_if false d new h = refl

pub reference_kept : (rs : List Rule) (d : Data) → has (codes "$ref") (by_rules rs d) ≡ has (codes "$ref") d
reference_kept [] d = refl
reference_kept (r ∷ rs) d = reference_kept rs (by_rule r d) ∙ reference_if (applies r d) d (changed r d) (reference_stays r d)

-- ---- the rules by which each kind is adapted

quiet_enum : IsQuiet of_model (list_of any)
quiet_enum = record { own = λ d. refl; items = refl; members = λ n. refl; rules = refl }

additional_lawful : (k : Kind) → IsQuiet of_model (member_kind k (codes "enum")) → changes of_model (member_kind k (codes "items")) (object no_members) ≡ [] → Lawful of_model (const_alone ∷ items_absent ∷ []) k
additional_lawful k enum items = (const_settles k enum, (const_beside_items, tt), (items_settle k items, tt, tt))

schema_lawful : (k : Kind) → IsQuiet of_model (member_kind k (codes "enum")) → changes of_model (member_kind k (codes "items")) (object no_members) ≡ [] → Lawful of_model (schema_true ∷ const_alone ∷ items_absent ∷ []) k
schema_lawful k enum items = (true_settles k, (true_beside_const, (true_beside_items, tt)), additional_lawful k enum items)

model_lawful : (k : Kind) → Lawful of_model (rules_in of_model k) k
model_lawful (named open_api_object) = (paths_settle (named open_api_object) refl, tt, tt)
model_lawful (named operation_object) = (responses_settle (named operation_object) refl, tt, tt)
model_lawful (named parameter_object) = (required_settles (named parameter_object) refl, tt, tt)
model_lawful version = (version_settles version, tt, tt)
model_lawful (word_of http_auth_scheme) = (scheme_settles (word_of http_auth_scheme), tt, tt)
model_lawful schema = schema_lawful schema quiet_enum refl
model_lawful array_items = schema_lawful array_items quiet_enum refl
model_lawful additional_properties = additional_lawful additional_properties quiet_enum refl
model_lawful k = tt

-- ---- the rules by which each kind is upgraded

-- rules that touch nothing that a rule looks at
abbrev all_beside : Rule → List Rule → Bool
all_beside r [] = true
all_beside r (q ∷ qs) = are_beside r q && all_beside r qs

-- such rules, and then others
then_stay : (r : Rule) (xs ys : List Rule) → all_beside r xs ≡ true → AllStay r ys → AllStay r (xs ++ ys)
then_stay r [] ys h rest = rest
then_stay r (q ∷ xs) ys h rest =
    (λ d is not. beside r q (and_first (are_beside r q) _ h) d ∙ not, then_stay r xs ys (and_second (are_beside r q) _ h) rest)

-- the rules from the first that looks at `nullable`
abbrev nullable_rules : List Rule
nullable_rules = null_in_enum ∷ nullable_type ∷ nullable_reference ∷ idle_nullable ∷ []

nullable_lawful : (k : Kind) → IsOfSchema k → Lawful of_upgrade nullable_rules k
nullable_lawful k same =
    (null_settles k same, (null_beside_type, (null_beside_reference, (null_beside_idle, tt))), (type_settles k same, (type_beside_reference, (type_beside_idle, tt)), (reference_settles k same, (reference_beside_idle, tt), (idle_settles k, tt, tt))))

abbrev bound_rules : List Rule
bound_rules = exclusive_minimum ∷ idle_exclusive_minimum ∷ exclusive_maximum ∷ idle_exclusive_maximum ∷ schema_example ∷ []

bounds_lawful : (k : Kind) → IsOfSchema k → Lawful of_upgrade (bound_rules ++ nullable_rules) k
bounds_lawful k same = (
  minimum_settles k same,
  (minimum_beside_idle, then_stay exclusive_minimum (exclusive_maximum ∷ idle_exclusive_maximum ∷ schema_example ∷ nullable_rules) [] refl tt),
  (
    idle_minimum_settles k,
    then_stay idle_exclusive_minimum (exclusive_maximum ∷ idle_exclusive_maximum ∷ schema_example ∷ nullable_rules) [] refl tt,
    (
      maximum_settles k same,
      (maximum_beside_idle, then_stay exclusive_maximum (schema_example ∷ nullable_rules) [] refl tt),
      (
        idle_maximum_settles k,
        then_stay idle_exclusive_maximum (schema_example ∷ nullable_rules) [] refl tt,
        (example_settles k same, then_stay schema_example nullable_rules [] refl tt, nullable_lawful k same),
      ),
    ),
  ),
)

upgrades_lawful : (k : Kind) → IsOfSchema k → Lawful of_upgrade upgrades_of_schemas k
upgrades_lawful k same =
    let last = then_stay binary_format (idle_nullable ∷ []) [] refl tt in
    let last_of_byte = then_stay byte_format (idle_nullable ∷ []) [] refl tt in (
      binary_settles k same,
      (binary_beside_byte, then_stay binary_format (bound_rules ++ null_in_enum ∷ []) (nullable_type ∷ nullable_reference ∷ idle_nullable ∷ []) refl (binary_beside_type, (binary_beside_reference, last))),
      (byte_settles k same, then_stay byte_format (bound_rules ++ null_in_enum ∷ []) (nullable_type ∷ nullable_reference ∷ idle_nullable ∷ []) refl (byte_beside_type, (byte_beside_reference, last_of_byte)), bounds_lawful k same),
    )

upgrade_lawful : (k : Kind) → Lawful of_upgrade (rules_in of_upgrade k) k
upgrade_lawful version = (upgrades.version_settles version, tt, tt)
upgrade_lawful (named reference_object) = (alone_settles (named reference_object) refl, tt, tt)
upgrade_lawful schema = upgrades_lawful schema (λ name. refl)
upgrade_lawful array_items = upgrades_lawful array_items (λ name. refl)
upgrade_lawful additional_properties = upgrades_lawful additional_properties (λ name. refl)
upgrade_lawful k = tt

pub lawful : (set : RuleSet) (k : Kind) → Lawful set (rules_in set k) k
lawful of_model k = model_lawful k
lawful of_upgrade k = upgrade_lawful k
