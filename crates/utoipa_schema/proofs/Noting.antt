-- The members that may hold schemas, noted in one pass over all that an object has.
use Rattle.std.proofs.Common.{◌≡◌, ℕ, ◌||◌, false, List, [], ◌∷◌, Option, Some, None, is_some, Less, Equal, Greater, Ordering, refl, sym, ap, ◌∙◌, codes, nat_cmp, string_bytes, string_cmp}
use Rattle.std.proofs.lemmas.Map.Lookups.{exact_bytes}
use Rattle.std.specs.Borrow.{Bor}
use Rattle.std.specs.Cmp.Lexicographic.{slice_cmp}
use Rattle.std.specs.List.{AllByRecursion}
use Rattle.std.specs.List.Sorted.{IsStrictlySortedBy}
use Rattle.std.specs.Map.{keys_of}
use Rattle.std.specs.Option.{option_or}
use Rattle.std.specs.Ordering.{match_ordering}
use Rattle.serde_json.specs.Data.{Data, null, boolean, number, string, array, object, Members, no_members, member}
use Rattle.serde_json.specs.Find.{get, get_member, as_object}
use Rattle.serde_json.specs.View.{view, members_view}
use Rattle.serde_json.specs.declared.value.Value.{Value}
use Rattle.serde_json.proofs.Views.{Entry}
use Rattle.utoipa_base.specs.Fields.{field}
use Rattle.utoipa_base.specs.Kinds.{Kind, ObjectType, schema, ref_or, list_of, named, required, one_of_schema, all_of_schema, any_of_schema, array_schema, array_items}
use Rattle.utoipa_base.specs.Reading.{read}
use Rattle.utoipa_base.specs.Tables.{row}
use Rattle.utoipa_base.proofs.BoolFacts.{or_first, or_second}
use Rattle.utoipa_base.proofs.ByRows.{table_refused, fields-first, fields-later}
use Rattle.utoipa_base.proofs.Members.{field_absent}
use Rattle.utoipa_base.proofs.TableParts.{join-later}
use Rattle.utoipa_schema.specs.Choice.{IsNoCombination}
use Rattle.utoipa_schema.specs.Parts.{combination_rows, text_content_rows, array_annotation_rows}
use Rattle.utoipa_schema.specs.Places.{InnerData, members_of, noted, found, data_of}
use Rattle.utoipa_schema.specs.declared.inner_members.InnerMembers.{InnerMembers}

-- the last member of a name, or else what was noted before
abbrev pub last_of : List ℕ → Members → Option Data → Option Data
last_of wanted no_members earlier = earlier
last_of wanted (member name d ms) earlier = last_of wanted ms (noted wanted name d earlier)

-- all members noted, one after the other
abbrev pub noted_all : Members → InnerData → InnerData
noted_all ms m = record {
  one_of = last_of (codes "oneOf") ms m.one_of;
  all_of = last_of (codes "allOf") ms m.all_of;
  any_of = last_of (codes "anyOf") ms m.any_of;
  items = last_of (codes "items") ms m.items;
  prefix_items = last_of (codes "prefixItems") ms m.prefix_items;
  properties = last_of (codes "properties") ms m.properties;
  additional_properties = last_of (codes "additionalProperties") ms m.additional_properties;
  property_names = last_of (codes "propertyNames") ms m.property_names;
  content_schema = last_of (codes "contentSchema") ms m.content_schema;
}

abbrev pub none_noted : InnerData
none_noted = record {
  one_of = None;
  all_of = None;
  any_of = None;
  items = None;
  prefix_items = None;
  properties = None;
  additional_properties = None;
  property_names = None;
  content_schema = None;
}

-- ---- one member

passed_by : (o : Ordering) (wanted name : List ℕ) (d : Data) (earlier : Option Data) → slice_cmp nat_cmp wanted name ≡ o → (name ≡ wanted → ⊥) → match_ordering o earlier (Some d) earlier ≡ earlier
passed_by Less wanted name d earlier is other = refl
passed_by Equal wanted name d earlier is other = absurd (other (sym (exact_bytes wanted name is)))
passed_by Greater wanted name d earlier is other = refl

-- a member of another name is not noted
pub passed : (wanted name : List ℕ) (d : Data) (earlier : Option Data) → (name ≡ wanted → ⊥) → noted wanted name d earlier ≡ earlier
passed wanted name d earlier other = passed_by (slice_cmp nat_cmp wanted name) wanted name d earlier refl other

-- ---- all members

-- no member has a name that is below all of theirs
missed : (name : List ℕ) (es : List Entry) → AllByRecursion (λ y. slice_cmp nat_cmp name (string_bytes y) ≡ Less) (keys_of es) → get_member name (members_view es) ≡ None
missed name [] h = refl
missed name (e ∷ es) h = rw h.0 (missed name es h.1)

either : (o : Ordering) (later earlier : Option Data) (d : Data) → (o ≡ Equal → later ≡ None) → option_or later (match_ordering o earlier (Some d) earlier) ≡ option_or (match_ordering o later (Some d) later) earlier
either Less later earlier d none = refl
either Equal later earlier d none = rw (none refl)
either Greater later earlier d none = refl

-- where names ascend, none stands twice, and so the last of a name is the first
last_is_first : (wanted : List ℕ) (es : List Entry) (earlier : Option Data) → IsStrictlySortedBy string_cmp (keys_of es) → last_of wanted (members_view es) earlier ≡ option_or (get_member wanted (members_view es)) earlier
unfolding IsStrictlySortedBy
last_is_first wanted [] earlier sorted = refl
last_is_first wanted (e ∷ es) earlier sorted =
    last_is_first wanted es (noted wanted (string_bytes e.0) (view e.1) earlier) sorted.1
    ∙ either (slice_cmp nat_cmp wanted (string_bytes e.0)) (get_member wanted (members_view es)) earlier (view e.1) (λ is. ap (λ n. get_member n (members_view es)) (exact_bytes wanted (string_bytes e.0) is) ∙ missed (string_bytes e.0) es sorted.0)

or_none : (o : Option Data) → option_or o None ≡ o
or_none None = refl
or_none (Some d) = refl

first_of : (wanted : List ℕ) (es : List Entry) → IsStrictlySortedBy string_cmp (keys_of es) → last_of wanted (members_view es) None ≡ get_member wanted (members_view es)
first_of wanted es sorted = last_is_first wanted es None sorted ∙ or_none (get_member wanted (members_view es))

-- so those that are noted are those that are found by their names
pub noted_as_found : (d : Data) (es : List Entry) → Some (members_view es) ≡ as_object d → IsStrictlySortedBy string_cmp (keys_of es) → noted_all (members_view es) none_noted ≡ members_of d
noted_as_found null es is sorted = cc
noted_as_found (boolean b) es is sorted = cc
noted_as_found (number n) es is sorted = cc
noted_as_found (string s) es is sorted = cc
noted_as_found (array ds) es is sorted = cc
noted_as_found (object ms) es is sorted =
    let same : members_view es ≡ ms = cc in
    rw (
      first_of (codes "oneOf") es sorted,
      first_of (codes "allOf") es sorted,
      first_of (codes "anyOf") es sorted,
      first_of (codes "items") es sorted,
      first_of (codes "prefixItems") es sorted,
      first_of (codes "properties") es sorted,
      first_of (codes "additionalProperties") es sorted,
      first_of (codes "propertyNames") es sorted,
      first_of (codes "contentSchema") es sorted,
    ) (ap (λ n. members_of (object n)) same)

-- ---- no combination without its member

absent : (o : Option (Bor Value)) → is_some o ≡ false → found o ≡ None
absent None none = refl
absent (Some v) none = cc

refused_without : (o : Option (Bor Value)) (n : ObjectType) (name : List ℕ) (k : Kind) (d : Data) → found o ≡ get name d → is_some o ≡ false → (field (row name required k) d ≡ None → read (named n) d ≡ None) → read (named n) d ≡ None
refused_without o n name k d found none refused = refused (field_absent name required k d (sym found ∙ absent o none))

pub uncombined : (d : Data) (m : InnerMembers) → data_of m ≡ members_of d → is_some m.one_of || (is_some m.all_of || is_some m.any_of) ≡ false → IsNoCombination d
uncombined d m found none =
    let places = list_of (ref_or schema) in
    let others = or_second (is_some m.one_of) _ none in (
      refused_without m.one_of one_of_schema (codes "oneOf") places d (ap (λ n. n.one_of) found) (or_first _ _ none) (λ h. table_refused one_of_schema d (join-later combination_rows _ d (fields-first _ _ _ h))),
      refused_without m.all_of all_of_schema (codes "allOf") places d (ap (λ n. n.all_of) found) (or_first _ _ others) (λ h. table_refused all_of_schema d (fields-first _ _ _ h)),
      refused_without m.any_of any_of_schema (codes "anyOf") places d (ap (λ n. n.any_of) found) (or_second (is_some m.all_of) _ others) (λ h. table_refused any_of_schema d (fields-first _ _ _ h)),
    )

-- ---- no array without items

pub no_items : (d : Data) (m : InnerMembers) → data_of m ≡ members_of d → is_some m.items ≡ false → read (named array_schema) d ≡ None
no_items d m found none =
    refused_without m.items array_schema (codes "items") array_items d (ap (λ n. n.items) found) none
    (λ h. table_refused array_schema d (join-later text_content_rows _ d (fields-later _ _ d (join-later array_annotation_rows _ d (fields-first _ _ d h)))))
