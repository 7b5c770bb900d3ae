-- The names of the tables' rows: in their order, none an extension's.
use Rattle.std.proofs.Common.{◌≡◌, ℕ, List, [], ◌∷◌, Bool, true, false, not, ◌&&◌, ◌||◌, refl, sym, ap, ◌∙◌, nat_cmp, Ordering, Less, Equal, Greater, is_eq, true≢false}
use Rattle.std.proofs.lemmas.Cmp.{nat_list_cmp_total}
use Rattle.std.proofs.lemmas.Map.Text.{is_eq-slice_cmp}
use Rattle.std.specs.Cmp.Lexicographic.{slice_cmp}
use Rattle.std.specs.Str.{bytes_eq}
use Rattle.utoipa_base.specs.Kinds.{ObjectType, open_api_object, info_object, contact_object, license_object, server_object, server_variable_object, components_object, path_item_object, operation_object, external_docs_object, parameter_object, request_body_object, media_type_object, encoding_object, response_object, example_object, link_object, header_object, tag_object, reference_object, discriminator_object, xml_object, one_of_schema, all_of_schema, any_of_schema, array_schema, object_schema, api_key_scheme, http_scheme, open_id_connect_scheme, mutual_tls_scheme, oauth2_scheme, implicit_flow, password_flow, client_credentials_flow, authorization_code_flow, device_authorization_flow, scopes_object, Kind, text, flag, list_of, map_of, ordered_map_of, schema_type, Mark, required, defaulted, Row}
use Rattle.utoipa_base.specs.Tables.{table}
use Rattle.utoipa_base.specs.Extensions.{is_extension}
use Rattle.utoipa_base.specs.InOrder.{is_less}
use Rattle.utoipa_base.proofs.BoolFacts.{and_first, and_second, not_true}

-- whether a row has this name
abbrev pub is_row : List ℕ → List Row → Bool
is_row name [] = false
is_row name (r ∷ rs) = bytes_eq name r.name || is_row name rs

-- whether a member of this name has to be there
abbrev pub is_required : Mark → Bool
is_required required = true
is_required m = false

-- whether a member of this name has to be there for the rows
abbrev pub is_wanted : List ℕ → List Row → Bool
is_wanted name [] = false
is_wanted name (r ∷ rs) = is_required r.mark && bytes_eq name r.name || is_wanted name rs

-- whether an empty document of the kind is what an absent member reads as
abbrev pub has_empty : Kind → Bool
has_empty text = true
has_empty flag = true
has_empty (list_of k) = true
has_empty (map_of k) = true
has_empty (ordered_map_of k) = true
has_empty schema_type = true
has_empty k = false

-- whether a row with this mark may have a field of this kind
abbrev pub may_be_empty : Mark → Kind → Bool
may_be_empty defaulted k = has_empty k
may_be_empty m k = true

-- whether a name comes before that of the first row
abbrev pub comes_first : List ℕ → List Row → Bool
comes_first name [] = true
comes_first name (r ∷ rs) = is_less (slice_cmp nat_cmp name r.name)

-- whether no name is an extension's, they ascend, and each defaulted row has an empty document
abbrev pub are_apart : List Row → Bool
are_apart [] = true
are_apart (r ∷ rs) = not (is_extension r.name) && (comes_first r.name rs && (may_be_empty r.mark r.kind && are_apart rs))

-- the first row's name is no extension's
pub first_plain : (r : Row) (rs : List Row) → are_apart (r ∷ rs) ≡ true → is_extension r.name ≡ false
first_plain r rs h = not_true _ (and_first (not (is_extension r.name)) (comes_first r.name rs && (may_be_empty r.mark r.kind && are_apart rs)) h)

-- what else holds of the first row
after_plain : (r : Row) (rs : List Row) → are_apart (r ∷ rs) ≡ true → comes_first r.name rs && (may_be_empty r.mark r.kind && are_apart rs) ≡ true
after_plain r rs h = and_second (not (is_extension r.name)) _ h

-- the first row's name comes before the next
pub first_before : (r : Row) (rs : List Row) → are_apart (r ∷ rs) ≡ true → comes_first r.name rs ≡ true
first_before r rs h = and_first (comes_first r.name rs) (may_be_empty r.mark r.kind && are_apart rs) (after_plain r rs h)

-- what still holds of the first row
after_before : (r : Row) (rs : List Row) → are_apart (r ∷ rs) ≡ true → may_be_empty r.mark r.kind && are_apart rs ≡ true
after_before r rs h = and_second (comes_first r.name rs) _ (after_plain r rs h)

-- the first row has an empty document, if it is defaulted
pub first_empty : (r : Row) (rs : List Row) → are_apart (r ∷ rs) ≡ true → may_be_empty r.mark r.kind ≡ true
first_empty r rs h = and_first (may_be_empty r.mark r.kind) (are_apart rs) (after_before r rs h)

-- the other rows are apart too
pub others_apart : (r : Row) (rs : List Row) → are_apart (r ∷ rs) ≡ true → are_apart rs ≡ true
others_apart r rs h = and_second (may_be_empty r.mark r.kind) (are_apart rs) (after_before r rs h)

-- ---- names in their order

pub less_is : (o : Ordering) → is_less o ≡ true → o ≡ Less
less_is Less h = refl
less_is Equal h = absurd (true≢false (sym h))
less_is Greater h = absurd (true≢false (sym h))

pub before_later : (k l m : List ℕ) → slice_cmp nat_cmp k l ≡ Less → slice_cmp nat_cmp l m ≡ Less → slice_cmp nat_cmp k m ≡ Less
before_later k l m first second = nat_list_cmp_total.trans k l m first second

-- what comes before a name that comes before the first row's does so too
pub comes_earlier : (k l : List ℕ) (rs : List Row) → slice_cmp nat_cmp k l ≡ Less → comes_first l rs ≡ true → comes_first k rs ≡ true
comes_earlier k l [] h first = refl
comes_earlier k l (r ∷ rs) h first = ap is_less (before_later k l r.name h (less_is _ first))

-- a name that comes before the first row's is no row's
no_row : (k : List ℕ) (rs : List Row) → comes_first k rs ≡ true → are_apart rs ≡ true → is_row k rs ≡ false
no_row k [] first h = refl
no_row k (r ∷ rs) first h =
    let before : slice_cmp nat_cmp k r.name ≡ Less = less_is _ first in
    rw (sym (is_eq-slice_cmp k r.name) ∙ ap is_eq before) (no_row k rs (comes_earlier k r.name rs before (first_before r rs h)) (others_apart r rs h))

-- the first row's name is no other's
pub first_once : (r : Row) (rs : List Row) → are_apart (r ∷ rs) ≡ true → is_row r.name rs ≡ false
first_once r rs h = no_row r.name rs (first_before r rs h) (others_apart r rs h)

-- ---- the tables

-- so it is in each table
pub table_apart : (n : ObjectType) → are_apart (table n) ≡ true
table_apart open_api_object = refl
table_apart info_object = refl
table_apart contact_object = refl
table_apart license_object = refl
table_apart server_object = refl
table_apart server_variable_object = refl
table_apart components_object = refl
table_apart path_item_object = refl
table_apart operation_object = refl
table_apart external_docs_object = refl
table_apart parameter_object = refl
table_apart request_body_object = refl
table_apart media_type_object = refl
table_apart encoding_object = refl
table_apart response_object = refl
table_apart example_object = refl
table_apart link_object = refl
table_apart header_object = refl
table_apart tag_object = refl
table_apart reference_object = refl
table_apart discriminator_object = refl
table_apart xml_object = refl
table_apart one_of_schema = refl
table_apart all_of_schema = refl
table_apart any_of_schema = refl
table_apart array_schema = refl
table_apart object_schema = refl
table_apart api_key_scheme = refl
table_apart http_scheme = refl
table_apart open_id_connect_scheme = refl
table_apart mutual_tls_scheme = refl
table_apart oauth2_scheme = refl
table_apart implicit_flow = refl
table_apart password_flow = refl
table_apart client_credentials_flow = refl
table_apart authorization_code_flow = refl
table_apart device_authorization_flow = refl
table_apart scopes_object = refl
