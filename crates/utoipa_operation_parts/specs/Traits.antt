-- The responses that types answer, and the parameters that they take.
use Rattle.std.specs.Prelude.{◌≡◌, ℕ, List, [], ◌∷◌, Bool, cond, Option, Some, None}
use Rattle.std.specs.BTreeMap.{insert_entry, is_at}
use Rattle.std.specs.Cmp.Lexicographic.{slice_cmp}
use Rattle.std.specs.Map.{lookup}
use Rattle.std.specs.Ordering.{nat_cmp}
use Rattle.utoipa_base.specs.Docs.{Doc}
use Rattle.utoipa_base.specs.Kinds.{named, response_object}
use Rattle.utoipa_base.specs.Refs.{ref_or_doc}
use Rattle.utoipa_base.specs.Views.{pairs_of}
use Rattle.utoipa_base.specs.declared.refs.RefOr.{RefOr}
use Rattle.utoipa_leaf.specs.declared.path.ParameterIn.{ParameterIn}
use Rattle.utoipa_operation_parts.specs.Response.{response_doc}
use Rattle.utoipa_operation_parts.specs.Responses.{ByStatus}
use Rattle.utoipa_operation_parts.specs.declared.response.Response.{Response}

-- a response or a reference to one, as a document
abbrev pub response_place_doc : RefOr Response → Doc
response_place_doc = ref_or_doc (named response_object) response_doc

-- responses and references to such, by their status codes
abbrev pub ByCode : Type 0
ByCode = List (List ℕ × Doc)

-- the responses as documents
abbrev pub responses_by_code : ByStatus → ByCode
responses_by_code r = pairs_of response_place_doc r.entries

-- the responses of both, of which the later stays where both have a code
abbrev pub with_later : (earlier later : ByCode) → ByCode
with_later earlier [] = earlier
with_later earlier (r ∷ later) = with_later (insert_entry (slice_cmp nat_cmp) earlier r.0 r.1) later

-- the first response under a status code
abbrev pub answered_under : List ℕ → ByCode → Option Doc
answered_under code responses = lookup (is_at (slice_cmp nat_cmp code)) responses

-- a response, unless there is one already
abbrev pub or_first : Bool → Doc → Option Doc → Option Doc
or_first b r None = cond b (Some r) None
or_first b r (Some later) = Some later

-- the last response under a status code
abbrev pub last_under : List ℕ → ByCode → Option Doc
last_under code [] = None
last_under code (r ∷ responses) = or_first (is_at (slice_cmp nat_cmp code) r.0) r.1 (last_under code responses)

-- parameters as documents, each by the place of which it does not say itself where it stands
abbrev pub ByPlace : Type 0
ByPlace = List (Option ParameterIn → Doc)

-- each of the parameters stands at a place that may be answered of it
abbrev pub ArePlaced : (MayBeIn : Option ParameterIn → Type 0) → ByPlace → List Doc → Type 0
ArePlaced MayBeIn [] [] = Unit {0}
ArePlaced MayBeIn [] (d ∷ ds) = ⊥
ArePlaced MayBeIn (p ∷ ps) [] = ⊥
ArePlaced MayBeIn (p ∷ ps) (d ∷ ds) = ((place : Option ParameterIn) × MayBeIn place × (d ≡ p place)) × ArePlaced MayBeIn ps ds
