-- The places of a document that were meant otherwise than they are read.
--
-- A schema reads by the first of five tables that fits, and each keeps its own members alone. So what is wrong in a member may make the
-- table fail that was meant, and leave the object to a later table, which drops the member: there is no misfit. What did not fit the table
-- that was meant is a doubt. The same holds where a reference may stand: an object with a `$ref` that is no text may read as something else.
-- An OAuth flow is what its name says, and under a name that is none of the five it reads by the first of their tables that fits. Written
-- again, it may read as another flow: its name is a doubt.
--
-- Of schemas where a reference may stand:
--   {"type":"array","items":{"type":3}}     is meant as an array and reads as an object, which has no `items`: `/items/type` is no type
--   {"type":"array"}                        is meant as an array and reads as an object: the member `items` is required
--   {"type":"object","oneOf":[{"type":3}],"properties":{"a":{"type":"array"}}}
--                                           is meant as a `oneOf` and reads as an object: `/oneOf/0/type` is no type; and in what is kept, at
--                                           `/properties/a`, the member `items` is required
--   {"oneOf":[{"type":"array"}]}            reads as it was meant; inside, at `/oneOf/0`, the member `items` is required
--   {"$ref":3,"type":"string"}              is meant as a reference and reads as an object: `/$ref` is no text
--   {"$ref":"#/a","type":3}                 reads as the reference that was meant: no doubt
--   {"type":3}                              reads as nothing: a misfit, and no doubt
-- Of OAuth flows:
--   {"foo":{"tokenUrl":"u","scopes":{}}}    reads as a flow of `password`, and `foo` is none of the names
--   {"foo":{"scopes":{}}}                   reads as nothing: a misfit, and no doubt
use Rattle.std.specs.Prelude.{ℕ, List, [], ◌∷◌, ◌++◌, Bool, true, false, if◌then◌else◌, Option, None, Some, codes}
use Rattle.serde_json.specs.Data.{Data, null, boolean, number, string, array, object, Items, no_items, item, Members, no_members, member}
use Rattle.utoipa_base.specs.Choices.{chosen, scheme_types, api_key_places, flow_keys}
use Rattle.utoipa_base.specs.Kinds.{ObjectType, reference_object, Kind, list_of, map_of, ordered_map_of, entries_of, ref_or, named, schema, security_scheme, api_key, flows, Row}
use Rattle.utoipa_base.specs.Reading.{is_null, is_named}
use Rattle.utoipa_base.specs.Tables.{table}
use Rattle.utoipa_tables.specs.Tables.{words_of_choices, flow_choices}
use Rattle.utoipa_check.specs.Misfits.{at_name, unknown_name, Misfits, here, under, is_fit, Check, Checks, check_at, entry_checks, items_misfits, entries_misfits, table_misfits, flow_misfits, object_misfits, fits_schema, meant_schema, checks}
use Rattle.utoipa_check.specs.Places.{chosen_at}
use Rattle.utoipa_check.specs.Views.{takes_references, object_kind}
use Rattle.utoipa_check.specs.Taken.{taken_schema}

-- ---- the doubts of members, each under its name; they stand in `Checks`, as misfits do

abbrev pub row_doubts : List ℕ → Kind → Option Check → Misfits
row_doubts name k None = []
row_doubts name k (Some c) = under (at_name name) (c.1 k)

abbrev pub rows_doubts : List Row → Checks → Misfits
rows_doubts [] ds = []
rows_doubts (r ∷ rs) ds = row_doubts r.name r.kind (check_at r.name ds) ++ rows_doubts rs ds

-- ---- choices

-- what did not fit the table that was meant, where another fits; where the one that was meant fits, that is nothing
abbrev pub meant_doubts : Members → Checks → Misfits
meant_doubts ms cs = if fits_schema ms cs then table_misfits (meant_schema ms) cs else []

abbrev pub schema_doubts : Members → Checks → Checks → Misfits
schema_doubts ms cs ds = meant_doubts ms cs ++ rows_doubts (table (taken_schema ms cs)) ds

-- where a reference may stand: by whether `$ref` is named, by what does not fit a reference, and by what does not fit otherwise
abbrev pub reference_doubts : Bool → Misfits → Misfits → Misfits → Misfits
reference_doubts false rs ms ds = ds
-- it is the reference that was meant
reference_doubts true [] ms ds = []
-- it is something else
reference_doubts true (r ∷ rs) [] ds = (r ∷ rs) ++ ds
-- it is neither
reference_doubts true (r ∷ rs) (m ∷ ms) ds = ds

-- ---- security schemes and OAuth flows

-- an alternative that the word of a member has chosen
abbrev pub alternative_doubts : Option Kind → Checks → Misfits
alternative_doubts (Some (named n)) ds = rows_doubts (table n) ds
alternative_doubts o ds = []

abbrev pub api_key_doubts : Members → Checks → Misfits
api_key_doubts ms ds = alternative_doubts (chosen_at (codes "in") api_key_places ms) ds

-- by what the word of a security scheme has chosen
abbrev pub scheme_doubts : Option Kind → Members → Checks → Misfits
scheme_doubts (Some api_key) ms ds = api_key_doubts ms ds
scheme_doubts o ms ds = alternative_doubts o ds

-- a flow under a name that is none of the five, by what does not fit: where it reads as a flow, its name is in doubt
abbrev pub unknown_flow : (Kind → Misfits) → Misfits
unknown_flow c = if is_fit (flow_misfits None c) then here (unknown_name (words_of_choices (flow_choices flow_keys))) else []

-- a flow, by the type that its name has chosen, by what does not fit and by what is in doubt in it
abbrev pub flow_doubts : Option ObjectType → (Kind → Misfits) → (Kind → Misfits) → Misfits
flow_doubts (Some n) c d = d (named n)
flow_doubts None c d = unknown_flow c

-- the flows of an object, by what does not fit and by what is in doubt in each of its members
abbrev pub flows_doubts : Checks → Checks → Misfits
flows_doubts [] ds = []
flows_doubts (c ∷ cs) [] = []
flows_doubts (c ∷ cs) (d ∷ ds) = under (at_name d.0) (flow_doubts (chosen d.0 flow_keys) c.1.1 d.1.1) ++ flows_doubts cs ds

-- ---- trees of each sort

abbrev pub array_doubts : List (Kind → Misfits) → Kind → Misfits
array_doubts ds (list_of k) = items_misfits 0 k ds
array_doubts ds (ref_or k) = array_doubts ds k
array_doubts ds k = []

-- of an object that is no reference. Where any tree may stand, nothing is in doubt.
abbrev pub own_doubts : Members → Checks → Checks → Kind → Misfits
own_doubts ms cs ds (map_of k) = entries_misfits k ds
own_doubts ms cs ds (ordered_map_of k) = entries_misfits k ds
own_doubts ms cs ds (entries_of k) = entries_misfits k (entry_checks ds)
own_doubts ms cs ds (named n) = rows_doubts (table n) ds
own_doubts ms cs ds schema = schema_doubts ms cs ds
own_doubts ms cs ds security_scheme = scheme_doubts (chosen_at (codes "type") scheme_types ms) ms ds
own_doubts ms cs ds api_key = api_key_doubts ms ds
own_doubts ms cs ds flows = flows_doubts cs ds
own_doubts ms cs ds k = []

abbrev pub object_doubts : Members → Checks → Checks → Kind → Misfits
object_doubts ms cs ds k =
    if takes_references k then reference_doubts (is_named (codes "$ref") ms) (table_misfits reference_object cs) (object_misfits ms cs (object_kind k)) (own_doubts ms cs ds (object_kind k)) else own_doubts ms cs ds (object_kind k)

abbrev pub no_doubts : Kind → Misfits
no_doubts k = []

unfoldable mutual
  pub doubter : Data → (Kind → Misfits)
  doubter null = no_doubts
  doubter (boolean b) = no_doubts
  doubter (number n) = no_doubts
  doubter (string s) = no_doubts
  doubter (array ds) = array_doubts (item_doubters ds)
  doubter (object ms) = object_doubts ms (checks ms) (doubters ms)

  pub item_doubters : Items → List (Kind → Misfits)
  item_doubters no_items = []
  item_doubters (item d ds) = doubter d ∷ item_doubters ds

  pub doubters : Members → Checks
  doubters no_members = []
  doubters (member k d ms) = (k, (is_null d, doubter d)) ∷ doubters ms

-- Of the places of a document of a kind, in the order of the member tables, those that do not fit what was meant where something else is
-- read, each with the cause. First those of a choice, then those in what is kept.
abbrev pub doubts : Kind → Data → Misfits
doubts k d = doubter d k
