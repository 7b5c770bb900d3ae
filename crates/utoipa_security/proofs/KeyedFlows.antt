-- Flows under their keys, beside the members that they are read from and written as.
use Rattle.std.proofs.Common.{◌≡◌, ℕ, List, [], ◌∷◌, ◌++◌, Option, Some, None, option_map, option_and_then, refl, sym, ap, ◌∙◌, subst, append_assoc, arith, String, Global, BTreeMap, Ok, Ordering, Less, Equal, Greater, string_bytes, string_cmp, nat_cmp}
use Rattle.std.proofs.lemmas.List.{map-append}
use Rattle.std.specs.BTreeMap.{insert_entry}
use Rattle.std.specs.Cmp.Lexicographic.{slice_cmp}
use Rattle.std.specs.List.Sorted.{IsStrictlySortedBy}
use Rattle.std.specs.Map.{keys_of}
use Rattle.std.specs.Ordering.{match_ordering}
use Rattle.serde_json.specs.Data.{Data, null, boolean, number, string, array, object}
use Rattle.serde_json.specs.Find.{as_object}
use Rattle.serde_json.specs.View.{view, members_view}
use Rattle.serde_json.proofs.Views.{Entry}
use Rattle.utoipa_base.specs.Docs.{Doc, map_doc, Entries, no_entries, entries_of_list}
use Rattle.utoipa_base.specs.Kinds.{flows}
use Rattle.utoipa_base.specs.Reading.{reader, parts, read, read_flows, both_entries}
use Rattle.utoipa_base.specs.Reads.{Reads}
use Rattle.utoipa_base.specs.Values.{schema_count, docs_schema_count, entries_schema_count}
use Rattle.utoipa_base.specs.Views.{text_of, option_of, pairs_of}
use Rattle.utoipa_base.specs.Writing.{write}
use Rattle.utoipa_base.proofs.Maps.{texts, insert_last, prepend_entries, prepend_entries-none, prepend_entries-some, prepend_entries-append}
use Rattle.utoipa_security.specs.OAuth.{flow_object, flow_view, flow_key, flow_read, flows_doc, by_key, put_flows}
use Rattle.utoipa_security.specs.declared.security.flows.Flow.{Flow}
use Rattle.utoipa_security.specs.declared.security.flows.Flow.TheVariants.{Implicit, Password, ClientCredentials, AuthorizationCode, DeviceAuthorization}

-- ---- reading

-- flows are read from the members of an object
pub read-flows : (d : Data) → read flows d ≡ option_and_then (λ ms. option_map map_doc (read_flows (parts ms))) (as_object d)
unfolding reader
read-flows null = refl
read-flows (boolean b) = refl
read-flows (number n) = refl
read-flows (string s) = refl
read-flows (array ds) = refl
read-flows (object ms) = refl

-- what members read as
abbrev pub flows_read : List Entry → Option Entries
flows_read es = read_flows (parts (members_view es))

-- no members
flows_read-nil : flows_read [] ≡ Some no_entries
unfolding parts
flows_read-nil = refl

-- a member before others
flows_read-cons : (e : Entry) (es : List Entry) → flows_read (e ∷ es) ≡ both_entries (string_bytes e.0) (flow_read (string_bytes e.0) (view e.1)) (flows_read es)
unfolding parts
flows_read-cons e es = refl

-- one more member that is a flow
pub flows_read-step : (e : Entry) (es : List Entry) (ds : List (List ℕ × Doc)) (d : Doc) (o : Option Entries) → o ≡ prepend_entries ds (flows_read (e ∷ es)) → flow_read (string_bytes e.0) (view e.1) ≡ Some d
    → o ≡ prepend_entries (ds ++ (string_bytes e.0, d) ∷ []) (flows_read es)
flows_read-step e es ds d o before is =
    before ∙ ap (prepend_entries ds) (flows_read-cons e es ∙ ap (λ r. both_entries (string_bytes e.0) r (flows_read es)) is) ∙ sym (prepend_entries-append ds (string_bytes e.0, d) (flows_read es))

-- a member that is no flow
pub flows_read-stop : (e : Entry) (es : List Entry) (ds : List (List ℕ × Doc)) (o : Option Entries) → o ≡ prepend_entries ds (flows_read (e ∷ es)) → flow_read (string_bytes e.0) (view e.1) ≡ None → o ≡ None
flows_read-stop e es ds o before is =
    before ∙ ap (prepend_entries ds) (flows_read-cons e es ∙ ap (λ r. both_entries (string_bytes e.0) r (flows_read es)) is) ∙ prepend_entries-none ds

-- after the last member
pub flows_read-end : (ds : List (List ℕ × Doc)) (o : Option Entries) → o ≡ prepend_entries ds (flows_read []) → o ≡ Some (entries_of_list ds)
flows_read-end ds o before = before ∙ ap (prepend_entries ds) flows_read-nil ∙ prepend_entries-some ds

-- a tree that is an object, with its members read
pub flows_by_entries : (d : Data) (es : List Entry) (o : Option Entries) → Some (members_view es) ≡ as_object d → flows_read es ≡ o → read flows d ≡ option_map map_doc o
flows_by_entries d es o is read_as = read-flows d ∙ ap (option_and_then (λ ms. option_map map_doc (read_flows (parts ms)))) (sym is) ∙ ap (option_map map_doc) read_as

-- ---- flows that are put under copies of the names of entries, one after the other

-- one more: it comes last, under the name of the entry
pub flows_next : {X : Type 0} (all done left : List (String Global × X)) (es fs : List (String Global × Flow)) (e : String Global × X) (more : List (String Global × X)) (name : String Global) (f : Flow) → all ≡ done ++ left → texts es ≡ texts done
    → left ≡ e ∷ more → IsStrictlySortedBy string_cmp (keys_of all) → string_bytes name ≡ string_bytes e.0 → fs ≡ insert_entry string_cmp es name f
    → (all ≡ (done ++ e ∷ []) ++ more) × (texts fs ≡ texts (done ++ e ∷ [])) × (pairs_of flow_view fs ≡ pairs_of flow_view es ++ (string_bytes e.0, flow_view f) ∷ [])
flows_next all done left es fs e more name f split names rest ordered named put =
    let whole : all ≡ done ++ e ∷ more = split ∙ ap (λ r. done ++ r) rest in
    let last : fs ≡ es ++ (name, f) ∷ [] = put ∙ insert_last es done e more name f names (subst (λ r. IsStrictlySortedBy string_cmp (keys_of r)) whole ordered) named in
    let same : texts es ++ string_bytes name ∷ [] ≡ texts done ++ string_bytes e.0 ∷ [] = ap (λ ts. ts ++ string_bytes name ∷ []) names ∙ ap (λ b. texts done ++ b ∷ []) named in (
      whole ∙ sym (append_assoc done (e ∷ []) more),
      ap texts last ∙ map-append _ es _ ∙ same ∙ sym (map-append _ done (e ∷ [])),
      ap (pairs_of flow_view) last ∙ map-append _ es _ ∙ ap (λ b. pairs_of flow_view es ++ (b, flow_view f) ∷ []) named,
    )

-- ---- writing

-- a flow is written as its members
pub write-flow : (f : Flow) → write (flow_view f) ≡ write (flow_object f)
unfolding write
write-flow f = refl

-- ---- counting

-- texts hold no schema
texts_uncounted : (es : List (String Global × String Global)) → entries_schema_count (entries_of_list (pairs_of text_of es)) ≡ 0
unfolding entries_schema_count schema_count
texts_uncounted [] = refl
texts_uncounted (e ∷ es) = omega (arith, texts_uncounted es)

-- a text that may be absent holds no schema
option_uncounted : (o : Option (String Global)) → schema_count (option_of text_of o) ≡ 0
unfolding schema_count
option_uncounted None = refl
option_uncounted (Some s) = refl

-- no flow holds a schema
flow_uncounted : (f : Flow) → schema_count (flow_view f) ≡ 0
unfolding schema_count docs_schema_count
flow_uncounted (Implicit f) = let url = option_uncounted f.refresh_url in let scopes = texts_uncounted f.scopes.scopes.entries in omega (arith, url, scopes)
flow_uncounted (Password f) = let url = option_uncounted f.refresh_url in let scopes = texts_uncounted f.scopes.scopes.entries in omega (arith, url, scopes)
flow_uncounted (ClientCredentials f) = let url = option_uncounted f.refresh_url in let scopes = texts_uncounted f.scopes.scopes.entries in omega (arith, url, scopes)
flow_uncounted (AuthorizationCode f) = let url = option_uncounted f.refresh_url in let scopes = texts_uncounted f.scopes.scopes.entries in omega (arith, url, scopes)
flow_uncounted (DeviceAuthorization f) = let url = option_uncounted f.refresh_url in let scopes = texts_uncounted f.scopes.scopes.entries in omega (arith, url, scopes)

-- entries that are flows hold no schema
entries_uncounted : (es : List (String Global × Flow)) → entries_schema_count (entries_of_list (pairs_of flow_view es)) ≡ 0
unfolding entries_schema_count
entries_uncounted [] = refl
entries_uncounted (e ∷ es) = omega (arith, flow_uncounted e.1, entries_uncounted es)

-- flows hold no schema
pub flows_uncounted : (m : BTreeMap (String Global) Flow) → schema_count (flows_doc m) ≡ 0
unfolding schema_count
flows_uncounted m = entries_uncounted m.entries

-- flows are read while the counter stays
pub flows_read_uncounted : {A : Type 0} (f : A → Doc) (v : A) (m : BTreeMap (String Global) Flow) (o : Option Doc) (n most : ℕ) → f v ≡ flows_doc m → o ≡ Some (flows_doc m) → Reads {A = A} o f (Ok v) n n most
flows_read_uncounted f v m o n most same is =
    record { ok = is ∙ ap Some (sym same); err = tt; grows = omega arith; at_most = omega arith; at_least = λ below. omega (arith, ap schema_count same, flows_uncounted m) }

-- ---- flows that are put under their keys

-- one more flow is put last
pub put_flows-last : (fs : List Flow) (f : Flow) (es : List (List ℕ × Flow)) → put_flows (fs ++ f ∷ []) es ≡ insert_entry (slice_cmp nat_cmp) (put_flows fs es) (flow_key f) f
put_flows-last [] f es = refl
put_flows-last (x ∷ fs) f es = put_flows-last fs f (insert_entry (slice_cmp nat_cmp) es (flow_key x) x)

-- what a choice of three lists has as its keys
by_key-choice : (o : Ordering) (a b c : List (String Global × Flow)) → by_key (match_ordering o a b c) ≡ match_ordering o (by_key a) (by_key b) (by_key c)
by_key-choice Less a b c = refl
by_key-choice Equal a b c = refl
by_key-choice Greater a b c = refl

-- an entry that is put by its key is put by the text of its key
pub by_key-insert_entry : (es : List (String Global × Flow)) (k : String Global) (f : Flow) → by_key (insert_entry string_cmp es k f) ≡ insert_entry (slice_cmp nat_cmp) (by_key es) (string_bytes k) f
by_key-insert_entry [] k f = refl
by_key-insert_entry (e ∷ es) k f =
    by_key-choice (string_cmp k e.0) ((k, f) ∷ e ∷ es) ((e.0, f) ∷ es) (e ∷ insert_entry string_cmp es k f)
    ∙ ap (λ r. match_ordering (string_cmp k e.0) ((string_bytes k, f) ∷ (string_bytes e.0, e.1) ∷ by_key es) ((string_bytes e.0, f) ∷ by_key es) ((string_bytes e.0, e.1) ∷ r)) (by_key-insert_entry es k f)

-- flows, part by part
pub ruleset by_flows = (read-flows)
