-- Maps whose entries are read from tokens, one after the other, also beside the extensions of their object.
use Rattle.std.proofs.Common.{◌≡◌, ◌∙◌, ◌≤◌, ◌<◌, ◌+◌, ◌-◌, ℕ, List, [], ◌∷◌, length, true, false, cond, not, Option, Some, None, option_map, Ok, String, Global, BTreeMap, string_bytes, string_cmp, nat_cmp, Ordering, Less, Equal, Greater, refl, sym, ap, subst, arith}
use Rattle.std.specs.BTreeMap.{insert_entry, is_at}
use Rattle.std.specs.Map.{lookup}
use Rattle.std.specs.Ordering.{match_ordering, is_eq}
use Rattle.std.specs.Cmp.Lexicographic.{slice_cmp}
use Rattle.json.specs.Json.{read_key}
use Rattle.json.specs.Token as token
use Rattle.json.specs.Token.{Token}
use Rattle.serde_json.specs.Data.{Data, object, Members, no_members, member, put}
use Rattle.serde_json.specs.Find.{get_member}
use Rattle.serde_json.specs.View.{view, members_view}
use Rattle.serde_json.specs.declared.value.Value.{Value}
use Rattle.serde_json.proofs.Views.{members_view-insert_entry}
use Rattle.utoipa_base.specs.ByName.{put_entry}
use Rattle.utoipa_base.specs.Docs.{Doc, map_doc, entries_doc, no_entries, entry, entries_of_list}
use Rattle.utoipa_base.specs.Extensions.{is_extension, extension_members, extensions_of, some_if_any, extensions_view}
use Rattle.utoipa_base.specs.FromTokens.{Comes, FromTokens}
use Rattle.utoipa_base.specs.Kinds.{Kind, map_of, entries_of}
use Rattle.utoipa_base.specs.Reading.{read, reader, parts, read_entries}
use Rattle.utoipa_base.specs.Reads.{Reads}
use Rattle.utoipa_base.specs.Values.{values, members_values, schema_count, entries_schema_count}
use Rattle.utoipa_base.specs.Views.{pairs_of, map_of_docs, entries_beside}
use Rattle.utoipa_base.specs.declared.extensions.Extensions.{Extensions}
use Rattle.utoipa_base.proofs.ByName.{read_put, first_and_others}
use Rattle.utoipa_base.proofs.EntryMaps.{read-entries, schema_count-entries}
use Rattle.utoipa_base.proofs.Maps.{read-map}
use Rattle.utoipa_base.proofs.Places.{counted_more, entries_schema_count-none, schema_count-map}
use Rattle.utoipa_base.proofs.TokenMembers.{MembersSoFar, no_member_yet, one_member_more, object_comes, put_values, values_object, others, others_put, extensions_put, entries_kept, kept_fewer}

-- ---- one entry more

inserted_at : {T : Type 0} (o : Ordering) (f : T → Doc) (name : String Global) (v : T) (e : String Global × T) (es fs : List (String Global × T)) → entries_of_list (pairs_of f fs) ≡ put_entry (string_bytes name) (f v) (entries_of_list (pairs_of f es))
    → entries_of_list (pairs_of f (match_ordering o ((name, v) ∷ e ∷ es) ((e.0, v) ∷ es) (e ∷ fs)))
    ≡ match_ordering o (entry (string_bytes name) (f v) (entries_of_list (pairs_of f (e ∷ es)))) (entry (string_bytes e.0) (f v) (entries_of_list (pairs_of f es))) (entry (string_bytes e.0) (f e.1) (put_entry (string_bytes name) (f v) (entries_of_list (pairs_of f es))))
inserted_at Less f name v e es fs h = refl
inserted_at Equal f name v e es fs h = refl
inserted_at Greater f name v e es fs h = ap (entry (string_bytes e.0) (f e.1)) h

-- an entry that is inserted is put among the entries
inserted : {T : Type 0} (f : T → Doc) (name : String Global) (v : T) (es : List (String Global × T)) → entries_of_list (pairs_of f (insert_entry string_cmp es name v)) ≡ put_entry (string_bytes name) (f v) (entries_of_list (pairs_of f es))
inserted f name v [] = refl
inserted f name v (e ∷ es) = inserted_at (string_cmp name e.0) f name v e es (insert_entry string_cmp es name v) (inserted f name v es)

counted_at : {T : Type 0} (o : Ordering) (f : T → Doc) (name : String Global) (v : T) (e : String Global × T) (es fs : List (String Global × T)) (g : Option T) → cond (is_eq o) (Some e.1) g ≡ None
    → (g ≡ None → entries_schema_count (entries_of_list (pairs_of f fs)) ≡ entries_schema_count (entries_of_list (pairs_of f es)) + schema_count (f v))
    → entries_schema_count (entries_of_list (pairs_of f (match_ordering o ((name, v) ∷ e ∷ es) ((e.0, v) ∷ es) (e ∷ fs)))) ≡ entries_schema_count (entries_of_list (pairs_of f (e ∷ es))) + schema_count (f v)
unfolding entries_schema_count
counted_at Less f name v e es fs g h later = omega arith
counted_at Equal f name v e es fs g h later = absurd (cc)
counted_at Greater f name v e es fs g h later = omega (arith, later h)

-- the schemas of the entries, with one more under a new name
counted : {T : Type 0} (f : T → Doc) (name : String Global) (v : T) (es : List (String Global × T)) → lookup (is_at (string_cmp name)) es ≡ None
    → entries_schema_count (entries_of_list (pairs_of f (insert_entry string_cmp es name v))) ≡ entries_schema_count (entries_of_list (pairs_of f es)) + schema_count (f v)
unfolding entries_schema_count
counted f name v [] h = omega arith
counted f name v (e ∷ es) h = counted_at (string_cmp name e.0) f name v e es (insert_entry string_cmp es name v) (lookup (is_at (string_cmp name)) es) h (counted f name v es)

absent_at : {T : Type 0} (o : Ordering) (u : Data) (x : T) (look : Option T) (g : Option Data) → cond (is_eq o) (Some x) look ≡ None → (look ≡ None → g ≡ None) → match_ordering o g (Some u) g ≡ None
absent_at Less u x look g h later = later h
absent_at Equal u x look g h later = absurd (cc)
absent_at Greater u x look g h later = later h

-- a name that no entry has is none of the members'
absent : {T : Type 0} (k : Kind) (f : T → Doc) (name : String Global) (ms : Members) (es : List (String Global × T)) → read_entries k (parts ms) ≡ Some (entries_of_list (pairs_of f es)) → lookup (is_at (string_cmp name)) es ≡ None
    → get_member (string_bytes name) ms ≡ None
unfolding parts
absent k f name no_members es read look = refl
absent k f name (member l u ms) [] read look =
    let first = first_and_others l (reader u k) (read_entries k (parts ms)) no_entries read in
    let never : no_entries ≡ entry l first.0 first.1 = first.4 in
    absurd (cc)
absent k f name (member l u ms) (e ∷ es) read look =
    let first = first_and_others l (reader u k) (read_entries k (parts ms)) (entries_of_list (pairs_of f (e ∷ es))) read in
    let is : entry (string_bytes e.0) (f e.1) (entries_of_list (pairs_of f es)) ≡ entry l first.0 first.1 = first.4 in
    let named : string_bytes e.0 ≡ l = cc in
    let rest : entries_of_list (pairs_of f es) ≡ first.1 = cc in
    ap (λ n. match_ordering (slice_cmp nat_cmp (string_bytes name) n) (get_member (string_bytes name) ms) (Some u) (get_member (string_bytes name) ms)) (sym named)
    ∙ absent_at (string_cmp name e.0) u e.1 (lookup (is_at (string_cmp name)) es) (get_member (string_bytes name) ms) look (absent k f name ms es (first.3 ∙ ap Some (sym rest)))

-- ---- entries that were read

-- the members `ms` were read as the entries `es`, and the counter rose from `start` to `count`
pub record EntriesRead {T : Type 0} (k : Kind) (f : T → Doc) (ms : Members) (es : List (String Global × T)) (start count : ℕ) : Type 0 where
  pub read : read_entries k (parts ms) ≡ Some (entries_of_list (pairs_of f es))
  pub at_most : count ≤ start + members_values ms
  pub grows : start ≤ count
  pub at_least : count < 18446744073709551615 → start + entries_schema_count (entries_of_list (pairs_of f es)) ≤ count

no_parts : (k : Kind) → read_entries k (parts no_members) ≡ Some no_entries
unfolding parts
no_parts k = refl

no_entry_yet : {T : Type 0} (k : Kind) (f : T → Doc) (es : List (String Global × T)) (start : ℕ) → es ≡ [] → EntriesRead k f no_members es start start
no_entry_yet k f es start none =
    let count : entries_schema_count (entries_of_list (pairs_of f es)) ≡ 0 = ap (λ r. entries_schema_count (entries_of_list (pairs_of f r))) none ∙ entries_schema_count-none in
    record {
      read = no_parts k ∙ ap (λ r. Some (entries_of_list (pairs_of f r))) (sym none);
      at_most = omega arith;
      grows = omega arith;
      at_least = λ below. omega (arith, count);
    }

-- one entry more, under a new name
one_entry_more : {T : Type 0} (k : Kind) (f : T → Doc) (ms : Members) (es fs : List (String Global × T)) (name : String Global) (n : List ℕ) (d : Data) (v : T) (start count next : ℕ) → EntriesRead k f ms es start count
    → string_bytes name ≡ n → lookup (is_at (string_cmp name)) es ≡ None → fs ≡ insert_entry string_cmp es name v → Reads {A = T} (read k d) f (Ok v) count next (values d) → EntriesRead k f (put n d ms) fs start next
one_entry_more k f ms es fs name n d v start count next so_far named new is one =
    let absent : get_member n ms ≡ None = ap (λ m. get_member m ms) (sym named) ∙ absent k f name ms es so_far.read new in
    record {
      read = read_put k n d (f v) one.ok ms (entries_of_list (pairs_of f es)) so_far.read ∙ ap (λ m. Some (put_entry m (f v) (entries_of_list (pairs_of f es)))) (sym named)
          ∙ ap Some (sym (inserted f name v es)) ∙ ap (λ r. Some (entries_of_list (pairs_of f r))) (sym is);
      at_most = omega (arith, put_values n d ms absent, one.at_most, so_far.at_most);
      grows = omega (arith, one.grows, so_far.grows);
      at_least = counted_more _ _ _ _ _ _ so_far.at_least one.grows one.at_least (ap (λ r. entries_schema_count (entries_of_list (pairs_of f r))) is ∙ counted f name v es new);
    }

-- ---- a map

-- the members before `now` were read as `es`
pub record MapSoFar {T : Type 0} (k : Kind) (f : T → Doc) (depth : ℕ) (first now : List Token) (es : List (String Global × T)) (start count : ℕ) : Type 0 where
  pub found : Members
  pub members : MembersSoFar depth first now found
  pub entries : EntriesRead k f found es start count

pub map_begun : {T : Type 0} (k : Kind) (f : T → Doc) (depth : ℕ) (first : List Token) (es : List (String Global × T)) (start : ℕ) → es ≡ [] → MapSoFar k f depth first first es start start
map_begun k f depth first es start none = record { found = no_members; members = no_member_yet depth first; entries = no_entry_yet k f es start none }

pub map_step : {T : Type 0} (k : Kind) (f : T → Doc) (depth : ℕ) (first now s new : List Token) (es fs : List (String Global × T)) (name : String Global) (n : List ℕ) (v : T) (start count next : ℕ) → MapSoFar k f depth first now es start count
    → read_key now ≡ Some (Some n, s) → length new < length s → FromTokens (read k) f v depth s new count next → string_bytes name ≡ n → lookup (is_at (string_cmp name)) es ≡ None → fs ≡ insert_entry string_cmp es name v
    → MapSoFar k f depth first new fs start next
map_step k f depth first now s new es fs name n v start count next so_far key less one named fresh is =
    record {
      found = put n one.tree so_far.found;
      members = one_member_more depth first now s new n one.tree so_far.found so_far.members key one.comes less;
      entries = one_entry_more k f so_far.found es fs name n one.tree v start count next so_far.entries named fresh is one.reads;
    }

pub map_read : {T : Type 0} (k : Kind) (f : T → Doc) (depth : ℕ) (old first now new : List Token) (m : BTreeMap (String Global) T) (start count : ℕ) → 0 < depth → old ≡ token.begin_object ∷ first → MapSoFar k f (depth - 1) first now m.entries start count
    → read_key now ≡ Some (None, new) → FromTokens {A = BTreeMap (String Global) T} (read (map_of k)) (map_of_docs f) m depth old new start count
map_read k f depth old first now new m start count deep opens so_far ends =
    let es = entries_of_list (pairs_of f m.entries) in
    record {
      tree = object so_far.found;
      comes = object_comes depth old first now new so_far.found deep opens so_far.members ends;
      reads = record {
        ok = read-map k (object so_far.found) ∙ ap (option_map map_doc) so_far.entries.read;
        err = tt;
        grows = so_far.entries.grows;
        at_most = omega (arith, so_far.entries.at_most, values_object so_far.found);
        at_least = λ below. omega (arith, schema_count-map es, so_far.entries.at_least below);
      };
    }

-- ---- entries beside extensions

-- of the members before `now`, those that are extensions are `xs`, and the others were read as `es`
pub record EntriesSoFar {T : Type 0} (k : Kind) (f : T → Doc) (depth : ℕ) (first now : List Token) (es : List (String Global × T)) (xs : List (String Global × Value)) (start count : ℕ) : Type 0 where
  pub found : Members
  pub members : MembersSoFar depth first now found
  pub entries : EntriesRead k f (others found) es start count
  pub extensions : extension_members found ≡ members_view xs

pub entries_begun : {T : Type 0} (k : Kind) (f : T → Doc) (depth : ℕ) (first : List Token) (es : List (String Global × T)) (xs : List (String Global × Value)) (start : ℕ) → es ≡ [] → xs ≡ [] → EntriesSoFar k f depth first first es xs start start
entries_begun k f depth first es xs start none nothing = record { found = no_members; members = no_member_yet depth first; entries = no_entry_yet k f es start none; extensions = ap members_view (sym nothing) }

-- an extension more
pub extension_step : {T : Type 0} (k : Kind) (f : T → Doc) (depth : ℕ) (first now s new : List Token) (es : List (String Global × T)) (xs ys : List (String Global × Value)) (name : String Global) (n : List ℕ) (v : Value) (start count : ℕ) → EntriesSoFar k f depth first now es xs start count
    → read_key now ≡ Some (Some n, s) → length new < length s → Comes (view v) depth s new → string_bytes name ≡ n → is_extension n ≡ true → ys ≡ insert_entry string_cmp xs name v
    → EntriesSoFar k f depth first new es ys start count
extension_step k f depth first now s new es xs ys name n v start count so_far key less comes named extends is =
    record {
      found = put n (view v) so_far.found;
      members = one_member_more depth first now s new n (view v) so_far.found so_far.members key comes less;
      entries = subst (λ ms. EntriesRead k f ms es start count) (sym (others_put true n (view v) so_far.found extends so_far.members.ordered)) so_far.entries;
      extensions = extensions_put true n (view v) so_far.found extends so_far.members.ordered ∙ ap (put n (view v)) so_far.extensions
          ∙ ap (λ m. put m (view v) (members_view xs)) (sym named) ∙ sym (members_view-insert_entry xs name v) ∙ ap members_view (sym is);
    }

-- an entry more
pub entry_step : {T : Type 0} (k : Kind) (f : T → Doc) (depth : ℕ) (first now s new : List Token) (es fs : List (String Global × T)) (xs : List (String Global × Value)) (name : String Global) (n : List ℕ) (v : T) (start count next : ℕ) → EntriesSoFar k f depth first now es xs start count
    → read_key now ≡ Some (Some n, s) → length new < length s → FromTokens (read k) f v depth s new count next → string_bytes name ≡ n → is_extension n ≡ false → lookup (is_at (string_cmp name)) es ≡ None → fs ≡ insert_entry string_cmp es name v
    → EntriesSoFar k f depth first new fs xs start next
entry_step k f depth first now s new es fs xs name n v start count next so_far key less one named extends fresh is =
    record {
      found = put n one.tree so_far.found;
      members = one_member_more depth first now s new n one.tree so_far.found so_far.members key one.comes less;
      entries = subst (λ ms. EntriesRead k f ms fs start next) (sym (others_put false n one.tree so_far.found extends so_far.members.ordered))
          (one_entry_more k f (others so_far.found) es fs name n one.tree v start count next so_far.entries named fresh is one.reads);
      extensions = extensions_put false n one.tree so_far.found extends so_far.members.ordered ∙ so_far.extensions;
    }

pub entries_read : {T : Type 0} (k : Kind) (f : T → Doc) (depth : ℕ) (old first now new : List Token) (m : BTreeMap (String Global) T) (o : Option Extensions) (xs : List (String Global × Value)) (start count : ℕ) → 0 < depth → old ≡ token.begin_object ∷ first
    → EntriesSoFar k f (depth - 1) first now m.entries xs start count → read_key now ≡ Some (None, new) → option_map extensions_view o ≡ some_if_any (members_view xs)
    → FromTokens {A = BTreeMap (String Global) T × Option Extensions} (read (entries_of k)) (λ w. entries_beside f w.0 w.1) (m, o) depth old new start count
entries_read k f depth old first now new m o xs start count deep opens so_far ends extends =
    let es = entries_of_list (pairs_of f m.entries) in
    let ms = so_far.found in
    let extended : extensions_of true ms ≡ option_map extensions_view o = ap some_if_any so_far.extensions ∙ sym extends in
    record {
      tree = object ms;
      comes = object_comes depth old first now new ms deep opens so_far.members ends;
      reads = record {
        ok = read-entries k (object ms) ∙ ap (λ ps. option_map (λ fs. entries_doc fs (extensions_of true ms)) (read_entries k ps)) (entries_kept ms)
            ∙ ap (option_map (λ fs. entries_doc fs (extensions_of true ms))) so_far.entries.read ∙ ap (λ r. Some (entries_doc es r)) extended;
        err = tt;
        grows = so_far.entries.grows;
        at_most = omega (arith, so_far.entries.at_most, values_object ms, kept_fewer (λ n. not (is_extension n)) ms);
        at_least = λ below. omega (arith, schema_count-entries es (option_map extensions_view o), so_far.entries.at_least below);
      };
    }
