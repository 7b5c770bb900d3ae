-- A map's entries beside the extensions that they are read from and merged into.
use Rattle.std.proofs.Common.{◌≡◌, ℕ, List, [], ◌∷◌, ◌++◌, Bool, true, false, Option, Some, None, refl, sym, ap, ◌∙◌, String, Global, Ordering, Less, Equal, Greater, string_bytes, string_cmp, nat_cmp, cond}
use Rattle.std.proofs.lemmas.Cmp.{nat_list_cmp_total, tied_itself}
use Rattle.std.proofs.lemmas.Map.Lookups.{exact_bytes}
use Rattle.std.specs.Option.{option_or}
use Rattle.std.specs.Ordering.{match_ordering}
use Rattle.std.specs.Cmp.Lexicographic.{slice_cmp}
use Rattle.std.specs.List.{AllByRecursion}
use Rattle.std.specs.List.Sorted.{IsStrictlySortedBy}
use Rattle.std.specs.Map.{keys_of}
use Rattle.std.specs.BTreeMap.{insert_entry}
use Rattle.serde_json.specs.Data.{Data, Members, no_members, member, put}
use Rattle.serde_json.specs.Find.{get_member}
use Rattle.serde_json.specs.View.{view, members_view}
use Rattle.serde_json.specs.declared.value.Value.{Value}
use Rattle.serde_json.proofs.Views.{Entry, members_view-insert_entry, get_member-put, get_member-put_other}
use Rattle.utoipa_base.proofs.Maps.{above}
use Rattle.utoipa_base.specs.Fill.{put_each}
use Rattle.utoipa_base.specs.Extensions.{is_extension, extension_members, put_pairs, overlaid}

-- ---- the members whose names begin `x-`

-- one member at the front, whether it is an extension (c) or not
past_one : (x : Entry) (done : List Entry) (e : Entry) (b c : Bool) → is_extension (string_bytes x.0) ≡ c → slice_cmp nat_cmp (string_bytes e.0) (string_bytes x.0) ≡ Greater
    → extension_members (members_view (done ++ e ∷ [])) ≡ cond b (put (string_bytes e.0) (view e.1) (extension_members (members_view done))) (extension_members (members_view done))
    → extension_members (members_view (x ∷ (done ++ e ∷ []))) ≡ cond b (put (string_bytes e.0) (view e.1) (extension_members (members_view (x ∷ done)))) (extension_members (members_view (x ∷ done)))
past_one x done e true true is later h = rw (is, later) (ap (member (string_bytes x.0) (view x.1)) h)
past_one x done e true false is later h = rw is h
past_one x done e false true is later h = rw is (ap (member (string_bytes x.0) (view x.1)) h)
past_one x done e false false is later h = rw is h

-- one more member, whose name is above those before it
pub put_extension : (done : List Entry) (e : Entry) (more : List Entry) (b : Bool) → is_extension (string_bytes e.0) ≡ b → IsStrictlySortedBy string_cmp (keys_of (done ++ e ∷ more))
    → extension_members (members_view (done ++ e ∷ [])) ≡ cond b (put (string_bytes e.0) (view e.1) (extension_members (members_view done))) (extension_members (members_view done))
unfolding IsStrictlySortedBy
put_extension [] e more true is h = rw is
put_extension [] e more false is h = rw is
put_extension (x ∷ done) e more b is h = past_one x done e b _ refl (above x done e more h.0) (put_extension done e more b is h.1)

-- ---- a merge

-- entries put in turn are laid over as members
pub put_each-overlaid : (ps es : List Entry) → members_view (put_each ps es) ≡ overlaid (members_view ps) (members_view es)
put_each-overlaid [] es = refl
put_each-overlaid (p ∷ ps) es = put_each-overlaid ps (insert_entry string_cmp es p.0 p.1) ∙ ap (overlaid (members_view ps)) (members_view-insert_entry es p.0 p.1)

-- one more pair is put last
put_pairs-last : (ps : List Entry) (p : Entry) (ms : Members) → put_pairs (ps ++ p ∷ []) ms ≡ put (string_bytes p.0) (view p.1) (put_pairs ps ms)
put_pairs-last [] p ms = refl
put_pairs-last (x ∷ ps) p ms = put_pairs-last ps p (put (string_bytes x.0) (view x.1) ms)

-- an insert of one more pair
pub put_pairs-insert_entry : (es new ps : List Entry) (name : String Global) (v : Value) → new ≡ insert_entry string_cmp es name v → members_view es ≡ put_pairs ps no_members → members_view new ≡ put_pairs (ps ++ (name, v) ∷ []) no_members
put_pairs-insert_entry es new ps name v inserted so_far =
    ap members_view inserted ∙ members_view-insert_entry es name v ∙ ap (put (string_bytes name) (view v)) so_far ∙ sym (put_pairs-last ps (name, v) no_members)

-- ---- what a merge leaves at a name

-- no member has a name that is below all of theirs
below_all : (name : List ℕ) (es : List Entry) → AllByRecursion (λ y. slice_cmp nat_cmp name (string_bytes y) ≡ Less) (keys_of es) → get_member name (members_view es) ≡ None
below_all name [] h = refl
below_all name (e ∷ es) h = rw h.0 (below_all name es h.1)

-- names that compare otherwise differ
apart : (o : Ordering) (name k : List ℕ) → slice_cmp nat_cmp name k ≡ o → (o ≡ Equal → ⊥) → name ≡ k → ⊥
apart o name k is other h = other (sym is ∙ ap (λ q. slice_cmp nat_cmp q k) h ∙ tied_itself nat_list_cmp_total k)

-- the first of the later members is laid over
over_first : (o : Ordering) (name k : List ℕ) (d : Data) (rest : Option Data) (ms : Members) → slice_cmp nat_cmp name k ≡ o → (o ≡ Equal → rest ≡ None)
    → option_or rest (get_member name (put k d ms)) ≡ option_or (match_ordering o rest (Some d) rest) (get_member name ms)
over_first Less name k d rest ms is none = ap (option_or rest) (get_member-put_other name k d ms (apart Less name k is (λ e. cc)))
over_first Equal name k d rest ms is none = ap (λ o. option_or o (get_member name (put k d ms))) (none refl) ∙ ap (λ q. get_member q (put k d ms)) (exact_bytes name k is) ∙ get_member-put k d ms
over_first Greater name k d rest ms is none = ap (option_or rest) (get_member-put_other name k d ms (apart Greater name k is (λ e. cc)))

-- a name has its later value, or else its earlier one
pub get_member-overlaid : (name : List ℕ) (es : List Entry) (ms : Members) → IsStrictlySortedBy string_cmp (keys_of es)
    → get_member name (overlaid (members_view es) ms) ≡ option_or (get_member name (members_view es)) (get_member name ms)
unfolding IsStrictlySortedBy
get_member-overlaid name [] ms sorted = refl
get_member-overlaid name (e ∷ es) ms sorted =
    get_member-overlaid name es (put (string_bytes e.0) (view e.1) ms) sorted.1
    ∙ over_first (slice_cmp nat_cmp name (string_bytes e.0)) name (string_bytes e.0) (view e.1) _ ms refl (λ is. ap (λ q. get_member q (members_view es)) (exact_bytes name (string_bytes e.0) is) ∙ below_all (string_bytes e.0) es sorted.0)
