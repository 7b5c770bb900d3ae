-- The members of a written object: the rows' and the extensions, each where it was put.
use Rattle.std.proofs.Common.{◌≡◌, ℕ, List, [], ◌∷◌, Bool, true, false, ◌&&◌, ◌||◌, Option, Some, None, refl, sym, ap, ◌∙◌, true≢false, nat_cmp, cond, Ordering, Less, Equal, Greater}
use Rattle.std.proofs.lemmas.Map.Text.{is_eq-slice_cmp}
use Rattle.std.proofs.lemmas.Slice.Eq.{bytes_eq-Decides}
use Rattle.std.specs.Cmp.Lexicographic.{slice_cmp}
use Rattle.std.specs.Ordering.{is_eq, match_ordering}
use Rattle.std.specs.Str.{bytes_eq}
use Rattle.serde_json.specs.Data.{Data, Members, no_members, member, put}
use Rattle.serde_json.specs.Find.{get_member}
use Rattle.serde_json.proofs.Views.{get_member-put, get_member-put_other}
use Rattle.utoipa_base.specs.Kinds.{Kind, Mark, required, optional, or_null, defaulted, Row}
use Rattle.utoipa_base.specs.Docs.{Doc, Docs, no_docs, doc, Entries, no_entries, entry}
use Rattle.utoipa_base.specs.Extensions.{is_extension, extension_members, all_extensions, some_if_any, extensions_of, members_or_none}
use Rattle.utoipa_base.specs.Reading.{parts, part, part_of, entry_parts, Parts, fits, read_rows, both}
use Rattle.utoipa_base.specs.Writing.{write, write_rows, write_entries, left_out, put_row, put_unless, merge_member, merge_members}
use Rattle.utoipa_base.specs.Fields.{field_of}
use Rattle.utoipa_base.specs.NormalForm.{normal_extensions}
use Rattle.utoipa_base.specs.Shape.{Extends}
use Rattle.utoipa_base.specs.WellFormed.{AllExtensions, names_no_extension}
use Rattle.utoipa_base.proofs.ByRows.{part-parts}
use Rattle.utoipa_base.proofs.Values.{get_member-skip}
use Rattle.utoipa_base.proofs.BoolFacts.{and_first, and_second, or_first, or_second, not_true, apart}
use Rattle.utoipa_base.proofs.TableNames.{is_row, is_wanted, is_required, are_apart, first_plain, others_apart}

-- ---- the parts of members

-- a row's field is decided by the member at the row's name
pub fits-part : (r : Row) (ms : Members) → fits r.mark r.kind (part r.name (parts ms)) ≡ field_of r.mark r.kind (get_member r.name ms)
fits-part r ms = ap (fits r.mark r.kind) (part-parts r.name ms)

-- a field and the others are the fields
pub both_fit : (a : Option Doc) (b : Option Docs) (d : Doc) (ds : Docs) → a ≡ Some d → b ≡ Some ds → both a b ≡ Some (doc d ds)
both_fit a b d ds e f = rw (e, f)

-- with fields that do not fit, there are none
both_none : (a : Option Doc) → both a None ≡ None
both_none None = refl
both_none (Some d) = refl

-- a required row does not fit where its member is absent
required_missing : (m : Mark) (k : Kind) → is_required m ≡ true → field_of m k None ≡ None
required_missing required k e = refl
required_missing optional k e = absurd (true≢false (sym e))
required_missing or_null k e = absurd (true≢false (sym e))
required_missing defaulted k e = absurd (true≢false (sym e))

-- the row that wants the absent member is the first or a later one
refused_at : (b : Bool) (name : List ℕ) (r : Row) (rs : List Row) (ms : Members) → is_required r.mark && bytes_eq name r.name ≡ b → b || is_wanted name rs ≡ true → get_member name ms ≡ None
    → (is_wanted name rs ≡ true → read_rows rs (parts ms) ≡ None) → read_rows (r ∷ rs) (parts ms) ≡ None
refused_at true name r rs ms is w lacks later =
    let same : name ≡ r.name = (bytes_eq-Decides name r.name).0 (and_second _ _ is) in
    let none : fits r.mark r.kind (part r.name (parts ms)) ≡ None =
    fits-part r ms ∙ ap (λ q. field_of r.mark r.kind (get_member q ms)) (sym same) ∙ ap (field_of r.mark r.kind) lacks ∙ required_missing r.mark r.kind (and_first _ _ is) in
    ap (λ o. both o (read_rows rs (parts ms))) none
refused_at false name r rs ms is w lacks later = ap (both (fits r.mark r.kind (part r.name (parts ms)))) (later w) ∙ both_none _

-- rows of which one wants an absent member do not fit
pub rows_refused : (name : List ℕ) (rs : List Row) (ms : Members) → is_wanted name rs ≡ true → get_member name ms ≡ None → read_rows rs (parts ms) ≡ None
rows_refused name [] ms w lacks = absurd (true≢false (sym w))
rows_refused name (r ∷ rs) ms w lacks = refused_at _ name r rs ms refl w lacks (λ h. rows_refused name rs ms h lacks)

-- rows whose first does not fit do not fit
pub first_refused : (r : Row) (rs : List Row) (ms : Members) → field_of r.mark r.kind (get_member r.name ms) ≡ None → read_rows (r ∷ rs) (parts ms) ≡ None
first_refused r rs ms e = ap (λ o. both o (read_rows rs (parts ms))) (fits-part r ms ∙ e)

-- ---- which member stands at a name

-- no extension stands at a name that is no extension's
pub unnamed : (ms : Members) (q : List ℕ) → all_extensions ms ≡ true → is_extension q ≡ false → get_member q ms ≡ None
unnamed no_members q h n = refl
unnamed (member k d ms) q h n =
    get_member-skip q k d ms (λ same. true≢false (sym (and_first _ _ h) ∙ ap is_extension (sym same) ∙ n)) ∙ unnamed ms q (and_second _ _ h) n

-- the other names keep their members where one is put or left out
put_unless-other : (q k : List ℕ) (e : Data) (ms : Members) (b : Bool) → (q ≡ k → ⊥) → get_member q (put_unless b k e ms) ≡ get_member q ms
put_unless-other q k e ms true other = refl
put_unless-other q k e ms false other = get_member-put_other q k e ms other

-- a name of no row keeps its member
pub write_rows-other : (q : List ℕ) (ds : Docs) (rs : List Row) (ms : Members) → is_row q rs ≡ false → get_member q (write_rows ds rs ms) ≡ get_member q ms
unfolding write_rows
write_rows-other q no_docs rs ms h = refl
write_rows-other q (doc d ds) [] ms h = refl
write_rows-other q (doc d ds) (r ∷ rs) ms h =
    write_rows-other q ds rs _ (or_second _ _ h) ∙ put_unless-other q r.name (write d) ms (left_out r.mark d) (apart q r.name (or_first _ _ h))

-- the member that stands at a row's name
abbrev pub stands : Bool → Data → Option Data
stands true d = None
stands false d = Some d

-- at a name that was lacking stands what is put, if it is not left out
put_unless-same : (k : List ℕ) (e : Data) (ms : Members) (b : Bool) → get_member k ms ≡ None → get_member k (put_unless b k e ms) ≡ stands b e
put_unless-same k e ms true h = h
put_unless-same k e ms false h = get_member-put k e ms

-- what a row left at its own name, the rows after it leave there
pub write_rows-same : (r : Row) (d : Doc) (ds : Docs) (rs : List Row) (ms : Members) → is_row r.name rs ≡ false → get_member r.name ms ≡ None
    → get_member r.name (write_rows ds rs (put_row r d (write d) ms)) ≡ stands (left_out r.mark d) (write d)
write_rows-same r d ds rs ms h lacks = write_rows-other r.name ds rs _ h ∙ put_unless-same r.name (write d) ms (left_out r.mark d) lacks

-- the members lack each row's name
abbrev pub Lacks : List Row → Members → Type 0
Lacks [] ms = Unit {0}
Lacks (r ∷ rs) ms = (get_member r.name ms ≡ None) × Lacks rs ms

-- extensions lack each row's name
pub lacks_extensions : (rs : List Row) (ms : Members) → are_apart rs ≡ true → all_extensions ms ≡ true → Lacks rs ms
lacks_extensions [] ms h x = tt
lacks_extensions (r ∷ rs) ms h x = (unnamed ms r.name x (first_plain r rs h), lacks_extensions rs ms (others_apart r rs h) x)

-- the other rows' names are still lacking after a row
pub lacks_put : (rs : List Row) (r : Row) (d : Doc) (e : Data) (ms : Members) → is_row r.name rs ≡ false → Lacks rs ms → Lacks rs (put_row r d e ms)
lacks_put [] r d e ms h x = tt
lacks_put (q ∷ rs) r d e ms h x =
    (put_unless-other q.name r.name e ms (left_out r.mark d) (λ same. apart r.name q.name (or_first _ _ h) (sym same)) ∙ x.0, lacks_put rs r d e ms (or_second _ _ h) x.1)

-- ---- extensions

-- texts that compare as equal are equal
same_text : (o : Ordering) (k l : List ℕ) → slice_cmp nat_cmp k l ≡ o → o ≡ Equal → k ≡ l
same_text o k l is e = (bytes_eq-Decides k l).0 (sym (is_eq-slice_cmp k l) ∙ ap is_eq (is ∙ e))

-- at one member, one that is no extension leaves the extensions
put_extension_at : (o : Ordering) (k : List ℕ) (d : Data) (l : List ℕ) (e : Data) (ms more : Members) → slice_cmp nat_cmp k l ≡ o → is_extension k ≡ false
    → extension_members more ≡ extension_members ms
    → extension_members (match_ordering o (member k d (member l e ms)) (member l d ms) (member l e more)) ≡ extension_members (member l e ms)
put_extension_at Less k d l e ms more is h later = rw h
put_extension_at Equal k d l e ms more is h later =
    let other : is_extension l ≡ false = ap is_extension (sym (same_text Equal k l is refl)) ∙ h in
    rw other
put_extension_at Greater k d l e ms more is h later = ap (λ r. cond (is_extension l) (member l e r) r) later

-- a member that is no extension leaves the extensions
pub put_extension : (k : List ℕ) (d : Data) (ms : Members) → is_extension k ≡ false → extension_members (put k d ms) ≡ extension_members ms
put_extension k d no_members h = rw h
put_extension k d (member l e ms) h = put_extension_at (slice_cmp nat_cmp k l) k d l e ms (put k d ms) refl h (put_extension k d ms h)

-- a member that is put or left out, and is no extension, leaves the extensions
put_unless-extension : (k : List ℕ) (e : Data) (ms : Members) (b : Bool) → is_extension k ≡ false → extension_members (put_unless b k e ms) ≡ extension_members ms
put_unless-extension k e ms true h = refl
put_unless-extension k e ms false h = put_extension k e ms h

-- the rows leave the extensions
pub write_rows-extension : (ds : Docs) (rs : List Row) (ms : Members) → are_apart rs ≡ true → extension_members (write_rows ds rs ms) ≡ extension_members ms
unfolding write_rows
write_rows-extension no_docs rs ms h = refl
write_rows-extension (doc d ds) [] ms h = refl
write_rows-extension (doc d ds) (r ∷ rs) ms h =
    write_rows-extension ds rs _ (others_apart r rs h) ∙ put_unless-extension r.name (write d) ms (left_out r.mark d) (first_plain r rs h)

-- where all members are extensions, all are kept
all_extensions-same : (ms : Members) → all_extensions ms ≡ true → extension_members ms ≡ ms
all_extensions-same no_members h = refl
all_extensions-same (member k d ms) h =
    ap (λ b. cond b (member k d (extension_members ms)) (extension_members ms)) (and_first (is_extension k) (all_extensions ms) h) ∙ ap (member k d) (all_extensions-same ms (and_second _ _ h))

-- members that are all kept are in normal form extensions
pub some_if_any-normal : (e : Option Members) → some_if_any (members_or_none e) ≡ normal_extensions e
some_if_any-normal None = refl
some_if_any-normal (Some no_members) = refl
some_if_any-normal (Some (member k d ms)) = refl

-- no members have no extensions
none_extends : (kept : Bool) → extensions_of kept no_members ≡ None
none_extends true = refl
none_extends false = refl

-- the extensions of a type that keeps them are found again
pub extensions-normal : (kept : Bool) (e : Option Members) → Extends kept e → AllExtensions e → extensions_of kept (members_or_none e) ≡ normal_extensions e
extensions-normal kept None h x = none_extends kept
extensions-normal true (Some ms) h x = ap some_if_any (all_extensions-same ms x) ∙ some_if_any-normal (Some ms)
extensions-normal false (Some ms) h x = absurd (true≢false (sym h))

-- ---- the entries and the extensions of one object

-- no extension has the name of a member that is none
never_equal : (k l : List ℕ) → slice_cmp nat_cmp k l ≡ Equal → is_extension k ≡ false → is_extension l ≡ true → ⊥
never_equal k l is n x = true≢false (sym x ∙ ap is_extension (sym (same_text Equal k l is refl)) ∙ n)

-- at one extension, a member that is none leaves the extensions
merged_extensions_at : (o : Ordering) (k : List ℕ) (d : Data) (l : List ℕ) (e : Data) (ms here there later : Members) → slice_cmp nat_cmp k l ≡ o → is_extension k ≡ false → is_extension l ≡ true
    → extension_members here ≡ member l e ms → extension_members later ≡ ms → extension_members (match_ordering o (member k d here) (member k d there) (member l e later)) ≡ member l e ms
merged_extensions_at Less k d l e ms here there later is n x h t = rw n h
merged_extensions_at Equal k d l e ms here there later is n x h t = absurd (never_equal k l is n x)
merged_extensions_at Greater k d l e ms here there later is n x h t = rw x (ap (member l e) t)

-- a member that is no extension leaves those that it is merged with
merged_extensions : (k : List ℕ) (d : Data) (rest : Members → Members) → is_extension k ≡ false → ((ms : Members) → all_extensions ms ≡ true → extension_members (rest ms) ≡ ms)
    → (ms : Members) → all_extensions ms ≡ true → extension_members (merge_member k d rest ms) ≡ ms
merged_extensions k d rest n h no_members x = rw n (h no_members refl)
merged_extensions k d rest n h (member l e ms) x =
    merged_extensions_at _ k d l e ms (rest (member l e ms)) (rest ms) (merge_member k d rest ms) refl n (and_first _ _ x) (h (member l e ms) x) (merged_extensions k d rest n h ms (and_second _ _ x))

-- merged with entries that are no extensions, the extensions are found again
pub merge-extensions : (es : Entries) (ms : Members) → names_no_extension es ≡ true → all_extensions ms ≡ true → extension_members (merge_members (write_entries es) ms) ≡ ms
unfolding write_entries
merge-extensions no_entries ms n x = all_extensions-same ms x
merge-extensions (entry k d es) ms n x =
    merged_extensions k (write d) (merge_members (write_entries es)) (not_true _ (and_first _ _ n)) (λ ns y. merge-extensions es ns (and_second _ _ n) y) ms x

-- extensions alone have no entries
parts-no_entries : (ms : Members) → all_extensions ms ≡ true → entry_parts (parts ms) ≡ []
unfolding parts
parts-no_entries no_members x = refl
parts-no_entries (member k d ms) x = rw (and_first (is_extension k) (all_extensions ms) x) (parts-no_entries ms (and_second (is_extension k) (all_extensions ms) x))

-- at one extension, a member that is none is the next entry
merged_entries_at : (o : Ordering) (k : List ℕ) (d : Data) (l : List ℕ) (e : Data) (here there later : Members) (ps : Parts) → slice_cmp nat_cmp k l ≡ o → is_extension k ≡ false
    → is_extension l ≡ true
    → entry_parts (parts here) ≡ ps → entry_parts (parts later) ≡ (k, part_of d) ∷ ps
    → entry_parts (parts (match_ordering o (member k d here) (member k d there) (member l e later))) ≡ (k, part_of d) ∷ ps
unfolding parts
merged_entries_at Less k d l e here there later ps is n x h t = rw n (ap (λ qs. (k, part_of d) ∷ qs) h)
merged_entries_at Equal k d l e here there later ps is n x h t = absurd (never_equal k l is n x)
merged_entries_at Greater k d l e here there later ps is n x h t = rw x t

-- a member that is no extension is the first entry of what it is merged with
merged_entries : (k : List ℕ) (d : Data) (rest : Members → Members) (ps : Parts) → is_extension k ≡ false → ((ms : Members) → all_extensions ms ≡ true → entry_parts (parts (rest ms)) ≡ ps)
    → (ms : Members) → all_extensions ms ≡ true → entry_parts (parts (merge_member k d rest ms)) ≡ (k, part_of d) ∷ ps
unfolding parts
merged_entries k d rest ps n h no_members x = rw n (ap (λ qs. (k, part_of d) ∷ qs) (h no_members refl))
merged_entries k d rest ps n h (member l e ms) x =
    merged_entries_at _ k d l e (rest (member l e ms)) (rest ms) (merge_member k d rest ms) ps refl n (and_first _ _ x) (h (member l e ms) x) (merged_entries k d rest ps n h ms (and_second _ _ x))

-- merged with extensions, the entries are found again
pub merge-entries : (es : Entries) (ms : Members) → names_no_extension es ≡ true → all_extensions ms ≡ true → entry_parts (parts (merge_members (write_entries es) ms)) ≡ parts (write_entries es)
unfolding write_entries parts
merge-entries no_entries ms n x = parts-no_entries ms x
merge-entries (entry k d es) ms n x =
    merged_entries k (write d) (merge_members (write_entries es)) (parts (write_entries es)) (not_true _ (and_first _ _ n)) (λ ns y. merge-entries es ns (and_second _ _ n) y) ms x
