-- A table is written as the fields that are there in the order of their names, with the extensions among them.
use Rattle.std.proofs.Common.{◌≡◌, ℕ, List, [], ◌∷◌, ◌++◌, Bool, true, false, Option, Some, None, option_map, option_and_then, refl, sym, ap, ◌∙◌, nat_cmp, Ordering, Less, Equal, Greater, true≢false, is_eq, is_some, suc, ◌<◌, arith}
use Rattle.std.proofs.lemmas.Cmp.{nat_list_cmp_total}
use Rattle.std.specs.Cmp.Lexicographic.{slice_cmp}
use Rattle.std.proofs.lemmas.Map.Text.{is_eq-slice_cmp}
use Rattle.std.proofs.lemmas.Slice.Eq.{bytes_eq-Decides}
use Rattle.std.specs.Ordering.{match_ordering, ordering_reverse}
use Rattle.serde_json.specs.Data.{Data, string, object, Members, no_members, member, put}
use Rattle.utoipa_base.specs.Docs.{Doc, flow_doc, tagged_doc, table_doc, Docs, no_docs, doc}
use Rattle.utoipa_base.specs.Extensions.{members_or_none}
use Rattle.utoipa_base.specs.InOrder.{Field, fields_by, is_less, is_greater, is_below, placed, insert, tag, tagged, object_parts, member_unless, row_members, joined, names_before, names_after, starts_before, starts_with_name, first_member, later_members, among, rest_after}
use Rattle.utoipa_base.specs.Kinds.{Row}
use Rattle.utoipa_base.specs.Pending.{next_view}
use Rattle.utoipa_base.specs.declared.pending.NextExtension.{NextExtension}
use Rattle.utoipa_base.specs.Tables.{table}
use Rattle.utoipa_base.specs.Writing.{write, write_rows, left_out, put_row, put_unless, merge_member, merge_members, with_member}
use Rattle.utoipa_base.proofs.BoolFacts.{and_first, and_second}
use Rattle.utoipa_base.proofs.TableNames.{comes_first, comes_earlier, are_apart, first_before, others_apart, less_is, before_later, table_apart}

-- ---- the order of names

turned : (k l : List ℕ) (o : Ordering) → slice_cmp nat_cmp k l ≡ o → slice_cmp nat_cmp l k ≡ ordering_reverse o
turned k l o is = nat_list_cmp_total.antisymm l k ∙ ap ordering_reverse is

later_after : (k l m : List ℕ) → slice_cmp nat_cmp k l ≡ Greater → slice_cmp nat_cmp l m ≡ Greater → slice_cmp nat_cmp k m ≡ Greater
later_after k l m first second = turned m k Less (before_later m l k (turned l m Greater second) (turned k l Greater first))

same_name : (k l : List ℕ) → slice_cmp nat_cmp k l ≡ Equal → k ≡ l
same_name k l is = (bytes_eq-Decides k l).0 (sym (is_eq-slice_cmp k l) ∙ ap is_eq is)

-- ---- a member put among members

merged_after : (l : List ℕ) (f : Data) (rest : Members → Members) (k : List ℕ) (d : Data) (es : Members) → slice_cmp nat_cmp l k ≡ Greater → merge_member l f rest (member k d es) ≡ member k d (merge_member l f rest es)
merged_after l f rest k d es h = ap (λ o. match_ordering o (member l f (rest (member k d es))) (member l f (rest es)) (member k d (merge_member l f rest es))) h

put_first : (k : List ℕ) (d : Data) (l : List ℕ) (e : Data) (ms : Members) → slice_cmp nat_cmp k l ≡ Less → put k d (member l e ms) ≡ member k d (member l e ms)
put_first k d l e ms h = ap (λ o. match_ordering o (member k d (member l e ms)) (member l d ms) (member l e (put k d ms))) h

put_same : (k : List ℕ) (d : Data) (l : List ℕ) (e : Data) (ms : Members) → slice_cmp nat_cmp k l ≡ Equal → put k d (member l e ms) ≡ member k d ms
put_same k d l e ms h = ap (λ o. match_ordering o (member k d (member l e ms)) (member l d ms) (member l e (put k d ms))) h ∙ ap (λ n. member n d ms) (sym (same_name k l h))

put_later : (k : List ℕ) (d : Data) (l : List ℕ) (e : Data) (ms : Members) → slice_cmp nat_cmp k l ≡ Greater → put k d (member l e ms) ≡ member l e (put k d ms)
put_later k d l e ms h = ap (λ o. match_ordering o (member k d (member l e ms)) (member l d ms) (member l e (put k d ms))) h

-- ---- a member put among merged members

-- a member that comes before the first of those that were merged
put_less_at : (o p : Ordering) (k : List ℕ) (d : Data) (l : List ℕ) (f : Data) (rest : Members → Members) (x : List ℕ) (g : Data) (es : Members) → slice_cmp nat_cmp k l ≡ Less → slice_cmp nat_cmp k x ≡ p → (o ≡ Less → p ≡ Less) → (o ≡ Equal → p ≡ Less)
    → put k d (merge_member l f rest es) ≡ merge_member k d (merge_member l f rest) es
    → put k d (match_ordering o (member l f (rest (member x g es))) (member l f (rest es)) (member x g (merge_member l f rest es)))
    ≡ match_ordering p (member k d (match_ordering o (member l f (rest (member x g es))) (member l f (rest es)) (member x g (merge_member l f rest es)))) (member k d (merge_member l f rest es)) (member x g (merge_member k d (merge_member l f rest) es))
put_less_at Less Less k d l f rest x g es h at a b more = put_first k d l f (rest (member x g es)) h
put_less_at Less Equal k d l f rest x g es h at a b more = let never : Equal ≡ Less = a refl in absurd cc
put_less_at Less Greater k d l f rest x g es h at a b more = let never : Greater ≡ Less = a refl in absurd cc
put_less_at Equal Less k d l f rest x g es h at a b more = put_first k d l f (rest es) h
put_less_at Equal Equal k d l f rest x g es h at a b more = let never : Equal ≡ Less = b refl in absurd cc
put_less_at Equal Greater k d l f rest x g es h at a b more = let never : Greater ≡ Less = b refl in absurd cc
put_less_at Greater Less k d l f rest x g es h at a b more = put_first k d x g (merge_member l f rest es) at
put_less_at Greater Equal k d l f rest x g es h at a b more = put_same k d x g (merge_member l f rest es) at
put_less_at Greater Greater k d l f rest x g es h at a b more = put_later k d x g (merge_member l f rest es) at ∙ ap (member x g) more

put_less : (k : List ℕ) (d : Data) (l : List ℕ) (f : Data) (rest : Members → Members) (es : Members) → slice_cmp nat_cmp k l ≡ Less → put k d (merge_member l f rest es) ≡ merge_member k d (merge_member l f rest) es
put_less k d l f rest no_members h = put_first k d l f (rest no_members) h
put_less k d l f rest (member x g es) h =
    put_less_at (slice_cmp nat_cmp l x) (slice_cmp nat_cmp k x) k d l f rest x g es h refl (λ is. before_later k l x h is) (λ is. ap (slice_cmp nat_cmp k) (sym (same_name l x is)) ∙ h) (put_less k d l f rest es h)

-- a member of the name of the first
put_equal_at : (o : Ordering) (k : List ℕ) (d : Data) (l : List ℕ) (f : Data) (rest : Members → Members) (x : List ℕ) (g : Data) (es : Members) → slice_cmp nat_cmp k l ≡ Equal → slice_cmp nat_cmp k x ≡ o → put k d (merge_member l f rest es) ≡ merge_member k d rest es
    → put k d (match_ordering o (member l f (rest (member x g es))) (member l f (rest es)) (member x g (merge_member l f rest es)))
    ≡ match_ordering o (member k d (rest (member x g es))) (member k d (rest es)) (member x g (merge_member k d rest es))
put_equal_at Less k d l f rest x g es h at more = put_same k d l f (rest (member x g es)) h
put_equal_at Equal k d l f rest x g es h at more = put_same k d l f (rest es) h
put_equal_at Greater k d l f rest x g es h at more = put_later k d x g (merge_member l f rest es) at ∙ ap (member x g) more

put_equal : (k : List ℕ) (d : Data) (l : List ℕ) (f : Data) (rest : Members → Members) (es : Members) → slice_cmp nat_cmp k l ≡ Equal → put k d (merge_member l f rest es) ≡ merge_member k d rest es
put_equal k d l f rest no_members h = put_same k d l f (rest no_members) h
put_equal k d l f rest (member x g es) h =
    let same : slice_cmp nat_cmp k x ≡ slice_cmp nat_cmp l x = nat_list_cmp_total.congr k l x h in
    put_equal_at (slice_cmp nat_cmp l x) k d l f rest x g es h same (put_equal k d l f rest es h)
    ∙ ap (λ o. match_ordering o (member k d (rest (member x g es))) (member k d (rest es)) (member x g (merge_member k d rest es))) (sym same)

-- a member that comes after the first
put_greater_at : (o : Ordering) (k : List ℕ) (d : Data) (l : List ℕ) (f : Data) (rest : Members → Members) (x : List ℕ) (g : Data) (es : Members) → slice_cmp nat_cmp k l ≡ Greater → (o ≡ Greater → slice_cmp nat_cmp k x ≡ Greater)
    → put k d (merge_member l f rest es) ≡ merge_member l f (λ e. put k d (rest e)) es
    → put k d (match_ordering o (member l f (rest (member x g es))) (member l f (rest es)) (member x g (merge_member l f rest es)))
    ≡ match_ordering o (member l f (put k d (rest (member x g es)))) (member l f (put k d (rest es))) (member x g (merge_member l f (λ e. put k d (rest e)) es))
put_greater_at Less k d l f rest x g es h at more = put_later k d l f (rest (member x g es)) h
put_greater_at Equal k d l f rest x g es h at more = put_later k d l f (rest es) h
put_greater_at Greater k d l f rest x g es h at more = put_later k d x g (merge_member l f rest es) (at refl) ∙ ap (member x g) more

put_greater : (k : List ℕ) (d : Data) (l : List ℕ) (f : Data) (rest : Members → Members) (es : Members) → slice_cmp nat_cmp k l ≡ Greater → put k d (merge_member l f rest es) ≡ merge_member l f (λ e. put k d (rest e)) es
put_greater k d l f rest no_members h = put_later k d l f (rest no_members) h
put_greater k d l f rest (member x g es) h = put_greater_at (slice_cmp nat_cmp l x) k d l f rest x g es h (λ is. later_after k l x h is) (put_greater k d l f rest es h)

merge_member-same : (k : List ℕ) (d : Data) (r s : Members → Members) (es : Members) → ((e : Members) → r e ≡ s e) → merge_member k d r es ≡ merge_member k d s es
merge_member-same k d r s no_members same = ap (member k d) (same no_members)
merge_member-same k d r s (member x g es) same =
    ap (λ m. match_ordering (slice_cmp nat_cmp k x) (member k d m) (member k d (r es)) (member x g (merge_member k d r es))) (same (member x g es))
    ∙ ap (λ m. match_ordering (slice_cmp nat_cmp k x) (member k d (s (member x g es))) (member k d m) (member x g (merge_member k d r es))) (same es)
    ∙ ap (λ m. match_ordering (slice_cmp nat_cmp k x) (member k d (s (member x g es))) (member k d (s es)) (member x g m)) (merge_member-same k d r s es same)

put_alone_at : (o : Ordering) (k : List ℕ) (d : Data) (x : List ℕ) (g : Data) (es : Members) → slice_cmp nat_cmp k x ≡ o → put k d es ≡ merge_member k d (merge_members no_members) es
    → match_ordering o (member k d (member x g es)) (member x d es) (member x g (put k d es)) ≡ match_ordering o (member k d (member x g es)) (member k d es) (member x g (merge_member k d (merge_members no_members) es))
put_alone_at Less k d x g es is more = refl
put_alone_at Equal k d x g es is more = ap (λ n. member n d es) (sym (same_name k x is))
put_alone_at Greater k d x g es is more = ap (member x g) more

put_alone : (k : List ℕ) (d : Data) (es : Members) → put k d es ≡ merge_member k d (merge_members no_members) es
put_alone k d no_members = refl
put_alone k d (member x g es) = put_alone_at (slice_cmp nat_cmp k x) k d x g es refl (put_alone k d es)

put_merged_at : (o : Ordering) (k : List ℕ) (d : Data) (l : List ℕ) (f : Data) (ms es : Members) → slice_cmp nat_cmp k l ≡ o → ((e : Members) → put k d (merge_members ms e) ≡ merge_members (put k d ms) e)
    → put k d (merge_member l f (merge_members ms) es) ≡ merge_members (match_ordering o (member k d (member l f ms)) (member l d ms) (member l f (put k d ms))) es
put_merged_at Less k d l f ms es is more = put_less k d l f (merge_members ms) es is
put_merged_at Equal k d l f ms es is more = put_equal k d l f (merge_members ms) es is ∙ ap (λ n. merge_member n d (merge_members ms) es) (same_name k l is)
put_merged_at Greater k d l f ms es is more = put_greater k d l f (merge_members ms) es is ∙ merge_member-same l f (λ e. put k d (merge_members ms e)) (merge_members (put k d ms)) es more

-- a member put among members that were merged with others is one put among the former
pub put_merged : (k : List ℕ) (d : Data) (ms es : Members) → put k d (merge_members ms es) ≡ merge_members (put k d ms) es
put_merged k d no_members es = put_alone k d es
put_merged k d (member l f ms) es = put_merged_at (slice_cmp nat_cmp k l) k d l f ms es refl (λ e. put_merged k d ms e)

-- ---- rows in their order, over other members

-- a member that comes before the first of those that are merged after it
put_under_at : (o : Ordering) (k : List ℕ) (d : Data) (l : List ℕ) (f : Data) (rest : Members → Members) (x : List ℕ) (g : Data) (es : Members) → slice_cmp nat_cmp k x ≡ o → slice_cmp nat_cmp k l ≡ Less
    → merge_member l f rest (put k d es) ≡ merge_member k d (merge_member l f rest) es
    → merge_member l f rest (match_ordering o (member k d (member x g es)) (member x d es) (member x g (put k d es)))
    ≡ match_ordering o (member k d (merge_member l f rest (member x g es))) (member k d (merge_member l f rest es)) (member x g (merge_member k d (merge_member l f rest) es))
put_under_at Less k d l f rest x g es is h more = merged_after l f rest k d (member x g es) (turned k l Less h)
put_under_at Equal k d l f rest x g es is h more =
    let same : k ≡ x = same_name k x is in
    merged_after l f rest x d es (turned x l Less (ap (λ n. slice_cmp nat_cmp n l) (sym same) ∙ h)) ∙ ap (λ n. member n d (merge_member l f rest es)) (sym same)
put_under_at Greater k d l f rest x g es is h more = merged_after l f rest x g (put k d es) (turned x l Less (before_later x k l (turned k x Greater is) h)) ∙ ap (member x g) more

put_under : (k : List ℕ) (d : Data) (l : List ℕ) (f : Data) (rest : Members → Members) (es : Members) → slice_cmp nat_cmp k l ≡ Less → merge_member l f rest (put k d es) ≡ merge_member k d (merge_member l f rest) es
put_under k d l f rest no_members h = merged_after l f rest k d no_members (turned k l Less h)
put_under k d l f rest (member x g es) h = put_under_at (slice_cmp nat_cmp k x) k d l f rest x g es refl h (put_under k d l f rest es h)

-- whether a name comes before that of the first member
abbrev comes_before : List ℕ → Members → Bool
comes_before k no_members = true
comes_before k (member l e ms) = is_less (slice_cmp nat_cmp k l)

row_over : (b : Bool) (k : List ℕ) (d : Data) (ms es : Members) → comes_before k ms ≡ true → merge_members ms (put_unless b k d es) ≡ merge_members (member_unless b k d ms) es
row_over true k d ms es h = refl
row_over false k d no_members es h = put_alone k d es
row_over false k d (member l f ms) es h = put_under k d l f (merge_members ms) es (less_is _ h)

first_there_at : (b : Bool) (k : List ℕ) (l : List ℕ) (e : Data) (ms : Members) → slice_cmp nat_cmp k l ≡ Less → comes_before k ms ≡ true → comes_before k (member_unless b l e ms) ≡ true
first_there_at true k l e ms h later = later
first_there_at false k l e ms h later = ap is_less h

-- a name that comes before the rows' comes before those of the members that are there
first_there : (k : List ℕ) (ds : Docs) (rs : List Row) → comes_first k rs ≡ true → are_apart rs ≡ true → comes_before k (row_members ds rs) ≡ true
unfolding row_members
first_there k no_docs rs first h = refl
first_there k (doc d ds) [] first h = refl
first_there k (doc d ds) (r ∷ rs) first h =
    let before : slice_cmp nat_cmp k r.name ≡ Less = less_is _ first in
    first_there_at (left_out r.mark d) k r.name (write d) (row_members ds rs) before (first_there k ds rs (comes_earlier k r.name rs before (first_before r rs h)) (others_apart r rs h))

-- rows in their order are written as their members that are there, with those of the object among them
rows_over : (ds : Docs) (rs : List Row) (es : Members) → are_apart rs ≡ true → write_rows ds rs es ≡ merge_members (row_members ds rs) es
unfolding write_rows row_members
rows_over no_docs rs es h = refl
rows_over (doc d ds) [] es h = refl
rows_over (doc d ds) (r ∷ rs) es h =
    rows_over ds rs (put_row r d (write d) es) (others_apart r rs h)
    ∙ row_over (left_out r.mark d) r.name (write d) (row_members ds rs) es (first_there r.name ds rs (first_before r rs h) (others_apart r rs h))

-- ---- fields in their order

-- the members of fields that are there
unfoldable pub there : List Field → Members
there [] = no_members
there (p ∷ ps) = member_unless (left_out p.0.mark p.1) p.0.name (write p.1) (there ps)

pub rows_there : (ds : Docs) (rs : List Row) → there (fields_by ds rs) ≡ row_members ds rs
unfolding there row_members
rows_there no_docs rs = refl
rows_there (doc d ds) [] = refl
rows_there (doc d ds) (r ∷ rs) = ap (member_unless (left_out r.mark d) r.name (write d)) (rows_there ds rs)

greater_is : (o : Ordering) → is_greater o ≡ true → o ≡ Greater
greater_is Less h = absurd (true≢false (sym h))
greater_is Equal h = absurd (true≢false (sym h))
greater_is Greater h = refl

put_before : (b : Bool) (k : List ℕ) (d : Data) (l : List ℕ) (e : Data) (ms : Members) → slice_cmp nat_cmp k l ≡ Less → put k d ms ≡ member k d ms → put k d (member_unless b l e ms) ≡ member k d (member_unless b l e ms)
put_before true k d l e ms h more = more
put_before false k d l e ms h more = put_first k d l e ms h

put_below : (k : List ℕ) (d : Data) (qs : List Field) → is_below k qs ≡ true → put k d (there qs) ≡ member k d (there qs)
unfolding there
put_below k d [] h = refl
put_below k d (q ∷ qs) h =
    put_before _ k d q.0.name (write q.1) (there qs) (less_is _ (and_first _ (is_below k qs) h)) (put_below k d qs (and_second (is_less (slice_cmp nat_cmp k q.0.name)) _ h))

put_after : (b : Bool) (k : List ℕ) (d : Data) (l : List ℕ) (e : Data) (ms : Members) → slice_cmp nat_cmp k l ≡ Greater → put k d (member_unless b l e ms) ≡ member_unless b l e (put k d ms)
put_after true k d l e ms h = refl
put_after false k d l e ms h = put_later k d l e ms h

some_same : {A : Type 0} (x y : A) → Some x ≡ Some y → x ≡ y
some_same x y h = cc

-- what stands under a map of an option
mapped : {A B : Type 0} (f : A → B) (o : Option A) (y : B) → option_map f o ≡ Some y → (x : A) × (o ≡ Some x) × (f x ≡ y)
mapped f None y h = absurd cc
mapped f (Some x) y h = (x, refl, some_same _ _ h)

and_then_some : {A B : Type 0} (f : A → Option B) (o : Option A) (y : B) → option_and_then f o ≡ Some y → (x : A) × (o ≡ Some x) × (f x ≡ Some y)
and_then_some f None y h = absurd cc
and_then_some f (Some x) y h = (x, refl, h)

tag_placed : (below later : Bool) (name word : List ℕ) (q : Field) (qs : List Field) (more : Option (List Field)) (order : List Field) → is_below name (q ∷ qs) ≡ below → is_greater (slice_cmp nat_cmp name q.0.name) ≡ later
    → placed below later (tag name word) q qs more ≡ Some order → ((r : List Field) → more ≡ Some r → put name (string word) (there qs) ≡ there r) → put name (string word) (there (q ∷ qs)) ≡ there order
unfolding there write
tag_placed true later name word q qs more order is at h rest = put_below name (string word) (q ∷ qs) is ∙ ap there (some_same _ _ h)
tag_placed false true name word q qs more order is at h rest =
    let m = mapped (λ r. q ∷ r) more order h in
    put_after (left_out q.0.mark q.1) name (string word) q.0.name (write q.1) (there qs) (greater_is _ at) ∙ ap (member_unless (left_out q.0.mark q.1) q.0.name (write q.1)) (rest m.0 m.1) ∙ ap there m.2
tag_placed false false name word q qs more order is at h rest = absurd cc

-- a tag put among the fields that are there is its field in its place
tag_put : (name word : List ℕ) (qs order : List Field) → insert (tag name word) qs ≡ Some order → put name (string word) (there qs) ≡ there order
unfolding there write
tag_put name word [] order h = ap there (some_same _ _ h)
tag_put name word (q ∷ qs) order h = tag_placed _ _ name word q qs (insert (tag name word) qs) order refl refl h (λ r e. tag_put name word qs r e)

-- ---- the fields of an object

-- the document is an object of some fields: it is written as their members that are there, with the extensions among them
pub written_in_order : (d : Doc) (ps : List Field) (e : Option Members) → object_parts d ≡ Some (ps, e) → write d ≡ object (merge_members (there ps) (members_or_none e))
unfolding write
written_in_order (table_doc n ds e) ps f h =
    ap object (rows_over ds (table n) (members_or_none e) (table_apart n)) ∙ ap (λ ms. object (merge_members ms (members_or_none e))) (sym (rows_there ds (table n)))
    ∙ ap (λ (p : List Field × Option Members). object (merge_members (there p.0) (members_or_none p.1))) (some_same _ _ h)
written_in_order (tagged_doc name word d) ps e h =
    let m = and_then_some (tagged name word) (object_parts d) (ps, e) h in
    let i = mapped (λ (qs : List Field). (qs, m.0.1)) (insert (tag name word) m.0.0) (ps, e) m.2 in
    ap (with_member name (string word)) (written_in_order d m.0.0 m.0.1 m.1) ∙ ap object (put_merged name (string word) (there m.0.0) (members_or_none m.0.1))
    ∙ ap (λ ms. object (merge_members ms (members_or_none m.0.1))) (tag_put name word m.0.0 i.0 i.1) ∙ ap (λ (p : List Field × Option Members). object (merge_members (there p.0) (members_or_none p.1))) i.2
written_in_order (flow_doc d) ps e h = written_in_order d ps e h
written_in_order d ps e h = absurd cc

-- ---- members among others

merged_one_at : (o : Ordering) (k : List ℕ) (d : Data) (rest : Members → Members) (x : List ℕ) (g : Data) (es : Members) → merge_member k d rest es ≡ joined (names_before k es) (member k d (rest (names_after k es)))
    → match_ordering o (member k d (rest (member x g es))) (member k d (rest es)) (member x g (merge_member k d rest es))
    ≡ joined (match_ordering o no_members no_members (member x g (names_before k es))) (member k d (rest (match_ordering o (member x g es) es (names_after k es))))
merged_one_at Less k d rest x g es more = refl
merged_one_at Equal k d rest x g es more = refl
merged_one_at Greater k d rest x g es more = ap (member x g) more

merged_one : (k : List ℕ) (d : Data) (rest : Members → Members) (es : Members) → merge_member k d rest es ≡ joined (names_before k es) (member k d (rest (names_after k es)))
merged_one k d rest no_members = refl
merged_one k d rest (member x g es) = merged_one_at (slice_cmp nat_cmp k x) k d rest x g es (merged_one k d rest es)

pub joined-none : (ms : Members) → joined ms no_members ≡ ms
joined-none no_members = refl
joined-none (member k d ms) = ap (member k d) (joined-none ms)

pub joined-joined : (xs ys zs : Members) → joined (joined xs ys) zs ≡ joined xs (joined ys zs)
joined-joined no_members ys zs = refl
joined-joined (member k d xs) ys zs = ap (member k d) (joined-joined xs ys zs)

-- merged members are those that come with the first, and what is left of the others
pub merged_split : (ms es : Members) → merge_members ms es ≡ joined (among ms es) (rest_after ms es)
merged_split no_members es = refl
merged_split (member k d ms) es =
    merged_one k d (merge_members ms) es ∙ ap (λ r. joined (names_before k es) (member k d r)) (merged_split ms (names_after k es))
    ∙ sym (joined-joined (names_before k es) (member k d (among ms (names_after k es))) (rest_after ms (names_after k es)))

-- ---- what is left of the others

pub starts-before : (k : List ℕ) (ms : Members) → starts_before k ms ≡ true → names_before k ms ≡ joined (first_member ms) (names_before k (later_members ms))
starts-before k no_members h = refl
starts-before k (member l e ms) h = ap (λ o. match_ordering o no_members no_members (member l e (names_before k ms))) (greater_is _ h)

pub starts-after : (k : List ℕ) (ms : Members) → starts_before k ms ≡ true → names_after k (later_members ms) ≡ names_after k ms
starts-after k no_members h = refl
starts-after k (member l e ms) h = sym (ap (λ o. match_ordering o (member l e ms) ms (names_after k ms)) (greater_is _ h))

none_before_at : (o : Ordering) (l : List ℕ) (e : Data) (ms : Members) → is_greater o ≡ false → match_ordering o no_members no_members (member l e ms) ≡ no_members
none_before_at Less l e ms h = refl
none_before_at Equal l e ms h = refl
none_before_at Greater l e ms h = absurd (true≢false h)

-- where the first does not come before a name, none does
pub none_before : (k : List ℕ) (ms : Members) → starts_before k ms ≡ false → names_before k ms ≡ no_members
none_before k no_members h = refl
none_before k (member l e ms) h = none_before_at (slice_cmp nat_cmp k l) l e (names_before k ms) h

pub first_and_later : (ms : Members) → joined (first_member ms) (later_members ms) ≡ ms
first_and_later no_members = refl
first_and_later (member k d ms) = refl

after_at : (o : Ordering) (l : List ℕ) (e : Data) (ms before after : Members) → is_eq o ≡ false → match_ordering o no_members no_members (member l e before) ≡ no_members → match_ordering o (member l e ms) ms after ≡ member l e ms
after_at Less l e ms before after other h = refl
after_at Equal l e ms before after other h = absurd (true≢false other)
after_at Greater l e ms before after other h = absurd cc

same_at : (o : Ordering) (l : List ℕ) (e : Data) (ms after : Members) → is_eq o ≡ true → match_ordering o (member l e ms) ms after ≡ ms
same_at Less l e ms after h = absurd (true≢false (sym h))
same_at Equal l e ms after h = refl
same_at Greater l e ms after h = absurd (true≢false (sym h))

-- the members after a name, where the first has it
pub first_passed : (k : List ℕ) (ms : Members) → starts_with_name k ms ≡ true → later_members ms ≡ names_after k ms
first_passed k no_members h = refl
first_passed k (member l e ms) h = sym (same_at (slice_cmp nat_cmp k l) l e ms (names_after k ms) h)

-- the members after a name, where none comes before it and the first has another
pub none_passed : (k : List ℕ) (ms : Members) → starts_with_name k ms ≡ false → names_before k ms ≡ no_members → ms ≡ names_after k ms
none_passed k no_members h none = refl
none_passed k (member l e ms) h none = sym (after_at (slice_cmp nat_cmp k l) l e ms (names_before k ms) (names_after k ms) h none)

-- ---- how many there are

abbrev pub members_count : Members → ℕ
members_count no_members = 0
members_count (member k d ms) = suc (members_count ms)

pub starts-fewer : (k : List ℕ) (ms : Members) → starts_before k ms ≡ true → members_count (later_members ms) < members_count ms
starts-fewer k no_members h = absurd (true≢false (sym h))
starts-fewer k (member l e ms) h = omega arith

pub next-fewer : (o : Option NextExtension) → is_some o ≡ true → members_count (later_members (next_view o)) < members_count (next_view o)
next-fewer None h = absurd (true≢false (sym h))
next-fewer (Some n) h = omega arith

pub none-next : (o : Option NextExtension) → is_some o ≡ false → next_view o ≡ no_members
none-next None h = refl
none-next (Some n) h = absurd (true≢false h)

-- ---- rows, one after the other

pub among-joined : (ms ns es : Members) → among (joined ms ns) es ≡ joined (among ms es) (among ns (rest_after ms es))
among-joined no_members ns es = refl
among-joined (member k d ms) ns es =
    ap (λ r. joined (names_before k es) (member k d r)) (among-joined ms ns (names_after k es))
    ∙ sym (joined-joined (names_before k es) (member k d (among ms (names_after k es))) (among ns (rest_after ms (names_after k es))))

pub rest_after-joined : (ms ns es : Members) → rest_after (joined ms ns) es ≡ rest_after ns (rest_after ms es)
rest_after-joined no_members ns es = refl
rest_after-joined (member k d ms) ns es = rest_after-joined ms ns (names_after k es)

row_members-first_at : (b : Bool) (k : List ℕ) (d : Data) (ms : Members) → member_unless b k d ms ≡ joined (member_unless b k d no_members) ms
row_members-first_at true k d ms = refl
row_members-first_at false k d ms = refl

-- the members of a row and of those after it
pub row_members-first : (r : Row) (rs : List Row) (d : Doc) (ds : Docs) → row_members (doc d ds) (r ∷ rs) ≡ joined (row_members (doc d no_docs) (r ∷ [])) (row_members ds rs)
unfolding row_members
row_members-first r rs d ds = row_members-first_at (left_out r.mark d) r.name (write d) (row_members ds rs)

-- ---- an object by its fields in their order

there-append_at : (b : Bool) (k : List ℕ) (d : Data) (ms ns all : Members) → all ≡ joined ms ns → member_unless b k d all ≡ joined (member_unless b k d ms) ns
there-append_at true k d ms ns all is = is
there-append_at false k d ms ns all is = ap (member k d) is

pub there-append : (ps qs : List Field) → there (ps ++ qs) ≡ joined (there ps) (there qs)
unfolding there
there-append [] qs = refl
there-append (p ∷ ps) qs = there-append_at (left_out p.0.mark p.1) p.0.name (write p.1) (there ps) (there qs) (there (ps ++ qs)) (there-append ps qs)

-- ---- a member by its mark
