-- What stands under a name in the tree that an object is written as.
use Rattle.std.proofs.Common.{◌≡◌, ◌⊎◌, inl, inr, ℕ, List, [], ◌∷◌, ◌++◌, Bool, true, false, ◌&&◌, ◌||◌, cond, if◌then◌else◌, Option, None, Some, option_map, option_and_then, map, refl, sym, ap, ◌∙◌, subst, true≢false, Ordering, Less, Equal, Greater, nat_cmp}
use Rattle.std.proofs.lemmas.List.Folds.{list_any-append}
use Rattle.std.proofs.lemmas.Map.Lookups.{exact_bytes}
use Rattle.std.proofs.lemmas.Map.Text.{is_eq-slice_cmp}
use Rattle.std.proofs.lemmas.Option.{none-some, same_Some}
use Rattle.std.proofs.lemmas.Slice.Eq.{bytes_eq-Decides}
use Rattle.std.specs.Cmp.Lexicographic.{slice_cmp}
use Rattle.std.specs.List.{list_any}
use Rattle.std.specs.Ordering.{is_eq, match_ordering}
use Rattle.std.specs.Str.{bytes_eq}
use Rattle.serde_json.specs.Data.{Data, Members, no_members, member}
use Rattle.serde_json.specs.Find.{get, get_member}
use Rattle.utoipa_base.specs.Docs.{Doc, none_doc, map_doc, table_doc, Docs, no_docs, doc, Entries, no_entries, entry, entries_of_list}
use Rattle.utoipa_base.specs.Extensions.{is_extension, all_extensions, members_or_none}
use Rattle.utoipa_base.specs.Kinds.{ObjectType, Kind, named, map_of, defaulted, Row}
use Rattle.utoipa_base.specs.Shape.{value_of, field_place, IsOf, RowsOf}
use Rattle.utoipa_base.specs.Tables.{row, table}
use Rattle.utoipa_base.specs.WellFormed.{IsUnambiguous, AreUnambiguous, AllExtensions, names_no_extension}
use Rattle.utoipa_base.specs.Writing.{write, write_entries, write_rows, left_out, put_row, merge_member, merge_members}
use Rattle.utoipa_base.proofs.BoolFacts.{and_first, and_second, or_first, or_second, not_true}
use Rattle.utoipa_base.proofs.TableNames.{is_row, are_apart, table_apart, first_once, others_apart, first_plain}
use Rattle.utoipa_base.proofs.Values.{get_member-skip}
use Rattle.utoipa_base.proofs.WrittenMembers.{unnamed, write_rows-other, write_rows-same, stands, Lacks, lacks_extensions, lacks_put}
use Rattle.utoipa_merging.specs.Slots.{first_doc, rest_docs, row_field, field_at, extensions_in, pairs_in, entry_at, parts}
use Rattle.utoipa_merging.proofs.InOrder.{find_in}
use Rattle.utoipa_merging.proofs.Shapes.{table_shape, map_shape, row_at, field_fits}

-- ---- the rows of a table

row_written_at : (b : Bool) (name : List ℕ) (r : Row) (rs : List Row) (d : Doc) (ds : Docs) (ms : Members) (q : Row) → bytes_eq name r.name ≡ b → is_row r.name rs ≡ false → get_member r.name ms ≡ None
    → (if b then Some r else row_at name rs) ≡ Some q
    → (row_at name rs ≡ Some q → get_member name (write_rows ds rs (put_row r d (write d) ms)) ≡ stands (left_out q.mark (row_field name rs ds)) (write (row_field name rs ds)))
    → get_member name (write_rows ds rs (put_row r d (write d) ms)) ≡ stands (left_out q.mark (if b then d else row_field name rs ds)) (write (if b then d else row_field name rs ds))
row_written_at true name r rs d ds ms q is once lacks at later =
    let same : name ≡ r.name = (bytes_eq-Decides name r.name).0 is in
    ap (λ k. get_member k (write_rows ds rs (put_row r d (write d) ms))) same ∙ write_rows-same r d ds rs ms once lacks ∙ ap (λ x. stands (left_out x.mark d) (write d)) (same_Some r q at)
row_written_at false name r rs d ds ms q is once lacks at later = later at

-- the field of a row
row_written : (name : List ℕ) (rs : List Row) (ds : Docs) (ms : Members) (q : Row) → RowsOf ds rs → are_apart rs ≡ true → Lacks rs ms → row_at name rs ≡ Some q
    → get_member name (write_rows ds rs ms) ≡ stands (left_out q.mark (row_field name rs ds)) (write (row_field name rs ds))
unfolding RowsOf write_rows
row_written name [] ds ms q rows a lacks at = absurd (none-some q at)
row_written name (r ∷ rs) no_docs ms q rows a lacks at = absurd rows
row_written name (r ∷ rs) (doc d ds) ms q rows a lacks at =
    row_written_at (bytes_eq name r.name) name r rs d ds ms q refl (first_once r rs a) lacks.0 at
    (λ later. row_written name rs ds (put_row r d (write d) ms) q rows.1 (others_apart r rs a) (lacks_put rs r d (write d) ms (first_once r rs a) lacks.1) later)

-- the field of an object at the row of this name
pub member_written : (n : ObjectType) (ds : Docs) (e : Option Members) (name : List ℕ) (q : Row) → RowsOf ds (table n) → AllExtensions e → row_at name (table n) ≡ Some q
    → get_member name (write_rows ds (table n) (members_or_none e)) ≡ stands (left_out q.mark (row_field name (table n) ds)) (write (row_field name (table n) ds))
member_written n ds e name q rows x at = row_written name (table n) ds (members_or_none e) q rows (table_apart n) (lacks_extensions (table n) (members_or_none e) (table_apart n) x) at

-- ---- names of no row

either_false : (a b : Bool) → a ≡ false → b ≡ false → a || b ≡ false
either_false a b h g = ap (λ x. x || b) h ∙ g

unlike : (b : Bool) (k l : List ℕ) → bytes_eq k l ≡ b → is_extension k ≡ true → is_extension l ≡ false → b ≡ false
unlike true k l is x y = absurd (true≢false (sym x ∙ ap is_extension ((bytes_eq-Decides k l).0 is) ∙ y))
unlike false k l is x y = refl

-- an extension's name is none of a row
pub extension_no_row : (name : List ℕ) (rs : List Row) → are_apart rs ≡ true → is_extension name ≡ true → is_row name rs ≡ false
extension_no_row name [] a x = refl
extension_no_row name (r ∷ rs) a x =
    either_false (bytes_eq name r.name) (is_row name rs) (unlike (bytes_eq name r.name) name r.name refl x (first_plain r rs a)) (extension_no_row name rs (others_apart r rs a) x)

row_at_none : (b : Bool) (r : Row) (o : Option Row) (more : Bool) → (if b then Some r else o) ≡ None → (o ≡ None → more ≡ false) → b || more ≡ false
row_at_none true r o more h later = absurd (none-some r (sym h))
row_at_none false r o more h later = later h

no_row_at : (name : List ℕ) (rs : List Row) → row_at name rs ≡ None → is_row name rs ≡ false
no_row_at name [] h = refl
no_row_at name (r ∷ rs) h = row_at_none (bytes_eq name r.name) r (row_at name rs) (is_row name rs) h (no_row_at name rs)

-- a field of no row is absent
pub field_none : (name : List ℕ) (rs : List Row) (ds : Docs) → is_row name rs ≡ false → row_field name rs ds ≡ none_doc
field_none name [] ds h = refl
field_none name (r ∷ rs) ds h = ap (λ b. if b then first_doc ds else row_field name rs (rest_docs ds)) (or_first _ _ h) ∙ field_none name rs (rest_docs ds) (or_second _ _ h)

-- ---- a name among names

unlike_at : (b : Bool) (name k n : List ℕ) (more : Bool) → bytes_eq k n ≡ b → bytes_eq name n ≡ false → b || more ≡ true → (more ≡ true → bytes_eq name k ≡ false) → bytes_eq name k ≡ false
unlike_at true name k n more is none among later = ap (bytes_eq name) ((bytes_eq-Decides k n).0 is) ∙ none
unlike_at false name k n more is none among later = later among

-- a name that is none of these is not this one of them
unlike_each : (name k : List ℕ) (names : List (List ℕ)) → list_any (bytes_eq name) names ≡ false → list_any (bytes_eq k) names ≡ true → bytes_eq name k ≡ false
unlike_each name k [] none among = absurd (true≢false (sym among))
unlike_each name k (n ∷ names) none among =
    unlike_at (bytes_eq k n) name k n (list_any (bytes_eq k) names) refl (or_first _ _ none) among (unlike_each name k names (or_second _ _ none))

-- whether each row's name is one of these
abbrev pub are_among : List Row → List (List ℕ) → Bool
are_among [] names = true
are_among (r ∷ rs) names = list_any (bytes_eq r.name) names && are_among rs names

pub none_among : (name : List ℕ) (rs : List Row) (names : List (List ℕ)) → are_among rs names ≡ true → list_any (bytes_eq name) names ≡ false → is_row name rs ≡ false
none_among name [] names among none = refl
none_among name (r ∷ rs) names among none =
    either_false (bytes_eq name r.name) (is_row name rs) (unlike_each name r.name names none (and_first (list_any (bytes_eq r.name) names) (are_among rs names) among))
    (none_among name rs names (and_second (list_any (bytes_eq r.name) names) (are_among rs names) among) none)

pub neither_among : (name : List ℕ) (ks ls : List (List ℕ)) → list_any (bytes_eq name) ks ≡ false → list_any (bytes_eq name) ls ≡ false → list_any (bytes_eq name) (ks ++ ls) ≡ false
neither_among name ks ls h g = list_any-append (bytes_eq name) ks ls ∙ either_false _ _ h g

-- ---- objects that have the same parts

part_if : (b : Bool) (f : List ℕ → Doc) (name k : List ℕ) (o : Option Doc) (more : Bool) → bytes_eq name k ≡ b → b || more ≡ true → (more ≡ true → o ≡ Some (f name)) → cond b (Some (f k)) o ≡ Some (f name)
part_if true f name k o more is h later = ap (λ n. Some (f n)) (sym ((bytes_eq-Decides name k).0 is))
part_if false f name k o more is h later = later h

part_found : (f : List ℕ → Doc) (name : List ℕ) (names : List (List ℕ)) → list_any (bytes_eq name) names ≡ true → find_in (pairs_in (entries_of_list (map (λ k. (k, f k)) names))) name ≡ Some (f name)
part_found f name [] h = absurd (true≢false (sym h))
part_found f name (k ∷ names) h =
    let later = find_in (pairs_in (entries_of_list (map (λ l. (l, f l)) names))) name in
    ap (λ b. cond b (Some (f k)) later) (is_eq-slice_cmp name k) ∙ part_if (bytes_eq name k) f name k later (list_any (bytes_eq name) names) refl h (part_found f name names)

-- the field of a part
same_part : (names : List (List ℕ)) (c d : Doc) (name : List ℕ) → parts names c ≡ parts names d → list_any (bytes_eq name) names ≡ true → field_at name c ≡ field_at name d
same_part names c d name same h =
    same_Some _ _ (sym (part_found (λ k. field_at k c) name names h) ∙ ap (entry_at name) same ∙ part_found (λ k. field_at k d) name names h)

same_written_by : (o : Option Row) (n : ObjectType) (cs ds : Docs) (e : Option Members) (name : List ℕ) → row_at name (table n) ≡ o → RowsOf cs (table n) → RowsOf ds (table n) → AllExtensions e
    → row_field name (table n) cs ≡ row_field name (table n) ds
    → get_member name (write_rows cs (table n) (members_or_none e)) ≡ get_member name (write_rows ds (table n) (members_or_none e))
same_written_by None n cs ds e name at crows drows x same =
    let none = no_row_at name (table n) at in
    write_rows-other name cs (table n) (members_or_none e) none ∙ sym (write_rows-other name ds (table n) (members_or_none e) none)
same_written_by (Some q) n cs ds e name at crows drows x same =
    member_written n cs e name q crows x at ∙ ap (λ d. stands (left_out q.mark d) (write d)) same ∙ sym (member_written n ds e name q drows x at)

-- objects of a table, unambiguous
pub record IsTable (n : ObjectType) (d : Doc) : Type 0 where
  pub fields : Docs
  pub extensions : Option Members
  pub is : d ≡ table_doc n fields extensions
  pub rows : RowsOf fields (table n)
  pub clear : AreUnambiguous fields
  pub extended : AllExtensions extensions

pub clear_table : (n : ObjectType) (d : Doc) → IsOf d (value_of (named n)) → IsUnambiguous d → IsTable n d
unfolding IsUnambiguous
clear_table n d h u =
    let t = table_shape n d h in
    let both : IsUnambiguous (table_doc n t.fields t.extensions) = subst IsUnambiguous t.is u in
    record { fields = t.fields; extensions = t.extensions; is = t.is; rows = t.rows; clear = both.0; extended = both.1 }

-- what two objects of the same parts have under the name of a part, or of no row
pub same_members : (n : ObjectType) (names : List (List ℕ)) (c d : Doc) (name : List ℕ) → IsTable n c → IsTable n d → parts names c ≡ parts names d
    → list_any (bytes_eq name) names ≡ true ⊎ is_row name (table n) ≡ false → get name (write c) ≡ get name (write d)
unfolding write
same_members n names c d name s t same among =
    let table_c = table_doc n s.fields s.extensions in
    let table_d = table_doc n t.fields t.extensions in
    let both : parts names table_c ≡ parts names table_d = ap (parts names) (sym s.is) ∙ same ∙ ap (parts names) t.is in
    let extended : s.extensions ≡ t.extensions = ap extensions_in both in
    let field : row_field name (table n) s.fields ≡ row_field name (table n) t.fields =
    elim among [ inl h ↦ same_part names table_c table_d name both h | inr h ↦ field_none name (table n) s.fields h ∙ sym (field_none name (table n) t.fields h) ]
    in
    ap (λ x. get name (write x)) s.is ∙ ap (λ e. get_member name (write_rows s.fields (table n) (members_or_none e))) extended
    ∙ same_written_by (row_at name (table n)) n s.fields t.fields t.extensions name refl s.rows t.rows t.extended field ∙ ap (λ x. get name (write x)) (sym t.is)

-- what an object has under the name of a row
pub under_row : (n : ObjectType) (d : Doc) (name : List ℕ) (q : Row) → IsTable n d → row_at name (table n) ≡ Some q → get name (write d) ≡ stands (left_out q.mark (field_at name d)) (write (field_at name d))
unfolding write
under_row n d name q t at =
    ap (λ x. get name (write x)) t.is ∙ member_written n t.fields t.extensions name q t.rows t.extended at ∙ ap (λ x. stands (left_out q.mark (field_at name x)) (write (field_at name x))) (sym t.is)

-- and under a name that is none of a row
pub under_none : (n : ObjectType) (d : Doc) (name : List ℕ) → IsTable n d → is_row name (table n) ≡ false → get name (write d) ≡ get_member name (members_or_none (extensions_in d))
unfolding write
under_none n d name t none =
    ap (λ x. get name (write x)) t.is ∙ write_rows-other name t.fields (table n) (members_or_none t.extensions) none ∙ ap (λ x. get_member name (members_or_none (extensions_in x))) (sym t.is)

-- its field at a row is of the row's place
pub field_of_kind : (n : ObjectType) (d : Doc) (name : List ℕ) (q : Row) → IsTable n d → row_at name (table n) ≡ Some q → IsOf (field_at name d) (field_place q.mark q.kind)
field_of_kind n d name q t at = subst (λ x. IsOf (field_at name x) (field_place q.mark q.kind)) (sym t.is) (field_fits name (table n) t.fields q t.rows at)

-- ---- maps

entry_by : (o : Ordering) (d : Doc) (e : Option Doc) (m : Option Data) → m ≡ option_map write e → match_ordering o m (Some (write d)) m ≡ option_map write (cond (is_eq o) (Some d) e)
entry_by Less d e m h = h
entry_by Equal d e m h = refl
entry_by Greater d e m h = h

pub entry_written : (name : List ℕ) (es : Entries) → get_member name (write_entries es) ≡ option_map write (find_in (pairs_in es) name)
unfolding write_entries
entry_written name no_entries = refl
entry_written name (entry k d es) = entry_by (slice_cmp nat_cmp name k) d (find_in (pairs_in es) name) (get_member name (write_entries es)) (entry_written name es)

in_map : (name : List ℕ) (es : Entries) → option_and_then (get name) (stands (left_out defaulted (map_doc es)) (write (map_doc es))) ≡ option_map write (entry_at name (map_doc es))
unfolding write write_entries
in_map name no_entries = refl
in_map name (entry k d es) = entry_written name (entry k d es)

-- an entry of the map at a row
pub in_map_row : (n : ObjectType) (d : Doc) (key name : List ℕ) (k : Kind) → IsTable n d → row_at key (table n) ≡ Some (row key defaulted (map_of k))
    → option_and_then (get name) (get key (write d)) ≡ option_map write (entry_at name (field_at key d))
in_map_row n d key name k t at =
    let m = map_shape k (field_at key d) (field_of_kind n d key (row key defaulted (map_of k)) t at) in
    ap (option_and_then (get name)) (under_row n d key (row key defaulted (map_of k)) t at)
    ∙ subst (λ x. option_and_then (get name) (stands (left_out defaulted x) (write x)) ≡ option_map write (entry_at name x)) (sym m.1) (in_map name m.0)

-- ---- entries beside extensions

-- members that are put among others leave a name that they lack
passed : (q k : List ℕ) (d : Data) (rest : Members → Members) → (q ≡ k → ⊥) → ((ns : Members) → get_member q (rest ns) ≡ get_member q ns) → (ms : Members) → get_member q (merge_member k d rest ms) ≡ get_member q ms
passed q k d rest other each no_members = get_member-skip q k d (rest no_members) other ∙ each no_members
passed q k d rest other each (member l e ms) = go (slice_cmp nat_cmp k l) refl (passed q k d rest other each ms)
  where
    go : (o : Ordering) → slice_cmp nat_cmp k l ≡ o → get_member q (merge_member k d rest ms) ≡ get_member q ms
        → get_member q (match_ordering o (member k d (rest (member l e ms))) (member k d (rest ms)) (member l e (merge_member k d rest ms))) ≡ get_member q (member l e ms)
    go Less is later = get_member-skip q k d (rest (member l e ms)) other ∙ each (member l e ms)
    go Equal is later =
        let same : k ≡ l = exact_bytes k l is in
        get_member-skip q k d (rest ms) other ∙ each ms ∙ sym (get_member-skip q l e ms (λ h. other (h ∙ sym same)))
    go Greater is later = ap (λ o. match_ordering (slice_cmp nat_cmp q l) o (Some e) o) later

unlike_names : (k l : List ℕ) → is_extension k ≡ true → is_extension l ≡ false → k ≡ l → ⊥
unlike_names k l x y same = true≢false (sym x ∙ ap is_extension same ∙ y)

-- beside entries an extension is found
pub extension_beside : (q : List ℕ) (es : Entries) (ms : Members) → names_no_extension es ≡ true → is_extension q ≡ true → get_member q (merge_members (write_entries es) ms) ≡ get_member q ms
unfolding write_entries
extension_beside q no_entries ms h x = refl
extension_beside q (entry k d es) ms h x =
    passed q k (write d) (merge_members (write_entries es)) (unlike_names q k x (not_true (is_extension k) (and_first _ _ h))) (λ ns. extension_beside q es ns (and_second _ _ h) x) ms

-- members that are put among extensions are found by a name that is no extension's
taken : (q k : List ℕ) (d : Data) (rest : Members → Members) (own : Members) → is_extension q ≡ false → ((ns : Members) → all_extensions ns ≡ true → get_member q (rest ns) ≡ get_member q own) → (ms : Members)
    → all_extensions ms ≡ true → get_member q (merge_member k d rest ms) ≡ get_member q (member k d own)
taken q k d rest own plain each no_members x = ap (λ o. match_ordering (slice_cmp nat_cmp q k) o (Some d) o) (each no_members refl)
taken q k d rest own plain each (member l e ms) x = go (slice_cmp nat_cmp k l) (taken q k d rest own plain each ms (and_second _ _ x))
  where
    go : (o : Ordering) → get_member q (merge_member k d rest ms) ≡ get_member q (member k d own)
        → get_member q (match_ordering o (member k d (rest (member l e ms))) (member k d (rest ms)) (member l e (merge_member k d rest ms))) ≡ get_member q (member k d own)
    go Less later = ap (λ o. match_ordering (slice_cmp nat_cmp q k) o (Some d) o) (each (member l e ms) x)
    go Equal later = ap (λ o. match_ordering (slice_cmp nat_cmp q k) o (Some d) o) (each ms (and_second _ _ x))
    go Greater later = get_member-skip q l e (merge_member k d rest ms) (λ same. unlike_names l q (and_first _ _ x) plain (sym same)) ∙ later

-- beside extensions an entry is found
pub entry_beside : (q : List ℕ) (es : Entries) (ms : Members) → all_extensions ms ≡ true → is_extension q ≡ false → get_member q (merge_members (write_entries es) ms) ≡ get_member q (write_entries es)
unfolding write_entries
entry_beside q no_entries ms x plain = unnamed ms q x plain
entry_beside q (entry k d es) ms x plain = taken q k (write d) (merge_members (write_entries es)) (write_entries es) plain (λ ns y. entry_beside q es ns y plain) ms x
