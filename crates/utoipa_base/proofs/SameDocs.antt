-- Which documents hold a fraction, part by part.
use Rattle.std.proofs.Common.{◌≡◌, ◌↔◌, ℕ, ◌+◌, ◌<◌, List, length, get_or, drop, map, Bool, true, false, true≢false, not, IsTrue, ◌||◌, Option, refl, sym, ap, ◌∙◌}
use Rattle.std.proofs.lemmas.Slice.Eq.{bytes_eq-Decides}
use Rattle.std.specs.Str.{bytes_eq}
use Rattle.utoipa_base.proofs.BoolFacts.{or_first, or_second}
use Rattle.utoipa_base.proofs.ByKind.{drop_item}
use Rattle.serde_json.specs.Data.{Members}
use Rattle.serde_json.specs.Written.{members_have_float}
use Rattle.utoipa_base.specs.Kinds.{ObjectType}
use Rattle.utoipa_base.specs.Docs.{Doc, text_doc, none_doc, some_doc, list_doc, map_doc, table_doc, Docs, no_docs, doc, docs_of, Entries, no_entries, entry}
use Rattle.utoipa_base.specs.Extensions.{members_or_none}
use Rattle.utoipa_base.specs.WellFormed.{has_fraction, docs_have_fraction, entries_have_fraction}

-- a text
pub has_fraction-text : (s : List ℕ) → has_fraction (text_doc s) ≡ false
unfolding has_fraction
has_fraction-text s = refl

-- a field that is absent
pub has_fraction-none : has_fraction none_doc ≡ false
unfolding has_fraction
has_fraction-none = refl

-- a field that is there
pub has_fraction-some : (d : Doc) → has_fraction (some_doc d) ≡ has_fraction d
unfolding has_fraction
has_fraction-some d = refl

-- a list, by its items
pub has_fraction-list : (ds : Docs) → has_fraction (list_doc ds) ≡ docs_have_fraction ds
unfolding has_fraction
has_fraction-list ds = refl

-- a map, by its entries
pub has_fraction-map : (es : Entries) → has_fraction (map_doc es) ≡ entries_have_fraction es
unfolding has_fraction
has_fraction-map es = refl

-- an object, by its fields and its extensions
pub has_fraction-table : (n : ObjectType) (ds : Docs) (e : Option Members) → has_fraction (table_doc n ds e) ≡ docs_have_fraction ds || members_have_float (members_or_none e)
unfolding has_fraction
has_fraction-table n ds e = refl

-- no items
pub docs_have_fraction-none : docs_have_fraction no_docs ≡ false
unfolding docs_have_fraction
docs_have_fraction-none = refl

-- an item before others
pub docs_have_fraction-cons : (d : Doc) (ds : Docs) → docs_have_fraction (doc d ds) ≡ has_fraction d || docs_have_fraction ds
unfolding docs_have_fraction
docs_have_fraction-cons d ds = refl

-- no entries
pub entries_have_fraction-none : entries_have_fraction no_entries ≡ false
unfolding entries_have_fraction
entries_have_fraction-none = refl

-- an entry before others
pub entries_have_fraction-cons : (k : List ℕ) (d : Doc) (es : Entries) → entries_have_fraction (entry k d es) ≡ has_fraction d || entries_have_fraction es
unfolding entries_have_fraction
entries_have_fraction-cons k d es = refl

-- ---- a list, from one item on

-- the item, before those after it
pub docs_split : {X : Type 0} (f : X → Doc) (xs : List X) (i : ℕ) (x : X) → i < length xs → x ≡ get_or xs i x → docs_of (map f (drop i xs)) ≡ doc (f x) (docs_of (map f (drop (i + 1) xs)))
docs_split f xs i x within is = ap (λ ys. docs_of (map f ys)) (drop_item xs i x within is)

-- the item holds a fraction, or one of those after it
pub fraction_split : {X : Type 0} (f : X → Doc) (xs : List X) (i : ℕ) (x : X) → i < length xs → x ≡ get_or xs i x
    → docs_have_fraction (docs_of (map f (drop i xs))) ≡ has_fraction (f x) || docs_have_fraction (docs_of (map f (drop (i + 1) xs)))
fraction_split f xs i x within is = ap docs_have_fraction (docs_split f xs i x within is) ∙ docs_have_fraction-cons _ _

-- ---- two lists or two maps, side by side

-- of documents without a fraction, the first has none
pub item_whole : (all : Docs) (d : Doc) (ds : Docs) → all ≡ doc d ds → docs_have_fraction all ≡ false → has_fraction d ≡ false
item_whole all d ds is whole = or_first _ _ (sym (ap docs_have_fraction is ∙ docs_have_fraction-cons d ds) ∙ whole)

-- of documents without a fraction, those after the first have none
pub items_whole : (all : Docs) (d : Doc) (ds : Docs) → all ≡ doc d ds → docs_have_fraction all ≡ false → docs_have_fraction ds ≡ false
items_whole all d ds is whole = or_second _ _ (sym (ap docs_have_fraction is ∙ docs_have_fraction-cons d ds) ∙ whole)

-- of entries without a fraction, those after the first have none
pub entries_whole : (all : Entries) (k : List ℕ) (d : Doc) (es : Entries) → all ≡ entry k d es → entries_have_fraction all ≡ false → entries_have_fraction es ≡ false
entries_whole all k d es is whole = or_second _ _ (sym (ap entries_have_fraction is ∙ entries_have_fraction-cons k d es) ∙ whole)

-- a test that holds says what it tests
pub if_true : {b : Bool} {P : Type 0} → b ≡ true → IsTrue b ↔ P → P
if_true e h = h.0 e

-- a test whose negation fails holds
not_false : (b : Bool) → not b ≡ false → b ≡ true
not_false true e = refl
not_false false e = absurd (true≢false e)

-- texts that the test does not tell apart are one text
pub one_text : (differ : Bool) (xs ys : List ℕ) → differ ≡ not (bytes_eq xs ys) → differ ≡ false → xs ≡ ys
one_text differ xs ys is e = (bytes_eq-Decides xs ys).0 (not_false _ (sym is ∙ e))

-- after two items that are equal
pub same_items : (all others : Docs) (a b : Doc) (ds es : Docs) → (all ≡ others) ↔ (doc a ds ≡ doc b es) → a ≡ b → (all ≡ others) ↔ (ds ≡ es)
same_items all others a b ds es before is = (λ e. let whole : doc a ds ≡ doc b es = before.0 e in cc, λ e. before.1 (let both : doc a ds ≡ doc b es = cc in both))

-- after two entries that are equal
pub same_entries : (all others : Entries) (k l : List ℕ) (a b : Doc) (ds es : Entries) → (all ≡ others) ↔ (entry k a ds ≡ entry l b es) → k ≡ l → a ≡ b → (all ≡ others) ↔ (ds ≡ es)
same_entries all others k l a b ds es before name is = (λ e. let whole : entry k a ds ≡ entry l b es = before.0 e in cc, λ e. before.1 (let both : entry k a ds ≡ entry l b es = cc in both))

-- ---- the parts of an object without a fraction

-- its fields have none
pub fields_whole : (n : ObjectType) (ds : Docs) (e : Option Members) → has_fraction (table_doc n ds e) ≡ false → docs_have_fraction ds ≡ false
fields_whole n ds e h = or_first _ (members_have_float (members_or_none e)) (sym (has_fraction-table n ds e) ∙ h)

-- its extensions have none
pub extensions_whole : (n : ObjectType) (ds : Docs) (e : Option Members) → has_fraction (table_doc n ds e) ≡ false → members_have_float (members_or_none e) ≡ false
extensions_whole n ds e h = or_second (docs_have_fraction ds) _ (sym (has_fraction-table n ds e) ∙ h)

-- the first field has none
pub first_whole : (d : Doc) (ds : Docs) → docs_have_fraction (doc d ds) ≡ false → has_fraction d ≡ false
first_whole d ds h = item_whole (doc d ds) d ds refl h

-- the later fields have none
pub later_whole : (d : Doc) (ds : Docs) → docs_have_fraction (doc d ds) ≡ false → docs_have_fraction ds ≡ false
later_whole d ds h = items_whole (doc d ds) d ds refl h

-- documents, part by part
pub ruleset by_docs = (has_fraction-text, has_fraction-none, has_fraction-some, has_fraction-list, has_fraction-map, has_fraction-table, docs_have_fraction-none, docs_have_fraction-cons, entries_have_fraction-none, entries_have_fraction-cons)
