-- Which alternative of a choice takes a written tree: those before it refuse the tree, and it reads it.
use Rattle.std.proofs.Common.{◌≡◌, ℕ, List, [], ◌∷◌, drop, Bool, true, false, not, ◌&&◌, ◌||◌, Option, Some, None, option_map, option_and_then, is_some, refl, sym, ap, ◌∙◌, subst, true≢false, cond}
use Rattle.std.specs.Prelude.{codes}
use Rattle.std.specs.Str.{bytes_eq}
use Rattle.serde_json.specs.Data.{Data, null, boolean, number, string, array, object, Members, put}
use Rattle.serde_json.specs.Find.{get_member, as_str}
use Rattle.serde_json.proofs.Views.{get_member-put, get_member-put_other}
use Rattle.utoipa_base.specs.Kinds.{ObjectType, reference_object, one_of_schema, all_of_schema, any_of_schema, array_schema, object_schema, api_key_scheme, type_word, Kind, text, word_of, list_of, ref_or, named, schema, schema_type, array_items, additional_properties, security_scheme, api_key, Row, required}
use Rattle.utoipa_base.specs.Choices.{chosen, scheme_types, api_key_places, is_schema_type}
use Rattle.utoipa_base.specs.Docs.{Doc, types_doc, ref_doc, own_doc, schema_doc, tagged_doc, list_doc, table_doc, Docs}
use Rattle.utoipa_base.specs.Tables.{table, has_extensions, row}
use Rattle.utoipa_base.specs.Extensions.{is_extension, some_if_any, extensions_of, members_or_none}
use Rattle.utoipa_base.specs.Reading.{reader, parts, part, read, read_rows, read_table, read_scheme, read_alternative, read_api_key, read_tagged, text_at, fits, both, or_else, only_if}
use Rattle.utoipa_base.specs.Writing.{write_rows, with_member}
use Rattle.utoipa_base.specs.Fields.{field_of}
use Rattle.utoipa_base.specs.Shape.{own_kind, choices_of, value_of}
use Rattle.utoipa_base.specs.WellFormed.{AllExtensions, IsNoReference}
use Rattle.utoipa_base.proofs.BoolFacts.{and_first, and_second, or_first, or_second, not_true, apart}
use Rattle.utoipa_base.proofs.TableNames.{is_row, is_wanted}
use Rattle.utoipa_base.proofs.WrittenMembers.{fits-part, first_refused, rows_refused, unnamed, write_rows-other, put_extension}

-- ---- the first that there is

-- after a first that is none comes the second
pub past : (a b : Option Doc) → a ≡ None → or_else a b ≡ b
past a b e = ap (λ o. or_else o b) e

-- a first that there is, is taken
pub taken : (a b : Option Doc) (x : Doc) → a ≡ Some x → or_else a b ≡ Some x
taken a b x e = ap (λ o. or_else o b) e

-- ---- schemas

-- the members that a table is written as
abbrev pub written : ObjectType → Docs → Option Members → Members
written n ds e = write_rows ds (table n) (members_or_none e)

-- a written table has no member that is neither a row's nor an extension
absent : (name : List ℕ) (n : ObjectType) (ds : Docs) (e : Option Members) → is_row name (table n) ≡ false → is_extension name ≡ false → AllExtensions e → get_member name (written n ds e) ≡ None
absent name n ds e r x all = write_rows-other name ds (table n) (members_or_none e) r ∙ unnamed (members_or_none e) name all x

-- so a table that wants such a member refuses it
refused : (name : List ℕ) (m n : ObjectType) (ds : Docs) (e : Option Members) → is_wanted name (table m) ≡ true → is_row name (table n) ≡ false → is_extension name ≡ false → AllExtensions e
    → read_table m (written n ds e) (parts (written n ds e)) ≡ None
refused name m n ds e w r x all =
    ap (option_map (λ fs. table_doc m fs (extensions_of (has_extensions m) (written n ds e)))) (rows_refused name (table m) (written n ds e) w (absent name n ds e r x all))

-- an object that names `type`, or else none of the schema keywords, is taken in either case
typed_or_any : (b a i o l y : Bool) (r : Option Doc) (x : Doc) → r ≡ Some x → a ≡ false → i ≡ false → o ≡ false → l ≡ false → y ≡ false
    → or_else (only_if b r) (only_if (not (a || (b || (i || (o || (l || (y || false))))))) r) ≡ Some x
typed_or_any true a i o l y r x e ha hi ho hl hy = taken r _ x e
typed_or_any false a i o l y r x e ha hi ho hl hy = rw (ha, hi, ho, hl, hy) e

-- a written schema is taken by its own alternative
pub schema_reads : (n : ObjectType) (ds : Docs) (e : Option Members) (x : Doc) → is_schema_type n ≡ true → AllExtensions e → read (named n) (object (written n ds e)) ≡ Some x
    → read schema (object (written n ds e)) ≡ Some (schema_doc x)
unfolding reader
schema_reads one_of_schema ds e x s all r = ap (option_map schema_doc) (taken _ _ x r)
schema_reads all_of_schema ds e x s all r = ap (option_map schema_doc) (past _ _ (refused (codes "oneOf") one_of_schema all_of_schema ds e refl refl refl all) ∙ taken _ _ x r)
schema_reads any_of_schema ds e x s all r =
    ap (option_map schema_doc)
    (past _ _ (refused (codes "oneOf") one_of_schema any_of_schema ds e refl refl refl all)
    ∙ past _ _ (refused (codes "allOf") all_of_schema any_of_schema ds e refl refl refl all)
    ∙ taken _ _ x r)
schema_reads array_schema ds e x s all r =
    ap (option_map schema_doc)
    (past _ _ (refused (codes "oneOf") one_of_schema array_schema ds e refl refl refl all)
    ∙ past _ _ (refused (codes "allOf") all_of_schema array_schema ds e refl refl refl all)
    ∙ past _ _ (refused (codes "anyOf") any_of_schema array_schema ds e refl refl refl all)
    ∙ taken _ _ x r)
schema_reads object_schema ds e x s all r =
    let lacks = λ (name : List ℕ) (p : is_row name (table object_schema) ≡ false) (q : is_extension name ≡ false). ap is_some (absent name object_schema ds e p q all) in
    ap (option_map schema_doc)
    (past _ _ (refused (codes "oneOf") one_of_schema object_schema ds e refl refl refl all)
    ∙ past _ _ (refused (codes "allOf") all_of_schema object_schema ds e refl refl refl all)
    ∙ past _ _ (refused (codes "anyOf") any_of_schema object_schema ds e refl refl refl all)
    ∙ past _ _ (refused (codes "items") array_schema object_schema ds e refl refl refl all)
    ∙ typed_or_any _ _ _ _ _ _ _ x r
    (lacks (codes "$ref") refl refl) (lacks (codes "items") refl refl) (lacks (codes "oneOf") refl refl) (lacks (codes "allOf") refl refl) (lacks (codes "anyOf") refl refl))
schema_reads n ds e x s all r = absurd (true≢false (sym s))

-- ---- lists of type words

-- a list is put under the types, as it is under the list
types_by : (o : Option Docs) (x : Doc) → option_map list_doc o ≡ Some x → option_map (λ ws. types_doc (list_doc ws)) o ≡ Some (types_doc x)
types_by None x e = cc
types_by (Some ws) x e = ap (option_map types_doc) e

-- a list of type words is the types of a schema
pub types_read : (w : Data) (x : Doc) → read (list_of (word_of type_word)) w ≡ Some x → read schema_type w ≡ Some (types_doc x)
unfolding reader
types_read null x e = cc
types_read (boolean b) x e = cc
types_read (number n) x e = cc
types_read (string s) x e = cc
types_read (array ds) x e = types_by _ x e
types_read (object ms) x e = cc

-- ---- references

-- a reference reads as one in the place of a kind
ref_or_reads : (k : Kind) (w : Data) (x : Doc) → read (named reference_object) w ≡ Some x → read (ref_or k) w ≡ Some (ref_doc k x)
unfolding reader
ref_or_reads k null x e = cc
ref_or_reads k (boolean b) x e = cc
ref_or_reads k (number n) x e = cc
ref_or_reads k (string s) x e = cc
ref_or_reads k (array ds) x e = cc
ref_or_reads k (object ms) x e = taken _ _ (ref_doc k x) (ap (option_map (ref_doc k)) e)

-- a reference reads as one in the place of items
items_ref_reads : (w : Data) (x : Doc) → read (named reference_object) w ≡ Some x → read array_items w ≡ Some (ref_doc schema x)
unfolding reader
items_ref_reads null x e = cc
items_ref_reads (boolean b) x e = cc
items_ref_reads (number n) x e = cc
items_ref_reads (string s) x e = cc
items_ref_reads (array ds) x e = cc
items_ref_reads (object ms) x e = taken _ _ (ref_doc schema x) (ap (option_map (ref_doc schema)) e)

-- a reference reads as one in the place of additional properties
properties_ref_reads : (w : Data) (x : Doc) → read (named reference_object) w ≡ Some x → read additional_properties w ≡ Some (ref_doc schema x)
unfolding reader
properties_ref_reads null x e = cc
properties_ref_reads (boolean b) x e = cc
properties_ref_reads (number n) x e = cc
properties_ref_reads (string s) x e = cc
properties_ref_reads (array ds) x e = cc
properties_ref_reads (object ms) x e = taken _ _ (ref_doc schema x) (ap (option_map (ref_doc schema)) e)

-- where a reference may stand, a tree that is one reads as one
pub ref_reads : (j k : Kind) (w : Data) (x : Doc) → own_kind (value_of j) ≡ Some k → read (named reference_object) w ≡ Some x → read j w ≡ Some (ref_doc k x)
ref_reads (ref_or i) k w x o e = ref_or_reads i w x e ∙ ap Some (let same : i ≡ k = cc in ap (λ l. ref_doc l x) same)
ref_reads array_items k w x o e = items_ref_reads w x e ∙ ap Some (let same : schema ≡ k = cc in ap (λ l. ref_doc l x) same)
ref_reads additional_properties k w x o e = properties_ref_reads w x e ∙ ap Some (let same : schema ≡ k = cc in ap (λ l. ref_doc l x) same)
ref_reads j k w x o e = cc

-- what is no reference reads as its kind
ref_or_own : (k : Kind) (w : Data) (x : Doc) → read (named reference_object) w ≡ None → read k w ≡ Some x → read (ref_or k) w ≡ Some (own_doc x)
unfolding reader
ref_or_own k null x n e = ap (option_map own_doc) e
ref_or_own k (boolean b) x n e = ap (option_map own_doc) e
ref_or_own k (number m) x n e = ap (option_map own_doc) e
ref_or_own k (string s) x n e = ap (option_map own_doc) e
ref_or_own k (array ds) x n e = ap (option_map own_doc) e
ref_or_own k (object ms) x n e = past _ _ (ap (option_map (ref_doc k)) n) ∙ ap (option_map own_doc) e

-- items that are no reference read as a schema
items_own : (w : Data) (x : Doc) → read (named reference_object) w ≡ None → read schema w ≡ Some x → read array_items w ≡ Some (own_doc x)
unfolding reader
items_own null x n e = cc
items_own (boolean b) x n e = cc
items_own (number m) x n e = cc
items_own (string s) x n e = cc
items_own (array ds) x n e = cc
items_own (object ms) x n e = past _ _ (ap (option_map (ref_doc schema)) n) ∙ ap (option_map own_doc) e

-- additional properties that are no reference read as a schema
properties_own : (w : Data) (x : Doc) → read (named reference_object) w ≡ None → read schema w ≡ Some x → read additional_properties w ≡ Some (own_doc x)
unfolding reader
properties_own null x n e = cc
properties_own (boolean b) x n e = cc
properties_own (number m) x n e = cc
properties_own (string s) x n e = cc
properties_own (array ds) x n e = cc
properties_own (object ms) x n e = past _ _ (ap (option_map (ref_doc schema)) n) ∙ ap (option_map own_doc) e

-- where a reference may stand, a tree that is none reads as what it is
pub own_reads : (j k : Kind) (w : Data) (x : Doc) → own_kind (value_of j) ≡ Some k → read (named reference_object) w ≡ None → read k w ≡ Some x → read j w ≡ Some (own_doc x)
own_reads (ref_or i) k w x o n e = ref_or_own i w x n (let same : k ≡ i = cc in let P : Kind → Type 0 = λ l. read l w ≡ Some x in subst P same e)
own_reads array_items k w x o n e = items_own w x n (let same : k ≡ schema = cc in let P : Kind → Type 0 = λ l. read l w ≡ Some x in subst P same e)
own_reads additional_properties k w x o n e = properties_own w x n (let same : k ≡ schema = cc in let P : Kind → Type 0 = λ l. read l w ≡ Some x in subst P same e)
own_reads j k w x o n e = cc

-- what is no text does not read as one
no_text : (d : Data) → as_str d ≡ None → read text d ≡ None
unfolding reader
no_text null e = refl
no_text (boolean b) e = refl
no_text (number n) e = refl
no_text (string s) e = cc
no_text (array ds) e = refl
no_text (object ms) e = refl

-- a required text needs a text
no_text_at : (o : Option Data) → option_and_then as_str o ≡ None → field_of required text o ≡ None
no_text_at None e = refl
no_text_at (Some d) e = no_text d e

-- a tree with no text at `$ref` does not read as a reference
pub no_reference : (w : Data) → IsNoReference w → read (named reference_object) w ≡ None
unfolding reader
no_reference null h = refl
no_reference (boolean b) h = refl
no_reference (number n) h = refl
no_reference (string s) h = refl
no_reference (array ds) h = refl
no_reference (object ms) h =
    ap (option_map (λ fs. table_doc reference_object fs None))
    (first_refused (row (codes "$ref") required text) (drop 1 (table reference_object)) ms (no_text_at (get_member (codes "$ref") ms) h))

-- ---- a member that decides a choice

-- whether no part of the kind's object is named so
abbrev pub leaves_free : List ℕ → Kind → Bool
leaves_free q (named n) = not (is_row q (table n))
leaves_free q api_key = not (bytes_eq q (codes "in")) && not (is_row q (table api_key_scheme))
leaves_free q k = false

-- whether every choice leaves the name free
abbrev pub all_leave_free : List ℕ → List (List ℕ × Kind) → Bool
all_leave_free q [] = true
all_leave_free q (c ∷ cs) = leaves_free q c.1 && all_leave_free q cs

-- what the text of a member chooses
abbrev read_tagged_at : List ℕ → List (List ℕ × Kind) → (Kind → Option Doc) → Option (List ℕ) → Option Doc
read_tagged_at name choices f o = option_and_then (λ word. option_and_then (λ k. option_map (tagged_doc name word) (f k)) (chosen word choices)) o

-- rows read the same beside a member that none of them names
rows_with : (q : List ℕ) (w : Data) (ms : Members) (rs : List Row) → is_row q rs ≡ false → read_rows rs (parts (put q w ms)) ≡ read_rows rs (parts ms)
rows_with q w ms [] h = refl
rows_with q w ms (r ∷ rs) h =
    let same : get_member r.name (put q w ms) ≡ get_member r.name ms = get_member-put_other r.name q w ms (λ e. apart q r.name (or_first _ _ h) (sym e)) in
    ap (λ o. both o (read_rows rs (parts (put q w ms)))) (fits-part r (put q w ms) ∙ ap (field_of r.mark r.kind) same ∙ sym (fits-part r ms))
    ∙ ap (both (fits r.mark r.kind (part r.name (parts ms)))) (rows_with q w ms rs (or_second _ _ h))

-- a member that is no extension leaves the extensions that are kept
extensions_with : (kept : Bool) (q : List ℕ) (w : Data) (ms : Members) → is_extension q ≡ false → extensions_of kept (put q w ms) ≡ extensions_of kept ms
extensions_with true q w ms x = ap some_if_any (put_extension q w ms x)
extensions_with false q w ms x = refl

-- a table reads the same beside a member that it has no row for
table_with : (q : List ℕ) (w : Data) (ms : Members) (n : ObjectType) → is_row q (table n) ≡ false → is_extension q ≡ false
    → read_table n (put q w ms) (parts (put q w ms)) ≡ read_table n ms (parts ms)
table_with q w ms n h x =
    ap (option_map (λ fs. table_doc n fs (extensions_of (has_extensions n) (put q w ms)))) (rows_with q w ms (table n) h)
    ∙ ap (λ e. option_map (λ fs. table_doc n fs e) (read_rows (table n) (parts ms))) (extensions_with (has_extensions n) q w ms x)

-- the first choice or a later one leaves free what all do
chosen_at : (b : Bool) (q word : List ℕ) (c : List ℕ × Kind) (cs : List (List ℕ × Kind)) (k : Kind) → leaves_free q c.1 && all_leave_free q cs ≡ true
    → (all_leave_free q cs ≡ true → chosen word cs ≡ Some k → leaves_free q k ≡ true) → cond b (Some c.1) (chosen word cs) ≡ Some k → leaves_free q k ≡ true
chosen_at true q word c cs k h later e = let same : k ≡ c.1 = cc in ap (leaves_free q) same ∙ and_first _ _ h
chosen_at false q word c cs k h later e = later (and_second _ _ h) e

-- what is chosen leaves free what each choice leaves free
chosen_leaves : (q word : List ℕ) (cs : List (List ℕ × Kind)) (k : Kind) → all_leave_free q cs ≡ true → chosen word cs ≡ Some k → leaves_free q k ≡ true
chosen_leaves q word [] k h e = cc
chosen_leaves q word (c ∷ cs) k h e = chosen_at (bytes_eq word c.0) q word c cs k h (chosen_leaves q word cs k) e

-- an alternative reads the same beside a member that it has no row for
alternative_with : (q : List ℕ) (w : Data) (ms : Members) (k : Kind) → leaves_free q k ≡ true → is_extension q ≡ false
    → read_alternative (put q w ms) (parts (put q w ms)) k ≡ read_alternative ms (parts ms) k
alternative_with q w ms (named n) h x = table_with q w ms n (not_true _ h) x
alternative_with q w ms k h x = refl

-- what is chosen is tagged the same where it reads the same
tagged_same : (name word : List ℕ) (f g : Kind → Option Doc) (o : Option Kind) → ((k : Kind) → o ≡ Some k → f k ≡ g k)
    → option_and_then (λ k. option_map (tagged_doc name word) (f k)) o ≡ option_and_then (λ k. option_map (tagged_doc name word) (g k)) o
tagged_same name word f g None h = refl
tagged_same name word f g (Some k) h = ap (option_map (tagged_doc name word)) (h k refl)

-- by a word, what is chosen is tagged the same where it reads the same
tagged_word : (name : List ℕ) (choices : List (List ℕ × Kind)) (f g : Kind → Option Doc) (o : Option (List ℕ)) → ((word : List ℕ) (k : Kind) → chosen word choices ≡ Some k → f k ≡ g k)
    → option_and_then (λ word. option_and_then (λ k. option_map (tagged_doc name word) (f k)) (chosen word choices)) o
    ≡ option_and_then (λ word. option_and_then (λ k. option_map (tagged_doc name word) (g k)) (chosen word choices)) o
tagged_word name choices f g None h = refl
tagged_word name choices f g (Some word) h = tagged_same name word f g (chosen word choices) (h word)

-- an API key reads the same beside a member that it has no use for
api_key_with : (q : List ℕ) (w : Data) (ms : Members) → leaves_free q api_key ≡ true → is_extension q ≡ false → read_api_key (put q w ms) (parts (put q w ms)) ≡ read_api_key ms (parts ms)
api_key_with q w ms h x =
    let other : get_member (codes "in") (put q w ms) ≡ get_member (codes "in") ms = get_member-put_other (codes "in") q w ms (λ e. apart q (codes "in") (not_true _ (and_first _ _ h)) (sym e)) in
    let free : all_leave_free q api_key_places ≡ true = ap (λ b. b && (b && (b && true))) (and_second (not (bytes_eq q (codes "in"))) _ h) in
    ap (read_tagged_at (codes "in") api_key_places (read_alternative (put q w ms) (parts (put q w ms)))) (ap (option_and_then as_str) other)
    ∙ tagged_word (codes "in") api_key_places (read_alternative (put q w ms) (parts (put q w ms))) (read_alternative ms (parts ms)) (text_at (codes "in") ms)
    (λ word k c. alternative_with q w ms k (chosen_leaves q word api_key_places k free c) x)

-- a security scheme's alternative reads the same beside a member that it has no use for
scheme_with : (q : List ℕ) (w : Data) (ms : Members) (k : Kind) → leaves_free q k ≡ true → is_extension q ≡ false → read_scheme (put q w ms) (parts (put q w ms)) k ≡ read k (object ms)
unfolding reader
scheme_with q w ms (named n) h x = table_with q w ms n (not_true _ h) x
scheme_with q w ms api_key h x = api_key_with q w ms h x
scheme_with q w ms k h x = absurd (true≢false (sym h))

-- an API key's alternative reads the same beside the member that decides it
key_with : (w : Data) (ms : Members) (k : Kind) → leaves_free (codes "in") k ≡ true → read_alternative (put (codes "in") w ms) (parts (put (codes "in") w ms)) k ≡ read k (object ms)
unfolding reader
key_with w ms (named n) h = table_with (codes "in") w ms n (not_true _ h) refl
key_with w ms k h = absurd (true≢false (sym h))

-- what reads as an object of a type is an object
named_is_object : (n : ObjectType) (w : Data) (x : Doc) → read (named n) w ≡ Some x → (ms : Members) × (w ≡ object ms)
unfolding reader
named_is_object n null x e = cc
named_is_object n (boolean b) x e = cc
named_is_object n (number m) x e = cc
named_is_object n (string s) x e = cc
named_is_object n (array ds) x e = cc
named_is_object n (object ms) x e = (ms, refl)

-- what reads as an API key is an object
api_key_is_object : (w : Data) (x : Doc) → read api_key w ≡ Some x → (ms : Members) × (w ≡ object ms)
unfolding reader
api_key_is_object null x e = cc
api_key_is_object (boolean b) x e = cc
api_key_is_object (number m) x e = cc
api_key_is_object (string s) x e = cc
api_key_is_object (array ds) x e = cc
api_key_is_object (object ms) x e = (ms, refl)

-- what is chosen is an object
chosen_is_object : (q : List ℕ) (k : Kind) (w : Data) (x : Doc) → leaves_free q k ≡ true → read k w ≡ Some x → (ms : Members) × (w ≡ object ms)
chosen_is_object q (named n) w x h e = named_is_object n w x e
chosen_is_object q api_key w x h e = api_key_is_object w x e
chosen_is_object q k w x h e = absurd (true≢false (sym h))

-- the word that was put at a name chooses what is read
tagged_by : (name word : List ℕ) (choices : List (List ℕ × Kind)) (f : Kind → Option Doc) (ms : Members) (k : Kind) (x : Doc) → chosen word choices ≡ Some k → f k ≡ Some x
    → read_tagged name choices f (put name (string word) ms) ≡ Some (tagged_doc name word x)
tagged_by name word choices f ms k x c e =
    ap (read_tagged_at name choices f) (ap (option_and_then as_str) (get_member-put name (string word) ms))
    ∙ ap (option_and_then (λ j. option_map (tagged_doc name word) (f j))) c ∙ ap (option_map (tagged_doc name word)) e

-- a tree with a `type` put into it reads as that security scheme
scheme_tagged : (word : List ℕ) (k : Kind) (w : Data) (x : Doc) → chosen word scheme_types ≡ Some k → read k w ≡ Some x
    → read security_scheme (with_member (codes "type") (string word) w) ≡ Some (tagged_doc (codes "type") word x)
unfolding reader
scheme_tagged word k w x c e =
    let free : leaves_free (codes "type") k ≡ true = chosen_leaves (codes "type") word scheme_types k refl c in
    let is : (ms : Members) × (w ≡ object ms) = chosen_is_object (codes "type") k w x free e in
    let ms : Members = is.0 in
    let P : Data → Type 0 = λ t. read security_scheme (with_member (codes "type") (string word) t) ≡ Some (tagged_doc (codes "type") word x) in
    let Q : Data → Type 0 = λ t. read k t ≡ Some x in
    subst P (sym is.1)
    (tagged_by (codes "type") word scheme_types (read_scheme (put (codes "type") (string word) ms) (parts (put (codes "type") (string word) ms))) ms k x c
    (scheme_with (codes "type") (string word) ms k free refl ∙ subst Q is.1 e))

-- a tree with an `in` put into it reads as that API key
key_tagged : (word : List ℕ) (k : Kind) (w : Data) (x : Doc) → chosen word api_key_places ≡ Some k → read k w ≡ Some x
    → read api_key (with_member (codes "in") (string word) w) ≡ Some (tagged_doc (codes "in") word x)
unfolding reader
key_tagged word k w x c e =
    let free : leaves_free (codes "in") k ≡ true = chosen_leaves (codes "in") word api_key_places k refl c in
    let is : (ms : Members) × (w ≡ object ms) = chosen_is_object (codes "in") k w x free e in
    let ms : Members = is.0 in
    let P : Data → Type 0 = λ t. read api_key (with_member (codes "in") (string word) t) ≡ Some (tagged_doc (codes "in") word x) in
    let Q : Data → Type 0 = λ t. read k t ≡ Some x in
    subst P (sym is.1)
    (tagged_by (codes "in") word api_key_places (read_alternative (put (codes "in") (string word) ms) (parts (put (codes "in") (string word) ms))) ms k x c
    (key_with (string word) ms k free ∙ subst Q is.1 e))

-- a tree whose member decides a choice reads as what the word chose
pub tagged_reads : (j : Kind) (name word : List ℕ) (choices : List (List ℕ × Kind)) (k : Kind) (w : Data) (x : Doc) → choices_of (value_of j) ≡ Some (name, choices)
    → chosen word choices ≡ Some k → read k w ≡ Some x
    → read j (with_member name (string word) w) ≡ Some (tagged_doc name word x)
tagged_reads security_scheme name word choices k w x h c e =
    let same : (codes "type", scheme_types) ≡ (name, choices) = cc in
    let P : List ℕ × List (List ℕ × Kind) → Type 0 = λ p. chosen word p.1 ≡ Some k → read security_scheme (with_member p.0 (string word) w) ≡ Some (tagged_doc p.0 word x) in
    subst P same (λ d. scheme_tagged word k w x d e) c
tagged_reads api_key name word choices k w x h c e =
    let same : (codes "in", api_key_places) ≡ (name, choices) = cc in
    let P : List ℕ × List (List ℕ × Kind) → Type 0 = λ p. chosen word p.1 ≡ Some k → read api_key (with_member p.0 (string word) w) ≡ Some (tagged_doc p.0 word x) in
    subst P same (λ d. key_tagged word k w x d e) c
tagged_reads j name word choices k w x h c e = cc
