-- Tables whose members come from tokens, in any order.
use Rattle.std.proofs.Common.{Bor, ◌≡◌, inl, inr, ◌∙◌, ◌+◌, ℕ, List, [], ◌∷◌, length, Bool, true, false, not, ◌||◌, cond, Option, Some, None, option_map, is_some, true≢false, refl, sym, ap, subst, arith}
use Rattle.std.proofs.lemmas.Slice.Eq.{bytes_eq-Decides}
use Rattle.std.specs.Str.{bytes_eq}
use Rattle.json.specs.Json as json
use Rattle.json.specs.Reads.{token_of}
use Rattle.json.specs.declared.token.Token as declared
use Rattle.json.specs.declared.token.Token.TheVariants as made
use Rattle.json.specs.Token as token
use Rattle.json.specs.Token.{Token}
use Rattle.serde_json.specs.Data.{Data, null, boolean, number, string, array, object, Members, no_members, put}
use Rattle.serde_json.specs.Read.{of_json, of_items, of_members, number_of, converted}
use Rattle.serde_json.specs.Find.{get_member}
use Rattle.serde_json.proofs.Views.{get_member-put, get_member-put_other}
use Rattle.utoipa_base.specs.Docs.{Doc, none_doc, some_doc}
use Rattle.utoipa_base.specs.Extensions.{is_extension}
use Rattle.utoipa_base.specs.Fields.{field, field_of, fields}
use Rattle.utoipa_base.specs.FromTokens.{Comes, FromTokens}
use Rattle.utoipa_base.specs.Kinds.{Kind, Row, required, optional, defaulted}
use Rattle.utoipa_base.specs.OpenRows.{Held, IsHeld, AreHeld, Takes, Taken, held_fields, held_schema_count, is_row}
use Rattle.utoipa_base.specs.Reading.{read, is_null}
use Rattle.utoipa_base.specs.Rows.{rows_values, texts}
use Rattle.utoipa_base.specs.Values.{values, values_of, schema_count}
use Rattle.utoipa_base.proofs.BoolFacts.{or_first, or_second, apart}
use Rattle.utoipa_base.proofs.Places.{schema_count-none, schema_count-some}
use Rattle.utoipa_base.proofs.TableNames as names
use Rattle.utoipa_base.proofs.TableNames.{are_apart, first_plain, first_once, others_apart}
use Rattle.utoipa_base.proofs.TokenGrammar.{value_is}
use Rattle.utoipa_base.proofs.TokenTrees.{converted_some}

-- ---- names

same_test : (name : List ℕ) (rs : List Row) → is_row name rs ≡ names.is_row name rs
same_test name [] = refl
same_test name (r ∷ rs) = ap (λ b. bytes_eq name r.name || b) (same_test name rs)

-- the test tells texts apart that are not one text
differ : (k l : List ℕ) (b : Bool) → bytes_eq k l ≡ b → (k ≡ l → ⊥) → b ≡ false
differ k l true e other = absurd (other ((bytes_eq-Decides k l).0 e))
differ k l false e other = refl

-- an extension has the name of no row
pub extension_no_row : (n : List ℕ) (rs : List Row) → is_extension n ≡ true → are_apart rs ≡ true → is_row n rs ≡ false
extension_no_row n [] h a = refl
extension_no_row n (r ∷ rs) h a =
    let other : bytes_eq n r.name ≡ false = differ n r.name _ refl (λ same. true≢false (sym h ∙ ap is_extension same ∙ first_plain r rs a)) in
    rw other (extension_no_row n rs h (others_apart r rs a))

-- ---- what is held

-- a member of no row's name leaves what is held
other_held : (rs : List Row) (os : Held) (ms : Members) (n : List ℕ) (d : Data) → is_row n rs ≡ false → AreHeld rs os ms → AreHeld rs os (put n d ms)
other_held [] [] ms n d unlike h = tt
other_held [] (o ∷ os) ms n d unlike h = absurd h
other_held (r ∷ rs) [] ms n d unlike h = absurd h
other_held (r ∷ rs) (o ∷ os) ms n d unlike h =
    let differs = apart n r.name (or_first (bytes_eq n r.name) (is_row n rs) unlike) in
    (subst (λ g. IsHeld r o g) (sym (get_member-put_other r.name n d ms (λ same. differs (sym same)))) h.0, other_held rs os ms n d (or_second (bytes_eq n r.name) (is_row n rs) unlike) h.1)

-- and the values of the rows' members
other_values : (rs : List Row) (ms : Members) (n : List ℕ) (d : Data) → is_row n rs ≡ false → rows_values rs (object (put n d ms)) ≡ rows_values rs (object ms)
other_values [] ms n d unlike = refl
other_values (r ∷ rs) ms n d unlike =
    let differs = apart n r.name (or_first (bytes_eq n r.name) (is_row n rs) unlike) in
    omega (arith, ap values_of (get_member-put_other r.name n d ms (λ same. differs (sym same))), other_values rs ms n d (or_second (bytes_eq n r.name) (is_row n rs) unlike))

-- where nothing is held there is no member
no_member_held : (r : Row) (o : Option Doc) (g : Option Data) → o ≡ None → IsHeld r o g → g ≡ None
no_member_held r None None none h = refl
no_member_held r None (Some d) none h = absurd h
no_member_held r (Some x) g none h = absurd (cc)

values_of-one : (d : Data) → values_of (Some d) ≡ values d
unfolding values_of
values_of-one d = refl

values_of-nothing : values_of None ≡ 0
unfolding values_of
values_of-nothing = refl

-- what is held after a row has taken its member
pub taken_held : (rs : List Row) (n : List ℕ) (d : Data) (x : Doc) (os ps : Held) (ms : Members) → are_apart rs ≡ true → Takes rs n d x os ps → AreHeld rs os ms → AreHeld rs ps (put n d ms)
taken_held [] n d x os ps ms a h held = absurd h
taken_held (r ∷ rs) n d x [] ps ms a h held = absurd h
taken_held (r ∷ rs) n d x (o ∷ os) [] ms a h held = absurd h
taken_held (r ∷ rs) n d x (o ∷ os) (p ∷ ps) ms a (inl h) held =
    let unlike : is_row n rs ≡ false = ap (λ m. is_row m rs) (sym h.0) ∙ same_test r.name rs ∙ first_once r rs a in
    let here : get_member r.name (put n d ms) ≡ Some d = ap (λ m. get_member m (put n d ms)) h.0 ∙ get_member-put n d ms in
    let now : IsHeld r p (get_member r.name (put n d ms)) = rw (h.2, here) h.3 in
    (now, subst (λ q. AreHeld rs q (put n d ms)) (sym h.4) (other_held rs os ms n d unlike held.1))
taken_held (r ∷ rs) n d x (o ∷ os) (p ∷ ps) ms a (inr h) held =
    let differs = apart n r.name h.0 in
    let there = get_member-put_other r.name n d ms (λ same. differs (sym same)) in
    let now : IsHeld r p (get_member r.name (put n d ms)) = rw (h.1, there) held.0 in
    (now, taken_held rs n d x os ps ms (others_apart r rs a) h.2 held.1)

-- and the values of the rows' members
pub taken_values : (rs : List Row) (n : List ℕ) (d : Data) (x : Doc) (os ps : Held) (ms : Members) → are_apart rs ≡ true → Takes rs n d x os ps → AreHeld rs os ms → rows_values rs (object (put n d ms)) ≡ rows_values rs (object ms) + values d
taken_values [] n d x os ps ms a h held = absurd h
taken_values (r ∷ rs) n d x [] ps ms a h held = absurd h
taken_values (r ∷ rs) n d x (o ∷ os) [] ms a h held = absurd h
taken_values (r ∷ rs) n d x (o ∷ os) (p ∷ ps) ms a (inl h) held =
    let unlike : is_row n rs ≡ false = ap (λ m. is_row m rs) (sym h.0) ∙ same_test r.name rs ∙ first_once r rs a in
    let here : values_of (get_member r.name (put n d ms)) ≡ values d = ap values_of (ap (λ m. get_member m (put n d ms)) h.0 ∙ get_member-put n d ms) ∙ values_of-one d in
    let none : values_of (get_member r.name ms) ≡ 0 = ap values_of (no_member_held r o (get_member r.name ms) h.1 held.0) ∙ values_of-nothing in
    omega (arith, here, none, other_values rs ms n d unlike)
taken_values (r ∷ rs) n d x (o ∷ os) (p ∷ ps) ms a (inr h) held =
    let differs = apart n r.name h.0 in
    let there = ap values_of (get_member-put_other r.name n d ms (λ same. differs (sym same))) in
    omega (arith, there, taken_values rs n d x os ps ms (others_apart r rs a) h.2 held.1)

later_counted : (o : Option Doc) (os ps : Held) (n : ℕ) → held_schema_count ps ≡ held_schema_count os + n → held_schema_count (o ∷ ps) ≡ held_schema_count (o ∷ os) + n
later_counted None os ps n h = h
later_counted (Some y) os ps n h = omega (arith, h)

-- and the schemas of what is held
pub taken_counted : (rs : List Row) (n : List ℕ) (d : Data) (x : Doc) (os ps : Held) → Takes rs n d x os ps → held_schema_count ps ≡ held_schema_count os + schema_count x
taken_counted [] n d x os ps h = absurd h
taken_counted (r ∷ rs) n d x [] ps h = absurd h
taken_counted (r ∷ rs) n d x (o ∷ os) [] h = absurd h
taken_counted (r ∷ rs) n d x (o ∷ os) (p ∷ ps) (inl h) = rw (h.1, h.2, h.4) (omega arith)
taken_counted (r ∷ rs) n d x (o ∷ os) (p ∷ ps) (inr h) = ap (λ q. held_schema_count (q ∷ ps)) h.1 ∙ later_counted o os ps (schema_count x) (taken_counted rs n d x os ps h.2)

-- what is held at a row is its field
held_field : (r : Row) (o : Option Doc) (g : Option Data) (x : Doc) → o ≡ Some x → IsHeld r o g → field_of r.mark r.kind g ≡ Some x
held_field r None g x is h = absurd (cc)
held_field r (Some y) None x is h = absurd h
held_field r (Some y) (Some d) x is h = h ∙ is

-- when the last member has come, the fields are those of the object
pub held_read : (rs : List Row) (os : Held) (ms : Members) → AreHeld rs os ms → fields rs (object ms) ≡ held_fields rs os
unfolding field fields
held_read [] [] ms h = refl
held_read [] (o ∷ os) ms h = absurd h
held_read (r ∷ rs) [] ms h = absurd h
held_read (r ∷ rs) (None ∷ os) ms h = rw (no_member_held r None (get_member r.name ms) refl h.0, held_read rs os ms h.1) refl
held_read (r ∷ rs) (Some x ∷ os) ms h = rw (held_field r (Some x) (get_member r.name ms) x refl h.0, held_read rs os ms h.1) refl

-- ---- the rows of a list

texts_length : (ns : List (Bor (List ℕ))) → length (texts ns) ≡ length ns
texts_length [] = refl
texts_length (n ∷ ns) = omega (arith, texts_length ns)

pub texts_count : (ns : List (Bor (List ℕ))) (n : ℕ) → length ns ≡ n → length (texts ns) ≡ n
texts_count ns n is = texts_length ns ∙ is

-- the first row takes its member
pub take_here : {A : Type 0} (f : A → Doc) (r : Row) (rs : List Row) (n : List ℕ) (o p : Option Doc) (os ps : Held) (v : A) (depth : ℕ) (old new : List Token) (start now : ℕ) → r.name ≡ n → o ≡ None → p ≡ Some (f v) → ps ≡ os
    → FromTokens (λ t. field_of r.mark r.kind (Some t)) f v depth old new start now → Taken (r ∷ rs) n (o ∷ os) (p ∷ ps) depth old new start now
take_here f r rs n o p os ps v depth old new start now same_name none held same one =
    record {
      tree = one.tree;
      comes = one.comes;
      field = f v;
      takes = inl (same_name, none, held, one.reads.ok, same);
      grows = one.reads.grows;
      at_most = one.reads.at_most;
      at_least = one.reads.at_least;
    }

-- ---- the field of a member

-- what was read as one value of a tree is read as another of it
pub as_field : {A B : Type 0} (o p : Data → Option Doc) (f : A → Doc) (g : B → Doc) (v : A) (w : B) (depth : ℕ) (old new : List Token) (start now : ℕ) → schema_count (g w) ≡ schema_count (f v) → (one : FromTokens o f v depth old new start now)
    → p one.tree ≡ Some (g w) → FromTokens p g w depth old new start now
as_field o p f g v w depth old new start now count one is =
    record {
      tree = one.tree;
      comes = one.comes;
      reads = record {
        ok = is;
        err = tt;
        grows = one.reads.grows;
        at_most = one.reads.at_most;
        at_least = λ below. omega (arith, count, one.reads.at_least below);
      };
    }

-- what was read as one value is read as another of the same document
pub from_tokens_as : {A B : Type 0} (o : Data → Option Doc) (f : A → Doc) (g : B → Doc) (v : A) (w : B) (depth : ℕ) (old new : List Token) (start now : ℕ) → f v ≡ g w → FromTokens o f v depth old new start now → FromTokens o g w depth old new start now
from_tokens_as o f g v w depth old new start now same one = as_field o o f g v w depth old new start now (ap schema_count (sym same)) one (one.reads.ok ∙ ap Some same)

-- null, where it is a field without schemas
pub null_field : {B : Type 0} (p : Data → Option Doc) (g : B → Doc) (w : B) (depth : ℕ) (ts : List Token) (start : ℕ) → p null ≡ Some (g w) → schema_count (g w) ≡ 0 → FromTokens p g w depth (token.null ∷ ts) ts start start
null_field p g w depth ts start is none =
    record {
      tree = null;
      comes = record { next = ap (converted of_json) (value_is depth _); plain = refl };
      reads = record { ok = is; err = tt; grows = omega arith; at_most = omega arith; at_least = λ below. omega (arith, none) };
    }

-- ---- which token null begins with

abbrev is_null_json : json.Json → Bool
is_null_json json.null = true
is_null_json (json.boolean b) = false
is_null_json (json.number s) = false
is_null_json (json.string s) = false
is_null_json (json.array js) = false
is_null_json (json.object ms) = false

abbrev first_of : {A B : Type 0} → A → Option (A × B) → A
first_of d None = d
first_of d (Some p) = p.0

not_null_map : {A : Type 0} (g : A → json.Json) → ((a : A) → is_null_json (g a) ≡ false) → (o : Option (A × List Token)) (j : json.Json) (r : List Token) → json.parse_map g o ≡ Some (j, r) → is_null_json j ≡ false
not_null_map g h None j r e = absurd (cc)
not_null_map g h (Some p) j r e = ap is_null_json (sym (ap (first_of (g p.0)) e)) ∙ h p.0

not_null_value : (a : json.Parse json.Items) (m : json.Parse json.Members) (t : Token) (ts : List Token) (j : json.Json) (r : List Token) → (t ≡ token.null → ⊥) → json.value_with a m (t ∷ ts) ≡ Some (j, r) → is_null_json j ≡ false
not_null_value a m token.begin_object ts j r other e = not_null_map json.object (λ x. refl) (m ts) j r e
not_null_value a m token.end_object ts j r other e = absurd (cc)
not_null_value a m token.begin_array ts j r other e = not_null_map json.array (λ x. refl) (a ts) j r e
not_null_value a m token.end_array ts j r other e = absurd (cc)
not_null_value a m (token.key s) ts j r other e = absurd (cc)
not_null_value a m (token.string s) ts j r other e = ap is_null_json (sym (ap (first_of (json.string s)) e))
not_null_value a m (token.number s) ts j r other e = ap is_null_json (sym (ap (first_of (json.number s)) e))
not_null_value a m (token.boolean b) ts j r other e = ap is_null_json (sym (ap (first_of (json.boolean b)) e))
not_null_value a m token.null ts j r other e = absurd (other refl)
not_null_value a m token.bad ts j r other e = absurd (cc)

abbrev data_of : Data → Option Data → Data
data_of d None = d
data_of d (Some e) = e

not_null_data_map : {A : Type 0} (g : A → Data) → ((a : A) → is_null (g a) ≡ false) → (o : Option A) (d : Data) → option_map g o ≡ Some d → is_null d ≡ false
not_null_data_map g h None d e = absurd (cc)
not_null_data_map g h (Some a) d e = ap is_null (sym (ap (data_of (g a)) e)) ∙ h a

not_null_data : (j : json.Json) (d : Data) → is_null_json j ≡ false → of_json j ≡ Some d → is_null d ≡ false
not_null_data json.null d h e = absurd (true≢false h)
not_null_data (json.boolean b) d h e = ap is_null (sym (ap (data_of (boolean b)) e))
not_null_data (json.number s) d h e = not_null_data_map number (λ x. refl) (number_of s) d e
not_null_data (json.string s) d h e = ap is_null (sym (ap (data_of (string s)) e))
not_null_data (json.array js) d h e = not_null_data_map array (λ x. refl) (of_items js) d e
not_null_data (json.object ms) d h e = not_null_data_map object (λ x. refl) (of_members ms no_members) d e

-- a tree that begins with another token than null's is not null
pub not_null : (t : Token) (ts : List Token) (d : Data) (depth : ℕ) (new : List Token) → (t ≡ token.null → ⊥) → Comes d depth (t ∷ ts) new → is_null d ≡ false
not_null t ts d depth new other comes =
    let j = converted_some of_json (json.value depth (t ∷ ts)) d new comes.next in
    not_null_data j.0 d (not_null_value _ _ t ts j.0 new other (sym (value_is depth (t ∷ ts)) ∙ j.1)) j.2

-- only the token null stands for null's
pub only_null : (k : declared.Token) → token_of k ≡ token.null → k ≡ made.Null
only_null made.BeginObject e = absurd (cc)
only_null made.EndObject e = absurd (cc)
only_null made.BeginArray e = absurd (cc)
only_null made.EndArray e = absurd (cc)
only_null (made.Key s) e = absurd (cc)
only_null (made.String s) e = absurd (cc)
only_null (made.Number s) e = absurd (cc)
only_null (made.Bool b) e = absurd (cc)
only_null made.Null e = refl
only_null made.Bad e = absurd (cc)

-- a member under a row that asks for one, or that is empty where there is none
pub required_field : {A B : Type 0} (k : Kind) (f : A → Doc) (g : B → Doc) (v : A) (w : B) (depth : ℕ) (old new : List Token) (start now : ℕ) → g w ≡ f v → FromTokens (read k) f v depth old new start now → FromTokens (λ t. field_of required k (Some t)) g w depth old new start now
required_field k f g v w depth old new start now same one = as_field (read k) (λ t. field_of required k (Some t)) f g v w depth old new start now (ap schema_count same) one (one.reads.ok ∙ ap Some (sym same))

pub defaulted_field : {A B : Type 0} (k : Kind) (f : A → Doc) (g : B → Doc) (v : A) (w : B) (depth : ℕ) (old new : List Token) (start now : ℕ) → g w ≡ f v → FromTokens (read k) f v depth old new start now → FromTokens (λ t. field_of defaulted k (Some t)) g w depth old new start now
defaulted_field k f g v w depth old new start now same one = as_field (read k) (λ t. field_of defaulted k (Some t)) f g v w depth old new start now (ap schema_count same) one (one.reads.ok ∙ ap Some (sym same))

-- a member under an optional row, which is not null
pub optional_field : {A B : Type 0} (k : Kind) (f : A → Doc) (g : B → Doc) (v : A) (w : B) (depth : ℕ) (first : declared.Token) (ts new : List Token) (start now : ℕ) → g w ≡ some_doc (f v) → (first ≡ made.Null → ⊥)
    → FromTokens (read k) f v depth (token_of first ∷ ts) new start now → FromTokens (λ t. field_of optional k (Some t)) g w depth (token_of first ∷ ts) new start now
optional_field k f g v w depth first ts new start now same other one =
    let e : is_null one.tree ≡ false = not_null (token_of first) ts one.tree depth new (λ h. other (only_null first h)) one.comes in
    as_field (read k) (λ t. field_of optional k (Some t)) f g v w depth (token_of first ∷ ts) new start now (ap schema_count same ∙ schema_count-some (f v)) one
    (ap (λ b. cond b (Some none_doc) (option_map some_doc (read k one.tree))) e ∙ ap (option_map some_doc) one.reads.ok ∙ ap Some (sym same))

-- null under an optional row
pub optional_null : {B : Type 0} (k : Kind) (g : B → Doc) (w : B) (depth : ℕ) (first : declared.Token) (ts : List Token) (start : ℕ) → g w ≡ none_doc → first ≡ made.Null → FromTokens (λ t. field_of optional k (Some t)) g w depth (token_of first ∷ ts) ts start start
optional_null k g w depth first ts start same is =
    subst (λ t. FromTokens (λ d. field_of optional k (Some d)) g w depth (token_of t ∷ ts) ts start start) (sym is)
    (null_field (λ d. field_of optional k (Some d)) g w depth ts start (ap Some (sym same)) (ap schema_count same ∙ schema_count-none))

-- nothing is held
pub none_held : {A : Type 0} (f : A → Doc) (o : Option A) → is_some o ≡ false → option_map f o ≡ None
none_held f None h = refl
none_held f (Some v) h = absurd (true≢false h)

-- a test that is not turned holds
pub holds : (a : Bool) → not a ≡ false → a ≡ true
holds true h = refl
holds false h = absurd (true≢false h)
