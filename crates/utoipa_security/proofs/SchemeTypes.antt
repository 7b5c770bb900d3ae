-- The member whose word says of which type a scheme is, or where an API key stands.
use Rattle.std.proofs.Common.{◌≡◌, ℕ, List, [], ◌∷◌, Bool, true, false, Option, Some, None, option_map, option_and_then, is_some, if◌then◌else◌, map, refl, sym, ap, ◌∙◌, arith, Result, Ok, Err, IfOk, codes}
use Rattle.std.specs.Result.{IsErrAnd}
use Rattle.std.specs.Str.{bytes_eq}
use Rattle.serde_json.specs.Data.{Data, null, boolean, number, string, array, object, Members}
use Rattle.serde_json.specs.Find.{get, as_str, as_object}
use Rattle.serde_json.specs.declared.value.Value.{the_lemmas}
use Rattle.utoipa_base.specs.Choices.{chosen, scheme_types, api_key_places}
use Rattle.utoipa_base.specs.Docs.{Doc, tagged_doc}
use Rattle.utoipa_base.specs.Faults.{Refuses}
use Rattle.utoipa_base.specs.Kinds.{Kind, named, security_scheme, api_key, api_key_scheme}
use Rattle.utoipa_base.specs.Reading.{reader, parts, read, read_scheme, read_alternative}
use Rattle.utoipa_base.specs.Reads.{Reads}
use Rattle.utoipa_base.specs.Values.{schema_count}
use Rattle.utoipa_base.specs.Vocabularies.{with_text}
use Rattle.utoipa_base.specs.Writing.{write, with_member}
use Rattle.utoipa_base.specs.declared.fault.ReadFault.{ReadFault}
use Rattle.utoipa_base.proofs.ByWords.{found_has}
use Rattle.utoipa_base.proofs.RowLists.{passes_reads}
use Rattle.utoipa_security.specs.ApiKey.{api_key_doc, key_place_text, every_key_place}
use Rattle.utoipa_security.specs.Schemes.{type_of, scheme_object, scheme_doc, scheme_type_text, scheme_kind, every_scheme_type}
use Rattle.utoipa_security.specs.declared.security.api_key.ApiKey.{ApiKey}
use Rattle.utoipa_security.specs.declared.security.api_key.KeyPlace.{KeyPlace}
use Rattle.utoipa_security.specs.declared.security.scheme.SecurityScheme.{SecurityScheme}
use Rattle.utoipa_security.specs.declared.security.scheme.SchemeType.{SchemeType}
use Rattle.utoipa_security.specs.declared.security.scheme.SchemeType.TheVariants as types

-- the text of a member
abbrev pub word_at : List ℕ → Data → Option (List ℕ)
word_at name d = option_and_then as_str (get name d)

-- a tree that is no object has no members
pub get-no_object : (name : List ℕ) (d : Data) → is_some (as_object d) ≡ false → get name d ≡ None
get-no_object name null e = refl
get-no_object name (boolean b) e = refl
get-no_object name (number n) e = refl
get-no_object name (string s) e = refl
get-no_object name (array ds) e = refl
get-no_object name (object ms) e = cc

-- ---- what a word chooses

-- what is chosen first, or else among the rest
chosen_if : {W A : Type 0} (k : W → A) (b : Bool) (v : W) (o : Option W) (x : Option A) → x ≡ option_map k o → (if b then Some (k v) else x) ≡ option_map k (if b then Some v else o)
chosen_if k true v o x e = refl
chosen_if k false v o x e = e

-- what stands beside a word is that of the value that the word names
chosen_by : {W A : Type 0} (f : W → List ℕ) (k : W → A) (ws : List W) (s : List ℕ) → chosen s (map (λ v. (f v, k v)) ws) ≡ option_map k (with_text f ws s)
chosen_by f k [] s = refl
chosen_by f k (v ∷ ws) s = chosen_if k (bytes_eq s (f v)) v (with_text f ws s) _ (chosen_by f k ws s)

-- what is read of the kind that a value names
read_of : {W : Type 0} (f : Kind → Option Doc) (k : W → Kind) (g : W → Option Doc) (o : Option W) → ((v : W) → f (k v) ≡ g v) → option_and_then f (option_map k o) ≡ option_and_then g o
read_of f k g None same = refl
read_of f k g (Some v) same = same v

-- what is read of the kind that a word chooses
abbrev by_word : List ℕ → List (List ℕ × Kind) → (Kind → Option Doc) → Option (List ℕ) → Option Doc
by_word name choices f o = option_and_then (λ word. option_and_then (λ k. option_map (tagged_doc name word) (f k)) (chosen word choices)) o

-- it is what is read of the value that the word names
read_by_word : {W : Type 0} (name w : List ℕ) (text : W → List ℕ) (k : W → Kind) (ws : List W) (f : Kind → Option Doc) (g : W → Option Doc) (o : Option (List ℕ)) → o ≡ Some w → ((v : W) → option_map (tagged_doc name w) (f (k v)) ≡ g v)
    → by_word name (map (λ v. (text v, k v)) ws) f o ≡ option_and_then g (with_text text ws w)
read_by_word name w text k ws f g o is same =
    let tagged = λ (j : Kind). option_map (tagged_doc name w) (f j) in
    ap (by_word name (map (λ v. (text v, k v)) ws) f) is ∙ ap (option_and_then tagged) (chosen_by text k ws w) ∙ read_of tagged k g (with_text text ws w) same

-- ---- an API key

-- an API key in a place
abbrev pub key_in : Data → List ℕ → KeyPlace → Option Doc
key_in d w p = option_map (tagged_doc (codes "in") w) (read (named api_key_scheme) d)

-- an API key with a word is read in the place that the word names
key_by_word : (d : Data) (w : List ℕ) → word_at (codes "in") d ≡ Some w → read api_key d ≡ option_and_then (key_in d w) (with_text key_place_text every_key_place w)
unfolding reader
key_by_word null w is = cc
key_by_word (boolean b) w is = cc
key_by_word (number n) w is = cc
key_by_word (string s) w is = cc
key_by_word (array ds) w is = cc
key_by_word (object ms) w is =
    read_by_word (codes "in") w key_place_text (λ p. named api_key_scheme) every_key_place (read_alternative ms (parts ms)) (key_in (object ms) w) _ is (λ p. refl)

-- there is none without a word
pub key_absent : (d : Data) → word_at (codes "in") d ≡ None → read api_key d ≡ None
unfolding reader
key_absent null is = refl
key_absent (boolean b) is = refl
key_absent (number n) is = refl
key_absent (string s) is = refl
key_absent (array ds) is = refl
key_absent (object ms) is = ap (by_word (codes "in") api_key_places (read_alternative ms (parts ms))) is

-- nor where the word names no place
pub key_nowhere : (d : Data) (w : List ℕ) → word_at (codes "in") d ≡ Some w → None ≡ with_text key_place_text every_key_place w → read api_key d ≡ None
key_nowhere d w is place = key_by_word d w is ∙ ap (option_and_then (key_in d w)) (sym place)

-- nor where the members do not fit
pub key_refused : (d : Data) (w : List ℕ) (p : KeyPlace) → word_at (codes "in") d ≡ Some w → Some p ≡ with_text key_place_text every_key_place w → read (named api_key_scheme) d ≡ None → read api_key d ≡ None
key_refused d w p is place none = key_by_word d w is ∙ ap (option_and_then (key_in d w)) (sym place) ∙ ap (option_map (tagged_doc (codes "in") w)) none

-- an API key in the place of its word
pub key_fits : (d : Data) (w : List ℕ) (p : KeyPlace) (x : Doc) (r : ApiKey) → word_at (codes "in") d ≡ Some w → Some p ≡ with_text key_place_text every_key_place w → api_key_doc r ≡ tagged_doc (codes "in") (key_place_text p) x
    → read (named api_key_scheme) d ≡ Some x → read api_key d ≡ Some (api_key_doc r)
key_fits d w p x r is place made fits =
    key_by_word d w is ∙ ap (option_and_then (key_in d w)) (sym place) ∙ ap (option_map (tagged_doc (codes "in") w)) fits
    ∙ ap (λ t. Some (tagged_doc (codes "in") t x)) (found_has key_place_text every_key_place w p (sym place))
    ∙ ap Some (sym made)

-- ---- a scheme

-- a scheme of a type
abbrev pub scheme_of : Data → List ℕ → SchemeType → Option Doc
scheme_of d w t = option_map (tagged_doc (codes "type") w) (read (scheme_kind t) d)

-- the members of each type are read as they are
scheme_of-type : (ms : Members) (w : List ℕ) (t : SchemeType) → option_map (tagged_doc (codes "type") w) (read_scheme ms (parts ms) (scheme_kind t)) ≡ scheme_of (object ms) w t
unfolding reader
scheme_of-type ms w types.OAuth2 = refl
scheme_of-type ms w types.ApiKey = refl
scheme_of-type ms w types.Http = refl
scheme_of-type ms w types.OpenIdConnect = refl
scheme_of-type ms w types.MutualTls = refl

-- a scheme with a word is read as the type that the word names
scheme_by_word : (d : Data) (w : List ℕ) → word_at (codes "type") d ≡ Some w → read security_scheme d ≡ option_and_then (scheme_of d w) (with_text scheme_type_text every_scheme_type w)
unfolding reader
scheme_by_word null w is = cc
scheme_by_word (boolean b) w is = cc
scheme_by_word (number n) w is = cc
scheme_by_word (string s) w is = cc
scheme_by_word (array ds) w is = cc
scheme_by_word (object ms) w is =
    read_by_word (codes "type") w scheme_type_text scheme_kind every_scheme_type (read_scheme ms (parts ms)) (scheme_of (object ms) w) _ is (scheme_of-type ms w)

-- there is none without a word
pub scheme_absent : (d : Data) → word_at (codes "type") d ≡ None → read security_scheme d ≡ None
unfolding reader
scheme_absent null is = refl
scheme_absent (boolean b) is = refl
scheme_absent (number n) is = refl
scheme_absent (string s) is = refl
scheme_absent (array ds) is = refl
scheme_absent (object ms) is = ap (by_word (codes "type") scheme_types (read_scheme ms (parts ms))) is

-- nor where the word names no type
pub scheme_of_no_type : (d : Data) (w : List ℕ) → word_at (codes "type") d ≡ Some w → None ≡ with_text scheme_type_text every_scheme_type w → read security_scheme d ≡ None
scheme_of_no_type d w is type = scheme_by_word d w is ∙ ap (option_and_then (scheme_of d w)) (sym type)

-- what is read of the type that the word names
scheme_read : (d : Data) (w : List ℕ) (t : SchemeType) (o : Option Doc) → word_at (codes "type") d ≡ Some w → Some t ≡ with_text scheme_type_text every_scheme_type w → read (scheme_kind t) d ≡ o
    → read security_scheme d ≡ option_map (tagged_doc (codes "type") w) o
scheme_read d w t o is type fits = scheme_by_word d w is ∙ ap (option_and_then (scheme_of d w)) (sym type) ∙ ap (option_map (tagged_doc (codes "type") w)) fits

-- ---- writing and counting

-- a kind with its word is written with the member that has it
pub write-tagged : (name w : List ℕ) (d : Doc) → write (tagged_doc name w d) ≡ with_member name (string w) (write d)
unfolding write
write-tagged name w d = refl

-- a word counts nothing
pub schema_count-tagged : (name w : List ℕ) (d : Doc) → schema_count (tagged_doc name w d) ≡ schema_count d
unfolding schema_count
schema_count-tagged name w d = refl

-- ---- answers

-- nothing is read where there is no word
pub not_read : {T : Type 0} (g : T → Doc) (r : Result T ReadFault) (e : ReadFault) (p : Option Doc) (n most : ℕ) → IsErrAnd r (λ x. x ≡ e) → Refuses None e → p ≡ None → Reads p g r n n most
not_read g r e p n most passed refused none =
    let read : Reads {A = Doc} None (λ d. d) (Err e) n n 0 = record { ok = tt; err = refused; grows = omega arith; at_most = omega arith; at_least = tt } in
    passes_reads _ g r e None p n n n 0 most passed read (λ h. none) (omega arith) (omega arith)

-- what is read, with its word
pub tagged_reads : {A B : Type 0} (f : A → Doc) (g : B → Doc) (name word : List ℕ) (v : A) (w : B) (o p : Option Doc) (old new most : ℕ) → g w ≡ tagged_doc name word (f v) → (o ≡ Some (f v) → p ≡ Some (g w))
    → Reads {A = A} o f (Ok v) old new most → Reads {A = B} p g (Ok w) old new most
tagged_reads f g name word v w o p old new most same is reads =
    record {
      ok = is reads.ok;
      err = tt;
      grows = reads.grows;
      at_most = reads.at_most;
      at_least = λ below. omega (arith, ap schema_count same, schema_count-tagged name word (f v), reads.at_least below);
    }

-- the members of the type that a word names are read as a scheme
pub scheme_reads : (r : Result SecurityScheme ReadFault) (d : Data) (w : List ℕ) (t : SchemeType) (old new most : ℕ) → word_at (codes "type") d ≡ Some w → Some t ≡ with_text scheme_type_text every_scheme_type w
    → IfOk r (λ s. type_of s ≡ t) → Reads (read (scheme_kind t) d) scheme_object r old new most → Reads (read security_scheme d) scheme_doc r old new most
scheme_reads (Err e) d w t old new most is chose typed reads =
    passes_reads scheme_object scheme_doc (Err e) e _ _ old old new most most refl reads (λ none. scheme_read d w t None is chose none) (omega arith) (omega arith)
scheme_reads (Ok s) d w t old new most is chose typed reads =
    let word : w ≡ scheme_type_text (type_of s) = found_has scheme_type_text every_scheme_type w t (sym chose) ∙ ap scheme_type_text (sym typed) in
    tagged_reads scheme_object scheme_doc (codes "type") (scheme_type_text (type_of s)) s s _ _ old new most refl
    (λ fits. scheme_read d w t _ is chose fits ∙ ap (λ v. Some (tagged_doc (codes "type") v (scheme_object s))) word) reads

-- schemes and their words
pub ruleset by_scheme_types = (get-no_object, write-tagged, schema_count-tagged, the_lemmas)
