-- What each rule of the model leaves behind: in the tree that it has changed it changes nothing more, and nothing comes to be changed inside.
use Rattle.std.proofs.Common.{◌≡◌, ◌∙◌, refl, sym, ap, ℕ, List, [], ◌∷◌, ◌++◌, Bool, true, false, not, ◌&&◌, ◌||◌, Option, None, Some, option_map, is_some, codes, true≢false}
use Rattle.std.proofs.lemmas.Slice.Eq.{bytes_eq-Decides}
use Rattle.std.proofs.lemmas.Str.Ascii.{lowercase-lowercase}
use Rattle.std.specs.Char.{to_ascii_lowercase}
use Rattle.std.specs.List.{list_any}
use Rattle.std.specs.Str.{bytes_eq, str_to_ascii_lowercase}
use Rattle.serde_json.specs.Data.{Data, null, boolean, number, string, array, object, no_members, put}
use Rattle.serde_json.specs.Find.{get, get_member}
use Rattle.serde_json.proofs.Views.{get_member-put, get_member-put_other}
use Rattle.utoipa_base.proofs.BoolFacts.{and_first, and_second}
use Rattle.utoipa_base.specs.Kinds.{http_auth_scheme, Kind}
use Rattle.utoipa_base.specs.Words.{words}
use Rattle.utoipa_adapt.specs.Adapted.{member_kind, told_within, changes}
use Rattle.utoipa_adapt.specs.Rules.{RuleSet, of_model, Rule, paths_absent, responses_absent, required_absent, version_of_two, scheme_in_other_case, schema_true, const_alone, items_absent, versions_of_two, is_other_case, beside_enum, beside_items, applies, changed}
use Rattle.utoipa_adapt.specs.Trees.{has, lacks, is_true, says, has_any, without, with_member, with_text, list_of_one}
use Rattle.utoipa_adapt.proofs.Edited.{put_some_there, edited_told, put_told, NothingIn}
use Rattle.utoipa_adapt.proofs.Same.{IsQuiet, told_quiet}

-- ---- the forms that rules make

-- an object that was given a member

lacks_given : (name : List ℕ) (v d : Data) → lacks name (with_member name v d) ≡ false
lacks_given name v (object ms) = ap (λ o. not (is_some o)) (get_member-put name v ms)
lacks_given name v d = refl

pub told_given : (set : RuleSet) (name : List ℕ) (v : Data) (k : Kind) → changes set (member_kind k name) v ≡ [] → (d : Data) → told_within set d k ≡ [] → told_within set (with_member name v d) k ≡ []
told_given set name v k new (object ms) h = put_told set name v ms k new h
told_given set name v k new d h = h

pub has_given : (q name : List ℕ) (v d : Data) → (q ≡ name → ⊥) → has q (with_member name v d) ≡ has q d
has_given q name v (object ms) other = ap is_some (get_member-put_other q name v ms other)
has_given q name v d other = refl

true_given : (name : List ℕ) (v d : Data) → is_true (with_member name v d) ≡ is_true d
true_given name v d = elim d as (λ d. is_true (with_member name v d) ≡ is_true d) [ null ↦ refl | boolean b ↦ refl | number n ↦ refl | string s ↦ refl | array ds ↦ refl | object ms ↦ refl ]

-- a text in another form

pub told_text : (set : RuleSet) (f : List ℕ → List ℕ) (k : Kind) (d : Data) → told_within set d k ≡ [] → told_within set (with_text f d) k ≡ []
told_text set f k (string s) h = refl
told_text set f k d h = h

pub has_text : (q : List ℕ) (f : List ℕ → List ℕ) (d : Data) → has q (with_text f d) ≡ has q d
has_text q f (string s) = refl
has_text q f d = refl

-- a member as a list under another name

-- a value that is there stays there as a list
listed_some : (o : Option Data) → is_some o ≡ true → is_some (option_map list_of_one o) ≡ true
listed_some None h = h
listed_some (Some v) h = refl

-- what is put into a place where nothing is looked at
pub nothing_listed : (set : RuleSet) (k : Kind) (o : Option Data) → IsQuiet set k → NothingIn set k (option_map list_of_one o)
nothing_listed set k None q = tt
nothing_listed set k (Some v) q = told_quiet set k (list_of_one v) q

-- ---- a rule that has changed a tree

-- a rule of a kind: once it has changed a tree in which nothing is changed inside, nothing is, and it changes the tree no more
pub record Settles (set : RuleSet) (r : Rule) (k : Kind) : Type 0 where
  pub inside : (d : Data) → applies r d ≡ true → told_within set d k ≡ [] → told_within set (changed r d) k ≡ []
  pub done : (d : Data) → applies r d ≡ true → applies r (changed r d) ≡ false

pub paths_settle : (k : Kind) → changes of_model (member_kind k (codes "paths")) (object no_members) ≡ [] → Settles of_model paths_absent k
paths_settle k new = record { inside = λ d is h. told_given of_model (codes "paths") (object no_members) k new d h; done = λ d is. lacks_given (codes "paths") (object no_members) d }

pub responses_settle : (k : Kind) → changes of_model (member_kind k (codes "responses")) (object no_members) ≡ [] → Settles of_model responses_absent k
responses_settle k new = record { inside = λ d is h. told_given of_model (codes "responses") (object no_members) k new d h; done = λ d is. lacks_given (codes "responses") (object no_members) d }

pub required_settles : (k : Kind) → changes of_model (member_kind k (codes "required")) (boolean false) ≡ [] → Settles of_model required_absent k
required_settles k new = record { inside = λ d is h. told_given of_model (codes "required") (boolean false) k new d h; done = λ d is. lacks_given (codes "required") (boolean false) d }

pub items_settle : (k : Kind) → changes of_model (member_kind k (codes "items")) (object no_members) ≡ [] → Settles of_model items_absent k
items_settle k new = record {
  inside = λ d is h. told_given of_model (codes "items") (object no_members) k new d h;
  done = λ d is. ap (λ b. b && (says (codes "type") (codes "array") (changed items_absent d) && not (has_any beside_items (changed items_absent d)))) (lacks_given (codes "items") (object no_members) d);
}

-- with the third number a version is none of two
version_done : (a b : Bool) (s : List ℕ) → bytes_eq s (codes "3.1") ≡ a → bytes_eq s (codes "3.2") ≡ b → list_any (bytes_eq s) versions_of_two ≡ true → list_any (bytes_eq (s ++ codes ".0")) versions_of_two ≡ false
version_done true b s x y h = ap (λ t. list_any (bytes_eq (t ++ codes ".0")) versions_of_two) ((bytes_eq-Decides s (codes "3.1")).0 x)
version_done false true s x y h = ap (λ t. list_any (bytes_eq (t ++ codes ".0")) versions_of_two) ((bytes_eq-Decides s (codes "3.2")).0 y)
version_done false false s x y h = absurd (true≢false (sym h ∙ rw (x, y)))

version_text_done : (d : Data) → applies version_of_two d ≡ true → applies version_of_two (changed version_of_two d) ≡ false
version_text_done (string s) h = version_done _ _ s refl refl h
version_text_done null h = refl
version_text_done (boolean b) h = refl
version_text_done (number n) h = refl
version_text_done (array ds) h = refl
version_text_done (object ms) h = refl

pub version_settles : (k : Kind) → Settles of_model version_of_two k
version_settles k = record { inside = λ d is h. told_text of_model (λ s. s ++ codes ".0") k d h; done = version_text_done }

-- a text in lower case is in no other case
lower_twice : (s : List ℕ) → str_to_ascii_lowercase (str_to_ascii_lowercase s) ≡ str_to_ascii_lowercase s
lower_twice [] = refl
lower_twice (c ∷ cs) = ap (λ l. l ∷ str_to_ascii_lowercase (str_to_ascii_lowercase cs)) (lowercase-lowercase c) ∙ ap (λ ls. to_ascii_lowercase c ∷ ls) (lower_twice cs)

not_both : (b rest : Bool) → rest ≡ false → (not b && b) || rest ≡ false
not_both true rest h = h
not_both false rest h = h

none_other : (s : List ℕ) (ws : List (List ℕ)) → list_any (λ w. not (bytes_eq s w) && bytes_eq s w) ws ≡ false
none_other s [] = refl
none_other s (w ∷ ws) = not_both (bytes_eq s w) _ (none_other s ws)

scheme_done : (s : List ℕ) → is_other_case (words http_auth_scheme) (str_to_ascii_lowercase s) ≡ false
scheme_done s =
    ap (λ t. list_any (λ w. not (bytes_eq (str_to_ascii_lowercase s) w) && bytes_eq t (str_to_ascii_lowercase w)) (words http_auth_scheme)) (lower_twice s)
    ∙ none_other (str_to_ascii_lowercase s) (words http_auth_scheme)

scheme_text_done : (d : Data) → applies scheme_in_other_case (changed scheme_in_other_case d) ≡ false
scheme_text_done (string s) = scheme_done s
scheme_text_done null = refl
scheme_text_done (boolean b) = refl
scheme_text_done (number n) = refl
scheme_text_done (array ds) = refl
scheme_text_done (object ms) = refl

pub scheme_settles : (k : Kind) → Settles of_model scheme_in_other_case k
scheme_settles k = record { inside = λ d is h. told_text of_model str_to_ascii_lowercase k d h; done = λ d is. scheme_text_done d }

pub true_settles : (k : Kind) → Settles of_model schema_true k
true_settles k = record { inside = λ d is h. refl; done = λ d is. refl }

-- an object that has its `const` as an `enum` has one
pub enum_there : (d : Data) → has (codes "const") d ≡ true → has (codes "enum") (changed const_alone d) ≡ true
enum_there (object ms) h =
    let listed = listed_some (get_member (codes "const") ms) h in
    ap is_some (put_some_there (codes "enum") (option_map list_of_one (get_member (codes "const") ms)) (without (codes "const") ms) listed) ∙ listed
enum_there d h = h

has_none_to_lack : (name : List ℕ) (d : Data) → has name d ≡ true → lacks name d ≡ false
has_none_to_lack name (object ms) h = ap not h
has_none_to_lack name d h = refl

pub const_there : (d : Data) → applies const_alone d ≡ true → has (codes "const") d ≡ true
const_there d h = and_first (has (codes "const") d) _ (and_second (lacks (codes "enum") d) _ h)

const_done : (d : Data) → applies const_alone d ≡ true → applies const_alone (changed const_alone d) ≡ false
const_done d h =
    let after = changed const_alone d in
    ap (λ b. b && (has (codes "const") after && not (has_any beside_enum after))) (has_none_to_lack (codes "enum") after (enum_there d (const_there d h)))

const_inside : (k : Kind) → IsQuiet of_model (member_kind k (codes "enum")) → (d : Data) → told_within of_model d k ≡ [] → told_within of_model (changed const_alone d) k ≡ []
const_inside k q d h = edited_told of_model (codes "const" ∷ []) (codes "enum") (option_map list_of_one (get (codes "const") d)) d k (nothing_listed of_model (member_kind k (codes "enum")) (get (codes "const") d) q) h

pub const_settles : (k : Kind) → IsQuiet of_model (member_kind k (codes "enum")) → Settles of_model const_alone k
const_settles k q = record { inside = λ d applied h. const_inside k q d h; done = const_done }

-- ---- a rule beside another

-- what a rule does not change, it does not change after the other
abbrev pub Stays : Rule → Rule → Type 0
Stays r q = (d : Data) → applies q d ≡ true → applies r d ≡ false → applies r (changed q d) ≡ false

pub true_beside_const : Stays schema_true const_alone
true_beside_const (object ms) is h = refl
true_beside_const d is h = h

pub true_beside_items : Stays schema_true items_absent
true_beside_items d is h = true_given (codes "items") (object no_members) d ∙ h

pub or_true : (a b : Bool) → b ≡ true → a || b ≡ true
or_true true b h = refl
or_true false b h = h

pub and_not : (a b c : Bool) → c ≡ true → a && (b && not c) ≡ false
and_not false b c h = refl
and_not true false c h = refl
and_not true true c h = ap not h

pub const_beside_items : Stays const_alone items_absent
const_beside_items (object ms) is h =
    let after = object (put (codes "items") (object no_members) ms) in
    let given : has (codes "items") after ≡ true = ap is_some (get_member-put (codes "items") (object no_members) ms) in
    and_not (lacks (codes "enum") after) (has (codes "const") after) (has_any beside_enum after)
    (or_true (has (codes "oneOf") after) (has_any (codes "allOf" ∷ codes "anyOf" ∷ codes "items" ∷ []) after)
    (or_true (has (codes "allOf") after) (has_any (codes "anyOf" ∷ codes "items" ∷ []) after) (or_true (has (codes "anyOf") after) (has_any (codes "items" ∷ []) after) (ap (λ b. b || false) given))))
const_beside_items d is h = h
