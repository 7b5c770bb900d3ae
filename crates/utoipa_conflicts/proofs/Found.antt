-- The holders that are listed are those that a document has.
use Rattle.std.proofs.Common.{◌≡◌, ℕ, List, [], ◌∷◌, ◌++◌, Bool, true, false, cond, if◌then◌else◌, ◌&&◌, ◌||◌, Option, None, Some, is_some, IfSome, option_and_then, Ordering, Less, Equal, Greater, nat_cmp, codes, refl, sym, ap, ◌∙◌}
use Rattle.std.proofs.lemmas.Cmp.{nat_list_eq_equiv}
use Rattle.std.proofs.lemmas.List.Folds.{list_any-append}
use Rattle.std.proofs.lemmas.Map.Text.{is_eq-slice_cmp}
use Rattle.std.proofs.lemmas.Slice.Eq.{bytes_eq-Decides}
use Rattle.std.specs.Cmp.Lexicographic.{slice_cmp}
use Rattle.std.specs.Ordering.{match_ordering, is_eq}
use Rattle.std.specs.Str.{bytes_eq}
use Rattle.serde_json.specs.Data.{Data, null, boolean, number, string, array, object, Members, no_members, member}
use Rattle.serde_json.specs.Find.{get, get_member}
use Rattle.utoipa_base.specs.EachMember.{each_member}
use Rattle.utoipa_check.specs.Misfits.{at_name}
use Rattle.utoipa_check.specs.Places.{members_at}
use Rattle.utoipa_conflicts.specs.Conflicts.{Holder, document, component, path_entry, item_member, additional_operation, has}
use Rattle.utoipa_conflicts.specs.Holders.{component_holders, additional_holders, item_holders, path_holders, holders_at, holders, same_holder, is_among, AreApart, EachMember, IsApart, AreComponentsApart, IsMemberApart, IsItemApart, ArePathsApart}
use Rattle.utoipa_conflicts.specs.Trees.{Place, at_place}

-- ---- members by their names

abbrev any_member : (List ℕ → Data → Bool) → Members → Bool
any_member f no_members = false
any_member f (member k d ms) = f k d || any_member f ms

-- whether a tree is there, and passes a test
abbrev if_there : (Data → Bool) → Option Data → Bool
if_there P None = false
if_there P (Some d) = P d

get_at : (k : List ℕ) (d : Data) → get k d ≡ get_member k (members_at d)
get_at k null = refl
get_at k (boolean b) = refl
get_at k (number n) = refl
get_at k (string s) = refl
get_at k (array ds) = refl
get_at k (object ms) = refl

by_tie : (o : Ordering) (x y : Option Data) → match_ordering o x y x ≡ cond (is_eq o) y x
by_tie Less x y = refl
by_tie Equal x y = refl
by_tie Greater x y = refl

-- the first member, or one of the others
pub get_first : (n k : List ℕ) (d : Data) (ms : Members) → get_member n (member k d ms) ≡ cond (bytes_eq n k) (Some d) (get_member n ms)
get_first n k d ms = by_tie (slice_cmp nat_cmp n k) (get_member n ms) (Some d) ∙ ap (λ b. cond b (Some d) (get_member n ms)) (is_eq-slice_cmp n k)

or_false : (b : Bool) → b || false ≡ b
or_false true = refl
or_false false = refl

or_and : (b : Bool) → b || false ≡ (b && true)
or_and true = refl
or_and false = refl

there : (o : Option Data) → if_there (λ d. true) o ≡ is_some o
there None = refl
there (Some d) = refl

-- a member under a name passes a test where what is found under the name does
found_at : (b : Bool) (n k : List ℕ) (P : Data → Bool) (d : Data) (ms : Members) → bytes_eq n k ≡ b → get_member k ms ≡ None → any_member (λ l e. bytes_eq n l && P e) ms ≡ if_there P (get_member n ms)
    → b && P d || any_member (λ l e. bytes_eq n l && P e) ms ≡ if_there P (cond b (Some d) (get_member n ms))
found_at true n k P d ms is none h =
    let same : n ≡ k = (bytes_eq-Decides n k).0 is in
    ap (λ b. P d || b) (h ∙ ap (λ q. if_there P (get_member q ms)) same ∙ ap (if_there P) none) ∙ or_false (P d)
found_at false n k P d ms is none h = h

found_get : (n : List ℕ) (P : Data → Bool) (ms : Members) → AreApart ms → any_member (λ k d. bytes_eq n k && P d) ms ≡ if_there P (get_member n ms)
found_get n P no_members h = refl
found_get n P (member k d ms) h = found_at (bytes_eq n k) n k P d ms refl h.0 (found_get n P ms h.1) ∙ ap (if_there P) (sym (get_first n k d ms))

-- tests that agree at each member
any_same : (f g : List ℕ → Data → Bool) (P : List ℕ → Data → Type 0) → ((k : List ℕ) (d : Data) → P k d → f k d ≡ g k d) → (ms : Members) → EachMember P ms → any_member f ms ≡ any_member g ms
any_same f g P e no_members h = refl
any_same f g P e (member k d ms) h = ap (λ b. b || any_member f ms) (e k d h.0) ∙ ap (λ b. g k d || b) (any_same f g P e ms h.1)

-- the same, whatever the members
any_same_everywhere : (f g : List ℕ → Data → Bool) → ((k : List ℕ) (d : Data) → f k d ≡ g k d) → (ms : Members) → any_member f ms ≡ any_member g ms
any_same_everywhere f g e no_members = refl
any_same_everywhere f g e (member k d ms) = ap (λ b. b || any_member f ms) (e k d) ∙ ap (λ b. g k d || b) (any_same_everywhere f g e ms)

none_passes : (f : List ℕ → Data → Bool) → ((k : List ℕ) (d : Data) → f k d ≡ false) → (ms : Members) → any_member f ms ≡ false
none_passes f e no_members = refl
none_passes f e (member k d ms) = ap (λ b. b || any_member f ms) (e k d) ∙ none_passes f e ms

-- ---- holders that are listed for each member

among_each : (h : Holder) (f : List ℕ → Data → List Holder) (ms : Members) → is_among h (each_member f ms) ≡ any_member (λ k d. is_among h (f k d)) ms
among_each h f no_members = refl
among_each h f (member k d ms) = list_any-append (same_holder h) (f k d) (each_member f ms) ∙ ap (λ b. is_among h (f k d) || b) (among_each h f ms)

none_among : (h : Holder) (f : List ℕ → Data → List Holder) → ((k : List ℕ) (d : Data) → is_among h (f k d) ≡ false) → (ms : Members) → is_among h (each_member f ms) ≡ false
none_among h f e ms = among_each h f ms ∙ none_passes (λ k d. is_among h (f k d)) e ms

-- ---- the tests of one entry

-- of the entries of a map that is the right one or another, one has the name
right_entry : (b : Bool) (name : List ℕ) (ms : Members) → AreApart ms → any_member (λ n e. b && bytes_eq name n || false) ms ≡ (b && is_some (get_member name ms))
right_entry true name ms h = any_same_everywhere (λ n e. bytes_eq name n || false) (λ n e. bytes_eq name n && true) (λ n e. or_and (bytes_eq name n)) ms ∙ found_get name (λ e. true) ms h ∙ there (get_member name ms)
right_entry false name ms h = none_passes (λ n e. false) (λ n e. refl) ms

-- a test that is the same for every tree
if_both : (b : Bool) (P : Data → Bool) (o : Option Data) → if_there (λ d. b && P d) o ≡ (b && if_there P o)
if_both true P o = refl
if_both false P None = refl
if_both false P (Some d) = refl

-- a tree is there where the steps lead on from what is found
leads_on : (ss : Place) (P : Data → Bool) → ((d : Data) → P d ≡ is_some (at_place ss d)) → (o : Option Data) → if_there P o ≡ is_some (option_and_then (at_place ss) o)
leads_on ss P e None = refl
leads_on ss P e (Some d) = e d

-- the end of the steps
ends : (o : Option Data) → is_some o ≡ is_some (option_and_then (at_place []) o)
ends None = refl
ends (Some x) = refl

-- what stands under a name
one_step : (name : List ℕ) (d : Data) → is_some (get_member name (members_at d)) ≡ is_some (at_place (at_name name ∷ []) d)
one_step name d = ap is_some (sym (get_at name d)) ∙ ends (get name d)

-- ---- each holder

-- where the entries of a map are looked for by a test of each entry
at_entry : (h : Holder) (f : List ℕ → Data → List Holder) (first : List ℕ) (ss : Place) (P : List ℕ → Data → Type 0) (Q : Data → Bool) → ((k : List ℕ) (d : Data) → P k d → is_among h (f k d) ≡ (bytes_eq first k && Q d))
    → ((d : Data) → Q d ≡ is_some (at_place ss d)) → (o : Option Data) → IfSome o (λ d. AreApart (members_at d) × EachMember P (members_at d))
    → is_among h (holders_at f o) ≡ is_some (option_and_then (at_place (at_name first ∷ ss)) o)
at_entry h f first ss P Q one leads None apart = refl
at_entry h f first ss P Q one leads (Some d) apart =
    among_each h f (members_at d) ∙ any_same (λ k e. is_among h (f k e)) (λ k e. bytes_eq first k && Q e) P one (members_at d) apart.1 ∙ found_get first Q (members_at d) apart.0 ∙ ap (if_there Q) (sym (get_at first d))
    ∙ leads_on ss Q leads (get first d)

-- none of a kind that is not listed
elsewhere : (h : Holder) (f : List ℕ → Data → List Holder) → ((k : List ℕ) (d : Data) → is_among h (f k d) ≡ false) → (o : Option Data) → is_among h (holders_at f o) ≡ false
elsewhere h f none None = refl
elsewhere h f none (Some d) = none_among h f none (members_at d)

-- no entry of `additionalOperations` is another kind of holder
none_of_more : (h : Holder) (b : Bool) (path : List ℕ) (d : Data) → ((n : List ℕ) → same_holder h (additional_operation path n) ≡ false) → is_among h (if b then additional_holders path d else []) ≡ false
none_of_more h true path d none = none_among h (λ n e. additional_operation path n ∷ []) (λ n e. ap (λ b. b || false) (none n)) (members_at d)
none_of_more h false path d none = refl

-- of a component none is an entry of `paths`, nor what that has
no_path : (kind name path : List ℕ) (d : Data) → is_among (component kind name) (path_holders path d) ≡ false
no_path kind name path d =
    none_among (component kind name) (item_holders path) (λ n e. none_of_more (component kind name) (bytes_eq n (codes "additionalOperations")) path e (λ m. refl)) (members_at d)

component_found : (kind name k : List ℕ) (d : Data) → IsApart k d → is_among (component kind name) (component_holders k d) ≡ (bytes_eq kind k && is_some (get_member name (members_at d)))
component_found kind name k d apart = among_each (component kind name) (λ n e. component k n ∷ []) (members_at d) ∙ right_entry (bytes_eq kind k) name (members_at d) apart

entry_found : (path k : List ℕ) (d : Data) → IsItemApart k d → is_among (path_entry path) (path_holders k d) ≡ (bytes_eq path k && true)
entry_found path k d apart =
    ap (λ b. bytes_eq path k || b)
    (none_among (path_entry path) (item_holders k) (λ n e. none_of_more (path_entry path) (bytes_eq n (codes "additionalOperations")) k e (λ m. refl)) (members_at d))
    ∙ or_and (bytes_eq path k)

member_found : (path name k : List ℕ) (d : Data) → IsItemApart k d → is_among (item_member path name) (path_holders k d) ≡ (bytes_eq path k && is_some (get_member name (members_at d)))
member_found path name k d apart =
    among_each (item_member path name) (item_holders k) (members_at d)
    ∙ any_same_everywhere (λ n e. is_among (item_member path name) (item_holders k n e)) (λ n e. bytes_eq path k && bytes_eq name n || false)
    (λ n e. ap (λ b. bytes_eq path k && bytes_eq name n || b) (none_of_more (item_member path name) (bytes_eq n (codes "additionalOperations")) k e (λ m. refl))) (members_at d)
    ∙ right_entry (bytes_eq path k) name (members_at d) apart.0

more_found : (b : Bool) (path name k : List ℕ) (d : Data) → (b ≡ true → AreApart (members_at d)) → is_among (additional_operation path name) (if b then additional_holders k d else []) ≡ (b && (bytes_eq path k && is_some (get_member name (members_at d))))
more_found true path name k d apart = among_each (additional_operation path name) (λ n e. additional_operation k n ∷ []) (members_at d) ∙ right_entry (bytes_eq path k) name (members_at d) (apart refl)
more_found false path name k d apart = refl

additional_found : (path name k : List ℕ) (d : Data) → IsItemApart k d
    → is_among (additional_operation path name) (path_holders k d) ≡ (bytes_eq path k && if_there (λ e. is_some (get_member name (members_at e))) (get_member (codes "additionalOperations") (members_at d)))
additional_found path name k d apart =
    let more = codes "additionalOperations" in
    let Q : Data → Bool = λ e. is_some (get_member name (members_at e)) in
    among_each (additional_operation path name) (item_holders k) (members_at d)
    ∙ any_same (λ n e. is_among (additional_operation path name) (item_holders k n e)) (λ n e. bytes_eq more n && (bytes_eq path k && Q e)) IsMemberApart
    (λ n e h. more_found (bytes_eq n more) path name k e h ∙ ap (λ b. b && (bytes_eq path k && Q e)) (nat_list_eq_equiv.symm n more)) (members_at d) apart.1
    ∙ found_get more (λ e. bytes_eq path k && Q e) (members_at d) apart.0 ∙ if_both (bytes_eq path k) Q (get_member more (members_at d))

additional_leads : (name : List ℕ) (d : Data)
    → if_there (λ e. is_some (get_member name (members_at e))) (get_member (codes "additionalOperations") (members_at d)) ≡ is_some (at_place (at_name (codes "additionalOperations") ∷ at_name name ∷ []) d)
additional_leads name d =
    let Q : Data → Bool = λ e. is_some (get_member name (members_at e)) in
    ap (if_there Q) (sym (get_at (codes "additionalOperations") d)) ∙ leads_on (at_name name ∷ []) Q (one_step name) (get (codes "additionalOperations") d)

-- ---- all holders

-- whether a holder is among those of components, or else of `paths`
among_both : (h : Holder) (d : Data)
    → is_among h (holders_at component_holders (get (codes "components") d) ++ holders_at path_holders (get (codes "paths") d))
    ≡ (is_among h (holders_at component_holders (get (codes "components") d)) || is_among h (holders_at path_holders (get (codes "paths") d)))
among_both h d = list_any-append (same_holder h) (holders_at component_holders (get (codes "components") d)) (holders_at path_holders (get (codes "paths") d))

-- of `paths` alone
among_paths : (h : Holder) (d : Data) → ((kind name : List ℕ) → same_holder h (component kind name) ≡ false)
    → is_among h (holders_at component_holders (get (codes "components") d) ++ holders_at path_holders (get (codes "paths") d)) ≡ is_among h (holders_at path_holders (get (codes "paths") d))
among_paths h d none =
    among_both h d
    ∙ ap (λ b. b || is_among h (holders_at path_holders (get (codes "paths") d)))
    (elsewhere h component_holders (λ k e. none_among h (λ n x. component k n ∷ []) (λ n x. ap (λ b. b || false) (none k n)) (members_at e)) (get (codes "components") d))

-- the holders that are listed are those that the tree has
pub all_found : (d : Data) → IfSome (get (codes "components") d) AreComponentsApart → IfSome (get (codes "paths") d) ArePathsApart → (h : Holder) → is_among h (holders d) ≡ has h d
all_found d ca pa document = refl
all_found d ca pa (component kind name) =
    among_both (component kind name) d
    ∙ ap (λ b. is_among (component kind name) (holders_at component_holders (get (codes "components") d)) || b) (elsewhere (component kind name) path_holders (no_path kind name) (get (codes "paths") d))
    ∙ or_false (is_among (component kind name) (holders_at component_holders (get (codes "components") d)))
    ∙ at_entry (component kind name) component_holders kind (at_name name ∷ []) IsApart (λ e. is_some (get_member name (members_at e))) (component_found kind name) (one_step name) (get (codes "components") d) ca
all_found d ca pa (path_entry path) =
    among_paths (path_entry path) d (λ k n. refl) ∙ at_entry (path_entry path) path_holders path [] IsItemApart (λ e. true) (entry_found path) (λ e. refl) (get (codes "paths") d) pa
all_found d ca pa (item_member path name) =
    among_paths (item_member path name) d (λ k n. refl)
    ∙ at_entry (item_member path name) path_holders path (at_name name ∷ []) IsItemApart (λ e. is_some (get_member name (members_at e))) (member_found path name) (one_step name) (get (codes "paths") d) pa
all_found d ca pa (additional_operation path name) =
    among_paths (additional_operation path name) d (λ k n. refl)
    ∙ at_entry (additional_operation path name) path_holders path (at_name (codes "additionalOperations") ∷ at_name name ∷ []) IsItemApart
    (λ e. if_there (λ x. is_some (get_member name (members_at x))) (get_member (codes "additionalOperations") (members_at e))) (additional_found path name) (additional_leads name) (get (codes "paths") d) pa
