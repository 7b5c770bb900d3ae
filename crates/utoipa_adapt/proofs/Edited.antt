-- Objects in which members are taken away and put: what stands under a name, and that nothing comes to be changed inside.
use Rattle.std.proofs.Common.{◌≡◌, ◌∙◌, refl, sym, ap, ℕ, List, [], ◌∷◌, Bool, true, false, ◌||◌, Option, None, Some, is_some, nat_cmp, Ordering, Less, Equal, Greater, true≢false}
use Rattle.std.proofs.lemmas.Map.Text.{is_eq-slice_cmp}
use Rattle.std.proofs.lemmas.Slice.Eq.{bytes_eq-Decides}
use Rattle.std.specs.Cmp.Lexicographic.{slice_cmp}
use Rattle.std.specs.List.{list_any}
use Rattle.std.specs.Ordering.{is_eq, match_ordering}
use Rattle.std.specs.Str.{bytes_eq}
use Rattle.serde_json.specs.Data.{Data, null, boolean, number, string, array, object, Members, no_members, member, put}
use Rattle.serde_json.specs.Find.{get, get_member}
use Rattle.serde_json.proofs.Views.{get_member-put, get_member-put_other}
use Rattle.utoipa_base.proofs.BoolFacts.{apart, or_first, or_second}
use Rattle.utoipa_base.specs.Kinds.{Kind}
use Rattle.utoipa_check.specs.Misfits.{at_name}
use Rattle.utoipa_adapt.specs.Adapted.{member_kind, under, told_within, members_told, changes}
use Rattle.utoipa_adapt.specs.Rules.{RuleSet}
use Rattle.utoipa_adapt.specs.Trees.{without, without_all, put_some, edited}
use Rattle.utoipa_adapt.proofs.Same.{first_empty, second_empty, both_empty, under_empty}

pub same_name : (name l : List ℕ) → slice_cmp nat_cmp name l ≡ Equal → name ≡ l
same_name name l is = (bytes_eq-Decides name l).0 (sym (is_eq-slice_cmp name l) ∙ ap is_eq is)

-- ---- what stands under a name

skip_at : (o : Ordering) (q l : List ℕ) (a b : Option Data) → slice_cmp nat_cmp q l ≡ o → (q ≡ l → ⊥) → match_ordering o a b a ≡ a
skip_at Less q l a b is other = refl
skip_at Equal q l a b is other = absurd (other (same_name q l is))
skip_at Greater q l a b is other = refl

without_other_at : (o : Ordering) (q name l : List ℕ) (d : Data) (ms : Members) → slice_cmp nat_cmp name l ≡ o → (q ≡ name → ⊥) → get_member q (without name ms) ≡ get_member q ms
    → get_member q (match_ordering o (member l d (without name ms)) (without name ms) (member l d (without name ms))) ≡ get_member q (member l d ms)
without_other_at Less q name l d ms is other later = ap (λ r. match_ordering (slice_cmp nat_cmp q l) r (Some d) r) later
without_other_at Equal q name l d ms is other later = later ∙ sym (skip_at (slice_cmp nat_cmp q l) q l (get_member q ms) (Some d) refl (λ h. other (h ∙ sym (same_name name l is))))
without_other_at Greater q name l d ms is other later = ap (λ r. match_ordering (slice_cmp nat_cmp q l) r (Some d) r) later

-- the other names keep their values
without_other : (q name : List ℕ) (ms : Members) → (q ≡ name → ⊥) → get_member q (without name ms) ≡ get_member q ms
without_other q name no_members other = refl
without_other q name (member l d ms) other = without_other_at (slice_cmp nat_cmp name l) q name l d ms refl other (without_other q name ms other)

without_gone_at : (o : Ordering) (name l : List ℕ) (d : Data) (less : Members) → slice_cmp nat_cmp name l ≡ o → get_member name less ≡ None → get_member name (match_ordering o (member l d less) less (member l d less)) ≡ None
without_gone_at Less name l d less is later = rw is later
without_gone_at Equal name l d less is later = later
without_gone_at Greater name l d less is later = rw is later

-- the name itself is gone
without_gone : (name : List ℕ) (ms : Members) → get_member name (without name ms) ≡ None
without_gone name no_members = refl
without_gone name (member l d ms) = without_gone_at (slice_cmp nat_cmp name l) name l d (without name ms) refl (without_gone name ms)

none_stays : (b : Bool) (q name : List ℕ) (ms : Members) → bytes_eq q name ≡ b → get_member q ms ≡ None → get_member q (without name ms) ≡ None
none_stays true q name ms is h = ap (λ n. get_member q (without n ms)) (sym ((bytes_eq-Decides q name).0 is)) ∙ without_gone q ms
none_stays false q name ms is h = without_other q name ms (apart q name is) ∙ h

none_left : (q : List ℕ) (names : List (List ℕ)) (ms : Members) → get_member q ms ≡ None → get_member q (without_all names ms) ≡ None
none_left q [] ms h = h
none_left q (name ∷ names) ms h = none_left q names (without name ms) (none_stays (bytes_eq q name) q name ms refl h)

all_gone_at : (b : Bool) (q name : List ℕ) (names : List (List ℕ)) (ms : Members) → bytes_eq q name ≡ b → b || list_any (bytes_eq q) names ≡ true → (list_any (bytes_eq q) names ≡ true → get_member q (without_all names (without name ms)) ≡ None)
    → get_member q (without_all names (without name ms)) ≡ None
all_gone_at true q name names ms is h later =
    none_left q names (without name ms) (ap (λ n. get_member q (without n ms)) (sym ((bytes_eq-Decides q name).0 is)) ∙ without_gone q ms)
all_gone_at false q name names ms is h later = later h

all_gone : (q : List ℕ) (names : List (List ℕ)) (ms : Members) → list_any (bytes_eq q) names ≡ true → get_member q (without_all names ms) ≡ None
all_gone q [] ms h = absurd (true≢false (sym h))
all_gone q (name ∷ names) ms h = all_gone_at (bytes_eq q name) q name names ms refl h (all_gone q names (without name ms))

pub all_other : (q : List ℕ) (names : List (List ℕ)) (ms : Members) → list_any (bytes_eq q) names ≡ false → get_member q (without_all names ms) ≡ get_member q ms
all_other q [] ms h = refl
all_other q (name ∷ names) ms h =
    all_other q names (without name ms) (or_second (bytes_eq q name) _ h) ∙ without_other q name ms (apart q name (or_first (bytes_eq q name) _ h))

put_some_other : (q name : List ℕ) (v : Option Data) (ms : Members) → bytes_eq q name ≡ false → get_member q (put_some name v ms) ≡ get_member q ms
put_some_other q name None ms h = refl
put_some_other q name (Some v) ms h = get_member-put_other q name v ms (apart q name h)

-- in an edited object the other names keep their values
pub edited_other : (q : List ℕ) (names : List (List ℕ)) (name : List ℕ) (v : Option Data) (d : Data) → list_any (bytes_eq q) (name ∷ names) ≡ false → get q (edited names name v d) ≡ get q d
edited_other q names name v (object ms) h =
    put_some_other q name v (without_all names ms) (or_first (bytes_eq q name) _ h) ∙ all_other q names ms (or_second (bytes_eq q name) _ h)
edited_other q names name v null h = refl
edited_other q names name v (boolean b) h = refl
edited_other q names name v (number n) h = refl
edited_other q names name v (string s) h = refl
edited_other q names name v (array ds) h = refl

-- those that were taken away are gone
pub edited_gone : (q : List ℕ) (names : List (List ℕ)) (name : List ℕ) (v : Option Data) (d : Data) → list_any (bytes_eq q) names ≡ true → bytes_eq q name ≡ false → get q (edited names name v d) ≡ None
edited_gone q names name v (object ms) h other = put_some_other q name v (without_all names ms) other ∙ all_gone q names ms h
edited_gone q names name v null h other = refl
edited_gone q names name v (boolean b) h other = refl
edited_gone q names name v (number n) h other = refl
edited_gone q names name v (string s) h other = refl
edited_gone q names name v (array ds) h other = refl

-- where nothing is put, each of them is
pub taken_gone : (q : List ℕ) (names : List (List ℕ)) (name : List ℕ) (d : Data) → list_any (bytes_eq q) names ≡ true → get q (edited names name None d) ≡ None
taken_gone q names name (object ms) h = all_gone q names ms h
taken_gone q names name null h = refl
taken_gone q names name (boolean b) h = refl
taken_gone q names name (number n) h = refl
taken_gone q names name (string s) h = refl
taken_gone q names name (array ds) h = refl

-- what was put is there, and nothing where nothing was
pub edited_there : (names : List (List ℕ)) (name : List ℕ) (v : Option Data) (ms : Members) → list_any (bytes_eq name) names ≡ true → get name (edited names name v (object ms)) ≡ v
edited_there names name None ms h = all_gone name names ms h
edited_there names name (Some v) ms h = get_member-put name v (without_all names ms)

pub put_some_there : (name : List ℕ) (v : Option Data) (ms : Members) → is_some v ≡ true → get_member name (put_some name v ms) ≡ v
put_some_there name None ms h = absurd (true≢false (sym h))
put_some_there name (Some v) ms h = get_member-put name v ms

-- ---- what is changed inside

put_told_at : (set : RuleSet) (o : Ordering) (name l : List ℕ) (v d : Data) (ms : Members) (k : Kind) → slice_cmp nat_cmp name l ≡ o → changes set (member_kind k name) v ≡ [] → under (at_name l) (changes set (member_kind k l) d) ≡ []
    → members_told set ms k ≡ [] → members_told set (put name v ms) k ≡ [] → members_told set (match_ordering o (member name v (member l d ms)) (member l v ms) (member l d (put name v ms))) k ≡ []
put_told_at set Less name l v d ms k is new at rest later = both_empty _ _ (ap (under (at_name name)) new) (both_empty _ _ at rest)
put_told_at set Equal name l v d ms k is new at rest later = both_empty _ _ (ap (under (at_name l)) (ap (λ n. changes set (member_kind k n) v) (sym (same_name name l is)) ∙ new)) rest
put_told_at set Greater name l v d ms k is new at rest later = both_empty _ _ at later

pub put_told : (set : RuleSet) (name : List ℕ) (v : Data) (ms : Members) (k : Kind) → changes set (member_kind k name) v ≡ [] → members_told set ms k ≡ [] → members_told set (put name v ms) k ≡ []
put_told set name v no_members k new h = both_empty _ _ (ap (under (at_name name)) new) refl
put_told set name v (member l d ms) k new h =
    let at = under (at_name l) (changes set (member_kind k l) d) in
    let rest = second_empty at _ h in
    put_told_at set _ name l v d ms k refl new (first_empty at _ h) rest (put_told set name v ms k new rest)

without_told_at : (set : RuleSet) (o : Ordering) (l : List ℕ) (d : Data) (less : Members) (k : Kind) → under (at_name l) (changes set (member_kind k l) d) ≡ [] → members_told set less k ≡ []
    → members_told set (match_ordering o (member l d less) less (member l d less)) k ≡ []
without_told_at set Less l d less k at h = both_empty _ _ at h
without_told_at set Equal l d less k at h = h
without_told_at set Greater l d less k at h = both_empty _ _ at h

without_told : (set : RuleSet) (name : List ℕ) (ms : Members) (k : Kind) → members_told set ms k ≡ [] → members_told set (without name ms) k ≡ []
without_told set name no_members k h = refl
without_told set name (member l d ms) k h =
    let at = under (at_name l) (changes set (member_kind k l) d) in
    without_told_at set (slice_cmp nat_cmp name l) l d (without name ms) k (first_empty at _ h) (without_told set name ms k (second_empty at _ h))

all_told_without : (set : RuleSet) (names : List (List ℕ)) (ms : Members) (k : Kind) → members_told set ms k ≡ [] → members_told set (without_all names ms) k ≡ []
all_told_without set [] ms k h = h
all_told_without set (name ∷ names) ms k h = all_told_without set names (without name ms) k (without_told set name ms k h)

-- of a value that may be absent
abbrev pub NothingIn : RuleSet → Kind → Option Data → Type 0
NothingIn set k None = Unit
NothingIn set k (Some v) = changes set k v ≡ []

pub put_some_told : (set : RuleSet) (name : List ℕ) (v : Option Data) (ms : Members) (k : Kind) → NothingIn set (member_kind k name) v → members_told set ms k ≡ [] → members_told set (put_some name v ms) k ≡ []
put_some_told set name None ms k new h = h
put_some_told set name (Some v) ms k new h = put_told set name v ms k new h

pub edited_told : (set : RuleSet) (names : List (List ℕ)) (name : List ℕ) (v : Option Data) (d : Data) (k : Kind) → NothingIn set (member_kind k name) v → told_within set d k ≡ [] → told_within set (edited names name v d) k ≡ []
edited_told set names name v (object ms) k new h = put_some_told set name v (without_all names ms) k new (all_told_without set names ms k h)
edited_told set names name v null k new h = h
edited_told set names name v (boolean b) k new h = h
edited_told set names name v (number n) k new h = h
edited_told set names name v (string s) k new h = h
edited_told set names name v (array ds) k new h = h

member_told_at : (set : RuleSet) (o : Ordering) (name l : List ℕ) (d : Data) (rest : Option Data) (k : Kind) → slice_cmp nat_cmp name l ≡ o → changes set (member_kind k l) d ≡ [] → NothingIn set (member_kind k name) rest
    → NothingIn set (member_kind k name) (match_ordering o rest (Some d) rest)
member_told_at set Less name l d rest k is here later = later
member_told_at set Equal name l d rest k is here later = ap (λ n. changes set (member_kind k n) d) (same_name name l is) ∙ here
member_told_at set Greater name l d rest k is here later = later

in_members : (set : RuleSet) (name : List ℕ) (ms : Members) (k : Kind) → members_told set ms k ≡ [] → NothingIn set (member_kind k name) (get_member name ms)
in_members set name no_members k h = tt
in_members set name (member l d ms) k h =
    let at = under (at_name l) (changes set (member_kind k l) d) in
    member_told_at set _ name l d (get_member name ms) k refl (under_empty (at_name l) _ (first_empty at _ h)) (in_members set name ms k (second_empty at _ h))

-- nothing is changed in a member of a tree in which nothing is
pub member_told : (set : RuleSet) (name : List ℕ) (d : Data) (k : Kind) → told_within set d k ≡ [] → NothingIn set (member_kind k name) (get name d)
member_told set name (object ms) k h = in_members set name ms k h
member_told set name null k h = tt
member_told set name (boolean b) k h = tt
member_told set name (number n) k h = tt
member_told set name (string s) k h = tt
member_told set name (array ds) k h = tt
