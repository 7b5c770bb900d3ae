-- In the tree that a set of rules made the set changes nothing.
use Rattle.std.proofs.Common.{◌≡◌, ◌∙◌, refl, sym, ap, ℕ, suc, List, [], ◌++◌, Bool, true, false, if◌then◌else◌, Option, None, Some, option_map, is_some, codes, nat_cmp, Ordering, Less, Equal, Greater}
use Rattle.std.specs.Cmp.Lexicographic.{slice_cmp}
use Rattle.std.specs.Ordering.{match_ordering}
use Rattle.serde_json.specs.Data.{Data, null, boolean, number, string, array, object, Items, no_items, item, Members, no_members, member}
use Rattle.serde_json.specs.Find.{get, get_member}
use Rattle.utoipa_base.specs.Kinds.{http_scheme, Kind, any, named, security_scheme}
use Rattle.utoipa_check.specs.Misfits.{at_name, at_index}
use Rattle.utoipa_adapt.specs.Adapted.{taken_kind, scheme_kind, own_kind, item_kind, member_kind, ruled, within, made_items, made_members, made, under, told_here, told_within, items_told, members_told, changes}
use Rattle.utoipa_adapt.specs.Rules.{RuleSet, of_model, of_upgrade, rules_in}
use Rattle.utoipa_adapt.specs.Trees.{has, text_is, says}
use Rattle.utoipa_adapt.proofs.Edited.{same_name}
use Rattle.utoipa_adapt.proofs.Lawful.{lawful, rules_settle, reference_kept}
use Rattle.utoipa_adapt.proofs.Same.{IsQuiet, both_empty, made_same, made_any, made_quiet}

-- ---- members, each made

member_at : (set : RuleSet) (o : Ordering) (k : Kind) (name l : List ℕ) (d : Data) (a b : Option Data) → slice_cmp nat_cmp name l ≡ o → a ≡ option_map (made set (member_kind k name)) b
    → match_ordering o a (Some (made set (member_kind k l) d)) a ≡ option_map (made set (member_kind k name)) (match_ordering o b (Some d) b)
member_at set Less k name l d a b is later = later
member_at set Equal k name l d a b is later = ap (λ n. Some (made set (member_kind k n) d)) (sym (same_name name l is))
member_at set Greater k name l d a b is later = later

get_made : (set : RuleSet) (name : List ℕ) (ms : Members) (k : Kind) → get_member name (made_members set ms k) ≡ option_map (made set (member_kind k name)) (get_member name ms)
get_made set name no_members k = refl
get_made set name (member l d ms) k = member_at set (slice_cmp nat_cmp name l) k name l d _ _ refl (get_made set name ms k)

-- the member of a name is what the rules made of it
pub get_within : (set : RuleSet) (name : List ℕ) (d : Data) (k : Kind) → get name (within set d k) ≡ option_map (made set (member_kind k name)) (get name d)
get_within set name (object ms) k = get_made set name ms k
get_within set name null k = refl
get_within set name (boolean b) k = refl
get_within set name (number n) k = refl
get_within set name (string s) k = refl
get_within set name (array ds) k = refl

some_mapped : (f : Data → Data) (o : Option Data) → is_some (option_map f o) ≡ is_some o
some_mapped f None = refl
some_mapped f (Some d) = refl

pub has_within : (set : RuleSet) (name : List ℕ) (d : Data) (k : Kind) → has name (within set d k) ≡ has name d
has_within set name d k = ap is_some (get_within set name d k) ∙ some_mapped (made set (member_kind k name)) (get name d)

same_mapped : (set : RuleSet) (k : Kind) (o : Option Data) → ((d : Data) → made set k d ≡ d) → option_map (made set k) o ≡ o
same_mapped set k None is = refl
same_mapped set k (Some d) is = ap Some (is d)

-- a member in which nothing is looked at stays as it is
pub get_quiet : (set : RuleSet) (name : List ℕ) (d : Data) (k : Kind) → IsQuiet set (member_kind k name) → get name (within set d k) ≡ get name d
get_quiet set name d k q = get_within set name d k ∙ same_mapped set (member_kind k name) (get name d) (λ e. made_quiet set (member_kind k name) e q)

-- a member that is left as it is says what it said
says_within : (set : RuleSet) (name word : List ℕ) (d : Data) (k : Kind) → member_kind k name ≡ any → says name word (within set d k) ≡ says name word d
says_within set name word d k is =
    ap (text_is word) (get_within set name d k ∙ same_mapped set (member_kind k name) (get name d) (λ e. ap (λ j. made set j e) is ∙ made_any set e))

-- ---- what a tree is looked at as stays

-- a security scheme has no rule of its own, whatever its type
scheme_stays : (set : RuleSet) (b : Bool) (d : Data) → says (codes "type") (codes "http") (ruled set (if b then named http_scheme else any) (within set d (if b then named http_scheme else any))) ≡ says (codes "type") (codes "http") d
scheme_stays of_model true d = says_within of_model (codes "type") (codes "http") d (named http_scheme) refl
scheme_stays of_model false d = says_within of_model (codes "type") (codes "http") d any refl
scheme_stays of_upgrade true d = says_within of_upgrade (codes "type") (codes "http") d (named http_scheme) refl
scheme_stays of_upgrade false d = says_within of_upgrade (codes "type") (codes "http") d any refl

scheme_kept : (set : RuleSet) (k : Kind) (d : Data) → scheme_kind k (ruled set (scheme_kind k d) (within set d (scheme_kind k d))) ≡ scheme_kind k d
scheme_kept set security_scheme d = ap (λ b. if b then named http_scheme else any) (scheme_stays set (says (codes "type") (codes "http") d) d)
scheme_kept set k d = refl

-- what is a reference stays one, and what is none is none
pub reference_made : (set : RuleSet) (k : Kind) (d : Data) → has (codes "$ref") (made set k d) ≡ has (codes "$ref") d
reference_made set k d =
    let own = own_kind set k d in
    reference_kept (rules_in set own) (within set d own) ∙ has_within set (codes "$ref") d own

own_kept : (set : RuleSet) (k : Kind) (d : Data) → own_kind set k (made set k d) ≡ own_kind set k d
own_kept set k d = ap (λ b. scheme_kind (taken_kind set b k) (made set k d)) (reference_made set k d) ∙ scheme_kept set (taken_kind set (has (codes "$ref") d) k) d

-- ---- a tree that was made

-- by what stands in it
tree_settled : (set : RuleSet) (d : Data) (k : Kind) → told_within set (within set d (own_kind set k d)) (own_kind set k d) ≡ [] → changes set k (made set k d) ≡ []
tree_settled set d k inner =
    let own = own_kind set k d in
    let after = ruled set own (within set d own) in
    let settled = rules_settle set (rules_in set own) own (within set d own) (lawful set own) inner in
    ap (λ j. told_within set after j ++ told_here (rules_in set j) after) (own_kept set k d) ∙ both_empty (told_within set after own) (told_here (rules_in set own) after) settled.0 settled.1

mutual
  within_settled : (set : RuleSet) (d : Data) (k : Kind) → told_within set (within set d k) k ≡ []
  within_settled set null k = refl
  within_settled set (boolean b) k = refl
  within_settled set (number n) k = refl
  within_settled set (string s) k = refl
  within_settled set (array ds) k = items_settled set 0 ds (item_kind k)
  within_settled set (object ms) k = members_settled set ms k

  items_settled : (set : RuleSet) (i : ℕ) (ds : Items) (k : Kind) → items_told set i (made_items set ds k) k ≡ []
  items_settled set i no_items k = refl
  items_settled set i (item d ds) k = both_empty _ _ (ap (under (at_index i)) (tree_settled set d k (within_settled set d (own_kind set k d)))) (items_settled set (suc i) ds k)

  members_settled : (set : RuleSet) (ms : Members) (k : Kind) → members_told set (made_members set ms k) k ≡ []
  members_settled set no_members k = refl
  members_settled set (member name d ms) k =
      both_empty _ _ (ap (under (at_name name)) (tree_settled set d (member_kind k name) (within_settled set d (own_kind set (member_kind k name) d)))) (members_settled set ms k)

pub made_settled : (set : RuleSet) (d : Data) (k : Kind) → changes set k (made set k d) ≡ []
made_settled set d k = tree_settled set d k (within_settled set d (own_kind set k d))

pub made_once : (set : RuleSet) (d : Data) (k : Kind) → made set k (made set k d) ≡ made set k d
made_once set d k = made_same set (made set k d) k (made_settled set d k)
