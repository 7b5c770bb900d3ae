-- A tree in which a set of rules changes nothing is what the set makes of it; as `any` nothing is changed.
use Rattle.std.proofs.Common.{◌≡◌, ◌∙◌, refl, ap, ℕ, suc, List, [], ◌∷◌, ◌++◌, Bool, true, false, if◌then◌else◌}
use Rattle.serde_json.specs.Data.{Data, null, boolean, number, string, array, object, Items, no_items, item, Members, no_members, member}
use Rattle.utoipa_base.specs.Kinds.{Kind, any}
use Rattle.utoipa_check.specs.Misfits.{Step, at_name, at_index}
use Rattle.utoipa_adapt.specs.Adapted.{own_kind, item_kind, member_kind, ruled, within, made_items, made_members, made, Told, under, told_here, told_within, items_told, members_told, changes}
use Rattle.utoipa_adapt.specs.Rules.{RuleSet, of_model, of_upgrade, Rule, applies, changed, by_rules, rules_in}

-- ---- lists

pub first_empty : {A : Type 0} (xs ys : List A) → xs ++ ys ≡ [] → xs ≡ []
first_empty [] ys h = refl
first_empty (x ∷ xs) ys h = cc

pub second_empty : {A : Type 0} (xs ys : List A) → xs ++ ys ≡ [] → ys ≡ []
second_empty [] ys h = h
second_empty (x ∷ xs) ys h = cc

pub both_empty : {A : Type 0} (xs ys : List A) → xs ≡ [] → ys ≡ [] → xs ++ ys ≡ []
both_empty xs ys a b = ap (λ r. r ++ ys) a ∙ b

pub under_empty : (s : Step) (ts : List Told) → under s ts ≡ [] → ts ≡ []
under_empty s [] h = refl
under_empty s (t ∷ ts) h = cc

-- ---- rules that change nothing

rule_same : (b : Bool) (t : Told) (rest : List Told) (d new : Data) → (if b then t ∷ rest else rest) ≡ [] → (if b then new else d) ≡ d
rule_same true t rest d new h = cc
rule_same false t rest d new h = refl

rest_empty : (b : Bool) (t : Told) (rest : List Told) → (if b then t ∷ rest else rest) ≡ [] → rest ≡ []
rest_empty true t rest h = cc
rest_empty false t rest h = h

rules_same : (rs : List Rule) (d : Data) → told_here rs d ≡ [] → by_rules rs d ≡ d
rules_same [] d h = refl
rules_same (r ∷ rs) d h =
    ap (by_rules rs) (rule_same (applies r d) ([], r) (told_here rs d) d (changed r d) h) ∙ rules_same rs d (rest_empty (applies r d) ([], r) (told_here rs d) h)

-- ---- a tree in which nothing is changed

-- by what stands in it
tree_same : (set : RuleSet) (d : Data) (k : Kind) → (told_within set d (own_kind set k d) ≡ [] → within set d (own_kind set k d) ≡ d) → changes set k d ≡ [] → made set k d ≡ d
tree_same set d k inner h =
    let own = own_kind set k d in
    ap (ruled set own) (inner (first_empty (told_within set d own) _ h)) ∙ rules_same (rules_in set own) d (second_empty (told_within set d own) _ h)

mutual
  within_same : (set : RuleSet) (d : Data) (k : Kind) → told_within set d k ≡ [] → within set d k ≡ d
  within_same set null k h = refl
  within_same set (boolean b) k h = refl
  within_same set (number n) k h = refl
  within_same set (string s) k h = refl
  within_same set (array ds) k h = ap array (items_same set 0 ds (item_kind k) h)
  within_same set (object ms) k h = ap object (members_same set ms k h)

  items_same : (set : RuleSet) (i : ℕ) (ds : Items) (k : Kind) → items_told set i ds k ≡ [] → made_items set ds k ≡ ds
  items_same set i no_items k h = refl
  items_same set i (item d ds) k h =
      let at = under (at_index i) (changes set k d) in
      let first = tree_same set d k (within_same set d (own_kind set k d)) (under_empty (at_index i) _ (first_empty at _ h)) in
      let rest = items_same set (suc i) ds k (second_empty at _ h) in
      ap (λ r. item r (made_items set ds k)) first ∙ ap (item d) rest

  members_same : (set : RuleSet) (ms : Members) (k : Kind) → members_told set ms k ≡ [] → made_members set ms k ≡ ms
  members_same set no_members k h = refl
  members_same set (member name d ms) k h =
      let at = under (at_name name) (changes set (member_kind k name) d) in
      let first = tree_same set d (member_kind k name) (within_same set d (own_kind set (member_kind k name) d)) (under_empty (at_name name) _ (first_empty at _ h)) in
      let rest = members_same set ms k (second_empty at _ h) in
      ap (λ r. member name r (made_members set ms k)) first ∙ ap (member name d) rest

pub made_same : (set : RuleSet) (d : Data) (k : Kind) → changes set k d ≡ [] → made set k d ≡ d
made_same set d k h = tree_same set d k (within_same set d (own_kind set k d)) h

-- ---- as `any` a tree is left as it is

none_of_any : (set : RuleSet) (d : Data) → told_here (rules_in set any) d ≡ []
none_of_any of_model d = refl
none_of_any of_upgrade d = refl

mutual
  within_any : (set : RuleSet) (d : Data) → told_within set d any ≡ []
  within_any set null = refl
  within_any set (boolean b) = refl
  within_any set (number n) = refl
  within_any set (string s) = refl
  within_any set (array ds) = items_any set 0 ds
  within_any set (object ms) = members_any set ms

  pub items_any : (set : RuleSet) (i : ℕ) (ds : Items) → items_told set i ds any ≡ []
  items_any set i no_items = refl
  items_any set i (item d ds) = both_empty _ _ (ap (under (at_index i)) (both_empty (told_within set d any) _ (within_any set d) (none_of_any set d))) (items_any set (suc i) ds)

  members_any : (set : RuleSet) (ms : Members) → members_told set ms any ≡ []
  members_any set no_members = refl
  members_any set (member name d ms) = both_empty _ _ (ap (under (at_name name)) (both_empty (told_within set d any) _ (within_any set d) (none_of_any set d))) (members_any set ms)

pub told_any : (set : RuleSet) (d : Data) → changes set any d ≡ []
told_any set d = both_empty (told_within set d any) _ (within_any set d) (none_of_any set d)

pub made_any : (set : RuleSet) (d : Data) → made set any d ≡ d
made_any set d = made_same set d any (told_any set d)

-- ---- kinds in whose trees nothing is looked at

-- neither items nor members are, and it has no rules
pub record IsQuiet (set : RuleSet) (k : Kind) : Type 0 where
  pub own : (d : Data) → own_kind set k d ≡ k
  pub items : item_kind k ≡ any
  pub members : (name : List ℕ) → member_kind k name ≡ any
  pub rules : rules_in set k ≡ []

members_quiet : (set : RuleSet) (k : Kind) (ms : Members) → ((name : List ℕ) → member_kind k name ≡ any) → members_told set ms k ≡ []
members_quiet set k no_members h = refl
members_quiet set k (member name d ms) h =
    both_empty _ _ (ap (λ j. under (at_name name) (changes set j d)) (h name) ∙ ap (under (at_name name)) (told_any set d)) (members_quiet set k ms h)

within_quiet : (set : RuleSet) (k : Kind) (d : Data) → IsQuiet set k → told_within set d k ≡ []
within_quiet set k null q = refl
within_quiet set k (boolean b) q = refl
within_quiet set k (number n) q = refl
within_quiet set k (string s) q = refl
within_quiet set k (array ds) q = ap (items_told set 0 ds) q.items ∙ items_any set 0 ds
within_quiet set k (object ms) q = members_quiet set k ms q.members

pub told_quiet : (set : RuleSet) (k : Kind) (d : Data) → IsQuiet set k → changes set k d ≡ []
told_quiet set k d q =
    ap (λ j. told_within set d j ++ told_here (rules_in set j) d) (q.own d) ∙ both_empty (told_within set d k) _ (within_quiet set k d q) (ap (λ rs. told_here rs d) q.rules)

pub made_quiet : (set : RuleSet) (k : Kind) (d : Data) → IsQuiet set k → made set k d ≡ d
made_quiet set k d q = made_same set d k (told_quiet set k d q)
