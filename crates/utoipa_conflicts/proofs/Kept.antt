-- What is kept in a slot stands behind the first holder, or the last.
use Rattle.std.proofs.Common.{◌≡◌, ℕ, suc, List, [], ◌∷◌, ◌++◌, map, if◌then◌else◌, Option, None, Some, is_some, option_and_then, refl, sym, ap, ◌∙◌, true≢false}
use Rattle.std.specs.Option.{option_or}
use Rattle.serde_json.specs.Data.{Data}
use Rattle.utoipa_check.specs.IsDropped.{at_step}
use Rattle.utoipa_conflicts.specs.Conflicts.{Slot, document_member, component_entry, components_extension, paths_extension, operation, named_operation, base_member, Holder, holder, place, place_of_holder, Rule, first_decides, last_decides, rule, Numbered, numbered, offered, by_rule, deciding}
use Rattle.utoipa_conflicts.specs.Kept.{kept, from_holder, behind_holder}
use Rattle.utoipa_conflicts.specs.Trees.{Place, at_place}

-- ---- places

further_at : (ss ts : Place) (o : Option Data) → ((d : Data) → at_place (ss ++ ts) d ≡ option_and_then (at_place ts) (at_place ss d))
    → option_and_then (at_place (ss ++ ts)) o ≡ option_and_then (at_place ts) (option_and_then (at_place ss) o)
further_at ss ts None more = refl
further_at ss ts (Some d) more = more d

-- steps, and more steps
pub further : (ss ts : Place) (d : Data) → at_place (ss ++ ts) d ≡ option_and_then (at_place ts) (at_place ss d)
further [] ts d = refl
further (s ∷ ss) ts d = further_at ss ts (at_step s d) (further ss ts)

-- the place of a slot is behind its holder
place_is : (s : Slot) → place_of_holder (holder s) ++ from_holder s ≡ place s
place_is (document_member name) = refl
place_is (component_entry kind name) = refl
place_is (components_extension name) = refl
place_is (paths_extension name) = refl
place_is (operation path method) = refl
place_is (named_operation path name) = refl
place_is (base_member path name) = refl

-- what stands at a slot stands behind the holder
pub slot_behind : (s : Slot) (d : Data) → at_place (place s) d ≡ option_and_then (at_place (from_holder s)) (at_place (place_of_holder (holder s)) d)
slot_behind s d = ap (λ p. at_place p d) (sym (place_is s)) ∙ further (place_of_holder (holder s)) (from_holder s) d

-- ---- the holder of the document that decides

-- what a document has at a place
abbrev pub held : Place → Option Numbered → Option Data
held p o = option_and_then (λ t. at_place p t.1) o

-- a document that was found, and what was found at the place
abbrev pub Agree : Place → Option Numbered → Option Data → Type 0
Agree p o q = (held p o ≡ q) × (is_some o ≡ is_some q)

agree_first : (p : Place) (n : ℕ) (d : Data) (o : Option Data) (a : Option Numbered) (b : Option Data) → at_place p d ≡ o → Agree p a b → Agree p (option_or (if is_some o then Some (n, d) else None) a) (option_or o b)
agree_first p n d None a b is h = h
agree_first p n d (Some e) a b is h = (is, refl)

agree_last : (p : Place) (n : ℕ) (d : Data) (o : Option Data) (a : Option Numbered) (b : Option Data) → at_place p d ≡ o → Agree p a b → Agree p (option_or a (if is_some o then Some (n, d) else None)) (option_or b o)
agree_last p n d None None None is h = h
agree_last p n d (Some e) None None is h = (is, refl)
agree_last p n d o None (Some x) is h = absurd (true≢false (sym h.1))
agree_last p n d o (Some t) None is h = absurd (true≢false h.1)
agree_last p n d o (Some t) (Some x) is h = h

-- the document that decides has what is found at the place of the holder
pub agree : (r : Rule) (h : Holder) (n : ℕ) (ds : List Data) → Agree (place_of_holder h) (by_rule r (map (offered h) (numbered n ds))) (by_rule r (map (at_place (place_of_holder h)) ds))
agree first_decides h n [] = (refl, refl)
agree last_decides h n [] = (refl, refl)
agree first_decides h n (d ∷ ds) = agree_first (place_of_holder h) n d (at_place (place_of_holder h) d) _ _ refl (agree first_decides h (suc n) ds)
agree last_decides h n (d ∷ ds) = agree_last (place_of_holder h) n d (at_place (place_of_holder h) d) _ _ refl (agree last_decides h (suc n) ds)

-- ---- what is kept

through_holder : (s : Slot) (o : Option Numbered) → held (place s) o ≡ option_and_then (at_place (from_holder s)) (held (place_of_holder (holder s)) o)
through_holder s None = refl
through_holder s (Some t) = slot_behind s t.1

pub kept_behind : (s : Slot) (ds : List Data) → kept s ds ≡ behind_holder s ds
kept_behind s ds = through_holder s (deciding (holder s) (numbered 0 ds)) ∙ ap (option_and_then (at_place (from_holder s))) (agree (rule (holder s)) (holder s) 0 ds).0
