-- Where a reference leads.
use Rattle.std.proofs.Common.{◌≡◌, ◌≢◌, ◌==◌, ℕ, List, [], ◌∷◌, map, Bool, true, false, if◌then◌else◌, Option, None, Some, is_some, option_and_then, codes, refl, sym, ap, ◌∙◌, true≢false}
use Rattle.std.specs.List.{AllByRecursion}
use Rattle.std.specs.Str.{IsUtf8, is_utf8}
use Rattle.std.proofs.lemmas.Str.{is_utf8-from_IsUtf8, IsUtf8-from_is_utf8}
use Rattle.std.proofs.lemmas.Bool.{eqb-true}
use Rattle.serde_json.specs.Data.{Data}
use Rattle.serde_json.specs.Find.{get}
use Rattle.percent_encoding.specs.Percent.{percent_decode}
use Rattle.utoipa_base.specs.References.{Target, elsewhere, nowhere, place, target_of_text, target_of_fragment, target_of, component, component_of, component_at_target, component_map_text, field_of_components, IsNoList}
use Rattle.utoipa_base.specs.declared.refs.component.ComponentMap.{ComponentMap}
use Rattle.utoipa_base.proofs.ComponentsFound.{component_stands_there}
use Rattle.utoipa_check.specs.References.{Mentions, referring}
use Rattle.utoipa_check.specs.Referring.{Way, by_reference, by_mapping, by_requirement, dangling, external, resolved, leads, target_state, reference_state, is_plain_name, mapping_state, state, LeadsToComponent}

-- ---- by the text

pub of_utf8 : (bs : List ℕ) (d : Data) → IsUtf8 bs → target_state (target_of_text bs) d ≡ target_state (target_of_fragment bs) d
of_utf8 bs d is = ap (λ b. target_state (if b then target_of_text bs else nowhere) d) (sym (is_utf8-from_IsUtf8 bs is))

no_utf8 : (bs : List ℕ) (b : Bool) → b ≡ is_utf8 bs → (IsUtf8 bs → ⊥) → b ≡ false
no_utf8 bs true is none = absurd (none (IsUtf8-from_is_utf8 bs (sym is)))
no_utf8 bs false is none = refl

pub of_no_utf8 : (bs : List ℕ) (d : Data) → (IsUtf8 bs → ⊥) → dangling ≡ target_state (target_of_fragment bs) d
of_no_utf8 bs d none = ap (λ b. target_state (if b then target_of_text bs else nowhere) d) (sym (no_utf8 bs (is_utf8 bs) refl none))

other_lead : (c : ℕ) (cs : List ℕ) (d : Data) (b : Bool) → b ≡ c == 35 → ((rest : List ℕ) → c ∷ cs ≢ 35 ∷ rest) → external ≡ target_state (if b then target_of_fragment (percent_decode cs) else elsewhere) d
other_lead c cs d true is none = absurd (none cs (ap (λ n. n ∷ cs) (eqb-true c 35 (sym is))))
other_lead c cs d false is none = refl

pub of_other : (s : List ℕ) (d : Data) → ((rest : List ℕ) → s ≢ 35 ∷ rest) → external ≡ reference_state s d
of_other [] d none = refl
of_other (c ∷ cs) d none = other_lead c cs d (c == 35) refl none

-- ---- to a component

nothing_found : (m : ComponentMap) (name : List ℕ) → ◌≡◌ {A = Option (ComponentMap × List ℕ)} None (Some (m, name)) → ⊥
nothing_found m name e = cc

-- A reference to a component leads to what stands there.
at_component : (t : Target) (m : ComponentMap) (name : List ℕ) (d : Data) → component_at_target t ≡ Some (m, name) → IsNoList (field_of_components (component_map_text m) d)
    → target_state t d ≡ leads (component (component_map_text m) name d)
at_component elsewhere m name d e unlisted = absurd (nothing_found m name e)
at_component nowhere m name d e unlisted = absurd (nothing_found m name e)
at_component (place bs) m name d e unlisted = ap leads (component_stands_there (place bs) m name d e unlisted)

pub to_component : (s : List ℕ) (m : ComponentMap) (name : List ℕ) (d : Data) → component_of s ≡ Some (m, name) → IsNoList (field_of_components (component_map_text m) d)
    → reference_state s d ≡ leads (component (component_map_text m) name d)
to_component s m name d e unlisted = at_component (target_of s) m name d e unlisted

-- a list has no entry under a name
no_list : (name : List ℕ) (o : Option Data) → is_some (option_and_then (get name) o) ≡ true → IsNoList o
no_list name o stands ds is = true≢false (sym stands ∙ ap (λ x. is_some (option_and_then (get name) x)) is)

led_on : (o : Option Data) → is_some o ≡ true → leads o ≡ resolved
led_on None stands = absurd (true≢false (sym stands))
led_on (Some d) stands = refl

pub component_resolved : (s : List ℕ) (d : Data) → LeadsToComponent s d → reference_state s d ≡ resolved
component_resolved s d c =
    to_component s c.map c.name d c.led (no_list c.name (field_of_components (component_map_text c.map) d) c.stands) ∙ led_on (component (component_map_text c.map) c.name d) c.stands

-- ---- a text of a mapping that leads to a component is no name

hash_is_no_name : (cs : List ℕ) → is_plain_name (35 ∷ cs) ≡ false
hash_is_no_name cs = refl

local_by : (c : ℕ) (cs : List ℕ) (b : Bool) (m : ComponentMap) (name : List ℕ) → b ≡ c == 35 → component_at_target (if b then target_of_fragment (percent_decode cs) else elsewhere) ≡ Some (m, name)
    → is_plain_name (c ∷ cs) ≡ false
local_by c cs true m name is e = ap (λ n. is_plain_name (n ∷ cs)) (eqb-true c 35 (sym is)) ∙ hash_is_no_name cs
local_by c cs false m name is e = absurd (nothing_found m name e)

no_name : (s : List ℕ) (m : ComponentMap) (name : List ℕ) → component_of s ≡ Some (m, name) → is_plain_name s ≡ false
no_name [] m name e = refl
no_name (c ∷ cs) m name e = local_by c cs (c == 35) m name refl e

pub mapped_resolved : (s : List ℕ) (d : Data) → LeadsToComponent s d → mapping_state s d ≡ resolved
mapped_resolved s d c = ap (λ b. if b then leads (component (codes "schemas") s d) else reference_state s d) (no_name s c.map c.name c.led) ∙ component_resolved s d c

-- ---- among the references of a tree

pub way_resolved : (w : Way) (s : List ℕ) (d : Data) → w ≢ by_requirement → LeadsToComponent s d → state w s d ≡ resolved
way_resolved by_reference s d other c = component_resolved s d c
way_resolved by_mapping s d other c = mapped_resolved s d c
way_resolved by_requirement s d other c = absurd (other refl)

pub all_resolved : (d : Data) (ms : Mentions) → AllByRecursion (λ r. r.0.1.0 ≢ by_requirement → LeadsToComponent r.0.1.1 d → r.1 ≡ resolved) (map (referring d) ms)
all_resolved d [] = tt
all_resolved d (m ∷ ms) = (λ other c. way_resolved m.1.0 m.1.1 d other c, all_resolved d ms)
