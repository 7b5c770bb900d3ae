use denote.Enum.Bare.{same_true}
use Rattle.std.proofs.Common.{◌≡◌, ◌∙◌, ap, sym, None, Some, option_map, option_and_then, if◌then◌else◌, List, ℕ}
use Rattle.std.proofs.lemmas.Slice.Eq.{bytes_eq-Decides}
use Rattle.std.specs.BTreeMap.{get_by_text}
use Rattle.utoipa_base.specs.References.{component_map_text, key_of}
use Rattle.utoipa_base.specs.contracts.refs.component.ComponentMap.{the_type}
use Rattle.utoipa_base.specs.declared.refs.component.ComponentMap.{ComponentMap}
use Rattle.utoipa_components.specs.Resolve.{name_among}
use Rattle.utoipa_components.proofs.resolve.entry_at.Goals as goal

-- a component of this map has its name there
named : (map : ComponentMap) (key : ComponentMap × List ℕ) → key.0 ≡ map → name_among map key ≡ Some key.1
named map key same =
    ap (λ b. if b then Some key.1 else None) ((bytes_eq-Decides (component_map_text key.0) (component_map_text map)).1 (ap component_map_text same))

pub returns-then-eq : goal.returns-then-eq
returns-then-eq g c =
    let same : c.in-Some.key.map ≡ c.args.map = same_true the_type tt _ _ (sym c.eq.ensures ∙ c.if-eq.true) in
    let leads = ap (option_and_then (name_among c.args.map)) (sym c.in_ok-key.ensures ∙ ap (option_map key_of) c.in-Some.is) ∙ named c.args.map (key_of c.in-Some.key) same in
    c.get.ensures.value ∙ ap (get_by_text c.args.entries.now) c.as_str.ensures.value ∙ sym (ap (option_and_then (get_by_text c.args.entries.now)) leads)
