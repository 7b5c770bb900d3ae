use Rattle.std.proofs.Common.{not, rules, string_bytes}
use Rattle.std.specs.BTreeMap.{get_by_text}
use Rattle.std.specs.Option.{is_some}
use Rattle.std.proofs.lemmas.Map.Made.{filter_same_pairs}
use Rattle.utoipa_merging_parts.proofs.maps.take_back.Goals as goal

pub returns : goal.returns
returns g c = filter_same_pairs _ (λ e. not (is_some (get_by_text c.args.names.now (string_bytes e.0)))) _ (λ k v b w f' t. search rules) _ _ c.retain.ensures.filtered
