use Rattle.std.proofs.Common.{◌≡◌, ℕ, List, take, option_map}
use Rattle.std.specs.BTreeMap.{get_by_text}
use Rattle.serde_json.specs.View.{view}
use Rattle.utoipa_conflicts.specs.Nested.{put_at}
use Rattle.utoipa_conflicts.specs.Views.{all_items}
use Rattle.utoipa_conflicts.proofs.nested.put_items.Given as goal

abbrev pub invariant-loop-item : goal.invariant-loop-item
invariant-loop-item l = (path : List ℕ) → option_map (λ v. view v.now) (get_by_text l.put path) ≡ put_at (all_items (take l.item-index l.items.items)) path
