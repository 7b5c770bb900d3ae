-- When an array is empty.
use Rattle.std.proofs.Common.{◌≡◌, ◌==◌, ℕ, List, [], ◌∷◌, length, Bool, sym, ap, ◌∙◌, rules, Global, Vec}
use Rattle.serde_json.specs.Data.{array}
use Rattle.serde_json.specs.View.{view, items_view}
use Rattle.serde_json.specs.declared.value.Value.{Value, Array}
use Rattle.serde_json.proofs.Views.{view-Array}
use Rattle.utoipa_meaning.specs.Meaning.{is_empty_list}

counted : (vs : List Value) (n : ℕ) → n ≡ length vs → (n == 0) ≡ is_empty_list (array (items_view vs))
counted [] n e = ap (λ m. m == 0) e
counted (v ∷ vs) n e = ap (λ m. m == 0) e ∙ search rules

pub empty_list : (v : Value) (items : Vec Value Global) (b : Bool) → v ≡ Array items → b ≡ (items.len == 0) → b ≡ is_empty_list (view v)
empty_list v items b is e = e ∙ counted items.items items.len items.ok.0 ∙ ap is_empty_list (sym (view-Array items) ∙ ap view (sym is))
