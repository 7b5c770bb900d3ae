use Rattle.std.proofs.Common.{ℕ, List, Bool, not, ap, sym, ◌∙◌, rules, string_bytes, nat_cmp}
use Rattle.std.specs.BTreeMap.{get_by_text, is_at}
use Rattle.std.specs.Cmp.Lexicographic.{slice_cmp}
use Rattle.std.specs.Option.{is_some}
use Rattle.std.proofs.lemmas.Map.Entries.{lookup-filter-keys}
use Rattle.std.proofs.lemmas.Map.Made.{filter_same_pairs}
use Rattle.std.proofs.lemmas.Map.Text.{is_eq-slice_cmp}
use Rattle.utoipa_merging.proofs.Filled.{missing_if}
use Rattle.utoipa_merging.proofs.Lookups.{found, same_text}
use Rattle.utoipa_merging_parts.proofs.maps.keep_missing.Goals as goal

pub returns : goal.returns
returns g c =
    let is_new : List ℕ → Bool = λ n. not (is_some (get_by_text c.args.map.now n)) in
    λ name.
    ap (λ es. found es name) (filter_same_pairs _ (λ e. is_new (string_bytes e.0)) _ (λ k v b w f' t. search rules) _ _ c.retain.ensures.filtered)
    ∙ lookup-filter-keys (is_at (λ k. slice_cmp nat_cmp name (string_bytes k))) (λ k. is_new (string_bytes k)) (is_new name)
    (λ k at. ap is_new (sym (same_text name (string_bytes k) (sym (is_eq-slice_cmp name (string_bytes k)) ∙ at)))) c.args.entries.now.entries
    ∙ missing_if (get_by_text c.args.map.now name) (get_by_text c.args.entries.now name)
