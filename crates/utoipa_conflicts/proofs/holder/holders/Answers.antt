use Rattle.std.proofs.Common.{[], ◌∷◌, ◌++◌, ◌∙◌, ap, codes}
use Rattle.serde_json.specs.Find.{get}
use Rattle.serde_json.specs.View.{view}
use Rattle.utoipa_conflicts.specs.Holders.{is_among, holders_at, component_holders, path_holders}
use Rattle.utoipa_conflicts.specs.Views.{all_holders}
use Rattle.utoipa_conflicts.specs.declared.holder.Holder.TheVariants as variants
use Rattle.utoipa_conflicts.proofs.Found.{all_found}
use Rattle.utoipa_conflicts.proofs.holder.holders.Goals as goal

pub returns-clause-listed : goal.returns-clause-listed
returns-clause-listed c = λ h.
    let components = holders_at component_holders (get (codes "components") (view c.args.document.now)) in
    let paths = holders_at path_holders (get (codes "paths") (view c.args.document.now)) in
    let first = ap all_holders (c.in_ok-push.ensures.items ∙ ap (λ hs. hs ++ variants.Document ∷ []) c.new-holders.ensures.items) in
    let listed = c.in_ok-push_paths_of.ensures.listed ∙ ap (λ hs. hs ++ paths) (c.in_ok-push_components_of.ensures.listed ∙ ap (λ hs. hs ++ components) first) in
    ap (is_among h) listed ∙ all_found (view c.args.document.now) c.in_ok-push_components_of.ensures.apart c.in_ok-push_paths_of.ensures.apart h
