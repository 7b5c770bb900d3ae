use Rattle.std.proofs.Common.{◌∙◌, ℕ, List, Bool, ap, not}
use Rattle.std.proofs.lemmas.Result.{IfOk-weaker}
use Rattle.std.specs.BTreeSet.{contains_text}
use Rattle.std.specs.List.{flat_map}
use Rattle.serde_json.specs.View.{view}
use Rattle.utoipa_check.specs.Pointers.{escaped}
use Rattle.utoipa_check.specs.References.{references}
use Rattle.utoipa_outline.specs.Counted.{if_so}
use Rattle.utoipa_outline.specs.Used.{is_used}
use Rattle.utoipa_outline.specs.Views.{texts_of}
use Rattle.utoipa_tables.specs.Tables.{kind_of}
use Rattle.utoipa_outline.proofs.Names.{same_names}
use Rattle.utoipa_outline.proofs.counted.schemas.Goals as goal

pub returns-clause-used : goal.returns-clause-used
returns-clause-used c =
    let holds : List ℕ → Bool = λ name. contains_text c.in_ok-used.used (escaped name) in
    let names = ap texts_of c.deref.ensures.value ∙ c.in_ok-names.ensures in
    IfOk-weaker c.by_use.result _ _ (λ v is. is ∙ ap (flat_map (λ n. if_so (holds n) n)) names ∙ same_names holds (is_used (references (kind_of c.args.kind) (view c.args.document.now))) _ (λ name. c.in_ok-used.ensures (escaped name))) c.by_use.ensures.used

pub returns-clause-unused : goal.returns-clause-unused
returns-clause-unused c =
    let holds : List ℕ → Bool = λ name. not (contains_text c.in_ok-used.used (escaped name)) in
    let names = ap texts_of c.deref.ensures.value ∙ c.in_ok-names.ensures in
    IfOk-weaker c.by_use.result _ _ (λ v is. is ∙ ap (flat_map (λ n. if_so (holds n) n)) names
    ∙ same_names holds (λ name. not (is_used (references (kind_of c.args.kind) (view c.args.document.now)) name)) _ (λ name. ap not (c.in_ok-used.ensures (escaped name)))) c.by_use.ensures.unused
