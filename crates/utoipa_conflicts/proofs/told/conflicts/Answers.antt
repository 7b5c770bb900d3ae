use Rattle.std.proofs.Common.{◌≡◌, true, map, ap, sym, ◌∙◌, subst, All}
use Rattle.std.proofs.lemmas.Result.{IfOk-weaker}
use Rattle.std.proofs.lemmas.Simd.{map-map}
use Rattle.utoipa_base.specs.Docs.{Doc}
use Rattle.utoipa_base.specs.Unambiguous.{is_unambiguous}
use Rattle.utoipa_base.specs.Writing.{write}
use Rattle.utoipa_conflicts.specs.Conflicts.{conflicts}
use Rattle.utoipa_conflicts.specs.Deciders.{trees_of}
use Rattle.utoipa_conflicts.specs.Holders.{IsNamedOnce}
use Rattle.utoipa_conflicts.specs.Merged as specs
use Rattle.utoipa_conflicts.specs.Views.{conflict_of, all_told}
use Rattle.utoipa_conflicts.proofs.OfDocuments.{all_tested, are_merged, none_told}
use Rattle.utoipa_conflicts.proofs.Telling.{tells}
use Rattle.utoipa_merging.specs.Merged.{IsInKeyOrder, IsMerged}
use Rattle.utoipa_conflicts.proofs.told.conflicts.Goals as goal

pub returns-clause-exact : goal.returns-clause-exact
returns-clause-exact g c =
    let documents = map g.T.Documented.doc c.args.documents.now in
    let trees : trees_of c.deref.result.now ≡ specs.written documents =
    ap trees_of c.deref.ensures.value ∙ c.in_ok-trees.ensures ∙ sym (map-map write g.T.Documented.doc c.args.documents.now)
    in
    let listed : map (λ x. specs.in_text (conflict_of x)) c.deref-2.result.now ≡ specs.told documents =
    ap (map (λ x. specs.in_text (conflict_of x))) c.deref-2.ensures.value ∙ sym (map-map specs.in_text conflict_of c.in_ok-conflicts.conflicts.items)
    ∙ ap (map specs.in_text) (c.in_ok-conflicts.ensures.exact ∙ ap conflicts trees)
    in
    IfOk-weaker c.all_in_text.result (λ v. all_told v.items ≡ map (λ x. specs.in_text (conflict_of x)) c.deref-2.result.now) (λ v. all_told v.items ≡ specs.told documents) (λ v is. is ∙ listed) c.all_in_text.ensures

pub returns-clause-lost_of_any : goal.returns-clause-lost_of_any
returns-clause-lost_of_any g c =
    let documents = map g.T.Documented.doc c.args.documents.now in
    let trees : trees_of c.deref.result.now ≡ specs.written documents =
    ap trees_of c.deref.ensures.value ∙ c.in_ok-trees.ensures ∙ sym (map-map write g.T.Documented.doc c.args.documents.now)
    in
    IfOk-weaker c.all_in_text.result (λ v. all_told v.items ≡ specs.told documents) _ (λ v is d m. tells documents d (all_told v.items) is m (subst (All IsNamedOnce) trees c.in_ok-conflicts.ensures.once)) (returns-clause-exact g c)

pub returns-clause-lost : goal.returns-clause-lost
returns-clause-lost g c is =
    let ds = c.args.documents.now in
    let documents = map g.T.Documented.doc ds in
    IfOk-weaker c.all_in_text.result (λ v. (d : Doc) → specs.AreMergedInto documents d → specs.TellWhatIsLost documents d (all_told v.items)) _
    (λ v tell d clear merged ordered. tell d (are_merged g.T.Documented.doc g.T.Documented.kind g.met.T.Tree.is_of_kind is ds d (all_tested g.T.Documented.doc g.T.Documented.kind g.met.T.Tree.is_of_kind ds clear) merged ordered)) (returns-clause-lost_of_any g c)

pub returns-clause-none : goal.returns-clause-none
returns-clause-none g c is =
    let documents = map g.T.Documented.doc c.args.documents.now in
    IfOk-weaker c.all_in_text.result (λ v. (d : Doc) → All (λ e. is_unambiguous e ≡ true) documents → IsMerged documents d → IsInKeyOrder d → specs.TellWhatIsLost documents d (all_told v.items)) _
    (λ v tell none d clear merged ordered. none_told documents d (all_told v.items) (tell d clear merged ordered) (ap all_told none)) (returns-clause-lost g c is)
