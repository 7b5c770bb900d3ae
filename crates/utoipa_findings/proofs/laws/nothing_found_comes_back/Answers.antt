use Rattle.serde_json.specs.View.{view}
use Rattle.utoipa_findings.proofs.ComesBack.{comes_back, some_comes_back, reads_again}
use Rattle.utoipa_findings.proofs.InText.{text_comes_back, unlost_text}
use Rattle.utoipa_findings.specs.Sources.{seen}
use Rattle.utoipa_findings.proofs.SortedAdapted.{seen_sorted}
use Rattle.utoipa_findings.proofs.SortedWritten.{text_tree_sorted, written_sorted}
use Rattle.utoipa_findings.proofs.laws.nothing_found_comes_back.Goals as goal

pub returns-clause-document : goal.returns-clause-document
returns-clause-document g c k = some_comes_back k (view c.args.tree.now)

pub returns-clause-text : goal.returns-clause-text
returns-clause-text g c = text_comes_back

pub returns-clause-unlost : goal.returns-clause-unlost
returns-clause-unlost g c = unlost_text

pub returns-clause-ordered : goal.returns-clause-ordered
returns-clause-ordered g c k x t d has reads = let sorted = seen_sorted x.2 k t (text_tree_sorted x.1 t has) in (sorted, written_sorted k (seen x.2 k t) d sorted reads)

pub returns-clause-value : goal.returns-clause-value
returns-clause-value g c = comes_back g.T.Documented.kind (view c.args.tree.now) (g.T.Documented.doc c.args.value.now)

pub returns-clause-again : goal.returns-clause-again
returns-clause-again g c none is =
    let k = g.T.Documented.kind in
    let t = view c.args.tree.now in
    let d = g.T.Documented.doc c.args.value.now in
    reads_again k t d (g.met.T.Tree.is_of_kind c.args.value.now) (comes_back k t d none is)
