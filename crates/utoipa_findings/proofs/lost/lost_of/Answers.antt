use Rattle.std.proofs.Common.{◌∙◌, sym, ap, subst}
use Rattle.utoipa_base.specs.WellFormed.{ReadsAs}
use Rattle.utoipa_findings.specs.Sources.{file_of, file_tree}
use Rattle.utoipa_findings.proofs.lost.lost_of.Goals as goal

pub returns-clause-document : goal.returns-clause-document
returns-clause-document g c =
    let source = c.in_ok-_document.ensures.ok in
    (source.tree, record { has = ap (λ k. file_tree k (file_of c.args.source)) c.requires ∙ source.has; document = g.T.Documented.doc c.in_ok-_document._document; reads = subst (λ k. ReadsAs k source.tree (g.T.Documented.doc c.in_ok-_document._document)) (sym c.requires) source.reads })
