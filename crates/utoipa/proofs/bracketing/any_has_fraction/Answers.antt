use Rattle.std.proofs.Common.{sym, ◌∙◌, arith}
use Rattle.utoipa.specs.Merging.{lists_have_fraction}
use Rattle.utoipa.specs.OpenApi.{openapi_doc}
use Rattle.utoipa.proofs.AnyFraction.{any_found, none_more, none_found}
use Rattle.utoipa.proofs.bracketing.any_has_fraction.Goals as goal

pub returns-then-lists_have_fraction : goal.returns-then-lists_have_fraction
returns-then-lists_have_fraction c =
    any_found lists_have_fraction openapi_doc c.args.documents.now c.loop-document.document-index c.document-item.result c.loop-document-test.true c.document-item.is
    (sym c.lists_have_fraction.ensures ∙ c.if-lists_have_fraction.true)

pub loop-document-preserved : goal.loop-document-preserved
loop-document-preserved c =
    none_more lists_have_fraction openapi_doc c.args.documents.now c.loop-document.document-index c.document-item.result c.loop-document-test.true c.document-item.is
    (sym c.lists_have_fraction.ensures ∙ c.if-lists_have_fraction.false) c.loop-document.invariant

pub returns : goal.returns
returns c = none_found lists_have_fraction openapi_doc c.args.documents.now c.loop-document.document-index (let past = c.loop-document-test.false in omega arith) c.loop-document.invariant
