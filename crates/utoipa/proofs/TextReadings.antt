-- What a text is read as, in the words of documents.
use Rattle.std.proofs.Common.{List, ℕ, Result, Ok, Err, IfOk}
use Rattle.utoipa_base.specs.Kinds.{named, open_api_object}
use Rattle.utoipa_base.specs.Texts as base
use Rattle.utoipa_base.specs.declared.fault.ReadFault.{ReadFault}
use Rattle.utoipa_merging.specs.Texts.{IsTextOf}
use Rattle.utoipa.specs.OpenApi.{openapi_doc}
use Rattle.utoipa.specs.declared.document.OpenApi.{OpenApi}

pub text_read : (text : List ℕ) (r : Result OpenApi ReadFault) → IfOk r (λ d. base.IsTextOf (named open_api_object) (openapi_doc d) text) → IfOk r (λ d. IsTextOf (openapi_doc d) text)
text_read text (Ok d) h = record { tree = h.tree; has = h.has; plain = h.plain; reads = h.reads }
text_read text (Err e) h = tt
