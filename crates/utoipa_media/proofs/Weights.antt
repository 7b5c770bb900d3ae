-- What a content, an encoding or a header holds is lighter than its table.
use Rattle.std.proofs.Common.{◌<◌, ◌≤◌, Option, Box, Vec, String, Global, BTreeMap, arith, ap}
use Rattle.utoipa_base.specs.Kinds.{named, media_type_object, header_object}
use Rattle.utoipa_base.specs.Refs.{ref_or_doc}
use Rattle.utoipa_base.specs.Views.{boxed, option_of, list_of_docs, map_of_docs}
use Rattle.utoipa_base.proofs.Weights.{weight, docs_weight}
use Rattle.utoipa_media.specs.Docs.{content_doc, encoding_doc, header_doc, encoding_layer}
use Rattle.utoipa_media.specs.Folds.{encoding_is}
use Rattle.utoipa_media.specs.Parts.{encodings_docs}
use Rattle.utoipa_media.specs.declared.types.Content.{Content, out-Content}
use Rattle.utoipa_media.specs.declared.types.Encoding.{Encoding, out-Encoding}
use Rattle.utoipa_media.specs.declared.types.Header.{Header, out-Header}

-- each of the three members that hold encodings
pub lighter_encodings : (by_name : BTreeMap (String Global) Encoding) (first : Vec Encoding Global) (rest : Option (Box Encoding Global))
    → (weight (map_of_docs encoding_doc by_name) ≤ docs_weight (encodings_docs by_name first rest))
    × (weight (list_of_docs encoding_doc first) ≤ docs_weight (encodings_docs by_name first rest))
    × (weight (option_of (boxed encoding_doc) rest) ≤ docs_weight (encodings_docs by_name first rest))
unfolding docs_weight
lighter_encodings by_name first rest = (omega arith, omega arith, omega arith)

pub lighter_content : (c : Content) → docs_weight (encodings_docs (out-Content c).encoding (out-Content c).prefix_encoding (out-Content c).item_encoding) < weight (content_doc c)
unfolding weight docs_weight
lighter_content c = omega arith

encoding_table_weight : (e : Encoding) → (weight (map_of_docs (ref_or_doc (named header_object) header_doc) (out-Encoding e).headers) < weight (encoding_layer header_doc encoding_doc (out-Encoding e)))
    × (docs_weight (encodings_docs (out-Encoding e).encoding (out-Encoding e).prefix_encoding (out-Encoding e).item_encoding) < weight (encoding_layer header_doc encoding_doc (out-Encoding e)))
unfolding weight docs_weight
encoding_table_weight e = (omega arith, omega arith)

pub lighter_encoding : (e : Encoding) → (weight (map_of_docs (ref_or_doc (named header_object) header_doc) (out-Encoding e).headers) < weight (encoding_doc e))
    × (docs_weight (encodings_docs (out-Encoding e).encoding (out-Encoding e).prefix_encoding (out-Encoding e).item_encoding) < weight (encoding_doc e))
lighter_encoding e =
    let table = encoding_table_weight e in
    (omega (arith, table.0, ap weight (encoding_is e)), omega (arith, table.1, ap weight (encoding_is e)))

pub lighter_header : (h : Header) → weight (map_of_docs (ref_or_doc (named media_type_object) content_doc) (out-Header h).content) < weight (header_doc h)
unfolding weight docs_weight
lighter_header h = omega arith
