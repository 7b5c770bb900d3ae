-- Whether encodings are unambiguous, by the members that are asked: the others always are.
use Rattle.std.proofs.Common.{◌≡◌, Bool, true, ◌&&◌, ap, ◌∙◌, option_map}
use Rattle.utoipa_base.specs.Docs.{Doc}
use Rattle.utoipa_base.specs.Extensions.{extensions_view}
use Rattle.utoipa_base.specs.Kinds.{named, encoding_object, header_object}
use Rattle.utoipa_base.specs.Refs.{ref_or_doc}
use Rattle.utoipa_base.specs.Unambiguous.{is_unambiguous, are_extensions}
use Rattle.utoipa_base.specs.Views.{option_of, boxed, list_of_docs, map_of_docs}
use Rattle.utoipa_base.proofs.UnambiguousParts.{unambiguous-table, docs-none, option-flag, option-text}
use Rattle.utoipa_leaf.proofs.UnambiguousFields.{option-style}
use Rattle.utoipa_schema.proofs.FieldsAsked.{passes_by, is_asked}
use Rattle.utoipa_media.specs.Docs.{encoding_table, encoding_doc, header_doc}
use Rattle.utoipa_media.specs.Folds.{encoding_is}
use Rattle.utoipa_media.specs.declared.types.Encoding.{Encoding, Encoding-F, out-Encoding}

encoding_table_parts : {C E H : Type 0} (headers encoding prefix_encoding item_encoding : Doc) (e : Encoding-F C E H)
    → is_unambiguous (encoding_table headers encoding prefix_encoding item_encoding e)
    ≡ ((is_unambiguous encoding && (is_unambiguous headers && (is_unambiguous item_encoding && (is_unambiguous prefix_encoding && true)))) && are_extensions (option_map extensions_view e.extensions))
encoding_table_parts headers encoding prefix_encoding item_encoding e =
    unambiguous-table encoding_object _ _ ∙ ap (λ b. b && are_extensions (option_map extensions_view e.extensions))
    (passes_by _ _ (option-flag e.allow_reserved)
    (passes_by _ _ (option-text e.content_type)
    (is_asked _ _
    (passes_by _ _ (option-flag e.explode)
    (is_asked _ _
    (is_asked _ _
    (is_asked _ _
    (passes_by _ _ (option-style e.style) docs-none))))))))

pub encoding_parts : (e : Encoding) → is_unambiguous (encoding_doc e)
    ≡ ((is_unambiguous (map_of_docs encoding_doc (out-Encoding e).encoding) && (is_unambiguous (map_of_docs (ref_or_doc (named header_object) header_doc) (out-Encoding e).headers)
    && (is_unambiguous (option_of (boxed encoding_doc) (out-Encoding e).item_encoding) && (is_unambiguous (list_of_docs encoding_doc (out-Encoding e).prefix_encoding) && true))))
    && are_extensions (option_map extensions_view (out-Encoding e).extensions))
encoding_parts e = ap is_unambiguous (encoding_is e) ∙ encoding_table_parts _ _ _ _ (out-Encoding e)

pub ruleset by_encodings = (encoding_parts)
