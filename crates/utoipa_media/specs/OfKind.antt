-- Each content, encoding and header is a document of its kind.
use Rattle.std.proofs.Common.{◌∙◌, ap, sym, subst, option_map}
use Rattle.utoipa_base.specs.Docs.{Doc, flag_doc}
use Rattle.utoipa_base.specs.Extensions.{extensions_view}
use Rattle.utoipa_base.specs.Flags.{deprecated_doc}
use Rattle.utoipa_base.specs.Kinds.{text, flag, any, word_of, parameter_style, named, ref_or, schema, example_object, media_type_object, encoding_object, header_object}
use Rattle.utoipa_base.specs.OfKind.{text_of_kind, flag_of_kind, deprecated_of_kind, tree_of_kind, option_of_kind, list_of_kind, map_of_kind, ref_or_of_kind, boxed_of_kind, extends_of_kind, no_rows, next_row, table_of_kind}
use Rattle.utoipa_base.specs.Refs.{ref_or_doc}
use Rattle.utoipa_base.specs.Shape.{IsOf, value_of}
use Rattle.utoipa_base.specs.Views.{boxed, text_of, tree_of}
use Rattle.utoipa_leaf.specs.Example.{example_doc, example_of_kind}
use Rattle.utoipa_leaf.specs.Path.{parameter_style_doc, parameter_style_of_kind}
use Rattle.utoipa_schema.specs.Docs.{schema_doc}
use Rattle.utoipa_schema.specs.OfKind.{schema_of_kind}
use Rattle.utoipa_media.specs.Docs.{content_layer, encoding_layer, header_layer, content_doc, encoding_doc, header_doc}
use Rattle.utoipa_media.specs.Folds.{encoding_is}
use Rattle.utoipa_media.specs.Layers.{content_natural, encoding_natural, header_natural}
use Rattle.utoipa_media.specs.declared.types.Content.{Content, Content-F, out-Content, out-roll-Content}
use Rattle.utoipa_media.specs.declared.types.Encoding.{Encoding, Encoding-F, ind-Encoding, out-roll-Encoding}
use Rattle.utoipa_media.specs.declared.types.Header.{Header, Header-F, out-Header, out-roll-Header}

content_layer_of_kind : {C E H : Type 0} (f : E → Doc) → ((e : E) → IsOf (f e) (value_of (named encoding_object))) → (x : Content-F C E H) → IsOf (content_layer f x) (value_of (named media_type_object))
content_layer_of_kind f each x =
    table_of_kind _ _
    (next_row (option_of_kind text_of text text_of_kind x.description)
    (next_row (map_of_kind f (named encoding_object) each x.encoding)
    (next_row (option_of_kind tree_of any tree_of_kind x.example)
    (next_row (map_of_kind (ref_or_doc (named example_object) example_doc) (ref_or (named example_object)) (ref_or_of_kind example_doc (named example_object) example_of_kind) x.examples)
    (next_row (option_of_kind (boxed f) (named encoding_object) (boxed_of_kind f (named encoding_object) each) x.item_encoding)
    (next_row (option_of_kind (ref_or_doc schema schema_doc) (ref_or schema) (ref_or_of_kind schema_doc schema schema_of_kind) x.item_schema)
    (next_row (list_of_kind f (named encoding_object) each x.prefix_encoding)
    (next_row (option_of_kind (ref_or_doc schema schema_doc) (ref_or schema) (ref_or_of_kind schema_doc schema schema_of_kind) x.schema) no_rows))))))))
    (extends_of_kind (option_map extensions_view x.extensions))

encoding_layer_of_kind : {C E H : Type 0} (g : H → Doc) → ((h : H) → IsOf (g h) (value_of (named header_object))) → (f : E → Doc) → ((e : E) → IsOf (f e) (value_of (named encoding_object)))
    → (x : Encoding-F C E H) → IsOf (encoding_layer g f x) (value_of (named encoding_object))
encoding_layer_of_kind g headers f each x =
    table_of_kind _ _
    (next_row (option_of_kind flag_doc flag flag_of_kind x.allow_reserved)
    (next_row (option_of_kind text_of text text_of_kind x.content_type)
    (next_row (map_of_kind f (named encoding_object) each x.encoding)
    (next_row (option_of_kind flag_doc flag flag_of_kind x.explode)
    (next_row (map_of_kind (ref_or_doc (named header_object) g) (ref_or (named header_object)) (ref_or_of_kind g (named header_object) headers) x.headers)
    (next_row (option_of_kind (boxed f) (named encoding_object) (boxed_of_kind f (named encoding_object) each) x.item_encoding)
    (next_row (list_of_kind f (named encoding_object) each x.prefix_encoding)
    (next_row (option_of_kind parameter_style_doc (word_of parameter_style) parameter_style_of_kind x.style) no_rows))))))))
    (extends_of_kind (option_map extensions_view x.extensions))

header_layer_of_kind : {C E H : Type 0} (f : C → Doc) → ((c : C) → IsOf (f c) (value_of (named media_type_object))) → (x : Header-F C E H) → IsOf (header_layer f x) (value_of (named header_object))
header_layer_of_kind f each x =
    table_of_kind _ _
    (next_row (map_of_kind (ref_or_doc (named media_type_object) f) (ref_or (named media_type_object)) (ref_or_of_kind f (named media_type_object) each) x.content)
    (next_row (option_of_kind deprecated_doc flag deprecated_of_kind x.deprecated)
    (next_row (option_of_kind text_of text text_of_kind x.description)
    (next_row (option_of_kind tree_of any tree_of_kind x.example)
    (next_row (map_of_kind (ref_or_doc (named example_object) example_doc) (ref_or (named example_object)) (ref_or_of_kind example_doc (named example_object) example_of_kind) x.examples)
    (next_row (option_of_kind flag_doc flag flag_of_kind x.explode)
    (next_row (option_of_kind (ref_or_doc schema schema_doc) (ref_or schema) (ref_or_of_kind schema_doc schema schema_of_kind) x.schema)
    (next_row (option_of_kind parameter_style_doc (word_of parameter_style) parameter_style_of_kind x.style) no_rows))))))))
    (extends_of_kind (option_map extensions_view x.extensions))

-- ---- by induction, from the innermost value outwards

abbrev IsContent : Content → Type 0
IsContent c = IsOf (content_doc c) (value_of (named media_type_object))

abbrev IsEncoding : Encoding → Type 0
IsEncoding e = IsOf (encoding_doc e) (value_of (named encoding_object))

abbrev IsHeader : Header → Type 0
IsHeader h = IsOf (header_doc h) (value_of (named header_object))

pub encoding_of_kind : (e : Encoding) → IsOf (encoding_doc e) (value_of (named encoding_object))
encoding_of_kind = ind-Encoding IsContent IsEncoding IsHeader
    (λ x y is. subst (λ d. IsOf d (value_of (named media_type_object))) (sym (ap (content_layer encoding_doc) (out-roll-Content x ∙ sym is) ∙ content_natural encoding_doc (λ e. e.0) (λ e. e.0) (λ e. e.0) y))
    (content_layer_of_kind (λ e. encoding_doc e.0) (λ e. e.1) y))
    (λ x y is. subst (λ d. IsOf d (value_of (named encoding_object))) (sym (encoding_is _ ∙ ap (encoding_layer header_doc encoding_doc) (out-roll-Encoding x ∙ sym is) ∙ encoding_natural header_doc encoding_doc (λ e. e.0) (λ e. e.0) (λ e. e.0) y))
    (encoding_layer_of_kind (λ h. header_doc h.0) (λ h. h.1) (λ e. encoding_doc e.0) (λ e. e.1) y))
    (λ x y is. subst (λ d. IsOf d (value_of (named header_object))) (sym (ap (header_layer content_doc) (out-roll-Header x ∙ sym is) ∙ header_natural content_doc (λ e. e.0) (λ e. e.0) (λ e. e.0) y))
    (header_layer_of_kind (λ c. content_doc c.0) (λ c. c.1) y))

pub content_of_kind : (c : Content) → IsOf (content_doc c) (value_of (named media_type_object))
content_of_kind c = content_layer_of_kind encoding_doc encoding_of_kind (out-Content c)

pub header_of_kind : (h : Header) → IsOf (header_doc h) (value_of (named header_object))
header_of_kind h = header_layer_of_kind content_doc content_of_kind (out-Header h)
