-- The documents of encodings, a layer at a time.
use Rattle.std.proofs.Common.{◌≡◌, ◌∙◌, refl, ap, List, [], ◌∷◌, String, Global}
use Rattle.utoipa_base.specs.Docs.{Doc, map_doc, entries_of_list}
use Rattle.utoipa_base.specs.Kinds.{Kind, named, media_type_object, header_object}
use Rattle.utoipa_base.specs.Refs.{ref_or_doc}
use Rattle.utoipa_base.specs.Views.{boxed, pairs_of, option_of, list_of_docs, map_of_docs}
use Rattle.utoipa_base.specs.declared.refs.RefOr.{RefOr}
use Rattle.utoipa_base.specs.declared.refs.RefOr.TheVariants as made
use Rattle.utoipa_media.specs.Layers.{content_natural, encoding_natural, header_natural}
use Rattle.utoipa_media.specs.Docs.{as_is, content_layer, encoding_table, encoding_layer, header_table, header_layer, encoding_doc, content_doc, header_doc}
use Rattle.utoipa_media.specs.declared.types.Content.{Content, fold-Content, fold_out-Content, out-Content}
use Rattle.utoipa_media.specs.declared.types.Encoding.{Encoding, Encoding-F, fold_out-Encoding, out-Encoding}
use Rattle.utoipa_media.specs.declared.types.Header.{Header, Header-F, fold-Header, fold_out-Header, out-Header}

-- the entries of a map whose values have the same documents by two words
same_pairs : {X : Type 0} (f g : X → Doc) → ((x : X) → f x ≡ g x) → (es : List (String Global × X)) → pairs_of f es ≡ pairs_of g es
same_pairs f g same [] = refl
same_pairs f g same (e ∷ es) = rw (same e.1, same_pairs f g same es)

-- references, or values with the same documents by two words
same_places : {X : Type 0} (k : Kind) (f g : X → Doc) → ((x : X) → f x ≡ g x) → (r : RefOr X) → ref_or_doc k f r ≡ ref_or_doc k g r
same_places k f g same (made.Ref r) = refl
same_places k f g same (made.T x) = rw (same x)

abbrev content_fold : Content → Doc
content_fold = fold-Content Doc Doc Doc (content_layer as_is) (encoding_layer as_is as_is) (header_layer as_is)

abbrev header_fold : Header → Doc
header_fold = fold-Header Doc Doc Doc (content_layer as_is) (encoding_layer as_is as_is) (header_layer as_is)

content_is : (x : Content) → content_fold x ≡ content_doc x
content_is x = fold_out-Content Doc Doc Doc (content_layer as_is) (encoding_layer as_is as_is) (header_layer as_is) x ∙ content_natural as_is content_fold encoding_doc header_fold (out-Content x)

header_of_same : {E H : Type 0} (f g : Content → Doc) → ((x : Content) → f x ≡ g x) → (x : Header-F Content E H) → header_layer f x ≡ header_layer g x
header_of_same f g same x = ap (λ es. header_table (map_doc (entries_of_list es)) x) (same_pairs _ _ (same_places (named media_type_object) f g same) x.content.entries)

header_is : (x : Header) → header_fold x ≡ header_doc x
header_is x =
    fold_out-Header Doc Doc Doc (content_layer as_is) (encoding_layer as_is as_is) (header_layer as_is) x ∙ header_natural as_is content_fold encoding_doc header_fold (out-Header x)
    ∙ header_of_same content_fold content_doc content_is (out-Header x)

encoding_of_same : {C : Type 0} (f g : Header → Doc) → ((x : Header) → f x ≡ g x) → (x : Encoding-F C Encoding Header) → encoding_layer f encoding_doc x ≡ encoding_layer g encoding_doc x
encoding_of_same f g same x =
    ap (λ es. encoding_table (map_doc (entries_of_list es)) (map_of_docs encoding_doc x.encoding) (list_of_docs encoding_doc x.prefix_encoding) (option_of (boxed encoding_doc) x.item_encoding) x)
    (same_pairs _ _ (same_places (named header_object) f g same) x.headers.entries)

-- the document of an encoding is a layer over those of the headers and encodings in it
pub encoding_is : (x : Encoding) → encoding_doc x ≡ encoding_layer header_doc encoding_doc (out-Encoding x)
encoding_is x =
    fold_out-Encoding Doc Doc Doc (content_layer as_is) (encoding_layer as_is as_is) (header_layer as_is) x ∙ encoding_natural as_is as_is content_fold encoding_doc header_fold (out-Encoding x)
    ∙ encoding_of_same header_fold header_doc header_is (out-Encoding x)
