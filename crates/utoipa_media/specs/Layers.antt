-- A layer's document, where the values in the layer were mapped first.
use Rattle.std.proofs.Common.{◌≡◌, ◌∙◌, refl, ap, Option, Some, None, Global, Box}
use Rattle.utoipa_base.specs.Docs.{Doc, docs_of, list_doc, map_doc, entries_of_list}
use Rattle.utoipa_base.specs.Kinds.{named, media_type_object, header_object}
use Rattle.utoipa_base.specs.Mapped.{list_through, entries_through}
use Rattle.utoipa_base.specs.Refs.{ref_or_doc}
use Rattle.utoipa_base.specs.Views.{boxed, option_of}
use Rattle.utoipa_base.specs.declared.refs.RefOr.TheVariants as made
use Rattle.utoipa_media.specs.Docs.{content_table, content_layer, encoding_table, encoding_layer, header_table, header_layer}
use Rattle.utoipa_media.specs.declared.types.Content.{Content-F, map-Content}
use Rattle.utoipa_media.specs.declared.types.Encoding.{Encoding-F, map-Encoding}
use Rattle.utoipa_media.specs.declared.types.Header.{Header-F, map-Header}

same_content : {C E H : Type 0} (m m' l l' i i' : Doc) (x : Content-F C E H) → m ≡ m' → l ≡ l' → i ≡ i' → content_table m l i x ≡ content_table m' l' i' x
same_content m m' l l' i i' x em el ei = ap (λ y. content_table y l i x) em ∙ ap (λ y. content_table m' y i x) el ∙ ap (λ y. content_table m' l' y x) ei

same_encoding : {C E H : Type 0} (h h' m m' l l' i i' : Doc) (x : Encoding-F C E H) → h ≡ h' → m ≡ m' → l ≡ l' → i ≡ i' → encoding_table h m l i x ≡ encoding_table h' m' l' i' x
same_encoding h h' m m' l l' i i' x eh em el ei =
    ap (λ y. encoding_table y m l i x) eh ∙ ap (λ y. encoding_table h' y l i x) em ∙ ap (λ y. encoding_table h' m' y i x) el ∙ ap (λ y. encoding_table h' m' l' y x) ei

content_item : {C E H C' E' H' : Type 0} (f : E' → Doc) (c : C → C') (e : E → E') (h : H → H') (x : Content-F C E H) (o : Option (Box E Global))
    → option_of (boxed f) (map-Content C E H C' E' H' c e h (record x { item_encoding = o })).item_encoding ≡ option_of (boxed (λ v. f (e v))) o
content_item f c e h x None = refl
content_item f c e h x (Some b) = refl

pub content_natural : {C E H C' E' H' : Type 0} (f : E' → Doc) (c : C → C') (e : E → E') (h : H → H') (x : Content-F C E H)
    → content_layer f (map-Content C E H C' E' H' c e h x) ≡ content_layer (λ v. f (e v)) x
content_natural f c e h x =
    same_content _ _ _ _ _ _ x
    (ap (λ es. map_doc (entries_of_list es)) (entries_through f _ (λ v. f (e v)) (λ k v. refl) x.encoding.entries))
    (ap (λ ds. list_doc (docs_of ds)) (list_through f e (λ v. f (e v)) (λ v. refl) x.prefix_encoding.items))
    (content_item f c e h x x.item_encoding)

encoding_item : {C E H C' E' H' : Type 0} (f : E' → Doc) (c : C → C') (e : E → E') (h : H → H') (x : Encoding-F C E H) (o : Option (Box E Global))
    → option_of (boxed f) (map-Encoding C E H C' E' H' c e h (record x { item_encoding = o })).item_encoding ≡ option_of (boxed (λ v. f (e v))) o
encoding_item f c e h x None = refl
encoding_item f c e h x (Some b) = refl

pub encoding_natural : {C E H C' E' H' : Type 0} (g : H' → Doc) (f : E' → Doc) (c : C → C') (e : E → E') (h : H → H') (x : Encoding-F C E H)
    → encoding_layer g f (map-Encoding C E H C' E' H' c e h x) ≡ encoding_layer (λ v. g (h v)) (λ v. f (e v)) x
encoding_natural g f c e h x =
    same_encoding _ _ _ _ _ _ _ _ x
    (ap (λ es. map_doc (entries_of_list es)) (entries_through (ref_or_doc (named header_object) g) _ (ref_or_doc (named header_object) (λ v. g (h v))) (λ k. elim [ made.Ref r ↦ refl | made.T t ↦ refl ]) x.headers.entries))
    (ap (λ es. map_doc (entries_of_list es)) (entries_through f _ (λ v. f (e v)) (λ k v. refl) x.encoding.entries))
    (ap (λ ds. list_doc (docs_of ds)) (list_through f e (λ v. f (e v)) (λ v. refl) x.prefix_encoding.items))
    (encoding_item f c e h x x.item_encoding)

pub header_natural : {C E H C' E' H' : Type 0} (f : C' → Doc) (c : C → C') (e : E → E') (h : H → H') (x : Header-F C E H)
    → header_layer f (map-Header C E H C' E' H' c e h x) ≡ header_layer (λ v. f (c v)) x
header_natural f c e h x =
    ap (λ es. header_table (map_doc (entries_of_list es)) x) (entries_through (ref_or_doc (named media_type_object) f) _ (ref_or_doc (named media_type_object) (λ v. f (c v))) (λ k. elim [ made.Ref r ↦ refl | made.T t ↦ refl ]) x.content.entries)
