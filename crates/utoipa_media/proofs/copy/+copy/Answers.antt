-- The answers of the functions that copy contents, encodings and headers.
use Rattle.std.proofs.Common.{◌≡◌, ◌∙◌, ◌<◌, ◌∷◌, ◌++◌, map, length, String, Global, refl, sym, ap, arith, rules}
use Rattle.std.proofs.lemmas.Result.{IfOk-weaker}
use Rattle.utoipa_base.specs.Docs.{no_docs, some_doc, own_doc, ref_doc, list_doc, docs_of}
use Rattle.utoipa_base.specs.Kinds.{named, media_type_object, header_object}
use Rattle.utoipa_base.specs.Refs.{ref_or_doc}
use Rattle.utoipa_base.specs.Views.{boxed, option_of, list_of_docs, map_of_docs}
use Rattle.utoipa_base.specs.declared.refs.RefOr.{RefOr}
use Rattle.utoipa_base.proofs.Weights.{weight, lighter_item, lighter_member, lighter_some, lighter_own}
use Rattle.utoipa_base.proofs.TableParts.{same_field}
use Rattle.utoipa_base.proofs.WritingLists.{copied_item, copied_list}
use Rattle.utoipa_base.proofs.WritingMaps.{copied_begun, copied_step, copied_map}
use Rattle.utoipa_media.specs.Docs.{content_doc, encoding_doc, header_doc}
use Rattle.utoipa_media.specs.declared.types.Content.{Content}
use Rattle.utoipa_media.specs.Parts.{encodings_docs}
use Rattle.utoipa_media.specs.declared.types.Encoding.{Encoding, out-Encoding}
use Rattle.utoipa_media.specs.declared.types.Header.{Header}
use Rattle.utoipa_media.proofs.Beside.{made_is}
use Rattle.utoipa_media.proofs.Weights.{lighter_content, lighter_encoding, lighter_encodings, lighter_header}
use Rattle.utoipa_media.proofs.copy.+copy.Goals as goal

pub clone_content-clone_encodings-requires : goal.clone_content-clone_encodings-requires
clone_content-clone_encodings-requires t c = (omega (arith, lighter_content c.args.content.now), tt)

pub clone_content-returns : goal.clone_content-returns
clone_content-returns t c = IfOk-weaker c.clone_content_with.result _ _ (λ copy h. h c.in_ok-encodings.ensures) c.clone_content_with.ensures

pub clone_encoding-clone_header_map-requires : goal.clone_encoding-clone_header_map-requires
clone_encoding-clone_header_map-requires t c = (omega (arith, (lighter_encoding c.args.encoding.now).0), tt)

pub clone_encoding-clone_encodings-encodings-requires : goal.clone_encoding-clone_encodings-encodings-requires
clone_encoding-clone_encodings-encodings-requires t c = (omega (arith, (lighter_encoding c.args.encoding.now).1), tt)

pub clone_encoding-returns : goal.clone_encoding-returns
clone_encoding-returns t c =
    let x = out-Encoding c.args.encoding.now in
    let both = c.in_ok-headers-2.ensures.ok in
    let headers = ap (map_of_docs (ref_or_doc (named header_object) header_doc)) both.0 ∙ c.in_ok-headers.ensures in
    let encodings = made_is (λ e. encodings_docs e.0 e.1 e.2 ≡ encodings_docs x.encoding x.prefix_encoding x.item_encoding) _ _ c.clone_encodings-encodings.ensures both.1 in
    IfOk-weaker c.clone_encoding_with.result _ _ (λ copy h. h headers encodings) c.clone_encoding_with.ensures

pub clone_encodings-clone_encoding_map-requires : goal.clone_encodings-clone_encoding_map-requires
clone_encodings-clone_encoding_map-requires t c = (omega (arith, (lighter_encodings c.args.by_name.now c.args.first.now c.args.rest.now).0), tt)

pub clone_encodings-clone_encoding_list-requires : goal.clone_encodings-clone_encoding_list-requires
clone_encodings-clone_encoding_list-requires t c = (omega (arith, (lighter_encodings c.args.by_name.now c.args.first.now c.args.rest.now).1), tt)

pub clone_encodings-clone_item_encoding-requires : goal.clone_encodings-clone_item_encoding-requires
clone_encodings-clone_item_encoding-requires t c = (omega (arith, (lighter_encodings c.args.by_name.now c.args.first.now c.args.rest.now).2), tt)

pub clone_encodings-returns : goal.clone_encodings-returns
clone_encodings-returns t c =
    let kept = c.in_ok-by_name-3.ensures.ok.0 in
    let by_name = ap (λ k. map_of_docs encoding_doc k.0) kept ∙ ap (map_of_docs encoding_doc) c.in_ok-by_name-2.ensures.ok.0 ∙ c.in_ok-by_name.ensures in
    let first = ap (λ k. list_of_docs encoding_doc k.1) kept
    ∙ made_is (λ l. list_of_docs encoding_doc l ≡ list_of_docs encoding_doc c.args.first.now) _ _ c.clone_encoding_list.ensures c.in_ok-by_name-2.ensures.ok.1 in
    let rest = made_is (λ o. option_of (boxed encoding_doc) o ≡ option_of (boxed encoding_doc) c.args.rest.now) _ _ c.clone_item_encoding.ensures c.in_ok-by_name-3.ensures.ok.1 in
    same_field _ _ _ _ by_name (same_field _ _ _ _ rest (same_field _ _ no_docs no_docs first refl))

pub clone_header-clone_content_map-requires : goal.clone_header-clone_content_map-requires
clone_header-clone_content_map-requires t c = (omega (arith, lighter_header c.args.header.now), tt)

pub clone_header-returns : goal.clone_header-returns
clone_header-returns t c = IfOk-weaker c.clone_header_with.result _ _ (λ copy h. h c.in_ok-content.ensures) c.clone_header_with.ensures

pub clone_ref_or_content-clone_content-requires : goal.clone_ref_or_content-clone_content-requires
clone_ref_or_content-clone_content-requires t c =
    let whole : ref_or_doc (named media_type_object) content_doc c.args.place.now ≡ own_doc (content_doc c.in-T.value) = ap (ref_or_doc (named media_type_object) content_doc) c.in-T.is in
    (omega (arith, ap weight whole, lighter_own (content_doc c.in-T.value)), tt)

pub clone_ref_or_content-returns-in_ok-try_clone-in-Ref : goal.clone_ref_or_content-returns-in_ok-try_clone-in-Ref
clone_ref_or_content-returns-in_ok-try_clone-in-Ref t c = ap (ref_doc (named media_type_object)) c.in_ok-try_clone-in-Ref.ensures ∙ sym (ap (ref_or_doc (named media_type_object) content_doc) c.in-Ref.is)

pub clone_ref_or_content-returns-in_ok-clone_content-in-T : goal.clone_ref_or_content-returns-in_ok-clone_content-in-T
clone_ref_or_content-returns-in_ok-clone_content-in-T t c = ap own_doc c.in_ok-clone_content-in-T.ensures ∙ sym (ap (ref_or_doc (named media_type_object) content_doc) c.in-T.is)

pub clone_ref_or_header-clone_header-requires : goal.clone_ref_or_header-clone_header-requires
clone_ref_or_header-clone_header-requires t c =
    let whole : ref_or_doc (named header_object) header_doc c.args.place.now ≡ own_doc (header_doc c.in-T.value) = ap (ref_or_doc (named header_object) header_doc) c.in-T.is in
    (omega (arith, ap weight whole, lighter_own (header_doc c.in-T.value)), tt)

pub clone_ref_or_header-returns-in_ok-try_clone-in-Ref : goal.clone_ref_or_header-returns-in_ok-try_clone-in-Ref
clone_ref_or_header-returns-in_ok-try_clone-in-Ref t c = ap (ref_doc (named header_object)) c.in_ok-try_clone-in-Ref.ensures ∙ sym (ap (ref_or_doc (named header_object) header_doc) c.in-Ref.is)

pub clone_ref_or_header-returns-in_ok-clone_header-in-T : goal.clone_ref_or_header-returns-in_ok-clone_header-in-T
clone_ref_or_header-returns-in_ok-clone_header-in-T t c = ap own_doc c.in_ok-clone_header-in-T.ensures ∙ sym (ap (ref_or_doc (named header_object) header_doc) c.in-T.is)

pub clone_encoding_list-clone_encoding-requires : goal.clone_encoding_list-clone_encoding-requires
clone_encoding_list-clone_encoding-requires t c =
    let f = encoding_doc in
    let l = c.loop-item in
    let xs = c.deref-item-items.result.now in
    let x = c.item-item.result in
    let within : l.item-index < length xs = omega arith in
    let all : xs ≡ c.args.encodings.now.items = c.deref-item-items.ensures.value in
    (omega (arith, lighter_item f xs l.item-index x within c.item-item.is, ap (λ ys. weight (list_doc (docs_of (map f ys)))) all), tt)

pub clone_encoding_list-loop-item-preserved : goal.clone_encoding_list-loop-item-preserved
clone_encoding_list-loop-item-preserved t c =
    let f = encoding_doc in
    let pushed = c.in_ok-push_copied.ensures in
    copied_item f c.deref-item-items.result.now c.loop-item.item-index c.loop-item.list.items _ c.item-item.result pushed.0 c.loop-item.invariant (omega arith) c.item-item.is
    (made_is (λ v. f v ≡ f c.item-item.result) _ _ c.clone_encoding.ensures pushed.1) pushed.2

pub clone_encoding_list-returns : goal.clone_encoding_list-returns
clone_encoding_list-returns t c = copied_list encoding_doc c.deref-item-items.result.now c.loop-item.item-index c.loop-item.list c.args.encodings.now c.loop-item.invariant (omega arith) c.deref-item-items.ensures.value

pub clone_encoding_map-clone_encoding-requires : goal.clone_encoding_map-clone_encoding-requires
clone_encoding_map-clone_encoding-requires t c =
    let e : String Global × Encoding = (c.in-Some.key.now, c.in-Some.member.now) in
    let all : c.args.encodings.now.entries ≡ c.loop-key.invariant.done ++ e ∷ c.next.new.self = c.loop-key.invariant.split ∙ ap (λ es. c.loop-key.invariant.done ++ es) c.in-Some.ensures.steps in
    (omega (arith, lighter_member encoding_doc c.args.encodings.now.entries c.loop-key.invariant.done e c.next.new.self all), tt)

pub clone_encoding_map-loop-key-init : goal.clone_encoding_map-loop-key-init
clone_encoding_map-loop-key-init t c = copied_begun encoding_doc _ _ _ (c.into_iter-key-iterator.ensures.into_iter_gives ∙ c.iter-key-items.ensures.rest) (search rules)

pub clone_encoding_map-loop-key-preserved : goal.clone_encoding_map-loop-key-preserved
clone_encoding_map-loop-key-preserved t c =
    let f = encoding_doc in
    let put = c.in_ok-put_copied.ensures in
    copied_step f _ _ _ _ _ _ put.0 put.1 c.loop-key.invariant c.in-Some.ensures.steps c.iter-key-items.ensures.ordered put.2 (made_is (λ v. f v ≡ f c.in-Some.member.now) _ _ c.clone_encoding.ensures put.3) put.4

pub clone_encoding_map-returns : goal.clone_encoding_map-returns
clone_encoding_map-returns t c = copied_map encoding_doc c.args.encodings.now c.loop-key.map _ c.loop-key.invariant c.in-None.ensures.steps.0

pub clone_header_map-clone_ref_or_header-requires : goal.clone_header_map-clone_ref_or_header-requires
clone_header_map-clone_ref_or_header-requires t c =
    let e : String Global × RefOr Header = (c.in-Some.key.now, c.in-Some.member.now) in
    let all : c.args.headers.now.entries ≡ c.loop-key.invariant.done ++ e ∷ c.next.new.self = c.loop-key.invariant.split ∙ ap (λ es. c.loop-key.invariant.done ++ es) c.in-Some.ensures.steps in
    (omega (arith, lighter_member (ref_or_doc (named header_object) header_doc) c.args.headers.now.entries c.loop-key.invariant.done e c.next.new.self all), tt)

pub clone_header_map-loop-key-init : goal.clone_header_map-loop-key-init
clone_header_map-loop-key-init t c = copied_begun (ref_or_doc (named header_object) header_doc) _ _ _ (c.into_iter-key-iterator.ensures.into_iter_gives ∙ c.iter-key-items.ensures.rest) (search rules)

pub clone_header_map-loop-key-preserved : goal.clone_header_map-loop-key-preserved
clone_header_map-loop-key-preserved t c =
    let f = (ref_or_doc (named header_object) header_doc) in
    let put = c.in_ok-put_copied.ensures in
    copied_step f _ _ _ _ _ _ put.0 put.1 c.loop-key.invariant c.in-Some.ensures.steps c.iter-key-items.ensures.ordered put.2 (made_is (λ v. f v ≡ f c.in-Some.member.now) _ _ c.clone_ref_or_header.ensures put.3) put.4

pub clone_header_map-returns : goal.clone_header_map-returns
clone_header_map-returns t c = copied_map (ref_or_doc (named header_object) header_doc) c.args.headers.now c.loop-key.map _ c.loop-key.invariant c.in-None.ensures.steps.0

pub clone_content_map-clone_ref_or_content-requires : goal.clone_content_map-clone_ref_or_content-requires
clone_content_map-clone_ref_or_content-requires t c =
    let e : String Global × RefOr Content = (c.in-Some.key.now, c.in-Some.member.now) in
    let all : c.args.contents.now.entries ≡ c.loop-key.invariant.done ++ e ∷ c.next.new.self = c.loop-key.invariant.split ∙ ap (λ es. c.loop-key.invariant.done ++ es) c.in-Some.ensures.steps in
    (omega (arith, lighter_member (ref_or_doc (named media_type_object) content_doc) c.args.contents.now.entries c.loop-key.invariant.done e c.next.new.self all), tt)

pub clone_content_map-loop-key-init : goal.clone_content_map-loop-key-init
clone_content_map-loop-key-init t c = copied_begun (ref_or_doc (named media_type_object) content_doc) _ _ _ (c.into_iter-key-iterator.ensures.into_iter_gives ∙ c.iter-key-items.ensures.rest) (search rules)

pub clone_content_map-loop-key-preserved : goal.clone_content_map-loop-key-preserved
clone_content_map-loop-key-preserved t c =
    let f = (ref_or_doc (named media_type_object) content_doc) in
    let put = c.in_ok-put_copied.ensures in
    copied_step f _ _ _ _ _ _ put.0 put.1 c.loop-key.invariant c.in-Some.ensures.steps c.iter-key-items.ensures.ordered put.2 (made_is (λ v. f v ≡ f c.in-Some.member.now) _ _ c.clone_ref_or_content.ensures put.3) put.4

pub clone_content_map-returns : goal.clone_content_map-returns
clone_content_map-returns t c = copied_map (ref_or_doc (named media_type_object) content_doc) c.args.contents.now c.loop-key.map _ c.loop-key.invariant c.in-None.ensures.steps.0

pub clone_item_encoding-clone_encoding-requires : goal.clone_item_encoding-clone_encoding-requires
clone_item_encoding-clone_encoding-requires t c =
    let place : c.deref.result.now ≡ c.in-Some.value.value = c.deref.ensures in
    let whole : option_of (boxed encoding_doc) c.args.member.now ≡ some_doc (encoding_doc c.deref.result.now) = ap (option_of (boxed encoding_doc)) c.in-Some.is ∙ ap (λ p. some_doc (encoding_doc p)) (sym place) in
    (omega (arith, ap weight whole, lighter_some (encoding_doc c.deref.result.now)), tt)

pub clone_item_encoding-returns-in_ok-new-in-Some : goal.clone_item_encoding-returns-in_ok-new-in-Some
clone_item_encoding-returns-in_ok-new-in-Some t c =
    let place : c.deref.result.now ≡ c.in-Some.value.value = c.deref.ensures in
    let whole : option_of (boxed encoding_doc) c.args.member.now ≡ some_doc (encoding_doc c.deref.result.now) = ap (option_of (boxed encoding_doc)) c.in-Some.is ∙ ap (λ p. some_doc (encoding_doc p)) (sym place) in
    let made : c.in_ok-new-in-Some.field-0.value ≡ c.in_ok-copied-in-Some.copied = search rules in
    ap (λ p. some_doc (encoding_doc p)) made ∙ ap some_doc c.in_ok-copied-in-Some.ensures ∙ sym whole

pub clone_item_encoding-returns-in-None : goal.clone_item_encoding-returns-in-None
clone_item_encoding-returns-in-None t c = sym (ap (option_of (boxed encoding_doc)) c.in-None.is)
