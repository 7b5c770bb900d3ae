-- The answers of the functions that read contents, encodings and headers.
use Rattle.std.proofs.Common.{◌≡◌, true, false, map, not, [], drop, Ok, Some, None, option_map, string_cmp, sym, ap, ◌∙◌, subst, arith, rules, codes, refl}
use Rattle.std.proofs.lemmas.Grind.{common_steps}
use Rattle.std.specs.List.Sorted.{IsStrictlySortedBy}
use Rattle.std.specs.Map.{keys_of}
use Rattle.serde_json.specs.Find.{get, as_array, as_object}
use Rattle.serde_json.specs.View.{view, items_view, members_view}
use Rattle.utoipa_base.specs.Docs.{list_doc}
use Rattle.utoipa_base.specs.Faults.{fitting}
use Rattle.utoipa_base.specs.Kinds.{named, ref_or, list_of, map_of, reference_object, media_type_object, encoding_object, header_object}
use Rattle.utoipa_base.specs.Reading.{read, is_null}
use Rattle.utoipa_base.specs.Refs.{reference_doc, ref_or_doc}
use Rattle.utoipa_base.specs.Views.{boxed, option_of, list_of_docs, map_of_docs}
use Rattle.utoipa_base.specs.declared.fault.ReadFault.TheVariants.{Memory}
use Rattle.utoipa_base.proofs.AbsentMembers.{list_absent, map_absent}
use Rattle.utoipa_base.proofs.Alternatives.{ref_reads, own_reads}
use Rattle.utoipa_base.proofs.ByRows.{null_as, table_refused, fields-first, fields-later}
use Rattle.utoipa_base.proofs.Members.{member_at, count_at, list_none, map_none}
use Rattle.utoipa_base.proofs.PartsRead.{part_as, parts_fewer}
use Rattle.utoipa_base.proofs.Places.{own_none, own_places, reference_uncounted}
use Rattle.utoipa_base.proofs.Readers.{refused_unread, passes_refusal, passes_memory, reads_value, member_fewer, defaulted_read, optional_read, optional_refused, optional_null, optional_absent, item_fewer, entry_fewer}
use Rattle.utoipa_base.proofs.ReadingLists.{list_begun, list_step, list_read}
use Rattle.utoipa_base.proofs.ReadingMaps.{map_begun, map_step, map_read}
use Rattle.utoipa_base.proofs.RowLists.{first_refused, later_refused, passes_reads, reads_as}
use Rattle.utoipa_base.proofs.TableParts.{woven-refused, no_fields_of_part}
use Rattle.utoipa_base.proofs.Tried.{fits_as, fits_not}
use Rattle.utoipa_media.specs.Docs.{content_doc, encoding_doc, header_doc}
use Rattle.utoipa_media.specs.Parts.{content_order, content_rows, encodings_docs, encodings_rows}
use Rattle.utoipa_media.proofs.Beside.{list_item_refused, map_entry_refused, reads_fault}
use Rattle.utoipa_media.proofs.Counts.{encoding_values, header_values}
use Rattle.utoipa_media.proofs.EncodingParts.{encodings_order, other_rows, encoding_parts_fewer, encodings_read}
use Rattle.utoipa_media.proofs.read.+read.Goals as goal

pub read_encodings_by_name-read_encoding_map-requires : goal.read_encodings_by_name-read_encoding_map-requires
read_encodings_by_name-read_encoding_map-requires t c =
    let found : option_map (λ v. view v.now) c.get.result ≡ get (codes "encoding") (view c.args.tree.now) = search rules in
    (omega (arith, member_fewer (codes "encoding") (view c.args.tree.now) c.get.result c.in-Some.member found c.in-Some.is), tt)

pub read_encodings_by_name-returns-in-Some : goal.read_encodings_by_name-returns-in-Some
read_encodings_by_name-returns-in-Some t c =
    let found : option_map (λ v. view v.now) c.get.result ≡ get (codes "encoding") (view c.args.tree.now) = search rules in
    defaulted_read (map_of_docs encoding_doc) (codes "encoding") (map_of (named encoding_object)) (view c.args.tree.now) c.get.result c.in-Some.member _ _ _ found c.in-Some.is c.read_encoding_map.ensures

pub read_encodings_by_name-returns-in-None : goal.read_encodings_by_name-returns-in-None
read_encodings_by_name-returns-in-None t c =
    let gone : get (codes "encoding") (view c.args.tree.now) ≡ None = search rules in
    let none : c.new.result.entries ≡ [] = search rules in
    map_absent encoding_doc (codes "encoding") (named encoding_object) (view c.args.tree.now) c.new.result _ gone none

pub read_first_encodings-read_encoding_list-requires : goal.read_first_encodings-read_encoding_list-requires
read_first_encodings-read_encoding_list-requires t c =
    let found : option_map (λ v. view v.now) c.get.result ≡ get (codes "prefixEncoding") (view c.args.tree.now) = search rules in
    (omega (arith, member_fewer (codes "prefixEncoding") (view c.args.tree.now) c.get.result c.in-Some.member found c.in-Some.is), tt)

pub read_first_encodings-returns-in-Some : goal.read_first_encodings-returns-in-Some
read_first_encodings-returns-in-Some t c =
    let found : option_map (λ v. view v.now) c.get.result ≡ get (codes "prefixEncoding") (view c.args.tree.now) = search rules in
    defaulted_read (list_of_docs encoding_doc) (codes "prefixEncoding") (list_of (named encoding_object)) (view c.args.tree.now) c.get.result c.in-Some.member _ _ _ found c.in-Some.is c.read_encoding_list.ensures

pub read_first_encodings-returns-in-None : goal.read_first_encodings-returns-in-None
read_first_encodings-returns-in-None t c =
    let gone : get (codes "prefixEncoding") (view c.args.tree.now) ≡ None = search rules in
    let none : c.new.result.items ≡ [] = search rules in
    list_absent encoding_doc (codes "prefixEncoding") (named encoding_object) (view c.args.tree.now) c.new.result _ gone none

pub read_headers-read_header_map-requires : goal.read_headers-read_header_map-requires
read_headers-read_header_map-requires t c =
    let found : option_map (λ v. view v.now) c.get.result ≡ get (codes "headers") (view c.args.tree.now) = search rules in
    (omega (arith, member_fewer (codes "headers") (view c.args.tree.now) c.get.result c.in-Some.member found c.in-Some.is), tt)

pub read_headers-returns-in-Some : goal.read_headers-returns-in-Some
read_headers-returns-in-Some t c =
    let found : option_map (λ v. view v.now) c.get.result ≡ get (codes "headers") (view c.args.tree.now) = search rules in
    defaulted_read (map_of_docs (ref_or_doc (named header_object) header_doc)) (codes "headers") (map_of (ref_or (named header_object))) (view c.args.tree.now) c.get.result c.in-Some.member _ _ _ found c.in-Some.is c.read_header_map.ensures

pub read_headers-returns-in-None : goal.read_headers-returns-in-None
read_headers-returns-in-None t c =
    let gone : get (codes "headers") (view c.args.tree.now) ≡ None = search rules in
    let none : c.new.result.entries ≡ [] = search rules in
    map_absent (ref_or_doc (named header_object) header_doc) (codes "headers") (ref_or (named header_object)) (view c.args.tree.now) c.new.result _ gone none

pub read_contents-read_content_map-requires : goal.read_contents-read_content_map-requires
read_contents-read_content_map-requires t c =
    let found : option_map (λ v. view v.now) c.get.result ≡ get (codes "content") (view c.args.tree.now) = search rules in
    (omega (arith, member_fewer (codes "content") (view c.args.tree.now) c.get.result c.in-Some.member found c.in-Some.is), tt)

pub read_contents-returns-in-Some : goal.read_contents-returns-in-Some
read_contents-returns-in-Some t c =
    let found : option_map (λ v. view v.now) c.get.result ≡ get (codes "content") (view c.args.tree.now) = search rules in
    defaulted_read (map_of_docs (ref_or_doc (named media_type_object) content_doc)) (codes "content") (map_of (ref_or (named media_type_object))) (view c.args.tree.now) c.get.result c.in-Some.member _ _ _ found c.in-Some.is c.read_content_map.ensures

pub read_contents-returns-in-None : goal.read_contents-returns-in-None
read_contents-returns-in-None t c =
    let gone : get (codes "content") (view c.args.tree.now) ≡ None = search rules in
    let none : c.new.result.entries ≡ [] = search rules in
    map_absent (ref_or_doc (named media_type_object) content_doc) (codes "content") (ref_or (named media_type_object)) (view c.args.tree.now) c.new.result _ gone none

pub read_item_encoding-read_encoding-requires : goal.read_item_encoding-read_encoding-requires
read_item_encoding-read_encoding-requires t c =
    let found : option_map (λ v. view v.now) c.get.result ≡ get (codes "itemEncoding") (view c.args.tree.now) = search rules in
    (omega (arith, member_fewer (codes "itemEncoding") (view c.args.tree.now) c.get.result c.in-Some.member found c.in-Some.is), tt)

pub read_item_encoding-returns-then-is_null : goal.read_item_encoding-returns-then-is_null
read_item_encoding-returns-then-is_null t c =
    let found : option_map (λ v. view v.now) c.get.result ≡ get (codes "itemEncoding") (view c.args.tree.now) = search rules in
    let none : is_null (view c.in-Some.member.now) ≡ true = search (rules, null_as) in
    optional_null (boxed encoding_doc) (codes "itemEncoding") (named encoding_object) (view c.args.tree.now) c.get.result c.in-Some.member _ found c.in-Some.is none

pub read_item_encoding-returns-in_err-value-in-Some : goal.read_item_encoding-returns-in_err-value-in-Some
read_item_encoding-returns-in_err-value-in-Some t c =
    let found : option_map (λ v. view v.now) c.get.result ≡ get (codes "itemEncoding") (view c.args.tree.now) = search rules in
    let full : is_null (view c.in-Some.member.now) ≡ false = search (rules, null_as) in
    optional_refused encoding_doc (boxed encoding_doc) (codes "itemEncoding") (named encoding_object) (view c.args.tree.now) c.get.result c.in-Some.member _ _ _ _ found c.in-Some.is full c.from_residual.ensures.1 c.in_err-value-in-Some.ensures

pub read_item_encoding-returns-in_err-new-in-Some : goal.read_item_encoding-returns-in_err-new-in-Some
read_item_encoding-returns-in_err-new-in-Some t c =
    let found : option_map (λ v. view v.now) c.get.result ≡ get (codes "itemEncoding") (view c.args.tree.now) = search rules in
    let count = count_at (codes "itemEncoding") (view c.args.tree.now) _ (member_at (codes "itemEncoding") (view c.args.tree.now) c.get.result c.in-Some.member found c.in-Some.is) in
    let one = c.in_ok-value-in-Some.ensures in
    passes_refusal (option_of (boxed encoding_doc)) _ Memory _ _ _ _ c.from_residual-in_err-new-in-Some.ensures.1 tt one.grows (omega (arith, count, one.at_most))

pub read_item_encoding-returns-in_ok-new-in-Some : goal.read_item_encoding-returns-in_ok-new-in-Some
read_item_encoding-returns-in_ok-new-in-Some t c =
    let found : option_map (λ v. view v.now) c.get.result ≡ get (codes "itemEncoding") (view c.args.tree.now) = search rules in
    let full : is_null (view c.in-Some.member.now) ≡ false = search (rules, null_as) in
    let held : c.in_ok-new-in-Some.field-0.value ≡ c.in_ok-value-in-Some.value = search rules in
    optional_read encoding_doc (boxed encoding_doc) (codes "itemEncoding") (named encoding_object) (view c.args.tree.now) c.get.result c.in-Some.member _ _ _ _ found c.in-Some.is full (ap encoding_doc held) c.in_ok-value-in-Some.ensures

pub read_item_encoding-returns-in-None : goal.read_item_encoding-returns-in-None
read_item_encoding-returns-in-None t c =
    let gone : get (codes "itemEncoding") (view c.args.tree.now) ≡ None = search rules in
    optional_absent (boxed encoding_doc) (codes "itemEncoding") (named encoding_object) (view c.args.tree.now) _ gone

pub read_encoding_list-returns-in_default : goal.read_encoding_list-returns-in_default
read_encoding_list-returns-in_default t c =
    let none : as_array (view c.args.tree.now) ≡ None = search rules in
    refused_unread _ _ _ _ _ (list_none (named encoding_object) (view c.args.tree.now) none)

pub read_encoding_list-read_encoding-requires : goal.read_encoding_list-read_encoding-requires
read_encoding_list-read_encoding-requires t c =
    let is : Some (items_view c.deref-item-items.result.now) ≡ as_array (view c.args.tree.now) = ap (λ vs. Some (items_view vs)) c.deref-item-items.ensures.value ∙ c.in-Some.ensures in
    (omega (arith, item_fewer (named encoding_object) encoding_doc _ _ _ _ _ _ _ c.loop-item.invariant (omega arith) c.item-item.is is), tt)

pub read_encoding_list-loop-item-init : goal.read_encoding_list-loop-item-init
read_encoding_list-loop-item-init t c = list_begun (named encoding_object) encoding_doc _ _ _ (search rules)

pub read_encoding_list-loop-item-preserved : goal.read_encoding_list-loop-item-preserved
read_encoding_list-loop-item-preserved t c =
    let pushed = c.in_ok-push_read.ensures.ok in
    list_step (named encoding_object) encoding_doc _ _ _ _ _ _ _ _ pushed.0 c.loop-item.invariant (omega arith) c.item-item.is
    (reads_value encoding_doc _ c.read_encoding.result pushed.0 _ _ _ c.read_encoding.ensures pushed.1) pushed.2

pub read_encoding_list-returns-in_err-push_read : goal.read_encoding_list-returns-in_err-push_read
read_encoding_list-returns-in_err-push_read t c =
    let is : Some (items_view c.deref-item-items.result.now) ≡ as_array (view c.args.tree.now) = ap (λ vs. Some (items_view vs)) c.deref-item-items.ensures.value ∙ c.in-Some.ensures in
    list_item_refused (named encoding_object) encoding_doc _ _ _ _ _ _ _ _ _ _ _ c.read_encoding.result c.loop-item.invariant (omega arith) c.item-item.is is c.from_residual.ensures.1 c.in_err-push_read.ensures.err c.read_encoding.ensures

pub read_encoding_list-returns : goal.read_encoding_list-returns
read_encoding_list-returns t c =
    let is : Some (items_view c.deref-item-items.result.now) ≡ as_array (view c.args.tree.now) = ap (λ vs. Some (items_view vs)) c.deref-item-items.ensures.value ∙ c.in-Some.ensures in
    let done : drop c.loop-item.item-index c.deref-item-items.result.now ≡ [] = grind (arith, common_steps) in
    list_read (named encoding_object) encoding_doc _ _ _ _ _ _ c.loop-item.invariant done is

pub read_encoding_map-returns-in_default : goal.read_encoding_map-returns-in_default
read_encoding_map-returns-in_default t c =
    let none : as_object (view c.args.tree.now) ≡ None = search rules in
    refused_unread _ _ _ _ _ (map_none (named encoding_object) (view c.args.tree.now) none)

pub read_encoding_map-read_encoding-requires : goal.read_encoding_map-read_encoding-requires
read_encoding_map-read_encoding-requires t c =
    let all : c.into_iter-key-iterator.result ≡ c.in-Some.members.now.entries = c.into_iter-key-iterator.ensures.into_iter_gives ∙ c.iter-key-items.ensures.rest in
    let is : Some (members_view c.into_iter-key-iterator.result) ≡ as_object (view c.args.tree.now) = ap (λ vs. Some (members_view vs)) all ∙ c.in-Some.ensures in
    (omega (arith, entry_fewer (named encoding_object) encoding_doc _ _ _ _ _ (c.in-Some-2.key.now, c.in-Some-2.member.now) _ _ c.loop-key.invariant c.in-Some-2.ensures.steps is), tt)

pub read_encoding_map-loop-key-init : goal.read_encoding_map-loop-key-init
read_encoding_map-loop-key-init t c = map_begun (named encoding_object) encoding_doc _ _ _ (search rules)

pub read_encoding_map-loop-key-preserved : goal.read_encoding_map-loop-key-preserved
read_encoding_map-loop-key-preserved t c =
    let all : c.into_iter-key-iterator.result ≡ c.in-Some.members.now.entries = c.into_iter-key-iterator.ensures.into_iter_gives ∙ c.iter-key-items.ensures.rest in
    let ordered = subst (λ r. IsStrictlySortedBy string_cmp (keys_of r)) (sym all) c.iter-key-items.ensures.ordered in
    let put = c.in_ok-put_read.ensures.ok in
    map_step (named encoding_object) encoding_doc _ _ _ _ _ _ _ _ _ put.0 put.1 c.loop-key.invariant c.in-Some-2.ensures.steps ordered put.2 put.4
    (reads_value encoding_doc _ c.read_encoding.result put.1 _ _ _ c.read_encoding.ensures put.3)

pub read_encoding_map-returns-in_err-put_read : goal.read_encoding_map-returns-in_err-put_read
read_encoding_map-returns-in_err-put_read t c =
    let all : c.into_iter-key-iterator.result ≡ c.in-Some.members.now.entries = c.into_iter-key-iterator.ensures.into_iter_gives ∙ c.iter-key-items.ensures.rest in
    let is : Some (members_view c.into_iter-key-iterator.result) ≡ as_object (view c.args.tree.now) = ap (λ vs. Some (members_view vs)) all ∙ c.in-Some.ensures in
    map_entry_refused (named encoding_object) encoding_doc _ _ _ _ _ _ _ _ _ _ _ _ c.read_encoding.result c.loop-key.invariant c.in-Some-2.ensures.steps is c.from_residual.ensures.1 c.in_err-put_read.ensures.err c.read_encoding.ensures

pub read_encoding_map-returns : goal.read_encoding_map-returns
read_encoding_map-returns t c =
    let all : c.into_iter-key-iterator.result ≡ c.in-Some.members.now.entries = c.into_iter-key-iterator.ensures.into_iter_gives ∙ c.iter-key-items.ensures.rest in
    let is : Some (members_view c.into_iter-key-iterator.result) ≡ as_object (view c.args.tree.now) = ap (λ vs. Some (members_view vs)) all ∙ c.in-Some.ensures in
    map_read (named encoding_object) encoding_doc _ _ _ _ _ _ c.loop-key.invariant c.in-None.ensures.steps.0 is

pub read_header_map-returns-in_default : goal.read_header_map-returns-in_default
read_header_map-returns-in_default t c =
    let none : as_object (view c.args.tree.now) ≡ None = search rules in
    refused_unread _ _ _ _ _ (map_none (ref_or (named header_object)) (view c.args.tree.now) none)

pub read_header_map-read_ref_or_header-requires : goal.read_header_map-read_ref_or_header-requires
read_header_map-read_ref_or_header-requires t c =
    let all : c.into_iter-key-iterator.result ≡ c.in-Some.members.now.entries = c.into_iter-key-iterator.ensures.into_iter_gives ∙ c.iter-key-items.ensures.rest in
    let is : Some (members_view c.into_iter-key-iterator.result) ≡ as_object (view c.args.tree.now) = ap (λ vs. Some (members_view vs)) all ∙ c.in-Some.ensures in
    (omega (arith, entry_fewer (ref_or (named header_object)) (ref_or_doc (named header_object) header_doc) _ _ _ _ _ (c.in-Some-2.key.now, c.in-Some-2.member.now) _ _ c.loop-key.invariant c.in-Some-2.ensures.steps is), tt)

pub read_header_map-loop-key-init : goal.read_header_map-loop-key-init
read_header_map-loop-key-init t c = map_begun (ref_or (named header_object)) (ref_or_doc (named header_object) header_doc) _ _ _ (search rules)

pub read_header_map-loop-key-preserved : goal.read_header_map-loop-key-preserved
read_header_map-loop-key-preserved t c =
    let all : c.into_iter-key-iterator.result ≡ c.in-Some.members.now.entries = c.into_iter-key-iterator.ensures.into_iter_gives ∙ c.iter-key-items.ensures.rest in
    let ordered = subst (λ r. IsStrictlySortedBy string_cmp (keys_of r)) (sym all) c.iter-key-items.ensures.ordered in
    let put = c.in_ok-put_read.ensures.ok in
    map_step (ref_or (named header_object)) (ref_or_doc (named header_object) header_doc) _ _ _ _ _ _ _ _ _ put.0 put.1 c.loop-key.invariant c.in-Some-2.ensures.steps ordered put.2 put.4
    (reads_value (ref_or_doc (named header_object) header_doc) _ c.read_ref_or_header.result put.1 _ _ _ c.read_ref_or_header.ensures put.3)

pub read_header_map-returns-in_err-put_read : goal.read_header_map-returns-in_err-put_read
read_header_map-returns-in_err-put_read t c =
    let all : c.into_iter-key-iterator.result ≡ c.in-Some.members.now.entries = c.into_iter-key-iterator.ensures.into_iter_gives ∙ c.iter-key-items.ensures.rest in
    let is : Some (members_view c.into_iter-key-iterator.result) ≡ as_object (view c.args.tree.now) = ap (λ vs. Some (members_view vs)) all ∙ c.in-Some.ensures in
    map_entry_refused (ref_or (named header_object)) (ref_or_doc (named header_object) header_doc) _ _ _ _ _ _ _ _ _ _ _ _ c.read_ref_or_header.result c.loop-key.invariant c.in-Some-2.ensures.steps is c.from_residual.ensures.1 c.in_err-put_read.ensures.err c.read_ref_or_header.ensures

pub read_header_map-returns : goal.read_header_map-returns
read_header_map-returns t c =
    let all : c.into_iter-key-iterator.result ≡ c.in-Some.members.now.entries = c.into_iter-key-iterator.ensures.into_iter_gives ∙ c.iter-key-items.ensures.rest in
    let is : Some (members_view c.into_iter-key-iterator.result) ≡ as_object (view c.args.tree.now) = ap (λ vs. Some (members_view vs)) all ∙ c.in-Some.ensures in
    map_read (ref_or (named header_object)) (ref_or_doc (named header_object) header_doc) _ _ _ _ _ _ c.loop-key.invariant c.in-None.ensures.steps.0 is

pub read_content_map-returns-in_default : goal.read_content_map-returns-in_default
read_content_map-returns-in_default t c =
    let none : as_object (view c.args.tree.now) ≡ None = search rules in
    refused_unread _ _ _ _ _ (map_none (ref_or (named media_type_object)) (view c.args.tree.now) none)

pub read_content_map-read_ref_or_content-requires : goal.read_content_map-read_ref_or_content-requires
read_content_map-read_ref_or_content-requires t c =
    let all : c.into_iter-key-iterator.result ≡ c.in-Some.members.now.entries = c.into_iter-key-iterator.ensures.into_iter_gives ∙ c.iter-key-items.ensures.rest in
    let is : Some (members_view c.into_iter-key-iterator.result) ≡ as_object (view c.args.tree.now) = ap (λ vs. Some (members_view vs)) all ∙ c.in-Some.ensures in
    (omega (arith, entry_fewer (ref_or (named media_type_object)) (ref_or_doc (named media_type_object) content_doc) _ _ _ _ _ (c.in-Some-2.key.now, c.in-Some-2.member.now) _ _ c.loop-key.invariant c.in-Some-2.ensures.steps is), tt)

pub read_content_map-loop-key-init : goal.read_content_map-loop-key-init
read_content_map-loop-key-init t c = map_begun (ref_or (named media_type_object)) (ref_or_doc (named media_type_object) content_doc) _ _ _ (search rules)

pub read_content_map-loop-key-preserved : goal.read_content_map-loop-key-preserved
read_content_map-loop-key-preserved t c =
    let all : c.into_iter-key-iterator.result ≡ c.in-Some.members.now.entries = c.into_iter-key-iterator.ensures.into_iter_gives ∙ c.iter-key-items.ensures.rest in
    let ordered = subst (λ r. IsStrictlySortedBy string_cmp (keys_of r)) (sym all) c.iter-key-items.ensures.ordered in
    let put = c.in_ok-put_read.ensures.ok in
    map_step (ref_or (named media_type_object)) (ref_or_doc (named media_type_object) content_doc) _ _ _ _ _ _ _ _ _ put.0 put.1 c.loop-key.invariant c.in-Some-2.ensures.steps ordered put.2 put.4
    (reads_value (ref_or_doc (named media_type_object) content_doc) _ c.read_ref_or_content.result put.1 _ _ _ c.read_ref_or_content.ensures put.3)

pub read_content_map-returns-in_err-put_read : goal.read_content_map-returns-in_err-put_read
read_content_map-returns-in_err-put_read t c =
    let all : c.into_iter-key-iterator.result ≡ c.in-Some.members.now.entries = c.into_iter-key-iterator.ensures.into_iter_gives ∙ c.iter-key-items.ensures.rest in
    let is : Some (members_view c.into_iter-key-iterator.result) ≡ as_object (view c.args.tree.now) = ap (λ vs. Some (members_view vs)) all ∙ c.in-Some.ensures in
    map_entry_refused (ref_or (named media_type_object)) (ref_or_doc (named media_type_object) content_doc) _ _ _ _ _ _ _ _ _ _ _ _ c.read_ref_or_content.result c.loop-key.invariant c.in-Some-2.ensures.steps is c.from_residual.ensures.1 c.in_err-put_read.ensures.err c.read_ref_or_content.ensures

pub read_content_map-returns : goal.read_content_map-returns
read_content_map-returns t c =
    let all : c.into_iter-key-iterator.result ≡ c.in-Some.members.now.entries = c.into_iter-key-iterator.ensures.into_iter_gives ∙ c.iter-key-items.ensures.rest in
    let is : Some (members_view c.into_iter-key-iterator.result) ≡ as_object (view c.args.tree.now) = ap (λ vs. Some (members_view vs)) all ∙ c.in-Some.ensures in
    map_read (ref_or (named media_type_object)) (ref_or_doc (named media_type_object) content_doc) _ _ _ _ _ _ c.loop-key.invariant c.in-None.ensures.steps.0 is

pub read_ref_or_content-returns-in_err-reference : goal.read_ref_or_content-returns-in_err-reference
read_ref_or_content-returns-in_err-reference t c = passes_memory _ c.read_plain.result _ _ _ _ _ _ c.from_residual.ensures.1 (sym c.in_err-reference.ensures) (omega arith) (omega arith)

pub read_ref_or_content-returns-in-Some : goal.read_ref_or_content-returns-in-Some
read_ref_or_content-returns-in-Some t c =
    let r = c.in-Some.reference in
    let this = reads_value reference_doc _ c.read_plain.result r _ _ _ c.read_plain.ensures (fits_as _ r (sym c.in_ok-reference.ensures ∙ ap Ok c.in-Some.is)) in
    record {
      ok = ref_reads (ref_or (named media_type_object)) (named media_type_object) _ _ refl this.ok;
      err = tt;
      grows = omega arith;
      at_most = omega arith;
      at_least = λ below. omega (arith, reference_uncounted (named media_type_object) (reference_doc r) refl);
    }

pub read_ref_or_content-returns-in_err-read_content : goal.read_ref_or_content-returns-in_err-read_content
read_ref_or_content-returns-in_err-read_content t c =
    let unfit : fitting c.read_plain.result ≡ Ok None = search rules in
    let gone = fits_not reference_doc (read (named reference_object) (view c.args.tree.now)) c.read_plain.result _ _ _ c.read_plain.ensures unfit in
    passes_reads _ _ _ _ _ _ _ _ _ _ _ c.from_residual-in_err-read_content.ensures.1 c.in_err-read_content.ensures (λ h. own_none _ _ gone h) (omega arith) (omega arith)

pub read_ref_or_content-returns : goal.read_ref_or_content-returns
read_ref_or_content-returns t c =
    let unfit : fitting c.read_plain.result ≡ Ok None = search rules in
    let gone = fits_not reference_doc (read (named reference_object) (view c.args.tree.now)) c.read_plain.result _ _ _ c.read_plain.ensures unfit in
    let own = c.in_ok-read_content.ensures in
    record {
      ok = own_reads (ref_or (named media_type_object)) (named media_type_object) _ _ refl gone own.ok;
      err = tt;
      grows = own.grows;
      at_most = own.at_most;
      at_least = λ below. omega (arith, own.at_least below, own_places (content_doc c.in_ok-read_content.field-0));
    }

pub read_ref_or_header-returns-in_err-reference : goal.read_ref_or_header-returns-in_err-reference
read_ref_or_header-returns-in_err-reference t c = passes_memory _ c.read_plain.result _ _ _ _ _ _ c.from_residual.ensures.1 (sym c.in_err-reference.ensures) (omega arith) (omega arith)

pub read_ref_or_header-returns-in-Some : goal.read_ref_or_header-returns-in-Some
read_ref_or_header-returns-in-Some t c =
    let r = c.in-Some.reference in
    let this = reads_value reference_doc _ c.read_plain.result r _ _ _ c.read_plain.ensures (fits_as _ r (sym c.in_ok-reference.ensures ∙ ap Ok c.in-Some.is)) in
    record {
      ok = ref_reads (ref_or (named header_object)) (named header_object) _ _ refl this.ok;
      err = tt;
      grows = omega arith;
      at_most = omega arith;
      at_least = λ below. omega (arith, reference_uncounted (named header_object) (reference_doc r) refl);
    }

pub read_ref_or_header-returns-in_err-read_header : goal.read_ref_or_header-returns-in_err-read_header
read_ref_or_header-returns-in_err-read_header t c =
    let unfit : fitting c.read_plain.result ≡ Ok None = search rules in
    let gone = fits_not reference_doc (read (named reference_object) (view c.args.tree.now)) c.read_plain.result _ _ _ c.read_plain.ensures unfit in
    passes_reads _ _ _ _ _ _ _ _ _ _ _ c.from_residual-in_err-read_header.ensures.1 c.in_err-read_header.ensures (λ h. own_none _ _ gone h) (omega arith) (omega arith)

pub read_ref_or_header-returns : goal.read_ref_or_header-returns
read_ref_or_header-returns t c =
    let unfit : fitting c.read_plain.result ≡ Ok None = search rules in
    let gone = fits_not reference_doc (read (named reference_object) (view c.args.tree.now)) c.read_plain.result _ _ _ c.read_plain.ensures unfit in
    let own = c.in_ok-read_header.ensures in
    record {
      ok = own_reads (ref_or (named header_object)) (named header_object) _ _ refl gone own.ok;
      err = tt;
      grows = own.grows;
      at_most = own.at_most;
      at_least = λ below. omega (arith, own.at_least below, own_places (header_doc c.in_ok-read_header.field-0));
    }

pub read_encodings-returns-in_err-by_name : goal.read_encodings-returns-in_err-by_name
read_encodings-returns-in_err-by_name t c =
    passes_reads _ _ _ _ _ _ _ _ _ _ _ c.from_residual.ensures.1 c.in_err-by_name.ensures
    (first_refused _ _ _)
    (omega arith)
    (omega arith)

pub read_encodings-returns-in_err-by_name-2 : goal.read_encodings-returns-in_err-by_name-2
read_encodings-returns-in_err-by_name-2 t c =
    passes_reads _ _ _ _ _ _ _ _ _ _ _ c.from_residual-in_err-by_name-2.ensures.1 (reads_fault _ _ _ _ _ _ _ c.read_first_encodings.ensures c.in_err-by_name-2.ensures.err)
    (λ h. later_refused _ _ _ (later_refused _ _ _ (first_refused _ _ _ h)))
    (omega (arith, c.in_ok-by_name.ensures.grows))
    (omega (arith, c.in_ok-by_name.ensures.at_most))

pub read_encodings-returns-in_err-by_name-3 : goal.read_encodings-returns-in_err-by_name-3
read_encodings-returns-in_err-by_name-3 t c =
    passes_reads _ _ _ _ _ _ _ _ _ _ _ c.from_residual-in_err-by_name-3.ensures.1 (reads_fault _ _ _ _ _ _ _ c.read_item_encoding.ensures c.in_err-by_name-3.ensures.err)
    (λ h. later_refused _ _ _ (first_refused _ _ _ h))
    (omega (arith, c.in_ok-by_name.ensures.grows, c.read_first_encodings.ensures.grows))
    (omega (arith, c.in_ok-by_name.ensures.at_most, c.read_first_encodings.ensures.at_most))

pub read_encodings-returns : goal.read_encodings-returns
read_encodings-returns t c =
    let by_name = c.in_ok-by_name.by_name in
    let first = c.in_ok-by_name-2.first in
    let rest = c.in_ok-by_name-3.rest in
    let first_read = reads_value (list_of_docs encoding_doc) _ c.read_first_encodings.result first _ _ _ c.read_first_encodings.ensures c.in_ok-by_name-2.ensures.ok.1 in
    let rest_read = reads_value (option_of (boxed encoding_doc)) _ c.read_item_encoding.result rest _ _ _ c.read_item_encoding.ensures c.in_ok-by_name-3.ensures.ok.1 in
    let all = encodings_read (view c.args.tree.now) by_name first rest _ _ _ _ c.in_ok-by_name.ensures first_read rest_read in
    let same = ap (λ k. list_doc (encodings_docs k.0 k.1 rest)) c.in_ok-by_name-3.ensures.ok.0 ∙ ap (λ b. list_doc (encodings_docs b first rest)) c.in_ok-by_name-2.ensures.ok.0 in
    reads_as _ _ _ _ _ _ _ _ (sym same) all

pub read_content-returns-in_err-encodings : goal.read_content-returns-in_err-encodings
read_content-returns-in_err-encodings t c =
    passes_reads _ _ _ _ _ _ _ _ _ _ _ c.from_residual.ensures.1 c.in_err-encodings.ensures
    (λ h. table_refused media_type_object _ (woven-refused (map not content_order) encodings_rows content_rows _ (no_fields_of_part encodings_rows _ h)))
    (omega arith)
    (omega (arith, parts_fewer media_type_object content_order content_rows encodings_rows (view c.args.tree.now) refl))

pub read_content-returns : goal.read_content-returns
read_content-returns t c = c.assemble_content.ensures _ (part_as _ encodings_rows _ c.in_ok-encodings.encodings _ _ c.in_ok-encodings.ensures)

pub read_encoding-returns-in_err-headers : goal.read_encoding-returns-in_err-headers
read_encoding-returns-in_err-headers t c =
    passes_reads _ _ _ _ _ _ _ _ _ _ _ c.from_residual.ensures.1 c.in_err-headers.ensures
    (λ h. table_refused encoding_object _ (fields-later _ _ _ (fields-later _ _ _ (fields-later _ _ _ (fields-later _ _ _ (fields-first _ _ _ h))))))
    (omega arith)
    (omega (arith, encoding_values (view c.args.tree.now)))

pub read_encoding-returns-in_err-headers-2 : goal.read_encoding-returns-in_err-headers-2
read_encoding-returns-in_err-headers-2 t c =
    passes_reads _ _ _ _ _ _ _ _ _ _ _ c.from_residual-in_err-headers-2.ensures.1 (reads_fault _ _ _ _ _ _ _ c.read_encodings.ensures c.in_err-headers-2.ensures.err)
    (λ h. table_refused encoding_object _ (woven-refused encodings_order encodings_rows other_rows _ (no_fields_of_part encodings_rows _ h)))
    (omega (arith, c.in_ok-headers.ensures.grows))
    (omega (arith, c.in_ok-headers.ensures.at_most, encoding_parts_fewer (view c.args.tree.now)))

pub read_encoding-returns : goal.read_encoding-returns
read_encoding-returns t c =
    let headers_doc = map_of_docs (ref_or_doc (named header_object) header_doc) in
    let both = c.in_ok-headers-2.ensures.ok in
    let headers = reads_as headers_doc headers_doc c.in_ok-headers.headers c.in_ok-headers-2.headers _ _ _ _ (ap headers_doc (sym both.0)) c.in_ok-headers.ensures in
    let encodings = reads_value _ _ c.read_encodings.result c.in_ok-headers-2.encodings _ _ _ c.read_encodings.ensures both.1 in
    c.assemble_encoding.ensures _ _ headers (part_as _ encodings_rows _ c.in_ok-headers-2.encodings _ _ encodings)

pub read_header-returns-in_err-content : goal.read_header-returns-in_err-content
read_header-returns-in_err-content t c =
    passes_reads _ _ _ _ _ _ _ _ _ _ _ c.from_residual.ensures.1 c.in_err-content.ensures
    (λ h. table_refused header_object _ (fields-first _ _ _ h))
    (omega arith)
    (omega (arith, header_values (view c.args.tree.now)))

pub read_header-returns : goal.read_header-returns
read_header-returns t c = c.assemble_header.ensures _ c.in_ok-content.ensures
