-- The answers of the functions that read operations and path items.
use Rattle.std.proofs.Common.{◌≡◌, Option, true, false, not, map, [], take, drop, Ok, Some, None, option_map, string_cmp, sym, ap, ◌∙◌, subst, arith, rules, codes, refl}
use Rattle.std.specs.List.Sorted.{IsStrictlySortedBy}
use Rattle.std.specs.Map.{keys_of}
use Rattle.serde_json.specs.Find.{get, as_object}
use Rattle.serde_json.specs.View.{view, members_view}
use Rattle.utoipa_base.specs.Docs.{list_doc}
use Rattle.utoipa_base.specs.Faults.{fitting}
use Rattle.utoipa_base.specs.Kinds.{named, ref_or, map_of, reference_object, operation_object, path_item_object}
use Rattle.utoipa_base.specs.Reading.{read, is_null}
use Rattle.utoipa_base.specs.Refs.{reference_doc, ref_or_doc}
use Rattle.utoipa_base.specs.Tables.{callback}
use Rattle.utoipa_base.specs.Views.{map_of_docs}
use Rattle.utoipa_base.specs.declared.fault.ReadFault.TheVariants.{Memory}
use Rattle.utoipa_base.proofs.AbsentMembers.{map_absent}
use Rattle.utoipa_base.proofs.Alternatives.{ref_reads, own_reads}
use Rattle.utoipa_base.proofs.ByRows.{null_as, table_refused, fields-first}
use Rattle.utoipa_base.proofs.Members.{map_none}
use Rattle.utoipa_base.proofs.PartsRead.{parts_fewer}
use Rattle.utoipa_base.proofs.Places.{own_none, own_places, reference_uncounted}
use Rattle.utoipa_base.proofs.Readers.{refused_unread, passes_refusal, passes_memory, reads_value, member_fewer, defaulted_read, optional_read, optional_refused, optional_null, optional_absent, entry_fewer}
use Rattle.utoipa_base.proofs.ReadingMaps.{map_begun, map_step, map_refused, map_within, map_within_next, map_read}
use Rattle.utoipa_base.proofs.RowLists.{passes_reads, reads_as}
use Rattle.utoipa_base.proofs.TableParts.{woven-refused, no_fields_of_part}
use Rattle.utoipa_base.proofs.Tried.{fits_as, fits_not}
use Rattle.utoipa_leaf.specs.declared.path.HttpMethod.TheVariants.{Get, Put, Post, Delete, Options, Head, Patch, Trace}
use Rattle.utoipa_path.specs.Builders.{PathItemFields, Operations}
use Rattle.utoipa_path.specs.Docs.{item_order, operations_of, operation_doc, path_item_doc, callback_doc, callbacks_doc}
use Rattle.utoipa_path.specs.Methods.{with_method}
use Rattle.utoipa_path.specs.Parts.{base_rows, operations_rows}
use Rattle.utoipa_path.specs.declared.types.Operation.{Operation}
use Rattle.utoipa_path.specs.declared.types.PathItem.{out-PathItem, out-roll-PathItem}
use Rattle.utoipa_path.proofs.Built.{err_of, reads_where_done}
use Rattle.utoipa_path.proofs.PathParts.{callbacks_fewer, operations_values, method_row, additional_row, refused_among, operations_read}
use Rattle.utoipa_path.proofs.read.+read.Goals as goal

pub read_callbacks-read_callback_map-requires : goal.read_callbacks-read_callback_map-requires
read_callbacks-read_callback_map-requires t c =
    let found : option_map (λ v. view v.now) c.get.result ≡ get (codes "callbacks") (view c.args.tree.now) = search rules in
    (omega (arith, member_fewer (codes "callbacks") (view c.args.tree.now) c.get.result c.in-Some.member found c.in-Some.is), tt)

pub read_callbacks-returns-in-Some : goal.read_callbacks-returns-in-Some
read_callbacks-returns-in-Some t c =
    let found : option_map (λ v. view v.now) c.get.result ≡ get (codes "callbacks") (view c.args.tree.now) = search rules in
    defaulted_read (map_of_docs (ref_or_doc callback callback_doc)) (codes "callbacks") (map_of (ref_or callback)) (view c.args.tree.now) c.get.result c.in-Some.member _ _ _ found c.in-Some.is c.read_callback_map.ensures

pub read_callbacks-returns-in-None : goal.read_callbacks-returns-in-None
read_callbacks-returns-in-None t c =
    let gone : get (codes "callbacks") (view c.args.tree.now) ≡ None = search rules in
    let none : c.new.result.entries ≡ [] = search rules in
    map_absent (ref_or_doc callback callback_doc) (codes "callbacks") (ref_or callback) (view c.args.tree.now) c.new.result _ gone none

pub read_additional_operations-read_operation_map-requires : goal.read_additional_operations-read_operation_map-requires
read_additional_operations-read_operation_map-requires t c =
    let found : option_map (λ v. view v.now) c.get.result ≡ get (codes "additionalOperations") (view c.args.tree.now) = search rules in
    (omega (arith, member_fewer (codes "additionalOperations") (view c.args.tree.now) c.get.result c.in-Some.member found c.in-Some.is), tt)

pub read_additional_operations-returns-in-Some : goal.read_additional_operations-returns-in-Some
read_additional_operations-returns-in-Some t c =
    let found : option_map (λ v. view v.now) c.get.result ≡ get (codes "additionalOperations") (view c.args.tree.now) = search rules in
    defaulted_read (map_of_docs operation_doc) (codes "additionalOperations") (map_of (named operation_object)) (view c.args.tree.now) c.get.result c.in-Some.member _ _ _ found c.in-Some.is c.read_operation_map.ensures

pub read_additional_operations-returns-in-None : goal.read_additional_operations-returns-in-None
read_additional_operations-returns-in-None t c =
    let gone : get (codes "additionalOperations") (view c.args.tree.now) ≡ None = search rules in
    let none : c.new.result.entries ≡ [] = search rules in
    map_absent operation_doc (codes "additionalOperations") (named operation_object) (view c.args.tree.now) c.new.result _ gone none

pub read_method-read_operation-requires : goal.read_method-read_operation-requires
read_method-read_operation-requires t c =
    let found : option_map (λ v. view v.now) c.get.result ≡ get c.args.name.now (view c.args.tree.now) = search rules in
    (omega (arith, member_fewer c.args.name.now (view c.args.tree.now) c.get.result c.in-Some.member found c.in-Some.is), tt)

pub read_method-returns-then-is_null : goal.read_method-returns-then-is_null
read_method-returns-then-is_null t c =
    let found : option_map (λ v. view v.now) c.get.result ≡ get c.args.name.now (view c.args.tree.now) = search rules in
    let none : is_null (view c.in-Some.member.now) ≡ true = search (rules, null_as) in
    optional_null operation_doc c.args.name.now (named operation_object) (view c.args.tree.now) c.get.result c.in-Some.member _ found c.in-Some.is none

pub read_method-returns-in_err-read_operation-in-Some : goal.read_method-returns-in_err-read_operation-in-Some
read_method-returns-in_err-read_operation-in-Some t c =
    let found : option_map (λ v. view v.now) c.get.result ≡ get c.args.name.now (view c.args.tree.now) = search rules in
    let full : is_null (view c.in-Some.member.now) ≡ false = search (rules, null_as) in
    optional_refused operation_doc operation_doc c.args.name.now (named operation_object) (view c.args.tree.now) c.get.result c.in-Some.member _ _ _ _ found c.in-Some.is full c.from_residual.ensures.1 c.in_err-read_operation-in-Some.ensures

pub read_method-returns-in_ok-read_operation-in-Some : goal.read_method-returns-in_ok-read_operation-in-Some
read_method-returns-in_ok-read_operation-in-Some t c =
    let found : option_map (λ v. view v.now) c.get.result ≡ get c.args.name.now (view c.args.tree.now) = search rules in
    let full : is_null (view c.in-Some.member.now) ≡ false = search (rules, null_as) in
    optional_read operation_doc operation_doc c.args.name.now (named operation_object) (view c.args.tree.now) c.get.result c.in-Some.member _ _ _ _ found c.in-Some.is full refl c.in_ok-read_operation-in-Some.ensures

pub read_method-returns-in-None : goal.read_method-returns-in-None
read_method-returns-in-None t c =
    let gone : get c.args.name.now (view c.args.tree.now) ≡ None = search rules in
    optional_absent operation_doc c.args.name.now (named operation_object) (view c.args.tree.now) _ gone

pub fill_callback-returns-in_default : goal.fill_callback-returns-in_default
fill_callback-returns-in_default t c =
    let none : as_object (view c.args.tree.now) ≡ None = search rules in
    refused_unread _ _ _ _ _ (map_none (ref_or (named path_item_object)) (view c.args.tree.now) none)

pub fill_callback-read_ref_or_path_item-requires : goal.fill_callback-read_ref_or_path_item-requires
fill_callback-read_ref_or_path_item-requires t c =
    let all : c.into_iter-key-iterator.result ≡ c.in-Some.members.now.entries = c.into_iter-key-iterator.ensures.into_iter_gives ∙ c.iter-key-items.ensures.rest in
    let is : Some (members_view c.into_iter-key-iterator.result) ≡ as_object (view c.args.tree.now) = ap (λ vs. Some (members_view vs)) all ∙ c.in-Some.ensures in
    (omega (arith, entry_fewer (ref_or (named path_item_object)) (ref_or_doc (named path_item_object) path_item_doc) _ _ _ _ _ (c.in-Some-2.key.now, c.in-Some-2.member.now) _ _ c.loop-key.invariant c.in-Some-2.ensures.steps is), tt)

pub fill_callback-loop-key-init : goal.fill_callback-loop-key-init
fill_callback-loop-key-init t c = map_begun (ref_or (named path_item_object)) (ref_or_doc (named path_item_object) path_item_doc) _ _ _ c.requires

pub fill_callback-loop-key-preserved : goal.fill_callback-loop-key-preserved
fill_callback-loop-key-preserved t c =
    let all : c.into_iter-key-iterator.result ≡ c.in-Some.members.now.entries = c.into_iter-key-iterator.ensures.into_iter_gives ∙ c.iter-key-items.ensures.rest in
    let ordered = subst (λ r. IsStrictlySortedBy string_cmp (keys_of r)) (sym all) c.iter-key-items.ensures.ordered in
    map_step (ref_or (named path_item_object)) (ref_or_doc (named path_item_object) path_item_doc) _ _ _ _ _ _ _ _ _ _ _ c.loop-key.invariant c.in-Some-2.ensures.steps ordered c.in_ok-name.ensures.cases c.in_ok-put.ensures.ok c.in_ok-value.ensures

pub fill_callback-returns-in_err-name : goal.fill_callback-returns-in_err-name
fill_callback-returns-in_err-name t c =
    let all : c.into_iter-key-iterator.result ≡ c.in-Some.members.now.entries = c.into_iter-key-iterator.ensures.into_iter_gives ∙ c.iter-key-items.ensures.rest in
    let is : Some (members_view c.into_iter-key-iterator.result) ≡ as_object (view c.args.tree.now) = ap (λ vs. Some (members_view vs)) all ∙ c.in-Some.ensures in
    let within = map_within (ref_or (named path_item_object)) (ref_or_doc (named path_item_object) path_item_doc) _ _ _ _ _ _ c.loop-key.invariant is in
    passes_refusal _ _ Memory _ _ _ _ c.from_residual.ensures.1 tt within.0 within.1

pub fill_callback-returns-in_err-value : goal.fill_callback-returns-in_err-value
fill_callback-returns-in_err-value t c =
    let all : c.into_iter-key-iterator.result ≡ c.in-Some.members.now.entries = c.into_iter-key-iterator.ensures.into_iter_gives ∙ c.iter-key-items.ensures.rest in
    let is : Some (members_view c.into_iter-key-iterator.result) ≡ as_object (view c.args.tree.now) = ap (λ vs. Some (members_view vs)) all ∙ c.in-Some.ensures in
    map_refused (ref_or (named path_item_object)) (ref_or_doc (named path_item_object) path_item_doc) _ _ _ _ _ _ _ _ _ _ _ _ c.loop-key.invariant c.in-Some-2.ensures.steps is c.from_residual-in_err-value.ensures.1 c.in_err-value.ensures

pub fill_callback-returns-in_err-put : goal.fill_callback-returns-in_err-put
fill_callback-returns-in_err-put t c =
    let all : c.into_iter-key-iterator.result ≡ c.in-Some.members.now.entries = c.into_iter-key-iterator.ensures.into_iter_gives ∙ c.iter-key-items.ensures.rest in
    let is : Some (members_view c.into_iter-key-iterator.result) ≡ as_object (view c.args.tree.now) = ap (λ vs. Some (members_view vs)) all ∙ c.in-Some.ensures in
    let within = map_within_next (ref_or (named path_item_object)) (ref_or_doc (named path_item_object) path_item_doc) _ _ _ _ _ _ _ _ _ _ c.loop-key.invariant c.in-Some-2.ensures.steps is c.in_ok-value.ensures in
    passes_refusal _ _ Memory _ _ _ _ c.from_residual-in_err-put.ensures.1 tt within.0 within.1

pub fill_callback-returns : goal.fill_callback-returns
fill_callback-returns t c =
    let all : c.into_iter-key-iterator.result ≡ c.in-Some.members.now.entries = c.into_iter-key-iterator.ensures.into_iter_gives ∙ c.iter-key-items.ensures.rest in
    let is : Some (members_view c.into_iter-key-iterator.result) ≡ as_object (view c.args.tree.now) = ap (λ vs. Some (members_view vs)) all ∙ c.in-Some.ensures in
    reads_as (map_of_docs (ref_or_doc (named path_item_object) path_item_doc)) _ c.loop-key.map _ _ _ _ _ refl (map_read (ref_or (named path_item_object)) (ref_or_doc (named path_item_object) path_item_doc) _ _ c.loop-key.map _ _ _ c.loop-key.invariant c.in-None.ensures.steps.0 is)

pub fill_callback_map-returns-in_default : goal.fill_callback_map-returns-in_default
fill_callback_map-returns-in_default t c =
    let none : as_object (view c.args.tree.now) ≡ None = search rules in
    refused_unread _ _ _ _ _ (map_none (ref_or callback) (view c.args.tree.now) none)

pub fill_callback_map-read_ref_or_callback-requires : goal.fill_callback_map-read_ref_or_callback-requires
fill_callback_map-read_ref_or_callback-requires t c =
    let all : c.into_iter-key-iterator.result ≡ c.in-Some.members.now.entries = c.into_iter-key-iterator.ensures.into_iter_gives ∙ c.iter-key-items.ensures.rest in
    let is : Some (members_view c.into_iter-key-iterator.result) ≡ as_object (view c.args.tree.now) = ap (λ vs. Some (members_view vs)) all ∙ c.in-Some.ensures in
    (omega (arith, entry_fewer (ref_or callback) (ref_or_doc callback callback_doc) _ _ _ _ _ (c.in-Some-2.key.now, c.in-Some-2.member.now) _ _ c.loop-key.invariant c.in-Some-2.ensures.steps is), tt)

pub fill_callback_map-loop-key-init : goal.fill_callback_map-loop-key-init
fill_callback_map-loop-key-init t c = map_begun (ref_or callback) (ref_or_doc callback callback_doc) _ _ _ c.requires

pub fill_callback_map-loop-key-preserved : goal.fill_callback_map-loop-key-preserved
fill_callback_map-loop-key-preserved t c =
    let all : c.into_iter-key-iterator.result ≡ c.in-Some.members.now.entries = c.into_iter-key-iterator.ensures.into_iter_gives ∙ c.iter-key-items.ensures.rest in
    let ordered = subst (λ r. IsStrictlySortedBy string_cmp (keys_of r)) (sym all) c.iter-key-items.ensures.ordered in
    map_step (ref_or callback) (ref_or_doc callback callback_doc) _ _ _ _ _ _ _ _ _ _ _ c.loop-key.invariant c.in-Some-2.ensures.steps ordered c.in_ok-name.ensures.cases c.in_ok-put.ensures.ok c.in_ok-value.ensures

pub fill_callback_map-returns-in_err-name : goal.fill_callback_map-returns-in_err-name
fill_callback_map-returns-in_err-name t c =
    let all : c.into_iter-key-iterator.result ≡ c.in-Some.members.now.entries = c.into_iter-key-iterator.ensures.into_iter_gives ∙ c.iter-key-items.ensures.rest in
    let is : Some (members_view c.into_iter-key-iterator.result) ≡ as_object (view c.args.tree.now) = ap (λ vs. Some (members_view vs)) all ∙ c.in-Some.ensures in
    let within = map_within (ref_or callback) (ref_or_doc callback callback_doc) _ _ _ _ _ _ c.loop-key.invariant is in
    passes_refusal _ _ Memory _ _ _ _ c.from_residual.ensures.1 tt within.0 within.1

pub fill_callback_map-returns-in_err-value : goal.fill_callback_map-returns-in_err-value
fill_callback_map-returns-in_err-value t c =
    let all : c.into_iter-key-iterator.result ≡ c.in-Some.members.now.entries = c.into_iter-key-iterator.ensures.into_iter_gives ∙ c.iter-key-items.ensures.rest in
    let is : Some (members_view c.into_iter-key-iterator.result) ≡ as_object (view c.args.tree.now) = ap (λ vs. Some (members_view vs)) all ∙ c.in-Some.ensures in
    map_refused (ref_or callback) (ref_or_doc callback callback_doc) _ _ _ _ _ _ _ _ _ _ _ _ c.loop-key.invariant c.in-Some-2.ensures.steps is c.from_residual-in_err-value.ensures.1 c.in_err-value.ensures

pub fill_callback_map-returns-in_err-put : goal.fill_callback_map-returns-in_err-put
fill_callback_map-returns-in_err-put t c =
    let all : c.into_iter-key-iterator.result ≡ c.in-Some.members.now.entries = c.into_iter-key-iterator.ensures.into_iter_gives ∙ c.iter-key-items.ensures.rest in
    let is : Some (members_view c.into_iter-key-iterator.result) ≡ as_object (view c.args.tree.now) = ap (λ vs. Some (members_view vs)) all ∙ c.in-Some.ensures in
    let within = map_within_next (ref_or callback) (ref_or_doc callback callback_doc) _ _ _ _ _ _ _ _ _ _ c.loop-key.invariant c.in-Some-2.ensures.steps is c.in_ok-value.ensures in
    passes_refusal _ _ Memory _ _ _ _ c.from_residual-in_err-put.ensures.1 tt within.0 within.1

pub fill_callback_map-returns : goal.fill_callback_map-returns
fill_callback_map-returns t c =
    let all : c.into_iter-key-iterator.result ≡ c.in-Some.members.now.entries = c.into_iter-key-iterator.ensures.into_iter_gives ∙ c.iter-key-items.ensures.rest in
    let is : Some (members_view c.into_iter-key-iterator.result) ≡ as_object (view c.args.tree.now) = ap (λ vs. Some (members_view vs)) all ∙ c.in-Some.ensures in
    reads_as (map_of_docs (ref_or_doc callback callback_doc)) _ c.loop-key.map _ _ _ _ _ refl (map_read (ref_or callback) (ref_or_doc callback callback_doc) _ _ c.loop-key.map _ _ _ c.loop-key.invariant c.in-None.ensures.steps.0 is)

pub fill_operation_map-returns-in_default : goal.fill_operation_map-returns-in_default
fill_operation_map-returns-in_default t c =
    let none : as_object (view c.args.tree.now) ≡ None = search rules in
    refused_unread _ _ _ _ _ (map_none (named operation_object) (view c.args.tree.now) none)

pub fill_operation_map-read_operation-requires : goal.fill_operation_map-read_operation-requires
fill_operation_map-read_operation-requires t c =
    let all : c.into_iter-key-iterator.result ≡ c.in-Some.members.now.entries = c.into_iter-key-iterator.ensures.into_iter_gives ∙ c.iter-key-items.ensures.rest in
    let is : Some (members_view c.into_iter-key-iterator.result) ≡ as_object (view c.args.tree.now) = ap (λ vs. Some (members_view vs)) all ∙ c.in-Some.ensures in
    (omega (arith, entry_fewer (named operation_object) operation_doc _ _ _ _ _ (c.in-Some-2.key.now, c.in-Some-2.member.now) _ _ c.loop-key.invariant c.in-Some-2.ensures.steps is), tt)

pub fill_operation_map-loop-key-init : goal.fill_operation_map-loop-key-init
fill_operation_map-loop-key-init t c = map_begun (named operation_object) operation_doc _ _ _ c.requires

pub fill_operation_map-loop-key-preserved : goal.fill_operation_map-loop-key-preserved
fill_operation_map-loop-key-preserved t c =
    let all : c.into_iter-key-iterator.result ≡ c.in-Some.members.now.entries = c.into_iter-key-iterator.ensures.into_iter_gives ∙ c.iter-key-items.ensures.rest in
    let ordered = subst (λ r. IsStrictlySortedBy string_cmp (keys_of r)) (sym all) c.iter-key-items.ensures.ordered in
    map_step (named operation_object) operation_doc _ _ _ _ _ _ _ _ _ _ _ c.loop-key.invariant c.in-Some-2.ensures.steps ordered c.in_ok-name.ensures.cases c.in_ok-put.ensures.ok c.in_ok-value.ensures

pub fill_operation_map-returns-in_err-name : goal.fill_operation_map-returns-in_err-name
fill_operation_map-returns-in_err-name t c =
    let all : c.into_iter-key-iterator.result ≡ c.in-Some.members.now.entries = c.into_iter-key-iterator.ensures.into_iter_gives ∙ c.iter-key-items.ensures.rest in
    let is : Some (members_view c.into_iter-key-iterator.result) ≡ as_object (view c.args.tree.now) = ap (λ vs. Some (members_view vs)) all ∙ c.in-Some.ensures in
    let within = map_within (named operation_object) operation_doc _ _ _ _ _ _ c.loop-key.invariant is in
    passes_refusal _ _ Memory _ _ _ _ c.from_residual.ensures.1 tt within.0 within.1

pub fill_operation_map-returns-in_err-value : goal.fill_operation_map-returns-in_err-value
fill_operation_map-returns-in_err-value t c =
    let all : c.into_iter-key-iterator.result ≡ c.in-Some.members.now.entries = c.into_iter-key-iterator.ensures.into_iter_gives ∙ c.iter-key-items.ensures.rest in
    let is : Some (members_view c.into_iter-key-iterator.result) ≡ as_object (view c.args.tree.now) = ap (λ vs. Some (members_view vs)) all ∙ c.in-Some.ensures in
    map_refused (named operation_object) operation_doc _ _ _ _ _ _ _ _ _ _ _ _ c.loop-key.invariant c.in-Some-2.ensures.steps is c.from_residual-in_err-value.ensures.1 c.in_err-value.ensures

pub fill_operation_map-returns-in_err-put : goal.fill_operation_map-returns-in_err-put
fill_operation_map-returns-in_err-put t c =
    let all : c.into_iter-key-iterator.result ≡ c.in-Some.members.now.entries = c.into_iter-key-iterator.ensures.into_iter_gives ∙ c.iter-key-items.ensures.rest in
    let is : Some (members_view c.into_iter-key-iterator.result) ≡ as_object (view c.args.tree.now) = ap (λ vs. Some (members_view vs)) all ∙ c.in-Some.ensures in
    let within = map_within_next (named operation_object) operation_doc _ _ _ _ _ _ _ _ _ _ c.loop-key.invariant c.in-Some-2.ensures.steps is c.in_ok-value.ensures in
    passes_refusal _ _ Memory _ _ _ _ c.from_residual-in_err-put.ensures.1 tt within.0 within.1

pub fill_operation_map-returns : goal.fill_operation_map-returns
fill_operation_map-returns t c =
    let all : c.into_iter-key-iterator.result ≡ c.in-Some.members.now.entries = c.into_iter-key-iterator.ensures.into_iter_gives ∙ c.iter-key-items.ensures.rest in
    let is : Some (members_view c.into_iter-key-iterator.result) ≡ as_object (view c.args.tree.now) = ap (λ vs. Some (members_view vs)) all ∙ c.in-Some.ensures in
    reads_as (map_of_docs operation_doc) _ c.loop-key.map _ _ _ _ _ refl (map_read (named operation_object) operation_doc _ _ c.loop-key.map _ _ _ c.loop-key.invariant c.in-None.ensures.steps.0 is)

pub read_ref_or_path_item-returns-in_err-reference : goal.read_ref_or_path_item-returns-in_err-reference
read_ref_or_path_item-returns-in_err-reference t c = passes_memory _ c.read_plain.result _ _ _ _ _ _ c.from_residual.ensures.1 (sym c.in_err-reference.ensures) (omega arith) (omega arith)

pub read_ref_or_path_item-returns-in-Some : goal.read_ref_or_path_item-returns-in-Some
read_ref_or_path_item-returns-in-Some t c =
    let r = c.in-Some.reference in
    let this = reads_value reference_doc _ c.read_plain.result r _ _ _ c.read_plain.ensures (fits_as _ r (sym c.in_ok-reference.ensures ∙ ap Ok c.in-Some.is)) in
    record {
      ok = ref_reads (ref_or (named path_item_object)) (named path_item_object) _ _ refl this.ok;
      err = tt;
      grows = omega arith;
      at_most = omega arith;
      at_least = λ below. omega (arith, reference_uncounted (named path_item_object) (reference_doc r) refl);
    }

pub read_ref_or_path_item-returns-in_err-read_path_item : goal.read_ref_or_path_item-returns-in_err-read_path_item
read_ref_or_path_item-returns-in_err-read_path_item t c =
    let unfit : fitting c.read_plain.result ≡ Ok None = search rules in
    let gone = fits_not reference_doc (read (named reference_object) (view c.args.tree.now)) c.read_plain.result _ _ _ c.read_plain.ensures unfit in
    passes_reads _ _ _ _ _ _ _ _ _ _ _ c.from_residual-in_err-read_path_item.ensures.1 c.in_err-read_path_item.ensures (λ h. own_none (named path_item_object) _ gone h) (omega arith) (omega arith)

pub read_ref_or_path_item-returns : goal.read_ref_or_path_item-returns
read_ref_or_path_item-returns t c =
    let unfit : fitting c.read_plain.result ≡ Ok None = search rules in
    let gone = fits_not reference_doc (read (named reference_object) (view c.args.tree.now)) c.read_plain.result _ _ _ c.read_plain.ensures unfit in
    let own = c.in_ok-read_path_item.ensures in
    record {
      ok = own_reads (ref_or (named path_item_object)) (named path_item_object) _ _ refl gone own.ok;
      err = tt;
      grows = own.grows;
      at_most = own.at_most;
      at_least = λ below. omega (arith, own.at_least below, own_places (path_item_doc c.in_ok-read_path_item.field-0));
    }

pub read_ref_or_callback-returns-in_err-reference : goal.read_ref_or_callback-returns-in_err-reference
read_ref_or_callback-returns-in_err-reference t c = passes_memory _ c.read_plain.result _ _ _ _ _ _ c.from_residual.ensures.1 (sym c.in_err-reference.ensures) (omega arith) (omega arith)

pub read_ref_or_callback-returns-in-Some : goal.read_ref_or_callback-returns-in-Some
read_ref_or_callback-returns-in-Some t c =
    let r = c.in-Some.reference in
    let this = reads_value reference_doc _ c.read_plain.result r _ _ _ c.read_plain.ensures (fits_as _ r (sym c.in_ok-reference.ensures ∙ ap Ok c.in-Some.is)) in
    record {
      ok = ref_reads (ref_or callback) callback _ _ refl this.ok;
      err = tt;
      grows = omega arith;
      at_most = omega arith;
      at_least = λ below. omega (arith, reference_uncounted callback (reference_doc r) refl);
    }

pub read_ref_or_callback-returns-in_err-read_callback : goal.read_ref_or_callback-returns-in_err-read_callback
read_ref_or_callback-returns-in_err-read_callback t c =
    let unfit : fitting c.read_plain.result ≡ Ok None = search rules in
    let gone = fits_not reference_doc (read (named reference_object) (view c.args.tree.now)) c.read_plain.result _ _ _ c.read_plain.ensures unfit in
    passes_reads _ _ _ _ _ _ _ _ _ _ _ c.from_residual-in_err-read_callback.ensures.1 c.in_err-read_callback.ensures (λ h. own_none callback _ gone h) (omega arith) (omega arith)

pub read_ref_or_callback-returns : goal.read_ref_or_callback-returns
read_ref_or_callback-returns t c =
    let unfit : fitting c.read_plain.result ≡ Ok None = search rules in
    let gone = fits_not reference_doc (read (named reference_object) (view c.args.tree.now)) c.read_plain.result _ _ _ c.read_plain.ensures unfit in
    let own = c.in_ok-read_callback.ensures in
    record {
      ok = own_reads (ref_or callback) callback _ _ refl gone own.ok;
      err = tt;
      grows = own.grows;
      at_most = own.at_most;
      at_least = λ below. omega (arith, own.at_least below, own_places (callback_doc c.in_ok-read_callback.field-0));
    }

pub read_operation-returns-in_err-callbacks : goal.read_operation-returns-in_err-callbacks
read_operation-returns-in_err-callbacks t c =
    passes_reads _ _ _ _ _ _ _ _ _ _ _ c.from_residual.ensures.1 c.in_err-callbacks.ensures
    (λ h. table_refused operation_object _ (fields-first _ _ _ h))
    (omega arith)
    (omega (arith, callbacks_fewer (view c.args.tree.now)))

pub read_operation-returns : goal.read_operation-returns
read_operation-returns t c = c.assemble_operation.ensures _ c.in_ok-callbacks.ensures

pub read_path_item-returns-in_err-item : goal.read_path_item-returns-in_err-item
read_path_item-returns-in_err-item t c =
    passes_reads _ _ _ _ _ _ _ _ _ _ _ c.from_residual.ensures.1 c.in_err-item.ensures
    (λ h. table_refused path_item_object _ (woven-refused (map not item_order) operations_rows base_rows _ (no_fields_of_part operations_rows _ h)))
    (omega arith)
    (omega (arith, parts_fewer path_item_object (map not item_order) operations_rows base_rows (view c.args.tree.now) refl))

pub read_path_item-returns : goal.read_path_item-returns
read_path_item-returns t c = c.assemble_path_item.ensures _ c.in_ok-item.ensures

abbrev with_query : Option Operation → PathItemFields → PathItemFields
with_query o i = record i { query = o }

abbrev with_additional : Operations → PathItemFields → PathItemFields
with_additional os i = record i { additional_operations = os }

pub read_operations-returns : goal.read_operations-returns
read_operations-returns t c = reads_where_done (λ i. list_doc (operations_of operation_doc (out-PathItem i))) _ c.fill_operations.result _ _ _ _ _ c.and.ensures c.fill_operations.ensures

pub fill_method-returns-in_err-operation : goal.fill_method-returns-in_err-operation
fill_method-returns-in_err-operation t c = record { ok = search rules; err = err_of _ _ _ c.from_residual.ensures.1 c.in_err-operation.ensures }

pub fill_method-returns : goal.fill_method-returns
fill_method-returns t c = record { ok = (c.in_ok-operation.operation, c.in_ok-operation.ensures, c.replace_operation.ensures.after); err = tt }

pub fill_query-returns-in_err-operation : goal.fill_query-returns-in_err-operation
fill_query-returns-in_err-operation t c = record { ok = search rules; err = err_of _ _ _ c.from_residual.ensures.1 c.in_err-operation.ensures }

pub fill_query-returns : goal.fill_query-returns
fill_query-returns t c =
    let item : PathItemFields = out-PathItem c.args.item.now in
    record {
      ok = (
        c.in_ok-operation.operation,
        c.in_ok-operation.ensures,
        out-roll-PathItem (record item { query = c.replace.new.dest }) ∙ ap {A = Option Operation} (λ o. record item { query = o }) c.replace.ensures.after,
      );
      err = tt;
    }

pub fill_additional_operations-returns-in_err-operations : goal.fill_additional_operations-returns-in_err-operations
fill_additional_operations-returns-in_err-operations t c = record { ok = search rules; err = err_of _ _ _ c.from_residual.ensures.1 c.in_err-operations.ensures }

pub fill_additional_operations-returns : goal.fill_additional_operations-returns
fill_additional_operations-returns t c =
    let item : PathItemFields = out-PathItem c.args.item.now in
    record {
      ok = (
        c.in_ok-operations.operations,
        c.in_ok-operations.ensures,
        out-roll-PathItem (record item { additional_operations = c.replace.new.dest }) ∙ ap {A = Operations} (λ os. record item { additional_operations = os }) c.replace.ensures.after,
      );
      err = tt;
    }

pub fill_operations-returns-in_err-fill_additional_operations : goal.fill_operations-returns-in_err-fill_additional_operations
fill_operations-returns-in_err-fill_additional_operations t c =
    passes_reads _ _ _ _ _ _ _ _ _ _ _ c.from_residual.ensures.1 c.in_err-fill_additional_operations.ensures.err
    (λ h. refused_among [] additional_row (drop 1 operations_rows) _ h)
    (omega arith)
    (omega (arith, operations_values (view c.args.tree.now)))

pub fill_operations-returns-in_err-fill_method : goal.fill_operations-returns-in_err-fill_method
fill_operations-returns-in_err-fill_method t c =
    passes_reads _ _ _ _ _ _ _ _ _ _ _ c.from_residual-in_err-fill_method.ensures.1 c.in_err-fill_method.ensures.err
    (λ h. refused_among (take 1 operations_rows) (method_row (codes "delete")) (drop 2 operations_rows) _ h)
    (omega (arith, c.in_ok-fill_additional_operations.ensures.ok.1.grows))
    (omega (arith, operations_values (view c.args.tree.now), c.in_ok-fill_additional_operations.ensures.ok.1.at_most))

pub fill_operations-returns-in_err-fill_method-2 : goal.fill_operations-returns-in_err-fill_method-2
fill_operations-returns-in_err-fill_method-2 t c =
    passes_reads _ _ _ _ _ _ _ _ _ _ _ c.from_residual-in_err-fill_method-2.ensures.1 c.in_err-fill_method-2.ensures.err
    (λ h. refused_among (take 2 operations_rows) (method_row (codes "get")) (drop 3 operations_rows) _ h)
    (omega (arith, c.in_ok-fill_additional_operations.ensures.ok.1.grows, c.in_ok-fill_method.ensures.ok.1.grows))
    (omega (arith, operations_values (view c.args.tree.now), c.in_ok-fill_additional_operations.ensures.ok.1.at_most, c.in_ok-fill_method.ensures.ok.1.at_most))

pub fill_operations-returns-in_err-fill_method-3 : goal.fill_operations-returns-in_err-fill_method-3
fill_operations-returns-in_err-fill_method-3 t c =
    passes_reads _ _ _ _ _ _ _ _ _ _ _ c.from_residual-in_err-fill_method-3.ensures.1 c.in_err-fill_method-3.ensures.err
    (λ h. refused_among (take 3 operations_rows) (method_row (codes "head")) (drop 4 operations_rows) _ h)
    (omega (arith, c.in_ok-fill_additional_operations.ensures.ok.1.grows, c.in_ok-fill_method.ensures.ok.1.grows, c.in_ok-fill_method-2.ensures.ok.1.grows))
    (omega (arith, operations_values (view c.args.tree.now), c.in_ok-fill_additional_operations.ensures.ok.1.at_most, c.in_ok-fill_method.ensures.ok.1.at_most, c.in_ok-fill_method-2.ensures.ok.1.at_most))

pub fill_operations-returns-in_err-fill_method-4 : goal.fill_operations-returns-in_err-fill_method-4
fill_operations-returns-in_err-fill_method-4 t c =
    passes_reads _ _ _ _ _ _ _ _ _ _ _ c.from_residual-in_err-fill_method-4.ensures.1 c.in_err-fill_method-4.ensures.err
    (λ h. refused_among (take 4 operations_rows) (method_row (codes "options")) (drop 5 operations_rows) _ h)
    (omega (arith, c.in_ok-fill_additional_operations.ensures.ok.1.grows, c.in_ok-fill_method.ensures.ok.1.grows, c.in_ok-fill_method-2.ensures.ok.1.grows, c.in_ok-fill_method-3.ensures.ok.1.grows))
    (omega (arith, operations_values (view c.args.tree.now), c.in_ok-fill_additional_operations.ensures.ok.1.at_most, c.in_ok-fill_method.ensures.ok.1.at_most, c.in_ok-fill_method-2.ensures.ok.1.at_most, c.in_ok-fill_method-3.ensures.ok.1.at_most))

pub fill_operations-returns-in_err-fill_method-5 : goal.fill_operations-returns-in_err-fill_method-5
fill_operations-returns-in_err-fill_method-5 t c =
    passes_reads _ _ _ _ _ _ _ _ _ _ _ c.from_residual-in_err-fill_method-5.ensures.1 c.in_err-fill_method-5.ensures.err
    (λ h. refused_among (take 5 operations_rows) (method_row (codes "patch")) (drop 6 operations_rows) _ h)
    (omega (arith, c.in_ok-fill_additional_operations.ensures.ok.1.grows, c.in_ok-fill_method.ensures.ok.1.grows, c.in_ok-fill_method-2.ensures.ok.1.grows, c.in_ok-fill_method-3.ensures.ok.1.grows, c.in_ok-fill_method-4.ensures.ok.1.grows))
    (omega (arith, operations_values (view c.args.tree.now), c.in_ok-fill_additional_operations.ensures.ok.1.at_most, c.in_ok-fill_method.ensures.ok.1.at_most, c.in_ok-fill_method-2.ensures.ok.1.at_most, c.in_ok-fill_method-3.ensures.ok.1.at_most, c.in_ok-fill_method-4.ensures.ok.1.at_most))

pub fill_operations-returns-in_err-fill_method-6 : goal.fill_operations-returns-in_err-fill_method-6
fill_operations-returns-in_err-fill_method-6 t c =
    passes_reads _ _ _ _ _ _ _ _ _ _ _ c.from_residual-in_err-fill_method-6.ensures.1 c.in_err-fill_method-6.ensures.err
    (λ h. refused_among (take 6 operations_rows) (method_row (codes "post")) (drop 7 operations_rows) _ h)
    (omega (arith, c.in_ok-fill_additional_operations.ensures.ok.1.grows, c.in_ok-fill_method.ensures.ok.1.grows, c.in_ok-fill_method-2.ensures.ok.1.grows, c.in_ok-fill_method-3.ensures.ok.1.grows, c.in_ok-fill_method-4.ensures.ok.1.grows, c.in_ok-fill_method-5.ensures.ok.1.grows))
    (omega (arith, operations_values (view c.args.tree.now), c.in_ok-fill_additional_operations.ensures.ok.1.at_most, c.in_ok-fill_method.ensures.ok.1.at_most, c.in_ok-fill_method-2.ensures.ok.1.at_most, c.in_ok-fill_method-3.ensures.ok.1.at_most, c.in_ok-fill_method-4.ensures.ok.1.at_most, c.in_ok-fill_method-5.ensures.ok.1.at_most))

pub fill_operations-returns-in_err-fill_method-7 : goal.fill_operations-returns-in_err-fill_method-7
fill_operations-returns-in_err-fill_method-7 t c =
    passes_reads _ _ _ _ _ _ _ _ _ _ _ c.from_residual-in_err-fill_method-7.ensures.1 c.in_err-fill_method-7.ensures.err
    (λ h. refused_among (take 7 operations_rows) (method_row (codes "put")) (drop 8 operations_rows) _ h)
    (omega (arith, c.in_ok-fill_additional_operations.ensures.ok.1.grows, c.in_ok-fill_method.ensures.ok.1.grows, c.in_ok-fill_method-2.ensures.ok.1.grows, c.in_ok-fill_method-3.ensures.ok.1.grows, c.in_ok-fill_method-4.ensures.ok.1.grows, c.in_ok-fill_method-5.ensures.ok.1.grows, c.in_ok-fill_method-6.ensures.ok.1.grows))
    (omega (arith, operations_values (view c.args.tree.now), c.in_ok-fill_additional_operations.ensures.ok.1.at_most, c.in_ok-fill_method.ensures.ok.1.at_most, c.in_ok-fill_method-2.ensures.ok.1.at_most, c.in_ok-fill_method-3.ensures.ok.1.at_most, c.in_ok-fill_method-4.ensures.ok.1.at_most, c.in_ok-fill_method-5.ensures.ok.1.at_most, c.in_ok-fill_method-6.ensures.ok.1.at_most))

pub fill_operations-returns-in_err-fill_query : goal.fill_operations-returns-in_err-fill_query
fill_operations-returns-in_err-fill_query t c =
    passes_reads _ _ _ _ _ _ _ _ _ _ _ c.from_residual-in_err-fill_query.ensures.1 c.in_err-fill_query.ensures.err
    (λ h. refused_among (take 8 operations_rows) (method_row (codes "query")) (drop 9 operations_rows) _ h)
    (omega (arith, c.in_ok-fill_additional_operations.ensures.ok.1.grows, c.in_ok-fill_method.ensures.ok.1.grows, c.in_ok-fill_method-2.ensures.ok.1.grows, c.in_ok-fill_method-3.ensures.ok.1.grows, c.in_ok-fill_method-4.ensures.ok.1.grows, c.in_ok-fill_method-5.ensures.ok.1.grows, c.in_ok-fill_method-6.ensures.ok.1.grows, c.in_ok-fill_method-7.ensures.ok.1.grows))
    (omega (arith, operations_values (view c.args.tree.now), c.in_ok-fill_additional_operations.ensures.ok.1.at_most, c.in_ok-fill_method.ensures.ok.1.at_most, c.in_ok-fill_method-2.ensures.ok.1.at_most, c.in_ok-fill_method-3.ensures.ok.1.at_most, c.in_ok-fill_method-4.ensures.ok.1.at_most, c.in_ok-fill_method-5.ensures.ok.1.at_most, c.in_ok-fill_method-6.ensures.ok.1.at_most, c.in_ok-fill_method-7.ensures.ok.1.at_most))

pub fill_operations-returns-in_err-fill_method-8 : goal.fill_operations-returns-in_err-fill_method-8
fill_operations-returns-in_err-fill_method-8 t c =
    passes_reads _ _ _ _ _ _ _ _ _ _ _ c.from_residual-in_err-fill_method-8.ensures.1 c.in_err-fill_method-8.ensures.err
    (λ h. refused_among (take 9 operations_rows) (method_row (codes "trace")) [] _ h)
    (omega (arith, c.in_ok-fill_additional_operations.ensures.ok.1.grows, c.in_ok-fill_method.ensures.ok.1.grows, c.in_ok-fill_method-2.ensures.ok.1.grows, c.in_ok-fill_method-3.ensures.ok.1.grows, c.in_ok-fill_method-4.ensures.ok.1.grows, c.in_ok-fill_method-5.ensures.ok.1.grows, c.in_ok-fill_method-6.ensures.ok.1.grows, c.in_ok-fill_method-7.ensures.ok.1.grows, c.in_ok-fill_query.ensures.ok.1.grows))
    (omega (arith, operations_values (view c.args.tree.now), c.in_ok-fill_additional_operations.ensures.ok.1.at_most, c.in_ok-fill_method.ensures.ok.1.at_most, c.in_ok-fill_method-2.ensures.ok.1.at_most, c.in_ok-fill_method-3.ensures.ok.1.at_most, c.in_ok-fill_method-4.ensures.ok.1.at_most, c.in_ok-fill_method-5.ensures.ok.1.at_most, c.in_ok-fill_method-6.ensures.ok.1.at_most, c.in_ok-fill_method-7.ensures.ok.1.at_most, c.in_ok-fill_query.ensures.ok.1.at_most))

pub fill_operations-returns : goal.fill_operations-returns
fill_operations-returns t c =
    let additional = c.in_ok-fill_additional_operations.ensures.ok in
    let delete = c.in_ok-fill_method.ensures.ok in
    let get = c.in_ok-fill_method-2.ensures.ok in
    let head = c.in_ok-fill_method-3.ensures.ok in
    let options = c.in_ok-fill_method-4.ensures.ok in
    let patch = c.in_ok-fill_method-5.ensures.ok in
    let post = c.in_ok-fill_method-6.ensures.ok in
    let put = c.in_ok-fill_method-7.ensures.ok in
    let query = c.in_ok-fill_query.ensures.ok in
    let trace = c.in_ok-fill_method-8.ensures.ok in
    let filled = trace.2 ∙ ap (with_method Trace trace.0) (query.2 ∙ ap (with_query query.0) (put.2 ∙ ap (with_method Put put.0) (post.2 ∙ ap (with_method Post post.0) (patch.2 ∙ ap (with_method Patch patch.0) (options.2 ∙ ap (with_method Options options.0) (head.2 ∙ ap (with_method Head head.0) (get.2 ∙ ap (with_method Get get.0) (delete.2 ∙ ap (with_method Delete delete.0) (additional.2))))))))) in
    let all = operations_read (view c.args.tree.now) _ _ _ _ _ _ _ _ _ _ _ _ _ _ _ _ _ _ _ _ _
    additional.1
    delete.1
    get.1
    head.1
    options.1
    patch.1
    post.1
    put.1
    query.1
    trace.1 in
    reads_as list_doc _ _ _ _ _ _ _ (ap (λ i. list_doc (operations_of operation_doc i)) (sym filled)) all

pub read_callback-fill_callback-requires : goal.read_callback-fill_callback-requires
read_callback-fill_callback-requires t c = (omega arith, search rules)

pub read_callback-returns : goal.read_callback-returns
read_callback-returns t c = reads_where_done callback_doc _ c.fill_callback.result _ _ _ _ _ c.and.ensures c.fill_callback.ensures

pub read_callback_map-fill_callback_map-requires : goal.read_callback_map-fill_callback_map-requires
read_callback_map-fill_callback_map-requires t c = (omega arith, search rules)

pub read_callback_map-returns : goal.read_callback_map-returns
read_callback_map-returns t c = reads_where_done callbacks_doc _ c.fill_callback_map.result _ _ _ _ _ c.and.ensures c.fill_callback_map.ensures

pub read_operation_map-fill_operation_map-requires : goal.read_operation_map-fill_operation_map-requires
read_operation_map-fill_operation_map-requires t c = (omega arith, search rules)

pub read_operation_map-returns : goal.read_operation_map-returns
read_operation_map-returns t c = reads_where_done (map_of_docs operation_doc) _ c.fill_operation_map.result _ _ _ _ _ c.and.ensures c.fill_operation_map.ensures

pub read_operations-fill_operations-requires : goal.read_operations-fill_operations-requires
read_operations-fill_operations-requires t c = (omega arith, tt)
