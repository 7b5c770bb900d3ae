-- Lists of documents that are read from a text's tree: what they are merged or nested into is plain and in key order.
use Rattle.std.proofs.Common.{◌≡◌, ◌≢◌, ◌∷◌, ◌||◌, ℕ, List, [], Bool, false, Option, Some, None, IfSome, length, map, refl, sym, ap, ◌∙◌, subst, codes, Vec, Global, Result, Ok, Err, IfOk, IfErr}
use Rattle.std.specs.List.{AllByRecursion, list_any}
use Rattle.std.specs.Result.{IsErrAnd}
use Rattle.std.proofs.lemmas.List.{length-map}
use Rattle.std.proofs.lemmas.List.Elements.{All-from_recursion}
use Rattle.serde_json.specs.Data.{Data, null, boolean, number, string, array, object, Items, no_items, item}
use Rattle.serde_json.specs.Written.{has_float}
use Rattle.utoipa_base.specs.Docs.{Doc, Docs, docs_of, list_doc}
use Rattle.utoipa_base.specs.Kinds.{Kind, list_of, named, open_api_object}
use Rattle.utoipa_base.specs.Reading.{both, read, read_items, reader, item_readers}
use Rattle.utoipa_base.specs.Views.{list_of_docs}
use Rattle.utoipa_base.specs.WellFormed.{has_fraction, docs_have_fraction, IsPlain}
use Rattle.utoipa_base.specs.Writing.{write}
use Rattle.utoipa_base.proofs.BoolFacts.{or_first, or_second}
use Rattle.utoipa_base.proofs.Plain.{read_plain, write_plain}
use Rattle.utoipa_base.proofs.Results.{if_is, if_map}
use Rattle.utoipa_merging.specs.Merged.{IsInKeyOrder, IsMerged, IsOpenApi}
use Rattle.utoipa_merging.specs.Nested.{IsNested}
use Rattle.utoipa_merging.specs.Slots.{items_in, list_in}
use Rattle.utoipa_merging.specs.Sorted.{IsSorted, AreItemsSorted}
use Rattle.utoipa_merging.proofs.PlainMerged.{field_plain, merged_plain, nested_plain}
use Rattle.utoipa_merging.proofs.ReadInOrder.{read_in_order}
use Rattle.utoipa.specs.Merging.{lists_have_fraction, any_list_has_fraction}
use Rattle.utoipa.specs.declared.merging.MergeFault.{MergeFault}
use Rattle.utoipa.specs.declared.merging.MergeFault.TheVariants as merge_fault
use Rattle.utoipa_command.specs.Answers.{behind, line_of, IsAnswerToTree, IsCauseInTree, IsRewritten}
use Rattle.utoipa_command.specs.Commands.{Request, merge, nest}
use Rattle.utoipa_command.specs.Messages.{refusal_of_merging}
use Rattle.utoipa_command.specs.declared.refusal.Refusal.{Refusal}
use Rattle.utoipa_command.specs.declared.refusal.Refusal.TheVariants.{Memory, Count}

-- the kind of a document
abbrev document_kind : Kind
document_kind = named open_api_object

-- ---- in key order

abbrev AreInOrder : Docs → Type 0
AreInOrder ds = AllByRecursion IsInKeyOrder (list_in ds)

both_in_order : (o : Option Doc) (p : Option Docs) → IfSome o IsInKeyOrder → IfSome p AreInOrder → IfSome (both o p) AreInOrder
both_in_order None p g h = tt
both_in_order (Some d) None g h = tt
both_in_order (Some d) (Some ds) g h = (g, h)

read_document : (t : Data) → IsSorted t → IfSome (reader t document_kind) IsInKeyOrder
read_document t s = by_case (reader t document_kind) refl
  where
    by_case : (o : Option Doc) → reader t document_kind ≡ o → IfSome o IsInKeyOrder
    by_case None e = tt
    by_case (Some d) e = read_in_order t d s e

items_in_order : (ts : Items) → AreItemsSorted ts → IfSome (read_items document_kind (item_readers ts)) AreInOrder
unfolding item_readers
items_in_order no_items s = tt
items_in_order (item t ts) s = both_in_order _ _ (read_document t s.0) (items_in_order ts s.1)

list_in_order : (t : Data) → IsSorted t → IfSome (reader t (list_of document_kind)) (λ d. AllByRecursion IsInKeyOrder (items_in d))
unfolding reader
list_in_order null s = tt
list_in_order (boolean b) s = tt
list_in_order (number n) s = tt
list_in_order (string b) s = tt
list_in_order (array ts) s = if_map AreInOrder (λ d. AllByRecursion IsInKeyOrder (items_in d)) list_doc (λ ds h. h) _ (items_in_order ts s)
list_in_order (object ms) s = tt

listed : (ds : List Doc) → list_in (docs_of ds) ≡ ds
listed [] = refl
listed (d ∷ ds) = ap (λ es. d ∷ es) (listed ds)

-- documents that were read from a plain and sorted tree are in key order
pub in_order : (t : Data) (ds : List Doc) → IsSorted t → read (list_of document_kind) t ≡ Some (list_doc (docs_of ds)) → AllByRecursion IsInKeyOrder ds
in_order t ds s e = subst (AllByRecursion IsInKeyOrder) (listed ds) (if_is _ _ _ (list_in_order t s) e)

-- ---- plain

docs_plain : (ds : List Doc) → docs_have_fraction (docs_of ds) ≡ false → AllByRecursion IsPlain ds
unfolding docs_have_fraction
docs_plain [] h = tt
docs_plain (d ∷ ds) h = (or_first _ _ h, docs_plain ds (or_second _ _ h))

-- so they are plain
pub all_plain : (t : Data) (ds : List Doc) → has_float t ≡ false → read (list_of document_kind) t ≡ Some (list_doc (docs_of ds)) → AllByRecursion IsPlain ds
unfolding has_fraction
all_plain t ds h e = docs_plain ds (read_plain (list_of document_kind) t _ h e)

neither : (b c : Bool) → b ≡ false → c ≡ false → (b || c) ≡ false
neither b c g h = ap (λ x. x || c) g ∙ h

lists_plain : (d : Doc) → IsPlain d → lists_have_fraction d ≡ false
lists_plain d h = neither _ _ (field_plain (codes "servers") d h) (field_plain (codes "tags") d h)

any_plain : (ds : List Doc) → AllByRecursion IsPlain ds → list_any lists_have_fraction ds ≡ false
any_plain [] h = refl
any_plain (d ∷ ds) h = neither _ _ (lists_plain d h.0) (any_plain ds h.1)

pub none_has_fraction : (ds : List Doc) → AllByRecursion IsPlain ds → any_list_has_fraction ds ≡ false
none_has_fraction [] h = refl
none_has_fraction (d ∷ []) h = refl
none_has_fraction (d ∷ e ∷ ds) h = any_plain (d ∷ e ∷ ds) h

pub neither_has_fraction : (c d : Doc) → IsPlain c → IsPlain d → (lists_have_fraction c || lists_have_fraction d) ≡ false
neither_has_fraction c d g h = neither _ _ (lists_plain c g) (lists_plain d h)

-- ---- what answers them

-- what merging plain documents is refused for is want of memory, which refuses any input
merging_refused : (r : Request) (t : Data) (fault : MergeFault) → (fault ≡ merge_fault.Fraction → ⊥) → IsCauseInTree r t (refusal_of_merging fault)
merging_refused r t merge_fault.Memory f = tt
merging_refused r t merge_fault.Fraction f = absurd (f refl)
merging_refused r t merge_fault.Composer f = tt

pub refused : {T : Type 0} (r : Request) (t : Data) (result : Result T Refusal) (fault : MergeFault) → IsErrAnd result (λ w. w ≡ refusal_of_merging fault)
    → (fault ≡ merge_fault.Fraction → ⊥) → IfErr result (IsCauseInTree r t)
refused r t (Ok v) fault h plain = tt
refused r t (Err w) fault h plain = subst (IsCauseInTree r t) (sym h) (merging_refused r t fault plain)

-- want of memory refuses any input
pub memory_refused : {T : Type 0} (r : Request) (t : Data) (result : Result T Refusal) → IfErr result (λ w. w ≡ Memory) → IfErr result (IsCauseInTree r t)
memory_refused r t (Ok v) h = tt
memory_refused r t (Err w) h = subst (IsCauseInTree r t) (sym h) tt

-- documents of another number than two are refused by nesting, for their number
pub count_refused : {D : Type 0} (f : D → Doc) (base : List ℕ) (t : Data) (v : Vec D Global) → has_float t ≡ false
    → read (list_of document_kind) t ≡ Some (list_of_docs f v) → length v.items ≢ 2 → IsCauseInTree (nest base) t Count
count_refused f base t v plain reads other =
    (plain, (list_of_docs f v, reads, λ two. other (sym (length-map v.items f) ∙ sym (ap length (listed (map f v.items))) ∙ two)))

-- what follows from what holds of a result holds of it
pub if_ok : {T E : Type 0} (P Q : T → Type 0) (r : Result T E) → IfOk r P → ((v : T) → P v → Q v) → IfOk r Q
if_ok P Q (Ok v) h g = g v h
if_ok P Q (Err e) h g = tt

pub answers_merged : (t : Data) (ds : List Doc) (d : Doc) (line : List ℕ) → has_float t ≡ false
    → read (list_of document_kind) t ≡ Some (list_doc (docs_of ds)) → IsMerged ds d → IsInKeyOrder d
    → (has_float (write d) ≡ false → line ≡ line_of (write d)) → IsAnswerToTree merge t line
answers_merged t ds d line h e m order printed =
    record {
      plain = h;
      input = list_doc (docs_of ds);
      reads = e;
      answer = d;
      answers = (subst (λ xs. IsMerged xs d) (sym (listed ds)) m, order);
      text = printed (write_plain d (merged_plain ds d m (All-from_recursion IsPlain ds (all_plain t ds h e)) order));
    }

pub answers_nested : (base : List ℕ) (t : Data) (own nested d : Doc) (line : List ℕ) → has_float t ≡ false → IsSorted t
    → read (list_of document_kind) t ≡ Some (list_doc (docs_of (own ∷ nested ∷ []))) → IsOpenApi own → IsOpenApi nested
    → IsNested (behind base nested) own nested d → (IsInKeyOrder own → IsInKeyOrder d)
    → (has_float (write d) ≡ false → line ≡ line_of (write d)) → IsAnswerToTree (nest base) t line
answers_nested base t own nested d line h s e p q m ordered printed =
    let both = in_order t (own ∷ nested ∷ []) s e in
    let plain = all_plain t (own ∷ nested ∷ []) h e in
    let order = ordered both.0 in
    record {
      plain = h;
      input = list_doc (docs_of (own ∷ nested ∷ []));
      reads = e;
      answer = d;
      answers = (own, nested, refl, (m, order));
      text = printed (write_plain d (nested_plain (behind base nested) own nested d p q m plain.0 plain.1.0 order));
    }

-- what two items of an iterator stand for
pub two_documents : {D : Type 0} (f : D → Doc) (t : Data) (v : Vec D Global) (own nested : D) → v.items ≡ own ∷ nested ∷ []
    → read (list_of document_kind) t ≡ Some (list_of_docs f v) → read (list_of document_kind) t ≡ Some (list_doc (docs_of (f own ∷ f nested ∷ [])))
two_documents f t v own nested two e = e ∙ ap (λ xs. Some (list_doc (docs_of (map f xs)))) two

pub rewritten_as : (k : Kind) (t : Data) (d : Doc) (line : List ℕ) → has_float t ≡ false → read k t ≡ Some d
    → (has_float (write d) ≡ false → line ≡ line_of (write d)) → IsRewritten k t line
rewritten_as k t d line h e printed = record {
  plain = h;
  document = d;
  reads = e;
  text = printed (write_plain d (read_plain k t d h e));
}
