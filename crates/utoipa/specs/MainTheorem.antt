-- The theorem of this library, on one page: what reading, writing, merging and nesting come to. The function `laws::main_theorem` proves it, for
-- each type that is read and written, and for all trees, values and documents.
--
-- Its first part is laws. They hold of all values and documents, and no call and no memory is in them. Its second part says what each call
-- answers. A call may also answer that memory ran out. No law rules that out; tests show that the calls succeed where there is memory.
use Rattle.std.specs.Prelude.{◌≡◌, ◌≤◌, ◌<◌, ◌↔◌, ℕ, List, [], ◌∷◌, map, length, true, false, Option, Some, None, Result, Ok, All, IfOk, IfErr, IfSome, IsErrOf}
use Rattle.std.specs.declared.alloc.AllocError.{AllocError}
use Rattle.serde_json.specs.Data.{Data}
use Rattle.serde_json.specs.View.{view}
use Rattle.serde_json.specs.Written.{has_float}
use Rattle.serde_json.specs.declared.value.Value.{Value}
use Rattle.utoipa_base.specs.Docs.{Doc}
use Rattle.utoipa_base.specs.Faults.{Refuses}
use Rattle.utoipa_base.specs.Kinds.{Kind, named, open_api_object}
use Rattle.utoipa_base.specs.NormalForm.{normal_form}
use Rattle.utoipa_base.specs.Reading.{read}
use Rattle.utoipa_base.specs.Values.{values, schema_count}
use Rattle.utoipa_base.specs.WellFormed.{IsWellFormed}
use Rattle.utoipa_base.specs.Writing.{write}
use Rattle.utoipa_base.specs.declared.fault.ReadFault.{ReadFault}
use Rattle.utoipa_base.specs.declared.fault.ReadFault.TheVariants.{Memory, Fraction}
use Rattle.utoipa_base.specs.declared.readings.Counted.{Counted}
use Rattle.utoipa_merging.specs.Merged.{IsInKeyOrder, IsMerged}
use Rattle.utoipa_merging.specs.Nested.{IsNested}
use Rattle.utoipa_merging.specs.Slots.{entries_in, paths_of}
use Rattle.utoipa.specs.Merging.{any_list_has_fraction}
use Rattle.utoipa.specs.OpenApi.{openapi_doc}
use Rattle.utoipa.specs.declared.document.OpenApi.{OpenApi}
use Rattle.utoipa.specs.declared.laws.Answers.{Answers}
use Rattle.utoipa.specs.declared.merging.MergeFault.{MergeFault}
use Rattle.utoipa.specs.declared.merging.MergeFault.TheVariants.{Memory as no_memory, Fraction as merges_fraction, Composer}

-- ---- the laws

-- Each well-formed value reads back, from the tree that it is written as, as its normal form.
abbrev pub ReadsBack : {T : Type 0} → Kind → (T → Doc) → Type 0
ReadsBack {T} kind doc = (value : T) → IsWellFormed (doc value) → read kind (write (doc value)) ≡ Some (normal_form (doc value))

-- d is the merged document: the documents are merged to it, its maps are in the order of their keys, and it is the only one of which both hold.
pub record IsTheMerged (documents : List Doc) (d : Doc) : Type 0 where
  pub merged : IsMerged documents d
  pub ordered : IsInKeyOrder d
  pub alone : (e : Doc) → IsMerged documents e → IsInKeyOrder e → e ≡ d

-- One document or more have a merged document, whatever the documents are. So the merged document is a function of them.
abbrev pub HaveMerged : Type 0
HaveMerged = (first : OpenApi) (others : List OpenApi) → (d : Doc) × IsTheMerged (map openapi_doc (first ∷ others)) d

-- d is the nested document: it is `own` with `other` nested into it, by these answers, its maps are in the order of their keys, and it is the
-- only one of which both hold.
pub record IsTheNested (answers : List (List ℕ)) (own other d : Doc) : Type 0 where
  pub nested : IsNested answers own other d
  pub ordered : IsInKeyOrder d
  pub alone : (e : Doc) → IsNested answers own other e → IsInKeyOrder e → e ≡ d

-- There is a nested document if each path of `other` has an answer.
abbrev pub HaveNested : Type 0
HaveNested =
    (answers : List (List ℕ)) (own other : OpenApi) → length answers ≡ length (entries_in (paths_of (openapi_doc other))) → (d : Doc) × IsTheNested answers (openapi_doc own) (openapi_doc other) d

-- A value of `OpenApi` is an OpenAPI Object (section 4.8.1), and `openapi_doc` is its document.
pub record IsOpenApiObject (kind : Kind) (doc : OpenApi → Doc) : Type 0 where
  pub kind_is : kind ≡ named open_api_object
  pub doc_is : (d : OpenApi) → doc d ≡ openapi_doc d

-- ---- the answers

-- `from_value_counted`: a tree is read as exactly the document that the member tables give, and is refused, memory aside, exactly where they
-- give none or the tree holds a fraction. On the way at most as many schemas are read as the tree has values.
pub record IsReadByTables {T : Type 0} (kind : Kind) (doc : T → Doc) (tree : Data) (answer : Counted T) : Type 0 where
  pub document : IfOk answer.outcome (λ value. read kind tree ≡ Some (doc value))
  pub fraction : IsErrOf answer.outcome Fraction ↔ (has_float tree ≡ true)
  -- a refusal of a tree without fractions: out of memory, or there is no document
  pub refusal : IfErr answer.outcome (λ fault. has_float tree ≡ false → Refuses (read kind tree) fault)
  pub at_most : answer.readings ≤ values tree
  -- and at least as many as the document has, where the counter does not stand still
  pub at_least : IfOk answer.outcome (λ value. answer.readings < 18446744073709551615 → schema_count (doc value) ≤ answer.readings)

-- `to_value`: a value is written as the tree of the member tables.
abbrev pub IsWrittenByTables : {T : Type 0} → (T → Doc) → T → Result Value AllocError → Type 0
IsWrittenByTables doc value answer = IfOk answer (λ tree. view tree ≡ write (doc value))

-- `to_value` and then `from_value`: a well-formed value is read back, memory aside, as its normal form.
pub record IsReadBack {T : Type 0} (doc : T → Doc) (value : T) (answer : Result T ReadFault) : Type 0 where
  pub document : IfOk answer (λ back. IsWellFormed (doc value) → doc back ≡ normal_form (doc value))
  pub refusal : IfErr answer (λ fault. IsWellFormed (doc value) → fault ≡ Memory)

-- `merge_tree`: documents in any brackets are merged, memory aside, to the merged document, and refused exactly where entries have to be
-- compared and one holds a fraction.
pub record AreMergedToOne (documents : List OpenApi) (answer : Result OpenApi MergeFault) : Type 0 where
  pub document : IfOk answer (λ merged. IsTheMerged (map openapi_doc documents) (openapi_doc merged))
  -- it is well-formed where they are, and in normal form where they are
  pub well_formed : IfOk answer (λ merged. All IsWellFormed (map openapi_doc documents) → IsWellFormed (openapi_doc merged))
  pub normal : IfOk answer (λ merged. All (λ d. normal_form d ≡ d) (map openapi_doc documents) → normal_form (openapi_doc merged) ≡ openapi_doc merged)
  pub fraction : IsErrOf answer merges_fraction ↔ (any_list_has_fraction (map openapi_doc documents) ≡ true)
  pub refusal : IsErrOf answer Composer → ⊥

-- `merge_all`: a list of documents is merged to the same, in one go. Of no documents none is answered, and else some document is.
pub record AreAllMergedToOne (documents : List OpenApi) (answer : Result (Option OpenApi) MergeFault) : Type 0 where
  pub document : IfOk answer (λ merged. IfSome merged (λ d. IsTheMerged (map openapi_doc documents) (openapi_doc d)))
  pub none : documents ≡ [] → answer ≡ Ok None
  pub some : IfOk answer (λ merged. merged ≡ None → documents ≡ [])
  pub fraction : IsErrOf answer merges_fraction ↔ (any_list_has_fraction (map openapi_doc documents) ≡ true)
  pub refusal : IsErrOf answer Composer → ⊥

-- ---- the theorem

-- It is said of a type with this kind and these documents, of what `OpenApi` has as its own, and of what the calls answer to a tree, a value,
-- documents in brackets and documents in a list.
pub record MainTheorem {T : Type 0} (kind : Kind) (doc : T → Doc) (kind_of_openapi : Kind) (doc_of_openapi : OpenApi → Doc) (tree : Data) (value : T) (documents listed : List OpenApi) (answers : Answers T) : Type 0 where
  pub reads_back : ReadsBack kind doc
  pub have_merged : HaveMerged
  pub have_nested : HaveNested
  pub of_openapi : IsOpenApiObject kind_of_openapi doc_of_openapi
  pub reading : IsReadByTables kind doc tree answers.read
  pub writing : IsWrittenByTables doc value answers.written
  pub reading_back : IsReadBack doc value answers.read_back
  pub merging : AreMergedToOne documents answers.merged
  pub merging_all : AreAllMergedToOne listed answers.merged_at_once
