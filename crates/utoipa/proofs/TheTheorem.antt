-- What a value is read back as from its own tree, and that documents are merged to one document and no other.
use Rattle.std.proofs.Common.{◌≡◌, refl, false, List, [], ◌∷◌, All, map, Option, Some, None, Result, Ok, Err, IfOk, IfErr, IfSome}
use Rattle.std.specs.List.{AllByRecursion}
use Rattle.std.proofs.lemmas.List.Elements.{All-from_recursion}
use Rattle.serde_json.specs.Data.{Data}
use Rattle.serde_json.specs.Written.{has_float}
use Rattle.utoipa_base.specs.Docs.{Doc}
use Rattle.utoipa_base.specs.Faults.{Refuses}
use Rattle.utoipa_base.specs.Kinds.{Kind}
use Rattle.utoipa_base.specs.NormalForm.{normal_form}
use Rattle.utoipa_base.specs.Reading.{read}
use Rattle.utoipa_base.specs.WellFormed.{IsWellFormed, ReadsAs}
use Rattle.utoipa_base.specs.declared.fault.ReadFault.{ReadFault}
use Rattle.utoipa_base.specs.declared.fault.ReadFault.TheVariants.{Memory, Fraction, Missing, Kind as no_kind, Word, Alternative, Text}
use Rattle.utoipa_merging.specs.Merged.{IsInKeyOrder, IsMerged, IsOpenApi}
use Rattle.utoipa_merging.proofs.MadeDocuments.{made_of_all}
use Rattle.utoipa_merging.proofs.MadeNested.{made_nested}
use Rattle.utoipa_merging.proofs.Nesting.{nested_unique}
use Rattle.utoipa_merging.proofs.NormalMerged.{merged_normal}
use Rattle.utoipa_merging.proofs.Unique.{merged_unique}
use Rattle.utoipa_merging.proofs.WellFormedMerged.{merged_well_formed}
use Rattle.utoipa.specs.MainTheorem.{HaveMerged, HaveNested, IsReadBack, IsTheMerged}
use Rattle.utoipa.specs.OpenApi.{openapi_doc, openapi_of_kind}
use Rattle.utoipa.specs.declared.document.OpenApi.{OpenApi}

some_as : (o : Option Doc) (d e : Doc) → o ≡ Some d → o ≡ Some e → d ≡ e
some_as o d e p q = cc

memory_alone : (o : Option Doc) (d : Doc) (e : ReadFault) → o ≡ Some d → Refuses o e → e ≡ Memory
memory_alone o d Memory is refused = refl
memory_alone o d Fraction is refused = absurd refused
memory_alone o d (Missing s) is refused = cc
memory_alone o d (no_kind s) is refused = cc
memory_alone o d (Word s) is refused = cc
memory_alone o d Alternative is refused = cc
memory_alone o d Text is refused = absurd refused

pub is_read_back : {T : Type 0} (k : Kind) (doc : T → Doc) (value : T) (answer : Result T ReadFault) (tree : Data)
    → (IsWellFormed (doc value) → ReadsAs k tree (normal_form (doc value)))
    → IfOk answer (λ v. read k tree ≡ Some (doc v))
    → IfErr answer (λ e. has_float tree ≡ false → Refuses (read k tree) e)
    → IsReadBack doc value answer
is_read_back k doc value (Ok v) tree law ok err = record { document = λ h. some_as (read k tree) (doc v) (normal_form (doc value)) ok (law h).1; refusal = tt }
is_read_back k doc value (Err e) tree law ok err = record { document = tt; refusal = λ h. memory_alone (read k tree) (normal_form (doc value)) e (law h).1 (err (law h).0) }

-- ---- what documents were merged into

all_of_kind : (documents : List OpenApi) → AllByRecursion IsOpenApi (map openapi_doc documents)
all_of_kind [] = tt
all_of_kind (d ∷ ds) = (openapi_of_kind d, all_of_kind ds)

-- each document is an OpenAPI Object
pub are_of_kind : (documents : List OpenApi) → All IsOpenApi (map openapi_doc documents)
are_of_kind documents = All-from_recursion IsOpenApi (map openapi_doc documents) (all_of_kind documents)

-- it is well-formed where they are
pub stays_well_formed : (documents : List OpenApi) (merged : OpenApi) → IsMerged (map openapi_doc documents) (openapi_doc merged) → IsInKeyOrder (openapi_doc merged)
    → All IsWellFormed (map openapi_doc documents) → IsWellFormed (openapi_doc merged)
stays_well_formed documents merged is order each = merged_well_formed (map openapi_doc documents) (openapi_doc merged) is (are_of_kind documents) each order

-- and in normal form where they are
pub stays_normal : (documents : List OpenApi) (merged : OpenApi) → IsMerged (map openapi_doc documents) (openapi_doc merged) → IsInKeyOrder (openapi_doc merged)
    → All (λ d. normal_form d ≡ d) (map openapi_doc documents) → normal_form (openapi_doc merged) ≡ openapi_doc merged
stays_normal documents merged is order each = merged_normal (map openapi_doc documents) (openapi_doc merged) is each order

-- what follows of a result from two facts of it
pub both_if_ok : {X E : Type 0} (P Q R : X → Type 0) (r : Result X E) → IfOk r P → IfOk r Q → ((x : X) → P x → Q x → R x) → IfOk r R
both_if_ok P Q R (Ok x) p q then = then x p q
both_if_ok P Q R (Err e) p q then = tt

-- ---- the one document

-- what documents are merged to, in the order of its keys, is the merged document
pub is_the_merged : (documents : List Doc) (d : Doc) → IsMerged documents d → IsInKeyOrder d → IsTheMerged documents d
is_the_merged documents d is order = record { merged = is; ordered = order; alone = λ e is_too order_too. merged_unique documents e d is_too is order_too order }

-- the same of what may be answered
pub is_the_merged_if : (documents : List Doc) (answer : Option OpenApi) → IfSome answer (λ d. IsMerged documents (openapi_doc d)) → IfSome answer (λ d. IsInKeyOrder (openapi_doc d))
    → IfSome answer (λ d. IsTheMerged documents (openapi_doc d))
is_the_merged_if documents None is order = tt
is_the_merged_if documents (Some d) is order = is_the_merged documents (openapi_doc d) is order

-- documents have a merged document
pub have_merged : HaveMerged
have_merged = λ first others.
    let m = made_of_all (openapi_doc first) (map openapi_doc others) (all_of_kind (first ∷ others)) in
    (m.made, is_the_merged (map openapi_doc (first ∷ others)) m.made m.merged m.order)

-- and of two, with answers, there is a nested document
pub have_nested : HaveNested
have_nested = λ answers own other each.
    let m = made_nested answers (openapi_doc own) (openapi_doc other) each (openapi_of_kind own) (openapi_of_kind other) in (
      m.made,
      record {
        nested = m.nested;
        ordered = m.order;
        alone = λ e is order. nested_unique answers (openapi_doc own) (openapi_doc other) e m.made (openapi_of_kind own) is m.nested order m.order;
      },
    )
