-- What documents in normal form are merged into is in normal form, and so is what such a document is with another nested into it.
use Rattle.std.proofs.Common.{◌≡◌, ℕ, List, Bool, true, false, All, refl, ap, ◌∙◌}
use Rattle.std.specs.List.{AllByRecursion}
use Rattle.std.proofs.lemmas.List.Elements.{recursion_from_All}
use Rattle.serde_json.specs.Find.{get_member}
use Rattle.utoipa_base.specs.Docs.{Doc, some_doc, list_doc, map_doc, entries_doc, table_doc, Docs, no_docs, doc, Entries, no_entries, entry}
use Rattle.utoipa_base.specs.Extensions.{members_or_none}
use Rattle.utoipa_base.specs.NormalForm.{normal_form, normal_docs, normal_entries, normal_some, normal_extensions}
use Rattle.utoipa_base.specs.Reading.{is_null}
use Rattle.utoipa_base.specs.Tables.{table}
use Rattle.utoipa_base.specs.Writing.{write}
use Rattle.utoipa_merging.specs.Slots.{list_in, pairs_in}
use Rattle.utoipa_merging.specs.Merged.{IsOpenApi, IsMerged, IsInKeyOrder}
use Rattle.utoipa_merging.specs.Nested.{IsNested}
use Rattle.utoipa_merging.proofs.Properties.{fields_of_all, Property}
use Rattle.utoipa_merging.proofs.PropertySlots.{all_then, all_any, if_any, all_named}
use Rattle.utoipa_merging.proofs.PropertyMerged.{merged_has, nested_has}

-- the document is in normal form
abbrev IsNormal : Doc → Type 0
IsNormal d = normal_form d ≡ d

-- nothing is asked
abbrev Anything : Type 0
Anything = Unit {0}

-- ---- parts

some_normal : (b : Bool) (c d : Doc) → b ≡ false → c ≡ d → normal_some b c ≡ some_doc d
some_normal b c d written is = ap (λ x. normal_some x c) written ∙ ap some_doc is

in_some_normal : (b : Bool) (c d : Doc) → normal_some b c ≡ some_doc d → c ≡ d
in_some_normal true c d is = cc
in_some_normal false c d is = cc

docs_normal : (ds : Docs) → AllByRecursion IsNormal (list_in ds) → normal_docs ds ≡ ds
unfolding normal_docs
docs_normal no_docs h = refl
docs_normal (doc d ds) h = ap (λ x. doc x (normal_docs ds)) h.0 ∙ ap (doc d) (docs_normal ds h.1)

normal_docs_of : (ds : Docs) → normal_docs ds ≡ ds → AllByRecursion IsNormal (list_in ds)
unfolding normal_docs
normal_docs_of no_docs h = tt
normal_docs_of (doc d ds) h = (cc, normal_docs_of ds cc)

entries_normal : (es : Entries) → AllByRecursion (λ e. IsNormal e.1) (pairs_in es) → normal_entries es ≡ es
unfolding normal_entries
entries_normal no_entries h = refl
entries_normal (entry k d es) h = ap (λ x. entry k x (normal_entries es)) h.0 ∙ ap (entry k d) (entries_normal es h.1)

normal_entries_of : (es : Entries) → normal_entries es ≡ es → AllByRecursion (λ e. IsNormal e.1) (pairs_in es)
unfolding normal_entries
normal_entries_of no_entries h = tt
normal_entries_of (entry k d es) h = (cc, normal_entries_of es cc)

-- ---- the property

normal : Property
unfolding normal_form
normal = record {
  Has = λ k. IsNormal;
  Stands = λ name d. Anything;
  Names = λ name. Anything;
  Extends = λ k e. normal_extensions e ≡ e;
  Extension = λ k name t. Anything;
  none = λ k l. refl;
  some = λ k d written h. some_normal (is_null (write d)) (normal_form d) d written h;
  in_some = λ k d h. in_some_normal (is_null (write d)) (normal_form d) d h;
  list = λ k ds l h. ap list_doc (docs_normal ds h);
  in_list = λ k ds l h. normal_docs_of ds cc;
  map = λ k es l h. ap map_doc (entries_normal es (all_then (λ e g. g.0) (pairs_in es) h));
  in_map = λ k es l h. all_then (λ e g. (g, tt)) (pairs_in es) (normal_entries_of es cc);
  object = λ k es e l h g. ap (λ x. entries_doc x (normal_extensions e)) (entries_normal es (all_then (λ x i. i.0) (pairs_in es) h)) ∙ ap (entries_doc es) g;
  in_object = λ k es e l h. all_then (λ x g. (g, tt, tt)) (pairs_in es) (normal_entries_of es cc);
  beside_object = λ k es e l h. cc;
  table = λ k n ds e l h g. ap (λ x. table_doc n x (normal_extensions e)) (docs_normal ds h) ∙ ap (table_doc n ds) g;
  in_table = λ k n ds e l h. fields_of_all IsNormal refl (table n) ds (normal_docs_of ds cc);
  beside_table = λ k n ds e l h. cc;
  stands = λ name n ds e. tt;
  no_extensions = λ k l. refl;
  extends = λ k name t ms h. refl;
  extension = λ k e h name. if_any (λ t. tt) (get_member name (members_or_none e));
}

-- ---- merging and nesting

pub merged_normal : (documents : List Doc) (d : Doc) → IsMerged documents d → All IsNormal documents → IsInKeyOrder d → IsNormal d
unfolding normal
merged_normal documents d m h s = merged_has normal documents d m (all_then (λ x g. (g, all_named normal (λ name. tt) x)) documents (recursion_from_All IsNormal documents h)) s

pub nested_normal : (answers : List (List ℕ)) (own nested d : Doc) → IsOpenApi own → IsOpenApi nested → IsNested answers own nested d → IsNormal own → IsNormal nested → IsInKeyOrder d → IsNormal d
unfolding normal
nested_normal answers own nested d h g n p q s = nested_has normal answers own nested d h g n p (all_named normal (λ name. tt) own) q (all_named normal (λ name. tt) nested) (all_any (λ a. tt) answers) s
