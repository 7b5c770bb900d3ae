-- What plain documents are merged into is plain, and so is what a plain document is with a plain one nested into it.
use Rattle.std.proofs.Common.{◌≡◌, ℕ, List, false, Option, All, refl}
use Rattle.std.specs.List.{AllByRecursion}
use Rattle.std.proofs.lemmas.Bool.{or_from}
use Rattle.std.proofs.lemmas.List.Elements.{recursion_from_All}
use Rattle.serde_json.specs.Data.{Data, Members, no_members, member}
use Rattle.serde_json.specs.Written.{has_float, members_have_float}
use Rattle.utoipa_base.specs.Docs.{Doc, Docs, no_docs, doc, Entries, no_entries, entry}
use Rattle.utoipa_base.specs.Extensions.{members_or_none}
use Rattle.utoipa_base.specs.Tables.{table}
use Rattle.utoipa_base.specs.WellFormed.{has_fraction, docs_have_fraction, entries_have_fraction, IsPlain}
use Rattle.utoipa_base.proofs.BoolFacts.{or_first, or_second}
use Rattle.utoipa_merging.specs.Slots.{field_at, list_in, pairs_in}
use Rattle.utoipa_merging.specs.Merged.{IsOpenApi, IsMerged, IsInKeyOrder}
use Rattle.utoipa_merging.specs.Nested.{IsNested}
use Rattle.utoipa_merging.proofs.InOrder.{member_pairs, member_of_all}
use Rattle.utoipa_merging.proofs.Properties.{fields_of_all, level_0, Property}
use Rattle.utoipa_merging.proofs.PropertySlots.{all_then, all_any, all_named, field_has}
use Rattle.utoipa_merging.proofs.PropertyMerged.{merged_has, nested_has}

-- ---- what is plain beside a document

-- nothing is asked
abbrev Anything : Type 0
Anything = Unit {0}

-- a tree
abbrev IsTreePlain : Data → Type 0
IsTreePlain t = has_float t ≡ false

-- extensions
abbrev ExtensionsPlain : Option Members → Type 0
ExtensionsPlain e = members_have_float (members_or_none e) ≡ false

docs_plain : (ds : Docs) → AllByRecursion IsPlain (list_in ds) → docs_have_fraction ds ≡ false
unfolding docs_have_fraction
docs_plain no_docs h = refl
docs_plain (doc d ds) h = or_from _ _ h.0 (docs_plain ds h.1)

plain_docs : (ds : Docs) → docs_have_fraction ds ≡ false → AllByRecursion IsPlain (list_in ds)
unfolding docs_have_fraction
plain_docs no_docs h = tt
plain_docs (doc d ds) h = (or_first _ _ h, plain_docs ds (or_second _ _ h))

entries_plain : (es : Entries) → AllByRecursion (λ e. IsPlain e.1) (pairs_in es) → entries_have_fraction es ≡ false
unfolding entries_have_fraction
entries_plain no_entries h = refl
entries_plain (entry k d es) h = or_from _ _ h.0 (entries_plain es h.1)

plain_entries : (es : Entries) → entries_have_fraction es ≡ false → AllByRecursion (λ e. IsPlain e.1) (pairs_in es)
unfolding entries_have_fraction
plain_entries no_entries h = tt
plain_entries (entry k d es) h = (or_first _ _ h, plain_entries es (or_second _ _ h))

members_plain : (ms : Members) → AllByRecursion (λ e. IsTreePlain e.1) (member_pairs ms) → members_have_float ms ≡ false
members_plain no_members h = refl
members_plain (member k t ms) h = or_from _ _ h.0 (members_plain ms h.1)

plain_members : (ms : Members) → members_have_float ms ≡ false → AllByRecursion (λ e. IsTreePlain e.1) (member_pairs ms)
plain_members no_members h = tt
plain_members (member k t ms) h = (or_first _ _ h, plain_members ms (or_second _ _ h))

-- ---- the property

plain : Property
unfolding has_fraction
plain = record {
  Has = λ k. IsPlain;
  Stands = λ name d. Anything;
  Names = λ name. Anything;
  Extends = λ k. ExtensionsPlain;
  Extension = λ k name. IsTreePlain;
  none = λ k l. refl;
  some = λ k d written h. h;
  in_some = λ k d h. h;
  list = λ k ds l h. docs_plain ds h;
  in_list = λ k ds l h. plain_docs ds h;
  map = λ k es l h. entries_plain es (all_then (λ e g. g.0) (pairs_in es) h);
  in_map = λ k es l h. all_then (λ e g. (g, tt)) (pairs_in es) (plain_entries es h);
  object = λ k es e l h g. or_from _ _ (entries_plain es (all_then (λ x i. i.0) (pairs_in es) h)) g;
  in_object = λ k es e l h. all_then (λ x g. (g, tt, tt)) (pairs_in es) (plain_entries es (or_first _ _ h));
  beside_object = λ k es e l h. or_second _ _ h;
  table = λ k n ds e l h g. or_from _ _ (docs_plain ds h) g;
  in_table = λ k n ds e l h. fields_of_all IsPlain refl (table n) ds (plain_docs ds (or_first _ _ h));
  beside_table = λ k n ds e l h. or_second _ _ h;
  stands = λ name n ds e. tt;
  no_extensions = λ k l. refl;
  extends = λ k name t ms h. members_plain (member name t ms) h;
  extension = λ k e h name. member_of_all (λ n. IsTreePlain) (members_or_none e) name (plain_members (members_or_none e) h);
}

-- a field of a plain document
pub field_plain : (name : List ℕ) (d : Doc) → IsPlain d → IsPlain (field_at name d)
unfolding plain
field_plain name d h = field_has plain 0 name d level_0 h

pub merged_plain : (documents : List Doc) (d : Doc) → IsMerged documents d → All IsPlain documents → IsInKeyOrder d → IsPlain d
unfolding plain
merged_plain documents d m h s = merged_has plain documents d m (all_then (λ x g. (g, all_named plain (λ name. tt) x)) documents (recursion_from_All IsPlain documents h)) s

pub nested_plain : (answers : List (List ℕ)) (own nested d : Doc) → IsOpenApi own → IsOpenApi nested → IsNested answers own nested d → IsPlain own → IsPlain nested → IsInKeyOrder d → IsPlain d
unfolding plain
nested_plain answers own nested d h g n p q s = nested_has plain answers own nested d h g n p (all_named plain (λ name. tt) own) q (all_named plain (λ name. tt) nested) (all_any (λ a. tt) answers) s
