-- A defaulted member that is absent is an empty list or map.
use Rattle.std.proofs.Common.{◌≡◌, ◌∙◌, ℕ, List, [], map, Some, None, sym, ap, arith, Ok, Vec, String, Global, BTreeMap}
use Rattle.serde_json.specs.Data.{Data}
use Rattle.serde_json.specs.Find.{get}
use Rattle.utoipa_base.specs.Docs.{Doc, no_docs, no_entries, docs_of, entries_of_list, list_doc, map_doc}
use Rattle.utoipa_base.specs.Fields.{field}
use Rattle.utoipa_base.specs.Kinds.{Kind, list_of, map_of, defaulted}
use Rattle.utoipa_base.specs.Reads.{Reads}
use Rattle.utoipa_base.specs.Tables.{row}
use Rattle.utoipa_base.specs.Values.{values_at, schema_count}
use Rattle.utoipa_base.specs.Views.{list_of_docs, map_of_docs, pairs_of}
use Rattle.utoipa_base.proofs.Members.{field_absent}
use Rattle.utoipa_base.proofs.Places.{docs_schema_count-none, entries_schema_count-none, schema_count-list, schema_count-map}

pub list_absent : {A : Type 0} (f : A → Doc) (name : List ℕ) (k : Kind) (d : Data) (v : Vec A Global) (n : ℕ) → get name d ≡ None → v.items ≡ []
    → Reads {A = Vec A Global} (field (row name defaulted (list_of k)) d) (list_of_docs f) (Ok v) n n (values_at name d)
list_absent f name k d v n gone none =
    record {
      ok = field_absent name defaulted (list_of k) d gone ∙ ap (λ xs. Some (list_doc (docs_of (map f xs)))) (sym none);
      err = tt;
      grows = omega arith;
      at_most = omega arith;
      at_least = λ below. omega (arith, ap (λ xs. schema_count (list_doc (docs_of (map f xs)))) none, schema_count-list no_docs, docs_schema_count-none);
    }

pub map_absent : {A : Type 0} (f : A → Doc) (name : List ℕ) (k : Kind) (d : Data) (m : BTreeMap (String Global) A) (n : ℕ) → get name d ≡ None → m.entries ≡ []
    → Reads {A = BTreeMap (String Global) A} (field (row name defaulted (map_of k)) d) (map_of_docs f) (Ok m) n n (values_at name d)
map_absent f name k d m n gone none =
    record {
      ok = field_absent name defaulted (map_of k) d gone ∙ ap (λ xs. Some (map_doc (entries_of_list (pairs_of f xs)))) (sym none);
      err = tt;
      grows = omega arith;
      at_most = omega arith;
      at_least = λ below. omega (arith, ap (λ xs. schema_count (map_doc (entries_of_list (pairs_of f xs)))) none, schema_count-map no_entries, entries_schema_count-none);
    }
