-- How large a document is: the measure of what recurs over it. A part weighs less than the whole.
use Rattle.std.proofs.Common.{◌≡◌, ℕ, zero, suc, ◌+◌, ◌<◌, ◌≤◌, List, [], ◌∷◌, ◌++◌, length, get_or, map, String, Global, ap, arith}
use Rattle.utoipa_base.specs.Docs.{Doc, text_doc, flag_doc, whole_doc, int_doc, uint_doc, tree_doc, word_doc, custom_doc, types_doc, any_value_doc, none_doc, some_doc, ref_doc, own_doc, tagged_doc, flow_doc, list_doc, map_doc, ordered_map_doc, entries_doc, table_doc, Docs, no_docs, doc, Entries, no_entries, entry, docs_of, entries_of_list}
use Rattle.utoipa_base.specs.Docs as docs
use Rattle.utoipa_base.specs.Views.{pairs_of}

unfoldable mutual
  pub weight : Doc → ℕ
  weight (text_doc s) = 1
  weight (flag_doc b) = 1
  weight (whole_doc n) = 1
  weight (int_doc z) = 1
  weight (uint_doc n) = 1
  weight (tree_doc d) = 1
  weight (word_doc s) = 1
  weight (custom_doc s) = 1
  weight (types_doc d) = 1
  weight any_value_doc = 1
  weight none_doc = 1
  weight (some_doc d) = 1 + weight d
  weight (ref_doc k d) = 1
  weight (own_doc d) = 1 + weight d
  weight (docs.schema_doc d) = 1 + weight d
  weight (tagged_doc name word d) = 1 + weight d
  weight (flow_doc d) = 1 + weight d
  weight (list_doc ds) = 1 + docs_weight ds
  weight (map_doc es) = 1 + entries_weight es
  weight (ordered_map_doc es) = 1 + entries_weight es
  weight (entries_doc es e) = 1 + entries_weight es
  weight (table_doc n ds e) = 1 + docs_weight ds

  pub docs_weight : Docs → ℕ
  docs_weight no_docs = 0
  docs_weight (doc d ds) = weight d + docs_weight ds

  pub entries_weight : Entries → ℕ
  entries_weight no_entries = 0
  entries_weight (entry k d es) = weight d + entries_weight es

docs_in : {X : Type 0} (f : X → Doc) (xs : List X) (i : ℕ) (x : X) → i < length xs → x ≡ get_or xs i x → weight (f x) ≤ docs_weight (docs_of (map f xs))
unfolding docs_weight
docs_in f [] i x inside is = absurd (omega arith)
docs_in f (y ∷ xs) zero x inside is = omega (arith, ap (λ z. weight (f z)) is)
docs_in f (y ∷ xs) (suc i) x inside is = omega (arith, docs_in f xs i x (omega arith) is)

-- an item of a list
pub lighter_item : {X : Type 0} (f : X → Doc) (xs : List X) (i : ℕ) (x : X) → i < length xs → x ≡ get_or xs i x → weight (f x) < weight (list_doc (docs_of (map f xs)))
unfolding weight
lighter_item f xs i x inside is = omega (arith, docs_in f xs i x inside is)

entries_in : {X : Type 0} (f : X → Doc) (done : List (String Global × X)) (e : String Global × X) (left : List (String Global × X)) → weight (f e.1) ≤ entries_weight (entries_of_list (pairs_of f (done ++ e ∷ left)))
unfolding entries_weight
entries_in f [] e left = omega arith
entries_in f (x ∷ done) e left = omega (arith, entries_in f done e left)

-- an entry of a map
pub lighter_member : {X : Type 0} (f : X → Doc) (es done : List (String Global × X)) (e : String Global × X) (left : List (String Global × X)) → es ≡ done ++ e ∷ left → weight (f e.1) < weight (map_doc (entries_of_list (pairs_of f es)))
unfolding weight
lighter_member f es done e left is = omega (arith, entries_in f done e left, ap (λ xs. entries_weight (entries_of_list (pairs_of f xs))) is)

-- what is there of an option
pub lighter_some : (d : Doc) → weight d < weight (some_doc d)
unfolding weight
lighter_some d = omega arith

-- the table of a schema
pub lighter_schema : (d : Doc) → weight d < weight (docs.schema_doc d)
unfolding weight
lighter_schema d = omega arith

-- a schema in the place of a reference
pub lighter_own : (d : Doc) → weight d < weight (own_doc d)
unfolding weight
lighter_own d = omega arith
