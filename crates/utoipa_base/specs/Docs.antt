-- A document: a value of the model as contracts see it.
use Rattle.std.specs.Prelude.{ℕ, ℤ, List, [], ◌∷◌, Bool, true, false, Option, None, Some}
use Rattle.serde_json.specs.Data.{Data, Members}
use Rattle.utoipa_base.specs.Kinds.{ObjectType, Kind}

mutual
  pub data Doc : Type 0 where
    text_doc : List ℕ → Doc
    flag_doc : Bool → Doc
    whole_doc : ℕ → Doc
    -- a `Number`
    int_doc : ℤ → Doc
    uint_doc : ℕ → Doc
    -- any tree
    tree_doc : Data → Doc
    -- a word, by its text
    word_doc : List ℕ → Doc
    -- a format that is none of the known words
    custom_doc : List ℕ → Doc
    -- a list of type words
    types_doc : Doc → Doc
    -- the type that allows any value
    any_value_doc : Doc
    -- a field that may be absent
    none_doc : Doc
    some_doc : Doc → Doc
    -- a reference in the place of a kind
    ref_doc : Kind → Doc → Doc
    -- what stands in a place that could hold a reference
    own_doc : Doc → Doc
    -- a schema, by its alternative
    schema_doc : Doc → Doc
    -- an object whose member of this name has this word, and whose other members are those of a document
    tagged_doc : List ℕ → List ℕ → Doc → Doc
    -- an OAuth flow
    flow_doc : Doc → Doc
    list_doc : Docs → Doc
    map_doc : Entries → Doc
    -- a map that keeps the order of its entries
    ordered_map_doc : Entries → Doc
    -- an object's map, and its extensions
    entries_doc : Entries → Option Members → Doc
    -- an object's fields by the rows of its table, and its extensions
    table_doc : ObjectType → Docs → Option Members → Doc

  pub data Docs : Type 0 where
    no_docs : Docs
    doc : Doc → Docs → Docs

  pub data Entries : Type 0 where
    no_entries : Entries
    entry : List ℕ → Doc → Entries → Entries

abbrev pub option_doc : Option Doc → Doc
option_doc None = none_doc
option_doc (Some d) = some_doc d

-- documents, and others after them
abbrev pub docs_append : Docs → Docs → Docs
docs_append no_docs ys = ys
docs_append (doc d xs) ys = doc d (docs_append xs ys)

-- documents among others: at each true the next of the former, at each false the next of the latter, and at last what is left of both
abbrev pub docs_woven : List Bool → Docs → Docs → Docs
docs_woven [] xs ys = docs_append xs ys
docs_woven (true ∷ order) no_docs ys = ys
docs_woven (true ∷ order) (doc d xs) ys = doc d (docs_woven order xs ys)
docs_woven (false ∷ order) xs no_docs = xs
docs_woven (false ∷ order) xs (doc d ys) = doc d (docs_woven order xs ys)

abbrev pub docs_of : List Doc → Docs
docs_of [] = no_docs
docs_of (d ∷ ds) = doc d (docs_of ds)

abbrev pub entries_of_list : List (List ℕ × Doc) → Entries
entries_of_list [] = no_entries
entries_of_list (e ∷ es) = entry e.0 e.1 (entries_of_list es)
