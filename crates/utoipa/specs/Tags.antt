-- Tags that operations bear beside their own.
use Rattle.std.specs.Prelude.{ℕ, List, Option, [], ◌∷◌, ◌++◌, map, codes}
use Rattle.std.specs.Borrow.{Bor}
use Rattle.utoipa_base.specs.Docs.{Doc, text_doc, some_doc, list_doc, map_doc, entries_doc, docs_of, Entries, no_entries, entry, entries_of_list}
use Rattle.utoipa_base.specs.Views.{option_of, pairs_of}
use Rattle.utoipa_merging.specs.Slots.{items_in, in_field}
use Rattle.utoipa_path.specs.Docs.{operation_doc, path_item_doc}
use Rattle.utoipa_path.specs.declared.types.Operation.{Operation}
use Rattle.utoipa_paths.specs.Items.{ItemsByPath}

-- the texts that are shown
abbrev pub texts_of : List (Bor (List ℕ)) → List (List ℕ)
texts_of = map (λ t. t.now)

-- ---- a change of one part of a document

-- an object, with the field of each of these members changed
abbrev pub in_fields : List (List ℕ) → (Doc → Doc) → Doc → Doc
in_fields [] change d = d
in_fields (name ∷ names) change d = in_fields names change (in_field name change d)

-- a field that may be absent, with what it holds changed
abbrev pub in_option : (Doc → Doc) → Doc → Doc
in_option change (some_doc d) = some_doc (change d)
in_option change d = d

abbrev pub change_entries : (Doc → Doc) → Entries → Entries
change_entries change no_entries = no_entries
change_entries change (entry name d es) = entry name (change d) (change_entries change es)

-- a map, or an object whose members are entries, with each entry changed
abbrev pub in_entries : (Doc → Doc) → Doc → Doc
in_entries change (map_doc es) = map_doc (change_entries change es)
in_entries change (entries_doc es e) = entries_doc (change_entries change es) e
in_entries change d = d

-- the path items as entries
abbrev pub item_entries : ItemsByPath → Entries
item_entries items = entries_of_list (pairs_of path_item_doc items.entries)

-- ---- tags

-- the text of a document that is one
abbrev pub text_in : Doc → List ℕ
text_in (text_doc t) = t
text_in d = []

-- the texts of a list that may be absent
abbrev pub texts_in : Doc → List (List ℕ)
texts_in d = map text_in (items_in d)

-- a list of texts, that is there
abbrev pub texts_doc : List (List ℕ) → Doc
texts_doc texts = some_doc (list_doc (docs_of (map text_doc texts)))

-- a list of texts that may be absent, with further ones behind it; it is there then
abbrev pub with_texts : (further : List (List ℕ)) → Doc → Doc
with_texts further own = texts_doc (texts_in own ++ further)

-- the operation, with further tags behind its own
abbrev pub with_tags : List (List ℕ) → Doc → Doc
with_tags further = in_field (codes "tags") (with_texts further)

-- the texts, or where there are none the path of the module, unless it is empty
abbrev pub or_module : (path : List ℕ) → List (List ℕ) → List (List ℕ)
or_module [] [] = []
or_module (c ∷ cs) [] = (c ∷ cs) ∷ []
or_module path (t ∷ ts) = t ∷ ts

-- the same, or the path of the module where there is no text
abbrev pub nested_texts : (further : List (List ℕ)) (path : List ℕ) → Doc → Doc
nested_texts further path own = texts_doc (or_module path (texts_in own ++ further))

-- the operation, with further tags behind its own, or with the path of the module where there are none
abbrev pub nested_operation : (further : List (List ℕ)) (path : List ℕ) → Doc → Doc
nested_operation further path = in_field (codes "tags") (nested_texts further path)

-- the operation of a method, so changed where there is one
abbrev pub nested_method : (further : List (List ℕ)) (path : List ℕ) → Option Operation → Doc
nested_method further path o = in_option (nested_operation further path) (option_of operation_doc o)

-- the members of a Path Item Object that hold operations of the methods that `HttpMethod` names
abbrev pub method_members : List (List ℕ)
method_members = codes "get" ∷ codes "put" ∷ codes "post" ∷ codes "delete" ∷ codes "options" ∷ codes "head" ∷ codes "patch" ∷ codes "trace" ∷ []

-- the path item, with each operation of these methods so changed
abbrev pub nested_item : (further : List (List ℕ)) (path : List ℕ) → Doc → Doc
nested_item further path = in_fields method_members (in_option (nested_operation further path))

-- the document, with each item of its paths so changed
abbrev pub nested_openapi : (further : List (List ℕ)) (path : List ℕ) → Doc → Doc
nested_openapi further path = in_field (codes "paths") (in_entries (nested_item further path))
