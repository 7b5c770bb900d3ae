-- Three documents, and what they are merged into: the paths of all, the Paths extension of the second, and servers and components of the
-- second and third.
use Rattle.std.specs.Prelude.{ℕ, List, [], Option, Some, None, codes}
use Rattle.serde_json.specs.Data.{string, Members, no_members, member}
use Rattle.utoipa_base.specs.Kinds.{open_api_object, info_object, path_item_object, components_object, server_object, example_object}
use Rattle.utoipa_base.specs.Docs.{Doc, text_doc, word_doc, none_doc, some_doc, own_doc, list_doc, map_doc, entries_doc, table_doc, no_docs, doc, Entries, no_entries, entry}

-- an Info Object with empty texts
abbrev pub info : Doc
info = table_doc info_object (doc none_doc (doc none_doc (doc none_doc (doc none_doc (doc (text_doc []) (doc (text_doc []) no_docs)))))) None

-- a document of these parts
abbrev pub api : (servers paths components : Doc) → Doc
api servers paths components =
    table_doc open_api_object
    (doc (text_doc [])
    (doc none_doc
    (doc components
    (doc none_doc
    (doc info
    (doc none_doc
    (doc (word_doc (codes "3.1.0")) (doc paths (doc none_doc (doc servers (doc none_doc (doc none_doc no_docs))))))))))))
    None

-- a Server Object at this address
abbrev pub server : List ℕ → Doc
server url = table_doc server_object (doc none_doc (doc none_doc (doc (text_doc url) (doc none_doc no_docs)))) None

-- an Example Object with this summary, where a reference could stand
abbrev pub example : List ℕ → Doc
example summary = own_doc (table_doc example_object (doc (text_doc []) (doc (text_doc []) (doc (text_doc summary) (doc none_doc no_docs)))) None)

-- components that are there, with these examples and extensions
abbrev pub with_examples : Entries → Option Members → Doc
with_examples es e =
    some_doc
    (table_doc components_object
    (doc (map_doc no_entries)
    (doc (map_doc es)
    (doc (map_doc no_entries)
    (doc (map_doc no_entries)
    (doc (map_doc no_entries)
    (doc (map_doc no_entries)
    (doc (map_doc no_entries)
    (doc (map_doc no_entries) (doc (map_doc no_entries) (doc (map_doc no_entries) (doc (map_doc no_entries) no_docs)))))))))))
    e)

-- a Path Item Object without an operation
abbrev pub item : Doc
item =
    table_doc path_item_object
    (doc none_doc
    (doc (map_doc no_entries)
    (doc none_doc
    (doc none_doc
    (doc none_doc
    (doc none_doc
    (doc none_doc
    (doc none_doc
    (doc none_doc
    (doc none_doc (doc none_doc (doc none_doc (doc none_doc (doc none_doc (doc none_doc no_docs)))))))))))))))
    None

-- extensions of one name
abbrev pub extension : Option Members
extension = Some (member (codes "x-team") (string (codes "b")) no_members)

-- ---- the documents

abbrev pub first_api : Doc
first_api = api none_doc (entries_doc (entry (codes "/a") item no_entries) None) none_doc

abbrev pub second_api : Doc
second_api =
    api (some_doc (list_doc (doc (server []) (doc (server []) no_docs)))) (entries_doc no_entries extension)
    (with_examples (entry (codes "E") (example (codes "b")) no_entries) (Some no_members))

abbrev pub third_api : Doc
third_api =
    api (some_doc (list_doc (doc (server []) (doc (server (codes "t")) no_docs)))) (entries_doc (entry (codes "/c") item no_entries) None)
    (with_examples (entry (codes "E") (example (codes "c")) (entry (codes "F") (example []) no_entries)) None)

-- The second document's server stays twice, as it stands there twice, and the third's copy of it goes. Of the examples `E` the second's
-- stays. The components have no extensions, as the first document has no components.
abbrev pub merged_api : Doc
merged_api =
    api (some_doc (list_doc (doc (server []) (doc (server []) (doc (server (codes "t")) no_docs)))))
    (entries_doc (entry (codes "/a") item (entry (codes "/c") item no_entries)) extension)
    (with_examples (entry (codes "E") (example (codes "b")) (entry (codes "F") (example []) no_entries)) None)
