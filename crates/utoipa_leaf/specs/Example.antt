-- The documents of examples.
use Rattle.std.specs.Prelude.{None, option_map, String}
use Rattle.std.specs.declared.alloc.Global.{Global}
use Rattle.utoipa_base.specs.Kinds.{named, example_object, any}
use Rattle.utoipa_base.specs.Docs.{Doc, table_doc, no_docs, doc}
use Rattle.utoipa_base.specs.Extensions.{extensions_view}
use Rattle.utoipa_base.specs.Views.{text_of, tree_of, option_of}
use Rattle.utoipa_base.specs.Shape.{IsOf, value_of}
use Rattle.utoipa_base.specs.OfKind.{text_of_kind, tree_of_kind, option_of_kind, extends_of_kind, no_rows, next_row, table_of_kind}
use Rattle.utoipa_leaf.specs.declared.example.Example.{Example}
use Rattle.utoipa_leaf.specs.declared.example.ExampleBuilder.{ExampleBuilder}

-- an example of which nothing is said, with its texts
abbrev pub empty_example : String Global → String Global → String Global → Example
empty_example summary description external_value = record { summary = summary; description = description; value = None; external_value = external_value; extensions = None }

-- the example of a builder so far
abbrev pub built_example : ExampleBuilder → Example
built_example b = b.example

-- an example as a document
abbrev pub example_doc : Example → Doc
example_doc e =
    table_doc example_object
    (doc (text_of e.description)
    (doc (text_of e.external_value)
    (doc (text_of e.summary)
    (doc (option_of tree_of e.value) no_docs))))
    (option_map extensions_view e.extensions)

-- why an example is of its kind
pub example_of_kind : (e : Example) → IsOf (example_doc e) (value_of (named example_object))
example_of_kind e =
    table_of_kind _ _
    (next_row (text_of_kind e.description)
    (next_row (text_of_kind e.external_value)
    (next_row (text_of_kind e.summary)
    (next_row (option_of_kind tree_of any tree_of_kind e.value) no_rows))))
    (extends_of_kind (option_map extensions_view e.extensions))
