-- How much a document has of each thing, in lines.
use Rattle.std.specs.Prelude.{ℕ, List, ◌++◌, length, codes, decimal}
use Rattle.serde_json.specs.Data.{Data}
use Rattle.serde_json.specs.Find.{get}
use Rattle.utoipa_base.specs.Kinds.{Kind}
use Rattle.utoipa_outline.specs.Counted.{path_names, schema_names, used_schemas, unused_schemas}
use Rattle.utoipa_outline.specs.Depth.{depth}
use Rattle.utoipa_outline.specs.Operations.{operations}

-- the lines of the paths, the webhooks and the operations
abbrev pub path_lines : (paths webhooks operations : ℕ) → List ℕ
path_lines paths webhooks operations =
    codes "paths       " ++ (decimal paths ++ (codes "\nwebhooks    " ++ (decimal webhooks ++ (codes "\noperations  " ++ (decimal operations ++ codes "\n")))))

-- of the schemas
abbrev pub schema_lines : (schemas used unused : ℕ) → List ℕ
schema_lines schemas used unused =
    codes "schemas     " ++ (decimal schemas ++ (codes "\n  used      " ++ (decimal used ++ (codes "\n  unused    " ++ (decimal unused ++ codes "\n")))))

-- of the depth and the size
abbrev pub tree_lines : (depth size : ℕ) → List ℕ
tree_lines depth size = codes "depth       " ++ (decimal depth ++ (codes "\nsize        " ++ (decimal size ++ codes "\n")))

abbrev pub stats_text : (paths webhooks operations schemas used unused depth size : ℕ) → List ℕ
stats_text paths webhooks operations schemas used unused depth size =
    (path_lines paths webhooks operations ++ schema_lines schemas used unused) ++ tree_lines depth size

-- the lines of a document of a kind, with the size of its text
abbrev pub stats_lines : Kind → Data → (size : ℕ) → List ℕ
stats_lines k d size =
    stats_text (length (path_names (get (codes "paths") d))) (length (path_names (get (codes "webhooks") d))) (length (operations d))
    (length (schema_names d)) (length (used_schemas k d)) (length (unused_schemas k d)) (depth d) size
