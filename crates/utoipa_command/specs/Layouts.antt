-- The text of a document, by how it is laid out.
use Rattle.std.specs.Prelude.{ℕ, List, ◌++◌, codes}
use Rattle.serde_json.specs.Data.{Data}
use Rattle.serde_json.specs.Written.{compact_text}
use Rattle.utoipa.specs.Texts.{pretty_text}
use Rattle.utoipa_command.specs.declared.files.layout.Layout.{Layout}
use Rattle.utoipa_command.specs.declared.files.layout.Layout.TheVariants.{Lines, Compact}

-- the tree with a line for each item and member, or in compact form
abbrev pub json_text : Layout → Data → List ℕ
json_text Lines t = pretty_text t
json_text Compact t = compact_text t

-- the same, and a newline
abbrev pub laid_out : Layout → Data → List ℕ
laid_out l t = json_text l t ++ codes "\n"
