-- JSON texts of trees with a line for each item and member.
use Rattle.std.specs.Prelude.{ℕ, List}
use Rattle.json.specs.Layout.{pretty}
use Rattle.json.specs.Tree.{json_tokens}
use Rattle.serde_json.specs.Data.{Data}
use Rattle.serde_json.specs.Written.{outline}

-- the text of a tree with a line for each item and member; of a fraction no digits are defined
abbrev pub pretty_text : Data → List ℕ
pretty_text t = pretty (json_tokens (outline t))
