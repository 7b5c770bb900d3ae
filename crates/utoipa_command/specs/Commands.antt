-- What the words of a call ask for.
use Rattle.std.specs.Prelude.{ℕ, List, [], ◌∷◌, codes, if◌then◌else◌, Option, None, Some}
use Rattle.std.specs.Str.{bytes_eq}
use Rattle.utoipa_command.specs.declared.command.Command.{Command}
use Rattle.utoipa_command.specs.declared.command.Command.TheVariants.{Server, Schema, Document, Merge, Nest}

-- what a run is asked for
pub data Request : Type 0 where
  server schema document merge : Request
  nest : (base : List ℕ) → Request

-- what a command asks for
abbrev pub request_of : Command → Request
request_of Server = server
request_of Schema = schema
request_of Document = document
request_of Merge = merge
request_of (Nest base) = nest base.now

-- what a single word asks for
abbrev pub request_of_word : List ℕ → Option Request
request_of_word w =
    if bytes_eq w (codes "server") then Some server
    else if bytes_eq w (codes "schema") then Some schema
    else if bytes_eq w (codes "document") then Some document
    else if bytes_eq w (codes "merge") then Some merge
    else None

-- what the words ask for: of none, a server; of two, nesting, the second being the base
abbrev pub request_of_words : List (List ℕ) → Option Request
request_of_words [] = Some server
request_of_words (w ∷ []) = request_of_word w
request_of_words (w ∷ base ∷ []) = if bytes_eq w (codes "nest") then Some (nest base) else None
request_of_words (w ∷ v ∷ u ∷ ws) = None
