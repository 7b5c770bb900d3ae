-- What is counted of a document, by its tree.
use Rattle.std.specs.Prelude.{ℕ, List, [], ◌∷◌, Bool, true, false, not, if◌then◌else◌, Option, None, Some, option_and_then, codes}
use Rattle.std.specs.List.{flat_map}
use Rattle.serde_json.specs.Data.{Data}
use Rattle.serde_json.specs.Find.{get}
use Rattle.utoipa_base.specs.Extensions.{is_extension}
use Rattle.utoipa_base.specs.Kinds.{Kind}
use Rattle.utoipa_base.specs.EachMember.{each_member}
use Rattle.utoipa_check.specs.Places.{members_at}
use Rattle.utoipa_check.specs.References.{references}
use Rattle.utoipa_outline.specs.Used.{is_used}

-- the name of an entry of `paths` (section 4.8.8), or of `webhooks`, that is no extension
abbrev pub path_name : (name : List ℕ) → Data → List (List ℕ)
path_name name d = if is_extension name then [] else name ∷ []

-- the paths of `paths`, or the names of `webhooks`, if it is there
abbrev pub path_names : Option Data → List (List ℕ)
path_names None = []
path_names (Some d) = each_member path_name (members_at d)

abbrev pub any_name : (name : List ℕ) → Data → List (List ℕ)
any_name name d = name ∷ []

-- the map of the schemas of the components (section 4.8.7)
abbrev pub schemas_of : Data → Option Data
schemas_of d = option_and_then (get (codes "schemas")) (get (codes "components") d)

abbrev pub all_names : Option Data → List (List ℕ)
all_names None = []
all_names (Some d) = each_member any_name (members_at d)

-- the names of the schemas of the components
abbrev pub schema_names : Data → List (List ℕ)
schema_names d = all_names (schemas_of d)

-- a name, where something holds of it
abbrev pub if_so : Bool → (name : List ℕ) → List (List ℕ)
if_so true name = name ∷ []
if_so false name = []

-- those that a reference of the document, which is of a kind, leads to, or into
abbrev pub used_schemas : Kind → Data → List (List ℕ)
used_schemas k d = flat_map (λ name. if_so (is_used (references k d) name) name) (schema_names d)

-- the others
abbrev pub unused_schemas : Kind → Data → List (List ℕ)
unused_schemas k d = flat_map (λ name. if_so (not (is_used (references k d) name)) name) (schema_names d)
