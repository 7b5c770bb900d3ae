-- Trees in which some members were left out, so that each shows one rule, with what is dropped where they are merged.
use Rattle.std.specs.Prelude.{ℕ, List, [], ◌∷◌, true, false, codes}
use Rattle.serde_json.specs.Data.{Data, unsigned, boolean, number, string, array, object, no_items, item, no_members, member}
use Rattle.utoipa_check.specs.Misfits.{at_name}
use Rattle.utoipa_conflicts.specs.Conflicts.{Conflict}

-- an object of one member
abbrev one_member : List ℕ → Data → Data
one_member name d = object (member name d no_members)

-- ---- two services that were written apart: `info` and an operation are those of the first, and the operation that it lacks is the second's

abbrev pub two_services : List Data
two_services =
    object
    (member (codes "info") (one_member (codes "title") (string (codes "First")))
    (member (codes "paths")
    (one_member (codes "/pets") (object (member (codes "get") (string (codes "list")) (member (codes "summary") (string (codes "Pets")) no_members)))) no_members))
    ∷ object
    (member (codes "info") (one_member (codes "title") (string (codes "Second")))
    (member (codes "paths")
    (one_member (codes "/pets")
    (object (member (codes "get") (string (codes "find")) (member (codes "post") (string (codes "add")) (member (codes "summary") (string (codes "Pets")) no_members))))) no_members))
    ∷ []

abbrev pub two_services_drop : List Conflict
two_services_drop =
    (at_name (codes "info") ∷ [], 0, 1)
    ∷ (at_name (codes "paths") ∷ at_name (codes "/pets") ∷ at_name (codes "get") ∷ [], 0, 1) ∷ []

-- ---- three documents with a path each: its extension is the last document's, and the item of the first, which is empty, has no summary

abbrev pub three_paths : List Data
three_paths =
    one_member (codes "paths") (object (member (codes "/a") (object no_members) (member (codes "x-version") (number (unsigned 1)) no_members)))
    ∷ one_member (codes "paths")
    (object (member (codes "/a") (one_member (codes "summary") (string (codes "A"))) (member (codes "x-version") (number (unsigned 2)) no_members)))
    ∷ one_member (codes "paths") (one_member (codes "x-version") (number (unsigned 2))) ∷ []

abbrev pub three_paths_drop : List Conflict
three_paths_drop =
    (at_name (codes "paths") ∷ at_name (codes "x-version") ∷ [], 2, 0)
    ∷ (at_name (codes "paths") ∷ at_name (codes "/a") ∷ at_name (codes "summary") ∷ [], 0, 1) ∷ []

-- ---- three documents, the first of which has no components: a schema is the second's, and components' extensions are the first's, so none.
-- Lists of servers are joined.

abbrev pub three_components : List Data
three_components =
    one_member (codes "servers") (array no_items)
    ∷ object
    (member (codes "components")
    (object (member (codes "schemas") (one_member (codes "Pet") (boolean true)) (member (codes "x-owner") (string (codes "pets")) no_members))) no_members)
    ∷ object
    (member (codes "components")
    (one_member (codes "schemas") (object (member (codes "Dog") (boolean true) (member (codes "Pet") (boolean false) no_members))))
    (member (codes "servers") (array (item (one_member (codes "url") (string (codes "/"))) no_items)) no_members))
    ∷ []

abbrev pub three_components_drop : List Conflict
three_components_drop =
    (at_name (codes "components") ∷ at_name (codes "x-owner") ∷ [], 0, 1)
    ∷ (at_name (codes "components") ∷ at_name (codes "schemas") ∷ at_name (codes "Pet") ∷ [], 1, 2) ∷ []
