-- Trees in which some members were left out, so that each shows one rule, with what an operation means there.
use Rattle.std.specs.Prelude.{ℕ, List, [], ◌∷◌, codes}
use Rattle.serde_json.specs.Data.{Data, string, array, object, Items, no_items, item, no_members, member}

-- an object of one member
abbrev one_member : List ℕ → Data → Data
one_member name d = object (member name d no_members)

-- an array of one item
abbrev one_item : Data → Data
one_item d = array (item d no_items)

-- a tree that says nothing of what is asked
abbrev pub nothing : Data
nothing = object no_members

-- ---- security: an operation without `security` has the document's, one with an empty list none, and where neither says anything there is none

abbrev pub a_key : Data
a_key = one_item (one_member (codes "key") (array no_items))

abbrev pub a_token : Data
a_token = one_item (one_member (codes "token") (array no_items))

abbrev pub secured : Data → Data
secured security = one_member (codes "security") security

-- ---- servers: an operation has its own, else those of its path item, else the document's, else `/`

abbrev pub server : List ℕ → Data
server url = one_item (one_member (codes "url") (string url))

abbrev pub served : Data → Data
served servers = one_member (codes "servers") servers

-- ---- parameters: an operation that lists `page` in the query overrides that of its path item. `limit` in a header is another parameter than
-- `limit` in the query, to which the item refers.

abbrev pub parameter : (place name : List ℕ) → Data
parameter place name = object (member (codes "in") (string place) (member (codes "name") (string name) no_members))

abbrev pub reference : List ℕ → Data
reference location = one_member (codes "$ref") (string location)

abbrev pub listing : Items → Data
listing parameters = one_member (codes "parameters") (array parameters)

abbrev pub page_of_item : Data
page_of_item =
    object
    (member (codes "description") (string (codes "Page"))
    (member (codes "in") (string (codes "query")) (member (codes "name") (string (codes "page")) no_members)))

-- `limit` of the components, and a parameter that leads round in a circle
abbrev pub with_limit : Data
with_limit =
    one_member (codes "components")
    (one_member (codes "parameters")
    (object
    (member (codes "limit") (parameter (codes "query") (codes "limit"))
    (member (codes "round") (reference (codes "#/components/parameters/round")) no_members))))

abbrev pub limit_location : List ℕ
limit_location = codes "#/components/parameters/limit"

abbrev pub pages_of_item : Data
pages_of_item = listing (item page_of_item (item (reference limit_location) no_items))

abbrev pub pages_of_operation : Data
pages_of_operation =
    listing (item (parameter (codes "query") (codes "page")) (item (parameter (codes "header") (codes "limit")) no_items))

abbrev pub effective_pages : List Data
effective_pages =
    parameter (codes "query") (codes "page")
    ∷ parameter (codes "header") (codes "limit")
    ∷ parameter (codes "query") (codes "limit") ∷ []

-- references that lead to no parameter: out of the document, to nothing, to a schema, round in a circle
abbrev pub lost_references : Data
lost_references =
    listing
    (item (reference (codes "other.json"))
    (item (reference (codes "#/components/parameters/none"))
    (item (reference (codes "#/components/schemas/limit")) (item (reference (codes "#/components/parameters/round")) no_items))))

abbrev pub as_they_stand : List Data
as_they_stand =
    reference (codes "other.json")
    ∷ reference (codes "#/components/parameters/none")
    ∷ reference (codes "#/components/schemas/limit")
    ∷ reference (codes "#/components/parameters/round") ∷ []
