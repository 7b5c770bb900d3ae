-- What an operation means where it stands: the security, the servers and the parameters that hold for it. For whoever asks what merging changes.
-- Each is a function of three trees: of the document, of the path item and of the operation (OpenAPI 3.1).
use Rattle.std.specs.Prelude.{ℕ, zero, suc, List, [], ◌∷◌, ◌++◌, Bool, true, false, ◌&&◌, not, if◌then◌else◌, Option, None, Some, option_and_then, codes}
use Rattle.std.specs.List.{list_any, filter}
use Rattle.std.specs.Option.{unwrap_or}
use Rattle.std.specs.Str.{bytes_eq}
use Rattle.serde_json.specs.Data.{Data, null, boolean, number, string, array, object, Items, no_items, item, Members, no_members, member}
use Rattle.serde_json.specs.Find.{get, as_str}
use Rattle.utoipa_base.specs.References.{component, component_of, component_map_text, field_of_components}
use Rattle.utoipa_base.specs.declared.refs.component.ComponentMap.{ComponentMap}
use Rattle.utoipa_check.specs.Places.{members_at, items_at}

-- ---- security

-- A list of alternatives, each a Security Requirement Object (section 4.8.30), of which one has to be met. The empty list demands nothing.
abbrev pub no_security : Data
no_security = array no_items

-- `security` of an OpenAPI Object (section 4.8.1): what its operations demand that say nothing themselves
abbrev pub document_security : (document : Data) → Data
document_security document = unwrap_or (get (codes "security") document) no_security

-- `security` of an Operation Object (section 4.8.10) overrides that of the document. An empty list does too: it removes what the document demands.
abbrev pub effective_security : (document operation : Data) → Data
effective_security document operation = unwrap_or (get (codes "security") operation) (document_security document)

-- ---- servers

-- a Server Object (section 4.8.5) whose `url` is `/`, alone in a list
abbrev pub default_servers : Data
default_servers = array (item (object (member (codes "url") (string (codes "/")) no_members)) no_items)

abbrev pub is_empty_list : Data → Bool
is_empty_list null = false
is_empty_list (boolean b) = false
is_empty_list (number n) = false
is_empty_list (string s) = false
is_empty_list (array no_items) = true
is_empty_list (array (item d ds)) = false
is_empty_list (object ms) = false

-- In a document an empty list of servers says the same as none (section 4.8.1).
abbrev pub servers_or_default : Option Data → Data
servers_or_default None = default_servers
servers_or_default (Some d) = if is_empty_list d then default_servers else d

-- `servers` of an OpenAPI Object (section 4.8.1)
abbrev pub document_servers : (document : Data) → Data
document_servers document = servers_or_default (get (codes "servers") document)

-- `servers` of a Path Item Object (section 4.8.9) stand in place of the document's. The standard has no rule for an empty list there, so it is
-- taken as it stands: the document's servers serve the item no longer.
abbrev pub item_servers : (document path_item : Data) → Data
item_servers document path_item = unwrap_or (get (codes "servers") path_item) (document_servers document)

-- `servers` of an Operation Object (section 4.8.10) override both, an empty list too
abbrev pub effective_servers : (document path_item operation : Data) → Data
effective_servers document path_item operation = unwrap_or (get (codes "servers") operation) (item_servers document path_item)

-- ---- the parameter that a reference leads to

-- a member that is a text
abbrev pub text_member : (name : List ℕ) → Data → Option (List ℕ)
text_member name d = option_and_then as_str (get name d)

-- `$ref` of a Reference Object (section 4.8.23)
abbrev pub reference_in : Data → Option (List ℕ)
reference_in parameter = text_member (codes "$ref") parameter

-- the name of a parameter of the components, by the component that a reference leads to
abbrev pub name_among_parameters : ComponentMap × List ℕ → Option (List ℕ)
name_among_parameters key = if bytes_eq (component_map_text key.0) (codes "parameters") then Some key.1 else None

-- what stands among the parameters of the components (section 4.8.7) where a reference leads to
abbrev pub referred : (document : Data) (location : List ℕ) → Option Data
referred document location =
    option_and_then (λ name. component (codes "parameters") name document) (option_and_then name_among_parameters (component_of location))

-- the parameter itself, or what comes of following its reference
abbrev pub followed : (Data → Option Data) → (List ℕ → Option Data) → Data → Option (List ℕ) → Option Data
followed follow lead parameter None = Some parameter
followed follow lead parameter (Some location) = option_and_then follow (lead location)

-- the parameter in a place, through references. At most so many places are looked at.
abbrev pub found_parameter : (looks : ℕ) → (document parameter : Data) → Option Data
found_parameter zero document parameter = None
found_parameter (suc looks) document parameter = followed (found_parameter looks document) (referred document) parameter (reference_in parameter)

abbrev pub member_count : Members → ℕ
member_count no_members = 0
member_count (member name d ms) = suc (member_count ms)

abbrev pub entry_count : Option Data → ℕ
entry_count None = 0
entry_count (Some d) = member_count (members_at d)

-- the parameters of the components (section 4.8.7)
abbrev pub component_parameters : (document : Data) → Option Data
component_parameters document = field_of_components (codes "parameters") document

-- how many there are
abbrev pub parameter_count : (document : Data) → ℕ
parameter_count document = entry_count (component_parameters document)

-- The parameter that is meant in a place. The place is looked at, and after it as many as there are parameters among the components: more
-- references go round in a circle. A reference that leads to no parameter stands for itself.
abbrev pub meant_parameter : (document parameter : Data) → Data
meant_parameter document parameter = unwrap_or (found_parameter (suc (parameter_count document)) document parameter) parameter

-- ---- parameters

-- what a function gives for each item, one after the other
abbrev pub each_item : {A : Type 0} → (Data → List A) → Items → List A
each_item f no_items = []
each_item f (item d ds) = f d ++ each_item f ds

abbrev pub listed_in : Option Data → Items
listed_in None = no_items
listed_in (Some d) = items_at d

abbrev pub all_meant : (document : Data) → Items → List Data
all_meant document ds = each_item (λ p. meant_parameter document p ∷ []) ds

-- the parameters that a path item or an operation lists (sections 4.8.9 and 4.8.10), each as it is meant
abbrev pub listed_parameters : (document holder : Data) → List Data
listed_parameters document holder = all_meant document (listed_in (get (codes "parameters") holder))

-- what tells parameters apart: `name` and `in` (Parameter Object: section 4.8.12)
abbrev pub Names : Type 0
Names = List ℕ × List ℕ

abbrev pub both_texts : (name place : Option (List ℕ)) → Option Names
both_texts None q = None
both_texts (Some name) None = None
both_texts (Some name) (Some place) = Some (name, place)

-- none where one of them is no text
abbrev pub names_in : Data → Option Names
names_in parameter = both_texts (text_member (codes "name") parameter) (text_member (codes "in") parameter)

abbrev pub same_names : Names → Names → Bool
same_names n m = bytes_eq n.0 m.0 && bytes_eq n.1 m.1

abbrev pub has_names : Names → Option Names → Bool
has_names n None = false
has_names n (Some m) = same_names n m

-- whether a parameter of these names is listed
abbrev pub is_listed : Names → List Data → Bool
is_listed n parameters = list_any (λ p. has_names n (names_in p)) parameters

abbrev pub is_overridden : (Names → Bool) → Option Names → Bool
is_overridden listed None = false
is_overridden listed (Some n) = listed n

-- those whose names no overriding parameter has
abbrev pub not_overridden : (overriding : Names → Bool) → List Data → List Data
not_overridden overriding parameters = filter (λ p. not (is_overridden overriding (names_in p))) parameters

-- the parameters of the operation, and those of the item that the operation does not override (section 4.8.9)
abbrev pub effective_parameters : (document path_item operation : Data) → List Data
effective_parameters document path_item operation =
    let own = listed_parameters document operation in
    own ++ not_overridden (λ n. is_listed n own) (listed_parameters document path_item)
