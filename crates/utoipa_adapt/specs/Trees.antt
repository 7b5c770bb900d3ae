-- What the rules look at in a tree, and the forms that they give it, whatever the rule.
use Rattle.std.specs.Prelude.{ℕ, List, [], ◌∷◌, Bool, true, false, not, ◌||◌, Option, None, Some, is_some, codes}
use Rattle.std.specs.List.{list_any}
use Rattle.std.specs.Str.{bytes_eq}
use Rattle.std.specs.Ordering.{nat_cmp, match_ordering}
use Rattle.std.specs.Cmp.Lexicographic.{slice_cmp}
use Rattle.serde_json.specs.Data.{Data, null, boolean, number, string, array, object, Items, no_items, item, Members, no_members, member, put}
use Rattle.serde_json.specs.Find.{get, get_member}

-- ---- what the rules look at

abbrev pub has : List ℕ → Data → Bool
has name d = is_some (get name d)

-- whether it is an object without a member of the name
abbrev pub lacks : List ℕ → Data → Bool
lacks name null = false
lacks name (boolean b) = false
lacks name (number n) = false
lacks name (string s) = false
lacks name (array ds) = false
lacks name (object ms) = not (has name (object ms))

abbrev pub has_any : List (List ℕ) → Data → Bool
has_any names d = list_any (λ name. has name d) names

abbrev pub is_null : Data → Bool
is_null null = true
is_null (boolean b) = false
is_null (number n) = false
is_null (string s) = false
is_null (array ds) = false
is_null (object ms) = false

abbrev pub is_true : Data → Bool
is_true null = false
is_true (boolean b) = b
is_true (number n) = false
is_true (string s) = false
is_true (array ds) = false
is_true (object ms) = false

abbrev pub is_false : Data → Bool
is_false null = false
is_false (boolean b) = not b
is_false (number n) = false
is_false (string s) = false
is_false (array ds) = false
is_false (object ms) = false

abbrev pub is_number : Data → Bool
is_number null = false
is_number (boolean b) = false
is_number (number n) = true
is_number (string s) = false
is_number (array ds) = false
is_number (object ms) = false

-- whether it is a text that passes a test
abbrev pub is_text : (List ℕ → Bool) → Data → Bool
is_text test null = false
is_text test (boolean b) = false
is_text test (number n) = false
is_text test (string s) = test s
is_text test (array ds) = false
is_text test (object ms) = false

abbrev pub any_null : Items → Bool
any_null no_items = false
any_null (item d ds) = is_null d || any_null ds

-- whether it is an array without null
abbrev pub lacks_null : Data → Bool
lacks_null null = false
lacks_null (boolean b) = false
lacks_null (number n) = false
lacks_null (string s) = false
lacks_null (array ds) = not (any_null ds)
lacks_null (object ms) = false

-- whether the only item is a reference
abbrev pub is_only_reference : Items → Bool
is_only_reference no_items = false
is_only_reference (item d no_items) = has (codes "$ref") d
is_only_reference (item d (item e ds)) = false

-- whether it is an array of one reference
abbrev pub is_one_reference : Data → Bool
is_one_reference null = false
is_one_reference (boolean b) = false
is_one_reference (number n) = false
is_one_reference (string s) = false
is_one_reference (array ds) = is_only_reference ds
is_one_reference (object ms) = false

abbrev pub two_or_more : Members → Bool
two_or_more no_members = false
two_or_more (member name d no_members) = false
two_or_more (member name d (member l e ms)) = true

-- whether it is an object of two members or more
abbrev pub has_two : Data → Bool
has_two null = false
has_two (boolean b) = false
has_two (number n) = false
has_two (string s) = false
has_two (array ds) = false
has_two (object ms) = two_or_more ms

-- whether a value that may be absent is there, and passes a test
abbrev pub passes : (Data → Bool) → Option Data → Bool
passes test None = false
passes test (Some d) = test d

abbrev pub text_is : List ℕ → Option Data → Bool
text_is word o = passes (is_text (λ s. bytes_eq s word)) o

-- whether the member of a name is the word
abbrev pub says : List ℕ → List ℕ → Data → Bool
says name word d = text_is word (get name d)

-- the one of three that is there, if the others are not
abbrev pub only_one : {A : Type 0} → Option A → Option A → Option A → Option A
only_one (Some x) None None = Some x
only_one None (Some x) None = Some x
only_one None None (Some x) = Some x
only_one x y z = None

-- ---- what the rules make

-- the members without those of the name
abbrev pub without : List ℕ → Members → Members
without name no_members = no_members
without name (member l d ms) = match_ordering (slice_cmp nat_cmp name l) (member l d (without name ms)) (without name ms) (member l d (without name ms))

abbrev pub without_all : List (List ℕ) → Members → Members
without_all [] ms = ms
without_all (name ∷ names) ms = without_all names (without name ms)

-- the members, with a value at a name, if there is a value
abbrev pub put_some : List ℕ → Option Data → Members → Members
put_some name None ms = ms
put_some name (Some v) ms = put name v ms

-- an object without the members of some names, and then with a value at a name, if there is a value
abbrev pub edited : List (List ℕ) → List ℕ → Option Data → Data → Data
edited names name v null = null
edited names name v (boolean b) = boolean b
edited names name v (number n) = number n
edited names name v (string s) = string s
edited names name v (array ds) = array ds
edited names name v (object ms) = object (put_some name v (without_all names ms))

-- an object with the member
abbrev pub with_member : List ℕ → Data → Data → Data
with_member name v null = null
with_member name v (boolean b) = boolean b
with_member name v (number n) = number n
with_member name v (string s) = string s
with_member name v (array ds) = array ds
with_member name v (object ms) = object (put name v ms)

-- an object without any other member than that of a name
abbrev pub only_member : List ℕ → Data → Data
only_member name null = null
only_member name (boolean b) = boolean b
only_member name (number n) = number n
only_member name (string s) = string s
only_member name (array ds) = array ds
only_member name (object ms) = object (put_some name (get_member name ms) no_members)

-- a text, as the function says
abbrev pub with_text : (List ℕ → List ℕ) → Data → Data
with_text f null = null
with_text f (boolean b) = boolean b
with_text f (number n) = number n
with_text f (string s) = string (f s)
with_text f (array ds) = array ds
with_text f (object ms) = object ms

abbrev pub then_item : Items → Data → Items
then_item no_items v = item v no_items
then_item (item d ds) v = item d (then_item ds v)

-- an array with one item more
abbrev pub with_item : Data → Data → Data
with_item v null = null
with_item v (boolean b) = boolean b
with_item v (number n) = number n
with_item v (string s) = string s
with_item v (array ds) = array (then_item ds v)
with_item v (object ms) = object ms

abbrev pub list_of_one : Data → Data
list_of_one v = array (item v no_items)

abbrev pub list_of_two : Data → Data → Data
list_of_two v w = array (item v (item w no_items))
