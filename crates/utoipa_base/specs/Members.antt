-- For users of the model, and for whoever checks it: which field of a type stands in its document under which name.
--
-- Each type with a member table has a theorem, called `reference_members` here, of Ref. It reads like the table, a line for each member: the name,
-- and the document of the field that stands there. The page `Members` of each crate has the theorems of the crate's types. The sections are those of
-- OpenAPI 3.1. Most theorems hold by computing. A proof cites one line of a theorem by `field_is`.
use Prim.Native.String.{String}
use Rattle.std.proofs.Common.{◌∙◌, ap}
use Rattle.std.specs.Prelude.{◌≡◌, refl, ℕ, List, [], ◌∷◌, if◌then◌else◌, codes}
use Rattle.std.specs.Str.{bytes_eq}
use Rattle.utoipa_base.specs.Kinds.{Row}
use Rattle.utoipa_base.specs.Docs.{Doc, flag_doc, word_doc, none_doc, some_doc, tagged_doc, table_doc, Docs, no_docs, doc}
use Rattle.utoipa_base.specs.Tables.{table}
use Rattle.utoipa_base.specs.Refs.{reference_doc}
use Rattle.utoipa_base.specs.Views.{text_of, tree_of, option_of}
use Rattle.utoipa_base.specs.declared.refs.Ref.{Ref}

-- ---- one member. If the field of a type may be absent, its member is looked for in what the field holds

-- the first document; without one, a field that is absent
abbrev pub first_doc : Docs → Doc
first_doc no_docs = none_doc
first_doc (doc d ds) = d

-- the documents after the first
abbrev pub rest_docs : Docs → Docs
rest_docs no_docs = no_docs
rest_docs (doc d ds) = ds

-- the field at the first row of this name
abbrev pub row_field : List ℕ → List Row → Docs → Doc
row_field name [] ds = none_doc
row_field name (r ∷ rs) ds = if bytes_eq name r.name then first_doc ds else row_field name rs (rest_docs ds)

-- the field of an object by the name of its member
abbrev pub field_at : List ℕ → Doc → Doc
field_at name (some_doc d) = field_at name d
field_at name (table_doc n ds e) = row_field name (table n) ds
field_at name d = none_doc

-- ---- all members

-- a name, and the field that stands there
abbrev pub Member : Type 0
Member = List ℕ × Doc

-- a line of a theorem
abbrev pub member : String → Doc → Member
member name field = (codes name, field)

-- the name of each row, with its field
abbrev pub row_members : List Row → Docs → List Member
row_members [] ds = []
row_members (r ∷ rs) ds = (r.name, first_doc ds) ∷ row_members rs (rest_docs ds)

-- the members of an object, in the order of its table
abbrev pub members_in : Doc → List Member
members_in (some_doc d) = members_in d
members_in (table_doc n ds e) = row_members (table n) ds
members_in d = []

-- the same, and before them the members whose words choose the object's type, as `type` of a security scheme
abbrev pub members_by_word : Doc → List Member
members_by_word (tagged_doc name word d) = (name, word_doc word) ∷ members_by_word d
members_by_word d = members_in d

-- the field at the first of some members that has this name
abbrev pub member_at : List ℕ → List Member → Doc
member_at name [] = none_doc
member_at name (m ∷ ms) = if bytes_eq name m.0 then m.1 else member_at name ms

row_field_is : (name : List ℕ) (rs : List Row) (ds : Docs) → row_field name rs ds ≡ member_at name (row_members rs ds)
row_field_is name [] ds = refl
row_field_is name (r ∷ rs) ds = ap (λ d. if bytes_eq name r.name then first_doc ds else d) (row_field_is name rs (rest_docs ds))

field_is_listed : (name : List ℕ) (d : Doc) → field_at name d ≡ member_at name (members_in d)
field_is_listed name (some_doc d) = field_is_listed name d
field_is_listed name (table_doc n ds e) = row_field_is name (table n) ds
field_is_listed name d = refl

-- the field of an object by the name of its member, from the list of its members: `field_is (codes "title") (info_doc i) (info_members i)`
pub field_is : (name : List ℕ) (d : Doc) {ms : List Member} → members_in d ≡ ms → field_at name d ≡ member_at name ms
field_is name d are = field_is_listed name d ∙ ap (member_at name) are

-- ---- the theorem of this crate

-- Reference Object: section 4.8.23
pub reference_members : (r : Ref) → members_in (reference_doc r) ≡
    member "$ref" (text_of r.ref_location)
    ∷ member "default" (option_of tree_of r.default)
    ∷ member "description" (text_of r.description)
    ∷ member "readOnly" (option_of flag_doc r.read_only)
    ∷ member "summary" (text_of r.summary)
    ∷ member "title" (option_of text_of r.title)
    ∷ member "writeOnly" (option_of flag_doc r.write_only) ∷ []
reference_members r = refl
