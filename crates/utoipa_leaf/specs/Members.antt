-- For users of the model, and for whoever checks it: which field of a type stands in its document under which name.
-- The page `Members` of utoipa_base says how these theorems are read and cited.
use Rattle.std.specs.Prelude.{◌≡◌, refl, [], ◌∷◌}
use Rattle.utoipa_base.specs.Members.{member, members_in}
use Rattle.utoipa_base.specs.Views.{text_of, tree_of, option_of, list_of_docs, map_of_docs}
use Rattle.utoipa_leaf.specs.Example.{example_doc}
use Rattle.utoipa_leaf.specs.ExternalDocs.{external_docs_doc}
use Rattle.utoipa_leaf.specs.Info.{contact_doc, info_doc, license_doc}
use Rattle.utoipa_leaf.specs.Server.{server_doc, server_variable_doc}
use Rattle.utoipa_leaf.specs.Tag.{tag_doc}
use Rattle.utoipa_leaf.specs.declared.example.Example.{Example}
use Rattle.utoipa_leaf.specs.declared.external_docs.ExternalDocs.{ExternalDocs}
use Rattle.utoipa_leaf.specs.declared.info.Contact.{Contact}
use Rattle.utoipa_leaf.specs.declared.info.Info.{Info}
use Rattle.utoipa_leaf.specs.declared.info.License.{License}
use Rattle.utoipa_leaf.specs.declared.server.Server.{Server}
use Rattle.utoipa_leaf.specs.declared.server.ServerVariable.{ServerVariable}
use Rattle.utoipa_leaf.specs.declared.tag.Tag.{Tag}

-- Info Object: section 4.8.2
pub info_members : (i : Info) → members_in (info_doc i) ≡
    member "contact" (option_of contact_doc i.contact)
    ∷ member "description" (option_of text_of i.description)
    ∷ member "license" (option_of license_doc i.license)
    ∷ member "termsOfService" (option_of text_of i.terms_of_service)
    ∷ member "title" (text_of i.title)
    ∷ member "version" (text_of i.version) ∷ []
info_members i = refl

-- Contact Object: section 4.8.3
pub contact_members : (c : Contact) → members_in (contact_doc c) ≡
    member "email" (option_of text_of c.email)
    ∷ member "name" (option_of text_of c.name)
    ∷ member "url" (option_of text_of c.url) ∷ []
contact_members c = refl

-- License Object: section 4.8.4
pub license_members : (l : License) → members_in (license_doc l) ≡
    member "identifier" (option_of text_of l.identifier)
    ∷ member "name" (text_of l.name)
    ∷ member "url" (option_of text_of l.url) ∷ []
license_members l = refl

-- Server Object: section 4.8.5
pub server_members : (s : Server) → members_in (server_doc s) ≡
    member "description" (option_of text_of s.description)
    ∷ member "name" (option_of text_of s.name)
    ∷ member "url" (text_of s.url)
    ∷ member "variables" (option_of (map_of_docs server_variable_doc) s.variables) ∷ []
server_members s = refl

-- Server Variable Object: section 4.8.6
pub server_variable_members : (v : ServerVariable) → members_in (server_variable_doc v) ≡
    member "default" (text_of v.default_value)
    ∷ member "description" (option_of text_of v.description)
    ∷ member "enum" (option_of (list_of_docs text_of) v.enum_values) ∷ []
server_variable_members v = refl

-- External Documentation Object: section 4.8.11
pub external_docs_members : (e : ExternalDocs) → members_in (external_docs_doc e) ≡
    member "description" (option_of text_of e.description)
    ∷ member "url" (text_of e.url) ∷ []
external_docs_members e = refl

-- Example Object: section 4.8.19
pub example_members : (e : Example) → members_in (example_doc e) ≡
    member "description" (text_of e.description)
    ∷ member "externalValue" (text_of e.external_value)
    ∷ member "summary" (text_of e.summary)
    ∷ member "value" (option_of tree_of e.value) ∷ []
example_members e = refl

-- Tag Object: section 4.8.22
pub tag_members : (t : Tag) → members_in (tag_doc t) ≡
    member "description" (option_of text_of t.description)
    ∷ member "externalDocs" (option_of external_docs_doc t.external_docs)
    ∷ member "kind" (option_of text_of t.kind)
    ∷ member "name" (text_of t.name)
    ∷ member "parent" (option_of text_of t.parent)
    ∷ member "summary" (option_of text_of t.summary) ∷ []
tag_members t = refl
