-- The documents of an API's info, its contact and its license.
use Rattle.std.specs.Prelude.{None, option_map, String}
use Rattle.std.specs.declared.alloc.Global.{Global}
use Rattle.utoipa_base.specs.Kinds.{named, info_object, contact_object, license_object, text}
use Rattle.utoipa_base.specs.Docs.{Doc, table_doc, no_docs, doc}
use Rattle.utoipa_base.specs.Extensions.{extensions_view}
use Rattle.utoipa_base.specs.Views.{text_of, option_of}
use Rattle.utoipa_base.specs.Shape.{IsOf, value_of}
use Rattle.utoipa_base.specs.OfKind.{text_of_kind, option_of_kind, extends_of_kind, no_rows, next_row, table_of_kind}
use Rattle.utoipa_leaf.specs.declared.info.Info.{Info}
use Rattle.utoipa_leaf.specs.declared.info.InfoBuilder.{InfoBuilder}
use Rattle.utoipa_leaf.specs.declared.info.Contact.{Contact}
use Rattle.utoipa_leaf.specs.declared.info.ContactBuilder.{ContactBuilder}
use Rattle.utoipa_leaf.specs.declared.info.License.{License}
use Rattle.utoipa_leaf.specs.declared.info.LicenseBuilder.{LicenseBuilder}

-- an info object of a title and a version, with nothing else
abbrev pub empty_info : String Global → String Global → Info
empty_info title version = record { title = title; description = None; terms_of_service = None; contact = None; license = None; version = version; extensions = None }

-- a contact of whom nothing is said
abbrev pub empty_contact : Contact
empty_contact = record { name = None; url = None; email = None; extensions = None }

-- a license of a name, with nothing else
abbrev pub empty_license : String Global → License
empty_license name = record { name = name; url = None; identifier = None; extensions = None }

-- the info object of a builder so far
abbrev pub built_info : InfoBuilder → Info
built_info b = b.info

-- the contact of a builder so far
abbrev pub built_contact : ContactBuilder → Contact
built_contact b = b.contact

-- the license of a builder so far
abbrev pub built_license : LicenseBuilder → License
built_license b = b.license

-- a contact as a document
abbrev pub contact_doc : Contact → Doc
contact_doc c =
    table_doc contact_object
    (doc (option_of text_of c.email)
    (doc (option_of text_of c.name)
    (doc (option_of text_of c.url) no_docs)))
    (option_map extensions_view c.extensions)

-- a license as a document
abbrev pub license_doc : License → Doc
license_doc l =
    table_doc license_object
    (doc (option_of text_of l.identifier)
    (doc (text_of l.name)
    (doc (option_of text_of l.url) no_docs)))
    (option_map extensions_view l.extensions)

-- an info object as a document
abbrev pub info_doc : Info → Doc
info_doc i =
    table_doc info_object
    (doc (option_of contact_doc i.contact)
    (doc (option_of text_of i.description)
    (doc (option_of license_doc i.license)
    (doc (option_of text_of i.terms_of_service)
    (doc (text_of i.title)
    (doc (text_of i.version) no_docs))))))
    (option_map extensions_view i.extensions)

-- why a contact is of its kind
pub contact_of_kind : (c : Contact) → IsOf (contact_doc c) (value_of (named contact_object))
contact_of_kind c =
    table_of_kind _ _
    (next_row (option_of_kind text_of text text_of_kind c.email)
    (next_row (option_of_kind text_of text text_of_kind c.name)
    (next_row (option_of_kind text_of text text_of_kind c.url) no_rows)))
    (extends_of_kind (option_map extensions_view c.extensions))

-- why a license is of its kind
pub license_of_kind : (l : License) → IsOf (license_doc l) (value_of (named license_object))
license_of_kind l =
    table_of_kind _ _
    (next_row (option_of_kind text_of text text_of_kind l.identifier)
    (next_row (text_of_kind l.name)
    (next_row (option_of_kind text_of text text_of_kind l.url) no_rows)))
    (extends_of_kind (option_map extensions_view l.extensions))

-- why an info object is of its kind
pub info_of_kind : (i : Info) → IsOf (info_doc i) (value_of (named info_object))
info_of_kind i =
    table_of_kind _ _
    (next_row (option_of_kind contact_doc (named contact_object) contact_of_kind i.contact)
    (next_row (option_of_kind text_of text text_of_kind i.description)
    (next_row (option_of_kind license_doc (named license_object) license_of_kind i.license)
    (next_row (option_of_kind text_of text text_of_kind i.terms_of_service)
    (next_row (text_of_kind i.title)
    (next_row (text_of_kind i.version) no_rows))))))
    (extends_of_kind (option_map extensions_view i.extensions))
