-- For users of the model, and for whoever checks it: which field of a type stands in its document under which name.
-- The page `Members` of utoipa_base says how these theorems are read and cited.
use Rattle.std.specs.Prelude.{◌≡◌, refl, [], ◌∷◌}
use Rattle.utoipa_base.specs.Docs.{flag_doc}
use Rattle.utoipa_base.specs.Members.{member, members_in}
use Rattle.utoipa_base.specs.Views.{text_of, option_of, map_of_docs}
use Rattle.utoipa_schema_parts.specs.Discriminator.{discriminator_doc}
use Rattle.utoipa_schema_parts.specs.Xml.{xml_doc}
use Rattle.utoipa_schema_parts.specs.declared.discriminator.Discriminator.{Discriminator}
use Rattle.utoipa_schema_parts.specs.declared.xml.Xml.{Xml}

-- Discriminator Object: section 4.8.25
pub discriminator_members : (d : Discriminator) → members_in (discriminator_doc d) ≡
    member "mapping" (map_of_docs text_of d.mapping)
    ∷ member "propertyName" (text_of d.property_name) ∷ []
discriminator_members d = refl

-- XML Object: section 4.8.26
pub xml_members : (x : Xml) → members_in (xml_doc x) ≡
    member "attribute" (option_of flag_doc x.attribute)
    ∷ member "name" (option_of text_of x.name)
    ∷ member "namespace" (option_of text_of x.namespace)
    ∷ member "nodeType" (option_of text_of x.node_type)
    ∷ member "prefix" (option_of text_of x.prefix)
    ∷ member "wrapped" (option_of flag_doc x.wrapped) ∷ []
xml_members x = refl
