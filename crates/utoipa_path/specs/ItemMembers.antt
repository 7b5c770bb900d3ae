-- The members of a path item in the order of their names, in three parts: the rows of each, and the documents of its fields.
use Rattle.std.specs.Prelude.{List, [], ◌∷◌, codes}
use Rattle.utoipa_base.specs.Docs.{Doc, Docs, no_docs, doc}
use Rattle.utoipa_base.specs.Kinds.{Row, optional, defaulted, text, list_of, map_of, ref_or, named, server_object, parameter_object, operation_object}
use Rattle.utoipa_base.specs.Refs.{ref_or_doc}
use Rattle.utoipa_base.specs.Tables.{row}
use Rattle.utoipa_base.specs.Views.{text_of, option_of, list_of_docs, map_of_docs}
use Rattle.utoipa_leaf.specs.Server.{server_doc}
use Rattle.utoipa_operation_parts.specs.Parameter.{parameter_doc}
use Rattle.utoipa_path.specs.declared.types.PathItem.{PathItem-F}

-- ---- from `$ref` to `get`

abbrev pub up_to_get_rows : List Row
up_to_get_rows =
    row (codes "$ref") optional text
    ∷ row (codes "additionalOperations") defaulted (map_of (named operation_object))
    ∷ row (codes "delete") optional (named operation_object)
    ∷ row (codes "description") optional text
    ∷ row (codes "get") optional (named operation_object) ∷ []

abbrev pub up_to_get_docs : {O I : Type 0} → (O → Doc) → PathItem-F O I → Docs
up_to_get_docs f i =
    doc (option_of text_of i.ref_path)
    (doc (map_of_docs f i.additional_operations)
    (doc (option_of f i.delete)
    (doc (option_of text_of i.description)
    (doc (option_of f i.get) no_docs))))

-- ---- from `head` to `post`

abbrev pub head_to_post_rows : List Row
head_to_post_rows =
    row (codes "head") optional (named operation_object)
    ∷ row (codes "options") optional (named operation_object)
    ∷ row (codes "parameters") optional (list_of (ref_or (named parameter_object)))
    ∷ row (codes "patch") optional (named operation_object)
    ∷ row (codes "post") optional (named operation_object) ∷ []

abbrev pub head_to_post_docs : {O I : Type 0} → (O → Doc) → PathItem-F O I → Docs
head_to_post_docs f i =
    doc (option_of f i.head)
    (doc (option_of f i.options)
    (doc (option_of (list_of_docs (ref_or_doc (named parameter_object) parameter_doc)) i.parameters)
    (doc (option_of f i.patch)
    (doc (option_of f i.post) no_docs))))

-- ---- from `put` to `trace`

abbrev pub from_put_rows : List Row
from_put_rows =
    row (codes "put") optional (named operation_object)
    ∷ row (codes "query") optional (named operation_object)
    ∷ row (codes "servers") optional (list_of (named server_object))
    ∷ row (codes "summary") optional text
    ∷ row (codes "trace") optional (named operation_object) ∷ []

abbrev pub from_put_docs : {O I : Type 0} → (O → Doc) → PathItem-F O I → Docs
from_put_docs f i =
    doc (option_of f i.put)
    (doc (option_of f i.query)
    (doc (option_of (list_of_docs server_doc) i.servers)
    (doc (option_of text_of i.summary)
    (doc (option_of f i.trace) no_docs))))
