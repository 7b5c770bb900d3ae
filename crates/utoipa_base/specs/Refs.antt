-- The documents of references, and of what stands in place of one.
use Rattle.std.specs.Prelude.{None}
use Rattle.utoipa_base.specs.Kinds.{Kind, reference_object}
use Rattle.utoipa_base.specs.Docs.{Doc, flag_doc, table_doc, ref_doc, own_doc, no_docs, doc}
use Rattle.utoipa_base.specs.Views.{text_of, tree_of, option_of}
use Rattle.utoipa_base.specs.declared.refs.Ref.{Ref}
use Rattle.utoipa_base.specs.declared.refs.RefOr.{RefOr}
use Rattle.utoipa_base.specs.declared.refs.RefOr.TheVariants as made

abbrev pub reference_doc : Ref → Doc
reference_doc r =
    table_doc reference_object
    (doc (text_of r.ref_location)
    (doc (option_of tree_of r.default)
    (doc (text_of r.description)
    (doc (option_of flag_doc r.read_only)
    (doc (text_of r.summary)
    (doc (option_of text_of r.title)
    (doc (option_of flag_doc r.write_only) no_docs)))))))
    None

-- a reference in the place of a kind, or a value of it
abbrev pub ref_or_doc : {T : Type 0} → Kind → (T → Doc) → RefOr T → Doc
ref_or_doc k f (made.Ref r) = ref_doc k (reference_doc r)
ref_or_doc k f (made.T t) = own_doc (f t)
