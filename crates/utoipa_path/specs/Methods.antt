-- The operations of a path item by their HTTP methods.
use Rattle.std.specs.Prelude.{◌≡◌, [], List, Option, None, Some, Contains, option_map}
use Rattle.std.specs.Option.{option_or}
use Rattle.utoipa_base.specs.Docs.{Doc}
use Rattle.utoipa_leaf.specs.declared.path.HttpMethod.{HttpMethod}
use Rattle.utoipa_leaf.specs.declared.path.HttpMethod.TheVariants.{Get, Post, Put, Delete, Options, Head, Patch, Trace}
use Rattle.utoipa_path.specs.Builders.{PathItemFields}
use Rattle.utoipa_path.specs.Docs.{operation_doc}
use Rattle.utoipa_path.specs.declared.types.Operation.{Operation}

-- the operation of a method
abbrev pub operation_at : HttpMethod → PathItemFields → Option Operation
operation_at Get i = i.get
operation_at Post i = i.post
operation_at Put i = i.put
operation_at Delete i = i.delete
operation_at Options i = i.options
operation_at Head i = i.head
operation_at Patch i = i.patch
operation_at Trace i = i.trace

-- the item, with this operation of a method, or none
abbrev pub with_method : HttpMethod → Option Operation → PathItemFields → PathItemFields
with_method Get o i = record i { get = o }
with_method Post o i = record i { post = o }
with_method Put o i = record i { put = o }
with_method Delete o i = record i { delete = o }
with_method Options o i = record i { options = o }
with_method Head o i = record i { head = o }
with_method Patch o i = record i { patch = o }
with_method Trace o i = record i { trace = o }

-- the item, with this operation of a method
abbrev pub with_operation : HttpMethod → Operation → PathItemFields → PathItemFields
with_operation m o i = with_method m (Some o) i

-- the item but for the operations of the methods that `HttpMethod` names
abbrev pub without_methods : PathItemFields → PathItemFields
without_methods i = record i { get = None; put = None; post = None; delete = None; options = None; head = None; patch = None; trace = None }

-- the item, with the operations of another in place of its own, but for those of other methods
abbrev pub replaced : PathItemFields → PathItemFields → PathItemFields
replaced i j =
    record i {
      get = option_or j.get i.get;
      put = option_or j.put i.put;
      post = option_or j.post i.post;
      delete = option_or j.delete i.delete;
      options = option_or j.options i.options;
      head = option_or j.head i.head;
      patch = option_or j.patch i.patch;
      trace = option_or j.trace i.trace;
    }

-- the item, with the operations of another where it has none, but for the additional operations
abbrev pub filled : PathItemFields → PathItemFields → PathItemFields
filled i j =
    record i {
      get = option_or i.get j.get;
      put = option_or i.put j.put;
      post = option_or i.post j.post;
      delete = option_or i.delete j.delete;
      options = option_or i.options j.options;
      head = option_or i.head j.head;
      patch = option_or i.patch j.patch;
      trace = option_or i.trace j.trace;
      query = option_or i.query j.query;
    }

-- nothing is said of the path item, and it has no operation
abbrev pub IsEmptyPathItem : PathItemFields → Type 0
IsEmptyPathItem i =
    (i.ref_path ≡ None)
    × (i.summary ≡ None)
    × (i.description ≡ None)
    × (i.servers ≡ None)
    × (i.parameters ≡ None)
    × (i.get ≡ None)
    × (i.put ≡ None)
    × (i.post ≡ None)
    × (i.delete ≡ None)
    × (i.options ≡ None)
    × (i.head ≡ None)
    × (i.patch ≡ None)
    × (i.trace ≡ None)
    × (i.query ≡ None)
    × (i.additional_operations.entries ≡ [])
    × (i.extensions ≡ None)

-- each of the methods has an operation of this document in the new item, and all else stands as it did in the old one
pub record HoldAtMethods (methods : List HttpMethod) (d : Doc) (old new : PathItemFields) : Type 0 where
  pub listed : (m : HttpMethod) → Contains methods m → option_map operation_doc (operation_at m new) ≡ Some d
  pub others : (m : HttpMethod) → ¬ Contains methods m → operation_at m new ≡ operation_at m old
  pub rest : without_methods new ≡ without_methods old
