use Rattle.utoipa.specs.Tags.{texts_of, nested_item}
use Rattle.utoipa.proofs.FurtherTags.{ItemsChanged}
use Rattle.utoipa.proofs.tags.nested_items.Given as goal

abbrev pub invariant-loop-path : goal.invariant-loop-path
invariant-loop-path l = ItemsChanged (nested_item (texts_of l.fn.tags.items) l.fn.module_path) l.fn.items.entries l.path-iterator l.nested.entries
