use Rattle.std.proofs.Common.{◌≡◌, ◌++◌, map}
use Rattle.serde_json.specs.View.{view}
use Rattle.utoipa_check.specs.References.{referring, mentions}
use Rattle.utoipa_check.specs.ReferenceViews.{mentions_of, references_of}
use Rattle.utoipa_tables.specs.Tables.{kind_of}
use Rattle.utoipa_check.proofs.references.references.Given as goal

abbrev pub invariant-loop-mention : goal.invariant-loop-mention
invariant-loop-mention l = record {
  passed : mentions_of (l.yielded ++ l.mention-iterator.rest.items) ≡ mentions (kind_of l.fn.kind) (view l.fn.tree);
  put : references_of l.found.items ≡ map (referring (view l.fn.tree)) (mentions_of l.yielded);
}
