use Rattle.std.proofs.Common.{◌≡◌, ◌||◌, ℕ, List}
use Rattle.std.specs.BTreeSet.{contains_text}
use Rattle.serde_json.specs.View.{view}
use Rattle.utoipa_check.specs.References.{references}
use Rattle.utoipa_check.specs.ReferenceViews.{references_of}
use Rattle.utoipa_outline.specs.Used.{is_mentioned}
use Rattle.utoipa_tables.specs.Tables.{kind_of}
use Rattle.utoipa_outline.proofs.used.used_tokens.Given as goal

abbrev pub invariant-loop-reference : goal.invariant-loop-reference
invariant-loop-reference l = (t : List ℕ) → is_mentioned (references_of l.reference-iterator.rest.items) t || contains_text l.used t ≡ is_mentioned (references (kind_of l.fn.kind) (view l.fn.tree)) t
