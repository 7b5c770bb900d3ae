use Rattle.std.proofs.Common.{map}
use Rattle.utoipa_base.specs.Kinds.{schema}
use Rattle.utoipa_base.specs.Refs.{ref_or_doc}
use Rattle.utoipa_schema.specs.Docs.{schema_doc}
use Rattle.utoipa_schema.proofs.Fitting.{OwnFilled}
use Rattle.utoipa_schema.proofs.members.all_schemas.Given as goal

abbrev pub invariant-loop-place : goal.invariant-loop-place
invariant-loop-place l = OwnFilled (map (ref_or_doc schema schema_doc) l.initial.place-iterator.rest.items) (map (ref_or_doc schema schema_doc) l.place-iterator.rest.items) l.list.items
