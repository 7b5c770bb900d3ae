-- What the values of the program stand for.
use Rattle.std.specs.Prelude.{◌≡◌, ℕ, List, [], map, Bool, Option}
use Rattle.std.specs.BTreeMap.{BTreeMap}
use Rattle.std.specs.BTreeSet.{BTreeSet}
use Rattle.std.specs.Borrow.{Bor}
use Rattle.std.specs.List.{list_any}
use Rattle.std.specs.Map.{lookup}
use Rattle.serde_json.specs.Data.{Data}
use Rattle.serde_json.specs.View.{view}
use Rattle.serde_json.specs.declared.value.Value.{Value}
use Rattle.utoipa_check.specs.Views.{outwards}
use Rattle.utoipa_conflicts.specs.Same.{is_same}
use Rattle.utoipa_meaning.specs.Changes as specs
use Rattle.utoipa_meaning.specs.Meaning.{document_security, document_servers, Names, same_names}
use Rattle.utoipa_meaning.specs.Operations as places
use Rattle.utoipa_meaning.specs.declared.change.Change.{Change}
use Rattle.utoipa_meaning.specs.declared.compared.Compared.{Compared}
use Rattle.utoipa_meaning.specs.declared.compared.Standing.{Standing}
use Rattle.utoipa_meaning.specs.declared.difference.Difference.{Difference}
use Rattle.utoipa_meaning.specs.declared.difference.Difference.TheVariants as differences
use Rattle.utoipa_meaning.specs.declared.difference.Source.{Source}
use Rattle.utoipa_meaning.specs.declared.difference.Source.TheVariants as sources
use Rattle.utoipa_meaning.specs.declared.inherited.Inherited.{Inherited}
use Rattle.utoipa_meaning.specs.declared.operation.Operation.{Operation}
use Rattle.utoipa_meaning.specs.declared.operation.OperationPlace.{OperationPlace}
use Rattle.utoipa_meaning.specs.declared.operation.OperationPlace.TheVariants as at
use Rattle.utoipa_meaning.specs.declared.parameters.ParameterKey.{ParameterKey}

-- ---- operations

abbrev pub place_of : OperationPlace → places.OperationPlace
place_of (at.Method path method) = places.method_at path.now method.now
place_of (at.Additional path method) = places.additional_at path.now method.now

abbrev pub operation_of : Operation → places.Operation
operation_of o = (place_of o.place, view o.path_item.now, view o.value.now)

abbrev pub all_operations : List Operation → List places.Operation
all_operations os = map operation_of os

abbrev pub standing_of : Standing → places.Standing
standing_of s = (view s.document.now, view s.path_item.now, view s.operation.now)

-- ---- the documents that operations come from

-- whether a key of the map is this place
abbrev pub is_key : places.OperationPlace → OperationPlace → Bool
is_key p k = places.same_place p (place_of k)

-- the number that is noted for a place
abbrev pub noted : BTreeMap OperationPlace ℕ → places.OperationPlace → Option ℕ
noted m p = lookup (is_key p) m.entries

-- ---- parameters

abbrev pub names_of : ParameterKey → Names
names_of k = (k.name.now, k.place.now)

-- whether the set has these names
abbrev pub has_key : BTreeSet ParameterKey → Names → Bool
has_key s n = list_any (λ k. same_names n (names_of k)) s.keys

-- ---- what is compared

-- the flag tells whether both are the same
abbrev pub IsCompared : Inherited → Type 0
IsCompared i = i.same ≡ is_same (view i.own.now) (view i.merged.now)

-- what the operations of a document and of the merged one have from them
pub record AreCompared (c : Compared) : Type 0 where
  pub security : IsCompared c.security
  pub own_security : view c.security.own.now ≡ document_security (view c.own.now)
  pub merged_security : view c.security.merged.now ≡ document_security (view c.merged.now)
  pub servers : IsCompared c.servers
  pub own_servers : view c.servers.own.now ≡ document_servers (view c.own.now)
  pub merged_servers : view c.servers.merged.now ≡ document_servers (view c.merged.now)

-- ---- changes

abbrev pub source_of : Source → specs.Source
source_of sources.Operation = specs.of_operation
source_of sources.PathItem = specs.of_path_item
source_of sources.Document = specs.of_document
source_of sources.Default = specs.by_default

abbrev pub difference_of : Difference → specs.Difference
difference_of (differences.Security own merged) = specs.other_security (source_of own) (source_of merged)
difference_of (differences.Servers own merged) = specs.other_servers (source_of own) (source_of merged)
difference_of differences.Parameters = specs.other_parameters

abbrev pub change_of : Change → specs.Change
change_of c = (outwards c.pointer.steps.items [], c.document, difference_of c.difference)

abbrev pub all_changes : List Change → List specs.Change
all_changes cs = map change_of cs

-- ---- trees

abbrev pub trees_of : List Value → List Data
trees_of vs = map view vs

-- trees that are borrowed
abbrev pub borrowed : List (Bor Value) → List Data
borrowed vs = map (λ v. view v.now) vs
