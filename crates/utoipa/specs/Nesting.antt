-- Nesting documents: what a composer of paths may answer.
use Rattle.std.specs.Prelude.{◌≡◌, ℕ, List, [], ◌∷◌, Contains, Result, Ok, Err, String, map, string_bytes}
use Rattle.std.specs.Borrow.{Bor}
use Rattle.std.specs.Fn.{Shared, FnReturnsAtPair}
use Rattle.std.specs.Option.{option_or}
use Rattle.std.specs.declared.alloc.AllocError.{AllocError}
use Rattle.std.specs.declared.alloc.Global.{Global}
use Rattle.utoipa_base.specs.Docs.{Doc}
use Rattle.utoipa_base.specs.Views.{map_of_docs}
use Rattle.utoipa_merging.specs.Nested.{answered, item_if}
use Rattle.utoipa_merging.specs.Rules.{last_of}
use Rattle.utoipa_merging.specs.Slots.{entries_in, entry_at}
use Rattle.utoipa_path.specs.Docs.{path_item_doc}
use Rattle.utoipa_paths.specs.Items.{ItemsByPath}
use Rattle.utoipa_paths.specs.Paths.{IsEmptyPaths}
use Rattle.utoipa_paths.specs.declared.paths.Paths.{Paths}
use Rattle.utoipa.specs.declared.document.OpenApi.{OpenApi}

-- what says of a composer which results it may give to the base and a path
abbrev pub Composes : Type 0 → Type 1
Composes F = Shared F (Bor (List ℕ) × (Bor (List ℕ) × Unit {0})) (Result (String Global) AllocError)

-- the composer may answer so to the path
abbrev pub MayAnswer : {F : Type 0} → Composes F → (composer : F) (base path answer : List ℕ) → Type 0
MayAnswer g composer base path answer = (s : String Global) × FnReturnsAtPair g composer base path (Ok s) × (string_bytes s ≡ answer)

-- the composer may answer so to the paths, in turn
abbrev pub MayAnswerEach : {F : Type 0} → Composes F → (composer : F) (base : List ℕ) (paths answers : List (List ℕ)) → Type 0
MayAnswerEach g composer base [] [] = Unit {0}
MayAnswerEach g composer base (path ∷ paths) (answer ∷ answers) = MayAnswer g composer base path answer × MayAnswerEach g composer base paths answers
MayAnswerEach g composer base paths answers = ⊥

-- the composer may refuse one of the paths
abbrev pub MayRefuseOne : {F : Type 0} → Composes F → (composer : F) (base : List ℕ) (paths : List (List ℕ)) → Type 0
MayRefuseOne g composer base paths = (path : List ℕ) × (refused : AllocError) × Contains paths path × FnReturnsAtPair g composer base path (Err refused)

-- each nested item stands under the answer to its path, of two with one answer the later, and at all other paths stands what stood there
abbrev pub AreMounted : (answers : List (List ℕ)) (nested old new : Doc) → Type 0
AreMounted answers nested old new =
    (path : List ℕ) → entry_at path new ≡ option_or (last_of (map (item_if path) (answered answers (entries_in nested)))) (entry_at path old)

-- ---- for a private clause: documents whose paths were put

-- the document with these items at its paths
abbrev pub with_items : OpenApi → ItemsByPath → OpenApi
with_items d items = record d { paths = record d.paths { paths = items } }

-- the paths of `other` were taken out of it and put into `own` where the answers say
pub record ArePathsMounted (answers : List (List ℕ)) (own own_now other other_now : OpenApi) : Type 0 where
  pub items : ItemsByPath
  pub none : Paths
  pub put : own_now ≡ with_items own items
  pub taken : other_now ≡ record other { paths = none }
  pub empty : IsEmptyPaths none
  pub mounted : AreMounted answers (map_of_docs path_item_doc other.paths.paths) (map_of_docs path_item_doc own.paths.paths) (map_of_docs path_item_doc items)
