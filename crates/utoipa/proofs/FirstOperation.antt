-- The first operation of a document's paths that has an `operationId`.
use Rattle.std.proofs.Common.{◌≡◌, ℕ, List, [], ◌∷◌, Bool, true, false, cond, Option, Some, None, String, Global, string_bytes, refl, sym, ap, ◌∙◌, map, option_map}
use Rattle.std.specs.List.{flat_map}
use Rattle.std.specs.Option.{option_or}
use Rattle.std.proofs.lemmas.List.Folds.{find-append}
use Rattle.utoipa_path.specs.Operations.{KeyedOperation, operations_in, has_id, first_with_id}
use Rattle.utoipa_path.specs.declared.types.PathItem.{PathItem, out-PathItem}
use Rattle.utoipa.specs.Operations.{LocatedOperation, located, entry_operations, first_located}

-- of an operation, or else of others
choice : (b : Bool) (path : List ℕ) (o : KeyedOperation) (rest : Option LocatedOperation) (others : Option KeyedOperation) → rest ≡ option_map (located path) others
    → cond b (Some (located path o)) rest ≡ option_map (located path) (cond b (Some o) others)
choice true path o rest others same = refl
choice false path o rest others same = same

-- the first of those at a path
first_at : (id path : List ℕ) (os : List KeyedOperation) → first_located id (map (located path) os) ≡ option_map (located path) (first_with_id id os)
first_at id path [] = refl
first_at id path (o ∷ os) = choice (has_id id o.1) path o (first_located id (map (located path) os)) (first_with_id id os) (first_at id path os)

-- the first of those of all entries is the first of those of the first entry, or else of those of the others
module _ (id : List ℕ) (all : Option LocatedOperation) (left es : List (String Global × PathItem)) (name : String Global) (item : PathItem)
    (before : first_located id (flat_map entry_operations left) ≡ all) (split : left ≡ (name, item) ∷ es) where
  divided : all ≡ option_or (option_map (located (string_bytes name)) (first_with_id id (operations_in (out-PathItem item)))) (first_located id (flat_map entry_operations es))
  divided =
      let here = operations_in (out-PathItem item) in
      let rest = flat_map entry_operations es in
      sym before ∙ ap (λ l. first_located id (flat_map entry_operations l)) split
      ∙ find-append (λ o. has_id id o.1.1) (map (located (string_bytes name)) here) rest
      ∙ ap (λ o. option_or o (first_located id rest)) (first_at id (string_bytes name) here)

  pub path_found : (o : KeyedOperation) (path : List ℕ) (made : LocatedOperation) → Some o ≡ first_with_id id (operations_in (out-PathItem item)) → path ≡ string_bytes name
      → made ≡ located path o → Some made ≡ all
  path_found o path made found same is =
      ap Some (is ∙ ap (λ p. located p o) same)
      ∙ ap (λ f. option_or (option_map (located (string_bytes name)) f) (first_located id (flat_map entry_operations es))) found
      ∙ sym divided

  pub path_passed : None ≡ first_with_id id (operations_in (out-PathItem item)) → first_located id (flat_map entry_operations es) ≡ all
  path_passed found = ap (λ f. option_or (option_map (located (string_bytes name)) f) (first_located id (flat_map entry_operations es))) found ∙ sym divided
