-- Fields and maps that are filled where nothing stands, and their documents.
use Rattle.std.proofs.Common.{◌≡◌, ℕ, List, cond, not, Option, Some, None, option_map, refl, sym, ap, ◌∙◌, String, BTreeMap, Global}
use Rattle.std.specs.Option.{option_or, is_some}
use Rattle.std.specs.BTreeMap.{get_by_text}
use Rattle.utoipa_base.specs.Docs.{Doc}
use Rattle.utoipa_base.specs.Views.{option_of, map_of_docs}
use Rattle.utoipa_merging.specs.Rules.{where_missing}
use Rattle.utoipa_merging.specs.Slots.{held, entry_at}
use Rattle.utoipa_merging.proofs.Options.{or_none}
use Rattle.utoipa_merging.proofs.MapViews.{entry_at-map}

-- ---- values

-- a value is missing where there is none
pub missing_if : {X : Type 0} (o later : Option X) → cond (not (is_some o)) later None ≡ where_missing o later
missing_if None later = refl
missing_if (Some x) later = refl

-- what is missing, put in
pub missing_put : {X : Type 0} (o later : Option X) → option_or (where_missing o later) o ≡ option_or o later
missing_put None later = or_none later
missing_put (Some x) later = refl

-- ---- documents

held_or : {X : Type 0} (f : X → Doc) (o p : Option X) → held (option_of f (option_or o p)) ≡ option_or (held (option_of f o)) (option_or (held (option_of f p)) None)
held_or f None None = refl
held_or f None (Some y) = refl
held_or f (Some x) p = refl

-- the slot of a field that was filled
pub filled_field : {X : Type 0} (f : X → Doc) (n o p : Option X) → n ≡ option_or o p → held (option_of f n) ≡ option_or (held (option_of f o)) (option_or (held (option_of f p)) None)
filled_field f n o p e = ap (λ x. held (option_of f x)) e ∙ held_or f o p

map_or : {X : Type 0} (f : X → Doc) (o p : Option X) → option_map f (option_or o p) ≡ option_or (option_map f o) (option_map f p)
map_or f None p = refl
map_or f (Some x) p = refl

-- the slots of a map that was filled
pub filled_map : {X : Type 0} (f : X → Doc) (n m l : BTreeMap (String Global) X) → ((name : List ℕ) → get_by_text n name ≡ option_or (get_by_text m name) (get_by_text l name)) → (name : List ℕ)
    → entry_at name (map_of_docs f n) ≡ option_or (entry_at name (map_of_docs f m)) (option_or (entry_at name (map_of_docs f l)) None)
filled_map f n m l each name =
    entry_at-map f n name
    ∙ ap (option_map f) (each name)
    ∙ map_or f (get_by_text m name) (get_by_text l name)
    ∙ ap (λ o. option_or o (option_map f (get_by_text l name))) (sym (entry_at-map f m name))
    ∙ ap (option_or (entry_at name (map_of_docs f m))) (sym (entry_at-map f l name) ∙ sym (or_none (entry_at name (map_of_docs f l))))
