-- The types whose values are words, each by its text.
use Rattle.std.specs.Prelude.{◌≡◌, ℕ, List, [], ◌∷◌, Bool, true, false, ◌||◌, Option, None, Some, is_some, if◌then◌else◌, map, refl}
use Rattle.std.proofs.Common.{sym, ap, ◌∙◌}
use Rattle.std.specs.List.{list_any}
use Rattle.std.specs.Str.{bytes_eq}
use Rattle.utoipa_base.specs.Docs.{Doc, word_doc}
use Rattle.utoipa_base.specs.Kinds.{Vocabulary, word_of}
use Rattle.utoipa_base.specs.Shape.{IsOf, value_of}
use Rattle.utoipa_base.specs.Words.{words}

-- the first of the values whose text this is
abbrev pub with_text : {W : Type 0} → (W → List ℕ) → List W → List ℕ → Option W
with_text f [] s = None
with_text f (w ∷ ws) s = if bytes_eq s (f w) then Some w else with_text f ws s

-- a word as a document
abbrev pub word_by : {W : Type 0} → (W → List ℕ) → W → Doc
word_by f w = word_doc (f w)

-- what is found first, or else among the rest
found_by : {W : Type 0} (b : Bool) (v : W) (o : Option W) (x : Bool) → is_some o ≡ x → is_some (if b then Some v else o) ≡ (b || x)
found_by true v o x e = refl
found_by false v o x e = e

-- a value is found where the text is one of theirs
pub found_if : {W : Type 0} (f : W → List ℕ) (ws : List W) (s : List ℕ) → is_some (with_text f ws s) ≡ list_any (bytes_eq s) (map f ws)
found_if f [] s = refl
found_if f (v ∷ ws) s = found_by (bytes_eq s (f v)) v (with_text f ws s) _ (found_if f ws s)

-- a value whose text is a word is a document of its vocabulary
pub word_of_kind : {W : Type 0} (v : Vocabulary) (f : W → List ℕ) (ws : List W) → map f ws ≡ words v → ((w : W) → with_text f ws (f w) ≡ Some w) → (w : W) → IsOf (word_by f w) (value_of (word_of v))
unfolding IsOf
word_of_kind v f ws are each w = sym (ap (list_any (bytes_eq (f w))) are) ∙ sym (found_if f ws (f w)) ∙ ap is_some (each w)
