-- Words, looked up by their text, read and written.
use Rattle.std.proofs.Common.{◌≡◌, ℕ, List, [], ◌∷◌, Bool, true, false, Option, Some, None, option_and_then, is_some, if◌then◌else◌, map, refl, sym, ap, ◌∙◌, ◌↔◌}
use Rattle.std.proofs.lemmas.Slice.Eq.{bytes_eq-Decides}
use Rattle.std.specs.List.{list_any}
use Rattle.std.specs.Str.{bytes_eq}
use Rattle.serde_json.specs.Data.{Data, null, boolean, number, string, array, object}
use Rattle.serde_json.specs.Find.{as_str}
use Rattle.serde_json.specs.declared.value.Value.{the_lemmas}
use Rattle.utoipa_base.specs.Kinds.{Vocabulary, word_of}
use Rattle.utoipa_base.specs.Docs.{word_doc}
use Rattle.utoipa_base.specs.Reading.{reader, read, read_word}
use Rattle.utoipa_base.specs.Values.{schema_count}
use Rattle.utoipa_base.specs.Vocabularies.{with_text, found_if}
use Rattle.utoipa_base.specs.Words.{words, is_word}
use Rattle.utoipa_base.specs.Writing.{write}

-- ---- the value that a text names

-- what is found first, or else among the rest, has the text
found_by : {W : Type 0} (f : W → List ℕ) (b : Bool) (v w : W) (o : Option W) (s : List ℕ) → bytes_eq s (f v) ≡ b → (o ≡ Some w → s ≡ f w) → (if b then Some v else o) ≡ Some w → s ≡ f w
found_by f true v w o s same later e = let is : v ≡ w = cc in (bytes_eq-Decides s (f v)).0 same ∙ ap f is
found_by f false v w o s same later e = later e

-- what is found has the text
pub found_has : {W : Type 0} (f : W → List ℕ) (ws : List W) (s : List ℕ) (w : W) → with_text f ws s ≡ Some w → s ≡ f w
found_has f [] s w e = cc
found_has f (v ∷ ws) s w e = found_by f (bytes_eq s (f v)) v w (with_text f ws s) s refl (found_has f ws s w) e

-- a value is found by a text exactly where the text is its own
pub found_exactly : {W : Type 0} (f : W → List ℕ) (ws : List W) (s : List ℕ) (r : Option W) → ((w : W) → with_text f ws (f w) ≡ Some w) → r ≡ with_text f ws s
    → (w : W) → (r ≡ Some w) ↔ (s ≡ f w)
found_exactly f ws s r each is w = ((λ e. found_has f ws s w (sym is ∙ e)), λ e. is ∙ ap (with_text f ws) e ∙ each w)

-- an option without a value is none
none_if : {W : Type 0} (o : Option W) → is_some o ≡ false → o ≡ None
none_if None e = refl
none_if (Some w) e = cc

-- nothing is found exactly where the text is no word
pub unknown_exactly : {W : Type 0} (f : W → List ℕ) (ws : List W) (v : Vocabulary) (s : List ℕ) (r : Option W) → map f ws ≡ words v → r ≡ with_text f ws s
    → (r ≡ None) ↔ (is_word v s ≡ false)
unknown_exactly f ws v s r are is =
    let known : is_some r ≡ is_word v s = ap is_some is ∙ found_if f ws s ∙ ap (list_any (bytes_eq s)) are in
    ((λ e. sym known ∙ ap is_some e), λ e. none_if r (known ∙ e))

-- ---- words as documents

-- a text is read as a word where it is one
pub read-word : (v : Vocabulary) (d : Data) → read (word_of v) d ≡ option_and_then (λ s. read_word (is_word v s) s) (as_str d)
unfolding reader
read-word v null = refl
read-word v (boolean b) = refl
read-word v (number n) = refl
read-word v (string s) = refl
read-word v (array ds) = refl
read-word v (object ms) = refl

-- a word is written as its text
pub write-word : (s : List ℕ) → write (word_doc s) ≡ string s
unfolding write
write-word s = refl

-- a word holds no schema
pub schema_count-word : (s : List ℕ) → schema_count (word_doc s) ≡ 0
unfolding schema_count
schema_count-word s = refl

pub ruleset by_words = (read-word, write-word, schema_count-word, the_lemmas)
