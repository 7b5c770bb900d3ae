-- The tree of a file's bytes, by cases, and what is told of it.
use Rattle.std.proofs.Common.{◌≡◌, ◌∙◌, ℕ, List, Bool, true, false, if◌then◌else◌, Option, Some, None, option_map, codes, refl, sym, ap, subst}
use Rattle.std.specs.Str.{IsUtf8, is_utf8}
use Rattle.std.proofs.lemmas.Str.{IsUtf8-from_is_utf8, is_utf8-from_IsUtf8}
use Rattle.serde_json.specs.Data.{Data}
use Rattle.serde_json.specs.Read.{read as read_text}
use Rattle.utoipa_base.specs.Kinds.{Kind}
use Rattle.utoipa_findings.specs.Findings.{Finding}
use Rattle.utoipa_findings.specs.Lines.{lines_of}
use Rattle.utoipa_findings.specs.Sources.{File, seen, file_tree, tree_of, no_json, no_tree}
use Rattle.utoipa_findings.specs.Told.{IsTold}

-- ---- the tree

by_utf8 : (bytes : List ℕ) (b : Bool) → is_utf8 bytes ≡ b → tree_of bytes ≡ if b then read_text bytes else None
by_utf8 bytes b e = ap (λ t. if t then read_text bytes else None) e

-- of bytes that are UTF-8 it is that of the text
pub tree_by_text : (bytes : List ℕ) (o : Option Data) → IsUtf8 bytes → read_text bytes ≡ o → tree_of bytes ≡ o
tree_by_text bytes o utf8 is = by_utf8 bytes true (is_utf8-from_IsUtf8 bytes utf8) ∙ is

without_by : (bytes : List ℕ) (b : Bool) → is_utf8 bytes ≡ b → (IsUtf8 bytes → ⊥) → tree_of bytes ≡ None
without_by bytes true e h = absurd (h (IsUtf8-from_is_utf8 bytes e))
without_by bytes false e h = by_utf8 bytes false e

-- other bytes have none
pub no_tree_without : (bytes : List ℕ) → (IsUtf8 bytes → ⊥) → tree_of bytes ≡ None
no_tree_without bytes h = without_by bytes (is_utf8 bytes) refl h

-- what is said of a text that has none
pub said_of_text : (bytes : List ℕ) → IsUtf8 bytes → no_tree bytes ≡ no_json bytes
said_of_text bytes utf8 = ap (λ b. if b then no_json bytes else codes "this is no UTF-8\n") (is_utf8-from_IsUtf8 bytes utf8)

-- ---- what is told by it

pub told_of_tree : (f : Data → List Finding) (k : Kind) (x : File) (told : List ℕ) (t : Data) → file_tree k x ≡ Some t → told ≡ lines_of x.0 (f t) → IsTold f x (file_tree k x) told
told_of_tree f k x told t has h = subst (λ o. IsTold f x o told) (sym has) h

-- ---- as it is looked at

pub seen_by_text : (k : Kind) (x : File) (text : List ℕ) (t : Data) → text ≡ x.1 → IsUtf8 text → read_text text ≡ Some t → file_tree k x ≡ Some (seen x.2 k t)
seen_by_text k x text t same utf8 is = ap (option_map (seen x.2 k)) (ap tree_of (sym same) ∙ tree_by_text text (Some t) utf8 is)

pub unseen : (k : Kind) (x : File) → tree_of x.1 ≡ None → file_tree k x ≡ None
unseen k x none = ap (option_map (seen x.2 k)) none
