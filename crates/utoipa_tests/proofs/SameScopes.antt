-- Why `==` of scopes tells whether they are one document.
use Rattle.std.proofs.Common.{◌≡◌, ◌&&◌, Bool, Decides, List, [], ◌∷◌, String, string_bytes, string_eq, None, refl, ap}
use Rattle.std.proofs.lemmas.Bool.{and_parts, and_from}
use Rattle.std.proofs.lemmas.Slice.Eq.{slice_eq-Decides}
use Rattle.std.specs.Cmp.{unsigned_Decides}
use Rattle.std.specs.Cmp.Lexicographic.{pointwise}
use Rattle.std.specs.declared.alloc.Global.{Global}
use Rattle.utoipa_base.specs.Docs.{entries_of_list, table_doc, map_doc, doc, no_docs}
use Rattle.utoipa_base.specs.Kinds.{scopes_object}
use Rattle.utoipa_base.specs.Views.{text_of, pairs_of}
use Rattle.utoipa_security.specs.Scopes.{scopes_doc}
use Rattle.utoipa_security.specs.declared.security.scopes.Scopes.{Scopes}
use Rattle.utoipa_security.specs.contracts.security.scopes.ScopesPartialEq.TheImpl as derived

abbrev Entry : Type 0
Entry = String Global × String Global

same_bytes : (x y : String Global) → Decides (string_eq x y) (string_bytes x ≡ string_bytes y)
same_bytes x y = slice_eq-Decides unsigned_Decides (string_bytes x) (string_bytes y) (string_eq x y) refl

-- an entry and another, as `==` of a map compares them
abbrev same_entry : Entry → Entry → Bool
same_entry e f = string_eq e.0 f.0 && string_eq e.1 f.1

same_entries : (es fs : List Entry) → Decides (pointwise same_entry es fs) (entries_of_list (pairs_of text_of es) ≡ entries_of_list (pairs_of text_of fs))
same_entries [] [] = (λ _. refl, λ _. refl)
same_entries [] (f ∷ fs) = (λ h. cc, λ h. cc)
same_entries (e ∷ es) [] = (λ h. cc, λ h. cc)
same_entries (e ∷ es) (f ∷ fs) =
    let names = same_bytes e.0 f.0 in
    let texts = same_bytes e.1 f.1 in
    let rest = same_entries es fs in (
      λ h.
          let parts = and_parts (same_entry e f) (pointwise same_entry es fs) h in
          let both = and_parts (string_eq e.0 f.0) (string_eq e.1 f.1) parts.0 in
          let name : string_bytes e.0 ≡ string_bytes f.0 = names.0 both.0 in
          let text : string_bytes e.1 ≡ string_bytes f.1 = texts.0 both.1 in
          let later : entries_of_list (pairs_of text_of es) ≡ entries_of_list (pairs_of text_of fs) = rest.0 parts.1 in
          cc,
      λ h. and_from (same_entry e f) (pointwise same_entry es fs) (and_from (string_eq e.0 f.0) (string_eq e.1 f.1) (names.1 cc) (texts.1 cc)) (rest.1 cc),
    )

pub same_scopes : (a b : Scopes) → Decides (derived.ghosts.eq a b) (scopes_doc a ≡ scopes_doc b)
same_scopes a b =
    let same = same_entries a.scopes.entries b.scopes.entries in
    (λ h. ap (λ entries. table_doc scopes_object (doc (map_doc entries) no_docs) None) (same.0 h), λ h. same.1 cc)
