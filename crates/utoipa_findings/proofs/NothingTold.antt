-- No line tells of nothing, and what is refused is told in a line at least.
use Rattle.std.proofs.Common.{◌≡◌, ◌∙◌, ℕ, List, [], ◌∷◌, Option, None, Some, length, codes, refl, sym, arith}
use Rattle.std.specs.List.{flat_map}
use Rattle.serde_json.specs.Data.{Data}
use Rattle.utoipa_base.specs.Docs.{Doc}
use Rattle.utoipa_base.specs.Kinds.{Kind}
use Rattle.utoipa_check.specs.Shown.{AreLines, ended}
use Rattle.utoipa_findings.specs.Findings.{refusals}
use Rattle.utoipa_findings.specs.Lines.{lines_of}
use Rattle.utoipa_findings.specs.Sources.{File, IsFileOf, file_tree}
use Rattle.utoipa_findings.specs.Told.{IsTold, IsRefused}
use Rattle.utoipa_findings.proofs.ComesBack.{first_none, second_none, unrefused_reads}
use Rattle.utoipa_findings.proofs.OnLines.{findings_are_lines, told_are_lines}

no_end : (line : List ℕ) → ended line ≡ [] → ⊥
no_end line e = let none : codes "\n" ≡ [] = second_none line (codes "\n") e in cc

no_lines : (lines : List (List ℕ)) → flat_map ended lines ≡ [] → length lines ≡ 0
no_lines [] e = refl
no_lines (line ∷ lines) e = absurd (no_end line (first_none (ended line) (flat_map ended lines) e))

none_counted : (n : ℕ) (text : List ℕ) → AreLines n text → text ≡ [] → n ≡ 0
none_counted n text h none = sym h.count ∙ no_lines h.lines (h.are ∙ none)

none_of_none : {A : Type 0} (xs : List A) → length xs ≡ 0 → xs ≡ []
none_of_none [] e = refl
none_of_none (x ∷ xs) e = cc

pub nothing_told : {A : Type 0} (xs : List A) (text : List ℕ) → AreLines (length xs) text → text ≡ [] → xs ≡ []
nothing_told xs text h none = none_of_none xs (none_counted (length xs) text h none)

refused_by : (k : Kind) (x : File) (told : List ℕ) (o : Option Data) → file_tree k x ≡ o → ((d : Doc) → IsFileOf k d x → ⊥) → IsTold (refusals k) x o told → told ≡ [] → ⊥
refused_by k x told None is none h e = let one : 1 ≡ 0 = none_counted 1 told (told_are_lines (refusals k) x None told h) e in absurd (omega (arith, one))
refused_by k x told (Some t) is none h e =
    let unrefused = nothing_told (refusals k t) (lines_of x.0 (refusals k t)) (findings_are_lines x.0 (refusals k t)) (sym h ∙ e) in
    let there = unrefused_reads k t unrefused in
    none there.0 (record { tree = t; has = is; reads = there.1 })

-- what is told of a file that is refused is something
pub refused_some : (k : Kind) (x : File) (told : List ℕ) → IsRefused k x told → told ≡ [] → ⊥
refused_some k x told h e = refused_by k x told (file_tree k x) refl h.none h.lines e
