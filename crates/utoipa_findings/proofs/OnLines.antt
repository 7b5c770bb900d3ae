-- What is told is lines.
use Rattle.std.proofs.Common.{ℕ, List, [], ◌∷◌, ◌++◌, ◌==◌, ◌||◌, Bool, true, false, if◌then◌else◌, Option, Some, None, codes, decimal, length, refl, sym, subst}
use Rattle.std.specs.List.{flat_map}
use Rattle.std.specs.Str.{is_utf8}
use Rattle.std.proofs.lemmas.Bool.{cond_both}
use Rattle.serde_json.specs.Data.{Data}
use Rattle.utoipa_check.specs.Dropped.{Loss, absent, left_out, changed}
use Rattle.utoipa_check.specs.Misfits.{Step}
use Rattle.utoipa_check.specs.Pointers.{shown_pointer}
use Rattle.utoipa_check.specs.Said.{cause_text}
use Rattle.utoipa_check.specs.Shown.{shown, IsOneLine, AreLines}
use Rattle.utoipa_check.proofs.SaidOnLines.{among, behind, before_words, cause_line}
use Rattle.utoipa_check.proofs.ShownPointers.{pointer_line}
use Rattle.utoipa_check.proofs.ShownTexts.{printed, nothing_is_one_line, one_line_append, shown_line}
use Rattle.utoipa_check.proofs.WholeLines.{IsEnded, decimal_line, end_of, printed_end, before_end, lines_of_each, one_line_told}
use Rattle.utoipa_conflicts.specs.Conflicts.{Conflict}
use Rattle.utoipa_findings.specs.Findings.{What, unfit, doubtful, lost, dangles, repeated, Finding}
use Rattle.utoipa_findings.specs.Lines.{loss_text, what_text, place_text, finding_text, finding_line, lines_of, name_at, drop_line, conflict_line, nested_line}
use Rattle.utoipa_findings.specs.Sources.{File, text_line, first_byte, looks, no_tree, IsTreelessLine}
use Rattle.utoipa_findings.specs.Told.{IsTold, lines_due}

-- ---- findings

loss_line : (l : Loss) → IsOneLine (loss_text l)
loss_line absent = printed (loss_text absent) refl
loss_line left_out = printed (loss_text left_out) refl
loss_line changed = printed (loss_text changed) refl

what_line : (w : What) → IsOneLine (what_text w)
what_line (unfit c) = cause_line c
what_line (doubtful c) = behind (codes "this is read otherwise than it was meant: ") (cause_text c) refl (cause_line c)
what_line (lost l) = loss_line l
what_line (dangles text) = among (codes "the reference `") (shown text) (codes "` leads to nothing") refl (shown_line text) refl
what_line repeated = printed (what_text repeated) refl

place_line : (ss : List Step) → IsOneLine (place_text ss)
place_line [] = nothing_is_one_line
place_line (s ∷ ss) = one_line_append (shown_pointer (s ∷ ss)) (codes ": ") (pointer_line (s ∷ ss)) (printed (codes ": ") refl)

finding_ended : (name : List ℕ) (f : Finding) → IsEnded (finding_line name f)
finding_ended name f =
    let said = one_line_append (place_text f.0) (what_text f.1) (place_line f.0) (what_line f.1) in
    end_of (shown name ++ codes ": " ++ finding_text f) (one_line_append (shown name ++ codes ": ") (finding_text f) (before_words (shown name) (codes ": ") (shown_line name) refl) said)

pub findings_are_lines : (name : List ℕ) (fs : List Finding) → AreLines (length fs) (lines_of name fs)
findings_are_lines name fs = lines_of_each (finding_line name) (finding_ended name) fs

-- ---- files without a tree

text_ended : (name : List ℕ) (line column : ℕ) (said : List ℕ) → IsEnded said → IsEnded (text_line name line column said)
text_ended name line column said h =
    before_end (shown name) _ (shown_line name)
    (before_end (codes ":") _ (printed (codes ":") refl)
    (before_end (decimal line) _ (decimal_line line) (before_end (codes ":") _ (printed (codes ":") refl) (before_end (decimal column) _ (decimal_line column) (before_end (codes ": ") said (printed (codes ": ") refl) h)))))

-- by the first byte: a brace or a bracket, `<`, `/`, or another
looks_by : (first second third : Bool) (a b c d : List ℕ) → IsEnded (a ++ codes "\n") → IsEnded (b ++ codes "\n") → IsEnded (c ++ codes "\n") → IsEnded (d ++ codes "\n")
    → IsEnded ((if first then a else if second then b else if third then c else d) ++ codes "\n")
looks_by true second third a b c d p q r s = p
looks_by false true third a b c d p q r s = q
looks_by false false true a b c d p q r s = r
looks_by false false false a b c d p q r s = s

looks_ended : (o : Option ℕ) → IsEnded (looks o ++ codes "\n")
looks_ended None = printed_end (codes "this is no JSON: there is nothing in it") refl
looks_ended (Some c) =
    looks_by (c == 123 || c == 91) (c == 60) (c == 47) _ _ _ _ (printed_end (codes "this is no JSON") refl) (printed_end (codes "this is no JSON, and looks like HTML or XML") refl)
    (printed_end (codes "this is no JSON, which has no comments") refl)
    (printed_end (codes "this is no JSON, and looks like YAML, which is not read: `yq -o json` of mikefarah/yq makes JSON of it") refl)

no_tree_ended : (bytes : List ℕ) → IsEnded (no_tree bytes)
no_tree_ended bytes = cond_both (is_utf8 bytes) _ _ IsEnded (λ _. looks_ended (first_byte bytes)) (λ _. printed_end (codes "this is no UTF-8") refl)

pub treeless_is_a_line : (name bytes told : List ℕ) → IsTreelessLine name bytes told → AreLines 1 told
treeless_is_a_line name bytes told h =
    subst (AreLines 1) (sym h.2) (one_line_told (text_line name h.0 h.1 (no_tree bytes)) (text_ended name h.0 h.1 (no_tree bytes) (no_tree_ended bytes)))

-- ---- what is told of a file

pub told_are_lines : (f : Data → List Finding) (x : File) (tree : Option Data) (told : List ℕ) → IsTold f x tree told → AreLines (lines_due f tree) told
told_are_lines f x None told h = treeless_is_a_line x.0 x.1 told h
told_are_lines f x (Some t) told h = subst (AreLines (length (f t))) (sym h) (findings_are_lines x.0 (f t))

-- ---- what merging and nesting drop

drop_ended : (doing dropped : List ℕ) (p : List Step) (kept : List ℕ) → IsOneLine doing → IsEnded (drop_line doing dropped p kept)
drop_ended doing dropped p kept h =
    before_end (shown dropped) _ (shown_line dropped)
    (before_end (codes ": ") _ (printed (codes ": ") refl)
    (before_end (shown_pointer p) _ (pointer_line p)
    (before_end (codes ": ") _ (printed (codes ": ") refl)
    (before_end doing _ h
    (before_end (codes " drops this, since ") _ (printed (codes " drops this, since ") refl)
    (before_end (shown kept) (codes " decides here\n") (shown_line kept) (printed_end (codes " decides here") refl)))))))

pub conflicts_are_lines : (names : List (List ℕ)) (cs : List Conflict) → AreLines (length cs) (flat_map (conflict_line names) cs)
conflicts_are_lines names cs =
    lines_of_each (conflict_line names) (λ c. drop_ended (codes "merging") (name_at names c.2) c.0 (name_at names c.1) (printed (codes "merging") refl)) cs

pub nested_are_lines : (names : List (List ℕ)) (cs : List Conflict) → AreLines (length cs) (flat_map (nested_line names) cs)
nested_are_lines names cs =
    lines_of_each (nested_line names) (λ c. drop_ended (codes "nesting") (name_at names c.2) c.0 (name_at names c.1) (printed (codes "nesting") refl)) cs
