-- Where nothing is told as lost, all that files have stands in what was written.
use Rattle.std.proofs.Common.{◌≡◌, ◌∙◌, ◌++◌, ℕ, List, [], ◌∷◌, Bool, true, false, if◌then◌else◌, length, map, codes, Option, None, Some, All, refl, sym, ap, subst}
use Rattle.std.proofs.lemmas.Bool.{eqb-true}
use Rattle.std.proofs.lemmas.List.Elements.{All-from_recursion}
use Rattle.std.proofs.lemmas.Simd.{map-map}
use Rattle.std.specs.List.{AllByRecursion}
use Rattle.serde_json.specs.Data.{Data, Members, no_members, member}
use Rattle.serde_json.specs.Find.{get}
use Rattle.utoipa_base.specs.Docs.{Doc}
use Rattle.utoipa_base.specs.EachMember.{each_member}
use Rattle.utoipa_base.specs.Extensions.{is_extension}
use Rattle.utoipa_base.specs.WellFormed.{ReadsAs}
use Rattle.utoipa_base.specs.Writing.{write}
use Rattle.utoipa_base.specs.Kinds.{open_api_object}
use Rattle.utoipa_check.specs.Places.{members_at}
use Rattle.utoipa_conflicts.specs.Conflicts.{conflicts}
use Rattle.utoipa_conflicts.specs.Nested as nesting
use Rattle.utoipa_conflicts.specs.NestedInto.{IsNoExtension}
use Rattle.utoipa_conflicts.proofs.NestedPaths.{pair_written, items_written}
use Rattle.utoipa_conflicts.proofs.Written.{IsTable}
use Rattle.utoipa_findings.specs.Findings.{text_losses}
use Rattle.utoipa_findings.specs.Lines.{lines_of}
use Rattle.utoipa_findings.specs.Sources.{File, IsFileOf}
use Rattle.utoipa_findings.specs.Standing.{IsUnlost, AreUnlost, AreMergedWhole, AreNestedWhole}
use Rattle.utoipa_findings.specs.Told.{tree_lines}
use Rattle.utoipa_findings.proofs.ComesBack.{first_none, second_none}
use Rattle.utoipa_findings.proofs.InText.{unlost_text}
use Rattle.utoipa_findings.proofs.MergedWhole.{all_stand_in, unlost_table}
use Rattle.utoipa_findings.proofs.NestedWhole.{both_stand}
use Rattle.utoipa_findings.proofs.SortedAdapted.{tree_behind}
use Rattle.utoipa_findings.proofs.NothingTold.{nothing_told}
use Rattle.utoipa_findings.proofs.OnLines.{findings_are_lines, conflicts_are_lines, nested_are_lines}
use Rattle.utoipa_merging.specs.Nested.{IsNested}
use Rattle.utoipa_merging.specs.Slots.{entries_in, paths_of}
use Rattle.utoipa_command.specs.Answers.{behind}
use Rattle.utoipa_command.specs.Files.{document_kind, file_losses, losses_of, dropped_lines, dropped_by_nesting, is_base, AreSourcesOf, IsFormatted, IsMerge, IsNest}
use Rattle.utoipa_command.specs.Whole.{StandsFormatted, StandMerged, StandNested}
use Rattle.utoipa_command.specs.declared.files.layout.Layout.{Layout}
use Rattle.utoipa_command.proofs.FileDocuments.{source_in_order}

-- ---- files

unlost : (f : File) (d : Doc) (s : IsFileOf document_kind d f) → file_losses f ≡ [] → (t : Data) × IsUnlost f t d
unlost f d s none =
    let lost = text_losses document_kind f.1 in
    let lines = lines_of f.0 (lost s.tree) in
    let tree = tree_behind document_kind f s.tree s.has in
    let nothing = nothing_told (lost s.tree) lines (findings_are_lines f.0 (lost s.tree)) (sym (ap (tree_lines lost f.0) s.has) ∙ none) in
    (tree.0, record { has = tree.1; reads = subst (λ t. ReadsAs document_kind t d) (sym tree.2) s.reads; nothing = ap lost tree.2 ∙ nothing })

pub stands_formatted : (l : Layout) (file : File) (text : List ℕ) → IsFormatted l file text [] → StandsFormatted l file text
stands_formatted l file text h =
    let u = unlost file h.document h.reads (sym h.told) in
    let back = unlost_text document_kind file u.0 h.document u.1.has u.1.reads u.1.nothing in
    record { tree = u.0; answer = h.document; in_tree = back.1; stands = back.0; written = h.written }

all_unlost : (ds : List Doc) (fs : List File) → AreSourcesOf ds fs → losses_of fs ≡ [] → (ts : List Data) × AreUnlost fs ts ds
all_unlost [] [] h none = ([], tt)
all_unlost [] (f ∷ fs) h none = absurd h
all_unlost (d ∷ ds) [] h none = absurd h
all_unlost (d ∷ ds) (f ∷ fs) h none =
    let rest = all_unlost ds fs h.1 (second_none (file_losses f) (losses_of fs) none) in
    let u = unlost f d h.0 (first_none (file_losses f) (losses_of fs) none) in
    (u.0 ∷ rest.0, (u.1, rest.1))

pub stand_merged : (l : Layout) (files : List File) (text : List ℕ) → IsMerge l files text [] → StandMerged l files text
stand_merged l files text h =
    let names = map (λ f. f.0) files in
    let cs = conflicts (map write h.documents) in
    let unlost_files = all_unlost h.documents files h.reads (first_none (losses_of files) (dropped_lines names h.documents) (sym h.told)) in
    let nothing : cs ≡ [] = nothing_told cs (dropped_lines names h.documents) (conflicts_are_lines names cs) (second_none (losses_of files) (dropped_lines names h.documents) (sym h.told)) in
    let whole : AreMergedWhole files unlost_files.0 h.documents h.answer =
    record { unlost = unlost_files.1; each = h.each; merged = h.merges; ordered = h.ordered; nothing = nothing }
    in
    record { trees = unlost_files.0; answer = h.answer; stand = all_stand_in files unlost_files.0 h.documents h.answer whole; written = h.written }

-- ---- a file that is nested

no_extension : (base path : List ℕ) → is_base base ≡ true → is_extension path ≡ false → is_extension (base ++ path) ≡ false
no_extension [] path is plain = plain
no_extension (c ∷ cs) path is plain = subst (λ b. is_extension (b ∷ cs ++ path) ≡ false) (sym (eqb-true c 47 is)) refl

-- one more, unless it is an extension
no_extension_more : (base k : List ℕ) (d : Data) (rest : List nesting.ItemAt) → is_base base ≡ true → AllByRecursion IsNoExtension (map (λ i. base ++ i.0) rest) → (b : Bool) → is_extension k ≡ b
    → AllByRecursion IsNoExtension (map (λ i. base ++ i.0) ((if b then [] else (k, d) ∷ []) ++ rest))
no_extension_more base k d rest is h true e = h
no_extension_more base k d rest is h false e = (no_extension base k is e, h)

no_extensions : (base : List ℕ) → is_base base ≡ true → (ms : Members) → AllByRecursion IsNoExtension (map (λ i. base ++ i.0) (each_member nesting.item_unless_extension ms))
no_extensions base is no_members = tt
no_extensions base is (member k d ms) = no_extension_more base k d (each_member nesting.item_unless_extension ms) is (no_extensions base is ms) (is_extension k) refl

no_extensions_in : (base : List ℕ) → is_base base ≡ true → (o : Option Data) → AllByRecursion IsNoExtension (map (λ i. base ++ i.0) (nesting.items_in o))
no_extensions_in base is None = tt
no_extensions_in base is (Some paths) = no_extensions base is (members_at paths)

-- the paths behind the base, by the document and by what it is written as
behind_is : (base : List ℕ) (d : Doc) → IsTable open_api_object d → behind base d ≡ nesting.behind base (write d)
behind_is base d t =
    map-map (λ path. base ++ path) (λ p. p.0) (entries_in (paths_of d)) ∙ sym (map-map (λ i. base ++ i.0) pair_written (entries_in (paths_of d))) ∙ ap (map (λ i. base ++ i.0)) (sym (items_written d t))

pub stand_nested : (l : Layout) (base : List ℕ) (own nested : File) (text : List ℕ) → is_base base ≡ true → IsNest l base own nested text [] → StandNested l base own nested text
stand_nested l base own nested text is n =
    let c = n.own_document in
    let d = n.nested_document in
    let names = own.0 ∷ nested.0 ∷ [] in
    let answers = nesting.behind base (write d) in
    let cs = nesting.nested_conflicts answers (write c) (write d) in
    let dropped = dropped_by_nesting base names c d in
    let lost_none = first_none (file_losses own ++ file_losses nested) dropped (sym n.told) in
    let own_unlost = unlost own c n.reads (first_none (file_losses own) (file_losses nested) lost_none) in
    let nested_unlost = unlost nested d n.reads_nested (second_none (file_losses own) (file_losses nested) lost_none) in
    let table = unlost_table nested nested_unlost.0 d nested_unlost.1 n.nested_kind in
    let whole : AreNestedWhole base own nested own_unlost.0 nested_unlost.0 c d n.answer = record {
      own_unlost = own_unlost.1;
      other_unlost = nested_unlost.1;
      own_kind = n.own_kind;
      other_kind = n.nested_kind;
      own_ordered = source_in_order c own n.reads;
      other_ordered = source_in_order d nested n.reads_nested;
      answered = All-from_recursion IsNoExtension answers (no_extensions_in base is (get (codes "paths") (write d)));
      nested = subst (λ a. IsNested a c d n.answer) (behind_is base d table) n.nests;
      ordered = n.ordered;
      nothing = nothing_told cs dropped (nested_are_lines names cs) (second_none (file_losses own ++ file_losses nested) dropped (sym n.told));
    }
    in
    record {
      own_tree = own_unlost.0;
      nested_tree = nested_unlost.0;
      answer = n.answer;
      stand = both_stand base own nested own_unlost.0 nested_unlost.0 c d n.answer whole;
      written = n.written;
    }
