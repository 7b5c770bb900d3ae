-- Documents that were read from files: they are plain and in key order, and so is what is made of them.
use Rattle.std.proofs.Common.{◌≡◌, ◌∷◌, ℕ, List, [], false, All, Result, Ok, Err, IfOk, IfErr, map, subst}
use Rattle.std.specs.List.{AllByRecursion}
use Rattle.std.proofs.lemmas.List.Elements.{All-from_recursion}
use Rattle.serde_json.specs.Written.{has_float}
use Rattle.utoipa_base.specs.Docs.{Doc}
use Rattle.utoipa_base.specs.WellFormed.{IsPlain}
use Rattle.utoipa_base.specs.Writing.{write}
use Rattle.utoipa_base.proofs.Plain.{read_plain, write_plain}
use Rattle.utoipa_findings.specs.Sources.{File, IsFileOf}
use Rattle.utoipa_findings.proofs.SortedAdapted.{file_tree_sorted}
use Rattle.utoipa_merging.specs.Merged.{IsInKeyOrder, IsMerged, IsOpenApi}
use Rattle.utoipa_merging.specs.Nested.{IsNested}
use Rattle.utoipa_merging.proofs.PlainMerged.{merged_plain, nested_plain}
use Rattle.utoipa_merging.proofs.ReadInOrder.{read_in_order}
use Rattle.utoipa_command.specs.Answers.{behind}
use Rattle.utoipa_command.specs.Files.{document_kind, file_losses, lost_by_merging, lost_by_nesting, AreSourcesOf, IsFormatted, IsMerge, IsNest}
use Rattle.utoipa_command.specs.Layouts.{laid_out}
use Rattle.utoipa_command.specs.declared.files.layout.Layout.{Layout}

pub source_in_order : (d : Doc) (f : File) → IsFileOf document_kind d f → IsInKeyOrder d
source_in_order d f s = read_in_order s.tree d (file_tree_sorted document_kind f s.tree s.has) s.reads.1

source_plain : (d : Doc) (f : File) → IsFileOf document_kind d f → IsPlain d
source_plain d f s = read_plain document_kind s.tree d s.reads.0 s.reads.1

sources_plain : (ds : List Doc) (fs : List File) → AreSourcesOf ds fs → AllByRecursion IsPlain ds
sources_plain [] [] h = tt
sources_plain [] (f ∷ fs) h = absurd h
sources_plain (d ∷ ds) [] h = absurd h
sources_plain (d ∷ ds) (f ∷ fs) h = (source_plain d f h.0, sources_plain ds fs h.1)

-- what holds of a result holds of what it is
pub ok_is : {T E : Type 0} (P : T → Type 0) (r : Result T E) (v : T) → IfOk r P → r ≡ Ok v → P v
ok_is P r v h e = subst (λ s. IfOk s P) e h

pub err_is : {T E : Type 0} (P : E → Type 0) (r : Result T E) (w : E) → IfErr r P → r ≡ Err w → P w
err_is P r w h e = subst (λ s. IfErr s P) e h

-- what refuses what is made beside a value
pub passed_beside : {T U E : Type 0} (P Q : E → Type 0) (r : Result T E) (made : Result U E) → IfErr r (λ w. made ≡ Err w) → IfErr made P → ((w : E) → P w → Q w) → IfErr r Q
passed_beside P Q (Ok v) made is h f = tt
passed_beside P Q (Err w) made is h f = f w (err_is P made w h is)

-- documents of a type of OpenAPI documents
each_of_kind : {D : Type 0} (f : D → Doc) → ((x : D) → IsOpenApi (f x)) → (xs : List D) → AllByRecursion IsOpenApi (map f xs)
each_of_kind f of_kind [] = tt
each_of_kind f of_kind (x ∷ xs) = (of_kind x, each_of_kind f of_kind xs)

pub all_of_kind : {D : Type 0} (f : D → Doc) → ((x : D) → IsOpenApi (f x)) → (xs : List D) → All IsOpenApi (map f xs)
all_of_kind f of_kind xs = All-from_recursion IsOpenApi (map f xs) (each_of_kind f of_kind xs)

-- ---- answers

pub formatted : (l : Layout) (f : File) (text lost : List ℕ) (d : Doc) → IsFileOf document_kind d f → (has_float (write d) ≡ false → text ≡ laid_out l (write d)) → lost ≡ file_losses f
    → IsFormatted l f text lost
formatted l f text lost d s printed told = record { document = d; reads = s; written = printed (write_plain d (source_plain d f s)); told = told }

pub merged : (l : Layout) (fs : List File) (text lost : List ℕ) (ds : List Doc) (d : Doc) → AreSourcesOf ds fs → All IsOpenApi ds → IsMerged ds d → IsInKeyOrder d
    → (has_float (write d) ≡ false → text ≡ laid_out l (write d)) → lost ≡ lost_by_merging fs ds → IsMerge l fs text lost
merged l fs text lost ds d s each m order printed told = record {
  documents = ds;
  reads = s;
  each = each;
  answer = d;
  merges = m;
  ordered = order;
  written = printed (write_plain d (merged_plain ds d m (All-from_recursion IsPlain ds (sources_plain ds fs s)) order));
  told = told;
}

pub nested : (l : Layout) (base : List ℕ) (own_file inner_file : File) (text lost : List ℕ) (own inner d : Doc) → IsOpenApi own → IsOpenApi inner
    → IsFileOf document_kind own own_file → IsFileOf document_kind inner inner_file
    → IsNested (behind base inner) own inner d → (IsInKeyOrder own → IsInKeyOrder d)
    → (has_float (write d) ≡ false → text ≡ laid_out l (write d)) → lost ≡ lost_by_nesting base own_file inner_file own inner → IsNest l base own_file inner_file text lost
nested l base own_file inner_file text lost own inner d p q s t n ordered printed told =
    let order = ordered (source_in_order own own_file s) in
    record {
      own_document = own;
      reads = s;
      nested_document = inner;
      reads_nested = t;
      own_kind = p;
      nested_kind = q;
      answer = d;
      nests = n;
      ordered = order;
      written = printed (write_plain d (nested_plain (behind base inner) own inner d p q n (source_plain own own_file s) (source_plain inner inner_file t) order));
      told = told;
    }
