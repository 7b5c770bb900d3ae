-- What the documents of texts are merged into: one document, whether the texts are merged at once or in any brackets.
use Rattle.std.proofs.Common.{◌≡◌, ◌≤◌, ℕ, List, [], ◌∷◌, ◌++◌, sym, ap, ◌∙◌, subst, arith}
use Rattle.std.specs.List.{AllByRecursion}
use Rattle.std.proofs.lemmas.List.Elements.{All-from_recursion}
use Rattle.serde_json.specs.Data.{depth}
use Rattle.serde_json.specs.Read.{max_depth}
use Rattle.serde_json.proofs.Nesting.{depth-read}
use Rattle.utoipa_base.specs.Docs.{Doc}
use Rattle.utoipa_base.specs.Kinds.{named, open_api_object}
use Rattle.utoipa_base.specs.NormalForm.{normal_form}
use Rattle.utoipa_base.specs.Reading.{read}
use Rattle.utoipa_base.specs.WellFormed.{IsPlain, IsUnambiguous, IsWellFormed}
use Rattle.utoipa_base.specs.Writing.{write}
use Rattle.utoipa_base.proofs.Plain.{read_plain, write_plain}
use Rattle.utoipa_base.proofs.ReadsBack.{reads_back}
use Rattle.utoipa_base.proofs.WhatIsRead.{read_normal}
use Rattle.utoipa_merging.specs.Merged.{IsInKeyOrder, IsMerged, IsOpenApi}
use Rattle.utoipa_merging.specs.Texts.{IsTextOf, IsWrittenAs, IsUnambiguousText, AreTextsOf, AreTextsMerged, TextBrackets, one_text, pair_texts, text_leaves, AreTextsMergedByPairs}
use Rattle.utoipa_merging.proofs.Composition.{merged_one, merged_composes}
use Rattle.utoipa_merging.proofs.Determined.{of_some}
use Rattle.utoipa_merging.proofs.ReadInOrder.{read_in_order}
use Rattle.utoipa_merging.proofs.NormalMerged.{merged_normal}
use Rattle.utoipa_merging.proofs.PlainMerged.{merged_plain}
use Rattle.utoipa_merging.proofs.PropertySlots.{all_any}
use Rattle.utoipa_merging.proofs.ReadShapes.{read_of_kind, read_depth}
use Rattle.utoipa_merging.proofs.ShallowMerged.{merged_shallow}
use Rattle.utoipa_merging.proofs.SortedTexts.{text_sorted}
use Rattle.utoipa_merging.proofs.UnambiguousMerged.{merged_unambiguous}
use Rattle.utoipa_merging.proofs.Unique.{merged_unique}

-- ---- the document of a text

-- a text is of one document at most
text_unique : (c d : Doc) (text : List ℕ) → IsTextOf c text → IsTextOf d text → c ≡ d
text_unique c d text s t =
    let same : s.tree ≡ t.tree = of_some _ _ (sym s.has ∙ t.has) in
    of_some _ _ (sym s.reads ∙ ap (read (named open_api_object)) same ∙ t.reads)

texts_unique : (cs ds : List Doc) (texts : List (List ℕ)) → AreTextsOf cs texts → AreTextsOf ds texts → cs ≡ ds
texts_unique [] [] [] s t = λ i. []
texts_unique [] [] (text ∷ texts) s t = absurd s
texts_unique [] (d ∷ ds) [] s t = absurd t
texts_unique [] (d ∷ ds) (text ∷ texts) s t = absurd s
texts_unique (c ∷ cs) [] [] s t = absurd s
texts_unique (c ∷ cs) [] (text ∷ texts) s t = absurd t
texts_unique (c ∷ cs) (d ∷ ds) [] s t = absurd s
texts_unique (c ∷ cs) (d ∷ ds) (text ∷ texts) s t = ap (λ x. x ∷ cs) (text_unique c d text s.0 t.0) ∙ ap (λ xs. d ∷ xs) (texts_unique cs ds texts s.1 t.1)

-- what a text is read as has its maps in the order of their keys
pub text_in_order : (d : Doc) (text : List ℕ) → IsTextOf d text → IsInKeyOrder d
text_in_order d text t = read_in_order t.tree d (text_sorted text t.tree t.has) t.reads

-- and is an OpenAPI Object
pub text_of_kind : (d : Doc) (text : List ℕ) → IsTextOf d text → IsOpenApi d
text_of_kind d text t = read_of_kind (named open_api_object) t.tree d t.reads

texts_append : (cs ds : List Doc) (xs ys : List (List ℕ)) → AreTextsOf cs xs → AreTextsOf ds ys → AreTextsOf (cs ++ ds) (xs ++ ys)
texts_append [] ds [] ys s t = t
texts_append [] ds (x ∷ xs) ys s t = absurd s
texts_append (c ∷ cs) ds [] ys s t = absurd s
texts_append (c ∷ cs) ds (x ∷ xs) ys s t = (s.0, texts_append cs ds xs ys s.1 t)

-- ---- merging

pub texts_merged_unique : (texts : List (List ℕ)) (c d : Doc) → AreTextsMerged texts c → AreTextsMerged texts d → c ≡ d
texts_merged_unique texts c d p q =
    merged_unique q.documents c d (subst (λ xs. IsMerged xs c) (texts_unique p.documents q.documents texts p.read q.read) p.merged) q.merged p.ordered q.ordered

pub texts_compose : (xs ys : List (List ℕ)) (a b d : Doc) (s t : List ℕ) → AreTextsMerged xs a → AreTextsMerged ys b → IsTextOf a s → IsTextOf b t → AreTextsMerged (s ∷ t ∷ []) d → AreTextsMerged (xs ++ ys) d
texts_compose xs ys a b d s t p q u v m =
    let same : m.documents ≡ a ∷ b ∷ [] = texts_unique m.documents (a ∷ b ∷ []) (s ∷ t ∷ []) m.read (u, (v, tt)) in
    record {
      documents = p.documents ++ q.documents;
      read = texts_append p.documents q.documents xs ys p.read q.read;
      merged = merged_composes p.documents q.documents a b d p.merged q.merged (subst (λ ds. IsMerged ds d) same m.merged);
      ordered = m.ordered;
    }

-- in brackets, where what is written for what texts are merged into is a text of it
brackets_by : (IsWritten : Doc → List ℕ → Type 0) (Good : List ℕ → Type 0) → ((texts : List (List ℕ)) (d : Doc) (s : List ℕ) → AllByRecursion Good texts → AreTextsMerged texts d → IsWritten d s → IsTextOf d s)
    → (b : TextBrackets) (d : Doc) → AllByRecursion Good (text_leaves b) → AreTextsMergedByPairs IsWritten b d → AreTextsMerged (text_leaves b) d
brackets_by IsWritten Good text_of (one_text text) d g h = record { documents = d ∷ []; read = (h, tt); merged = merged_one d (text_of_kind d text h); ordered = text_in_order d text h }
brackets_by IsWritten Good text_of (pair_texts l r) d g (x, y, s, t, p, q, u, v, m) =
    let parts = split (text_leaves l) (text_leaves r) g in
    let left = brackets_by IsWritten Good text_of l x parts.0 p in
    let right = brackets_by IsWritten Good text_of r y parts.1 q in
    texts_compose (text_leaves l) (text_leaves r) x y d s t left right (text_of (text_leaves l) x s parts.0 left u) (text_of (text_leaves r) y t parts.1 right v) m
  where
    split : (xs ys : List (List ℕ)) → AllByRecursion Good (xs ++ ys) → AllByRecursion Good xs × AllByRecursion Good ys
    split [] ys h = (tt, h)
    split (x ∷ xs) ys h = let later = split xs ys h.1 in ((h.0, later.0), later.1)

pub texts_in_brackets : (b : TextBrackets) (d : Doc) → AreTextsMergedByPairs IsTextOf b d → AreTextsMerged (text_leaves b) d
texts_in_brackets b d h = brackets_by IsTextOf (λ text. Unit {0}) (λ texts x s g m u. u) b d (all_any (λ text. tt) (text_leaves b)) h

-- the same texts in any brackets
pub text_brackets_agree : (b c : TextBrackets) (d e : Doc) → text_leaves b ≡ text_leaves c → AreTextsMergedByPairs IsTextOf b d → AreTextsMergedByPairs IsTextOf c e → d ≡ e
text_brackets_agree b c d e same p q = texts_merged_unique (text_leaves c) d e (subst (λ xs. AreTextsMerged xs d) same (texts_in_brackets b d p)) (texts_in_brackets c e q)

-- ---- the text of what is merged

-- what holds of what each text is read as holds of the documents
each_read : (P : Doc → Type 0) (ds : List Doc) (texts : List (List ℕ)) → ((d : Doc) (text : List ℕ) → IsTextOf d text → P d) → AreTextsOf ds texts → AllByRecursion P ds
each_read P [] texts each h = tt
each_read P (d ∷ ds) [] each h = absurd h
each_read P (d ∷ ds) (text ∷ texts) each h = (each d text h.0, each_read P ds texts each h.1)

each_unambiguous : (ds : List Doc) (texts : List (List ℕ)) → AllByRecursion IsUnambiguousText texts → AreTextsOf ds texts → AllByRecursion IsUnambiguous ds
each_unambiguous [] texts g h = tt
each_unambiguous (d ∷ ds) [] g h = absurd h
each_unambiguous (d ∷ ds) (text ∷ texts) g h = (g.0 d h.0, each_unambiguous ds texts g.1 h.1)

-- a document is written no deeper than a text that it is read of may nest
text_within : (d : Doc) (text : List ℕ) → IsTextOf d text → depth (write d) ≤ max_depth
text_within d text t = omega (arith, read_depth (named open_api_object) t.tree d t.reads, depth-read text t.tree t.has)

pub merged_within : (texts : List (List ℕ)) (d : Doc) → AreTextsMerged texts d → AllByRecursion IsUnambiguousText texts → depth (write d) ≤ max_depth
merged_within texts d m g =
    merged_shallow max_depth (omega arith) m.documents d m.merged (All-from_recursion IsOpenApi m.documents (each_read IsOpenApi m.documents texts text_of_kind m.read))
    (All-from_recursion IsUnambiguous m.documents (each_unambiguous m.documents texts g m.read)) (All-from_recursion (λ x. depth (write x) ≤ max_depth) m.documents (each_read (λ x. depth (write x) ≤ max_depth) m.documents texts text_within m.read))
    m.ordered

-- a well-formed document is read, as its normal form, of each text of its tree
pub written_text : (d : Doc) (text : List ℕ) → IsOpenApi d → IsWellFormed d → IsWrittenAs d text → IsTextOf (normal_form d) text
written_text d text k h w = record { tree = write d; has = w; plain = write_plain d h.0; reads = reads_back d (named open_api_object) k h.1 }

-- a text whose tree is the one that what is merged is written as is a text of it
pub merged_text : (texts : List (List ℕ)) (d : Doc) (text : List ℕ) → AllByRecursion IsUnambiguousText texts → AreTextsMerged texts d → IsWrittenAs d text → IsTextOf d text
merged_text texts d text g m w = subst (λ e. IsTextOf e text) normal (written_text d text m.merged.of_kind (plain, unambiguous) w)
  where
    plain : IsPlain d
    plain = merged_plain m.documents d m.merged (All-from_recursion IsPlain m.documents (each_read IsPlain m.documents texts (λ x s t. read_plain (named open_api_object) t.tree x t.plain t.reads) m.read)) m.ordered

    unambiguous : IsUnambiguous d
    unambiguous =
        merged_unambiguous m.documents d m.merged (All-from_recursion IsOpenApi m.documents (each_read IsOpenApi m.documents texts text_of_kind m.read)) (All-from_recursion IsUnambiguous m.documents (each_unambiguous m.documents texts g m.read))
        m.ordered

    normal : normal_form d ≡ d
    normal = merged_normal m.documents d m.merged (All-from_recursion (λ x. normal_form x ≡ x) m.documents (each_read (λ x. normal_form x ≡ x) m.documents texts (λ x s t. read_normal (named open_api_object) t.tree x t.reads) m.read)) m.ordered

-- so such texts may be merged in any brackets
pub written_in_brackets : (b : TextBrackets) (d : Doc) → AllByRecursion IsUnambiguousText (text_leaves b) → AreTextsMergedByPairs IsWrittenAs b d → AreTextsMerged (text_leaves b) d
written_in_brackets b d g h = brackets_by IsWrittenAs IsUnambiguousText merged_text b d g h
