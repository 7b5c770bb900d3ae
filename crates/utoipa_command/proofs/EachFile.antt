-- Files, one after the other.
use Rattle.std.proofs.Common.{◌≡◌, ◌≢◌, ◌∷◌, ◌++◌, ◌<◌, ◌⊎◌, ◌+◌, ℕ, zero, suc, List, [], Bool, true, length, map, take, get_or, inl, inr, Result, Ok, Err, IfErr, String, Global, string_bytes, refl, sym, ap, ◌∙◌, subst, append_assoc, arith}
use Rattle.std.proofs.lemmas.List.{append-nil, map-append, take_more, flat_map_more}
use Rattle.utoipa_base.specs.Docs.{Doc}
use Rattle.utoipa_findings.specs.Sources.{File, IsFileOf, file_of}
use Rattle.utoipa_findings.specs.Told.{Tells, IsRefused}
use Rattle.utoipa_findings.specs.Views.{names_of}
use Rattle.utoipa_findings.specs.declared.refusal.Refusal.{Refusal}
use Rattle.utoipa_findings.specs.declared.refusal.Refusal.TheVariants.{Memory, Told}
use Rattle.utoipa_findings.specs.declared.source.Source.{Source}
use Rattle.utoipa_findings.proofs.ComesBack.{first_none, second_none}
use Rattle.utoipa_findings.proofs.NothingTold.{refused_some}
use Rattle.utoipa_command.specs.Files.{document_kind, file_losses, losses_of, dropped_lines, lost_by_merging, dropped_by_nesting, lost_by_nesting, AreSourcesOf, IsToldOf, AreTold, AreRefused, IsLossy, AreLossy, AreLossyNested}

pub names_are : (ss : List Source) → map (λ f. f.0) (map file_of ss) ≡ names_of ss
names_are [] = refl
names_are (s ∷ ss) = ap (λ ns. s.name.now ∷ ns) (names_are ss)

-- one document more
pub sources_more : (ds : List Doc) (fs : List File) (d : Doc) (f : File) → AreSourcesOf ds fs → IsFileOf document_kind d f → AreSourcesOf (ds ++ d ∷ []) (fs ++ f ∷ [])
sources_more [] [] d f h s = (s, tt)
sources_more [] (g ∷ fs) d f h s = absurd h
sources_more (e ∷ ds) [] d f h s = absurd h
sources_more (e ∷ ds) (g ∷ fs) d f h s = (h.0, sources_more ds fs d f h.1 s)

-- the document of the next file, put behind those of the files before it
pub sources_put : {D : Type 0} (f : D → Doc) (xs ys : List D) (x : D) (ss : List Source) (i : ℕ) (d : Source) → AreSourcesOf (map f xs) (map file_of (take i ss))
    → i < length ss → ys ≡ xs ++ x ∷ [] → IsFileOf document_kind (f x) (file_of (get_or ss i d)) → AreSourcesOf (map f ys) (map file_of (take (i + 1) ss))
sources_put f xs ys x ss i d before less put source =
    let s = get_or ss i d in
    let documents : map f ys ≡ map f xs ++ f x ∷ [] = ap (map f) put ∙ map-append f xs (x ∷ []) in
    let files : map file_of (take (i + 1) ss) ≡ map file_of (take i ss) ++ file_of s ∷ [] = ap (map file_of) (take_more ss i d less) ∙ map-append file_of (take i ss) (s ∷ []) in
    subst (λ es. AreSourcesOf es (map file_of (take (i + 1) ss))) (sym documents)
    (subst (λ gs. AreSourcesOf (map f xs ++ f x ∷ []) gs) (sym files) (sources_more (map f xs) (map file_of (take i ss)) (f x) (file_of s) before source))

-- what is told of one more file
told_more : (fs : List File) (f : File) (told first : List ℕ) → AreTold fs told → IsToldOf f first → AreTold (fs ++ f ∷ []) (told ++ first)
told_more [] f told first none is = (first, [], ap (λ t. t ++ first) none ∙ sym (append-nil first), is, refl)
told_more (g ∷ fs) f told first h is = (h.0, h.1 ++ first, ap (λ t. t ++ first) h.2 ∙ append_assoc h.0 h.1 first, h.3, told_more fs f h.1 first h.4 is)

pub told_put : (ss : List Source) (i : ℕ) (d : Source) (told first after : List ℕ) → i < length ss → AreTold (map file_of (take i ss)) told → IsToldOf (file_of (get_or ss i d)) first
    → after ≡ told ++ first → AreTold (map file_of (take (i + 1) ss)) after
told_put ss i d told first after less h is put =
    let files = ap (map file_of) (take_more ss i d less) ∙ map-append file_of (take i ss) (get_or ss i d ∷ []) in
    subst (λ fs. AreTold fs after) (sym files) (subst (AreTold (map file_of (take i ss) ++ file_of (get_or ss i d) ∷ [])) (sym put) (told_more (map file_of (take i ss)) (file_of (get_or ss i d)) told first h is))

-- what is kept of files while none is refused
abbrev pub AreKept : {D : Type 0} → (D → Doc) → List D → List File → (start lost : List ℕ) → Type 0
AreKept f xs fs start lost = AreSourcesOf (map f xs) fs × (lost ≡ start ++ losses_of fs)

-- of no file
pub none_kept : {D : Type 0} (f : D → Doc) (lost : List ℕ) → AreKept f [] [] lost lost
none_kept f lost = (tt, sym (append-nil lost))

-- what one more file loses
pub losses_put : (ss : List Source) (i : ℕ) (d : Source) (start before after : List ℕ) → i < length ss → before ≡ start ++ losses_of (map file_of (take i ss))
    → after ≡ before ++ file_losses (file_of (get_or ss i d)) → after ≡ start ++ losses_of (map file_of (take (i + 1) ss))
losses_put ss i d start before after less is put =
    let f = file_of (get_or ss i d) in
    let files : map file_of (take (i + 1) ss) ≡ map file_of (take i ss) ++ f ∷ [] = ap (map file_of) (take_more ss i d less) ∙ map-append file_of (take i ss) (get_or ss i d ∷ []) in
    put ∙ ap (λ x. x ++ file_losses f) is ∙ flat_map_more file_losses start (map file_of (take i ss)) f ∙ ap (λ fs. start ++ losses_of fs) (sym files)

-- what is lost of some files, and by merging their documents
pub lost_is : (ss : List Source) (ds es : List Doc) (fresh before dropped lines : List ℕ) → fresh ≡ [] → before ≡ fresh ++ losses_of (map file_of ss) → dropped ≡ dropped_lines (names_of ss) es → es ≡ ds
    → lines ≡ before ++ dropped → lines ≡ lost_by_merging (map file_of ss) ds
lost_is ss ds es fresh before dropped lines none files merging same is =
    let losses = losses_of (map file_of ss) in
    is ∙ ap (λ x. x ++ dropped) (files ∙ ap (λ x. x ++ losses) none) ∙ ap (λ x. losses ++ x) (merging ∙ ap (dropped_lines (names_of ss)) same ∙ ap (λ names. dropped_lines names ds) (sym (names_are ss)))

-- ---- what a refusal tells

-- want of memory tells nothing
pub memory_told : {T : Type 0} (P : List ℕ → Type 0) (r : Result T Refusal) → IfErr r (λ w. w ≡ Memory) → IfErr r (Tells P)
memory_told P (Ok v) is = tt
memory_told P (Err w) is = subst (Tells P) (sym is) tt

-- lines of what would be lost
pub lossy_told : (ss : List Source) (ds : List Doc) (strict : Bool) (lost : List ℕ) (w : Refusal) → AreSourcesOf ds (map file_of ss) → lost ≡ lost_by_merging (map file_of ss) ds
    → Tells (λ told. (strict ≡ true) × (told ≢ []) × (told ≡ lost)) w → Tells (λ told. AreRefused (map file_of ss) told ⊎ ((strict ≡ true) × AreLossy (map file_of ss) told)) w
lossy_told ss ds strict lost Memory reads is h = tt
lossy_told ss ds strict lost (Told lines) reads is h = inr (h.0, record { documents = ds; reads = reads; lines = h.2 ∙ is; some = h.1 })

-- the lines of a refusal that tells them
pub told_lines : (P : List ℕ → Type 0) (w : Refusal) (lines : String Global) → Tells P w → w ≡ Told lines → P (string_bytes lines)
told_lines P w lines h is = subst (Tells P) is h

-- what is lost of two files, and by nesting the document of the second into that of the first
pub nested_lost_is : (base : List ℕ) (own nested : File) (c d : Doc) (fresh before dropped lines : List ℕ) → fresh ≡ [] → before ≡ (fresh ++ file_losses own) ++ file_losses nested
    → dropped ≡ dropped_by_nesting base (own.0 ∷ nested.0 ∷ []) c d → lines ≡ before ++ dropped → lines ≡ lost_by_nesting base own nested c d
nested_lost_is base own nested c d fresh before dropped lines none files nesting is =
    let losses = file_losses own ++ file_losses nested in
    is ∙ ap (λ x. x ++ dropped) (files ∙ ap (λ x. (x ++ file_losses own) ++ file_losses nested) none) ∙ ap (λ x. losses ++ x) nesting

-- what a file loses, alone
pub file_lost_is : (f : File) (fresh before lines : List ℕ) → fresh ≡ [] → before ≡ fresh ++ file_losses f → lines ≡ before → lines ≡ file_losses f
file_lost_is f fresh before lines none is same = same ∙ is ∙ ap (λ x. x ++ file_losses f) none

pub lossy_file_told : (f : File) (d : Doc) (strict : Bool) (lost : List ℕ) (w : Refusal) → IsFileOf document_kind d f → lost ≡ file_losses f
    → Tells (λ told. (strict ≡ true) × (told ≢ []) × (told ≡ lost)) w → Tells (λ told. IsRefused document_kind f told ⊎ ((strict ≡ true) × IsLossy f told)) w
lossy_file_told f d strict lost Memory reads is h = tt
lossy_file_told f d strict lost (Told lines) reads is h = inr (h.0, record { document = d; reads = reads; lines = h.2 ∙ is; some = h.1 })

pub lossy_nested_told : (base : List ℕ) (own nested : File) (c d : Doc) (strict : Bool) (lost : List ℕ) (w : Refusal) → IsFileOf document_kind c own → IsFileOf document_kind d nested
    → lost ≡ lost_by_nesting base own nested c d → Tells (λ told. (strict ≡ true) × (told ≢ []) × (told ≡ lost)) w
    → Tells (λ told. AreRefused (own ∷ nested ∷ []) told ⊎ ((strict ≡ true) × AreLossyNested base own nested told)) w
lossy_nested_told base own nested c d strict lost Memory reads reads_nested is h = tt
lossy_nested_told base own nested c d strict lost (Told lines) reads reads_nested is h =
    inr (h.0, record { own_document = c; reads = reads; nested_document = d; reads_nested = reads_nested; lines = h.2 ∙ is; some = h.1 })

-- of two files the second is refused
pub second_refused_told : (own nested : File) (c : Doc) (w : Refusal) → IsFileOf document_kind c own → Tells (IsRefused document_kind nested) w → Tells (AreRefused (own ∷ nested ∷ [])) w
second_refused_told own nested c Memory reads h = tt
second_refused_told own nested c (Told lines) reads h =
    (([], string_bytes lines, refl, inr ((c, reads), refl), (string_bytes lines, [], sym (append-nil (string_bytes lines)), inl h, refl)), refused_some document_kind nested (string_bytes lines) h)

-- of two files the first is refused, and the second is not
pub first_refused : (own nested : File) (d : Doc) (told : List ℕ) → IsRefused document_kind own told → IsFileOf document_kind d nested → AreRefused (own ∷ nested ∷ []) told
first_refused own nested d told h reads =
    ((told, [], sym (append-nil told), inl h, ([], [], refl, inr ((d, reads), refl), refl)), refused_some document_kind own told h)

-- both are refused
pub both_refused : (own nested : File) (told more all : List ℕ) → IsRefused document_kind own told → IsRefused document_kind nested more → all ≡ told ++ more → AreRefused (own ∷ nested ∷ []) all
both_refused own nested told more all h g is =
    ((told, more, is, inl h, (more, [], sym (append-nil more), inl g, refl)), λ none. refused_some document_kind own told h (first_none told more (sym is ∙ none)))

-- what is refused for one reason of two
pub refused_or : (P Q : List ℕ → Type 0) (w : Refusal) → Tells P w → Tells (λ told. P told ⊎ Q told) w
refused_or P Q Memory h = tt
refused_or P Q (Told lines) h = inl h
