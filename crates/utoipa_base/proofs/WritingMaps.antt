-- A map written or copied entry by entry: what a loop over the entries has done so far, and what it comes to.
use Rattle.std.proofs.Common.{◌≡◌, List, [], ◌∷◌, ◌++◌, sym, ap, ◌∙◌, subst, append_assoc, append-nil, String, Global, BTreeMap, string_bytes, string_cmp}
use Rattle.std.proofs.lemmas.List.{map-append}
use Rattle.std.specs.BTreeMap.{insert_entry}
use Rattle.std.specs.List.Sorted.{IsStrictlySortedBy}
use Rattle.std.specs.Map.{keys_of}
use Rattle.utoipa_base.specs.Docs.{Doc, map_doc, entries_of_list}
use Rattle.utoipa_base.specs.Views.{pairs_of, map_of_docs}
use Rattle.utoipa_base.proofs.Maps.{texts, insert_last}

-- ---- writing

-- ---- copying

-- the entries before `left` have been copied as `es`
pub record MapCopied {T : Type 0} (f : T → Doc) (all left es : List (String Global × T)) : Type 0 where
  pub done : List (String Global × T)
  pub split : all ≡ done ++ left
  pub names : texts es ≡ texts done
  pub docs : pairs_of f es ≡ pairs_of f done

pub copied_begun : {T : Type 0} (f : T → Doc) (all left es : List (String Global × T)) → left ≡ all → es ≡ [] → MapCopied f all left es
copied_begun f all left es whole none = record { done = []; split = sym whole; names = ap texts none; docs = ap (pairs_of f) none }

pub copied_step : {T : Type 0} (f : T → Doc) (all left es fs : List (String Global × T)) (e : String Global × T) (more : List (String Global × T)) (name : String Global) (v : T) → MapCopied f all left es → left ≡ e ∷ more
    → IsStrictlySortedBy string_cmp (keys_of all) → string_bytes name ≡ string_bytes e.0 → f v ≡ f e.1 → fs ≡ insert_entry string_cmp es name v → MapCopied f all more fs
copied_step f all left es fs e more name v so_far rest ordered named same is =
    let whole : all ≡ so_far.done ++ e ∷ more = so_far.split ∙ ap (λ r. so_far.done ++ r) rest in
    let sorted = subst (λ r. IsStrictlySortedBy string_cmp (keys_of r)) whole ordered in
    let last : fs ≡ es ++ (name, v) ∷ [] = is ∙ insert_last es so_far.done e more name v so_far.names sorted named in
    record {
      done = so_far.done ++ e ∷ [];
      split = whole ∙ sym (append_assoc so_far.done (e ∷ []) more);
      names = ap texts last ∙ map-append _ es _ ∙ ap (λ ts. ts ++ string_bytes name ∷ []) so_far.names ∙ ap (λ b. texts so_far.done ++ b ∷ []) named ∙ sym (map-append _ so_far.done (e ∷ []));
      docs = ap (pairs_of f) last ∙ map-append _ es _ ∙ ap (λ ps. ps ++ (string_bytes name, f v) ∷ []) so_far.docs ∙ ap (λ b. pairs_of f so_far.done ++ (b, f v) ∷ []) named
          ∙ ap (λ d. pairs_of f so_far.done ++ (string_bytes e.0, d) ∷ []) same ∙ sym (map-append _ so_far.done (e ∷ []));
    }

pub copied_map : {T : Type 0} (f : T → Doc) (m copy : BTreeMap (String Global) T) (left : List (String Global × T)) → MapCopied f m.entries left copy.entries → left ≡ [] → map_of_docs f copy ≡ map_of_docs f m
copied_map f m copy left so_far none =
    let whole : so_far.done ≡ m.entries = sym (so_far.split ∙ ap (λ r. so_far.done ++ r) none ∙ append-nil so_far.done) in
    ap (λ ps. map_doc (entries_of_list ps)) (so_far.docs ∙ ap (pairs_of f) whole)
