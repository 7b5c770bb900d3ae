-- Each outcome comes exactly where it is due.
use Rattle.std.proofs.Common.{◌≡◌, ◌≢◌, ℕ, List, length, false, if◌then◌else◌, Option, Some, None, refl, sym, ap, ◌∙◌, subst}
use Rattle.serde_json.specs.Data.{Data}
use Rattle.serde_json.specs.Written.{has_float}
use Rattle.utoipa_base.specs.Docs.{Doc}
use Rattle.utoipa_findings.specs.Sources.{tree_of}
use Rattle.utoipa_command.specs.Answers.{input_of, AnswersInput, IsTreeOf, IsEmptyInput, IsMiscounted, HasAnswer, HasTree, HasNoDocument, HasNoTree, HasFraction, IsCause}
use Rattle.utoipa_command.specs.Commands.{Request, server, schema, document, merge, nest}
use Rattle.utoipa_command.specs.Runs.{IsExact, IsFault, IsNoDocument}
use Rattle.utoipa_command.specs.declared.command.Outcome.TheVariants.{Done, Refused}
use Rattle.utoipa_command.specs.declared.refusal.Refusal.{Refusal}
use Rattle.utoipa_command.specs.declared.refusal.Refusal.TheVariants.{Memory, Read, Write, Text, Fraction, Missing, Kind, Word, Alternative, Empty, Count}

-- ---- what a request finds in the bytes

data Finding : Type 0 where
  no_tree fractional other : Finding
  input : Doc → Finding

abbrev by_input : Option Doc → Finding
by_input None = other
by_input (Some d) = input d

abbrev by_tree : Request → Option Data → Finding
by_tree r None = no_tree
by_tree r (Some t) = if has_float t then fractional else by_input (input_of r t)

abbrev finding : Request → List ℕ → Finding
finding r bytes = by_tree r (tree_of bytes)

of_no_tree : (r : Request) (bytes : List ℕ) → HasNoTree bytes → finding r bytes ≡ no_tree
of_no_tree r bytes n = ap (by_tree r) n

of_fraction : (r : Request) (bytes : List ℕ) → HasFraction bytes → finding r bytes ≡ fractional
of_fraction r bytes (t, e, h) = ap (by_tree r) e ∙ ap (λ b. if b then fractional else by_input (input_of r t)) h

of_plain : (r : Request) (bytes : List ℕ) (t : Data) → tree_of bytes ≡ Some t → has_float t ≡ false → finding r bytes ≡ by_input (input_of r t)
of_plain r bytes t e h = ap (by_tree r) e ∙ ap (λ b. if b then fractional else by_input (input_of r t)) h

of_no_document : (r : Request) (bytes : List ℕ) → HasNoDocument r bytes → finding r bytes ≡ other
of_no_document r bytes (t, e, (h, n)) = of_plain r bytes t e h ∙ ap by_input n

-- the bytes have an input that P holds of
abbrev Has : (Request → Doc → Type 0) → Request → List ℕ → Type 0
Has P r bytes = HasTree (IsTreeOf P) r bytes

of_input : (P : Request → Doc → Type 0) (r : Request) (bytes : List ℕ) → Has P r bytes → (d : Doc) × (finding r bytes ≡ input d) × P r d
of_input P r bytes (t, e, (h, (d, is, p))) = (d, of_plain r bytes t e h ∙ ap by_input is, p)

-- ---- no two findings go together

-- the input has an answer
abbrev IsAnswered : Request → Doc → Type 0
IsAnswered r d = (answer : Doc) × AnswersInput r d answer

has_input : (r : Request) (bytes : List ℕ) → HasAnswer r bytes → Has IsAnswered r bytes
has_input r bytes (line, a) =
    let b = a.answers in
    (a.tree, a.has, (b.plain, (b.input, b.reads, (b.answer, b.answers))))

no_tree-fraction : (r : Request) (bytes : List ℕ) → HasNoTree bytes → HasFraction bytes → ⊥
no_tree-fraction r bytes n f = let e = sym (of_no_tree r bytes n) ∙ of_fraction r bytes f in cc

no_tree-no_document : (r : Request) (bytes : List ℕ) → HasNoTree bytes → HasNoDocument r bytes → ⊥
no_tree-no_document r bytes n f = let e = sym (of_no_tree r bytes n) ∙ of_no_document r bytes f in cc

fraction-no_document : (r : Request) (bytes : List ℕ) → HasFraction bytes → HasNoDocument r bytes → ⊥
fraction-no_document r bytes n f = let e = sym (of_fraction r bytes n) ∙ of_no_document r bytes f in cc

no_tree-has : (P : Request → Doc → Type 0) (r : Request) (bytes : List ℕ) → HasNoTree bytes → Has P r bytes → ⊥
no_tree-has P r bytes n h = let e = sym (of_no_tree r bytes n) ∙ (of_input P r bytes h).1 in cc

fraction-has : (P : Request → Doc → Type 0) (r : Request) (bytes : List ℕ) → HasFraction bytes → Has P r bytes → ⊥
fraction-has P r bytes n h = let e = sym (of_fraction r bytes n) ∙ (of_input P r bytes h).1 in cc

no_document-has : (P : Request → Doc → Type 0) (r : Request) (bytes : List ℕ) → HasNoDocument r bytes → Has P r bytes → ⊥
no_document-has P r bytes n h = let e = sym (of_no_document r bytes n) ∙ (of_input P r bytes h).1 in cc

same_input : (d e : Doc) → input d ≡ input e → d ≡ e
same_input d e h = cc

has-has : (P Q : Request → Doc → Type 0) (r : Request) (bytes : List ℕ) → ((d : Doc) → P r d → Q r d → ⊥) → Has P r bytes → Has Q r bytes → ⊥
has-has P Q r bytes apart p q =
    let f = of_input P r bytes p in
    let g = of_input Q r bytes q in
    apart g.0 (subst (P r) (same_input f.0 g.0 (sym f.1 ∙ g.1)) f.2) g.2

answered-empty : (r : Request) (d : Doc) → IsAnswered r d → IsEmptyInput r d → ⊥
answered-empty server d a n = n
answered-empty schema d a n = n
answered-empty document d a n = n
answered-empty merge d (answer, (m, o)) n = let e = m.fixed in cc
answered-empty (nest base) d a n = n

answered-miscounted : (r : Request) (d : Doc) → IsAnswered r d → IsMiscounted r d → ⊥
answered-miscounted server d a n = n
answered-miscounted schema d a n = n
answered-miscounted document d a n = n
answered-miscounted merge d a n = n
answered-miscounted (nest base) d (answer, (own, nested, two, o)) n = n (ap length two)

empty-miscounted : (r : Request) (d : Doc) → IsEmptyInput r d → IsMiscounted r d → ⊥
empty-miscounted server d e n = n
empty-miscounted schema d e n = n
empty-miscounted document d e n = n
empty-miscounted merge d e n = n
empty-miscounted (nest base) d e n = e

-- ---- each outcome

pub exact_done : (r : Request) (bytes : List ℕ) → HasAnswer r bytes → IsExact r bytes Done
exact_done r bytes h =
    let a = has_input r bytes h in
    record {
      done = (λ _. h, λ _. refl);
      text = (λ e. cc, λ n. absurd (no_tree-has IsAnswered r bytes n a));
      fraction = (λ e. cc, λ n. absurd (fraction-has IsAnswered r bytes n a));
      no_document = (λ e. absurd e, λ n. no_document-has IsAnswered r bytes n a);
      empty = (λ e. cc, λ n. absurd (has-has IsAnswered IsEmptyInput r bytes (answered-empty r) a n));
      count = (λ e. cc, λ n. absurd (has-has IsAnswered IsMiscounted r bytes (answered-miscounted r) a n));
    }

exact_no_document : (r : Request) (bytes : List ℕ) (w : Refusal) → IsNoDocument (Refused w)
    → Refused w ≢ Refused Text → Refused w ≢ Refused Fraction → Refused w ≢ Refused Empty → Refused w ≢ Refused Count
    → HasNoDocument r bytes → IsExact r bytes (Refused w)
exact_no_document r bytes w is not_text not_fraction not_empty not_count h = record {
  done = (λ e. cc, λ a. absurd (no_document-has IsAnswered r bytes h (has_input r bytes a)));
  text = (λ e. absurd (not_text e), λ n. absurd (no_tree-no_document r bytes n h));
  fraction = (λ e. absurd (not_fraction e), λ n. absurd (fraction-no_document r bytes n h));
  no_document = (λ _. h, λ _. is);
  empty = (λ e. absurd (not_empty e), λ n. absurd (no_document-has IsEmptyInput r bytes h n));
  count = (λ e. absurd (not_count e), λ n. absurd (no_document-has IsMiscounted r bytes h n));
}

pub exact_refused : (r : Request) (bytes : List ℕ) (w : Refusal) → ¬ IsFault (Refused w) → IsCause r bytes w → IsExact r bytes (Refused w)
exact_refused r bytes Memory n h = absurd (n tt)
exact_refused r bytes Read n h = absurd h
exact_refused r bytes Write n h = absurd h
exact_refused r bytes Text n h = record {
  done = (λ e. cc, λ a. absurd (no_tree-has IsAnswered r bytes h (has_input r bytes a)));
  text = (λ _. h, λ _. refl);
  fraction = (λ e. cc, λ f. absurd (no_tree-fraction r bytes h f));
  no_document = (λ e. absurd e, λ m. no_tree-no_document r bytes h m);
  empty = (λ e. cc, λ m. absurd (no_tree-has IsEmptyInput r bytes h m));
  count = (λ e. cc, λ m. absurd (no_tree-has IsMiscounted r bytes h m));
}
exact_refused r bytes Fraction n h = record {
  done = (λ e. cc, λ a. absurd (fraction-has IsAnswered r bytes h (has_input r bytes a)));
  text = (λ e. cc, λ m. absurd (no_tree-fraction r bytes m h));
  fraction = (λ _. h, λ _. refl);
  no_document = (λ e. absurd e, λ m. fraction-no_document r bytes h m);
  empty = (λ e. cc, λ m. absurd (fraction-has IsEmptyInput r bytes h m));
  count = (λ e. cc, λ m. absurd (fraction-has IsMiscounted r bytes h m));
}
exact_refused r bytes Missing n h = exact_no_document r bytes Missing tt (λ e. cc) (λ e. cc) (λ e. cc) (λ e. cc) h
exact_refused r bytes Kind n h = exact_no_document r bytes Kind tt (λ e. cc) (λ e. cc) (λ e. cc) (λ e. cc) h
exact_refused r bytes Word n h = exact_no_document r bytes Word tt (λ e. cc) (λ e. cc) (λ e. cc) (λ e. cc) h
exact_refused r bytes Alternative n h = exact_no_document r bytes Alternative tt (λ e. cc) (λ e. cc) (λ e. cc) (λ e. cc) h
exact_refused r bytes Empty n h = record {
  done = (λ e. cc, λ a. absurd (has-has IsAnswered IsEmptyInput r bytes (answered-empty r) (has_input r bytes a) h));
  text = (λ e. cc, λ m. absurd (no_tree-has IsEmptyInput r bytes m h));
  fraction = (λ e. cc, λ m. absurd (fraction-has IsEmptyInput r bytes m h));
  no_document = (λ e. absurd e, λ m. no_document-has IsEmptyInput r bytes m h);
  empty = (λ _. h, λ _. refl);
  count = (λ e. cc, λ m. absurd (has-has IsEmptyInput IsMiscounted r bytes (empty-miscounted r) h m));
}
exact_refused r bytes Count n h = record {
  done = (λ e. cc, λ a. absurd (has-has IsAnswered IsMiscounted r bytes (answered-miscounted r) (has_input r bytes a) h));
  text = (λ e. cc, λ m. absurd (no_tree-has IsMiscounted r bytes m h));
  fraction = (λ e. cc, λ m. absurd (fraction-has IsMiscounted r bytes m h));
  no_document = (λ e. absurd e, λ m. no_document-has IsMiscounted r bytes m h);
  empty = (λ e. cc, λ m. absurd (has-has IsEmptyInput IsMiscounted r bytes (empty-miscounted r) m h));
  count = (λ _. h, λ _. refl);
}
