-- Trees that fit, and files whose tree does not.
use Rattle.std.proofs.Common.{◌≡◌, ◌==◌, ◌∙◌, ℕ, List, [], ◌∷◌, Bool, true, false, length, None, Some, Result, Ok, Err, IfErr, string_bytes, refl, sym, ap, subst, true≢false, arith}
use Rattle.std.proofs.lemmas.Bool.{eqb-true}
use Rattle.std.specs.Result.{IsErrAnd}
use Rattle.serde_json.specs.Data.{Data}
use Rattle.utoipa_base.specs.Kinds.{Kind}
use Rattle.utoipa_base.specs.WellFormed.{ReadsAs}
use Rattle.utoipa_findings.specs.Findings.{refusals}
use Rattle.utoipa_findings.specs.Sources.{File, file_tree}
use Rattle.utoipa_findings.specs.Told.{IsTold, IsTreeless, IsUnfit, IsRefused, Tells}
use Rattle.utoipa_findings.specs.declared.refusal.Refusal.{Refusal}
use Rattle.utoipa_findings.specs.declared.refusal.Refusal.TheVariants.{Memory, Told}
use Rattle.utoipa_findings.proofs.Texts.{told_of_tree, unseen}

-- ---- lists that are empty

pub none_there : {X : Type 0} (xs : List X) (n : ℕ) (b : Bool) → b ≡ n == 0 → n ≡ length xs → b ≡ true → xs ≡ []
none_there [] n b test is empty = refl
none_there (x ∷ xs) n b test is empty = let zero : n ≡ 0 = eqb-true n 0 (sym test ∙ empty) in absurd (omega (arith, sym zero ∙ is))

pub some_there : {X : Type 0} (xs : List X) (n : ℕ) (b : Bool) → b ≡ n == 0 → n ≡ length xs → b ≡ false → xs ≡ [] → ⊥
some_there [] n b test is some none = absurd (true≢false (sym (test ∙ ap (λ m. m == 0) is) ∙ some))
some_there (x ∷ xs) n b test is some none = cc

-- ---- files

some_is : {X : Type 0} (x y : X) → Some x ≡ Some y → x ≡ y
some_is x y e = cc

pub refused_of_tree : (k : Kind) (x : File) (told : List ℕ) (t : Data) → file_tree k x ≡ Some t → IsUnfit k x.0 t told → IsRefused k x told
refused_of_tree k x told t has unfit = record {
  none = λ d source. unfit.none d (subst (λ u. ReadsAs k u d) (some_is source.tree t (sym source.has ∙ has)) source.reads);
  lines = told_of_tree (refusals k) k x told t has unfit.lines;
}

none_is : {X : Type 0} (x : X) → None ≡ Some x → ⊥
none_is x e = cc

pub refused_of_none : (k : Kind) (x : File) (told : List ℕ) → IsTreeless x told → IsRefused k x told
refused_of_none k x told treeless = record {
  none = λ d source. absurd (none_is source.tree (sym (unseen k x treeless.0) ∙ source.has));
  lines = subst (λ o. IsTold (refusals k) x o told) (sym (unseen k x treeless.0)) treeless.1;
}

pub told_of_unfit : (k : Kind) (x : File) (t : Data) (w : Refusal) → file_tree k x ≡ Some t → Tells (IsUnfit k x.0 t) w → Tells (IsRefused k x) w
told_of_unfit k x t Memory has h = tt
told_of_unfit k x t (Told lines) has h = refused_of_tree k x (string_bytes lines) t has h

pub told_of_none : (k : Kind) (x : File) (w : Refusal) → Tells (IsTreeless x) w → Tells (IsRefused k x) w
told_of_none k x Memory h = tt
told_of_none k x (Told lines) h = refused_of_none k x (string_bytes lines) h

-- a refusal that `?` passes on
pub passed_on : {T E : Type 0} (P : E → Type 0) (r : Result T E) (w : E) → IsErrAnd r (λ v. v ≡ w) → P w → IfErr r P
passed_on P (Ok v) w is h = tt
passed_on P (Err v) w is h = subst P (sym is) h
