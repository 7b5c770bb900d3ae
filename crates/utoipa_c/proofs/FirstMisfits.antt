-- The refusal of a text by the first misfit of its tree.
use Rattle.std.proofs.Common.{◌≡◌, ◌++◌, ◌&&◌, inl, inr, ℕ, List, [], ◌∷◌, true, false, not, if◌then◌else◌, None, Some, is_some, refl, sym, ap, subst, ◌∙◌, true≢false}
use Rattle.serde_json.specs.Data.{Data}
use Rattle.serde_json.specs.Written.{has_float}
use Rattle.utoipa_base.specs.Docs.{Doc}
use Rattle.utoipa_base.specs.Kinds as kinds
use Rattle.utoipa_base.specs.Reading.{read}
use Rattle.utoipa_check.specs.Misfits.{Cause, absent, expected, unknown_word, no_alternative, unknown_name, fraction, Misfit, Misfits, is_fit, is_fraction, misfits, fractions, without_fractions, misfits_and_fractions}
use Rattle.utoipa_check.specs.Located.{IsNoDocument}
use Rattle.utoipa_check.proofs.Exact.{fractions_exact}
use Rattle.utoipa_check.proofs.Sound.{misfits_and_fractions_exact}
use Rattle.utoipa_findings.specs.Sources.{tree_of}
use Rattle.utoipa_command.specs.Answers.{IsCause, IsCauseOfText, IsOtherText, HasNoDocument, HasNoTree, HasFraction, HasNone, HasOtherCount, input_kind}
use Rattle.utoipa_command.specs.Commands.{Request}
use Rattle.utoipa_command.specs.declared.refusal.Refusal.{Refusal}
use Rattle.utoipa_command.specs.declared.refusal.Refusal.TheVariants.{Memory, Read, Write, Text, Fraction, Missing, Kind as NoKind, Word, Alternative, Empty, Count}
use Rattle.utoipa_c.specs.Causes.{refusal_of, first_or, is_of_misfit, IsToldFirst}
use Rattle.utoipa_c.specs.Codes.{code_of, SaysFirst, IsForFirstMisfit}

-- ---- the first misfit of a plain tree is no fraction

of_first : (w : Refusal) (m : Misfit) (c : Cause) (ms : Misfits) → m.1 ≡ c → is_of_misfit (first_or w (ms ++ [])) ≡ true → is_of_misfit (first_or w ((if is_fraction c then ms else m ∷ ms) ++ [])) ≡ true
of_first w m (absent name) ms is rest = ap (λ c. is_of_misfit (refusal_of c)) is
of_first w m (expected k) ms is rest = ap (λ c. is_of_misfit (refusal_of c)) is
of_first w m (unknown_word ws) ms is rest = ap (λ c. is_of_misfit (refusal_of c)) is
of_first w m (no_alternative ks) ms is rest = ap (λ c. is_of_misfit (refusal_of c)) is
of_first w m (unknown_name ns) ms is rest = ap (λ c. is_of_misfit (refusal_of c)) is
of_first w m fraction ms is rest = rest

of_others : (w : Refusal) → is_of_misfit w ≡ true → (ms : Misfits) → is_of_misfit (first_or w (without_fractions ms ++ [])) ≡ true
of_others w of [] = of
of_others w of (m ∷ ms) = of_first w m m.1 (without_fractions ms) refl (of_others w of ms)

no_misfits : (ms : Misfits) → is_fit ms ≡ true → ms ≡ []
no_misfits [] fit = refl
no_misfits (m ∷ ms) fit = absurd (true≢false (sym fit))

of_plain : (k : kinds.Kind) (t : Data) (w : Refusal) → has_float t ≡ false → is_of_misfit w ≡ true → is_of_misfit (first_or w (misfits_and_fractions k t)) ≡ true
of_plain k t w plain of =
    ap (λ fs. is_of_misfit (first_or w (without_fractions (misfits k t) ++ fs))) (no_misfits (fractions t) (fractions_exact t ∙ ap not plain)) ∙ of_others w of (misfits k t)

-- ---- why a text is refused still

cause_of_misfit : (k : kinds.Kind) (text : List ℕ) (w : Refusal) → is_of_misfit w ≡ true → IsOtherText k text → IsCauseOfText k text w
cause_of_misfit k text Memory of other = absurd (true≢false (sym of))
cause_of_misfit k text Read of other = absurd (true≢false (sym of))
cause_of_misfit k text Write of other = absurd (true≢false (sym of))
cause_of_misfit k text Text of other = absurd (true≢false (sym of))
cause_of_misfit k text Fraction of other = absurd (true≢false (sym of))
cause_of_misfit k text Missing of other = other
cause_of_misfit k text NoKind of other = other
cause_of_misfit k text Word of other = other
cause_of_misfit k text Alternative of other = other
cause_of_misfit k text Empty of other = absurd (true≢false (sym of))
cause_of_misfit k text Count of other = absurd (true≢false (sym of))

told_cause : (k : kinds.Kind) (text : List ℕ) (w v : Refusal) → is_of_misfit w ≡ true → IsOtherText k text → IsToldFirst k text w v → IsCauseOfText k text v
told_cause k text w v of other (inl memory) = subst (IsCauseOfText k text) (sym memory) tt
told_cause k text w v of (t, has, plain, none) (inr told) =
    subst (IsCauseOfText k text) (sym (told t has)) (cause_of_misfit k text (first_or w (misfits_and_fractions k t)) (of_plain k t w plain of) (t, has, plain, none))

-- ---- and by which code

says_first : (w : Refusal) (ms : Misfits) → is_fit ms ≡ false → SaysFirst ms (code_of (first_or w ms))
says_first w [] none = absurd (true≢false none)
says_first w (m ∷ ms) none = refl

unread : (k : kinds.Kind) (t : Data) → IsNoDocument k t → is_fit (misfits_and_fractions k t) ≡ false
unread k t (plain, none) = misfits_and_fractions_exact k t ∙ ap (λ o. is_some o && not (has_float t)) none

told_first : (k : kinds.Kind) (text : List ℕ) (w v : Refusal) → IsToldFirst k text w v → IsForFirstMisfit k text (code_of v)
told_first k text w v (inl memory) t has unfit other = absurd (other (ap code_of memory))
told_first k text w v (inr told) t has unfit other = subst (λ x. SaysFirst (misfits_and_fractions k t) (code_of x)) (sym (told t has)) (says_first w (misfits_and_fractions k t) (unread k t unfit))

-- ---- a refusal that is for no misfit is of no text that has a plain tree and no document

no_text : (k : kinds.Kind) (text : List ℕ) (code : ℕ) → HasNoTree text → IsForFirstMisfit k text code
no_text k text code none t has unfit other = let both : None ≡ Some t = sym none ∙ has in cc

with_fraction : (k : kinds.Kind) (text : List ℕ) (code : ℕ) → HasFraction text → IsForFirstMisfit k text code
with_fraction k text code (u, has_u, float) t has unfit other =
    let same : Some u ≡ Some t = sym has_u ∙ has in
    let is : u ≡ t = cc in
    absurd (true≢false (sym float ∙ ap has_float is ∙ unfit.0))

is_read : (k : kinds.Kind) (text : List ℕ) (code : ℕ) (u : Data) (d : Doc) → tree_of text ≡ Some u → read k u ≡ Some d → IsForFirstMisfit k text code
is_read k text code u d has_u reads t has unfit other =
    let same : Some u ≡ Some t = sym has_u ∙ has in
    let is : u ≡ t = cc in
    let both : None ≡ Some d = sym unfit.1 ∙ ap (read k) (sym is) ∙ reads in
    cc

for_memory : (k : kinds.Kind) (text : List ℕ) → IsForFirstMisfit k text 2
for_memory k text t has unfit other = absurd (other refl)

-- ---- a text that is to be a document of a kind

pub text_cause : (k : kinds.Kind) (text : List ℕ) (w v : Refusal) → (is_of_misfit w ≡ false → v ≡ w) → (is_of_misfit w ≡ true → IsToldFirst k text w v) → IsCauseOfText k text w → IsCauseOfText k text v
text_cause k text Memory v same told cause = subst (IsCauseOfText k text) (sym (same refl)) cause
text_cause k text Read v same told cause = absurd cause
text_cause k text Write v same told cause = absurd cause
text_cause k text Text v same told cause = subst (IsCauseOfText k text) (sym (same refl)) cause
text_cause k text Fraction v same told cause = subst (IsCauseOfText k text) (sym (same refl)) cause
text_cause k text Missing v same told cause = told_cause k text Missing v refl cause (told refl)
text_cause k text NoKind v same told cause = told_cause k text NoKind v refl cause (told refl)
text_cause k text Word v same told cause = told_cause k text Word v refl cause (told refl)
text_cause k text Alternative v same told cause = told_cause k text Alternative v refl cause (told refl)
text_cause k text Empty v same told cause = absurd cause
text_cause k text Count v same told cause = absurd cause

pub text_first : (k : kinds.Kind) (text : List ℕ) (w v : Refusal) → (is_of_misfit w ≡ false → v ≡ w) → (is_of_misfit w ≡ true → IsToldFirst k text w v) → IsCauseOfText k text w → IsForFirstMisfit k text (code_of v)
text_first k text Memory v same told cause = subst (λ x. IsForFirstMisfit k text (code_of x)) (sym (same refl)) (for_memory k text)
text_first k text Read v same told cause = absurd cause
text_first k text Write v same told cause = absurd cause
text_first k text Text v same told cause = no_text k text (code_of v) cause
text_first k text Fraction v same told cause = with_fraction k text (code_of v) cause
text_first k text Missing v same told cause = told_first k text Missing v (told refl)
text_first k text NoKind v same told cause = told_first k text NoKind v (told refl)
text_first k text Word v same told cause = told_first k text Word v (told refl)
text_first k text Alternative v same told cause = told_first k text Alternative v (told refl)
text_first k text Empty v same told cause = absurd cause
text_first k text Count v same told cause = absurd cause

-- ---- a text that is given to a command

no_document : (r : Request) (text : List ℕ) → IsOtherText (input_kind r) text → HasNoDocument r text
no_document r text (t, has, plain, none) = (t, has, (plain, none))

other_text : (r : Request) (text : List ℕ) → HasNoDocument r text → IsOtherText (input_kind r) text
other_text r text (t, has, (plain, none)) = (t, has, plain, none)

of_command : (r : Request) (text : List ℕ) (w : Refusal) → IsCauseOfText (input_kind r) text w → IsCause r text w
of_command r text Memory cause = tt
of_command r text Read cause = cause
of_command r text Write cause = cause
of_command r text Text cause = cause
of_command r text Fraction cause = cause
of_command r text Missing cause = no_document r text cause
of_command r text NoKind cause = no_document r text cause
of_command r text Word cause = no_document r text cause
of_command r text Alternative cause = no_document r text cause
of_command r text Empty cause = absurd cause
of_command r text Count cause = absurd cause

pub command_cause : (r : Request) (text : List ℕ) (w v : Refusal) → (is_of_misfit w ≡ false → v ≡ w) → (is_of_misfit w ≡ true → IsToldFirst (input_kind r) text w v) → IsCause r text w → IsCause r text v
command_cause r text Memory v same told cause = subst (IsCause r text) (sym (same refl)) cause
command_cause r text Read v same told cause = absurd cause
command_cause r text Write v same told cause = absurd cause
command_cause r text Text v same told cause = subst (IsCause r text) (sym (same refl)) cause
command_cause r text Fraction v same told cause = subst (IsCause r text) (sym (same refl)) cause
command_cause r text Missing v same told cause = of_command r text v (told_cause (input_kind r) text Missing v refl (other_text r text cause) (told refl))
command_cause r text NoKind v same told cause = of_command r text v (told_cause (input_kind r) text NoKind v refl (other_text r text cause) (told refl))
command_cause r text Word v same told cause = of_command r text v (told_cause (input_kind r) text Word v refl (other_text r text cause) (told refl))
command_cause r text Alternative v same told cause = of_command r text v (told_cause (input_kind r) text Alternative v refl (other_text r text cause) (told refl))
command_cause r text Empty v same told cause = subst (IsCause r text) (sym (same refl)) cause
command_cause r text Count v same told cause = subst (IsCause r text) (sym (same refl)) cause

with_none : (r : Request) (text : List ℕ) (code : ℕ) → HasNone r text → IsForFirstMisfit (input_kind r) text code
with_none r text code (u, has, (plain, (input, reads, empty))) = is_read (input_kind r) text code u input has reads

with_other_count : (r : Request) (text : List ℕ) (code : ℕ) → HasOtherCount r text → IsForFirstMisfit (input_kind r) text code
with_other_count r text code (u, has, (plain, (input, reads, count))) = is_read (input_kind r) text code u input has reads

pub command_first : (r : Request) (text : List ℕ) (w v : Refusal) → (is_of_misfit w ≡ false → v ≡ w) → (is_of_misfit w ≡ true → IsToldFirst (input_kind r) text w v) → IsCause r text w → IsForFirstMisfit (input_kind r) text (code_of v)
command_first r text Memory v same told cause = subst (λ x. IsForFirstMisfit (input_kind r) text (code_of x)) (sym (same refl)) (for_memory (input_kind r) text)
command_first r text Read v same told cause = absurd cause
command_first r text Write v same told cause = absurd cause
command_first r text Text v same told cause = no_text (input_kind r) text (code_of v) cause
command_first r text Fraction v same told cause = with_fraction (input_kind r) text (code_of v) cause
command_first r text Missing v same told cause = told_first (input_kind r) text Missing v (told refl)
command_first r text NoKind v same told cause = told_first (input_kind r) text NoKind v (told refl)
command_first r text Word v same told cause = told_first (input_kind r) text Word v (told refl)
command_first r text Alternative v same told cause = told_first (input_kind r) text Alternative v (told refl)
command_first r text Empty v same told cause = with_none r text (code_of v) cause
command_first r text Count v same told cause = with_other_count r text (code_of v) cause
