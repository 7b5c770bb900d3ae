-- Mentions that were put behind a step, what was mentioned at places, joined, and the references that mentions become.
use Rattle.std.proofs.Common.{◌≡◌, List, [], ◌∷◌, ◌++◌, map, reverse, refl, sym, ap, ◌∙◌, append_assoc}
use Rattle.std.proofs.lemmas.List.{map-append, reverse-append}
use Rattle.utoipa_check.specs.Mentioned.{joined}
use Rattle.utoipa_check.specs.Misfits.{Step}
use Rattle.serde_json.specs.Data.{Data}
use Rattle.utoipa_check.specs.ReferenceViews.{way_of, mention_of, mentions_of, mentioned_of, stacked_mentioned, state_of, reference_of, references_of}
use Rattle.utoipa_check.specs.References as specs
use Rattle.utoipa_check.specs.References.{under, referring}
use Rattle.utoipa_check.specs.Referring.{state}
use Rattle.utoipa_check.specs.Views.{step_of, outwards}
use Rattle.utoipa_check.specs.declared.mention.Mention.{Mention}
use Rattle.utoipa_check.specs.declared.mention.Mentioned.{Mentioned}
use Rattle.utoipa_check.specs.declared.misfit.Step as program
use Rattle.utoipa_check.specs.declared.references.Reference.{Reference}
use Rattle.utoipa_check.proofs.Steps.{outwards_last}

pub mentions_of_join : (xs ys : List Mention) → mentions_of (xs ++ ys) ≡ mentions_of xs ++ mentions_of ys
mentions_of_join [] ys = refl
mentions_of_join (x ∷ xs) ys = ap (λ ms. mention_of x ∷ ms) (mentions_of_join xs ys)

under_join : (s : Step) (xs ys : specs.Mentions) → under s (xs ++ ys) ≡ under s xs ++ under s ys
under_join s [] ys = refl
under_join s (x ∷ xs) ys = ap (λ ms. (s ∷ x.0, x.1) ∷ ms) (under_join s xs ys)

-- one more text behind a step
pub put_first : (xs ys : List Mention) (m : Mention) (ss : List program.Step) (s : program.Step) → m.pointer.steps.items ≡ ss ++ s ∷ [] → ss ≡ [] → ys ≡ xs ++ m ∷ []
    → mentions_of ys ≡ mentions_of xs ++ specs.mention (step_of s) (way_of m.way) m.text.now
put_first xs ys m ss s steps none put =
    let made : mention_of m ≡ (step_of s ∷ [], (way_of m.way, m.text.now)) = ap (λ r. (outwards r [], (way_of m.way, m.text.now))) (steps ∙ ap (λ r. r ++ s ∷ []) none) in
    ap mentions_of put ∙ mentions_of_join xs (m ∷ []) ∙ ap (λ r. mentions_of xs ++ r ∷ []) made

-- one more mention, with a step more
pub put_one : (xs ys start yielded : List Mention) (m n : Mention) (s : program.Step) → mentions_of xs ≡ mentions_of start ++ under (step_of s) (mentions_of yielded) → n.pointer.steps.items ≡ m.pointer.steps.items ++ s ∷ [] → n.way ≡ m.way → n.text ≡ m.text → ys ≡ xs ++ n ∷ []
    → mentions_of ys ≡ mentions_of start ++ under (step_of s) (mentions_of (yielded ++ m ∷ []))
put_one xs ys start yielded m n s before stepped same_way same_text pushed =
    let moved : mention_of n ≡ (step_of s ∷ outwards m.pointer.steps.items [], (way_of m.way, m.text.now)) =
    ap (λ r. (outwards r [], (way_of n.way, n.text.now))) stepped ∙ ap (λ w. (outwards (m.pointer.steps.items ++ s ∷ []) [], (way_of w, n.text.now))) same_way ∙ ap (λ t. (outwards (m.pointer.steps.items ++ s ∷ []) [], (way_of m.way, t.now))) same_text ∙ ap (λ r. (r, (way_of m.way, m.text.now))) (outwards_last m.pointer.steps.items s [])
    in
    ap mentions_of pushed ∙ mentions_of_join xs (n ∷ []) ∙ ap (λ r. r ++ mention_of n ∷ []) before ∙ append_assoc (mentions_of start) (under (step_of s) (mentions_of yielded)) (mention_of n ∷ [])
    ∙ ap (λ r. mentions_of start ++ (under (step_of s) (mentions_of yielded) ++ r ∷ [])) moved
    ∙ ap (λ r. mentions_of start ++ r) (sym (ap (under (step_of s)) (mentions_of_join yielded (m ∷ [])) ∙ under_join (step_of s) (mentions_of yielded) (mentions_of (m ∷ []))))

-- ---- what was mentioned at places

pub stacked_mentioned_last : (xs : List Mentioned) (x : Mentioned) → stacked_mentioned (xs ++ x ∷ []) ≡ mentioned_of x ∷ stacked_mentioned xs
stacked_mentioned_last xs x = ap reverse (map-append mentioned_of xs (x ∷ [])) ∙ reverse-append (map mentioned_of xs) (mentioned_of x ∷ [])

pub joined_step : (left more : List Mentioned) (o : Mentioned) (found new : List Mention) (all : specs.Mentions) → mentions_of found ++ joined (stacked_mentioned left) ≡ all → left ≡ more ++ o ∷ []
    → mentions_of new ≡ mentions_of found ++ under (step_of o.step) (mentions_of o.mentions.items) → mentions_of new ++ joined (stacked_mentioned more) ≡ all
joined_step left more o found new all so_far last put =
    ap (λ ms. ms ++ joined (stacked_mentioned more)) put ∙ append_assoc (mentions_of found) (under (step_of o.step) (mentions_of o.mentions.items)) (joined (stacked_mentioned more))
    ∙ ap (λ os. mentions_of found ++ joined os) (sym (ap stacked_mentioned last ∙ stacked_mentioned_last more o)) ∙ so_far

-- ---- what has become of what was mentioned

references_of_join : (xs ys : List Reference) → references_of (xs ++ ys) ≡ references_of xs ++ references_of ys
references_of_join [] ys = refl
references_of_join (x ∷ xs) ys = ap (λ rs. reference_of x ∷ rs) (references_of_join xs ys)

-- one more reference
pub reference_put : (xs ys : List Reference) (yielded : List Mention) (m : Mention) (r : Reference) (d : Data) → references_of xs ≡ map (referring d) (mentions_of yielded) → r.pointer ≡ m.pointer → r.way ≡ m.way → r.text ≡ m.text
    → state_of r.state ≡ state (way_of m.way) m.text.now d → ys ≡ xs ++ r ∷ [] → references_of ys ≡ map (referring d) (mentions_of (yielded ++ m ∷ []))
reference_put xs ys yielded m r d before same_pointer same_way same_text led put =
    let made : reference_of r ≡ referring d (mention_of m) =
    ap (λ p. ((outwards p.steps.items [], (way_of r.way, r.text.now)), state_of r.state)) same_pointer ∙ ap (λ w. ((outwards m.pointer.steps.items [], (way_of w, r.text.now)), state_of r.state)) same_way
    ∙ ap (λ t. ((outwards m.pointer.steps.items [], (way_of m.way, t.now)), state_of r.state)) same_text ∙ ap (λ s. ((outwards m.pointer.steps.items [], (way_of m.way, m.text.now)), s)) led
    in
    ap references_of put ∙ references_of_join xs (r ∷ []) ∙ ap (λ rs. rs ++ reference_of r ∷ []) before ∙ ap (λ x. map (referring d) (mentions_of yielded) ++ x ∷ []) made
    ∙ sym (ap (map (referring d)) (mentions_of_join yielded (m ∷ [])) ∙ map-append (referring d) (mentions_of yielded) (mention_of m ∷ []))
