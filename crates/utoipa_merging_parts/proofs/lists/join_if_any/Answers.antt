use Rattle.std.proofs.Common.{◌≡◌, ◌∙◌, map, ap, sym, subst}
use Rattle.utoipa_merging_parts.specs.Lists.{IsSound, joined_docs, entry_doc}
use Rattle.utoipa_merging.specs.Rules.{AreNew}
use Rattle.utoipa_merging_parts.proofs.Joining.{none_sound, joined_with}
use Rattle.utoipa_merging_parts.proofs.PlainItems.{list_plain}
use Rattle.utoipa_merging_parts.proofs.lists.join_if_any.Goals as goal
use Rattle.utoipa_merging_parts.proofs.lists.join_if_any.Goals.{in-Some-joined, in-None}

pub with_entries-requires-clause-sound : goal.with_entries-requires-clause-sound
with_entries-requires-clause-sound g c =
    elim c.match-joined.branch [
      | in-Some-joined w ↦ subst (IsSound g.T.Documented.doc) (sym w.joined-is) (c.requires.sound _ w.in-Some-joined.is)
      | in-None w ↦ none_sound g.T.Documented.doc c.match-joined.joined (ap (λ j. j.entries.items) w.joined-is ∙ w.new.ensures.items)
    ]

pub returns-clause-sound : goal.returns-clause-sound
returns-clause-sound g c = λ all same. let is : c.in_ok-with_entries.field-0 ≡ all = cc in subst (IsSound g.T.Documented.doc) is c.in_ok-with_entries.ensures.sound

pub returns-clause-joined : goal.returns-clause-joined
returns-clause-joined g c =
    let f = g.T.Documented.doc in
    let docs : map f c.match-joined.joined.entries.items ≡ joined_docs f c.args.joined =
    elim c.match-joined.branch [
      | in-Some-joined w ↦ ap (λ j. map f j.entries.items) w.joined-is ∙ ap (joined_docs f) (sym w.in-Some-joined.is)
      | in-None w ↦ ap (map f) (ap (λ j. j.entries.items) w.joined-is ∙ w.new.ensures.items) ∙ ap (joined_docs f) (sym w.in-None.is)
    ] in
    joined_with f c.args.joined c.args.list c.match-joined.joined c.in_ok-with_entries.field-0 c.in-Some.list (map (entry_doc f) c.in_ok-new.new.items) docs c.in-Some.is
    (subst (λ xs. AreNew (map f xs) (map f c.in-Some.list.items) (map (entry_doc f) c.in_ok-new.new.items)) c.deref.ensures.value c.in_ok-new.ensures.new) c.in_ok-with_entries.ensures.entries

pub new_entries-requires-clause-plain : goal.new_entries-requires-clause-plain
new_entries-requires-clause-plain g c = list_plain g.T.Documented.doc c.args.list c.in-Some.list c.requires.plain c.in-Some.is
