use Rattle.std.proofs.Common.{map, subst, sym}
use Rattle.utoipa_merging.specs.Rules.{AreNew}
use Rattle.utoipa_merging_parts.specs.Lists.{ArePlain, entry_doc}
use Rattle.utoipa_merging_parts.proofs.Joining.{takes_none, takes_all, takes_new}
use Rattle.utoipa_merging_parts.proofs.PlainItems.{list_plain}
use Rattle.utoipa_merging_parts.proofs.lists.make_room.Goals as goal

pub returns-in_default-clause-merged : goal.returns-in_default-clause-merged
returns-in_default-clause-merged g c = λ taken. takes_none g.T.Documented.doc c.args.own.now c.args.later taken c.in_default.is

pub returns-in_default-own-clause-merged : goal.returns-in_default-own-clause-merged
returns-in_default-own-clause-merged g c = λ taken. takes_all g.T.Documented.doc c.args.own.now c.args.later taken c.in-Some.later c.in_default-own.is c.in-Some.is

pub returns-clause-merged : goal.returns-clause-merged
returns-clause-merged g c =
    let f = g.T.Documented.doc in
    let written = c.in_ok-new_entries.field-0.items in
    let are_new = subst (λ xs. AreNew (map f xs) (map f c.in-Some.later.items) (map (entry_doc f) written)) c.deref-2.ensures.value c.in_ok-new_entries.ensures.new in
    λ taken. takes_new f c.args.own.now c.args.later taken c.in-Some-own.own c.reserve.new.self c.in-Some.later c.in_ok-new.new written c.in-Some-own.is c.in_ok-reserve.ensures.items c.in-Some.is are_new c.in_ok-new.ensures

pub places_of-requires : goal.places_of-requires
places_of-requires g c = record { plain = subst (ArePlain g.T.Documented.doc) (sym c.deref.ensures.value) (list_plain g.T.Documented.doc c.args.own.now c.in-Some-own.own c.requires.plain c.in-Some-own.is) }

pub new_entries-requires-clause-earlier_plain : goal.new_entries-requires-clause-earlier_plain
new_entries-requires-clause-earlier_plain g c = subst (ArePlain g.T.Documented.doc) (sym c.deref-2.ensures.value) (list_plain g.T.Documented.doc c.args.own.now c.in-Some-own.own c.requires.plain c.in-Some-own.is)

pub new_entries-requires-clause-plain : goal.new_entries-requires-clause-plain
new_entries-requires-clause-plain g c = list_plain g.T.Documented.doc c.args.later c.in-Some.later c.requires.later_plain c.in-Some.is
