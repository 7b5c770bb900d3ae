use Rattle.utoipa_base.specs.Views.{shown_members}
use Rattle.utoipa_base.proofs.OrderedMaps.{EntriesPut}
use Rattle.utoipa_base.proofs.ordered_map.sorted_by_name.Given as goal

abbrev pub invariant-loop-key : goal.invariant-loop-key
invariant-loop-key g l = EntriesPut g.T.Documented.doc l.map.entries l.key-iterator (shown_members g.T.Documented.doc l.sorted.entries)
