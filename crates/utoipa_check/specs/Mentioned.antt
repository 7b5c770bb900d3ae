-- What is mentioned at the places inside a tree.
use Rattle.std.specs.Prelude.{List, [], ◌∷◌, ◌++◌}
use Rattle.serde_json.specs.Data.{Data}
use Rattle.utoipa_check.specs.Misfits.{Step}
use Rattle.utoipa_check.specs.Places.{Target, of_kind, any_flow, no_fraction, Place}
use Rattle.utoipa_check.specs.References.{Mentions, under, mentions}

-- what is mentioned, by what a tree is looked at as
abbrev pub target_mentions : Target → Data → Mentions
target_mentions (of_kind k) d = mentions k d
target_mentions any_flow d = []
target_mentions no_fraction d = []

-- a step, and what is mentioned behind it
abbrev pub Mentioned : Type 0
Mentioned = Step × Mentions

abbrev pub mentioned : Place → Mentioned
mentioned p = (p.step, target_mentions p.target p.tree)

abbrev pub all_mentioned : List Place → List Mentioned
all_mentioned [] = []
all_mentioned (p ∷ ps) = mentioned p ∷ all_mentioned ps

-- all that is mentioned behind some steps
abbrev pub joined : List Mentioned → Mentions
joined [] = []
joined (m ∷ ms) = under m.0 m.1 ++ joined ms
