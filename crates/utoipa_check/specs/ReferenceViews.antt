-- What the values of the program stand for.
use Rattle.std.specs.Prelude.{List, [], ◌∷◌, map, reverse, Bool, true, false, if◌then◌else◌}
use Rattle.serde_json.specs.Data.{Data}
use Rattle.utoipa_check.specs.Mentioned as places
use Rattle.utoipa_check.specs.Places.{members_at}
use Rattle.utoipa_check.specs.References as references
use Rattle.utoipa_check.specs.Referring as specs
use Rattle.utoipa_check.specs.Views.{step_of, outwards, is_kept}
use Rattle.utoipa_check.specs.declared.mention.Mention.{Mention}
use Rattle.utoipa_check.specs.declared.mention.Mentioned.{Mentioned}
use Rattle.utoipa_check.specs.declared.references.Reference.{Reference}
use Rattle.utoipa_check.specs.declared.referring.State.{State}
use Rattle.utoipa_check.specs.declared.referring.State.TheVariants as states
use Rattle.utoipa_check.specs.declared.referring.Way.{Way}
use Rattle.utoipa_check.specs.declared.referring.Way.TheVariants as ways
use Rattle.utoipa_tables.specs.Tables.{kind_of}
use Rattle.utoipa_tables.specs.declared.kinds.Row.{Row}

abbrev pub state_of : State → specs.State
state_of states.Dangling = specs.dangling
state_of states.Resolved = specs.resolved
state_of states.External = specs.external

abbrev pub way_of : Way → specs.Way
way_of ways.Reference = specs.by_reference
way_of ways.Mapping = specs.by_mapping
way_of ways.Requirement = specs.by_requirement

abbrev pub mention_of : Mention → references.Mention
mention_of m = (outwards m.pointer.steps.items [], (way_of m.way, m.text.now))

abbrev pub mentions_of : List Mention → references.Mentions
mentions_of [] = []
mentions_of (m ∷ ms) = mention_of m ∷ mentions_of ms

abbrev pub mentioned_of : Mentioned → places.Mentioned
mentioned_of m = (step_of m.step, mentions_of m.mentions.items)

-- what was mentioned, the last of it first
abbrev pub stacked_mentioned : List Mentioned → List places.Mentioned
stacked_mentioned ms = reverse (map mentioned_of ms)

abbrev pub reference_of : Reference → references.Reference
reference_of r = ((outwards r.pointer.steps.items [], (way_of r.way, r.text.now)), state_of r.state)

abbrev pub references_of : List Reference → List references.Reference
references_of [] = []
references_of (r ∷ rs) = reference_of r ∷ references_of rs

-- ---- rows

-- what is mentioned by one row of the program
abbrev pub row_mentions_at : Row → Data → references.Mentions
row_mentions_at r d = if is_kept r.mark then references.row_mentions r.name.now (kind_of r.kind) (references.mentioner_at r.name.now (references.mentioners (members_at d))) else []
