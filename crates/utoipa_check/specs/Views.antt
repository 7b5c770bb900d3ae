-- What the values of the program stand for.
use Rattle.std.specs.Prelude.{ℕ, List, [], ◌∷◌, map, reverse, Bool, true, false, Option, Some, None}
use Rattle.serde_json.specs.View.{view}
use Rattle.utoipa_base.specs.Kinds as kinds
use Rattle.utoipa_base.specs.Rows.{texts}
use Rattle.utoipa_check.specs.Misfits as specs
use Rattle.utoipa_check.specs.Places as places
use Rattle.utoipa_check.specs.declared.choice.Choosing.{Choosing}
use Rattle.utoipa_check.specs.declared.choice.Choosing.TheVariants as choosings
use Rattle.utoipa_check.specs.declared.layout.Layout.{Layout}
use Rattle.utoipa_check.specs.declared.layout.Layout.TheVariants as layouts
use Rattle.utoipa_check.specs.declared.layout.Target.{Target}
use Rattle.utoipa_check.specs.declared.layout.Target.TheVariants as targets
use Rattle.utoipa_check.specs.declared.misfit.Cause.{Cause}
use Rattle.utoipa_check.specs.declared.misfit.Cause.TheVariants as causes
use Rattle.utoipa_check.specs.declared.misfit.Misfit.{Misfit}
use Rattle.utoipa_check.specs.declared.misfit.Outcome.{Outcome}
use Rattle.utoipa_check.specs.declared.misfit.Step.{Step}
use Rattle.utoipa_check.specs.declared.misfit.Step.TheVariants as steps
use Rattle.utoipa_check.specs.declared.task.Task.{Task}
use Rattle.utoipa_tables.specs.declared.kinds.Kind.{Kind}
use Rattle.utoipa_tables.specs.declared.kinds.Mark.{Mark}
use Rattle.utoipa_tables.specs.declared.kinds.Mark.TheVariants as marks
use Rattle.utoipa_tables.specs.Tables.{kind_of, kinds_of, members_of}

-- ---- misfits

abbrev pub step_of : Step → specs.Step
step_of (steps.Name s) = specs.at_name s.now
step_of (steps.Index i) = specs.at_index i

abbrev pub cause_of : Cause → specs.Cause
cause_of (causes.Absent s) = specs.absent s.now
cause_of (causes.Expected k) = specs.expected (kind_of k)
cause_of (causes.UnknownWord ws) = specs.unknown_word (texts ws.now)
cause_of (causes.NoAlternative ks) = specs.no_alternative (kinds_of ks.now)
cause_of (causes.UnknownName ns) = specs.unknown_name (texts ns.now)
cause_of causes.Fraction = specs.fraction

-- the steps, the last of which comes first, before others
abbrev pub outwards : List Step → List specs.Step → List specs.Step
outwards [] rest = rest
outwards (s ∷ ss) rest = outwards ss (step_of s ∷ rest)

abbrev pub misfit_of : Misfit → specs.Misfit
misfit_of m = (outwards m.pointer.steps.items [], cause_of m.cause)

abbrev pub misfits_of : List Misfit → specs.Misfits
misfits_of [] = []
misfits_of (m ∷ ms) = misfit_of m ∷ misfits_of ms

-- ---- kinds

abbrev pub is_reference : kinds.Kind → Bool
is_reference (kinds.ref_or k) = true
is_reference k = false

-- the kind without references
abbrev pub own_kind : kinds.Kind → kinds.Kind
own_kind (kinds.ref_or k) = own_kind k
own_kind k = k

-- whether an object of the kind may be a reference
abbrev pub takes_references : kinds.Kind → Bool
takes_references (kinds.ref_or k) = true
takes_references kinds.array_items = true
takes_references kinds.additional_properties = true
takes_references k = false

-- the kind of an object that is no reference
abbrev pub object_kind : kinds.Kind → kinds.Kind
object_kind (kinds.ref_or k) = object_kind k
object_kind kinds.array_items = kinds.schema
object_kind kinds.additional_properties = kinds.schema
object_kind k = k

abbrev pub some_kind : Kind → Option kinds.Kind
some_kind k = Some (kind_of k)

-- a kind whose trees have no parts that are looked at, and of which any tree of its sort fits
abbrev pub is_plain_kind : kinds.Kind → Bool
is_plain_kind kinds.text = true
is_plain_kind kinds.flag = true
is_plain_kind kinds.any = true
is_plain_kind k = false

-- ---- rows

-- whether what a member holds has to fit, by the mark of its row and by whether it is null
abbrev pub has_to_fit : Mark → Bool → Bool
has_to_fit marks.Required null = true
has_to_fit marks.Optional true = false
has_to_fit marks.Optional false = true
has_to_fit marks.OrNull true = false
has_to_fit marks.OrNull false = true
has_to_fit marks.Defaulted null = true
has_to_fit marks.NotKept null = false

abbrev pub is_required : Mark → Bool
is_required marks.Required = true
is_required marks.Optional = false
is_required marks.OrNull = false
is_required marks.Defaulted = false
is_required marks.NotKept = false

-- whether a member is kept, by the mark of its row
abbrev pub is_kept : Mark → Bool
is_kept marks.Required = true
is_kept marks.Optional = true
is_kept marks.OrNull = true
is_kept marks.Defaulted = true
is_kept marks.NotKept = false

-- ---- choices

-- what the word of a member has chosen, or the misfits of that member
abbrev pub after_choice : (kinds.Kind → specs.Misfits) → Choosing → specs.Misfits
after_choice f (choosings.Of k) = f (kind_of k)
after_choice f (choosings.Nothing v) = misfits_of v.items

abbrev pub chosen_kind : Choosing → Option kinds.Kind
chosen_kind (choosings.Of k) = Some (kind_of k)
chosen_kind (choosings.Nothing v) = None

-- ---- places

abbrev pub target_of : Target → places.Target
target_of (targets.Document k) = places.of_kind (kind_of k)
target_of targets.AnyFlow = places.any_flow
target_of targets.NoFraction = places.no_fraction

abbrev pub some_target : Option Target → Option places.Target
some_target None = None
some_target (Some t) = Some (target_of t)

abbrev pub layout_of : Layout → places.Layout
layout_of layouts.Nothing = places.nothing
layout_of (layouts.EachMember t) = places.each_member (target_of t)
layout_of (layouts.EachEntry t) = places.each_entry (target_of t)
layout_of layouts.EachFlow = places.each_flow
layout_of (layouts.SomeMembers rs) = places.some_members (members_of rs.now)

-- ---- the walk

abbrev pub outcome_of : Outcome → places.Outcome
outcome_of o = (step_of o.step, misfits_of o.misfits.items)

-- outcomes, the last one first
abbrev pub stacked : List Outcome → List places.Outcome
stacked os = reverse (map outcome_of os)

abbrev pub place_of : Task → places.Place
place_of t = places.place (step_of t.step) (target_of t.target) (view t.tree.now)

abbrev pub task_by : places.Place → Option ℕ → places.Task
task_by p None = places.visit p
task_by p (Some n) = places.join p n

abbrev pub task_of : Task → places.Task
task_of t = task_by (place_of t) t.below

abbrev pub tasks_of : List Task → List places.Task
tasks_of ts = map task_of ts
