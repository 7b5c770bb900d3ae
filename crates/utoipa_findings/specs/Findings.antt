-- What is found in a tree that is to be a document of a kind.
use Rattle.std.specs.Prelude.{ℕ, List, [], ◌∷◌, ◌++◌, map, if◌then◌else◌, Option, None, Some}
use Rattle.std.specs.List.{flat_map}
use Rattle.json.specs.Json.{document}
use Rattle.serde_json.specs.Data.{Data}
use Rattle.serde_json.specs.Written.{has_float}
use Rattle.utoipa_base.specs.Kinds.{Kind}
use Rattle.utoipa_check.specs.Doubts.{doubts}
use Rattle.utoipa_check.specs.Dropped.{Loss, Dropped, dropped_by}
use Rattle.utoipa_check.specs.Misfits.{Step, Cause, Misfit, without_fractions, misfits_and_fractions}
use Rattle.utoipa_check.specs.References.{Reference, references}
use Rattle.utoipa_check.specs.Referring.{State, dangling, resolved, external}
use Rattle.utoipa_duplicates.specs.Duplicates.{places_in}

-- what is found at a place
pub data What : Type 0 where
  -- the tree there does not fit
  unfit : Cause → What
  -- the tree there does not fit what was meant, and is read as something else
  doubtful : Cause → What
  -- what has become of the tree there in its document, written again
  lost : Loss → What
  -- the text there is a reference that leads to nothing
  dangles : List ℕ → What
  -- the name there stands again in its object, so the member that had it before is lost
  repeated : What

-- a place, and what is found there
abbrev pub Finding : Type 0
Finding = List Step × What

abbrev pub unfit_at : Misfit → Finding
unfit_at m = (m.0, unfit m.1)

abbrev pub doubtful_at : Misfit → Finding
doubtful_at m = (m.0, doubtful m.1)

abbrev pub lost_at : Dropped → Finding
lost_at p = (p.0, lost p.1)

abbrev pub repeated_at : List Step → Finding
repeated_at p = (p, repeated)

abbrev pub if_dangling : State → Finding → List Finding
if_dangling dangling f = f ∷ []
if_dangling resolved f = []
if_dangling external f = []

-- a reference, if it leads to nothing in the tree
abbrev pub dangles_at : Reference → List Finding
dangles_at r = if_dangling r.1 (r.0.0, dangles r.0.1.1)

abbrev pub or_none : Option (List Dropped) → List Dropped
or_none None = []
or_none (Some ps) = ps

-- what is dropped of a tree that is read and written again: nothing of a tree that is not read
abbrev pub dropped_where_read : Kind → Data → List Dropped
dropped_where_read k t = if has_float t then [] else or_none (dropped_by k t)

-- why a tree is no document of a kind
abbrev pub refusals : Kind → Data → List Finding
refusals k t = map unfit_at (misfits_and_fractions k t)

-- what is read otherwise than it was meant. A fraction is told where the tree does not fit, and not once more.
abbrev pub meant_otherwise : Kind → Data → List Finding
meant_otherwise k t = map doubtful_at (without_fractions (doubts k t))

-- What is found in a tree: what does not fit, what is read otherwise than it was meant, what is dropped, and the references that lead to
-- nothing. Each in the order of the member tables, but what is dropped in that of the tree.
abbrev pub findings : Kind → Data → List Finding
findings k t = ((refusals k t ++ meant_otherwise k t) ++ map lost_at (dropped_where_read k t)) ++ flat_map dangles_at (references k t)

-- ---- what is lost

-- what a document loses of its tree when it is written again: what is read otherwise than it was meant, and what is dropped
abbrev pub losses : Kind → Data → List Finding
losses k t = meant_otherwise k t ++ map lost_at (dropped_where_read k t)

-- The names of a text that stand again in their objects (RFC 8259, section 4), in the order of the text. A tree keeps the last member of a name.
abbrev pub repeated_names : (text : List ℕ) → List Finding
repeated_names text = map repeated_at (places_in (document text))

-- ---- a text with its tree

-- all that is found in a text that has this tree
abbrev pub text_findings : Kind → (text : List ℕ) → Data → List Finding
text_findings k text t = repeated_names text ++ findings k t

-- what is lost of a text that has this tree, when its document is written again
abbrev pub text_losses : Kind → (text : List ℕ) → Data → List Finding
text_losses k text t = repeated_names text ++ losses k t
