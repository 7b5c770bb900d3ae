-- What the values of the program stand for.
use Rattle.std.specs.Prelude.{ℕ, List, [], map}
use Rattle.utoipa_check.specs.DroppedViews.{loss_of}
use Rattle.utoipa_check.specs.Views.{cause_of, outwards}
use Rattle.utoipa_findings.specs.Findings as specs
use Rattle.utoipa_findings.specs.declared.finding.Finding.{Finding}
use Rattle.utoipa_findings.specs.declared.finding.What.{What}
use Rattle.utoipa_findings.specs.declared.finding.What.TheVariants.{Unfit, Doubtful, Lost, Dangles, Repeated}
use Rattle.utoipa_findings.specs.declared.source.Source.{Source}

abbrev pub what_of : What → specs.What
what_of (Unfit c) = specs.unfit (cause_of c)
what_of (Doubtful c) = specs.doubtful (cause_of c)
what_of (Lost l) = specs.lost (loss_of l)
what_of (Dangles text) = specs.dangles text.now
what_of Repeated = specs.repeated

abbrev pub finding_of : Finding → specs.Finding
finding_of f = (outwards f.pointer.steps.items [], what_of f.what)

abbrev pub all_findings : List Finding → List specs.Finding
all_findings fs = map finding_of fs

-- the names of files
abbrev pub names_of : List Source → List (List ℕ)
names_of ss = map (λ s. s.name.now) ss
