use Rattle.std.proofs.Common.{length, ◌-◌}
use Rattle.utoipa_base.specs.Rows.{texts}
use Rattle.utoipa_large_objects.proofs.MembersRead.{ReadSoFar}
use Rattle.utoipa_large_objects.proofs.members.members_from_tokens.Given as goal

abbrev pub invariant-members : goal.invariant-members
invariant-members g l = ReadSoFar (g.R.RowFields.rows (texts l.names)) (l.depth - 1) l.initial.reader l.reader (g.S.OpenFields.held l.so_far) l.others.entries l.initial.readings l.readings

abbrev pub decreases-members : goal.decreases-members
decreases-members g l = length l.reader
