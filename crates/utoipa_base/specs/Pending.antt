-- The extensions of an object that are still to be printed.
use Rattle.std.specs.Prelude.{Option, Some, None, string_bytes}
use Rattle.serde_json.specs.Data.{Members, no_members, member}
use Rattle.serde_json.specs.View.{view, members_view}
use Rattle.utoipa_base.specs.declared.pending.NextExtension.{NextExtension}
use Rattle.utoipa_base.specs.declared.pending.PendingExtensions.{PendingExtensions}

abbrev pub next_view : Option NextExtension → Members
next_view None = no_members
next_view (Some n) = member (string_bytes n.name.now) (view n.value.now) (members_view n.later)

-- as members
abbrev pub pending_view : PendingExtensions → Members
pending_view p = next_view p.next
